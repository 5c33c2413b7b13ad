-- What is below a finite number is below infinity. Assumes nothing.
use mathlib.Core.Path.{◌≡◌, refl}
use mathlib.Core.Bool.{true, false}
use Prim.Native.Nat.{ℕ}
use lib.IntN.{ℤ}
use lib.Ieee.{Float, nan, inf, fin, lt}

pub below : (a : Float) (m : ℕ) (e : ℤ) → lt a (fin false m e) ≡ true → lt a (inf false) ≡ true
unfolding lt
below nan m e h = h
below (inf true) m e h = refl
below (inf false) m e h = h
below (fin s n d) m e h = refl
