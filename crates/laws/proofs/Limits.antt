-- A sum is no smaller than a part of it. Assumes nothing.
use Rattle.std.specs.Prelude.{zero, suc, T, Float}
use Rattle.std.proofs.Common.{subst}
use Rattle.std.specs.Float.{nan, inf, fin, binary32}
use Rattle.std.specs.Float.Ieee.{round, fits, add}
use Rattle.laws.specs.Binary32.{◌⊕◌, whole}
use Rattle.laws.proofs.Own.{add_zero_own}
use Rattle.laws.specs.NotFinite.{unsigned}
use Rattle.laws.specs.Limits.{Held, Small, plus, nothing, zero_held}

-- ---- a sum is no smaller than a part of it
without_zero : (b x : Float) → T (fits binary32 x) → Held b (x ⊕ whole 0) → Held b x
unfolding round
without_zero b nan f h = unfold add in h
without_zero b (inf s) f h = unfold add in h
without_zero b (fin s zero e) f h = zero_held b (fin s zero e ⊕ whole 0) s e h
without_zero b (fin s (suc m) e) f h = subst (Held b) (add_zero_own binary32 (fin s (suc m) e) (whole 0) tt tt f) h

pub more : {a x : Float} (h : Float) → T (fits binary32 x) → T (unsigned h) → Small a x → Small (a ⊕ h) x
more {a} {x} h f u l = record { held = without_zero (a ⊕ h) x f (plus l (nothing h u)).held }
