-- What a loop that counts records leans on. Assumes nothing.
use Prim.Native.Nat.{ℕ, ◌+◌, ◌≤◌}
use mathlib.Core.Path.{◌≡◌, refl, ap, ◌∙◌}
use mathlib.Core.Bool.{Bool, true, false}
use mathlib.Core.List.{List}
use native.Mathlib.Numerals.{add-one}
use native.Mathlib.Omega.{arith}
use Rattle.records.specs.Record.{count, word, once, hit_at, tally_of}

at_most_one : (b : Bool) → once b ≤ 1
unfolding once
at_most_one true = omega arith
at_most_one false = omega arith

-- s is the tally of the first k records
pub record Counted (is : ℕ → ℕ → ℕ → Bool) (at : ℕ) (ws : List ℕ) (k s : ℕ) : Type 0 where
  pub few : s ≤ k
  pub so_far : s ≡ tally_of is at ws k

pub none : (is : ℕ → ℕ → ℕ → Bool) (at : ℕ) (ws : List ℕ) → Counted is at ws 0 0
unfolding tally_of
none is at ws = record { few = omega arith; so_far = refl }

-- one record more
pub more : {is : ℕ → ℕ → ℕ → Bool} {at : ℕ} {ws : List ℕ} {k s r : ℕ} → Counted is at ws k s → r ≡ hit_at is at ws k → Counted is at ws (k + 1) (s + r)
unfolding tally_of
more {is} {at} {ws} {k} {s} {r} h e =
    let l = at_most_one (is (word ws k 0) (word ws k at) (word ws k (at + 1))) in
    record { few = omega (arith, h.few); so_far = rw (add-one k, h.so_far, e) }

pub room : {is : ℕ → ℕ → ℕ → Bool} {at : ℕ} {ws : List ℕ} {k s r : ℕ} → Counted is at ws k s → r ≡ hit_at is at ws k → s + r ≤ k + 1
room h e = (more h e).few

-- all records are counted
pub all : {is : ℕ → ℕ → ℕ → Bool} {at : ℕ} {ws : List ℕ} {k s : ℕ} → k ≤ count ws → count ws ≤ k → Counted is at ws k s → s ≡ tally_of is at ws (count ws)
all {is} {at} {ws} {k} l g h =
    let e : k ≡ count ws = omega arith in
    h.so_far ∙ ap (tally_of is at ws) e
