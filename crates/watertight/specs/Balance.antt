-- What a chain of lines leaves of the difference between starts and ends, and that lines and their records count the same. Assumes nothing.
use Rattle.std.specs.Prelude.{ℕ, suc, ◌+◌, ◌≡◌, refl, Bool, false, List, [], ◌∷◌, ◌++◌, length, drop}
use Rattle.std.proofs.Common.{sym, ap, ◌∙◌, zero-add, arith}
use Rattle.records.specs.Record.{place_of, word, once, tally_of}
use Rattle.records.specs.RecordLaws.{tally_behind}
use Rattle.spiral.specs.declared.util.Vec2.{Vec2}
use Rattle.drawing.specs.Sheet.{Event, line, no_count, no_join, record_of}
use Rattle.drawing.specs.Stands.{records_of}
use Rattle.curve.specs.Chain.{Chain}
use Rattle.watertight.specs.Count.{starts_by, ends_by, one_where}

-- no stop among them
unfoldable pub AllLines : List Event → Type 0
AllLines [] = Unit {0}
AllLines (line p q ∷ es) = AllLines es
AllLines (no_count ∷ es) = ⊥
AllLines (no_join ∷ es) = ⊥

-- a chain from a to b: each point is a start as often as an end, but that a is once more a start and b once more an end
pub open_ends : (f : Vec2 → ℕ) (a b : Vec2) (es : List Event) → AllLines es → Chain false a b es → starts_by f es + f b ≡ ends_by f es + f a
unfolding starts_by ends_by AllLines Chain
open_ends f a b [] l h = ap (λ (p : Vec2). 0 + f p) (sym h)
open_ends f a b (line p q ∷ es) l h =
    let k = open_ends f q b es l h.1 in
    let e : f p ≡ f a = ap f h.0 in
    omega arith
open_ends f a b (no_count ∷ es) l h = absurd l
open_ends f a b (no_join ∷ es) l h = absurd l

-- the first record, and then those behind it
first_and : (is : ℕ → ℕ → ℕ → Bool) (at n : ℕ) (ws : List ℕ)
    → tally_of is at ws (suc n) ≡ once (is (word ws 0 0) (word ws 0 at) (word ws 0 (at + 1))) + tally_of is at (drop (place_of 1) ws) n
unfolding tally_of
first_and is at n ws = ap (tally_of is at ws) sum ∙ tally_behind is at ws 1 n ∙ ap (λ (t : ℕ). t + tally_of is at (drop (place_of 1) ws) n) (zero-add _)
  where
    sum : suc n ≡ 1 + n
    sum = omega arith

-- lines and their records
pub in_records : (is : ℕ → ℕ → ℕ → Bool) (path tag : ℕ) (es : List Event) (ws : List ℕ) → AllLines es
    → (tally_of is 2 (records_of path tag (length es) es ++ ws) (length es) ≡ starts_by (one_where is path) es)
    × (tally_of is 4 (records_of path tag (length es) es ++ ws) (length es) ≡ ends_by (one_where is path) es)
unfolding tally_of records_of starts_by ends_by AllLines
in_records is path tag [] ws l = (refl, refl)
in_records is path tag (line p q ∷ es) ws l =
    let h = in_records is path tag es ws l in
    let all = record_of path tag p q ++ records_of path tag (length es) es ++ ws in (
      first_and is 2 (length es) all ∙ ap (λ (n : ℕ). one_where is path p + n) h.0,
      first_and is 4 (length es) all ∙ ap (λ (n : ℕ). one_where is path q + n) h.1,
    )
in_records is path tag (no_count ∷ es) ws l = absurd l
in_records is path tag (no_join ∷ es) ws l = absurd l

pub starts_append : (f : Vec2 → ℕ) (xs ys : List Event) → starts_by f (xs ++ ys) ≡ starts_by f xs + starts_by f ys
unfolding starts_by
starts_append f [] ys = omega arith
starts_append f (line p q ∷ xs) ys = omega (arith, starts_append f xs ys)
starts_append f (no_count ∷ xs) ys = starts_append f xs ys
starts_append f (no_join ∷ xs) ys = starts_append f xs ys

pub ends_append : (f : Vec2 → ℕ) (xs ys : List Event) → ends_by f (xs ++ ys) ≡ ends_by f xs + ends_by f ys
unfolding ends_by
ends_append f [] ys = omega arith
ends_append f (line p q ∷ xs) ys = omega (arith, ends_append f xs ys)
ends_append f (no_count ∷ xs) ys = ends_append f xs ys
ends_append f (no_join ∷ xs) ys = ends_append f xs ys
