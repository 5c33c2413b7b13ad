-- No second answer satisfies the contract of a public function. Assumes nothing.
use Rattle.std.specs.Prelude.{◌≡◌, ℕ, ◌≤◌, Bool, true, false, cond, List, ◌==◌, nat_le, length, refl, Float, Ok, Err}
use Rattle.std.proofs.Common.{sym, ◌∙◌, ap, arith}
use Rattle.std.proofs.Math.Path.{subst}
use Rattle.laws.specs.Only.{Only, determined}
use Rattle.refusals.specs.Refusals.{number_of, end_of, Read}
use Rattle.refusals.specs.Laws.{named, number_names, number_some}
use Rattle.refusals.specs.declared.Refusal.{Refusal}
use Rattle.refusals.specs.declared.Refusal.TheVariants.{BadBase}
use Rattle.scene.specs.Words.{word_at}
use Rattle.scene.specs.Tags.{plus, word_sums, tag_of, Scan, scan_told, filled, scan_of}
use Rattle.std.specs.Float.Ieee.Scale.{finite}
use Rattle.scene.specs.Reading.{i16_of, segment_of, transform_of, all_finite, flags_of, width_of}
use Rattle.scene.specs.declared.tags.PathMonoid.{PathMonoid}

pub word_at_only : (words : List ℕ) (at : ℕ) → Only (λ r. r ≡ word_at words at)
word_at_only words at = determined (word_at words at)

pub new_only : (tag_word : ℕ) → Only (λ r. r ≡ word_sums tag_word)
new_only tag_word = determined (word_sums tag_word)

pub combine_only : (a b : PathMonoid) → Only (λ r. r ≡ plus a b)
combine_only a b = determined (plus a b)

pub compute_tag_monoid_only : (scene : List ℕ) (base : ℕ) (lent : List ℕ) (ix : ℕ) → Only (λ r. r ≡ tag_of scene base lent ix)
compute_tag_monoid_only scene base lent ix = determined (tag_of scene base lent ix)

pub i16_of_only : (half : ℕ) → Only (λ r. r ≡ i16_of half)
i16_of_only half = determined (i16_of half)

pub read_path_segment_only : (tag : ℕ) (stroke : Bool) (offset : ℕ) (scene : List ℕ) (base : ℕ) → Only (λ r. r ≡ segment_of tag stroke offset scene base)
read_path_segment_only tag stroke offset scene base = determined (segment_of tag stroke offset scene base)

pub read_transform_only : (scene : List ℕ) (base ix : ℕ) → Only (λ r. r ≡ transform_of scene base ix)
read_transform_only scene base ix = determined (transform_of scene base ix)

pub is_finite_only : (x : Float) → Only (λ r. r ≡ finite x)
is_finite_only x = determined (finite x)

pub all_finite_only : (z : List Float) → Only (λ r. r ≡ all_finite z)
all_finite_only z = determined (all_finite z)

pub style_flags_only : (scene : List ℕ) (base ix : ℕ) → Only (λ r. r ≡ flags_of scene base ix)
style_flags_only scene base ix = determined (flags_of scene base ix)

pub line_width_only : (scene : List ℕ) (base ix : ℕ) → Only (λ r. r ≡ width_of scene base ix)
line_width_only scene base ix = determined (width_of scene base ix)

-- an answer of the scan, from its number and values
answer : Scan → Read ℕ × List ℕ
answer s = (cond (s.number == 0) (Ok s.count) (Err BadBase), s.words)

bad_base : (why : Refusal) → number_of why ≤ 1 → BadBase ≡ why
unfolding named
bad_base why h =
    let z : (number_of why ≡ 0 → ⊥) = number_some why in
    let one : number_of why ≡ 1 = omega (arith, z) in
    sym (ap (λ (n : ℕ). named n (end_of why)) one) ∙ number_names why

back : (r : Read ℕ) (ws : List ℕ) → (scan_told r ws).number ≤ 1 → answer (scan_told r ws) ≡ (r, ws)
unfolding answer scan_told number_of
back (Ok n) ws h = refl
back (Err why) ws h = subst (λ (w : Refusal). answer (scan_told (Err w) ws) ≡ (Err w, ws)) (bad_base why h) refl

its_number : (scene : List ℕ) (base : ℕ) (lent : List ℕ) → (scan_of scene base lent).number ≤ 1
unfolding scan_of filled number_of
its_number scene base lent = go (nat_le base (length scene)) _ _ _
  where
    go : (b : Bool) (n : ℕ) (ws us : List ℕ)
        → (let s : Scan = cond b (record { number = 0; count = n; words = ws }) (record { number = 1; count = 0; words = us }) in s.number ≤ 1)
    go true n ws us = omega arith
    go false n ws us = omega arith

pub scan_only : (scene : List ℕ) (base : ℕ) (lent : List ℕ)
    → Only (λ (x : Read ℕ × List ℕ). scan_told x.0 x.1 ≡ scan_of scene base lent)
scan_only scene base lent x y p q = sym (back x.0 x.1 (small x p)) ∙ ap answer (p ∙ sym q) ∙ back y.0 y.1 (small y q)
  where
    small : (x : Read ℕ × List ℕ) → scan_told x.0 x.1 ≡ scan_of scene base lent → (scan_told x.0 x.1).number ≤ 1
    small x p = subst (λ (s : Scan). s.number ≤ 1) (sym p) (its_number scene base lent)
