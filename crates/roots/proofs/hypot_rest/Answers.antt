-- `roots::hypot_rest` meets its contract, by the patterns of x and y. Assumes nothing.
use Rattle.std.proofs.Common.{◌≡◌, ℕ, ◌+◌, ◌*◌, ◌%◌, ◌^◌, ◌<◌, ◌≤◌, not, T, sym, ap, ◌∙◌, subst, inl, inr, lt_of_not-le, add_comm, arith}
use native.Mathlib.Decide.{dec_lt}
use Prim.Native.Nat.{max, min}
use lib.Ieee.{Float, binary32, of_bits, fits, to_bits, nan_bits}
use Rattle.roots.specs.Root.{hypot_of}
use Rattle.roots.specs.Parts.{mag_bits, root_bits, Sorted}
use Rattle.roots.specs.Rules.{hypot_infinity, hypot_infinity_2, hypot_nan, hypot_nan_2}
use Rattle.roots.proofs.Patterns.{infinite_at, nan_at, no_infinity, pair_of, no_nan_pattern, plus_inf}
use Rattle.roots.proofs.Sums.{both}
use Rattle.roots.proofs.hypot_rest.Goals as goal

root_no_nan : (k a n : ℕ) → root_bits k a n → T (not (nan_bits binary32 n))
root_no_nan k a n h = let z = h.number in no_nan_pattern n (omega arith)

finite : (x y : Float) (a b r : ℕ) → T (fits binary32 x) → T (fits binary32 y) → a ≡ to_bits binary32 x % 2 ^ 31 → b ≡ to_bits binary32 y % 2 ^ 31 → a < 0x7f80_0000 → b < 0x7f80_0000
    → root_bits 2 (mag_bits a * mag_bits a + mag_bits b * mag_bits b) r → of_bits binary32 r ≡ hypot_of x y
finite x y a b r F G p q A B R =
    pair_of x y r F G (subst (λ (n : ℕ). n < 0x7f80_0000) p A) (subst (λ (n : ℕ). n < 0x7f80_0000) q B)
    (subst (λ (n : ℕ). root_bits 2 (both (mag_bits n) (mag_bits (to_bits binary32 y % 2 ^ 31))) r) p (subst (λ (n : ℕ). root_bits 2 (both (mag_bits a) (mag_bits n)) r) q R))

-- of the two patterns, whichever way they went
both_lt : (a b h l : ℕ) → Sorted a b h l → h < 0x7f80_0000 → (a < 0x7f80_0000) × (b < 0x7f80_0000)
both_lt a b h l S k = elim S.is [
  | inl (e, f) ↦ (let o = S.order in omega arith)
  | inr (e, f) ↦ (let o = S.order in omega arith)
]

last : (a b h l : ℕ) → Sorted a b h l → 0x7f80_0000 ≤ h → a ≤ 0x7f80_0000 → (a ≡ 0x7f80_0000 → ⊥) → (b ≡ 0x7f80_0000 → ⊥) → 0x7f80_0000 < b
last a b h l S k n p q = elim S.is [
  | inl (e, f) ↦ (let o = S.order in omega arith)
  | inr (e, f) ↦ (let o = S.order in omega arith)
]

either_way : (a b h l r : ℕ) → Sorted a b h l → root_bits 2 (mag_bits h * mag_bits h + mag_bits l * mag_bits l) r → root_bits 2 (mag_bits a * mag_bits a + mag_bits b * mag_bits b) r
either_way a b h l r S R = elim S.is [
  | inl (e, f) ↦ subst (λ (n : ℕ). root_bits 2 (mag_bits a * mag_bits a + mag_bits n * mag_bits n) r) f (subst (λ (n : ℕ). root_bits 2 (mag_bits n * mag_bits n + mag_bits l * mag_bits l) r) e R)
  | inr (e, f) ↦ subst (λ (n : ℕ). root_bits 2 n r) (add_comm (mag_bits b * mag_bits b) (mag_bits a * mag_bits a)) (subst (λ (n : ℕ). root_bits 2 (mag_bits b * mag_bits b + mag_bits n * mag_bits n) r) f (subst (λ (n : ℕ). root_bits 2 (mag_bits n * mag_bits n + mag_bits l * mag_bits l) r) e R))
]

sorts : (a b h l : ℕ) → h ≡ max a b → l ≡ min a b → Sorted a b h l
sorts a b h l p q = elim (dec_lt a b) [
  | yes k ↦ record { order = omega arith; is = inr (omega arith, omega arith) }
  | no k ↦ (let g = lt_of_not-le k in record { order = omega arith; is = inl (omega arith, omega arith) })
]

pub float_from_bits-result : goal.float_from_bits-result
float_from_bits-result c = root_no_nan _ _ _ c.hypot_bits.ensures

pub returns-then-h-lt2139095040 : goal.returns-then-h-lt2139095040
returns-then-h-lt2139095040 c =
    let p = c.pattern-a in
    let q = c.pattern-b in
    let S = sorts _ _ _ _ c.max-h.ensures c.min-l.ensures in
    let l = both_lt _ _ _ _ S c.if-h-lt2139095040.true in
    finite _ _ p.result q.result _ (subst T (sym c.well_formed.0.1) tt) (subst T (sym c.well_formed.1.0.1) tt) p.ensures q.ensures l.0 l.1 (either_way _ _ _ _ _ S c.hypot_bits.ensures)

pub returns-then-a-eq2139095040 : goal.returns-then-a-eq2139095040
returns-then-a-eq2139095040 c = elim c.then-a-eq2139095040.either [
  | inl e ↦ plus_inf ∙ sym (ap (λ (v : Float). hypot_of v c.args.y) (infinite_at _ (subst T (sym c.well_formed.0.1) tt) (sym c.pattern-a.ensures ∙ e)) ∙ hypot_infinity _ c.args.y)
  | inr e ↦ plus_inf ∙ sym (ap (λ (v : Float). hypot_of c.args.x v) (infinite_at _ (subst T (sym c.well_formed.1.0.1) tt) (sym c.pattern-b.ensures ∙ e.1)) ∙ hypot_infinity_2 c.args.x _)
]

pub returns-then-a-gt2139095040 : goal.returns-then-a-gt2139095040
returns-then-a-gt2139095040 c =
    let z = nan_at _ (subst T (sym c.well_formed.0.1) tt) (subst (λ (n : ℕ). 0x7f80_0000 < n) c.pattern-a.ensures c.if-a-gt2139095040.true) in
    z ∙ sym (ap (λ (v : Float). hypot_of v c.args.y) z ∙ hypot_nan c.args.y (no_infinity _ (λ e. c.if-b-eq2139095040.false (c.pattern-b.ensures ∙ e))))

pub returns-else-a-gt2139095040 : goal.returns-else-a-gt2139095040
returns-else-a-gt2139095040 c =
    let h = last _ _ _ _ (sorts _ _ _ _ c.max-h.ensures c.min-l.ensures) c.if-h-lt2139095040.false c.if-a-gt2139095040.false c.if-a-eq2139095040.false c.if-b-eq2139095040.false in
    let z = nan_at _ (subst T (sym c.well_formed.1.0.1) tt) (subst (λ (n : ℕ). 0x7f80_0000 < n) c.pattern-b.ensures h) in
    z ∙ sym (ap (λ (v : Float). hypot_of c.args.x v) z ∙ hypot_nan_2 c.args.x (no_infinity _ (λ e. c.if-a-eq2139095040.false (c.pattern-a.ensures ∙ e))))
