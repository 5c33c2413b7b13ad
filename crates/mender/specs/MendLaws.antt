-- The appended line closes the gap and touches no other path. Assumes nothing.
use Prim.Native.Nat.{ℕ, zero, suc, ◌+◌, ◌*◌, ◌%◌, ◌≤◌, ◌<◌}
use Rattle.std.specs.Prelude.{◌≡◌, ◌⊎◌, Bool, true, false, ◌&&◌, cond, List, ◌++◌, eqb, length, get_or}
use Rattle.std.proofs.Math.Path.{refl, ap}
use Rattle.std.proofs.Common.{sym, ◌∙◌, inl, inr, length-append, get_or-append-add, eqb-true, ne_eqb, eq-eqb}
use native.Mathlib.Omega.{arith}
use Rattle.std.proofs.Math.ListN.{get_or-append}
use Rattle.std.proofs.lemmas.Bool.{eqb-false}
use Rattle.records.specs.Record.{count, word, key, once, is_point, tally_of, starts, ends}
use Rattle.checker.specs.Laws.{Found, counted}
use Rattle.mender.specs.Mend.{BalancedIn, Gap, line_of}

module _ (ws ls : List ℕ) (whole : length ws % 6 ≡ 0) where
  pub inside : (k i : ℕ) → k < count ws → i < 6 → word (ws ++ ls) k i ≡ word ws k i
  inside k i h l = get_or-append ws ls 0 (k * 6 + i) (omega arith)

  pub behind : (i : ℕ) → word (ws ++ ls) (count ws) i ≡ get_or ls i 0
  behind i =
      let e : count ws * 6 + i ≡ length ws + i = omega arith in
      ap (λ (k : ℕ). get_or (ws ++ ls) k 0) e ∙ get_or-append-add ws ls i 0

  -- the records of the list are counted as before
  kept : (at p x y n : ℕ) → at < 5 → n ≤ count ws → tally_of (is_point p x y) at (ws ++ ls) n ≡ tally_of (is_point p x y) at ws n
  unfolding tally_of
  kept at p x y zero h l = refl
  kept at p x y (suc n) h l =
      let k : n < count ws = omega arith in
      let k0 = inside n 0 k (omega arith) in
      let k1 = inside n at k (omega arith) in
      let k2 = inside n (at + 1) k (omega arith) in
      let r = kept at p x y n h (omega arith) in
      rw (r, k0, k1, k2)

  pub one_more_lem : length ls ≡ 6 → count (ws ++ ls) ≡ suc (count ws)
  one_more_lem h = let e = length-append ws ls in omega arith

  -- and the appended record adds to them
  grown : (at p x y : ℕ) → at < 5 → length ls ≡ 6
      → tally_of (is_point p x y) at (ws ++ ls) (count (ws ++ ls)) ≡ tally_of (is_point p x y) at ws (count ws) + once (is_point p x y (get_or ls 0 0) (get_or ls at 0) (get_or ls (at + 1) 0))
  unfolding tally_of
  grown at p x y h l =
      let r = kept at p x y (count ws) h (omega arith) in
      ap (λ (n : ℕ). tally_of (is_point p x y) at (ws ++ ls) n) (one_more_lem l) ∙ rw (r, behind 0, behind at, behind (at + 1))

-- ---- the line between the points of the gap

-- 1 where the point of keys a and b is that of keys x and y, else 0
same : ℕ → ℕ → ℕ → ℕ → ℕ
same x y a b = once (eqb x a && eqb y b)

start_hit : (p x y a b : ℕ) → key x ≡ x → key y ≡ y → once (is_point p a b p x y) ≡ same x y a b
unfolding is_point same
start_hit p x y a b e f = rw (eq-eqb p p refl, e, f)

no_hit : (p q x y a b : ℕ) → (p ≡ q → ⊥) → once (is_point q a b p x y) ≡ 0
unfolding is_point once
no_hit p q x y a b h = rw (ne_eqb p q h)

-- the two points are a, b or not
is_same : (x y a b : ℕ) → ((x ≡ a) × (y ≡ b) × (same x y a b ≡ 1)) ⊎ (((x ≡ a) × (y ≡ b) → ⊥) × (same x y a b ≡ 0))
unfolding same once
is_same x y a b = by (eqb x a) (eqb y b) refl refl
  where
    by : (u v : Bool) → eqb x a ≡ u → eqb y b ≡ v → ((x ≡ a) × (y ≡ b) × (once (u && v) ≡ 1)) ⊎ (((x ≡ a) × (y ≡ b) → ⊥) × (once (u && v) ≡ 0))
    by true true e f = inl (eqb-true _ _ e, eqb-true _ _ f, refl)
    by true false e f = inr ((λ h. eqb-false _ _ f h.1), refl)
    by false v e f = inr ((λ h. eqb-false _ _ e h.0), refl)

over_at : (ws : List ℕ) (p : ℕ) {x y a b : ℕ} → x ≡ a → y ≡ b → ends ws p x y ≡ starts ws p x y + 1 → ends ws p a b ≡ starts ws p a b + 1
over_at ws p {x} {y} {a} {b} e f h = rw (e, f) at h

under_at : (ws : List ℕ) (p : ℕ) {x y a b : ℕ} → x ≡ a → y ≡ b → starts ws p x y ≡ ends ws p x y + 1 → starts ws p a b ≡ ends ws p a b + 1
under_at ws p {x} {y} {a} {b} e f h = rw (e, f) at h

closed : (ws : List ℕ) (p x y z w a b : ℕ) → Gap ws p x y z w → starts ws p a b + same x y a b ≡ ends ws p a b + same z w a b
closed ws p x y z w a b g = elim (is_same x y a b) [
  | inl u ↦ elim (is_same z w a b) [
    | inl v ↦ absurd (let h = over_at ws p u.0 u.1 g.over in let k = under_at ws p v.0 v.1 g.under in omega arith)
    | inr v ↦ let h = over_at ws p u.0 u.1 g.over in omega arith
  ]
  | inr u ↦ elim (is_same z w a b) [
    | inl v ↦ let k = under_at ws p v.0 v.1 g.under in omega arith
    | inr v ↦ let k = g.others a b u.0 v.0 in omega arith
  ]
]

-- the mended path balances at every point
pub mended_balances : (ws : List ℕ) (p x y z w a b : ℕ) → length ws % 6 ≡ 0 → key x ≡ x → key y ≡ y → key z ≡ z → key w ≡ w → Gap ws p x y z w
    → starts (ws ++ line_of p x y z w) p a b ≡ ends (ws ++ line_of p x y z w) p a b
mended_balances ws p x y z w a b h kx ky kz kw g =
    grown ws (line_of p x y z w) h 2 p a b (omega arith) refl
    ∙ ap (λ (n : ℕ). starts ws p a b + n) (start_hit p x y a b kx ky)
    ∙ closed ws p x y z w a b g
    ∙ ap (λ (n : ℕ). ends ws p a b + n) (sym (start_hit p z w a b kz kw))
    ∙ sym (grown ws (line_of p x y z w) h 4 p a b (omega arith) refl)

-- every other path is as before
pub others_kept : (ws : List ℕ) (p q x y z w a b : ℕ) → length ws % 6 ≡ 0 → (p ≡ q → ⊥)
    → (starts (ws ++ line_of p x y z w) q a b ≡ starts ws q a b) × (ends (ws ++ line_of p x y z w) q a b ≡ ends ws q a b)
others_kept ws p q x y z w a b h d = (
  (let r = grown ws (line_of p x y z w) h 2 q a b (omega arith) refl in let n = no_hit p q x y a b d in omega arith),
  (let r = grown ws (line_of p x y z w) h 4 q a b (omega arith) refl in let n = no_hit p q z w a b d in omega arith),
)

-- ---- a gap is one, and lies between points of records

-- a point that is an end once more is that of the gap
pub one_over : (ws : List ℕ) (p x y x' y' z' w' : ℕ) → ends ws p x y ≡ starts ws p x y + 1 → Gap ws p x' y' z' w' → (x' ≡ x) × (y' ≡ y)
one_over ws p x y x' y' z' w' o h = elim (is_same x' y' x y) [
  | inl u ↦ (u.0, u.1)
  | inr u ↦ elim (is_same z' w' x y) [
    | inl v ↦ absurd (let k = under_at ws p v.0 v.1 h.under in omega arith)
    | inr v ↦ absurd (let k = h.others x y u.0 v.0 in omega arith)
  ]
]

pub one_under : (ws : List ℕ) (p z w x' y' z' w' : ℕ) → starts ws p z w ≡ ends ws p z w + 1 → Gap ws p x' y' z' w' → (z' ≡ z) × (w' ≡ w)
one_under ws p z w x' y' z' w' o h = elim (is_same z' w' z w) [
  | inl u ↦ (u.0, u.1)
  | inr u ↦ elim (is_same x' y' z w) [
    | inl v ↦ absurd (let k = over_at ws p v.0 v.1 h.over in omega arith)
    | inr v ↦ absurd (let k = h.others z w v.0 u.0 in omega arith)
  ]
]

-- a path has at most one gap: its points are determined
pub gap_only : (ws : List ℕ) (p x y z w x' y' z' w' : ℕ) → Gap ws p x y z w → Gap ws p x' y' z' w' → (x' ≡ x) × (y' ≡ y) × (z' ≡ z) × (w' ≡ w)
gap_only ws p x y z w x' y' z' w' g h =
    let o = one_over ws p x y x' y' z' w' g.over h in
    let u = one_under ws p z w x' y' z' w' g.under h in
    (o.0, o.1, u.0, u.1)

-- a path that balances has none
pub balanced_no_gap : (ws : List ℕ) (p x y z w : ℕ) → BalancedIn ws p → Gap ws p x y z w → ⊥
balanced_no_gap ws p x y z w h g = let o = g.over in let e = h x y in omega arith

key_twice : (w : ℕ) → key (key w) ≡ key w
unfolding key
key_twice w = by (eqb w 2147483648) refl
  where
    by : (b : Bool) → eqb w 2147483648 ≡ b → cond (eqb (cond b 0 w) 2147483648) 0 (cond b 0 w) ≡ cond b 0 w
    by true e = refl
    by false e = rw e

is_key : (v : ℕ) {x : ℕ} → key v ≡ x → key x ≡ x
is_key v {x} e = ap key (sym e) ∙ key_twice v ∙ e

-- the open end is the end of a record, and the open start the start of one
pub end_found : (ws : List ℕ) (p x y z w : ℕ) → Gap ws p x y z w → Found 4 ws p x y (count ws)
end_found ws p x y z w g = elim (counted 4 ws p x y (count ws)) [
  | inl u ↦ absurd (let o = g.over in omega arith)
  | inr f ↦ f
]

pub start_found : (ws : List ℕ) (p x y z w : ℕ) → Gap ws p x y z w → Found 2 ws p z w (count ws)
start_found ws p x y z w g = elim (counted 2 ws p z w (count ws)) [
  | inl u ↦ absurd (let o = g.under in omega arith)
  | inr f ↦ f
]

-- so zeros are written as +0, and appending the line leaves the path in balance
pub mended_path : (ws : List ℕ) (p x y z w a b : ℕ) → length ws % 6 ≡ 0 → Gap ws p x y z w
    → starts (ws ++ line_of p x y z w) p a b ≡ ends (ws ++ line_of p x y z w) p a b
mended_path ws p x y z w a b h g =
    let e = end_found ws p x y z w g in
    let s = start_found ws p x y z w g in
    mended_balances ws p x y z w a b h (is_key (word ws e.k 4) e.first) (is_key (word ws e.k 5) e.second) (is_key (word ws s.k 2) s.first) (is_key (word ws s.k 3) s.second) g
