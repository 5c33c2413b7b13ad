-- `nearest_root` is the nearest f32 (`nearest_is`), and nothing else is (`nearest_only`); from the middle between the largest f32 and 2 ^ 277 units on it is the
-- infinity (`past_largest`). For every k above 0. Assumes nothing.
use Rattle.std.specs.Prelude.{◌≡◌, ℕ, suc, ◌+◌, ◌-◌, ◌*◌, ◌/◌, ◌%◌, ◌^◌, ◌<◌, ◌≤◌, min, Bool, cond, ◌⊎◌, ◌≢◌, from_bits, refl, Float}
use Rattle.std.proofs.Common.{sym, ap, ◌∙◌, subst, le_refl, le_trans, le_of_eq, le_of_lt, lt_of_lt_of_le, lt_of_le_of_lt, lt_of_not-le, lt_irrefl, lt_trans, le_of_suc-le-suc, mul-le-mul, mul-le-mul_right, mul-lt-mul_of_pos_right, lt_of_mul-lt-mul_right, mul_assoc, div-mul-le_self, div-lt_iff_lt-mul, le-div_iff_mul-le, lt-suc_self, eq-zero-or-pos, eq-or-lt_of_le, add_comm, arith, lit<, lit≤, pow-add, pow_pos, pow_mono}
use Rattle.std.proofs.Math.Logic.{inl, inr}
use Prim.Native.Nat.{compare}
use Rattle.std.proofs.Math.Nat.{eq_of_mul-eq-mul_right, pow-le-pow_left, pow-lt-pow_left, pow-succ'}
use Rattle.std.proofs.Math.Decide.{dec_lt}
use Rattle.std.specs.Float.{inf, binary32}
use Rattle.std.specs.Float.Ieee.{size, nearest, units}
use Rattle.std.specs.Float.Ieee.Digits.{size_reaches}
use Rattle.std.specs.Float.Ieee.Fits.{kept-lt}
use Rattle.laws.specs.Only.{Only}
use Rattle.roots.specs.Root.{root, nearest_root}
use Rattle.roots.specs.Nearest.{Kept, Wins, Nearest}
use Rattle.roots.specs.Laws.{root_is, scaled, scale_two, Brackets, Rounded, below, above, level, dropped, from_units, units_inf, up_to, base_lt, size_gt, tri}

-- ---- neighbours

-- there is no number of 24 digits between q * 2 ^ d and (q + 1) * 2 ^ d
gap : (p c q d : ℕ) → p < 2 ^ 24 → Kept q d → q * 2 ^ d < p * 2 ^ c → suc q * 2 ^ d ≤ p * 2 ^ c
gap p c q d P F h = elim (dec_lt c d) [
  | yes l ↦ absurd (lt_irrefl (q * 2 ^ d) (lt_of_lt_of_le h (le_trans (mul-le-mul_right (2 ^ c) (le_of_lt P)) (le_trans (le_of_eq (halved (2 ^ c) (2 ^ suc c) (pow-succ' 2 c))) (mul-le-mul (leading l F.1) (pow_mono l))))))
  | no n ↦
      let g : d ≤ c = le_of_suc-le-suc (lt_of_not-le n) in
      let e : p * 2 ^ (c - d) * 2 ^ d ≡ p * 2 ^ c = mul_assoc p (2 ^ (c - d)) (2 ^ d) ∙ ap (λ (x : ℕ). p * x) (sym (pow-add 2 (c - d) d) ∙ ap (λ (x : ℕ). 2 ^ x) (omega arith)) in
      le_trans (mul-le-mul_right (2 ^ d) (lt_of_mul-lt-mul_right (2 ^ d) (lt_of_lt_of_le h (le_of_eq (sym e))))) (le_of_eq e)
]
  where
    halved : (x y : ℕ) → y ≡ 2 * x → 2 ^ 24 * x ≡ 2 ^ 23 * y
    halved x y e = omega arith

    leading : c < d → (d ≡ 0) ⊎ (2 ^ 23 ≤ q) → 2 ^ 23 ≤ q
    leading l (inl z) = absurd (lt_irrefl 0 (omega arith))
    leading l (inr g) = g

-- a number has one q and one d
one_place : (q d p c : ℕ) → Kept q d → Kept p c → q * 2 ^ d ≡ p * 2 ^ c → (q ≡ p) × (d ≡ c)
one_place q d p c F G e =
    let place : (q d : ℕ) → Kept q d → size (q * 2 ^ d) - 24 ≡ d = λ q d F. dropped (q * 2 ^ d) q d (le_refl (q * 2 ^ d)) (mul-lt-mul_of_pos_right (lt-suc_self q) (pow_pos d)) F in
    let z : d ≡ c = sym (place q d F) ∙ ap (λ (n : ℕ). size n - 24) e ∙ place p c G in
    (eq_of_mul-eq-mul_right (2 ^ c) (pow_pos c) q p (ap (λ (d : ℕ). q * 2 ^ d) (sym z) ∙ e), z)

-- ---- `nearest_root` is the nearest

to_more : (x y z q : ℕ) → y ≤ z → Wins x y q → Wins x z q
to_more x y z q h (inl l) = inl (lt_of_lt_of_le l h)
to_more x y z q h (inr (e, v)) = elim (eq-or-lt_of_le h) [ inl f ↦ inr (e ∙ f, v) | inr l ↦ inl (lt_of_le_of_lt (le_of_eq e) l) ]

from_less : (x y z q : ℕ) → z ≤ x → Wins x y q → Wins z y q
from_less x y z q h (inl l) = inl (lt_of_le_of_lt h l)
from_less x y z q h (inr (e, v)) = elim (eq-or-lt_of_le h) [ inl f ↦ inr (f ∙ e, v) | inr l ↦ inl (lt_of_lt_of_le l (le_of_eq e)) ]

at_most : {x y : ℕ} (q : ℕ) → Wins x y q → x ≤ y
at_most q (inl l) = le_of_lt l
at_most q (inr (e, v)) = le_of_eq e

still : (q d : ℕ) → (d ≡ 0) ⊎ (2 ^ 23 ≤ q) → (d ≡ 0) ⊎ (2 ^ 23 ≤ suc q)
still q d (inl z) = inl z
still q d (inr g) = inr (le_trans g (le_of_lt (lt-suc_self q)))

more : (x y z : ℕ) → x < y → x + z < y + z
more x y z h = omega arith

room : (q : ℕ) → q < 2 ^ 24 → q % 2 ≡ 0 → suc q < 2 ^ 24
room q h e = omega arith

odd_even : (q p : ℕ) → q % 2 ≡ 0 → p % 2 ≡ 0 → suc q ≢ p
odd_even q p u z e = omega arith

twice_less : (q x m : ℕ) → m < q * x → m + q * x < 2 * q * x
twice_less q x m h = omega arith

twice_more : (q x m : ℕ) → q * x < m → 2 * q * x < m + q * x
twice_more q x m h = omega arith

middle_up : (q x m : ℕ) → suc q * x ≤ m → (2 * q + 1) * x ≤ m + q * x
middle_up q x m h = omega arith

middle_down : (q x m : ℕ) → m ≤ q * x → m + suc q * x ≤ (2 * q + 1) * x
middle_down q x m h = omega arith

-- 2 ^ 24 has a digit too many, and is 2 ^ 23 in the next place
carry : (s : Bool) (d : ℕ) → units binary32 s (2 ^ 24) d ≡ units binary32 s (2 ^ 23) (suc d)
carry s d =
    sym (from_units s (2 ^ 24) d (le_refl (2 ^ 24)) (inr (le_of_lt (lit< tt))))
    ∙ ap (λ (n : ℕ). from_bits binary32 (cond s (2 ^ 31) 0 + min n 0x7f80_0000)) (omega arith)
    ∙ from_units s (2 ^ 23) (suc d) (le_of_lt (lit< tt)) (inr (le_refl (2 ^ 23)))

module _ (s : Bool) (k a : ℕ) (K : 0 < k) where
  nonzero : k ≡ 0 → ⊥
  nonzero z = omega arith

  module _ (q d : ℕ) (F : Kept q d) (B : Brackets k a q d) where
    -- twice q * 2 ^ d is at most twice the root, and twice (q + 1) * 2 ^ d is above it
    from : (2 * q * 2 ^ d) ^ k ≤ a * 2 ^ k
    from = le_trans (le_of_eq (scaled k (2 * q) d ∙ scale_two k q d)) (mul-le-mul_right (2 ^ k) B.0)

    to : a * 2 ^ k < (2 * suc q * 2 ^ d) ^ k
    to = lt_of_lt_of_le (mul-lt-mul_of_pos_right B.1 (pow_pos k)) (le_of_eq (sym (scaled k (2 * suc q) d ∙ scale_two k (suc q) d)))

    stays : Wins (a * 2 ^ k) ((2 * q + 1) ^ k * 2 ^ (k * d)) q → Nearest s k a (units binary32 s q d)
    stays w = record {
      q = q;
      d = d;
      digits = F;
      value = refl;
      above_less = λ p c P h. inl (lt_of_lt_of_le (pow-lt-pow_left (twice_less q (2 ^ d) (p * 2 ^ c) h) nonzero) from);
      below_more = λ p c P h. to_more _ _ _ q (le_trans (le_of_eq (sym (scaled k (2 * q + 1) d))) (pow-le-pow_left (middle_up q (2 ^ d) (p * 2 ^ c) (gap p c q d P F h)) k)) w;
    }

    -- q + 1 is p * 2 ^ c: it may have carried
    moves_to : (p c : ℕ) → Kept p c → suc q * 2 ^ d ≡ p * 2 ^ c → (v : Float) → v ≡ units binary32 s p c → Wins ((2 * q + 1) ^ k * 2 ^ (k * d)) (a * 2 ^ k) p → Nearest s k a v
    moves_to p c G e v u w = record {
      q = p;
      d = c;
      digits = G;
      value = u;
      above_less = λ m b M h. subst (λ (n : ℕ). Wins ((m * 2 ^ b + n) ^ k) (a * 2 ^ k) p) e (from_less _ _ _ p (le_trans (pow-le-pow_left (middle_down q (2 ^ d) (m * 2 ^ b) (under m b M (lt_of_lt_of_le h (le_of_eq (sym e))))) k) (le_of_eq (scaled k (2 * q + 1) d))) w);
      below_more = λ m b M h. subst (λ (n : ℕ). Wins (a * 2 ^ k) ((m * 2 ^ b + n) ^ k) p) e (inl (lt_trans to (pow-lt-pow_left (twice_more (suc q) (2 ^ d) (m * 2 ^ b) (lt_of_le_of_lt (le_of_eq e) h)) nonzero)));
    }
      where
        under : (m b : ℕ) → m < 2 ^ 24 → m * 2 ^ b < suc q * 2 ^ d → m * 2 ^ b ≤ q * 2 ^ d
        under m b M h = elim (dec_lt (q * 2 ^ d) (m * 2 ^ b)) [
          | yes l ↦ absurd (lt_irrefl (m * 2 ^ b) (lt_of_lt_of_le h (gap m b q d M F l)))
          | no n ↦ le_of_suc-le-suc (lt_of_not-le n)
        ]

    moves : Wins ((2 * q + 1) ^ k * 2 ^ (k * d)) (a * 2 ^ k) (suc q) → Nearest s k a (units binary32 s (suc q) d)
    moves w = elim (eq-or-lt_of_le F.0) [
      | inl e ↦ moves_to (2 ^ 23) (suc d) (lit< tt, inr (le_refl (2 ^ 23))) (ap (λ (n : ℕ). n * 2 ^ d) e ∙ double (2 ^ d) (2 ^ suc d) (pow-succ' 2 d)) _ (ap (λ (n : ℕ). units binary32 s n d) e ∙ carry s d) (even (suc q) w)
      | inr l ↦ moves_to (suc q) d (l, still q d F.1) refl _ refl w
    ]
      where
        double : (x y : ℕ) → y ≡ 2 * x → 2 ^ 24 * x ≡ 2 ^ 23 * y
        double x y e = omega arith

        even : {x y : ℕ} (n : ℕ) → Wins x y n → Wins x y (2 ^ 23)
        even n (inl l) = inl l
        even n (inr (e, v)) = inr (e, refl)

    goes : (r : ℕ) → Rounded k a q d r → Nearest s k a (units binary32 s r d)
    goes r (inl (e, h)) = subst (λ (r : ℕ). Nearest s k a (units binary32 s r d)) (sym e) (stays (inl h))
    goes r (inr (inl (e, h))) = subst (λ (r : ℕ). Nearest s k a (units binary32 s r d)) (sym e) (moves (inl h))
    goes r (inr (inr (e, h))) = subst (λ (r : ℕ). Nearest s k a (units binary32 s r d)) (sym e) (tie (eq-zero-or-pos (q % 2)))
      where
        tie : (q % 2 ≡ 0) ⊎ (0 < q % 2) → Nearest s k a (units binary32 s (q + q % 2) d)
        tie (inl z) = let e : q ≡ q + q % 2 = omega arith in subst (λ (r : ℕ). Nearest s k a (units binary32 s r d)) e (stays (inr (h, z)))
        tie (inr p) = let e : suc q ≡ q + q % 2 = omega arith in subst (λ (r : ℕ). Nearest s k a (units binary32 s r d)) e (moves (inr (sym h, omega arith)))

  -- what `nearest_root` keeps and drops of the root's whole part
  abbrev dropping : ℕ
  dropping = size (root k a) - 24

  abbrev keeping : ℕ
  keeping = root k a / 2 ^ dropping

  around : Brackets k a keeping dropping
  around = (
    le_trans (le_of_eq (sym (scaled k keeping dropping))) (le_trans (pow-le-pow_left (div-mul-le_self (root k a) (2 ^ dropping)) k) (root_is k a K).0),
    lt_of_lt_of_le (root_is k a K).1 (le_trans (pow-le-pow_left ((div-lt_iff_lt-mul (pow_pos dropping)).0 (lt-suc_self keeping)) k) (le_of_eq (scaled k (suc keeping) dropping))),
  )

  leading : (dropping ≡ 0) ⊎ (0 < dropping) → (dropping ≡ 0) ⊎ (2 ^ 23 ≤ keeping)
  leading (inl z) = inl z
  leading (inr p) = inr ((le-div_iff_mul-le (pow_pos dropping)).1 (le_trans (le_of_eq (sym (pow-add 2 23 dropping))) (size_reaches (root k a) (23 + dropping) (omega arith))))

  way : (q d : ℕ) → Rounded k a q d (nearest q (compare (a * 2 ^ k) ((2 * q + 1) ^ k * 2 ^ (k * d))))
  way q d = elim (tri (a * 2 ^ k) ((2 * q + 1) ^ k * 2 ^ (k * d))) [
    | inl h ↦ inl (below q _ _ h, h)
    | inr (inl h) ↦ inr (inl (above q _ _ h, h))
    | inr (inr h) ↦ inr (inr (level q _ _ h, h))
  ]

  pub nearest_is : Nearest s k a (nearest_root s k a)
  unfolding nearest_root
  nearest_is = goes keeping dropping (kept-lt 24 (root k a), leading (eq-zero-or-pos dropping)) around _ (way keeping dropping)

  -- ---- nothing else is

  -- two that win over each other tie, so both are even: then the number after the lesser lies between them, and is nearer
  apart : (v w : Float) (N : Nearest s k a v) (M : Nearest s k a w) → N.q * 2 ^ N.d < M.q * 2 ^ M.d → ⊥
  apart v w N M h = clash (N.below_more M.q M.d M.digits.0 h) (M.above_less N.q N.d N.digits.0 h)
    where
      swap : (N.q * 2 ^ N.d + M.q * 2 ^ M.d) ^ k ≡ (M.q * 2 ^ M.d + N.q * 2 ^ N.d) ^ k
      swap = ap (λ (x : ℕ). x ^ k) (add_comm (N.q * 2 ^ N.d) (M.q * 2 ^ M.d))

      next : Kept (suc N.q) N.d → (a * 2 ^ k ≡ (M.q * 2 ^ M.d + N.q * 2 ^ N.d) ^ k) → (suc N.q * 2 ^ N.d < M.q * 2 ^ M.d) → ⊥
      next F e l =
          lt_irrefl (a * 2 ^ k)
          (lt_of_le_of_lt (at_most N.q (N.below_more (suc N.q) N.d F.0 (mul-lt-mul_of_pos_right (lt-suc_self N.q) (pow_pos N.d))))
          (lt_of_lt_of_le (pow-lt-pow_left (more (suc N.q * 2 ^ N.d) (M.q * 2 ^ M.d) (N.q * 2 ^ N.d) l) nonzero) (le_of_eq (sym e))))

      clash : Wins (a * 2 ^ k) ((M.q * 2 ^ M.d + N.q * 2 ^ N.d) ^ k) N.q → Wins ((N.q * 2 ^ N.d + M.q * 2 ^ M.d) ^ k) (a * 2 ^ k) M.q → ⊥
      clash (inl l) y = lt_irrefl (a * 2 ^ k) (lt_of_lt_of_le l (le_trans (le_of_eq (sym swap)) (at_most M.q y)))
      clash (inr (e, u)) (inl l) = lt_irrefl (a * 2 ^ k) (lt_of_le_of_lt (le_of_eq (e ∙ sym swap)) l)
      clash (inr (e, u)) (inr (f, z)) =
          let F : Kept (suc N.q) N.d = (room N.q N.digits.0 u, still N.q N.d N.digits.1) in
          elim (eq-or-lt_of_le (gap M.q M.d N.q N.d M.digits.0 N.digits h)) [
            | inl g ↦ odd_even N.q M.q u z (one_place (suc N.q) N.d M.q M.d F M.digits g).0
            | inr l ↦ next F e l
          ]

  pub nearest_only : Only (Nearest s k a)
  nearest_only v w N M = elim (tri (N.q * 2 ^ N.d) (M.q * 2 ^ M.d)) [
    | inl h ↦ absurd (apart v w N M h)
    | inr (inl h) ↦ absurd (apart w v M N h)
    | inr (inr e) ↦
        let z = one_place N.q N.d M.q M.d N.digits M.digits e in
        N.value ∙ ap (λ (q : ℕ). units binary32 s q N.d) z.0 ∙ ap (λ (d : ℕ). units binary32 s M.q d) z.1 ∙ sym M.value
  ]

  -- ---- past the largest: 33554431 * 2 ^ 252 is the middle between 16777215 * 2 ^ 253, the largest f32, and 2 ^ 277
  module _ (H : (33554431 * 2 ^ 252) ^ k ≤ a) where
    reached : 33554431 * 2 ^ 252 ≤ root k a
    reached = le_of_suc-le-suc (base_lt k (33554431 * 2 ^ 252) (suc (root k a)) (lt_of_le_of_lt H (root_is k a K).1))

    least_place : 253 ≤ dropping
    least_place = let h : 276 < size (root k a) = size_gt (root k a) 276 (le_trans (lit≤ {m = 2 ^ 276} {n = 33554431 * 2 ^ 252} tt) reached) in omega arith

    twice_middle : 33554431 ^ k * 2 ^ (k * 253) ≤ a * 2 ^ k
    twice_middle =
        le_trans (le_of_eq (sym (scaled k 33554431 253) ∙ scaled k (2 * 33554431) 252 ∙ scale_two k 33554431 252 ∙ ap (λ (x : ℕ). x * 2 ^ k) (sym (scaled k 33554431 252)))) (mul-le-mul_right (2 ^ k) H)

    -- with d = 253 all 24 digits are ones, and the root is not below the middle after them
    ones : (q d r : ℕ) → d ≡ 253 → q < 2 ^ 24 → 33554431 * 2 ^ 252 < suc q * 2 ^ d → Rounded k a q d r → 2 ^ 277 ≤ r * 2 ^ d
    ones q d r e l h R =
        let g : 33554431 * 2 ^ 252 < suc q * 2 ^ 253 = subst (λ (d : ℕ). 33554431 * 2 ^ 252 < suc q * 2 ^ d) e h in
        let n : 16777215 < suc q = lt_of_mul-lt-mul_right (2 ^ 253) (lt_of_le_of_lt (lit≤ {m = 16777215 * 2 ^ 253} {n = 33554431 * 2 ^ 252} tt) g) in
        let z : q ≡ 16777215 = omega arith in
        let up : r ≡ 2 ^ 24 = top R z in
        le_of_eq (sym (ap (λ (r : ℕ). r * 2 ^ d) up ∙ ap (λ (d : ℕ). 2 ^ 24 * 2 ^ d) e))
      where
        top : Rounded k a q d r → q ≡ 16777215 → r ≡ 2 ^ 24
        top (inl (_, g)) z = absurd (lt_irrefl (a * 2 ^ k) (lt_of_lt_of_le g (le_trans (le_of_eq (ap (λ (q : ℕ). (2 * q + 1) ^ k * 2 ^ (k * d)) z ∙ ap (λ (d : ℕ). 33554431 ^ k * 2 ^ (k * d)) e)) twice_middle)))
        top (inr (inl (f, _))) z = f ∙ ap suc z
        top (inr (inr (f, _))) z = f ∙ ap (λ (q : ℕ). q + q % 2) z

    large : (q d r : ℕ) → 253 < d → (d ≡ 0) ⊎ (2 ^ 23 ≤ q) → q ≤ r → 2 ^ 277 ≤ r * 2 ^ d
    large q d r h (inl z) l = absurd (lt_irrefl 0 (omega arith))
    large q d r h (inr g) l = le_trans (le_of_eq refl) (mul-le-mul {n₁ = 2 ^ 23} {m₁ = 2 ^ 254} (le_trans g l) (pow_mono h))

    pub past_largest : nearest_root s k a ≡ inf s
    unfolding nearest_root
    past_largest = units_inf s _ dropping (elim (eq-or-lt_of_le least_place) [
      | inl e ↦ ones keeping dropping _ (sym e) (kept-lt 24 (root k a)) (lt_of_le_of_lt reached ((div-lt_iff_lt-mul (pow_pos dropping)).0 (lt-suc_self keeping))) (way keeping dropping)
      | inr h ↦ large keeping dropping _ h (leading (eq-zero-or-pos dropping)) (up_to k a keeping dropping _ (way keeping dropping)).0
    ])
