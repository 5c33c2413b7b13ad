-- Above 0 and below 2 ^ -14 the arc tangent's sum is its last term (`flat`): t² is at most 2 ^ -28, the polynomial at most 1/2, so what is added is at most
-- t / 2 ^ 27, and rounding takes it off again. Assumes nothing.
use Rattle.std.specs.Prelude.{◌≡◌, true, false, ℕ, zero, suc, ◌+◌, ◌*◌, ◌^◌, ◌≤◌, ◌<◌, ℤ, pos, negsuc, T, Float}
use Rattle.std.proofs.Math.Path.{refl}
use Rattle.std.proofs.Common.{le_of_lt, le_refl, mul-pos, arith, ltb→lt, lit≤, pow_pos}
use Rattle.std.specs.Float.{nan, inf, fin, binary32}
use Rattle.std.specs.Float.Ieee.{up, down, round, of_bits, add, lt, fits}
use Rattle.std.specs.Float.Ieee.Fits.{down_pos}
use Rattle.laws.specs.Binary32.{◌⊕◌, ◌⊗◌, f32}
use Rattle.laws.specs.Size.{AtMost, mul_at_most, mul_twice, add_at_most}
use Rattle.trig.specs.Trig.{atan_near}
use Rattle.trig.specs.Steady.{steady}

-- K * z + L, of a small z
term : (K L z : Float) (c d p : ℕ) (j k : ℤ) → 0 < c → 0 < d → AtMost 1 c K → AtMost 1 d L → AtMost 1 (2 ^ 28) z → round binary32 false (1 * 1) (c * 2 ^ 28) ≡ fin false 1 j → round binary32 false (1 * up j * d + 1 * down j) (down j * d) ≡ fin false p k → AtMost (p * up k) (down k) (K ⊗ z ⊕ L)
term K L z c d p j k C D h l g e f = add_at_most (K ⊗ z) L (1 * up j) (down j) 1 d p k (down_pos j) D (mul_at_most K z 1 c 1 (2 ^ 28) 1 j C (pow_pos 28) h g e) l f

module _ (z : Float) (h : AtMost 1 (2 ^ 28) z) where
  abbrev w : Float
  w = z ⊗ z

  w_small : AtMost 1 (2 ^ 56) w
  unfolding round
  w_small = mul_at_most z z 1 (2 ^ 28) 1 (2 ^ 28) 1 (negsuc 55) (pow_pos 28) (pow_pos 28) h h refl

  abbrev a : Float
  a = f32 0x3e4cb3a1 ⊗ z ⊕ f32 0xbeaaaa36

  abbrev b : Float
  b = f32 0x3dd88ddc ⊗ z ⊕ f32 0xbe1143ad

  abbrev c : Float
  c = f32 0x3d286f93 ⊗ z ⊕ f32 0xbd96ded7

  abbrev d : Float
  d = f32 0x3b2bda54 ⊗ z ⊕ f32 0xbc77eedb

  a_small : AtMost 1 2 a
  unfolding round of_bits
  a_small = term (f32 0x3e4cb3a1) (f32 0xbeaaaa36) z 4 2 1 (negsuc 29) (negsuc 0) (pow_pos 2) (pow_pos 1) (lit≤ tt) (lit≤ tt) h refl refl

  b_small : AtMost 1 4 b
  unfolding round of_bits
  b_small = term (f32 0x3dd88ddc) (f32 0xbe1143ad) z 4 4 1 (negsuc 29) (negsuc 1) (pow_pos 2) (pow_pos 2) (lit≤ tt) (lit≤ tt) h refl refl

  c_small : AtMost 1 4 c
  unfolding round of_bits
  c_small = term (f32 0x3d286f93) (f32 0xbd96ded7) z 4 4 1 (negsuc 29) (negsuc 1) (pow_pos 2) (pow_pos 2) (lit≤ tt) (lit≤ tt) h refl refl

  d_small : AtMost 1 4 d
  unfolding round of_bits
  d_small = term (f32 0x3b2bda54) (f32 0xbc77eedb) z 4 4 1 (negsuc 29) (negsuc 1) (pow_pos 2) (pow_pos 2) (lit≤ tt) (lit≤ tt) h refl refl

  front_small : AtMost 1 2 (a ⊕ b ⊗ w)
  unfolding round
  front_small =
      add_at_most a (b ⊗ w) 1 2 1 (2 ^ 58) 1 (negsuc 0) (pow_pos 1) (pow_pos 58) a_small
      (mul_at_most b w 1 4 1 (2 ^ 56) 1 (negsuc 57) (pow_pos 2) (pow_pos 56) b_small w_small refl) refl

  back_small : AtMost 1 (2 ^ 114) ((c ⊕ d ⊗ w) ⊗ (w ⊗ w))
  unfolding round
  back_small =
      mul_at_most (c ⊕ d ⊗ w) (w ⊗ w) 1 4 1 (2 ^ 112) 1 (negsuc 113) (pow_pos 2) (pow_pos 112)
      (add_at_most c (d ⊗ w) 1 4 1 (2 ^ 58) 1 (negsuc 1) (pow_pos 2) (pow_pos 58) c_small
      (mul_at_most d w 1 4 1 (2 ^ 56) 1 (negsuc 57) (pow_pos 2) (pow_pos 56) d_small w_small refl) refl)
      (mul_at_most w w 1 (2 ^ 56) 1 (2 ^ 56) 1 (negsuc 111) (pow_pos 56) (pow_pos 56) w_small w_small refl) refl

  abbrev polynomial : Float
  polynomial = a ⊕ b ⊗ w ⊕ (c ⊕ d ⊗ w) ⊗ (w ⊗ w)

  polynomial_small : AtMost 1 2 polynomial
  unfolding round
  polynomial_small = add_at_most (a ⊕ b ⊗ w) ((c ⊕ d ⊗ w) ⊗ (w ⊗ w)) 1 2 1 (2 ^ 114) 1 (negsuc 0) (pow_pos 1) (pow_pos 114) front_small back_small refl

-- ---- what is added to t
shrunk : (x y v t : ℕ) → x * (2 * (268435456 * y)) ≤ 1 * (1 * t * 2) * 2 * v → x * y * 134217728 ≤ t * v
shrunk x y v t h = omega arith

kept : (q : Float) (m : ℕ) (e : ℤ) → T (fits binary32 (fin false (suc m) e)) → AtMost (1 * (1 * (suc m * up e) * 2) * 2) (2 * (2 ^ 28 * down e)) q → add binary32 q (fin false (suc m) e) ≡ fin false (suc m) e
kept nan m e F h = absurd h
kept (inf s) m e F h = absurd h
kept (fin s n d) m e F h = steady s n d m e F (shrunk (n * up d) (down e) (down d) (suc m * up e) h)

room : (t y : ℕ) → t * 16384 ≤ 1 * y → 1 * t ≤ 268435456 * y
room t y h = omega arith

more_room : (t y : ℕ) → t * 16384 ≤ 1 * y → 1 * (1 * t * 2) ≤ 2 * (268435456 * y)
more_room t y h = omega arith

of_small : (m : ℕ) (e : ℤ) → T (fits binary32 (fin false (suc m) e)) → suc m * up e * 16384 ≤ 1 * down e → atan_near (fin false (suc m) e) ≡ fin false (suc m) e
unfolding atan_near
of_small m e F h =
    let t = fin false (suc m) e in
    let z-small : AtMost 1 (2 ^ 28) (t ⊗ t) = unfold round in mul_at_most t t 1 (2 ^ 14) 1 (2 ^ 14) 1 (negsuc 27) (pow_pos 14) (pow_pos 14) h h refl in
    kept (polynomial (t ⊗ t) z-small ⊗ (t ⊗ t ⊗ t)) m e F
    (mul_twice (polynomial (t ⊗ t) z-small) (t ⊗ t ⊗ t) 1 2 (1 * (suc m * up e) * 2) (2 ^ 28 * down e) (pow_pos 1) (mul-pos (pow_pos 28) (down_pos e)) (more_room (suc m * up e) (down e) h) (polynomial_small (t ⊗ t) z-small)
    (mul_twice (t ⊗ t) t 1 (2 ^ 28) (suc m * up e) (down e) (pow_pos 28) (down_pos e) (room (suc m * up e) (down e) h) z-small (le_refl (suc m * up e * down e))))

nothing : (x y : ℕ) → y ≡ 0 → x < y → ⊥
nothing x y e h = omega arith

pub flat : (t : Float) → T (fits binary32 t) → T (lt (fin false 0 (pos 0)) t) → T (lt t (fin false 1 (negsuc 13))) → atan_near t ≡ t
unfolding lt
flat nan F g h = absurd g
flat (inf true) F g h = absurd g
flat (inf false) F g h = absurd h
flat (fin true m e) F g h = absurd g
flat (fin false zero e) F g h = absurd (nothing (0 * 1 * down e) (0 * up e * 1) (zero_mul_one (up e)) (ltb→lt (0 * 1 * down e) (0 * up e * 1) g))
  where
    zero_mul_one : (n : ℕ) → 0 * n * 1 ≡ 0
    zero_mul_one n = omega arith
flat (fin false (suc m) e) F g h = of_small m e F (le_of_lt (ltb→lt (suc m * up e * 16384) (1 * 1 * down e) h))
