-- The loop's places in the tree of ranges: what is left to draw from a place on. Assumes nothing.
use mathlib.Core.Path.{◌≡◌, refl, sym, ap, ap₂, ◌∙◌, subst}
use mathlib.Core.Bool.{Bool, true, false, cond}
use mathlib.Core.List.{List, [], ◌++◌, flatten, append_assoc, append-nil}
use Prim.Native.Nat.{ℕ, zero, suc, ◌+◌, ◌-◌, ◌*◌, ◌/◌, ◌%◌, ◌^◌, ◌≤◌, ◌<◌}
use native.Mathlib.Nat.{pow-suc, mul_assoc}
use native.Mathlib.Omega.{arith}
use lib.Dec.{eqb}
use lib.Count.{count_trailing_zeros, under}
use borrow.Author.Tests.{eq-eqb, ne_eqb, eqb-true, eqb-false}
use Rattle.drawing.specs.Sheet.{Event}
use Rattle.curve.specs.Curve.{Front, Trail, onward, tip_of, is_near, accepted, walk}
use Rattle.curve.specs.Walks.{walk_far, flatten_append}
use Rattle.curve.specs.declared.Side.{Side}

-- the events of a trail, and then what follows it
abbrev pub follow : Trail → (Front → List Event) → List Event
follow t g = flatten t.ranges ++ g t.front

follow_onward : (a : Trail) (b : Front → Trail) (g : Front → List Event) → follow (onward a b) g ≡ follow a (λ f. follow (b f) g)
unfolding onward
follow_onward a b g =
    ap (λ (es : List Event). es ++ g (b a.front).front) (flatten_append a.ranges (b a.front).ranges)
    ∙ append_assoc (flatten a.ranges) (flatten (b a.front).ranges) (g (b a.front).front)

module _ (s : Side) where
  -- what is left after range u, k levels down, where d halvings are left
  pub rest : ℕ → ℕ → ℕ → Front → List Event
  rest zero d u f = []
  rest (suc k) d u f = cond (eqb (u % 2) 0) (follow (walk s d (u + 1) f) (rest k (suc d) (u / 2))) (rest k (suc d) (u / 2) f)

  -- what is left from that range on
  pub head : ℕ → ℕ → ℕ → Front → List Event
  head k d u f = cond (eqb u (2 ^ k)) [] (follow (walk s d u f) (rest k d u))

  pub head_end : (k d u : ℕ) (f : Front) → u ≡ 2 ^ k → head k d u f ≡ []
  unfolding head
  head_end k d u f e = simp (eq-eqb u (2 ^ k) e)

  head_in : (k d u : ℕ) (f : Front) → u < 2 ^ k → head k d u f ≡ follow (walk s d u f) (rest k d u)
  unfolding head
  head_in k d u f h = simp (ne_eqb u (2 ^ k) (λ e. omega (arith, e)))

  pub head_start : (f : Front) → flatten (walk s 16 0 f).ranges ≡ head 0 16 0 f
  unfolding rest
  head_start f = sym (head_in 0 16 0 f (omega arith) ∙ append-nil (flatten (walk s 16 0 f).ranges))

  rest_even : (k d u : ℕ) (f : Front) → u % 2 ≡ 0 → rest (suc k) d u f ≡ follow (walk s d (u + 1) f) (rest k (suc d) (u / 2))
  unfolding rest
  rest_even k d u f e = simp (eq-eqb (u % 2) 0 e)

  rest_odd : (k d u : ℕ) (f : Front) → u % 2 ≡ 1 → rest (suc k) d u f ≡ rest k (suc d) (u / 2) f
  unfolding rest
  rest_odd k d u f e = simp (ne_eqb (u % 2) 0 (λ z. omega (arith, e, z)))

  -- a range that is accepted
  pub head_accepted : (k d u : ℕ) (f : Front) → u < 2 ^ k → walk s d u f ≡ accepted s f (tip_of s d u)
      → head k d u f ≡ follow (accepted s f (tip_of s d u)) (rest k d u)
  head_accepted k d u f h e = head_in k d u f h ∙ ap (λ (t : Trail). follow t (rest k d u)) e

  -- a range that is halved
  pub head_half : (k d u : ℕ) (f : Front) → u < 2 ^ k → is_near s f (tip_of s (suc d) u) ≡ false → head k (suc d) u f ≡ head (suc k) d (u * 2) f
  head_half k d u f h e =
      let z : u * 2 / 2 ≡ u = omega arith in
      let a = walk s d (u * 2) f in
      head_in k (suc d) u f h
      ∙ ap (λ (t : Trail). follow t (rest k (suc d) u)) (walk_far s d u f e)
      ∙ follow_onward a (walk s d (u * 2 + 1)) (rest k (suc d) u)
      ∙ ap (λ (es : List Event). flatten a.ranges ++ es)
      (ap (λ (v : ℕ). follow (walk s d (u * 2 + 1) a.front) (rest k (suc d) v)) (sym z)
      ∙ sym (rest_even k d (u * 2) a.front (omega arith)))
      ∙ sym (head_in (suc k) d (u * 2) f (omega arith))

  -- the range that follows: the trailing zeros of u + 1 are levels to go up
  pub record Popped (k d u z : ℕ) (f : Front) : Type 0 where
    pub v : ℕ
    pub low : z ≤ k
    pub back : v * 2 ^ z ≡ u + 1
    pub odd : v % 2 ≡ 1
    pub same : rest k d u f ≡ head (k - z) (d + z) v f

  even_case : (k d u : ℕ) (f : Front) → u % 2 ≡ 0 → u < 2 ^ suc k → Popped (suc k) d u 0 f
  even_case k d u f e h =
      let a : suc k - 0 ≡ suc k = omega arith in
      let b : d + 0 ≡ d = omega arith in
      let z : (u + 1) / 2 ≡ u / 2 = omega arith in
      let t = walk s d (u + 1) f in
      record {
        v = u + 1;
        low = omega arith;
        back = omega arith;
        odd = omega arith;
        same =
            rest_even k d u f e
            ∙ ap (λ (es : List Event). flatten t.ranges ++ es)
            (ap (λ (x : ℕ). rest k (suc d) x t.front) (sym z) ∙ sym (rest_odd k d (u + 1) t.front (omega arith)))
            ∙ sym (head_in (suc k) d (u + 1) f (omega arith))
            ∙ sym (ap₂ (λ (x y : ℕ). head x y (u + 1) f) a b);
      }

  odd_case : (k d u z : ℕ) (f : Front) → u % 2 ≡ 1 → Popped k (suc d) (u / 2) z f → Popped (suc k) d u (suc z) f
  odd_case k d u z f e r =
      let a : suc k - suc z ≡ k - z = omega arith in
      let b : d + suc z ≡ suc d + z = omega arith in
      let w : r.v * 2 ^ suc z ≡ r.v * 2 ^ z * 2 = ap (λ (x : ℕ). r.v * x) (pow-suc 2 z) ∙ sym (mul_assoc r.v (2 ^ z) 2) in
      record {
        v = r.v;
        low = omega (arith, r.low);
        back = omega (arith, w, r.back);
        odd = r.odd;
        same = rest_odd k d u f e ∙ r.same ∙ sym (ap₂ (λ (x y : ℕ). head x y r.v f) a b);
      }

  none : (b u : ℕ) → u % 2 ≡ 0 → 0 ≡ count_trailing_zeros (suc b) (u + 1)
  unfolding count_trailing_zeros
  none b u e = let z : 1 ≡ (u + 1) % 2 = omega arith in ap (λ (x : ℕ). under x (count_trailing_zeros b ((u + 1) / 2))) z

  more : (b u : ℕ) → u % 2 ≡ 1 → suc (count_trailing_zeros b (u / 2 + 1)) ≡ count_trailing_zeros (suc b) (u + 1)
  unfolding count_trailing_zeros
  more b u e =
      let z : 0 ≡ (u + 1) % 2 = omega arith in
      let w : u / 2 + 1 ≡ (u + 1) / 2 = omega arith in
      ap₂ (λ (x y : ℕ). under x (count_trailing_zeros b y)) z w

  pub pop : (k b d u : ℕ) (f : Front) → k < b → u < 2 ^ k → Popped k d u (count_trailing_zeros b (u + 1)) f
  unfolding rest
  pop zero zero d u f h g = absurd (omega (arith, h))
  pop (suc k) zero d u f h g = absurd (omega (arith, h))
  pop zero (suc b) d u f h g =
      let e : u % 2 ≡ 0 = omega arith in
      subst (λ (z : ℕ). Popped zero d u z f) (none b u e)
      (record {
        v = u + 1;
        low = omega arith;
        back = omega arith;
        odd = omega arith;
        same = sym (head_end 0 (d + 0) (u + 1) f (omega arith));
      })
  pop (suc k) (suc b) d u f h g = go (eqb (u % 2) 0) refl (pop k b (suc d) (u / 2) f (omega arith) (omega arith))
    where
      go : (x : Bool) → eqb (u % 2) 0 ≡ x → Popped k (suc d) (u / 2) (count_trailing_zeros b (u / 2 + 1)) f → Popped (suc k) d u (count_trailing_zeros (suc b) (u + 1)) f
      go true t r =
          let e : u % 2 ≡ 0 = eqb-true (u % 2) 0 t in
          subst (λ (z : ℕ). Popped (suc k) d u z f) (none b u e) (even_case k d u f e g)
      go false t r =
          let e : u % 2 ≡ 1 = omega (arith, eqb-false (u % 2) 0 t) in
          subst (λ (z : ℕ). Popped (suc k) d u z f) (more b u e) (odd_case k d u (count_trailing_zeros b (u / 2 + 1)) f e r)
