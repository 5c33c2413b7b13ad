-- A place of the loop, `Here`, and what each way through a turn makes of it. Assumes nothing.
use mathlib.Core.Path.{◌≡◌, refl, sym, ap, ap₂, ◌∙◌, subst}
use mathlib.Core.Bool.{Bool, true, false, ◌||◌}
use mathlib.Core.List.{List, [], ◌++◌, flatten, append-nil}
use Prim.Native.Nat.{ℕ, zero, suc, ◌+◌, ◌-◌, ◌*◌, ◌/◌, ◌%◌, ◌^◌, ◌≤◌, ◌<◌}
use native.Mathlib.Nat.{mul_assoc, mul_comm, mul-le-mul_right, le_of_mul-le-mul_right, eq_of_mul-eq-mul_right, mul-div_cancel, one-mul}
use native.Mathlib.Omega.{arith}
use lib.Dec.{T}
use lib.Count.{count_trailing_zeros}
use lib.IntN.{pos, negsuc}
use lib.Pow.{pow-add, pow_pos, pow_mono, shl_exact}
use lib.Ieee.{Float, fin, binary32, mul, add, eq, le, of_int}
use Rattle.laws.specs.Binary32.{◌⊗◌, dec}
use Rattle.laws.specs.Same.{one}
use Rattle.spiral.specs.declared.util.Vec2.{Vec2}
use Rattle.spiral.specs.declared.euler.CubicParams.{CubicParams}
use Rattle.spiral.specs.Judged.{Judged}
use Rattle.drawing.specs.Sheet.{Event}
use Rattle.curve.specs.Fit.{tip_at, params_of, fit_of}
use Rattle.curve.specs.Curve.{Front, front_of, part, tip_of, is_near, range_of, range_end, accepted, walk}
use Rattle.curve.specs.Walks.{walk_near}
use Rattle.curve.specs.declared.fit.Tip.{Tip}
use Rattle.curve.specs.declared.fit.Fit.{Fit}
use Rattle.curve.specs.declared.Side.{Side}
use Rattle.curve.proofs.Scale.{start_is, end_is, halved, doubled, at_the_end, not_at_the_end, above_limit, at_limit, parts, parts_of}
use Rattle.curve.proofs.Ranges.{ranges, most, halves, past}
use Rattle.curve.proofs.Tree.{follow, rest, head, head_end, head_start, head_accepted, head_half, Popped, pop}

-- the events es are what is left from range u on, which is dt long: k levels down, with d halvings left
pub record Here (s : Side) (es : List Event) (u : ℕ) (dt : Float) (f : Front) : Type 0 where
  pub k : ℕ
  pub d : ℕ
  pub sum : d + k ≡ 16
  pub wide : dt ≡ part (2 ^ d)
  pub within : u ≤ 2 ^ k
  pub same : es ≡ head s k d u f

pub here_start : (s : Side) (f : Front) → Here s (flatten (walk s 16 0 f).ranges) 0 (part 65536) f
here_start s f = record { k = 0; d = 16; sum = refl; wide = refl; within = omega arith; same = head_start s f }

-- the measure: the ranges that may still be looked at, from range u on
pub left : ℕ → Float → ℕ
left u dt = ranges (65536 - u * parts dt) (parts dt)

-- 131,071 at the start, which is why the loop turns at most so often
pub left_start : left 0 (part 65536) ≡ 131071
unfolding left
left_start = ap (λ (n : ℕ). ranges (65536 - 0 * n) n) (parts_of 16 (omega arith)) ∙ most

or_left : (x y : Bool) → y ≡ false → (x || y) ≡ true → x ≡ true
or_left true y e h = refl
or_left false y e h = sym e ∙ h

or_false : (x y : Bool) → (x || y) ≡ false → x ≡ false
or_false true y h = h
or_false false y h = refl

or_right : (x y : Bool) → y ≡ true → (x || y) ≡ false → ⊥
or_right true y e h = subst T h tt
or_right false y e h = subst T (sym e ∙ h) tt

-- the loop's test for a range
abbrev test : Side → ℕ → ℕ → Front → Bool
test s d u f = is_near s f (tip_of s d u) || le (part (2 ^ d)) (part 1)

walk_accepted : (s : Side) (d u : ℕ) (f : Front) → d ≤ 16 → test s d u f ≡ true → walk s d u f ≡ accepted s f (tip_of s d u)
unfolding walk
walk_accepted s zero u f h e = refl
walk_accepted s (suc d) u f h e = walk_near s d u f (or_left _ _ (above_limit d h) e)

can_halve : (s : Side) (d u : ℕ) (f : Front) → test s d u f ≡ false → (x : ℕ) × (d ≡ suc x)
can_halve s zero u f e = absurd (or_right (is_near s f (tip_of s 0 u)) (le (part 1) (part 1)) at_limit e)
can_halve s (suc d) u f e = (d, refl)

-- a fit asks nothing of the error
same_fit : (offset scale : Float) (p0 p1 : Vec2) {exact got : CubicParams} → Judged scale exact got → fit_of offset scale p0 p1 got ≡ fit_of offset scale p0 p1 exact
unfolding fit_of
same_fit offset scale p0 p1 h = rw (h.start, h.end, h.long)

-- a power of two as the code shifts it
pub shifted : (z : ℕ) → z ≤ 16 → 1 * 2 ^ z % 4294967296 ≡ 2 ^ z
shifted z h = shl_exact 1 z 32 (omega arith) (omega arith) ∙ one-mul (2 ^ z)

abbrev zeros : ℕ → ℕ
zeros u = count_trailing_zeros 32 (u + 1)

module _ {s : Side} {es : List Event} {u : ℕ} {dt : Float} {f : Front} (h : Here s es u dt f) where
  deep : h.d ≤ 16
  deep = omega (arith, h.sum)

  all : 2 ^ h.k * 2 ^ h.d ≡ 65536
  all = mul_comm (2 ^ h.k) (2 ^ h.d) ∙ sym (pow-add 2 h.d h.k) ∙ ap (λ (x : ℕ). 2 ^ x) h.sum

  pub small : u ≤ 65536
  small = let e : 2 ^ h.k ≤ 2 ^ 16 = pow_mono {i = h.k} {j = 16} (omega (arith, h.sum)) in omega (arith, e, h.within)

  units_le : u * 2 ^ h.d ≤ 65536
  units_le = let e : u * 2 ^ h.d ≤ 2 ^ h.k * 2 ^ h.d = mul-le-mul_right (2 ^ h.d) h.within in omega (arith, e, all)

  width : parts dt ≡ 2 ^ h.d
  width = ap parts h.wide ∙ parts_of h.d deep

  module _ {w : Float} (ew : w ≡ of_int binary32 (pos u)) where
    start : mul binary32 w dt ≡ part (u * 2 ^ h.d)
    start = ap₂ (λ (x y : Float). mul binary32 x y) ew h.wide ∙ start_is u h.d small deep

    pub at_end : eq (mul binary32 w dt) one ≡ true → es ≡ []
    at_end e =
        let n : u * 2 ^ h.d ≡ 65536 = at_the_end (u * 2 ^ h.d) units_le (ap (λ (x : Float). eq x one) (sym start) ∙ e) in
        let v : u ≡ 2 ^ h.k = eq_of_mul-eq-mul_right (2 ^ h.d) (pow_pos h.d) u (2 ^ h.k) (n ∙ sym all) in
        h.same ∙ head_end s h.k h.d u f v

    module _ (on : eq (mul binary32 w dt) one ≡ false) where
      inside : u < 2 ^ h.k
      inside =
          let n : u * 2 ^ h.d ≡ 65536 → ⊥ = not_at_the_end (u * 2 ^ h.d) units_le (ap (λ (x : Float). eq x one) (sym start) ∙ on) in
          let v : u ≡ 2 ^ h.k → ⊥ = λ e. n (ap (λ (x : ℕ). x * 2 ^ h.d) e ∙ all) in
          omega (arith, h.within, v)

      pub below : u < 65536
      below = let e : 2 ^ h.k ≤ 2 ^ 16 = pow_mono {i = h.k} {j = 16} (omega (arith, h.sum)) in omega (arith, e, inside)

      popped : (g : Front) → Popped s h.k h.d u (zeros u) g
      popped g = pop s h.k 32 h.d u g (omega (arith, h.sum)) inside

      pub few_zeros : zeros u ≤ 16
      few_zeros = omega (arith, (popped f).low, h.sum)

      -- the range that follows
      module _ {dt' : Float} (ed : dt' ≡ of_int binary32 (pos (1 * 2 ^ zeros u % 4294967296))) where
        next_dt : mul binary32 dt dt' ≡ part (2 ^ (h.d + zeros u))
        next_dt =
            ap₂ (λ (x y : Float). mul binary32 x y) h.wide (ed ∙ ap (λ (n : ℕ). of_int binary32 (pos n)) (shifted (zeros u) few_zeros))
            ∙ doubled h.d (zeros u) (omega (arith, h.sum, (popped f).low))

        module _ (g : Front) where
          next_u : (u + 1) / 2 ^ zeros u ≡ (popped g).v
          next_u = ap (λ (x : ℕ). x / 2 ^ zeros u) (sym (popped g).back) ∙ mul-div_cancel (popped g).v (pow_pos (zeros u))

          pub next : Here s (rest s h.k h.d u g) ((u + 1) / 2 ^ zeros u) (mul binary32 dt dt') g
          next =
              let z = zeros u in
              let p = popped g in
              let back : 2 ^ (h.k - z) * 2 ^ z ≡ 2 ^ h.k = sym (pow-add 2 (h.k - z) z) ∙ ap (λ (x : ℕ). 2 ^ x) (omega (arith, p.low)) in
              let v : p.v * 2 ^ z ≤ 2 ^ (h.k - z) * 2 ^ z = omega (arith, back, p.back, inside) in
              record {
                k = h.k - z;
                d = h.d + z;
                sum = omega (arith, h.sum, p.low);
                wide = next_dt;
                within = omega (arith, next_u, le_of_mul-le-mul_right v (pow_pos z));
                same = p.same ∙ ap (λ (x : ℕ). head s (h.k - z) (h.d + z) x g) (sym next_u);
              }

        pub next_less : left ((u + 1) / 2 ^ zeros u) (mul binary32 dt dt') < left u dt
        unfolding left
        next_less =
            let z = zeros u in
            let W = 2 ^ h.d in
            let X = 2 ^ (h.d + z) in
            let p = popped f in
            let p1 : parts (mul binary32 dt dt') ≡ X = ap parts next_dt ∙ parts_of (h.d + z) (omega (arith, h.sum, p.low)) in
            let e1 : p.v * X ≡ p.v * 2 ^ z * W =
            ap (λ (x : ℕ). p.v * x) (pow-add 2 h.d z ∙ mul_comm W (2 ^ z)) ∙ sym (mul_assoc p.v (2 ^ z) W) in
            let e2 : p.v * X ≡ (u + 1) * W = e1 ∙ ap (λ (x : ℕ). x * W) p.back in
            let g : (u + 1) * W ≤ 2 ^ h.k * W = mul-le-mul_right W (omega (arith, inside)) in
            let r1 : 65536 - u * W ≡ 65536 - p.v * X + W = omega (arith, e2, g, all) in
            rw (next_u f, p1, width, r1)
            (past (h.k - z) (h.d + z) p.v W (pow_pos h.d) p.odd (omega (arith, h.sum, p.low)))

      module _ {to : Tip} (et : to ≡ tip_at s.points (add binary32 (mul binary32 w dt) dt)) where
        tip_is : to ≡ tip_of s h.d u
        unfolding tip_of
        tip_is =
            et
            ∙ ap (tip_at s.points) (ap₂ (λ (x y : Float). add binary32 x y) start h.wide ∙ end_is u h.d units_le deep)

        module _ {params : CubicParams} {r : Bool} (ep : Judged s.scale (params_of f.tip to) params) (er : r ≡ (le (params.err ⊗ s.scale) (dec 25 2) || le dt (part 1))) where
          test_is : r ≡ test s h.d u f
          unfolding is_near
          test_is =
              er
              ∙ ap₂ (λ (x : Bool) (y : Float). x || le y (part 1)) ep.near h.wide
              ∙ ap (λ (x : Tip). le ((params_of f.tip x).err ⊗ s.scale) (dec 25 2) || le (part (2 ^ h.d)) (part 1)) tip_is

          -- a range that is accepted
          pub taken : {fit : Fit} {end : Vec2} → r ≡ true → fit ≡ fit_of s.offset s.scale f.tip.p to.p params → end ≡ range_end s fit to
              → es ≡ range_of s fit f.at end ++ rest s h.k h.d u (front_of to end)
          unfolding accepted flatten
          taken {fit} {end} e ef ee =
              let t = accepted s f to in
              h.same
              ∙ head_accepted s h.k h.d u f inside (walk_accepted s h.d u f deep (sym test_is ∙ e))
              ∙ ap (λ (x : Tip). follow (accepted s f x) (rest s h.k h.d u)) (sym tip_is)
              ∙ rw (ee, ef, same_fit s.offset s.scale f.tip.p to.p ep, append-nil)

          -- a range that is halved
          module _ (e : r ≡ false) where
            is : (x : ℕ) × (h.d ≡ suc x)
            is = can_halve s h.d u f (sym test_is ∙ e)

            half_dt : mul binary32 dt (fin false 1 (negsuc 0)) ≡ part (2 ^ is.0)
            half_dt =
                ap (λ (x : Float). mul binary32 x (fin false 1 (negsuc 0))) (h.wide ∙ ap (λ (n : ℕ). part (2 ^ n)) is.1)
                ∙ halved is.0 (omega (arith, is.1, deep))

            pub half : Here s es (u * 2) (mul binary32 dt (fin false 1 (negsuc 0))) f
            half =
                record {
                  k = suc h.k;
                  d = is.0;
                  sum = omega (arith, is.1, h.sum);
                  wide = half_dt;
                  within = omega (arith, inside);
                  same =
                      h.same
                      ∙ ap (λ (n : ℕ). head s h.k n u f) is.1
                      ∙ head_half s h.k is.0 u f inside (or_false _ _ (ap (λ (n : ℕ). test s n u f) (sym is.1) ∙ sym test_is ∙ e));
                }

            pub half_less : left (u * 2) (mul binary32 dt (fin false 1 (negsuc 0))) < left u dt
            unfolding left
            half_less =
                let x = is.0 in
                let p1 : parts (mul binary32 dt (fin false 1 (negsuc 0))) ≡ 2 ^ x = ap parts half_dt ∙ parts_of x (omega (arith, is.1, deep)) in
                let p2 : parts dt ≡ 2 ^ suc x = width ∙ ap (λ (n : ℕ). 2 ^ n) is.1 in
                rw (p1, p2) (halves h.k x u inside (omega (arith, is.1, h.sum)))
