-- A side is one chain, from its start to its end or back. Assumes nothing.
use Prim.Native.Nat.{ℕ, zero, suc, ◌+◌, ◌-◌, ◌*◌, ◌^◌}
use Rattle.std.specs.Prelude.{◌≡◌, Bool, not, ◌&&◌, ◌||◌, cond, T, eqb, Float}
use Rattle.std.proofs.Math.Path.{refl, ap}
use Rattle.std.proofs.Common.{sym, ◌∙◌, subst, pow-suc, arith, eqb→eq}
use Rattle.std.proofs.Math.Bool.{true, false}
use Rattle.std.specs.Bool.{beq}
use mathlib.Core.List.{List, [], ◌∷◌, ◌++◌, flatten, append-nil}
use Rattle.std.proofs.Math.Dec.{eqb_refl}
use Rattle.std.specs.Float.{nan, inf, fin, binary32}
use Rattle.std.specs.Float.Ieee.{round, is_nan, eq, le, lt, up, down, level, to_unsigned}
use Rattle.std.specs.Float.Ieee.Bits.{is_true}
use Rattle.std.specs.Float.Ieee.Fits.{add-fits, and_l, and_r, and_i}
use Rattle.laws.specs.Binary32.{whole}
use Rattle.spiral.specs.Util.{eq_of, identity_of, apply_of}
use Rattle.spiral.specs.Points.{FitsPoint, eq→same_point, identity_same}
use Rattle.spiral.specs.declared.util.Vec2.{Vec2}
use Rattle.drawing.specs.Sheet.{Event, line, no_count, no_join}
use Rattle.drawing.specs.Cubic.{point, cubic_at}
use Rattle.curve.specs.Fit.{is_short, tip_at, first_tip, place_of}
use Rattle.curve.specs.Curve.{line_of, lines_of, range_of, range_end, Front, front_of, Trail, onward, part, tip_of, accepted, walk, is_point, side_events, device_side, local_side, euler_events}
use Rattle.curve.specs.Walks.{walks, flatten_append}
use Rattle.curve.specs.declared.fit.Tip.{Tip}
use Rattle.curve.specs.declared.fit.Fit.{Fit}
use Rattle.curve.specs.declared.Side.{Side}

-- The lines lead from a to b, each from the point where the one before ends; or, back, each to the point where the one before starts.
-- A stop ends the drawing, and the chain with it.
unfoldable pub Chain : Bool → Vec2 → Vec2 → List Event → Type 0
Chain back a b [] = a ≡ b
Chain false a b (line p q ∷ es) = (p ≡ a) × Chain false q b es
Chain true a b (line p q ∷ es) = (q ≡ a) × Chain true p b es
Chain back a b (no_count ∷ es) = Unit {0}
Chain back a b (no_join ∷ es) = Unit {0}

pub chain_append : (back : Bool) (a b c : Vec2) (xs ys : List Event) → Chain back a b xs → Chain back b c ys → Chain back a c (xs ++ ys)
unfolding Chain
chain_append back a b c [] ys h k = subst (λ (x : Vec2). Chain back x c ys) (sym h) k
chain_append false a b c (line p q ∷ xs) ys h k = (h.0, chain_append false q b c xs ys h.1 k)
chain_append true a b c (line p q ∷ xs) ys h k = (h.0, chain_append true p b c xs ys h.1 k)
chain_append back a b c (no_count ∷ xs) ys h k = tt
chain_append back a b c (no_join ∷ xs) ys h k = tt

-- ---- the ranges of a side
abbrev pub runs_back : Side → Bool
runs_back s = not (le (whole 0) s.offset)

-- a point of the side in device space
abbrev pub device : Side → Vec2 → Vec2
device s p = apply_of s.transform p

one_one : eq (whole 1) (whole 1) ≡ true
unfolding round eq
one_one = refl

either_t : {t : Float} (b : Bool) (x y : Tip) → x.t ≡ t → y.t ≡ t → (cond b x y).t ≡ t
either_t true x y h k = h
either_t false x y h k = k

-- the end of the curve is not moved
tip_one : (ps : List Vec2) → (tip_at ps (part 65536)).t ≡ whole 1
unfolding tip_at round lt
tip_one ps = either_t (is_short (cubic_at ps (whole 1)).q) _ _ refl refl

module _ (s : Side) where
  abbrev Leads : Vec2 → Vec2 → List Event → Type 0
  Leads p q es = Chain (runs_back s) (device s p) (device s q) es

  add_line : (p q r : Vec2) (es : List Event) → Leads q r es → Leads p r (line_of s p q ∷ es)
  unfolding Chain line_of
  add_line p q r es = go (le (whole 0) s.offset)
    where
      go : (b : Bool) → Chain (not b) (device s q) (device s r) es
          → Chain (not b) (device s p) (device s r) (cond b (line (device s p) (device s q)) (line (device s q) (device s p)) ∷ es)
      go true h = (refl, h)
      go false h = (refl, h)

  none : (p : Vec2) → Leads p p []
  unfolding Chain
  none p = refl

  lines_lead : (f : Fit) (m i : ℕ) (at end : Vec2) → Leads at end (lines_of s f m i at end)
  unfolding lines_of
  lines_lead f zero i at end = add_line at end end [] (none end)
  lines_lead f (suc m) i at end =
      add_line at (place_of f i) end (lines_of s f m (i + 1) (place_of f i) end) (lines_lead f m (i + 1) (place_of f i) end)

  range_leads : (f : Fit) (at end : Vec2) → Leads at end (range_of s f at end)
  unfolding range_of Chain
  range_leads f at end = go (is_nan f.n)
    where
      go : (b : Bool) → Leads at end (cond b (no_count ∷ []) (lines_of s f (to_unsigned 32 f.n - 1) 1 at end))
      go true = tt
      go false = lines_lead f (to_unsigned 32 f.n - 1) 1 at end

  abbrev Linked : ℕ → ℕ → Front → Trail → Type 0
  Linked d u f t = Leads f.at t.front.at (flatten t.ranges)

  leaf : (d u : ℕ) (f : Front) → Linked d u f (accepted s f (tip_of s d u))
  unfolding accepted flatten
  leaf d u f = rw append-nil (range_leads _ f.at _)

  join : (d u : ℕ) (f : Front) (a : Trail) (b : Front → Trail) → Linked d (u * 2) f a → Linked d (u * 2 + 1) a.front (b a.front) → Linked (suc d) u f (onward a b)
  unfolding onward
  join d u f a b h k = rw flatten_append (chain_append (runs_back s) _ _ _ (flatten a.ranges) (flatten (b a.front).ranges) h k)

  -- ---- the last range ends at the given end
  abbrev Ends : ℕ → ℕ → Front → Trail → Type 0
  Ends d u f t = (u + 1) * 2 ^ d ≡ 65536 → t.front.at ≡ s.end

  last_end : (f : Fit) (to : Tip) → eq to.t (whole 1) ≡ true → range_end s f to ≡ s.end
  unfolding range_end
  last_end f to h = rw h

  leaf_ends : (d u : ℕ) (f : Front) → Ends d u f (accepted s f (tip_of s d u))
  unfolding accepted tip_of
  leaf_ends d u f e =
      last_end _ _ (ap (λ (n : ℕ). eq (tip_at s.points (part n)).t (whole 1)) e ∙ ap (λ (x : Float). eq x (whole 1)) (tip_one s.points) ∙ one_one)

  join_ends : (d u : ℕ) (f : Front) (a : Trail) (b : Front → Trail) → Ends d (u * 2) f a → Ends d (u * 2 + 1) a.front (b a.front) → Ends (suc d) u f (onward a b)
  unfolding onward
  join_ends d u f a b h k e = k (omega (arith, e, ap (λ (x : ℕ). (u + 1) * x) (pow-suc 2 d)))

  -- where the four points are not one, the side is a chain from its start to its end
  pub side_chain : is_point s.points ≡ false → Leads s.start s.end (side_events s)
  unfolding side_events
  side_chain h =
      let f = front_of (first_tip s.points) s.start in
      rw h
      (subst (λ (p : Vec2). Leads s.start p (flatten (walk s 16 0 f).ranges)) (walks s Ends leaf_ends join_ends 16 0 f refl) (walks s Linked leaf join 16 0 f))

-- where they are one, nothing is drawn
pub side_point : (s : Side) → is_point s.points ≡ true → side_events s ≡ []
unfolding side_events
side_point s h = rw h

-- ---- a curve at an offset
pub offset_chain : (cubic : List Vec2) (z : List Float) (offset : Float) (start end : Vec2) → eq offset (whole 0) ≡ false → is_point cubic ≡ false
    → Chain (not (le (whole 0) offset)) (apply_of z start) (apply_of z end) (euler_events cubic z offset start end)
unfolding euler_events local_side
offset_chain cubic z offset start end h k = rw h (side_chain (local_side cubic z offset start end) k)

-- ---- a curve in device space

-- a point as it is written: through the transform, and then through the identity
abbrev pub written : List Float → Vec2 → Vec2
written z p = apply_of identity_of (apply_of z p)

apply_fits : (z : List Float) (p : Vec2) → FitsPoint (apply_of z p)
unfolding apply_of
apply_fits z p = (add-fits binary32 _ _, add-fits binary32 _ _)

-- one point: its first and its last are written the same
point_meets : (ps : List Vec2) → T (is_point ps) → FitsPoint (point ps 0) → FitsPoint (point ps 3) → apply_of identity_of (point ps 0) ≡ apply_of identity_of (point ps 3)
unfolding is_point
point_meets ps h f g = identity_same (point ps 0) (point ps 3) (eq→same_point (point ps 0) (point ps 3) f g (and_r (eq_of (point ps 0) (point ps 1) && eq_of (point ps 0) (point ps 2)) (eq_of (point ps 0) (point ps 3)) h))

level_swap : (s : Bool) (a b : ℕ) → T (level s a false b) → T (level false b s a)
level_swap s a b h =
    subst (λ (x : ℕ). T (level false x s a)) (eqb→eq a b (and_l (eqb a b) (beq s false || eqb a 0) h))
    (and_i (eqb a a) (beq false s || eqb a 0) (eqb_refl a) (go s (and_r (eqb a b) (beq s false || eqb a 0) h)))
  where
    go : (s : Bool) → T (beq s false || eqb a 0) → T (beq false s || eqb a 0)
    go true t = t
    go false t = tt

or_r : (a b : Bool) → T b → T (a || b)
or_r true b t = tt
or_r false b t = t

-- offset 0 or -0 runs forward
forward : (x : Float) → T (eq x (whole 0)) → T (le (whole 0) x)
unfolding eq le lt round
forward nan h = absurd h
forward (inf s) h = absurd h
forward (fin s m e) h = or_r (lt (whole 0) (fin s m e)) (eq (whole 0) (fin s m e)) (level_swap s (m * up e * 1) (0 * down e) h)

-- from the first point to the last, and also where they are one
pub fill_chain : (cubic : List Vec2) (z : List Float) (offset : Float) (start end : Vec2) → eq offset (whole 0) ≡ true
    → Chain false (written z (point cubic 0)) (written z (point cubic 3)) (euler_events cubic z offset start end)
unfolding euler_events device_side Chain
fill_chain cubic z offset start end h = rw h (go (is_point (device_side cubic z offset).points) refl)
  where
    back : runs_back (device_side cubic z offset) ≡ false
    back = ap not (is_true (le (whole 0) offset) (forward offset (subst T (sym h) tt)))

    go : (b : Bool) → is_point (device_side cubic z offset).points ≡ b
        → Chain false (written z (point cubic 0)) (written z (point cubic 3)) (side_events (device_side cubic z offset))
    go true e =
        rw (side_point (device_side cubic z offset) e)
        (point_meets (device_side cubic z offset).points (subst T (sym e) tt) (apply_fits z (point cubic 0)) (apply_fits z (point cubic 3)))
    go false e = rw back at (side_chain (device_side cubic z offset) e)
