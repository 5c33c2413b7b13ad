-- Arcs, caps and joins: each leads from its given begin to its given end, and a join takes each side on. Assumes nothing.
use Rattle.std.specs.Prelude.{ℕ, zero, suc, ◌≡◌, refl, Bool, ◌&&◌, ◌||◌, T, eqb, Float}
use Rattle.std.proofs.Common.{sym, subst}
use Rattle.std.proofs.Math.Bool.{true, false, cond}
use mathlib.Core.List.{List, [], ◌∷◌, ◌++◌, append-nil}
use native.Mathlib.Omega.{arith}
use Rattle.std.specs.Int.Bits.{bit_and}
use Rattle.std.specs.Float.Ieee.{lt}
use Rattle.laws.specs.Binary32.{whole}
use Rattle.maths.specs.Numbers.{abs_of, half_of}
use Rattle.maths.specs.Trig.{atan2_of, pi}
use Rattle.spiral.specs.Util.{add_of, sub_of, dot_of, eq_of, apply_of}
use Rattle.spiral.specs.Points.{FitsPoint, eq→same_point, apply_same}
use Rattle.spiral.specs.declared.util.Vec2.{Vec2}
use Rattle.drawing.specs.Sheet.{Event, line_through}
use Rattle.drawing.specs.Arc.{chords, arc_of}
use Rattle.drawing.specs.Cap.{square_cap, cap_by, cap_events}
use Rattle.drawing.specs.Join.{cross, corners_of, both_sides, bevel_events, in_limit, miter_point, miter_events, round_by, round_events, join_by, join_events}
use Rattle.drawing.specs.declared.join.Corners.{Corners}
use Rattle.drawing.specs.declared.join.Bend.{Bend}
use Rattle.watertight.specs.Count.{starts_by, ends_by}
use Rattle.watertight.specs.Balance.{AllLines, starts_append, ends_append}
use Rattle.strokes.specs.Leads.{Blind, Leads, Pair, one, then}
use Rattle.strokes.specs.Alike.{add_fit, sub_fit}

-- ---- arcs
chords_lead : (k : ℕ) (rot z : List Float) (center end p r : Vec2) → Leads p (apply_of z end) (chords k rot z center end p r)
unfolding chords
chords_lead zero rot z center end p r = one p (apply_of z end)
chords_lead (suc k) rot z center end p r = then p _ (apply_of z end) _ (chords_lead k rot z center end _ _)

pub arc_leads : (z : List Float) (from to center : Vec2) (angle : Float) → Leads (apply_of z from) (apply_of z to) (arc_of z from to center angle)
unfolding arc_of
arc_leads z from to center angle = chords_lead _ _ z center to _ _

-- ---- caps
square_leads : (z : List Float) (a b v : Vec2) → Leads (apply_of z a) (apply_of z b) (square_cap z a b v)
unfolding square_cap starts_by ends_by
square_leads z a b v = record { is = λ (at : Vec2 → ℕ) (blind : Blind at). omega arith }

pub cap_leads : (style : ℕ) (z : List Float) (p a b v : Vec2) → Leads (apply_of z a) (apply_of z b) (cap_events style z p a b v)
unfolding cap_events cap_by
cap_leads style z p a b v = go (eqb style 0x02000000) (eqb style 0x01000000)
  where
    go : (r s : Bool) → Leads (apply_of z a) (apply_of z b) (cap_by r s z p a b v)
    go true s = arc_leads z a b p pi
    go false true = square_leads z a b v
    go false false = one (apply_of z a) (apply_of z b)

-- ---- joins
module _ (z : List Float) (k : Corners) where
  -- side + from front0 to front1, side - from back0 to back1
  abbrev Joins : List Event → Type 0
  Joins es = Pair (apply_of z k.front0) (apply_of z k.front1) (apply_of z k.back0) (apply_of z k.back1) es

  both_join : Joins (both_sides z k)
  unfolding starts_by ends_by
  both_join = record { is = λ (at : Vec2 → ℕ) (blind : Blind at). omega arith }

  -- bevel, and what it leaves out
  bevel_join : Joins (bevel_events z k ++ cond (eq_of k.front0 k.front1 || eq_of k.back0 k.back1) (both_sides z k) [])
  unfolding bevel_events
  bevel_join = go (eq_of k.front0 k.front1 || eq_of k.back0 k.back1)
    where
      go : (b : Bool) → Joins (cond b [] (both_sides z k) ++ cond b (both_sides z k) [])
      go true = both_join
      go false = both_join

  -- with its point on either side, and without
  miter_join : (b : Bend) (limit : Float) → Joins (miter_events z k b limit)
  unfolding miter_events starts_by ends_by
  miter_join b limit = go (in_limit b.cr b.d limit) (lt (whole 0) b.cr)
    where
      back : Vec2
      back = miter_point b k.back1 k.back0

      front : Vec2
      front = miter_point b k.front0 k.front1

      go : (s t : Bool) → Joins (cond s (cond t
          (line_through z k.back0 back ∷ line_through z k.front0 k.front1 ∷ line_through z back k.back1 ∷ [])
          (line_through z k.front0 front ∷ line_through z front k.front1 ∷ line_through z k.back0 k.back1 ∷ [])) (both_sides z k))
      go true true = record { is = λ (at : Vec2 → ℕ) (blind : Blind at). omega arith }
      go true false = record { is = λ (at : Vec2 → ℕ) (blind : Blind at). omega arith }
      go false t = both_join

  -- an arc on either side
  round_join : (b : Bend) (p : Vec2) → Joins (round_events z k b p)
  unfolding round_events round_by starts_by ends_by
  round_join b p = go (lt (whole 0) b.cr) (abs_of (atan2_of b.cr b.d))
    where
      go : (s : Bool) (angle : Float) → Joins (round_by s z k p angle)
      go true angle =
          let es = arc_of z k.back0 k.back1 p angle in
          let l = line_through z k.front0 k.front1 ∷ [] in
          record { is = λ (at : Vec2 → ℕ) (blind : Blind at). omega (arith, (arc_leads z k.back0 k.back1 p angle).is at blind, starts_append at es l, ends_append at es l) }
      go false angle =
          let es = arc_of z k.front0 k.front1 p angle in
          let l = line_through z k.back0 k.back1 ∷ [] in
          record { is = λ (at : Vec2 → ℕ) (blind : Blind at). omega (arith, (arc_leads z k.front0 k.front1 p angle).is at blind, starts_append at es l, ends_append at es l) }

-- the two lines of a join, where it is bevel and draws neither because a side coincides
abbrev pub undrawn : ℕ → List Float → Corners → List Event
undrawn flags z k = cond (eqb (bit_and flags 0x30000000) 0 && (eq_of k.front0 k.front1 || eq_of k.back0 k.back1)) (both_sides z k) []

-- every join that is drawn, with what it leaves out
pub join_pair : (flags : ℕ) (z : List Float) (p tp tn m n : Vec2) → AllLines (join_events flags z p tp tn m n)
    → Pair (apply_of z (add_of p m)) (apply_of z (add_of p n)) (apply_of z (sub_of p n)) (apply_of z (sub_of p m)) (join_events flags z p tp tn m n ++ undrawn flags z (corners_of p m n))
unfolding join_events join_by corners_of AllLines
join_pair flags z p tp tn m n =
    go (eqb (bit_and flags 0x30000000) 0) (eqb (bit_and flags 0x30000000) 0x10000000) (eqb (bit_and flags 0x30000000) 0x20000000)
  where
    k : Corners
    k = corners_of p m n

    b : Bend
    b = record { tan_prev = tp; tan_next = tn; cr = cross tp tn; d = dot_of tp tn }

    go : (s t u : Bool) → AllLines (join_by s t u z k b (half_of flags) p)
        → Joins z k (join_by s t u z k b (half_of flags) p ++ cond (s && (eq_of k.front0 k.front1 || eq_of k.back0 k.back1)) (both_sides z k) [])
    go true t u l = bevel_join z k
    go false true u l = rw append-nil (miter_join z k b (half_of flags))
    go false false true l = rw append-nil (round_join z k b p)
    go false false false l = absurd l

-- what is left out balances by itself where both sides coincide
pub undrawn_balances : (flags : ℕ) (z : List Float) (p m n : Vec2)
    → (eqb (bit_and flags 0x30000000) 0 ≡ true → eq_of (add_of p m) (add_of p n) ≡ eq_of (sub_of p n) (sub_of p m))
    → (at : Vec2 → ℕ) → Blind at → starts_by at (undrawn flags z (corners_of p m n)) ≡ ends_by at (undrawn flags z (corners_of p m n))
unfolding corners_of starts_by ends_by
undrawn_balances flags z p m n h at blind =
    go (eqb (bit_and flags 0x30000000) 0) (eq_of (add_of p m) (add_of p n)) (eq_of (sub_of p n) (sub_of p m)) refl refl h
  where
    same : (p q : Vec2) → FitsPoint p → FitsPoint q → eq_of p q ≡ true → at (apply_of z p) ≡ at (apply_of z q)
    same p q f g e = blind _ _ (apply_same z p q (eq→same_point p q f g (subst T (sym e) tt)))

    go : (s t u : Bool) → eq_of (add_of p m) (add_of p n) ≡ t → eq_of (sub_of p n) (sub_of p m) ≡ u → (s ≡ true → t ≡ u)
        → starts_by at (cond (s && (t || u)) (both_sides z (corners_of p m n)) []) ≡ ends_by at (cond (s && (t || u)) (both_sides z (corners_of p m n)) [])
    go false t u d e h = refl
    go true true true d e h = omega (arith, same (add_of p m) (add_of p n) (add_fit p m) (add_fit p n) d, same (sub_of p n) (sub_of p m) (sub_fit p n) (sub_fit p m) e)
    go true false false d e h = refl
    go true true false d e h = let k = h refl in let y : ◌≡◌ {A = ℕ} 0 1 = cc in absurd (omega arith)
    go true false true d e h = let k = h refl in let y : ◌≡◌ {A = ℕ} 0 1 = cc in absurd (omega arith)
