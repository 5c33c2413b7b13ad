-- A filled segment whose first or last point the transform makes infinite is refused by 5 or 8, or by 6 where the room ends before; unless its four points are one, which draw nothing. Assumes nothing.
use Prim.Native.Nat.{ℕ, zero, suc, ◌+◌, ◌-◌, ◌*◌, ◌/◌, ◌≤◌}
use Rattle.std.proofs.Math.Path.{◌≡◌, refl}
use Rattle.std.proofs.Common.{sym, ap, ◌∙◌, subst, inl, inr, ⊎_elim, length-append}
use Rattle.std.specs.Prelude.{◌⊎◌, Bool, not, ◌||◌, ◌&&◌, cond, T, ltb, length, Float, Ok}
use Rattle.std.proofs.Math.Bool.{true, false}
use mathlib.Core.List.{List, [], ◌∷◌, ◌++◌, flatten, append-nil}
use native.Mathlib.Omega.{arith}
use Rattle.std.proofs.Math.Seq.{sets, length-sets}
use Rattle.std.specs.Float.Ieee.{is_nan, le, eq, to_unsigned}
use Rattle.std.specs.Float.Ieee.Bits.{is_true}
use Rattle.std.specs.Float.Ieee.Scale.{finite}
use Rattle.laws.specs.Binary32.{whole}
use Rattle.refusals.specs.declared.LineEnd.{LineEnd}
use Rattle.refusals.specs.declared.LineEnd.TheVariants.{Start, End}
use Rattle.refusals.specs.declared.Refusal.TheVariants.{NotNumber, NoRoom, NoCount}
use Rattle.spiral.specs.Points.{identity_not_finite}
use Rattle.spiral.specs.Util.{has_nan, apply_of}
use Rattle.spiral.specs.declared.util.Vec2.{Vec2}
use Rattle.drawing.specs.Cubic.{point}
use Rattle.drawing.specs.Sheet.{Event, line, no_count, no_join, line_through, Sheet, sheet, record_of, pen_behind, has_room, stored, draw_on, draw, draw_all, is_stopped, Drawn, halt}
use Rattle.drawing.specs.SheetLaws.{absorbs}
use Rattle.drawing.specs.declared.line.Pen.{Pen}
use Rattle.curve.specs.Fit.{place_of}
use Rattle.curve.specs.Curve.{line_of, lines_of, range_of, Front, Trail, onward, tip_of, accepted, is_point, side_events, device_side, euler_events}
use Rattle.curve.specs.Walks.{walks, flatten_append}
use Rattle.curve.specs.Chain.{Chain, written, fill_chain}
use Rattle.curve.specs.declared.fit.Fit.{Fit}
use Rattle.curve.specs.declared.Side.{Side}

-- ---- a side draws something, and no join
NoJoins : List Event → Type 0
NoJoins [] = Unit {0}
NoJoins (line p q ∷ es) = NoJoins es
NoJoins (no_count ∷ es) = NoJoins es
NoJoins (no_join ∷ es) = ⊥

record Plain (es : List Event) : Type 0 where
  joins : NoJoins es
  some : 1 ≤ length es

joins_append : (xs ys : List Event) → NoJoins xs → NoJoins ys → NoJoins (xs ++ ys)
unfolding NoJoins
joins_append [] ys h k = k
joins_append (line p q ∷ xs) ys h k = joins_append xs ys h k
joins_append (no_count ∷ xs) ys h k = joins_append xs ys h k
joins_append (no_join ∷ xs) ys h k = h

plain_append : (xs ys : List Event) → Plain xs → Plain ys → Plain (xs ++ ys)
plain_append xs ys h k = record { joins = joins_append xs ys h.joins k.joins; some = omega (arith, length-append xs ys, h.some) }

module _ (s : Side) where
  line_plain : (p q : Vec2) (es : List Event) → NoJoins es → Plain (line_of s p q ∷ es)
  unfolding line_of NoJoins
  line_plain p q es = go (le (whole 0) s.offset)
    where
      go : (b : Bool) → NoJoins es → Plain (cond b (line_through s.transform p q) (line_through s.transform q p) ∷ es)
      go true h = record { joins = h; some = omega arith }
      go false h = record { joins = h; some = omega arith }

  lines_plain : (f : Fit) (m i : ℕ) (at end : Vec2) → Plain (lines_of s f m i at end)
  unfolding lines_of NoJoins
  lines_plain f zero i at end = line_plain at end [] tt
  lines_plain f (suc m) i at end = line_plain at (place_of f i) (lines_of s f m (i + 1) (place_of f i) end) (lines_plain f m (i + 1) (place_of f i) end).joins

  range_plain : (f : Fit) (at end : Vec2) → Plain (range_of s f at end)
  unfolding range_of NoJoins
  range_plain f at end = go (is_nan f.n)
    where
      go : (b : Bool) → Plain (cond b (no_count ∷ []) (lines_of s f (to_unsigned 32 f.n - 1) 1 at end))
      go true = record { joins = tt; some = omega arith }
      go false = lines_plain f (to_unsigned 32 f.n - 1) 1 at end

  abbrev Walked : ℕ → ℕ → Front → Trail → Type 0
  Walked d u f t = Plain (flatten t.ranges)

  leaf : (d u : ℕ) (f : Front) → Walked d u f (accepted s f (tip_of s d u))
  unfolding accepted flatten
  leaf d u f = rw append-nil (range_plain _ f.at _)

  join : (d u : ℕ) (f : Front) (a : Trail) (b : Front → Trail) → Walked d (u * 2) f a → Walked d (u * 2 + 1) a.front (b a.front) → Walked (suc d) u f (onward a b)
  unfolding onward
  join d u f a b h k = rw flatten_append (plain_append (flatten a.ranges) (flatten (b a.front).ranges) h k)

  side_plain : is_point s.points ≡ false → Plain (side_events s)
  unfolding side_events
  side_plain h = rw h (walks s Walked leaf join 16 0 _)

-- ---- a line that is no number, or a count that is none, before any join
data Spoilt : List Event → Type 0 where
  no_count_lem : {es : List Event} → Spoilt (no_count ∷ es)
  no_number : {p q : Vec2} {es : List Event} → has_nan p || has_nan q ≡ true → Spoilt (line p q ∷ es)
  later : {p q : Vec2} {es : List Event} → Spoilt es → Spoilt (line p q ∷ es)

or_right : (a b : Bool) → b ≡ true → a || b ≡ true
or_right true b h = refl
or_right false b h = h

spoilt_start : (a b : Vec2) (es : List Event) → Plain es → Chain false a b es → has_nan a ≡ true → Spoilt es
unfolding Chain NoJoins
spoilt_start a b [] h c n = absurd (omega (arith, h.some))
spoilt_start a b (line p q ∷ es) h c n = no_number (ap (λ (x : Bool). x || has_nan q) (ap has_nan c.0 ∙ n))
spoilt_start a b (no_count ∷ es) h c n = no_count_lem
spoilt_start a b (no_join ∷ es) h c n = absurd h.joins

spoilt_end : (a b : Vec2) (es : List Event) → NoJoins es → Chain false a b es → has_nan b ≡ true → (has_nan a ≡ true) ⊎ Spoilt es
unfolding Chain NoJoins
spoilt_end a b [] h c n = inl (ap has_nan c ∙ n)
spoilt_end a b (line p q ∷ es) h c n = inr (⊎_elim (λ k. no_number (or_right (has_nan p) (has_nan q) k)) later (spoilt_end q b es h c.1 n))
spoilt_end a b (no_count ∷ es) h c n = inr no_count_lem
spoilt_end a b (no_join ∷ es) h c n = absurd h

ends_spoilt : (a b : Vec2) (es : List Event) → Plain es → Chain false a b es → has_nan b ≡ true → Spoilt es
ends_spoilt a b es h c n = ⊎_elim (spoilt_start a b es h c) (λ s. s) (spoilt_end a b es h.joins c n)

-- ---- it is refused

-- by 5, by 8 where a count is none, or by 6 for want of room
pub data Refused (ws : List ℕ) : Drawn → Type 0 where
  not_number : (at : LineEnd) (n : ℕ) → Refused ws (halt (NotNumber at) n)
  count_is_none : (n : ℕ) → Refused ws (halt NoCount n)
  no_room_lem : (n : ℕ) → has_room ws n ≡ false → Refused ws (halt NoRoom n)

same_room : (ws ws' : List ℕ) (n : ℕ) → length ws' ≡ length ws → has_room ws' n ≡ has_room ws n
unfolding has_room
same_room ws ws' n e = ap (λ (k : ℕ). ltb n 4294967295 && ltb n (k / 6)) e

as_before : (ws ws' : List ℕ) {d : Drawn} → length ws' ≡ length ws → Refused ws' d → Refused ws d
as_before ws ws' e (not_number at n) = not_number at n
as_before ws ws' e (count_is_none n) = count_is_none n
as_before ws ws' e (no_room_lem n h) = no_room_lem n (sym (same_room ws ws' n e) ∙ h)

module _ (path : ℕ) where
  stopped : (ws : List ℕ) (d : Drawn) (es : List Event) → is_stopped d ≡ true → Refused ws d → Refused ws (draw_all path (sheet ws d) es).drawn
  stopped ws d es h r = subst (λ (s : Sheet). Refused ws s.drawn) (absorbs path ws d es h) r

  line_refused : (ws : List ℕ) (pen : Pen) (p q : Vec2) (es : List Event) (s t u : Bool) → has_room ws pen.count ≡ u → (s || t ≡ true) ⊎ ((ws : List ℕ) (pen : Pen) → Refused ws (draw_all path (sheet ws (Ok pen)) es).drawn)
      → Refused ws (draw_all path (stored s t u path ws pen p q) es).drawn
  unfolding stored is_stopped
  line_refused ws pen p q es true t u h r = stopped ws (halt (NotNumber Start) pen.count) es refl (not_number Start pen.count)
  line_refused ws pen p q es false true u h r = stopped ws (halt (NotNumber End) pen.count) es refl (not_number End pen.count)
  line_refused ws pen p q es false false false h r = stopped ws (halt NoRoom pen.count) es refl (no_room_lem pen.count h)
  line_refused ws pen p q es false false true h (inl e) = let z : ◌≡◌ {A = ℕ} 0 1 = cc in absurd (omega arith)
  line_refused ws pen p q es false false true h (inr rest) =
      let ws' = sets ws (pen.count * 6) (record_of path pen.tag p q) in
      as_before ws ws' (length-sets ws (pen.count * 6) (record_of path pen.tag p q)) (rest ws' (pen_behind pen p q))

  spoilt_refused : {es : List Event} → Spoilt es → (ws : List ℕ) (pen : Pen) → Refused ws (draw_all path (sheet ws (Ok pen)) es).drawn
  unfolding draw_all draw draw_on is_stopped
  spoilt_refused (no_count_lem {es}) ws pen = stopped ws (halt NoCount pen.count) es refl (count_is_none pen.count)
  spoilt_refused (no_number {p} {q} {es} h) ws pen = line_refused ws pen p q es (has_nan p) (has_nan q) (has_room ws pen.count) refl (inl h)
  spoilt_refused (later {p} {q} {es} s) ws pen = line_refused ws pen p q es (has_nan p) (has_nan q) (has_room ws pen.count) refl (inr (spoilt_refused s))

-- ---- an infinite point

abbrev pub NotFinite : Vec2 → Type 0
NotFinite p = T (not (finite p.x)) ⊎ T (not (finite p.y))

module _ (cubic : List Vec2) (z : List Float) (offset : Float) (start end : Vec2) (device : eq offset (whole 0) ≡ true) (apart : is_point (device_side cubic z offset).points ≡ false) where
  plain : Plain (euler_events cubic z offset start end)
  unfolding euler_events
  plain = rw device (side_plain (device_side cubic z offset) apart)

  no_number_at : (p : Vec2) → NotFinite (apply_of z p) → has_nan (written z p) ≡ true
  no_number_at p h = is_true (has_nan (written z p)) (identity_not_finite (apply_of z p) h)

  spoilt : NotFinite (apply_of z (point cubic 0)) ⊎ NotFinite (apply_of z (point cubic 3)) → Spoilt (euler_events cubic z offset start end)
  spoilt (inl h) = spoilt_start _ _ _ plain (fill_chain cubic z offset start end device) (no_number_at (point cubic 0) h)
  spoilt (inr h) = ends_spoilt _ _ _ plain (fill_chain cubic z offset start end device) (no_number_at (point cubic 3) h)

  pub infinite_refused : NotFinite (apply_of z (point cubic 0)) ⊎ NotFinite (apply_of z (point cubic 3))
      → (path : ℕ) (ws : List ℕ) (pen : Pen) → Refused ws (draw_all path (sheet ws (Ok pen)) (euler_events cubic z offset start end)).drawn
  infinite_refused h path ws pen = spoilt_refused path (spoilt h) ws pen
