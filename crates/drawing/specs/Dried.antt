-- A page dries to the sheet: events drawn with a box of floats leave what specs/Sheet.antt says, the box too, since floors and ceilings rise with the number. Assumes nothing.
use Rattle.std.specs.Prelude.{Ok, Err, ℕ, ◌≤◌, ◌≡◌, Bool, not, ◌||◌, List, [], ◌∷◌, T, ltb, ℤ, pos, negsuc, Float}
use Rattle.std.proofs.Math.Path.{refl}
use Rattle.std.proofs.Common.{sym, ap, ◌∙◌, subst, arith, nltb→le}
use Rattle.std.proofs.Math.Bool.{true, false, cond}
use Rattle.std.specs.Int.Signed.{lt_z}
use Rattle.std.specs.Float.Ieee.{lt, is_nan, to_signed}
use Rattle.maths.specs.Numbers.{floor_of, ceil_of, lt_once, floor_rises, ceil_rises, floor_above, ceil_below}
use Rattle.spiral.specs.declared.util.Vec2.{Vec2}
use Rattle.spiral.specs.Util.{has_nan}
use Rattle.drawing.specs.Sheet.{IntBbox, Event, line, no_count, no_join, lower_of, higher_of, empty_box, box_with, Sheet, sheet, has_room, stored, draw_on, draw, draw_all}
use Rattle.drawing.specs.Page.{Reach, lesser_of, greater_of, empty_reach, reach_with, whole_box, Ink, pen_of, dried_of, Page, inked, ink_on, ink_event, ink_all}
use Rattle.drawing.specs.declared.line.Nib.{Nib}

abbrev IsNumber : Float → Type 0
IsNumber x = T (not (is_nan x))

-- ---- of two integers, neither below the other
not_less : (a b : ℕ) → ltb a b ≡ false → b ≤ a
not_less a b e = nltb→le a b (subst (λ (z : Bool). T (not z)) (sym e) tt)

same : (a b : ℕ) → ltb a b ≡ false → ltb b a ≡ false → a ≡ b
same a b h k = let l = not_less a b h in let m = not_less b a k in omega arith

clash : {A : Type 0} → true ≡ false → A
clash e = let z : ◌≡◌ {A = ℕ} 0 1 = cc in absurd (omega arith)

pub level : (i j : ℤ) → lt_z i j ≡ false → lt_z j i ≡ false → i ≡ j
level (pos a) (pos b) h k = ap pos (same a b h k)
level (pos a) (negsuc b) h k = clash k
level (negsuc a) (pos b) h k = clash h
level (negsuc a) (negsuc b) h k = ap negsuc (same a b k h)

-- the lower one, or the higher one, where it is known
lower_is : (i j : ℤ) → lt_z i j ≡ false → j ≡ cond (lt_z j i) j i
lower_is i j h = go (lt_z j i) refl
  where
    go : (t : Bool) → lt_z j i ≡ t → j ≡ cond t j i
    go true k = refl
    go false k = sym (level i j h k)

higher_is : (i j : ℤ) → lt_z j i ≡ false → j ≡ cond (lt_z i j) j i
higher_is i j h = go (lt_z i j) refl
  where
    go : (t : Bool) → lt_z i j ≡ t → j ≡ cond t j i
    go true k = refl
    go false k = sym (level i j k h)

-- ---- the floor of the lesser is the lower floor, the ceiling of the greater the higher ceiling
module _ (a b : Float) (A : IsNumber a) (B : IsNumber b) where
  abbrev floor : Float → ℤ
  floor x = to_signed 31 (floor_of x)

  abbrev ceil : Float → ℤ
  ceil x = to_signed 31 (ceil_of x)

  floor_of_lesser : floor (lesser_of a b) ≡ lower_of (floor a) (floor b)
  unfolding lesser_of lower_of
  floor_of_lesser = go (lt b a) refl
    where
      go : (t : Bool) → lt b a ≡ t → floor (cond t b a) ≡ cond (lt_z (floor b) (floor a)) (floor b) (floor a)
      go true e = lower_is (floor a) (floor b) (floor_rises 31 b a B A (lt_once b a B A e))
      go false e = rw (floor_rises 31 a b A B e) refl

  ceil_of_greater : ceil (greater_of a b) ≡ higher_of (ceil a) (ceil b)
  unfolding greater_of higher_of
  ceil_of_greater = go (lt a b) refl
    where
      go : (t : Bool) → lt a b ≡ t → ceil (cond t b a) ≡ cond (lt_z (ceil a) (ceil b)) (ceil b) (ceil a)
      go true e = higher_is (ceil a) (ceil b) (ceil_rises 31 a b A B (lt_once a b A B e))
      go false e = rw (ceil_rises 31 b a B A e) refl

  picked : (t : Bool) → IsNumber (cond t b a)
  picked true = B
  picked false = A

  lesser_number : IsNumber (lesser_of a b)
  unfolding lesser_of
  lesser_number = picked (lt b a)

  greater_number : IsNumber (greater_of a b)
  unfolding greater_of
  greater_number = picked (lt a b)

-- ---- the box
pub record Clean (r : Reach) : Type 0 where
  pub left : IsNumber r.x0
  pub top : IsNumber r.y0
  pub right : IsNumber r.x1
  pub bottom : IsNumber r.y1

pub empty_clean : Clean empty_reach
unfolding empty_reach is_nan
empty_clean = record { left = tt; top = tt; right = tt; bottom = tt }

pub empty_whole : whole_box empty_reach ≡ empty_box
unfolding whole_box empty_reach empty_box
empty_whole = rw (floor_above 31, ceil_below 31) refl

record Point (p : Vec2) : Type 0 where
  over : IsNumber p.x
  down : IsNumber p.y

point : (p : Vec2) → has_nan p ≡ false → Point p
unfolding has_nan
point p h = go (is_nan p.x) (is_nan p.y) refl refl h
  where
    go : (s t : Bool) → is_nan p.x ≡ s → is_nan p.y ≡ t → (s || t) ≡ false → Point p
    go true t e f h = clash h
    go false true e f h = clash h
    go false false e f h = record { over = subst (λ (z : Bool). T (not z)) (sym e) tt; down = subst (λ (z : Bool). T (not z)) (sym f) tt }

module _ (r : Reach) (p : Vec2) (c : Clean r) (d : Point p) where
  clean_with : Clean (reach_with r p)
  unfolding reach_with
  clean_with =
      record {
        left = lesser_number r.x0 p.x c.left d.over;
        top = lesser_number r.y0 p.y c.top d.down;
        right = greater_number r.x1 p.x c.right d.over;
        bottom = greater_number r.y1 p.y c.bottom d.down;
      }

  whole_with : whole_box (reach_with r p) ≡ box_with (whole_box r) p
  unfolding whole_box reach_with box_with
  whole_with =
      rw (floor_of_lesser r.x0 p.x c.left d.over, floor_of_lesser r.y0 p.y c.top d.down, ceil_of_greater r.x1 p.x c.right d.over, ceil_of_greater r.y1 p.y c.bottom d.down)
      refl

-- ---- one event

-- a nib on the path, whose box takes numbers alone
abbrev pub Dries : ℕ → Ink → Type 0
Dries path (Ok nib) = (nib.path ≡ path) × Clean nib.reach
Dries path (Err s) = T true

abbrev pub dried_page : Page → Sheet
dried_page s = sheet s.words (dried_of s.ink)

module _ (ws : List ℕ) (nib : Nib) (p q : Vec2) (c : Clean nib.reach) where
  both_whole : Point p → Point q → whole_box (reach_with (reach_with nib.reach p) q) ≡ box_with (box_with (whole_box nib.reach) p) q
  both_whole h k = whole_with (reach_with nib.reach p) q (clean_with nib.reach p c h) k ∙ ap (λ (b : IntBbox). box_with b q) (whole_with nib.reach p c h)

  line_dries : (s t u : Bool) → has_nan p ≡ s → has_nan q ≡ t → dried_page (inked s t u ws nib p q) ≡ stored s t u nib.path ws (pen_of nib) p q
  unfolding inked stored dried_of pen_of
  line_dries true t u h k = refl
  line_dries false true u h k = refl
  line_dries false false false h k = refl
  line_dries false false true h k = rw (both_whole (point p h) (point q k)) refl

  line_clean : (s t u : Bool) → has_nan p ≡ s → has_nan q ≡ t → Dries nib.path (inked s t u ws nib p q).ink
  unfolding inked
  line_clean true t u h k = tt
  line_clean false true u h k = tt
  line_clean false false false h k = tt
  line_clean false false true h k = (refl, clean_with (reach_with nib.reach p) q (clean_with nib.reach p c (point p h)) (point q k))

on_dries : (ws : List ℕ) (nib : Nib) (e : Event) → Clean nib.reach → dried_page (ink_on ws nib e) ≡ draw_on nib.path ws (pen_of nib) e
unfolding ink_on draw_on dried_of pen_of
on_dries ws nib (line p q) c = line_dries ws nib p q c (has_nan p) (has_nan q) (has_room ws nib.count) refl refl
on_dries ws nib no_count c = refl
on_dries ws nib no_join c = refl

on_clean : (ws : List ℕ) (nib : Nib) (e : Event) → Clean nib.reach → Dries nib.path (ink_on ws nib e).ink
unfolding ink_on
on_clean ws nib (line p q) c = line_clean ws nib p q c (has_nan p) (has_nan q) (has_room ws nib.count) refl refl
on_clean ws nib no_count c = tt
on_clean ws nib no_join c = tt

event_dries : (path : ℕ) (ws : List ℕ) (d : Ink) (e : Event) → Dries path d → dried_page (ink_event ws d e) ≡ draw path ws (dried_of d) e
unfolding ink_event draw dried_of
event_dries path ws (Ok nib) e c = on_dries ws nib e c.1 ∙ ap (λ (k : ℕ). draw_on k ws (pen_of nib) e) c.0
event_dries path ws (Err s) e c = refl

event_clean : (path : ℕ) (ws : List ℕ) (d : Ink) (e : Event) → Dries path d → Dries path (ink_event ws d e).ink
unfolding ink_event
event_clean path ws (Ok nib) e c = subst (λ (k : ℕ). Dries k (ink_on ws nib e).ink) c.0 (on_clean ws nib e c.1)
event_clean path ws (Err s) e c = tt

-- ---- all events
pub all_dries : (path : ℕ) (s : Page) (es : List Event) → Dries path s.ink → dried_page (ink_all s es) ≡ draw_all path (dried_page s) es
unfolding ink_all draw_all
all_dries path s [] c = refl
all_dries path s (e ∷ es) c =
    all_dries path (ink_event s.words s.ink e) es (event_clean path s.words s.ink e c)
    ∙ ap (λ (z : Sheet). draw_all path z es) (event_dries path s.words s.ink e c)
