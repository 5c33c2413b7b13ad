-- What the proofs of the commands share: lists of words, the test of their numbers, and the answers by their tests. Assumes nothing.
use Prim.Native.Nat.{ℕ, suc, ◌+◌, ◌-◌, ◌*◌, ◌<◌, ◌≤◌}
use mathlib.Core.Path.{◌≡◌, refl, sym, ap, ◌∙◌}
use mathlib.Core.Logic.{◌⊎◌, inl, inr}
use mathlib.Core.Bool.{Bool, true, false, ◌&&◌}
use mathlib.Core.List.{List, [], ◌∷◌, ◌++◌}
use native.Mathlib.Omega.{arith}
use lib.Dec.{leb}
use borrow.Author.Tests.{le-leb, lt-leb, leb-true}
use lib.ListN.{length, get_or, set, take, drop, length-take, length-append}
use lib.Seq.{sets, length-sets, take-suc, drop-cons}
use lib.Ieee.{binary32, of_bits}
use lib.Ieee.Scale.{finite}
use Rattle.scene.specs.Reading.{all_finite}
use Rattle.pattern.specs.Commands.{same, Answer, words_of, floats_of, numbers, finishing, ended, Ink, end_bit, behind, fits, Outcome, outcome, counted, written, inked, end, move, may_draw, place_of, ink_of, named, command_of}
use Rattle.pattern.specs.Drawn.{drawn_to, verdict_of, soundly, drawn_by}
use Rattle.pattern.specs.Encoded.{both_true, words_append}
use Rattle.pattern.specs.declared.pen.Spot.{Spot}
use Rattle.pattern.specs.declared.pen.Open.{Open}
use Rattle.pattern.specs.declared.pen.Open.TheVariants.{Nothing, Moved, Drawing}
use Rattle.pattern.specs.declared.pen.Place.{Place}
use Rattle.pattern.specs.declared.pen.Pen.{Pen}
use Rattle.std.specs.Prelude.{Result, Ok, Err, IsErrAnd}
use Rattle.pattern.specs.declared.pen.Fault.{Fault}
use Rattle.pattern.specs.declared.pen.Fault.TheVariants.{NoMove, NoRoom, NotFinite}

-- ---- lists

abbrev pub origin : Spot
origin = record { x = 0; y = 0 }

pub words_length : (ps : List Spot) → length (words_of ps) ≡ length ps * 2
unfolding words_of
words_length [] = refl
words_length (p ∷ ps) = let e = words_length ps in omega arith

pub whole_length : (ps qs : List Spot) → (length ps + length qs) * 2 ≡ length (words_of (ps ++ qs))
whole_length ps qs = sym (words_length (ps ++ qs) ∙ simp length-append (omega arith))

-- of points that have room, the next two words
pub next_room : (ps : List Spot) (i k at m : ℕ) → i < length ps → k ≡ at + length (words_of (take i ps)) → at + length (words_of ps) ≤ m → k + 2 ≤ m
next_room ps i k at m h e l =
    let a = words_length ps in
    let b = words_length (take i ps) in
    let c = length-take i ps in
    omega (arith, a, b, c)

-- the same where the words before it are set
pub next_place : (ps : List Spot) (ws vs : List ℕ) (i k at : ℕ)
    → i < length ps → k ≡ at + length (words_of (take i ps)) → vs ≡ sets ws at (words_of (take i ps)) → at + length (words_of ps) ≤ length ws → k + 2 ≤ length vs
next_place ps ws vs i k at h e w l =
    let long : length vs ≡ length ws = rw w (length-sets ws at (words_of (take i ps))) in
    let next = next_room ps i k at (length ws) h e l in
    omega (arith, long, next)

sets_more : (vs l : List ℕ) (i a : ℕ) → set (sets l i vs) (i + length vs) a ≡ sets l i (vs ++ (a ∷ []))
sets_more [] l i a = let e : i + 0 ≡ i = omega arith in ap (λ (k : ℕ). set l k a) e
sets_more (v ∷ vs) l i a =
    let e : i + suc (length vs) ≡ suc i + length vs = omega arith in
    ap (λ (k : ℕ). set (sets l i (v ∷ vs)) k a) e ∙ sets_more vs (set l i v) (suc i) a

-- behind the words that are set
pub sets_behind : (vs us l : List ℕ) (i j : ℕ) → j ≡ i + length vs → sets (sets l i vs) j us ≡ sets l i (vs ++ us)
sets_behind [] us l i j e = let f : j ≡ i = omega arith in ap (λ (k : ℕ). sets l k us) f
sets_behind (v ∷ vs) us l i j e = sets_behind vs us (set l i v) (suc i) j (omega arith)

-- one more of the points
pub one_put : (l : List ℕ) (ps : List Spot) (at i k : ℕ) → i < length ps → k ≡ at + length (words_of (take i ps))
    → set (set (sets l at (words_of (take i ps))) k (get_or ps i origin).x) (k + 1) (get_or ps i origin).y ≡ sets l at (words_of (take (i + 1) ps))
unfolding words_of
one_put l ps at i k h e =
    let p = get_or ps i origin in
    let next : k + 1 ≡ suc k = omega arith in
    let more : i + 1 ≡ suc i = omega arith in
    rw (next, more)
    (sets_behind (words_of (take i ps)) (p.x ∷ p.y ∷ []) l at k e
    ∙ ap (sets l at) (sym (ap words_of (take-suc ps i origin h) ∙ words_append (take i ps) (p ∷ []))))

-- ---- whether points are numbers

and_assoc : (a b c : Bool) → a && (b && c) ≡ (a && b) && c
and_assoc true b c = refl
and_assoc false b c = refl

pub given : (a b : Bool) → a ≡ true → a && b ≡ b
given a b e = rw e

pub barred : (a b : Bool) → a ≡ false → a && b ≡ false
barred a b e = rw e

pub one_of_them : (ps : List Spot) (i : ℕ) → i < length ps
    → let p = get_or ps i origin in numbers (words_of (drop i ps)) ≡ (finite (of_bits binary32 p.x) && finite (of_bits binary32 p.y)) && numbers (words_of (drop (i + 1) ps))
unfolding words_of floats_of all_finite
one_of_them ps i h =
    let p = get_or ps i origin in
    let more : i + 1 ≡ suc i = omega arith in
    rw more (ap (λ (ps : List Spot). numbers (words_of ps)) (drop-cons ps i origin h)
    ∙ and_assoc (finite (of_bits binary32 p.x)) (finite (of_bits binary32 p.y)) (numbers (words_of (drop (suc i) ps))))

-- ---- room

both : (a b : Bool) → a ≡ true → b ≡ true → a && b ≡ true
both true b h k = k
both false b h k = h

first_not : (a b : Bool) → a ≡ false → a && b ≡ false
first_not true b h = let z : ◌≡◌ {A = ℕ} 0 1 = cc in absurd (omega arith)
first_not false b h = refl

second_not : (a b : Bool) → b ≡ false → a && b ≡ false
second_not true b h = h
second_not false b h = refl

-- what is accepted is sound and has room
pub accepts : (s t : Bool) {x : Unit {0}} → Ok x ≡ verdict_of s t → (s ≡ true) × (t ≡ true)
unfolding verdict_of
accepts false t e = let z : ◌≡◌ {A = ℕ} 0 1 = cc in absurd (omega arith)
accepts true false e = let z : ◌≡◌ {A = ℕ} 0 1 = cc in absurd (omega arith)
accepts true true e = (refl, refl)

-- as the code comes to know it, from what the verdict answered
pub granted : (s : Bool) (r : Bool) (v : Answer) (t l p n m : ℕ) {x : Unit {0}} → r ≡ leb (t + 1) l && leb (p + n) m → v ≡ verdict_of s r → v ≡ Ok x → (t + 1 ≤ l) × (p + n ≤ m)
granted s r v t l p n m e f g =
    let k = both_true _ _ (sym e ∙ (accepts s r (sym g ∙ f)).1) in
    (leb-true _ _ k.0, leb-true _ _ k.1)

-- a refusal that is passed on
pub passed_on : {T E : Type 0} (r : Result T E) (e : E) → IsErrAnd r (λ d. d ≡ e) → r ≡ Err e
passed_on (Ok x) e h = absurd h
passed_on (Err d) e h = ap Err h

module _ (pen : Pen) (then : Place) (tags points : List ℕ) where
  refused : (ink : Ink) → fits pen ink tags points ≡ false → outcome (Err NoRoom) pen tags points ≡ inked pen then ink tags points
  unfolding inked
  refused ink e = rw e

  stored : (ink : Ink) → fits pen ink tags points ≡ true → written pen then ink tags points ≡ inked pen then ink tags points
  unfolding inked
  stored ink e = rw e

  -- the end bit: no tag is counted, or the last lies behind those lent, or it stands there
  pub none_counted : pen.tags ≡ 0 → outcome (Err NoRoom) pen tags points ≡ inked pen then end_bit tags points
  unfolding fits
  none_counted e = refused end_bit (first_not (leb 1 pen.tags) (leb pen.tags (length tags)) (lt-leb 1 pen.tags (omega arith)))

  pub not_lent : length tags ≤ pen.tags - 1 → (pen.tags ≡ 0 → ⊥) → outcome (Err NoRoom) pen tags points ≡ inked pen then end_bit tags points
  unfolding fits
  not_lent h n = refused end_bit (second_not (leb 1 pen.tags) (leb pen.tags (length tags)) (lt-leb pen.tags (length tags) (omega (arith, n))))

  pub is_lent : (last : ℕ) → pen.tags - 1 < length tags → (pen.tags ≡ 0 → ⊥) → last ≡ ended (get_or tags (pen.tags - 1) 0)
      → outcome (Ok tt) (counted then pen.tags pen.points) (set tags (pen.tags - 1) last) points ≡ inked pen then end_bit tags points
  unfolding fits written
  is_lent last h n e =
      rw e
      (stored end_bit (both (leb 1 pen.tags) (leb pen.tags (length tags)) (le-leb 1 pen.tags (omega (arith, n))) (le-leb pen.tags (length tags) (omega (arith, n)))))

  -- a tag and its words: refused by the verdict, or written
  module _ (tag : ℕ) (ws : List ℕ) where
    abbrev Room : Bool
    Room = leb (pen.tags + 1) (length tags) && leb (pen.points + length ws) (length points)

    abbrev Spec : Bool → Outcome
    Spec sound = soundly sound pen then (behind tag ws) tags points

    by_room : (t : Bool) → Room ≡ t → fits pen (behind tag ws) tags points ≡ t
    unfolding fits
    by_room t e = e

    pub no_verdict : (sound : Bool) (fault : Fault) → Err fault ≡ verdict_of sound Room → outcome (Err fault) pen tags points ≡ Spec sound
    unfolding soundly verdict_of
    no_verdict sound fault e = go sound Room refl e
      where
        go : (s t : Bool) → Room ≡ t → Err fault ≡ verdict_of s t → outcome (Err fault) pen tags points ≡ Spec s
        go false t f e = ap (λ (a : Answer). outcome a pen tags points) e
        go true false f e = ap (λ (a : Answer). outcome a pen tags points) e ∙ refused (behind tag ws) (by_room false f)
        go true true f e = let z : ◌≡◌ {A = ℕ} 0 1 = cc in absurd (omega arith)

    pub added : (sound : Bool) {x : Unit {0}} → Ok x ≡ verdict_of sound Room → written pen then (behind tag ws) tags points ≡ Spec sound
    unfolding soundly
    added sound e =
        let k = accepts sound Room e in
        rw k.0 (stored (behind tag ws) (by_room true k.1))

-- ---- a segment

module _ (pen : Pen) (tag : ℕ) (ps : List Spot) (to : Spot) (tags points : List ℕ) where
  abbrev There : Outcome → Type 0
  There o = o ≡ drawn_by pen.place.opened pen tag (words_of ps) to tags points

  here : (s : Open) (o : Outcome) → pen.place.opened ≡ s → o ≡ drawn_by s pen tag (words_of ps) to tags points → There o
  here s o e h = h ∙ ap (λ (s : Open). drawn_by s pen tag (words_of ps) to tags points) (sym e)

  pub nothing_open : pen.place.opened ≡ Nothing → There (outcome (Err NoMove) pen tags points)
  unfolding drawn_by
  nothing_open e = here Nothing (outcome (Err NoMove) pen tags points) e refl

  abbrev Added : Bool → List Spot → Outcome → Type 0
  Added sound start o = o ≡ soundly sound pen (drawn_to pen to) (behind tag (words_of (start ++ ps))) tags points

  pub first_drawn : (sound : Bool) (o : Outcome) → pen.place.opened ≡ Moved → sound ≡ numbers (words_of ps) → Added sound (pen.place.first ∷ []) o → There o
  unfolding drawn_by words_of
  first_drawn sound o e f h = here Moved o e (rw (sym f) h)

  pub more_drawn : (sound : Bool) (o : Outcome) → pen.place.opened ≡ Drawing → sound ≡ numbers (words_of ps) → Added sound [] o → There o
  unfolding drawn_by
  more_drawn sound o e f h = here Drawing o e (rw (sym f) h)

-- ---- the end of a subpath

module _ (pen : Pen) (then : Place) (tags points : List ℕ) where
  abbrev Finished : Open → Bool → Outcome → Type 0
  Finished s t o = o ≡ inked pen then (finishing s t pen.place.first) tags points

  abbrev Finishes : Outcome → Type 0
  Finishes o = Finished pen.place.opened (same pen.place.last pen.place.first) o

  due : (s : Open) (t : Bool) (o : Outcome) → pen.place.opened ≡ s → same pen.place.last pen.place.first ≡ t → Finished s t o → Finishes o
  due s t o e f h =
      h
      ∙ ap (λ (s : Open). inked pen then (finishing s t pen.place.first) tags points) (sym e)
      ∙ ap (λ (t : Bool). inked pen then (finishing pen.place.opened t pen.place.first) tags points) (sym f)

  pub nothing_due : (pen.place.opened ≡ Nothing) ⊎ (pen.place.opened ≡ Moved) → Finishes (outcome (Ok tt) (counted then pen.tags pen.points) tags points)
  unfolding finishing inked fits written
  nothing_due (inl e) = due Nothing (same pen.place.last pen.place.first) _ e refl refl
  nothing_due (inr e) = due Moved (same pen.place.last pen.place.first) _ e refl refl

  pub end_due : (o : Outcome) → pen.place.opened ≡ Drawing → same pen.place.last pen.place.first ≡ true → o ≡ inked pen then end_bit tags points → Finishes o
  unfolding finishing
  end_due o e f h = due Drawing true o e f h

  pub line_due : (o : Outcome) → pen.place.opened ≡ Drawing → same pen.place.last pen.place.first ≡ false
      → o ≡ inked pen then (behind 0x0d (words_of (pen.place.first ∷ []))) tags points → Finishes o
  unfolding finishing
  line_due o e f h = due Drawing false o e f h

-- ---- a move and an end, which are never refused with 20

module _ (pen : Pen) (tags points : List ℕ) where
  abbrev due_ink : Ink
  due_ink = finishing pen.place.opened (same pen.place.last pen.place.first) pen.place.first

  may_end : (s : Open) → may_draw s end ≡ true
  unfolding may_draw
  may_end Nothing = refl
  may_end Moved = refl
  may_end Drawing = refl

  may_move : (s : Open) (p : Spot) → may_draw s (move p) ≡ true
  unfolding may_draw
  may_move Nothing p = refl
  may_move Moved p = refl
  may_move Drawing p = refl

  pub ends : inked pen (place_of pen.place end) due_ink tags points ≡ command_of pen end tags points
  unfolding command_of named words_of floats_of all_finite ink_of
  ends = rw (may_end pen.place.opened)

  pub bad_move : (p : Spot) → numbers (words_of (p ∷ [])) ≡ false → outcome (Err NotFinite) pen tags points ≡ command_of pen (move p) tags points
  unfolding command_of named
  bad_move p e = rw (may_move pen.place.opened p, e)

  pub moves : (p : Spot) → numbers (words_of (p ∷ [])) ≡ true → inked pen (place_of pen.place (move p)) due_ink tags points ≡ command_of pen (move p) tags points
  unfolding command_of named ink_of
  moves p e = rw (may_move pen.place.opened p, e)
