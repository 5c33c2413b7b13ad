-- The buffers hold the encoding of what the accepted commands mean, whatever was refused between them. Assumes nothing.
use Rattle.std.specs.Prelude.{ℕ, ◌+◌, ◌-◌, ◌≤◌, Bool, ◌&&◌, cond, leb, eqb, get_or, set, take, drop, Ok, Err}
use Rattle.std.proofs.Math.Path.{◌≡◌, refl, sym, ap, subst}
use Rattle.std.proofs.Common.{◌∙◌, length-append, length-drop, take_at, drop_at, drop-drop, leb-true}
use Rattle.std.proofs.Math.Bool.{true, false}
use mathlib.Core.List.{List, [], ◌∷◌, ◌++◌, map, append_assoc, append-nil}
use native.Mathlib.Omega.{arith}
use Rattle.std.proofs.Math.ListN.{length}
use Rattle.std.proofs.lemmas.List.Edits.{sets, sets-eq}
use Rattle.std.proofs.lemmas.List.{get_or_at, set_at}
use Rattle.pattern.specs.Commands.{same, words_of, numbers, Segment, line, quad, cubic, spots, target, tag_of, Command, move, draw, end, Ink, none, end_bit, behind, finishing, start_of, ink_of, place_of, ended, fits, Answer, number_of, Outcome, outcome, written, inked, may_draw, named, command_of}
use Rattle.pattern.specs.Meaning.{Subpath, subpath, end_of, closing, Unfinished, nothing, begun, finished_by, finished, goes_on, meant, segment_tags, all_spots, tags_of, points_of, fresh, after, kept, accepted}
use Rattle.pattern.specs.declared.pen.Spot.{Spot}
use Rattle.pattern.specs.declared.pen.Open.{Open}
use Rattle.pattern.specs.declared.pen.Open.TheVariants.{Nothing, Moved, Drawing}
use Rattle.pattern.specs.declared.pen.Place.{Place}
use Rattle.pattern.specs.declared.pen.Pen.{Pen}
use Rattle.pattern.specs.declared.pen.Fault.{Fault}
use Rattle.pattern.specs.declared.pen.Fault.TheVariants.{NoMove, NoRoom, NotFinite}

pub both_true : (a b : Bool) → a && b ≡ true → (a ≡ true) × (b ≡ true)
both_true true b h = (refl, h)
both_true false b h = let z : ◌≡◌ {A = ℕ} 0 1 = cc in absurd (omega arith)

-- ---- a buffer whose first words are written

-- n of the lent words are written, with W; the others are as lent
pub record Holds (W lent now : List ℕ) (n : ℕ) : Type 0 where
  pub count : n ≡ length W
  pub words : now ≡ W ++ drop (length W) lent
  pub room : length W ≤ length lent

module _ {W lent now : List ℕ} {n : ℕ} (h : Holds W lent now n) where
  holds_length : length now ≡ length lent
  holds_length = ap length h.words ∙ length-append W (drop (length W) lent) ∙ omega (arith, length-drop (length W) lent, h.room)

  -- U is written behind
  holds_more : (U : List ℕ) → n + length U ≤ length now → Holds (W ++ U) lent (sets now n U) (n + length U)
  holds_more U l =
      let size : length (W ++ U) ≡ n + length U = length-append W U ∙ omega (arith, h.count) in
      let front : take n now ≡ W = ap (take n) h.words ∙ take_at W (drop (length W) lent) n (sym h.count) in
      let back : drop (n + length U) now ≡ drop (length (W ++ U)) lent =
      sym (drop-drop (length U) n now)
      ∙ ap (λ (ws : List ℕ). drop (length U) (drop n ws)) h.words
      ∙ ap (drop (length U)) (drop_at W (drop (length W) lent) n (sym h.count))
      ∙ drop-drop (length U) (length W) lent
      ∙ ap (λ (k : ℕ). drop k lent) (sym (length-append W U)) in
      record {
        count = sym size;
        words = sets-eq U now n l ∙ ap (λ (ws : List ℕ). ws ++ U ++ drop (n + length U) now) front ∙ ap (λ (ws : List ℕ). W ++ U ++ ws) back;
        room = omega (arith, size, holds_length);
      }

-- the last word is changed
holds_last : (W lent now : List ℕ) (n w : ℕ) → Holds (W ++ (w ∷ [])) lent now n → (f : ℕ → ℕ)
    → Holds (W ++ (f w ∷ [])) lent (set now (n - 1) (f (get_or now (n - 1) 0))) n
holds_last W lent now n w h f =
    let size : length (W ++ (w ∷ [])) ≡ length W + 1 = length-append W (w ∷ []) in
    let size' : length (W ++ (f w ∷ [])) ≡ length W + 1 = length-append W (f w ∷ []) in
    let place : length W ≡ n - 1 = omega (arith, h.count, size) in
    let rest = drop (length (W ++ (w ∷ []))) lent in
    let is : now ≡ W ++ (w ∷ rest) = h.words ∙ append_assoc W (w ∷ []) rest in
    let there : get_or now (n - 1) 0 ≡ w = ap (λ (ws : List ℕ). get_or ws (n - 1) 0) is ∙ get_or_at W w rest 0 (n - 1) place in
    record {
      count = h.count ∙ size ∙ sym size';
      words =
          ap (λ (v : ℕ). set now (n - 1) (f v)) there
          ∙ ap (λ (ws : List ℕ). set ws (n - 1) (f w)) is
          ∙ set_at W w rest (f w) (n - 1) place
          ∙ ap (λ (k : ℕ). W ++ (f w ∷ drop k lent)) (size ∙ sym size')
          ∙ sym (append_assoc W (f w ∷ []) (drop (length (W ++ (f w ∷ []))) lent));
      room = omega (arith, size, size', h.room);
    }

-- ---- encodings

pub words_append : (ps qs : List Spot) → words_of (ps ++ qs) ≡ words_of ps ++ words_of qs
unfolding words_of
words_append [] qs = refl
words_append (p ∷ ps) qs = ap (λ (ws : List ℕ). p.x ∷ p.y ∷ ws) (words_append ps qs)

pub spots_append : (gs hs : List Segment) → all_spots (gs ++ hs) ≡ all_spots gs ++ all_spots hs
unfolding all_spots
spots_append [] hs = refl
spots_append (g ∷ gs) hs = ap (λ (ps : List Spot). spots g ++ ps) (spots_append gs hs) ∙ sym (append_assoc (spots g) (all_spots gs) (all_spots hs))

-- the points with one segment more
pub spots_more : (p : Spot) (gs : List Segment) (g : Segment) → words_of (p ∷ all_spots (gs ++ (g ∷ []))) ≡ words_of (p ∷ all_spots gs) ++ words_of (spots g)
unfolding all_spots
spots_more p gs g =
    ap (λ (ps : List Spot). words_of (p ∷ ps)) (spots_append gs (g ∷ []) ∙ ap (λ (ps : List Spot). all_spots gs ++ ps) (append-nil (spots g)))
    ∙ words_append (p ∷ all_spots gs) (spots g)

-- they end where their last one does
pub end_more : (p : Spot) (gs : List Segment) (g : Segment) → end_of p (gs ++ (g ∷ [])) ≡ target g
unfolding end_of
end_more p [] g = refl
end_more p (h ∷ gs) g = end_more (target h) gs g

pub tags_append : (ss rs : List Subpath) → tags_of (ss ++ rs) ≡ tags_of ss ++ tags_of rs
unfolding tags_of
tags_append [] rs = refl
tags_append (s ∷ ss) rs =
    ap (λ (ws : List ℕ). segment_tags s.segments ++ ws) (tags_append ss rs) ∙ sym (append_assoc (segment_tags s.segments) (tags_of ss) (tags_of rs))

pub points_append : (ss rs : List Subpath) → points_of (ss ++ rs) ≡ points_of ss ++ points_of rs
unfolding points_of
points_append [] rs = refl
points_append (s ∷ ss) rs =
    ap (λ (ws : List ℕ). words_of (s.start ∷ all_spots s.segments) ++ ws) (points_append ss rs)
    ∙ sym (append_assoc (words_of (s.start ∷ all_spots s.segments)) (points_of ss) (points_of rs))

-- the tags of segments, the last of which does not end the subpath yet
open_tags : List Segment → List ℕ
open_tags gs = map tag_of gs

ended_tag : (g : Segment) → ended (tag_of g) ≡ tag_of g + 0x04
unfolding ended tag_of spots
ended_tag (line p) = refl
ended_tag (quad p q) = refl
ended_tag (cubic p q r) = refl

map_more : (gs : List Segment) (g : Segment) → open_tags (gs ++ (g ∷ [])) ≡ open_tags gs ++ (tag_of g ∷ [])
unfolding open_tags
map_more [] g = refl
map_more (h ∷ gs) g = ap (λ (ws : List ℕ). tag_of h ∷ ws) (map_more gs g)

-- a closing line behind them is the last
last_behind : (g : Segment) (gs : List Segment) (h : Segment) → segment_tags ((g ∷ gs) ++ (h ∷ [])) ≡ open_tags (g ∷ gs) ++ ((tag_of h + 0x04) ∷ [])
unfolding segment_tags open_tags
last_behind g [] h = refl
last_behind g (k ∷ gs) h = ap (λ (ws : List ℕ). tag_of g ∷ ws) (last_behind k gs h)

-- else the end bit is set on their last
holds_ended : (W lent now : List ℕ) (n : ℕ) (g : Segment) (gs : List Segment) → Holds (W ++ open_tags (g ∷ gs)) lent now n
    → Holds (W ++ segment_tags (g ∷ gs)) lent (set now (n - 1) (ended (get_or now (n - 1) 0))) n
unfolding segment_tags open_tags
holds_ended W lent now n g [] h = rw (sym (ended_tag g)) (holds_last W lent now n (tag_of g) h ended)
holds_ended W lent now n g (k ∷ gs) h =
    subst (λ (ws : List ℕ). Holds ws lent (set now (n - 1) (ended (get_or now (n - 1) 0))) n) (append_assoc W (tag_of g ∷ []) (segment_tags (k ∷ gs)))
    (holds_ended (W ++ (tag_of g ∷ [])) lent now n k gs
    (subst (λ (ws : List ℕ). Holds ws lent now n) (sym (append_assoc W (tag_of g ∷ []) (open_tags (k ∷ gs)))) h))

-- ---- one command, by its answer

-- 0 is accepted
pub zero_ok : (answer : Answer) → number_of answer ≡ 0 → answer ≡ Ok tt
unfolding number_of
zero_ok (Ok x) e = refl
zero_ok (Err NoMove) e = absurd (omega (arith, e))
zero_ok (Err NoRoom) e = absurd (omega (arith, e))
zero_ok (Err NotFinite) e = absurd (omega (arith, e))

pub not_zero : (fault : Fault) → eqb (number_of (Err fault)) 0 ≡ false
unfolding number_of
not_zero NoMove = refl
not_zero NoRoom = refl
not_zero NotFinite = refl

module _ (pen : Pen) (command : Command) (tags points : List ℕ) where
  abbrev its_ink : Ink
  its_ink = ink_of pen.place command

  -- a refusal leaves everything; else the three tests hold, and its ink is written
  pub by_answer : (P : Outcome → Type 0)
      → ((answer : Answer) → eqb (number_of answer) 0 ≡ false → P (outcome answer pen tags points))
      → (may_draw pen.place.opened command ≡ true → numbers (named command) ≡ true → fits pen its_ink tags points ≡ true → P (written pen (place_of pen.place command) its_ink tags points))
      → P (command_of pen command tags points)
  unfolding command_of inked number_of
  by_answer P refused done = go (may_draw pen.place.opened command) refl
    where
      room : (t : Bool) → fits pen its_ink tags points ≡ t → may_draw pen.place.opened command ≡ true → numbers (named command) ≡ true
          → P (cond t (written pen (place_of pen.place command) its_ink tags points) (outcome (Err NoRoom) pen tags points))
      room true e f g = done f g e
      room false e f g = refused (Err NoRoom) refl

      sound : (t : Bool) → numbers (named command) ≡ t → may_draw pen.place.opened command ≡ true
          → P (cond t (inked pen (place_of pen.place command) its_ink tags points) (outcome (Err NotFinite) pen tags points))
      sound true e f = room (fits pen its_ink tags points) refl f e
      sound false e f = refused (Err NotFinite) refl

      go : (t : Bool) → may_draw pen.place.opened command ≡ t
          → P (cond t (cond (numbers (named command)) (inked pen (place_of pen.place command) its_ink tags points) (outcome (Err NotFinite) pen tags points)) (outcome (Err NoMove) pen tags points))
      go true e = sound (numbers (named command)) refl e
      go false e = refused (Err NoMove) refl

-- ---- what stands in the buffers while a subpath is open

pending_tags : Unfinished → List ℕ
pending_tags nothing = []
pending_tags (begun s) = open_tags s.segments

started_by : Spot → List Segment → List ℕ
started_by p [] = []
started_by p (g ∷ gs) = words_of (p ∷ all_spots (g ∷ gs))

pending_points : Unfinished → List ℕ
pending_points nothing = []
pending_points (begun s) = started_by s.start s.segments

opened_by : List Segment → Open
opened_by [] = Moved
opened_by (g ∷ gs) = Drawing

-- the pen stands where what is open ends
data At : Unfinished → Place → Type 0 where
  rests : (p q : Spot) → At nothing (record { opened = Nothing; first = p; last = q })
  stands : (p : Spot) (gs : List Segment) → At (begun (subpath p gs)) (record { opened = opened_by gs; first = p; last = end_of p gs })

module _ (lent lent' : List ℕ) where
  -- W is written to the tags and Z to the points
  record Both (W Z : List ℕ) (o : Outcome) : Type 0 where
    tags : Holds W lent o.tags o.pen.tags
    points : Holds Z lent' o.points o.pen.points

  record Stands (ss : List Subpath) (u : Unfinished) (o : Outcome) : Type 0 where
    both : Both (tags_of ss ++ pending_tags u) (points_of ss ++ pending_points u) o
    place : At u o.pen.place

  -- a tag and its words are written behind
  both_more : (W Z : List ℕ) (o : Outcome) (then : Place) (tag : ℕ) (ws : List ℕ) → Both W Z o → fits o.pen (behind tag ws) o.tags o.points ≡ true
      → Both (W ++ (tag ∷ [])) (Z ++ ws) (written o.pen then (behind tag ws) o.tags o.points)
  unfolding fits written
  both_more W Z o then tag ws b e =
      let k = both_true (leb (o.pen.tags + 1) (length o.tags)) (leb (o.pen.points + length ws) (length o.points)) e in
      record { tags = holds_more b.tags (tag ∷ []) (leb-true _ _ k.0); points = holds_more b.points ws (leb-true _ _ k.1) }

  -- ---- a move and an end finish what is open

  due : Unfinished → Ink
  due nothing = none
  due (begun s) = finishing (opened_by s.segments) (same (end_of s.start s.segments) s.start) s.start

  due_is : (u : Unfinished) (s : Place) → At u s → finishing s.opened (same s.last s.first) s.first ≡ due u
  unfolding due finishing
  due_is nothing s (rests p q) = refl
  due_is (begun b) s (stands p gs) = refl

  carried : (W W' Z Z' : List ℕ) (o : Outcome) → W ≡ W' → Z ≡ Z' → Both W Z o → Both W' Z' o
  carried W W' Z Z' o e f b = rw (e, f) at b

  closing_none : (p : Spot) (gs : List Segment) → same (end_of p gs) p ≡ true → closing p gs ≡ []
  unfolding closing
  closing_none p gs e = rw e

  closing_line : (p : Spot) (gs : List Segment) → same (end_of p gs) p ≡ false → closing p gs ≡ line p ∷ []
  unfolding closing
  closing_line p gs e = rw e

  -- the encoding of a subpath, by its closing line
  module _ (W Z : List ℕ) (p : Spot) (g : Segment) (gs ks : List Segment) (e : closing p (g ∷ gs) ≡ ks) where
    tags_of_closed : W ++ tags_of (finished_by p (g ∷ gs)) ≡ W ++ segment_tags ((g ∷ gs) ++ ks)
    unfolding finished_by tags_of
    tags_of_closed = ap (λ (ws : List ℕ). W ++ ws) (append-nil (segment_tags ((g ∷ gs) ++ closing p (g ∷ gs))) ∙ ap (λ (ks : List Segment). segment_tags ((g ∷ gs) ++ ks)) e)

    points_of_closed : Z ++ points_of (finished_by p (g ∷ gs)) ≡ Z ++ words_of (p ∷ all_spots ((g ∷ gs) ++ ks))
    unfolding finished_by points_of
    points_of_closed =
        ap (λ (ws : List ℕ). Z ++ ws)
        (append-nil (words_of (p ∷ all_spots ((g ∷ gs) ++ closing p (g ∷ gs)))) ∙ ap (λ (ks : List Segment). words_of (p ∷ all_spots ((g ∷ gs) ++ ks))) e)

  module _ (ss : List Subpath) (o : Outcome) (then : Place) where
    abbrev Inked : Ink → Outcome
    Inked ink = written o.pen then ink o.tags o.points

    -- with its closing line, or with the end bit on its last segment
    closes : (p : Spot) (g : Segment) (gs : List Segment) (t : Bool) → same (end_of p (g ∷ gs)) p ≡ t
        → Both (tags_of ss ++ open_tags (g ∷ gs)) (points_of ss ++ words_of (p ∷ all_spots (g ∷ gs))) o
        → fits o.pen (finishing Drawing t p) o.tags o.points ≡ true
        → Both (tags_of ss ++ tags_of (finished_by p (g ∷ gs))) (points_of ss ++ points_of (finished_by p (g ∷ gs))) (Inked (finishing Drawing t p))
    unfolding finishing written tag_of spots
    closes p g gs true e b f =
        let none = closing_none p (g ∷ gs) e in
        let nil = append-nil (g ∷ gs) in
        carried _ _ _ _ (Inked end_bit)
        (ap (λ (hs : List Segment). tags_of ss ++ segment_tags hs) (sym nil) ∙ sym (tags_of_closed (tags_of ss) (points_of ss) p g gs [] none))
        (ap (λ (hs : List Segment). points_of ss ++ words_of (p ∷ all_spots hs)) (sym nil) ∙ sym (points_of_closed (tags_of ss) (points_of ss) p g gs [] none))
        (record { tags = holds_ended (tags_of ss) lent o.tags o.pen.tags g gs b.tags; points = b.points })
    closes p g gs false e b f =
        let one = closing_line p (g ∷ gs) e in
        carried _ _ _ _ (Inked (behind 0x0d (words_of (p ∷ []))))
        (append_assoc (tags_of ss) (open_tags (g ∷ gs)) (0x0d ∷ []) ∙ ap (λ (ws : List ℕ). tags_of ss ++ ws) (sym (last_behind g gs (line p))) ∙ sym (tags_of_closed (tags_of ss) (points_of ss) p g gs (line p ∷ []) one))
        (append_assoc (points_of ss) (words_of (p ∷ all_spots (g ∷ gs))) (words_of (p ∷ [])) ∙ ap (λ (ws : List ℕ). points_of ss ++ ws) (sym (spots_more p (g ∷ gs) (line p))) ∙ sym (points_of_closed (tags_of ss) (points_of ss) p g gs (line p ∷ []) one))
        (both_more _ _ o then 0x0d (words_of (p ∷ [])) b f)

    finishes : (u : Unfinished) → Both (tags_of ss ++ pending_tags u) (points_of ss ++ pending_points u) o → fits o.pen (due u) o.tags o.points ≡ true
        → Both (tags_of ss ++ tags_of (finished u)) (points_of ss ++ points_of (finished u)) (Inked (due u))
    unfolding due finished finished_by pending_tags pending_points started_by opened_by open_tags finishing tags_of points_of written
    finishes nothing b f = record { tags = b.tags; points = b.points }
    finishes (begun s) b f = go s.start s.segments b f
      where
        go : (p : Spot) (gs : List Segment) → Both (tags_of ss ++ open_tags gs) (points_of ss ++ started_by p gs) o
            → fits o.pen (finishing (opened_by gs) (same (end_of p gs) p) p) o.tags o.points ≡ true
            → Both (tags_of ss ++ tags_of (finished_by p gs)) (points_of ss ++ points_of (finished_by p gs)) (Inked (finishing (opened_by gs) (same (end_of p gs) p) p))
        go p [] b f = record { tags = b.tags; points = b.points }
        go p (g ∷ gs) b f = closes p g gs (same (end_of p (g ∷ gs)) p) refl b f

  -- ---- one command

  done_by : Unfinished → Command → List Subpath
  done_by u (move p) = finished u
  done_by u (draw g) = []
  done_by u end = finished u

  left_by : Unfinished → Command → Unfinished
  left_by u (move p) = begun (subpath p [])
  left_by u (draw g) = goes_on u g
  left_by u end = nothing

  meant_step : (u : Unfinished) (command : Command) (cs : List Command) → meant u (command ∷ cs) ≡ done_by u command ++ meant (left_by u command) cs
  unfolding meant done_by left_by
  meant_step u (move p) cs = refl
  meant_step u (draw g) cs = refl
  meant_step u end cs = refl

  place_then : (pen : Pen) (then : Place) (ink : Ink) (tags points : List ℕ) → then ≡ (written pen then ink tags points).pen.place
  unfolding written
  place_then pen then none tags points = refl
  place_then pen then end_bit tags points = refl
  place_then pen then (behind tag ws) tags points = refl

  number_zero : (pen : Pen) (then : Place) (ink : Ink) (tags points : List ℕ) → eqb (number_of (written pen then ink tags points).answer) 0 ≡ true
  unfolding written number_of
  number_zero pen then none tags points = refl
  number_zero pen then end_bit tags points = refl
  number_zero pen then (behind tag ws) tags points = refl

  -- the pen behind one segment more
  opened_more : (gs : List Segment) (g : Segment) → opened_by (gs ++ (g ∷ [])) ≡ Drawing
  unfolding opened_by
  opened_more [] g = refl
  opened_more (h ∷ gs) g = refl

  goes_on_lem : (u : Unfinished) (s : Place) (g : Segment) → At u s → may_draw s.opened (draw g) ≡ true → At (goes_on u g) (place_of s (draw g))
  unfolding goes_on place_of may_draw
  goes_on_lem nothing s g (rests p q) m = let z : ◌≡◌ {A = ℕ} 0 1 = cc in absurd (omega arith)
  goes_on_lem (begun b) s g (stands p gs) m =
      subst (At (begun (subpath p (gs ++ (g ∷ []))))) (ap (λ (o : Open). record { opened = o; first = p; last = end_of p (gs ++ (g ∷ [])) }) (opened_more gs g) ∙ ap (λ (q : Spot). record { opened = Drawing; first = p; last = q }) (end_more p gs g))
      (stands p (gs ++ (g ∷ [])))

  -- the words of one segment more, with the start in front of the first
  points_more : (Z : List ℕ) (p : Spot) (gs : List Segment) (g : Segment) → Z ++ started_by p gs ++ words_of (start_of (opened_by gs) p ++ spots g) ≡ Z ++ started_by p (gs ++ (g ∷ []))
  unfolding started_by opened_by start_of all_spots
  points_more Z p [] g =
      ap (λ (ws : List ℕ). ws ++ words_of (p ∷ spots g)) (append-nil Z) ∙ ap (λ (ps : List Spot). Z ++ words_of (p ∷ ps)) (sym (append-nil (spots g)))
  points_more Z p (h ∷ gs) g =
      append_assoc Z (words_of (p ∷ all_spots (h ∷ gs))) (words_of (spots g)) ∙ ap (λ (ws : List ℕ). Z ++ ws) (sym (spots_more p (h ∷ gs) g))

  module _ (ss : List Subpath) (o : Outcome) where
    abbrev Ink_of : Command → Ink
    Ink_of command = ink_of o.pen.place command

    abbrev Then : Command → Outcome
    Then command = written o.pen (place_of o.pen.place command) (Ink_of command) o.tags o.points

    draws : (u : Unfinished) (g : Segment) → At u o.pen.place → Both (tags_of ss ++ pending_tags u) (points_of ss ++ pending_points u) o
        → may_draw o.pen.place.opened (draw g) ≡ true → fits o.pen (Ink_of (draw g)) o.tags o.points ≡ true
        → Both (tags_of ss ++ pending_tags (goes_on u g)) (points_of ss ++ pending_points (goes_on u g)) (Then (draw g))
    unfolding goes_on pending_tags pending_points may_draw ink_of
    draws u g a b m f = go u o.pen.place (place_of o.pen.place (draw g)) a b m f
      where
        go : (u : Unfinished) (s then : Place) → At u s → Both (tags_of ss ++ pending_tags u) (points_of ss ++ pending_points u) o
            → may_draw s.opened (draw g) ≡ true → fits o.pen (ink_of s (draw g)) o.tags o.points ≡ true
            → Both (tags_of ss ++ pending_tags (goes_on u g)) (points_of ss ++ pending_points (goes_on u g)) (written o.pen then (ink_of s (draw g)) o.tags o.points)
        go nothing s then (rests p q) b m f = let z : ◌≡◌ {A = ℕ} 0 1 = cc in absurd (omega arith)
        go (begun t) s then (stands p gs) b m f =
            let ws = words_of (start_of (opened_by gs) p ++ spots g) in
            carried _ _ _ _ (written o.pen then (behind (tag_of g) ws) o.tags o.points)
            (append_assoc (tags_of ss) (open_tags gs) (tag_of g ∷ []) ∙ ap (λ (ts : List ℕ). tags_of ss ++ ts) (sym (map_more gs g)))
            (points_more (points_of ss) p gs g) (both_more _ _ o then (tag_of g) ws b f)

    ends : (u : Unfinished) (ink : Ink) (then : Place) → Both (tags_of ss ++ pending_tags u) (points_of ss ++ pending_points u) o → ink ≡ due u → fits o.pen ink o.tags o.points ≡ true
        → Both (tags_of (ss ++ finished u) ++ []) (points_of (ss ++ finished u) ++ []) (written o.pen then ink o.tags o.points)
    ends u ink then b e f =
        carried _ _ _ _ (written o.pen then ink o.tags o.points)
        (sym (append-nil (tags_of (ss ++ finished u)) ∙ tags_append ss (finished u))) (sym (append-nil (points_of (ss ++ finished u)) ∙ points_append ss (finished u)))
        (subst (λ (k : Ink). Both (tags_of ss ++ tags_of (finished u)) (points_of ss ++ points_of (finished u)) (written o.pen then k o.tags o.points)) (sym e)
        (finishes ss o then u b (subst (λ (k : Ink). fits o.pen k o.tags o.points ≡ true) e f)))

    steps : (u : Unfinished) (command : Command) → Stands ss u o
        → may_draw o.pen.place.opened command ≡ true → fits o.pen (Ink_of command) o.tags o.points ≡ true
        → Stands (ss ++ done_by u command) (left_by u command) (Then command)
    unfolding done_by left_by ink_of place_of pending_tags pending_points open_tags started_by opened_by end_of
    steps u command h m f = record { both = writes u command h.both h.place m f; place = subst (At (left_by u command)) (place_then o.pen (place_of o.pen.place command) (Ink_of command) o.tags o.points) (moves u command h.place m) }
      where
        writes : (u : Unfinished) (command : Command) → Both (tags_of ss ++ pending_tags u) (points_of ss ++ pending_points u) o → At u o.pen.place
            → may_draw o.pen.place.opened command ≡ true → fits o.pen (Ink_of command) o.tags o.points ≡ true
            → Both (tags_of (ss ++ done_by u command) ++ pending_tags (left_by u command)) (points_of (ss ++ done_by u command) ++ pending_points (left_by u command)) (Then command)
        writes u (move p) b a m f = ends u (Ink_of (move p)) (place_of o.pen.place (move p)) b (due_is u o.pen.place a) f
        writes u (draw g) b a m f = subst (λ (rs : List Subpath). Both (tags_of rs ++ pending_tags (goes_on u g)) (points_of rs ++ pending_points (goes_on u g)) (Then (draw g))) (sym (append-nil ss)) (draws u g a b m f)
        writes u end b a m f = ends u (Ink_of end) (place_of o.pen.place end) b (due_is u o.pen.place a) f

        moves : (u : Unfinished) (command : Command) → At u o.pen.place → may_draw o.pen.place.opened command ≡ true → At (left_by u command) (place_of o.pen.place command)
        moves u (move p) a m = stands p []
        moves u (draw g) a m = goes_on_lem u o.pen.place g a m
        moves u end a m = rests o.pen.place.first o.pen.place.last

  -- ---- all commands

  left : Unfinished → List Command → Unfinished
  left u [] = u
  left u (command ∷ cs) = left (left_by u command) cs

  -- what is to be shown of the outcome of a command, where more are to come
  abbrev Shown : List Subpath → Unfinished → Command → List Command → Outcome → Type 0
  Shown ss u command cs o = Stands (ss ++ meant u (kept (eqb (number_of o.answer) 0) command (accepted o cs))) (left u (kept (eqb (number_of o.answer) 0) command (accepted o cs))) (after o cs)

  abbrev Onward : List Command → Type 0
  Onward cs = (ss : List Subpath) (u : Unfinished) (o : Outcome) → Stands ss u o → Stands (ss ++ meant u (accepted o cs)) (left u (accepted o cs)) (after o cs)

  stays : (ss : List Subpath) (u : Unfinished) (command : Command) (cs : List Command) (o : Outcome) (answer : Answer) → Onward cs → Stands ss u o → eqb (number_of answer) 0 ≡ false
      → Shown ss u command cs (outcome answer o.pen o.tags o.points)
  unfolding kept
  stays ss u command cs o answer on h e =
      rw e (on ss u (outcome answer o.pen o.tags o.points) (record { both = record { tags = h.both.tags; points = h.both.points }; place = h.place }))

  goes : (ss : List Subpath) (u : Unfinished) (command : Command) (cs : List Command) (o : Outcome) → Onward cs
      → Stands (ss ++ done_by u command) (left_by u command) o → eqb (number_of o.answer) 0 ≡ true → Shown ss u command cs o
  unfolding kept left
  goes ss u command cs o on h e =
      rw e
      (subst (λ (rs : List Subpath). Stands rs (left (left_by u command) (accepted o cs)) (after o cs))
      (append_assoc ss (done_by u command) (meant (left_by u command) (accepted o cs)) ∙ ap (λ (rs : List Subpath). ss ++ rs) (sym (meant_step u command (accepted o cs))))
      (on (ss ++ done_by u command) (left_by u command) o h))

  all : (cs : List Command) → Onward cs
  unfolding accepted after meant left
  all [] ss u o h = subst (λ (rs : List Subpath). Stands rs u o) (sym (append-nil ss)) h
  all (command ∷ cs) ss u o h =
      let place = place_of o.pen.place command in
      let ink = ink_of o.pen.place command in
      by_answer o.pen command o.tags o.points (Shown ss u command cs) (λ answer e. stays ss u command cs o answer (all cs) h e)
      (λ m n f. goes ss u command cs (written o.pen place ink o.tags o.points) (all cs) (steps ss o u command h m f) (number_zero o.pen place ink o.tags o.points))

  starts : Stands [] nothing (fresh lent lent')
  unfolding tags_of points_of pending_tags pending_points
  starts = record { both = record { tags = begins lent; points = begins lent' }; place = rests (record { x = 0; y = 0 }) (record { x = 0; y = 0 }) }
    where
      begins : (ws : List ℕ) → Holds [] ws ws 0
      begins ws = record { count = refl; words = refl; room = omega arith }

  -- where nothing is open, nothing is left over
  rested : (ss : List Subpath) (u : Unfinished) (o : Outcome) → Stands ss u o → o.pen.place.opened ≡ Nothing → Both (tags_of ss) (points_of ss) o
  unfolding pending_tags pending_points opened_by
  rested ss u o h e = go u o.pen.place h.place e h.both
    where
      not_begun : (gs : List Segment) → opened_by gs ≡ Nothing → ⊥
      not_begun [] e = let z : ◌≡◌ {A = ℕ} 0 1 = cc in omega arith
      not_begun (g ∷ gs) e = let z : ◌≡◌ {A = ℕ} 0 1 = cc in omega arith

      go : (u : Unfinished) (s : Place) → At u s → s.opened ≡ Nothing → Both (tags_of ss ++ pending_tags u) (points_of ss ++ pending_points u) o → Both (tags_of ss) (points_of ss) o
      go nothing s (rests p q) e b = carried _ _ _ _ o (append-nil (tags_of ss)) (append-nil (points_of ss)) b
      go (begun t) s (stands p gs) e b = absurd (not_begun gs e)

-- ---- the law

-- the buffers hold the encoding of these subpaths, the pen counts it, and the words behind it are as lent
pub record Encodes (tags points : List ℕ) (ss : List Subpath) (o : Outcome) : Type 0 where
  pub its_tags : Holds (tags_of ss) tags o.tags o.pen.tags
  pub its_points : Holds (points_of ss) points o.points o.pen.points

-- of commands with a fresh pen, whatever is refused between them: once nothing is open, the buffers hold the encoding of what the accepted ones mean
pub encoded : (tags points : List ℕ) (cs : List Command) → (after (fresh tags points) cs).pen.place.opened ≡ Nothing
    → Encodes tags points (meant nothing (accepted (fresh tags points) cs)) (after (fresh tags points) cs)
encoded tags points cs e =
    let b = rested tags points _ _ _ (all tags points cs [] nothing (fresh tags points) (starts tags points)) e in
    record { its_tags = b.tags; its_points = b.points }
