-- What an accepted call draws for the tags of commands is the flattening of the subpaths that they mean: the theorem. The flattening is defined in Flattened.antt. Assumes nothing.
use Prim.Native.Nat.{ℕ, suc, ◌+◌, ◌*◌, ◌<◌, ◌≤◌}
use Rattle.std.specs.Prelude.{◌≡◌, Bool, get_or, Float}
use Rattle.std.proofs.Math.Path.{refl, sym, ap}
use Rattle.std.proofs.Common.{◌∙◌, lit<}
use Rattle.std.proofs.Math.Bool.{true, false}
use mathlib.Core.List.{List, [], ◌∷◌, ◌++◌, append_assoc}
use native.Mathlib.Omega.{arith}
use Rattle.std.proofs.Math.ListN.{length}
use Rattle.spiral.specs.declared.util.Vec2.{Vec2}
use Rattle.drawing.specs.Sheet.{Event}
use Rattle.segment.specs.Segment.{fill_events}
use Rattle.scene.specs.Reading.{raised, cubic_of, floats_at}
use Rattle.pattern.specs.Commands.{words_of, Segment, line, quad, cubic, spots, target, Command}
use Rattle.pattern.specs.Commands as commands
use Rattle.pattern.specs.Meaning.{Subpath, tags_of}
use Rattle.pattern.specs.Encoded.{encoded}
use Rattle.pattern.specs.declared.pen.Spot.{Spot}
use Rattle.watertight.specs.Fill.{Call, Accepted, tags, point_of, drawn_at, lines_of}
use Rattle.watertight.specs.Fill as fills
use Rattle.watertight.specs.FillLaws.{six_words_lem, fill_events_lem}
use Rattle.watertight.specs.Accepted.{done}
use Rattle.outlines.specs.Placing.{left, subpaths, Finished, FreshCall, six_words, FillAt, Placed, tags_from}
use Rattle.outlines.specs.Flattened.{cubic_from, drawn_by, drawn_along, flattened}
use Rattle.outlines.specs.Walk.{Drawn, Walk, Walks}
use Rattle.outlines.specs.Decode.{size_of_lem, walked}
use Rattle.outlines.specs.Lines.{its_type, filled, spot_at_lem}

-- points that are a segment's, by its words, are raised to its cubic
raised_is : (p : Spot) (g : Segment) (v : ℕ → Vec2)
    → ((k : ℕ) (q : Spot) → k * 2 + 1 < length (words_of (p ∷ spots g)) → get_or (words_of (p ∷ spots g)) (k * 2) 0 ≡ q.x → get_or (words_of (p ∷ spots g)) (k * 2 + 1) 0 ≡ q.y → v k ≡ commands.point_of q)
    → raised (length (spots g)) false v ≡ cubic_from p g
unfolding raised spots words_of cubic_from
raised_is p (line q) v h = rw (h 0 p (lit< tt) refl refl, h 1 q (lit< tt) refl refl)
raised_is p (quad q r) v h = rw (h 0 p (lit< tt) refl refl, h 1 q (lit< tt) refl refl, h 2 r (lit< tt) refl refl)
raised_is p (cubic q r s) v h = rw (h 0 p (lit< tt) refl refl, h 1 q (lit< tt) refl refl, h 2 r (lit< tt) refl refl, h 3 s (lit< tt) refl refl)

module _ (c : Call) (a : Accepted c) (f : FreshCall c) (at : ℕ) (fill : FillAt c at) where
  module _ (i : ℕ) (in_call : i < tags c) (p : Spot) (g : Segment) (last : Bool) (d : Drawn c at i p g last) where
    its_cubic : raised (fills.type_of c i) false (point_of c i) ≡ cubic_from p g
    its_cubic =
        ap (λ (k : ℕ). raised k false (point_of c i)) (its_type c a f at fill i in_call p g last d)
        ∙ raised_is p g (point_of c i) (spot_at_lem c a f at fill i in_call p g last d)

    -- a tag draws what its segment draws
    drawn : drawn_at c i ≡ drawn_by (six_words c at) p g
    unfolding drawn_by cubic_of point_of
    drawn =
        let k = filled c a f at fill i in_call p g last d in
        sym (fill_events_lem c.layout c.scene c.prefixes i _ (drawn_at c i) k.segment k.no_stroke ((done c a).sound i in_call).events)
        ∙ ap (λ (z : List Float). fill_events z (raised (fills.type_of c i) false (point_of c i))) (six_words_lem c.scene _ ∙ ap (λ (z : List ℕ). floats_at z 0) k.transform)
        ∙ ap (fill_events (floats_at (six_words c at) 0)) its_cubic

    -- and with what the n tags behind gs draw
    then : (n : ℕ) (gs : List Segment) → lines_of c (tags_from (suc i) (length gs + n)) ≡ drawn_along (six_words c at) (target g) gs ++ lines_of c (tags_from (suc i + length gs) n)
        → lines_of c (tags_from i (length (g ∷ gs) + n)) ≡ drawn_along (six_words c at) p (g ∷ gs) ++ lines_of c (tags_from (i + length (g ∷ gs)) n)
    unfolding lines_of tags_from drawn_along
    then n gs e =
        let z = six_words c at in
        let size : suc (length gs) + n ≡ suc (length gs + n) = omega arith in
        let on : i + suc (length gs) ≡ suc i + length gs = omega arith in
        rw (size, on, drawn, e) (sym (append_assoc (drawn_by z p g) (drawn_along z (target g) gs) (lines_of c (tags_from (suc i + length gs) n))))

  of_walk : (i n : ℕ) (p : Spot) (gs : List Segment) → i + length gs ≤ tags c → Walk c at i p gs
      → lines_of c (tags_from i (length gs + n)) ≡ drawn_along (six_words c at) p gs ++ lines_of c (tags_from (i + length gs) n)
  unfolding Walk drawn_along
  of_walk i n p [] l w =
      let none : 0 + n ≡ n = omega arith in
      let here : i + 0 ≡ i = omega arith in
      rw (none, here)
  of_walk i n p (g ∷ []) l w = then i (omega arith) p g true w n [] (of_walk (suc i) n (target g) [] (omega arith) tt)
  of_walk i n p (g ∷ h ∷ gs) l w = then i (omega arith) p g false w.0 n (h ∷ gs) (of_walk (suc i) n (target g) (h ∷ gs) (omega arith) w.1)

  of_walks : (i : ℕ) (ss : List Subpath) → i + length (tags_of ss) ≤ tags c → Walks c at i ss → lines_of c (tags_from i (length (tags_of ss))) ≡ flattened (six_words c at) ss
  unfolding Walks tags_of tags_from lines_of flattened
  of_walks i [] l w = refl
  of_walks i (s ∷ ss) l w =
      let size = size_of_lem s ss in
      ap (λ (n : ℕ). lines_of c (tags_from i n)) size
      ∙ of_walk i (length (tags_of ss)) s.start s.segments (omega (arith, size)) w.0
      ∙ ap (λ (es : List Event). drawn_along (six_words c at) s.start s.segments ++ es) (of_walks (i + length s.segments) ss (omega (arith, size)) w.1)

module _ (tags points : List ℕ) (cs : List Command) (e : Finished (left tags points cs)) (c : Call) (at : ℕ) (p : Placed c at (left tags points cs))
    (a : Accepted c) (f : FreshCall c) (fill : FillAt c at) (in_call : at + (left tags points cs).pen.tags ≤ fills.tags c) where
  -- ---- the theorem: what the call draws for the tags that the commands wrote is what the subpaths that they mean draw, in order; no line is dropped and none invented
  pub lines_drawn : lines_of c (tags_from at (left tags points cs).pen.tags) ≡ flattened (six_words c at) (subpaths tags points cs)
  lines_drawn =
      let count = (encoded tags points cs e).its_tags.count in
      ap (λ (n : ℕ). lines_of c (tags_from at n)) count
      ∙ of_walks c a f at fill at (subpaths tags points cs) (omega (arith, in_call, count)) (walked tags points cs e c at p)
