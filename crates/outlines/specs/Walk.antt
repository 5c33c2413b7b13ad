-- The tags and the data of subpaths, tag by tag: each tag has its byte, its points, and the transform and the style of the first. Assumes nothing.
use Prim.Native.Nat.{ℕ, zero, suc, ◌+◌, ◌^◌, ◌<◌}
use Rattle.std.proofs.Math.Path.{◌≡◌, refl, ap, subst}
use Rattle.std.proofs.Common.{sym, ◌∙◌, length-append, take_at, drop_at, drop-drop, take-append-drop}
use Rattle.std.specs.Prelude.{Bool, take, drop}
use Rattle.std.proofs.Math.Bool.{true, false}
use mathlib.Core.List.{List, [], ◌∷◌, ◌++◌, append_assoc, append-nil}
use native.Mathlib.Omega.{arith}
use Rattle.std.proofs.Math.ListN.{length}
use Rattle.scene.specs.Tags.{tag_sums, plus}
use Rattle.scene.specs.Fresh.{byte_of, sums_to}
use Rattle.pattern.specs.Commands.{words_of, Segment, line, quad, cubic, spots, target, tag_of}
use Rattle.pattern.specs.Meaning.{Subpath, segment_tags, all_spots, tags_of, points_of}
use Rattle.pattern.specs.Encoded.{words_append}
use Rattle.pattern.specs.Every.{Every, none, more}
use Rattle.pattern.specs.Closed.{Closed}
use Rattle.pattern.specs.declared.pen.Spot.{Spot}
use Rattle.watertight.specs.Fill.{Call}
use Rattle.outlines.specs.Placing.{tag_words, data_at, Here, Few}

-- ---- the sums behind a tag

-- every sum is a u32
small : (ts : List ℕ) (i : ℕ) → let s = sums_to ts i in (s.trans_ix < 2 ^ 32) × (s.style_ix < 2 ^ 32)
unfolding sums_to plus
small ts zero = (omega arith, omega arith)
small ts (suc i) = (omega arith, omega arith)

-- tag j has the transform and the style of tag i
pub record Under (c : Call) (i j : ℕ) : Type 0 where
  pub transform : (sums_to (tag_words c) j).trans_ix ≡ (sums_to (tag_words c) i).trans_ix
  pub style : (sums_to (tag_words c) j).style_ix ≡ (sums_to (tag_words c) i).style_ix

-- a byte that takes n words of data, and begins no transform and no style
pub record Takes (byte n : ℕ) : Type 0 where
  pub words : (tag_sums byte).pathseg_offset ≡ n
  pub transform : (tag_sums byte).trans_ix ≡ 0
  pub style : (tag_sums byte).style_ix ≡ 0

module _ (c : Call) (i : ℕ) where
  pub under_self : Under c i i
  under_self = record { transform = refl; style = refl }

  module _ (j byte n : ℕ) (t : Takes byte n) (e : byte_of (tag_words c) j ≡ byte) where
    under_next : Under c i j → Under c i (suc j)
    unfolding sums_to plus
    under_next u =
        let k = small (tag_words c) j in
        record {
          transform = rw (e, t.transform) (omega (arith, k.0, u.transform));
          style = rw (e, t.style) (omega (arith, k.1, u.style));
        }

    data_next : (sums_to (tag_words c) j).pathseg_offset + n < 2 ^ 31 → data_at c (suc j) ≡ data_at c j + n
    unfolding sums_to plus
    data_next l = rw (e, t.words) (omega (arith, l))

-- ---- tags and data, from the front

-- the data begins with the first of two parts
front : (X ps qs : List ℕ) → take (length (ps ++ qs)) X ≡ ps ++ qs → X ≡ ps ++ (qs ++ drop (length (ps ++ qs)) X)
front X ps qs e =
    sym (take-append-drop (length (ps ++ qs)) X)
    ∙ ap (λ (ws : List ℕ). ws ++ drop (length (ps ++ qs)) X) e
    ∙ append_assoc ps qs (drop (length (ps ++ qs)) X)

-- the byte of the first tag
first_byte : (c : Call) (i t : ℕ) (us words : List ℕ) → Here c i (t ∷ us) words → byte_of (tag_words c) i ≡ t
first_byte c i t us words h = ap (byte_of (tag_words c)) (plus_zero_lem i) ∙ h.byte 0 (omega arith)
  where
    plus_zero_lem : (n : ℕ) → n ≡ n + 0
    plus_zero_lem n = omega arith

module _ (c : Call) (i : ℕ) where
  here_words : (bytes ps qs : List ℕ) → Here c i bytes (ps ++ qs) → take (length ps) (drop (data_at c i) c.scene) ≡ ps
  here_words bytes ps qs h =
      let X = drop (data_at c i) c.scene in
      ap (take (length ps)) (front X ps qs h.its_data) ∙ take_at ps (qs ++ drop (length (ps ++ qs)) X) (length ps) refl

  -- the tags behind the first, and the data behind what it takes
  here_next : (t : ℕ) (us ps qs : List ℕ) → Takes t (length ps) → Few c i (ps ++ qs) → Here c i (t ∷ us) (ps ++ qs) → Here c (suc i) us qs
  here_next t us ps qs k few h =
      let X = drop (data_at c i) c.scene in
      let size = length-append ps qs in
      let first = first_byte c i t us (ps ++ qs) h in
      let from : data_at c (suc i) ≡ data_at c i + length ps = data_next c i i t (length ps) k first (omega (arith, size, few)) in
      record {
        byte = λ j l. ap (byte_of (tag_words c)) (plus_suc i j) ∙ h.byte (suc j) (omega arith);
        its_data =
            ap (λ (n : ℕ). take (length qs) (drop n c.scene)) from
            ∙ ap (take (length qs)) (sym (drop-drop (length ps) (data_at c i) c.scene) ∙ ap (drop (length ps)) (front X ps qs h.its_data) ∙ drop_at ps (qs ++ drop (length (ps ++ qs)) X) (length ps) refl)
            ∙ take_at qs (drop (length (ps ++ qs)) X) (length qs) refl;
      }
    where
      plus_suc : (n j : ℕ) → suc n + j ≡ n + suc j
      plus_suc n j = omega arith

  few_next : (t : ℕ) (us ps qs : List ℕ) → Takes t (length ps) → Few c i (ps ++ qs) → Here c i (t ∷ us) (ps ++ qs) → Few c (suc i) qs
  few_next t us ps qs k few h =
      let size = length-append ps qs in
      let first = first_byte c i t us (ps ++ qs) h in
      let from = data_next c i i t (length ps) k first (omega (arith, size, few)) in
      omega (arith, size, few, from)

-- ---- segments

-- the byte of a segment, and of one that ends its subpath
unfoldable pub tag_byte : Segment → Bool → ℕ
tag_byte g true = tag_of g + 0x04
tag_byte g false = tag_of g

-- its points but the last, which the next segment begins with
inner : Segment → List Spot
inner (line p) = []
inner (quad p q) = p ∷ []
inner (cubic p q r) = p ∷ q ∷ []

takes_all : (p : Spot) (g : Segment) → Takes (tag_of g + 0x04) (length (words_of (p ∷ spots g)))
unfolding tag_of spots words_of tag_sums
takes_all p (line q) = record { words = refl; transform = refl; style = refl }
takes_all p (quad q r) = record { words = refl; transform = refl; style = refl }
takes_all p (cubic q r s) = record { words = refl; transform = refl; style = refl }

takes_inner : (p : Spot) (g : Segment) → Takes (tag_of g) (length (words_of (p ∷ inner g)))
unfolding tag_of spots words_of tag_sums inner
takes_inner p (line q) = record { words = refl; transform = refl; style = refl }
takes_inner p (quad q r) = record { words = refl; transform = refl; style = refl }
takes_inner p (cubic q r s) = record { words = refl; transform = refl; style = refl }

by_inner : (p : Spot) (g : Segment) (ps : List Spot) (qs : List ℕ) → words_of (p ∷ (spots g ++ ps)) ++ qs ≡ words_of (p ∷ inner g) ++ (words_of (target g ∷ ps) ++ qs)
unfolding spots target words_of inner
by_inner p (line q) ps qs = refl
by_inner p (quad q r) ps qs = refl
by_inner p (cubic q r s) ps qs = refl

by_spots : (p : Spot) (g : Segment) (ps : List Spot) (qs : List ℕ) → words_of (p ∷ (spots g ++ ps)) ++ qs ≡ words_of (p ∷ spots g) ++ (words_of ps ++ qs)
by_spots p g ps qs = ap (λ (ws : List ℕ). ws ++ qs) (words_append (p ∷ spots g) ps) ∙ append_assoc (words_of (p ∷ spots g)) (words_of ps) qs

-- tag i draws the segment g from p, under the transform and the style of tag `at`
pub record Drawn (c : Call) (at i : ℕ) (p : Spot) (g : Segment) (b : Bool) : Type 0 where
  pub byte : byte_of (tag_words c) i ≡ tag_byte g b
  pub words : take (length (words_of (p ∷ spots g))) (drop (data_at c i) c.scene) ≡ words_of (p ∷ spots g)
  pub few : Few c i (words_of (p ∷ spots g))
  pub under : Under c at i

unfoldable pub Walk : Call → ℕ → ℕ → Spot → List Segment → Type 0
Walk c at i p [] = Unit {0}
Walk c at i p (g ∷ []) = Drawn c at i p g true
Walk c at i p (g ∷ h ∷ gs) = Drawn c at i p g false × Walk c at (suc i) (target g) (h ∷ gs)

-- what stands behind
pub record Behind (c : Call) (at j : ℕ) (us qs : List ℕ) : Type 0 where
  pub here : Here c j us qs
  pub few : Few c j qs
  pub under : Under c at j

module _ (c : Call) (at : ℕ) where
  -- one tag of two parts of the data: its points are in front, and what it takes is too
  module _ (i t : ℕ) (us words : List ℕ) (b : Behind c at i (t ∷ us) words) where
    draws : (p : Spot) (g : Segment) (last : Bool) (qs : List ℕ) → t ≡ tag_byte g last → words ≡ words_of (p ∷ spots g) ++ qs → Drawn c at i p g last
    draws p g last qs e f =
        let size = length-append (words_of (p ∷ spots g)) qs in
        let few : Few c i (words_of (p ∷ spots g) ++ qs) = subst (Few c i) f b.few in
        record {
          byte = first_byte c i t us words b.here ∙ e;
          words = here_words c i (t ∷ us) (words_of (p ∷ spots g)) qs (subst (Here c i (t ∷ us)) f b.here);
          few = omega (arith, size, few);
          under = b.under;
        }

    next : (ps qs : List ℕ) → Takes t (length ps) → words ≡ ps ++ qs → Behind c at (suc i) us qs
    next ps qs k f =
        let here = subst (Here c i (t ∷ us)) f b.here in
        let few = subst (Few c i) f b.few in
        record {
          here = here_next c i t us ps qs k few here;
          few = few_next c i t us ps qs k few here;
          under = under_next c at i t (length ps) k (first_byte c i t us words b.here) b.under;
        }

  walk : (i : ℕ) (p : Spot) (g : Segment) (gs : List Segment) (us qs : List ℕ)
      → Behind c at i (segment_tags (g ∷ gs) ++ us) (words_of (p ∷ all_spots (g ∷ gs)) ++ qs)
      → Walk c at i p (g ∷ gs) × Behind c at (i + length (g ∷ gs)) us qs
  unfolding Walk segment_tags all_spots tag_byte
  walk i p g [] us qs b =
      let e : words_of (p ∷ (spots g ++ [])) ++ qs ≡ words_of (p ∷ spots g) ++ qs = ap (λ (ps : List Spot). words_of (p ∷ ps) ++ qs) (append-nil (spots g)) in
      let one : suc i ≡ i + 1 = omega arith in (
        draws i (tag_of g + 0x04) us _ b p g true qs refl e,
        subst (λ (j : ℕ). Behind c at j us qs) one (next i (tag_of g + 0x04) us _ b (words_of (p ∷ spots g)) qs (takes_all p g) e),
      )
  walk i p g (h ∷ gs) us qs b =
      let ps = all_spots (h ∷ gs) in
      let vs = segment_tags (h ∷ gs) ++ us in
      let k = walk (suc i) (target g) h gs us qs (next i (tag_of g) vs _ b (words_of (p ∷ inner g)) (words_of (target g ∷ ps) ++ qs) (takes_inner p g) (by_inner p g ps qs)) in
      let there : suc i + length (h ∷ gs) ≡ i + length (g ∷ h ∷ gs) = omega arith in (
        (draws i (tag_of g) vs _ b p g false (words_of ps ++ qs) refl (by_spots p g ps qs), k.0),
        subst (λ (j : ℕ). Behind c at j us qs) there k.1,
      )

  -- ---- all subpaths

  unfoldable pub Walks : ℕ → List Subpath → Type 0
  Walks i [] = Unit {0}
  Walks i (s ∷ ss) = Walk c at i s.start s.segments × Walks (i + length s.segments) ss

  pub walks : (i : ℕ) (ss : List Subpath) → Every Closed ss → Behind c at i (tags_of ss) (points_of ss) → Walks i ss
  unfolding Walks tags_of points_of
  walks i [] none b = tt
  walks i (s ∷ ss) (more k ks) b =
      let w = go s.segments k.segments b in
      (w.0, walks (i + length s.segments) ss ks w.1)
    where
      go : (gs : List Segment) → gs ≡ k.first ∷ k.others → Behind c at i (segment_tags gs ++ tags_of ss) (words_of (s.start ∷ all_spots gs) ++ points_of ss)
          → Walk c at i s.start gs × Behind c at (i + length gs) (tags_of ss) (points_of ss)
      go [] e b = let z : ◌≡◌ {A = ℕ} 0 1 = cc in absurd (omega arith)
      go (g ∷ gs) e b = walk i s.start g gs (tags_of ss) (points_of ss) b
