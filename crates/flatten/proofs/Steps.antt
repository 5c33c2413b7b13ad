-- What the proof of a tag's step cites. Assumes nothing.
use Rattle.std.proofs.Common.{◌≡◌, ℕ, ◌<◌, List, [], sym, refl, ap, ◌∙◌, subst, arith}
use Rattle.refusals.specs.Refusals.{Read}
use Rattle.std.specs.Prelude.{Ok, Err}
use Rattle.refusals.specs.declared.Refusal.{Refusal}
use Rattle.drawing.specs.Sheet.{IntBbox, Event, Drawn, sheet, empty_box, draw_all}
use Rattle.drawing.specs.Page.{Reach, empty_reach, pen_of, dried_of, Ink, page, ink_all, Drew}
use Rattle.drawing.specs.PageLaws.{exact}
use Rattle.drawing.specs.Dried.{empty_clean, empty_whole, dried_page, all_dries}
use Rattle.flatten.specs.Step.{drawn_of, fresh_pen, turn_of, refused_at, stepped, behind, tag_word}
use Rattle.flatten.specs.declared.call.Turn.{Turn}
use Rattle.flatten.specs.declared.tag.Head.{Head}

fresh : (path n tag : ℕ) (ws : List ℕ) (es : List Event)
    → dried_page (ink_all (page ws (Ok (record { count = n; tag = tag; path = path; reach = empty_reach }))) es) ≡ drawn_of path (record { count = n; tag = tag; bbox = empty_box }) ws (Ok es)
unfolding drawn_of dried_of pen_of
fresh path n tag ws es =
    all_dries path (page ws (Ok (record { count = n; tag = tag; path = path; reach = empty_reach }))) es (refl, empty_clean)
    ∙ ap (λ (b : IntBbox). draw_all path (sheet ws (Ok (record { count = n; tag = tag; bbox = b }))) es) empty_whole

-- a tag without a segment draws nothing
pub drew_none : (path n tag : ℕ) (ws : List ℕ) {b : IntBbox} → b ≡ empty_box → sheet ws (Ok (record { count = n; tag = tag; bbox = b })) ≡ drawn_of path (record { count = n; tag = tag; bbox = empty_box }) ws (Ok [])
unfolding drawn_of draw_all
drew_none path n tag ws e = rw e refl

-- a tag's segment is drawn with a box of its own
pub drew_dried : {path n tag : ℕ} {reach : Reach} {ws ws' : List ℕ} {d : Ink} {es : List Event} → reach ≡ empty_reach → Drew ws (Ok (record { count = n; tag = tag; path = path; reach = reach })) es ws' d
    → sheet ws' (dried_of d) ≡ drawn_of path (record { count = n; tag = tag; bbox = empty_box }) ws (Ok es)
drew_dried {path} {n} {tag} {reach} {ws} {ws'} {d} {es} e h = ap dried_page (exact h) ∙ subst Dry (sym e) (fresh path n tag ws es)
  where
    Dry : Reach → Type 0
    Dry x = dried_page (ink_all (page ws (Ok (record { count = n; tag = tag; path = path; reach = x }))) es) ≡ drawn_of path (record { count = n; tag = tag; bbox = empty_box }) ws (Ok es)

pub went : (path word : ℕ) (ws ws' : List ℕ) (d : Drawn) (r : Read (List Event)) (t : Turn) (h : Head) → word ≡ tag_word t.tag
    → sheet ws' d ≡ drawn_of path (record { count = t.count; tag = word; bbox = empty_box }) ws r → stepped (turn_of t h d) ws' ≡ behind t h (drawn_of path (fresh_pen tag_word t) ws r)
went path word ws ws' d r t h f k = ap (behind t h) (k ∙ (λ i. drawn_of path (record { count = t.count; tag = f i; bbox = empty_box }) ws r))

-- fewer tags are left
pub fewer : (r t : Turn) (h : Head) (d : Drawn) → r ≡ turn_of t h d → 0 < t.left → r.left < t.left
unfolding turn_of
fewer r t h (Ok pen) k p = rw k (omega arith)
fewer r t h (Err s) k p = rw k p

pub none_left : (r t : Turn) (why : Refusal) → r ≡ refused_at t why → 0 < t.left → r.left < t.left
unfolding refused_at
none_left r t why k p = rw k p
