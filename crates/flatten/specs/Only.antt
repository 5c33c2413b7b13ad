-- No second answer satisfies the contract of a public function, nor second contents of what was lent. Assumes nothing.
use Rattle.std.specs.Prelude.{◌≡◌, ℕ, zero, suc, Bool, List, refl, Ok, Err}
use Rattle.std.proofs.Common.{◌∙◌, sym, ap}
use Rattle.laws.specs.Only.{Only, determined}
use Rattle.refusals.specs.Refusals.{number_of, end_of}
use Rattle.refusals.specs.Laws.{named, number_names, number_some}
use Rattle.refusals.specs.declared.Refusal.{Refusal}
use Rattle.scene.specs.declared.tags.PathTagData.{PathTagData}
use Rattle.flatten.specs.Boxes.{fresh_box, changed_of, changed_at}
use Rattle.flatten.specs.Call.{Answer, told_of, report_of, Outcome, outcome, call_of, owned_of}
use Rattle.flatten.specs.Tag.{head_at, is_path, is_stroke, points_at, numbers_at, shape_at}
use Rattle.flatten.specs.declared.boxes.PathBox.{PathBox}
use Rattle.flatten.specs.declared.boxes.Change.{Change}
use Rattle.flatten.specs.declared.call.Layout.{Layout}
use Rattle.flatten.specs.declared.call.Told.{Told}
use Rattle.flatten.specs.declared.call.Owned.{Owned}
use Rattle.flatten.specs.declared.tag.Head.{Head}

pub fresh_only : Only (λ r. r ≡ fresh_box)
fresh_only = determined fresh_box

pub changed_only : (p : PathBox) (c : Change) → Only (λ r. r ≡ changed_of p c)
changed_only p c = determined (changed_of p c)

pub merge_at_only : (ps : List PathBox) (at : ℕ) (c : Change) → Only (λ qs. qs ≡ changed_at ps at c)
merge_at_only ps at c = determined (changed_at ps at c)

pub told_only : (a : Answer) → Only (λ r. r ≡ told_of a)
told_only a = determined (told_of a)

pub report_only : (a : Answer) (ws : List ℕ) → Only (λ (r : ℕ × List ℕ). (r.0 ≡ (told_of a).number) × (r.1 ≡ report_of (told_of a) ws))
report_only a ws r s p q = λ i. ((p.0 ∙ sym q.0) i, (p.1 ∙ sym q.1) i)

-- an answer, from what is told of it
answer : ℕ → ℕ → ℕ → ℕ → Answer
answer zero end tag count = Ok count
answer (suc n) end tag count = Err (record { why = named (suc n) end; tag = tag; count = count })

answer_in : Told → Answer
answer_in t = answer t.number t.end t.tag t.count

refused_back : (why : Refusal) (n tag count : ℕ) → number_of why ≡ n → answer n (end_of why) tag count ≡ Err (record { why = why; tag = tag; count = count })
unfolding answer
refused_back why zero tag count e = absurd (number_some why e)
refused_back why (suc n) tag count e = ap (λ (w : Refusal). Err (record { why = w; tag = tag; count = count })) (ap (λ (m : ℕ). named m (end_of why)) (sym e) ∙ number_names why)

back : (a : Answer) → answer_in (told_of a) ≡ a
unfolding answer_in answer told_of
back (Ok count) = refl
back (Err r) = refused_back r.why (number_of r.why) r.tag r.count refl

one_answer : (a b : Answer) → told_of a ≡ told_of b → a ≡ b
one_answer a b e = sym (back a) ∙ ap answer_in e ∙ back b

-- the answer, the boxes and the lines
pub flatten_main_only : (layout : Layout) (scene prefixes : List ℕ) (ps : List PathBox) (ws : List ℕ)
    → Only (λ (r : Answer × (List PathBox × List ℕ)). outcome (told_of r.0) r.1.0 r.1.1 ≡ call_of layout scene prefixes ps ws)
flatten_main_only layout scene prefixes ps ws r s p q =
    let e = p ∙ sym q in
    let a = one_answer r.0 s.0 (ap (λ (o : Outcome). o.answer) e) in λ i. (a i, ((e i).boxes, (e i).lines))

pub flatten_owned_only : (layout : Layout) (scene prefixes : List ℕ) (ps : List PathBox) (n : ℕ) (ws : List ℕ)
    → Only (λ (r : Owned × List ℕ). outcome (told_of r.0.answer) r.0.boxes r.1 ≡ owned_of layout scene prefixes ps n ws)
flatten_owned_only layout scene prefixes ps n ws r s p q =
    let e = p ∙ sym q in
    let a = one_answer r.0.answer s.0.answer (ap (λ (o : Outcome). o.answer) e) in λ i. (record { answer = a i; boxes = (e i).boxes }, (e i).lines)

-- ---- the reads of a tag

pub is_path_only : (h : Head) → Only (λ r. r ≡ is_path h)
is_path_only h = determined (is_path h)

pub is_stroke_only : (h : Head) → Only (λ r. r ≡ is_stroke h)
is_stroke_only h = determined (is_stroke h)

pub read_head_only : (layout : Layout) (scene prefixes : List ℕ) (n ix : ℕ) → Only (λ r. r ≡ head_at layout scene prefixes n ix)
read_head_only layout scene prefixes n ix = determined (head_at layout scene prefixes n ix)

pub read_transform_only : (layout : Layout) (scene : List ℕ) (h : Head) → Only (λ r. r ≡ numbers_at layout scene h)
read_transform_only layout scene h = determined (numbers_at layout scene h)

pub read_points_only : (layout : Layout) (scene : List ℕ) (stroke : Bool) (t : PathTagData) → Only (λ r. r ≡ points_at layout scene stroke t)
read_points_only layout scene stroke t = determined (points_at layout scene stroke t)

pub read_shape_only : (layout : Layout) (scene prefixes : List ℕ) (ix : ℕ) (h : Head) → Only (λ r. r ≡ shape_at (is_stroke h) layout scene prefixes ix h)
read_shape_only layout scene prefixes ix h = determined (shape_at (is_stroke h) layout scene prefixes ix h)
