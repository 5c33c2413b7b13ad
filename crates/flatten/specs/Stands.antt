-- What the call leaves in the lent words of the lines: as many whole records as it counts, those stored before among them, and behind them every word as at entry. Assumes nothing.
use Rattle.std.specs.Prelude.{◌≡◌, ℕ, zero, suc, ◌+◌, ◌*◌, List, [], ◌∷◌, ◌++◌, length, take, drop, refl, Ok, Err}
use Rattle.std.proofs.Common.{sym, ap, ◌∙◌, subst, append_assoc, arith, take_at, drop_at, drop-drop}
use Rattle.spiral.specs.declared.util.Vec2.{Vec2}
use Rattle.refusals.specs.Refusals.{Read}
use Rattle.drawing.specs.Sheet.{Event, line, no_count, no_join, sheet, record_of, empty_box, count_of, draw_all, Drawn}
use Rattle.drawing.specs.Stands.{pen_tag, records_of, Stands, stands}
use Rattle.flatten.specs.Tag.{events_at, head_at}
use Rattle.flatten.specs.Step.{drawn_of, fresh_pen, turn_of, refused_at, behind, tag_word, step_from_by, step_of, step_by}
use Rattle.flatten.specs.Call.{State, taken, after}
use Rattle.flatten.specs.CallLaws.{carried}
use Rattle.flatten.specs.declared.call.Layout.{Layout}
use Rattle.flatten.specs.declared.call.Turn.{Turn}
use Rattle.flatten.specs.declared.tag.Head.{Head}

-- ---- line records

-- the words of n lines
pub data Lines : ℕ → List ℕ → Type 0 where
  none : Lines 0 []
  next : {n : ℕ} {ws : List ℕ} (path tag : ℕ) (p q : Vec2) → Lines n ws → Lines (suc n) (record_of path tag p q ++ ws)

lines_length : {n : ℕ} {ws : List ℕ} → Lines n ws → length ws ≡ n * 6
lines_length none = refl
lines_length (next path tag p q l) = omega (arith, lines_length l)

and_lines : {m n : ℕ} {xs ys : List ℕ} → Lines m xs → Lines n ys → Lines (m + n) (xs ++ ys)
and_lines {n = n} none k = let e : n ≡ 0 + n = omega arith in rw e at k
and_lines {n = n} {ys = ys} (next {n = m} {ws = xs} path tag p q l) k =
    let e : suc (m + n) ≡ suc m + n = omega arith in
    subst (λ (j : ℕ). Lines j (record_of path tag p q ++ (xs ++ ys))) e (next path tag p q (and_lines l k))

drawn_lines : (path tag k : ℕ) (es : List Event) → length (records_of path tag k es) ≡ k * 6 → Lines k (records_of path tag k es)
unfolding records_of
drawn_lines path tag zero es h = none
drawn_lines path tag (suc k) [] h = absurd (omega arith)
drawn_lines path tag (suc k) (line p q ∷ es) h = next path tag p q (drawn_lines path tag k es (omega arith))
drawn_lines path tag (suc k) (no_count ∷ es) h = absurd (omega arith)
drawn_lines path tag (suc k) (no_join ∷ es) h = absurd (omega arith)

-- ---- one tag

-- what the drawing of a tag leaves, whatever is drawn
pub record Grown (tag : ℕ) (ws : List ℕ) (n : ℕ) (ws' : List ℕ) (n' : ℕ) : Type 0 where
  pub path : ℕ
  pub events : List Event
  pub drew : Stands path tag events ws n ws' n'

unchanged : (tag : ℕ) (ws : List ℕ) (n : ℕ) → Grown tag ws n ws n
unfolding draw_all pen_tag
unchanged tag ws n = record { path = 0; events = []; drew = stands 0 [] ws (Ok (record { count = n; tag = tag; bbox = empty_box })) }

pub end_count : (t : Turn) (h : Head) (d : Drawn) → count_of d ≡ (turn_of t h d).count
unfolding turn_of
end_count t h (Ok pen) = refl
end_count t h (Err s) = refl

drawing_grows : (t : Turn) (h : Head) (ws : List ℕ) (path : ℕ) (r : Read (List Event)) → Grown (tag_word t.tag) ws t.count (behind t h (drawn_of path (fresh_pen tag_word t) ws r)).lines (behind t h (drawn_of path (fresh_pen tag_word t) ws r)).turn.count
unfolding drawn_of turn_of pen_tag
drawing_grows t h ws path (Err why) = unchanged (tag_word t.tag) ws t.count
drawing_grows t h ws path (Ok es) =
    let d = Ok (fresh_pen tag_word t) in
    let s = draw_all path (sheet ws d) es in
    record { path = path; events = es; drew = subst (Stands path (tag_word t.tag) es ws t.count s.words) (end_count t h s.drawn) (stands path es ws d) }

head_grows : (r : Read Head) (layout : Layout) (scene prefixes ws : List ℕ) (t : Turn) → Grown (tag_word t.tag) ws t.count (step_from_by tag_word r layout scene prefixes ws t).lines (step_from_by tag_word r layout scene prefixes ws t).turn.count
unfolding step_from_by refused_at
head_grows (Err why) layout scene prefixes ws t = unchanged (tag_word t.tag) ws t.count
head_grows (Ok h) layout scene prefixes ws t = drawing_grows t h ws h.tag.monoid.path_ix (events_at layout scene prefixes t.tag h)

pub step_grows : (layout : Layout) (scene prefixes ws : List ℕ) (n : ℕ) (t : Turn) → Grown (tag_word t.tag) ws t.count (step_of layout scene prefixes ws n t).lines (step_of layout scene prefixes ws n t).turn.count
unfolding step_by
step_grows layout scene prefixes ws n t = head_grows (head_at layout scene prefixes n t.tag) layout scene prefixes ws t

-- ---- the call

-- of the words ws at entry, n records are written; `first` stands in front
pub record Stored (ws first : List ℕ) (n : ℕ) (ws' : List ℕ) : Type 0 where
  pub all : List ℕ
  pub rest : List ℕ
  pub before : all ≡ first ++ rest
  pub lines : Lines n all
  pub words : ws' ≡ all ++ drop (n * 6) ws

module _ {ws first : List ℕ} {n : ℕ} {ws₁ : List ℕ} {n' : ℕ} {ws' : List ℕ} where
  more_stored : (tag : ℕ) → Stored ws first n ws₁ → Grown tag ws₁ n ws' n' → Stored ws first n' ws'
  more_stored tag s g =
      let k = g.drew in
      let new = records_of g.path tag k.more g.events in
      let size = lines_length s.lines in
      let kept : take (n * 6) ws₁ ≡ s.all = ap (take (n * 6)) s.words ∙ take_at s.all (drop (n * 6) ws) (n * 6) size in
      let behind : drop (n * 6) ws₁ ≡ drop (n * 6) ws = ap (drop (n * 6)) s.words ∙ drop_at s.all (drop (n * 6) ws) (n * 6) size in
      let e : n' * 6 ≡ n * 6 + k.more * 6 = omega (arith, k.count) in
      let later : drop (n * 6 + k.more * 6) ws₁ ≡ drop (n * 6 + k.more * 6) ws = sym (drop-drop (k.more * 6) (n * 6) ws₁) ∙ ap (drop (k.more * 6)) behind ∙ drop-drop (k.more * 6) (n * 6) ws in
      record {
        all = s.all ++ new;
        rest = s.rest ++ new;
        before = ap (λ (x : List ℕ). x ++ new) s.before ∙ append_assoc first s.rest new;
        lines = subst (λ (m : ℕ). Lines m (s.all ++ new)) (sym k.count) (and_lines s.lines (drawn_lines g.path tag k.more g.events k.whole));
        words = k.words ∙ ap (λ (x : List ℕ). x ++ new ++ drop (n' * 6) ws₁) kept ∙ ap (λ (x : List ℕ). s.all ++ new ++ x) (rw e later);
      }

-- whatever records stand before some tags stand after them, as many as are counted, and no later word is changed
pub call_stands : (layout : Layout) (scene prefixes ws first : List ℕ) (n : ℕ) (s : State) → Stored ws first s.turn.count s.lines
    → Stored ws first (after n layout scene prefixes s).turn.count (after n layout scene prefixes s).lines
unfolding taken
call_stands layout scene prefixes ws first n s h =
    carried layout scene prefixes (λ (t : State). Stored ws first t.turn.count t.lines)
    (λ t e k. more_stored (tag_word t.turn.tag) k (step_grows layout scene prefixes t.lines (length t.boxes) t.turn)) n s h
