-- The whole call: one tag after the other, until none is left or one is refused. Definitions only.
use Rattle.std.specs.Prelude.{ℕ, zero, suc, ◌*◌, Bool, true, false, cond, ◌||◌, List, [], ◌∷◌, ◌++◌, length, take, drop, nat_lt, Option, Some, None, Result, Ok, Err}
use Rattle.refusals.specs.Refusals.{number_of, end_of}
use Rattle.refusals.specs.declared.Refusal.{Refusal}
use Rattle.refusals.specs.declared.Refusal.TheVariants.{BadBase}
use Rattle.flatten.specs.Boxes.{changed_at, no_change}
use Rattle.flatten.specs.Step.{tag_word, no_word, Stepped, step_by}
use Rattle.flatten.specs.declared.boxes.PathBox.{PathBox}
use Rattle.flatten.specs.declared.call.Layout.{Layout}
use Rattle.flatten.specs.declared.call.Turn.{Turn}
use Rattle.flatten.specs.declared.call.Refused.{Refused}
use Rattle.flatten.specs.declared.call.Told.{Told}

-- ---- where the call starts

unfoldable pub first_turn : ℕ → Option Refusal → Turn
first_turn left s =
    record { left = left; tag = 0; count = 0; stop = s; at = 0; change = no_change }

-- whether a base lies past the scene's end; else 256 tags for each workgroup are left
abbrev pub start_at : Bool → Layout → Turn
start_at true layout = first_turn 0 (Some BadBase)
start_at false layout = first_turn (layout.n_wg * 256) None

unfoldable pub start_of : Layout → ℕ → Turn
start_of layout n = start_at (nat_lt n layout.tag_base || nat_lt n layout.data_base) layout

-- ---- one tag after the other

pub record State : Type 0 where
  pub turn : Turn
  pub boxes : List PathBox
  pub lines : List ℕ

-- what a tag did, with its change of one box
unfoldable pub taken : List PathBox → Stepped → State
taken ps o = record { turn = o.turn; boxes = changed_at ps o.turn.at o.turn.change; lines = o.lines }

-- where no tag is left, as behind a refusal, the state stays
unfoldable pub onward_by : (ℕ → ℕ) → Bool → Layout → List ℕ → List ℕ → State → State
onward_by word true layout scene prefixes s = taken s.boxes (step_by word layout scene prefixes s.lines (length s.boxes) s.turn)
onward_by word false layout scene prefixes s = s

abbrev pub next_by : (ℕ → ℕ) → Layout → List ℕ → List ℕ → State → State
next_by word layout scene prefixes s = onward_by word (nat_lt 0 s.turn.left) layout scene prefixes s

unfoldable pub after_by : (ℕ → ℕ) → ℕ → Layout → List ℕ → List ℕ → State → State
after_by word zero layout scene prefixes s = s
after_by word (suc n) layout scene prefixes s = next_by word layout scene prefixes (after_by word n layout scene prefixes s)

abbrev pub next : Layout → List ℕ → List ℕ → State → State
next = next_by tag_word

abbrev pub after : ℕ → Layout → List ℕ → List ℕ → State → State
after = after_by tag_word

-- ---- the answer

-- how many lines are stored, or why and at which tag the call stopped
abbrev pub Answer : Type 0
Answer = Result ℕ Refused

abbrev pub answer_for : Option Refusal → ℕ → ℕ → Answer
answer_for None tag count = Ok count
answer_for (Some why) tag count = Err (record { why = why; tag = tag; count = count })

unfoldable pub answer_of : Turn → Answer
answer_of t = answer_for t.stop t.tag t.count

-- what an answer says: its number, the tag in turn, and how many lines are stored; no line has an end that is no number
abbrev pub said : ℕ → ℕ → ℕ → Told
said number tag count = record { number = number; end = 0; tag = tag; count = count }

unfoldable pub told_of : Answer → Told
told_of (Ok count) = said 0 0 count
told_of (Err r) = record { number = number_of r.why; end = end_of r.why; tag = r.tag; count = r.count }

-- two words take the tag and the count, where there are two, and a third one the end
unfoldable pub report_of : Told → List ℕ → List ℕ
report_of told [] = []
report_of told (a ∷ []) = a ∷ []
report_of told (a ∷ b ∷ []) = told.tag ∷ told.count ∷ []
report_of told (a ∷ b ∷ c ∷ ws) = told.tag ∷ told.count ∷ told.end ∷ ws

-- ---- the call

pub record Outcome : Type 0 where
  pub answer : Told
  pub boxes : List PathBox
  pub lines : List ℕ

abbrev pub outcome : Told → List PathBox → List ℕ → Outcome
outcome told ps ws = record { answer = told; boxes = ps; lines = ws }

abbrev pub outcome_of : State → Outcome
outcome_of s = outcome (told_of (answer_of s.turn)) s.boxes s.lines

unfoldable pub call_by : (ℕ → ℕ) → Layout → List ℕ → List ℕ → List PathBox → List ℕ → Outcome
call_by word layout scene prefixes ps ws =
    outcome_of (after_by word (layout.n_wg * 256) layout scene prefixes (record { turn = start_of layout (length scene); boxes = ps; lines = ws }))

-- this call, whose lines tell their tag
abbrev pub call_of : Layout → List ℕ → List ℕ → List PathBox → List ℕ → Outcome
call_of = call_by tag_word

-- the call of the scope paper, with refusal 9 beside; `set_aside_lem` says that it is the other one but for that word
abbrev pub plain_call_of : Layout → List ℕ → List ℕ → List PathBox → List ℕ → Outcome
plain_call_of = call_by no_word

-- ---- the call with boxes of its own

unfoldable pub few_of : ℕ → ℕ
few_of n = cond (nat_lt 64 n) 64 n

abbrev pub and_behind : List PathBox → Outcome → Outcome
and_behind ps o = outcome o.answer (o.boxes ++ ps) o.lines

-- the first n boxes are lent, of 64 at most; behind them stand the others
unfoldable pub owned_of : Layout → List ℕ → List ℕ → List PathBox → ℕ → List ℕ → Outcome
owned_of layout scene prefixes ps n ws = and_behind (drop (few_of n) ps) (call_of layout scene prefixes (take (few_of n) ps) ws)
