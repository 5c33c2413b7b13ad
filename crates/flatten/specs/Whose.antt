-- Which tag drew a line, the call with that word set aside, and a call that ended at a tag and stored none of its lines. Definitions only.
use Rattle.std.specs.Prelude.{◌≡◌, ℕ, zero, suc, ◌+◌, ◌*◌, ◌%◌, ◌^◌, ◌<◌, ◌≤◌, List, length, slice_index_or, slice_set}
use Rattle.flatten.specs.Call.{start_of, after, Outcome, outcome, call_of}
use Rattle.flatten.specs.declared.boxes.PathBox.{PathBox}
use Rattle.flatten.specs.declared.call.Layout.{Layout}

-- 0 for the second word of each of the first n records
unfoldable pub aside : ℕ → List ℕ → List ℕ
aside zero ws = ws
aside (suc n) ws = slice_set (aside n ws) (n * 6 + 1) 0

-- of all that is stored
abbrev pub set_aside : Outcome → Outcome
set_aside o = outcome o.answer o.boxes (aside o.answer.count o.lines)

module _ (layout : Layout) (scene prefixes : List ℕ) (ps : List PathBox) (ws : List ℕ) where
  -- how many lines are stored when i tags have had their turn
  abbrev pub count_after : ℕ → ℕ
  count_after i = (after i layout scene prefixes (record { turn = start_of layout (length scene); boxes = ps; lines = ws })).turn.count

  -- the lent words then
  abbrev pub lines_after : ℕ → List ℕ
  lines_after i = (after i layout scene prefixes (record { turn = start_of layout (length scene); boxes = ps; lines = ws })).lines

  -- the call ended at this tag and stored no line of it: count and words are those behind the tags before
  pub record StoredNone : Type 0 where
    pub tag : ℕ
    pub in_call : tag < layout.n_wg * 256
    pub told : (call_of layout scene prefixes ps ws).answer.tag ≡ tag % 2 ^ 64
    pub count : (call_of layout scene prefixes ps ws).answer.count ≡ count_after tag
    pub lines : (call_of layout scene prefixes ps ws).lines ≡ lines_after tag

  -- record k was stored while this tag was in turn, and its second word says so
  pub record Whose (k : ℕ) : Type 0 where
    pub tag : ℕ
    pub in_call : tag < layout.n_wg * 256
    pub not_before : count_after tag ≤ k
    pub by_then : k < count_after (suc tag)
    pub told : slice_index_or (call_of layout scene prefixes ps ws).lines (k * 6 + 1) 0 ≡ tag % 2 ^ 32
