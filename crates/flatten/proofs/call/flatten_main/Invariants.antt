-- `flatten::flatten_main`: the loop stands at a state that is some tags behind the first, and those and the tags left are no more than the call has. The tags left are the measure. Assumes nothing.
use Rattle.std.proofs.Common.{◌≡◌, ℕ, ◌+◌, ◌*◌, ◌≤◌, List, length}
use Rattle.flatten.specs.declared.boxes.PathBox.{PathBox}
use Rattle.flatten.specs.declared.call.Turn.{Turn}
use Rattle.flatten.specs.declared.call.Layout.{Layout}
use Rattle.flatten.specs.Call.{State, start_of, after}
use Rattle.flatten.proofs.call.flatten_main.Given as goal

abbrev pub starting : Turn → List PathBox → List ℕ → State
starting t ps ws = record { turn = t; boxes = ps; lines = ws }

pub record Going (layout : Layout) (scene prefixes : List ℕ) (ps : List PathBox) (ws : List ℕ) (s : State) : Type 0 where
  pub behind : ℕ
  pub enough : s.turn.left + behind ≤ layout.n_wg * 256
  pub same : s ≡ after behind layout scene prefixes (starting (start_of layout (length scene)) ps ws)

abbrev pub invariant-loop-t : goal.invariant-loop-t
invariant-loop-t l = Going l.fn.layout l.scene l.prefixes l.initial.boxes l.initial.lines (starting l.t l.boxes l.lines)

abbrev pub decreases-loop-t : goal.decreases-loop-t
decreases-loop-t l = l.t.left
