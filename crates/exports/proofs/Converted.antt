-- What was told of a moved sheet, written to `out`, is its report. Assumes nothing.
use Prim.Native.Nat.{ℕ}
use mathlib.Core.Path.{◌≡◌, ap, ◌∙◌}
use mathlib.Core.List.{List}
use Rattle.sheets.specs.Written.{Moved, told_of, Left, leaves, left}
use Rattle.sheets.specs.declared.sheet.Told.{Told}
use Rattle.exports.specs.Convert.{three_of, moved, moved_of}

pub reported : (r : Moved) (t : Told) (os : List ℕ) {ts ws os' : List ℕ} (l : Left) → left r ts ws ≡ l → t ≡ told_of r → os' ≡ three_of t.tags t.words t.at os
    → moved t.number ts ws os' ≡ moved_of l os
unfolding moved_of
reported r t os {ts} {ws} l e told w =
    ap (moved t.number ts ws) w ∙ ap (λ (u : Told). moved_of (leaves u ts ws) os) told ∙ ap (λ (k : Left). moved_of k os) e
