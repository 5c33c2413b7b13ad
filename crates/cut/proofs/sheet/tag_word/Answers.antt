-- `cut::sheet::tag_word` meets its contract. Assumes nothing.
use Prim.Native.Nat.{ℕ, ◌*◌}
use mathlib.Core.Path.{sym, ap, ◌∙◌}
use native.Mathlib.Nat.{add-zero}
use lib.ListN.{get_or}
use Rattle.cut.specs.Sheet.{tag_bytes, tag_word}
use Rattle.cut.proofs.sheet.tag_word.Goals as goal

pub returns : goal.returns
unfolding tag_word
returns c =
    let first = c.tag_byte-a.ensures ∙ ap (λ (n : ℕ). get_or (tag_bytes c.args.tags.now) n 0) (sym (add-zero (c.args.k * 4))) in
    rw (first, c.tag_byte-b.ensures, c.tag_byte-c.ensures, c.tag_byte-d.ensures)
