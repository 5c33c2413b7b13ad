-- `records::one` meets its contract. Assumes nothing.
use mathlib.Core.Bool.{Bool, true, false}
use mathlib.Core.Path.{◌≡◌, refl, ◌∙◌}
use mir.Val.{bool_byte}
use Rattle.records.specs.Record.{once}
use Rattle.records.proofs.one.Goals as goal

as_byte : (b : Bool) → bool_byte b ≡ once b
unfolding once
as_byte true = refl
as_byte false = refl

pub returns : goal.returns
returns c = c.from.ensures ∙ as_byte c.args.b
