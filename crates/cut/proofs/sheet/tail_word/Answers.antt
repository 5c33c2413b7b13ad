-- `cut::sheet::tail_word` meets its contract. Assumes nothing.
use mathlib.Core.Path.{sym}
use native.Mathlib.Omega.{arith}
use Rattle.cut.specs.Sheet.{six_of}
use Rattle.cut.specs.SheetLaws.{zeros_behind}
use Rattle.cut.proofs.sheet.tail_word.Goals as goal

pub returns-in-0 : goal.returns-in-0
returns-in-0 c = rw c.in-0.is

pub returns-in-1 : goal.returns-in-1
returns-in-1 c = rw c.in-1.is

pub returns-in-2 : goal.returns-in-2
returns-in-2 c = rw c.in-2.is

pub returns-in-3 : goal.returns-in-3
returns-in-3 c = rw c.in-3.is

pub returns-in-4 : goal.returns-in-4
returns-in-4 c = rw c.in-4.is

pub returns-in-5 : goal.returns-in-5
returns-in-5 c = rw c.in-5.is

pub returns-in_default : goal.returns-in_default
returns-in_default c =
    let none = c.in_default.in_default-own.rest in
    sym (zeros_behind (six_of c.args.six) c.args.i (omega (arith, none.0.0.0.0.0.1, none.0.0.0.0.1, none.0.0.0.1, none.0.0.1, none.0.1, none.1)))
