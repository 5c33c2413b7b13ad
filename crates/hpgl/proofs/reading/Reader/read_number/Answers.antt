-- `hpgl::reading::Reader::read_number` meets its contract. Assumes nothing.
use mathlib.Core.Path.{refl}
use native.Mathlib.Omega.{arith}
use Rattle.hpgl.specs.Numbers.{Good}
use Rattle.hpgl.proofs.Signed.{within_back}
use Rattle.hpgl.specs.ReadingLaws.{number_short}
use Rattle.hpgl.proofs.ReadingLaws.{number_on, number_within, number_done, number_wrong, number_beyond}
use Rattle.hpgl.proofs.reading.Reader.read_number.Goals as goal

pub loop-at-init : goal.loop-at-init
unfolding Good
loop-at-init c = record { same = refl; behind = omega arith; inside = c.requires; good = tt }

pub returns-in-Done : goal.returns-in-Done
returns-in-Done c = rw (within_back c.args.self.table _ (number_within c.args.self.table c.args.self.file.now c.args.start c.args.ends c.loop-at.n c.loop-at.at c.loop-at.invariant c.loop-at-test.true c.num_step.result c.num_step.ensures _ c.in-Done.is)) (number_done c.args.self.table c.args.self.file.now c.args.start c.args.ends c.loop-at.n c.loop-at.at c.loop-at.invariant c.loop-at-test.true c.num_step.result c.num_step.ensures _ c.in-Done.is)

pub returns-in-Wrong : goal.returns-in-Wrong
returns-in-Wrong c = number_wrong c.args.self.table c.args.self.file.now c.args.start c.args.ends c.loop-at.n c.loop-at.at c.loop-at.invariant c.loop-at-test.true c.num_step.result c.num_step.ensures c.in-Wrong.is

pub returns-in-Beyond : goal.returns-in-Beyond
returns-in-Beyond c = number_beyond c.args.self.table c.args.self.file.now c.args.start c.args.ends c.loop-at.n c.loop-at.at c.loop-at.invariant c.loop-at-test.true c.num_step.result c.num_step.ensures c.in-Beyond.is

pub loop-at-preserved : goal.loop-at-preserved
loop-at-preserved c = number_on c.args.self.table c.args.self.file.now c.args.start c.args.ends c.loop-at.n c.loop-at.at c.loop-at.invariant c.loop-at-test.true c.num_step.result c.num_step.ensures _ c.in-Goes.is

pub returns : goal.returns
returns c = number_short c.args.self.table c.args.self.file.now c.args.start c.args.ends c.loop-at.n c.loop-at.at c.loop-at.invariant c.loop-at-test.false
