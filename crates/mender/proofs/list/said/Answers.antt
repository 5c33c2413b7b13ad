-- `mender::list::said` meets its contract. Assumes nothing.
use Rattle.mender.specs.Report.{said_of}
use Rattle.mender.proofs.list.said.Goals as goal

pub returns-in-Sound : goal.returns-in-Sound
unfolding said_of
returns-in-Sound c = λ p. rw c.in-Sound.is

pub returns-in-Mended : goal.returns-in-Mended
unfolding said_of
returns-in-Mended c = λ p. rw c.in-Mended.is

pub returns-in-NotMended : goal.returns-in-NotMended
unfolding said_of
returns-in-NotMended c = λ p. rw c.in-NotMended.is
