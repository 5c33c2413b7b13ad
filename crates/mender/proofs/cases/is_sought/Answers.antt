-- `mender::cases::is_sought` meets its contract. Assumes nothing.
use Rattle.mender.specs.Sought.{is_sought}
use Rattle.mender.proofs.cases.is_sought.Goals as goal

pub returns-in-Uneven : goal.returns-in-Uneven
unfolding is_sought
returns-in-Uneven c = rw c.in-Uneven.is

pub returns-in-OpenEnd : goal.returns-in-OpenEnd
unfolding is_sought
returns-in-OpenEnd c = rw (c.in-OpenEnd.is, c.one_more.ensures)

pub returns-in-OpenStart : goal.returns-in-OpenStart
unfolding is_sought
returns-in-OpenStart c = rw (c.in-OpenStart.is, c.one_more-in-OpenStart.ensures)

pub returns-in-Other : goal.returns-in-Other
unfolding is_sought
returns-in-Other c = rw (c.in-Other.is, c.allowed-from.ensures, c.allowed-to.ensures)
