-- `hpgl::lines::goes_on` meets its contract. Assumes nothing.
use Rattle.hpgl.specs.Export.{goes_on}
use Rattle.hpgl.proofs.lines.goes_on.Goals as goal

pub returns-in-None : goal.returns-in-None
unfolding goes_on
returns-in-None c = rw c.in-None.is

pub returns-in-Some : goal.returns-in-Some
unfolding goes_on
returns-in-Some c = rw c.in-Some.is
