-- `hpgl::reading::ended` meets its contract. Assumes nothing.
use Rattle.hpgl.specs.Reading.{back_of}
use Rattle.hpgl.proofs.reading.ended.Goals as goal

pub returns-in-Fresh : goal.returns-in-Fresh
unfolding back_of
returns-in-Fresh c = rw c.in-Fresh.is

pub returns-in-Lifted : goal.returns-in-Lifted
unfolding back_of
returns-in-Lifted c = rw c.in-Lifted.is

pub returns-in-Drawn : goal.returns-in-Drawn
unfolding back_of
returns-in-Drawn c = rw c.in-Drawn.is
