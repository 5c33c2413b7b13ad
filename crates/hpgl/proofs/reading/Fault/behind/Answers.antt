-- `hpgl::reading::Fault::behind` meets its contract. Assumes nothing.
use Rattle.hpgl.specs.Reading.{back_of}
use Rattle.hpgl.proofs.reading.Fault.behind.Goals as goal

pub returns-in-Wrong : goal.returns-in-Wrong
unfolding back_of
returns-in-Wrong c = rw c.in-Wrong.is

pub returns-in-Beyond : goal.returns-in-Beyond
unfolding back_of
returns-in-Beyond c = rw c.in-Beyond.is
