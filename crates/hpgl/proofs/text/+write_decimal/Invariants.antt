-- `hpgl::write_decimal` ends: the measure is the number. Assumes nothing.
use Rattle.hpgl.proofs.text.+write_decimal.Given as goal

abbrev pub decreases-write_decimal : goal.decreases-write_decimal
decreases-write_decimal l = l.n
