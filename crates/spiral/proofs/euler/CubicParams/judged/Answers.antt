-- `spiral::euler::CubicParams::judged` meets its contract. Assumes nothing.
use lib.Ieee.{of_bits, round}
use Rattle.spiral.specs.Euler.{from_points_derivs}
use Rattle.spiral.specs.Judged.{judged_itself}
use Rattle.spiral.proofs.euler.CubicParams.judged.Goals as goal

pub returns-then-chord_squared : goal.returns-then-chord_squared
unfolding from_points_derivs of_bits round
returns-then-chord_squared c = rw (← c.sub-chord.ensures, ← c.length_squared-chord_squared.ensures, c.if-chord_squared.true, c.short_chord.ensures) (judged_itself _ _)

pub returns : goal.returns
unfolding from_points_derivs of_bits round
returns c = rw (← c.sub-chord.ensures, ← c.length_squared-chord_squared.ensures, ← c.sqrt-chord_len.ensures, c.if-chord_squared.false) c.long_chord.ensures
