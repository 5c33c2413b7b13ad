-- Points are compared as their coordinates are. Assumes nothing.
use Rattle.std.specs.Cmp.{IsPartialEquivalence, and_per}
use Rattle.std.specs.Float.Cmp.{on_floats_per}
use Rattle.spiral.specs.Util.{eq_of}

pub same_points : IsPartialEquivalence eq_of
unfolding eq_of
same_points = and_per (on_floats_per (λ p. p.x)) (on_floats_per (λ p. p.y))
