-- How far the numbers of the two tables reach. Assumes nothing.
use Rattle.std.specs.Prelude.{◌≡◌, refl, Bool, true, false, ◌≤◌}
use Rattle.std.proofs.Common.{lit≤}
use Rattle.hpgl.specs.Form.{most, range_of}
use Rattle.hpgl.specs.declared.Table.{Table}
use Rattle.hpgl.specs.declared.Table.TheVariants.{Old, New}

pub old_most : (s : Bool) → 32767 ≡ most (range_of Old) s
unfolding range_of
old_most true = refl
old_most false = refl

pub new_below : 8388608 ≡ most (range_of New) true
unfolding range_of
new_below = refl

pub new_above : 8388607 ≡ most (range_of New) false
unfolding range_of
new_above = refl

-- none further than this
pub most_few : (table : Table) (s : Bool) → most (range_of table) s ≤ 8388608
unfolding range_of
most_few Old true = lit≤ tt
most_few Old false = lit≤ tt
most_few New true = lit≤ tt
most_few New false = lit≤ tt

-- what a table has, the new one has
pub most_new : (table : Table) (s : Bool) → most (range_of table) s ≤ most (range_of New) s
unfolding range_of
most_new Old true = lit≤ tt
most_new Old false = lit≤ tt
most_new New true = lit≤ tt
most_new New false = lit≤ tt
