-- `cut::sheet::size_of` meets its contract. Assumes nothing.
use Rattle.std.proofs.Common.{◌+◌, ◌^◌, ◌<◌, ◌≤◌, arith, lt-ltb, le-ltb}
use Rattle.cut.specs.Sheet.{groups, tag_words, size_of, small_size}
use Rattle.cut.specs.SheetLaws.{many_tags, many_points}
use Rattle.cut.proofs.sheet.size_of.Goals as goal

pub returns-then-n-ge8589934592 : goal.returns-then-n-ge8589934592
unfolding small_size
returns-then-n-ge8589934592 c = rw (le-ltb _ _ (many_tags c.args.n c.args.m (omega arith)))

pub returns-then-m-ge2147483648 : goal.returns-then-m-ge2147483648
unfolding small_size
returns-then-m-ge2147483648 c = rw (le-ltb _ _ (many_points c.args.n c.args.m (omega arith)))

pub overflow_add-size : goal.overflow_add-size
unfolding tag_words groups
overflow_add-size c = record { fits = omega (arith, c.tag_words.ensures) }

pub overflow_add-size-2 : goal.overflow_add-size-2
unfolding tag_words groups
overflow_add-size-2 c = record { fits = omega (arith, c.tag_words.ensures) }

pub returns-then-size-ge2147483648 : goal.returns-then-size-ge2147483648
unfolding size_of small_size
returns-then-size-ge2147483648 c =
    let large : 2 ^ 31 ≤ tag_words c.args.n + c.args.m + 8 = omega (arith, c.tag_words.ensures) in
    rw (le-ltb _ _ large)

pub returns : goal.returns
unfolding size_of small_size
returns c =
    let small : tag_words c.args.n + c.args.m + 8 < 2 ^ 31 = omega (arith, c.tag_words.ensures) in
    rw (lt-ltb _ _ small, c.tag_words.ensures)
