-- `flatlist::input::word_of` meets its contract: so far the word is the number of the digits passed. Assumes nothing.
use Rattle.std.proofs.Common.{sym, ◌∙◌, ◌<◌, length, arith}
use Rattle.flatlist.proofs.Reading.{digit_small, short, fits, digit_turn, bad_digit, bad_line_end, end_missing, line_ended}
use Rattle.flatlist.proofs.input.word_of.Goals as goal
use Rattle.flatlist.proofs.input.word_of.Goals.{else-line-gt8-via-then-line-gt8+else-line-ne10, else-line-gt8-via-else-line-gt8}

pub returns-in_err-digits : goal.returns-in_err-digits
returns-in_err-digits c =
    let few : length c.args.line.now < 8 = grind (arith, c.in_err-digits.ensures.lookup) in
    rw c.from_residual.ensures (short 8 0 c.args.line.now few (omega arith))

pub overflow_mul-word : goal.overflow_mul-word
overflow_mul-word c =
    let all = c.in_ok-digits.ensures.lookup.0 in
    omega (arith, fits c.loop-b.invariant all.1 all.2 c.loop-b-test.true)

pub returns-in_err-word : goal.returns-in_err-word
returns-in_err-word c =
    let all = c.in_ok-digits.ensures.lookup.0 in
    rw c.from_residual-in_err-word.ensures (bad_digit c.loop-b.invariant all.1 all.2 c.loop-b-test.true (sym c.digit.ensures ∙ c.in_err-word.was))

pub overflow_add-word : goal.overflow_add-word
overflow_add-word c =
    let all = c.in_ok-digits.ensures.lookup.0 in
    let small = digit_small _ _ (sym c.digit.ensures ∙ c.in_ok-word.was) in
    record { fits = omega (arith, small, fits c.loop-b.invariant all.1 all.2 c.loop-b-test.true) }

pub loop-b-preserved : goal.loop-b-preserved
loop-b-preserved c =
    let all = c.in_ok-digits.ensures.lookup.0 in
    digit_turn c.loop-b.invariant all.1 all.2 c.loop-b-test.true (sym c.digit.ensures ∙ c.in_ok-word.was)

pub returns-then-line-ne10 : goal.returns-then-line-ne10
returns-then-line-ne10 c =
    let all = c.in_ok-digits.ensures.lookup.0 in
    bad_line_end c.loop-b.invariant all.1 all.2 (omega arith) (omega arith) c.if-line-ne10.true

pub returns : goal.returns
returns c =
    let all = c.in_ok-digits.ensures.lookup.0 in
    elim c.else-line-gt8.branch [
      | else-line-gt8-via-then-line-gt8+else-line-ne10 w ↦ line_ended c.loop-b.invariant all.1 all.2 (omega arith) w.if-line-gt8.true (omega arith) w.if-line-ne10.false
      | else-line-gt8-via-else-line-gt8 w ↦ end_missing c.loop-b.invariant all.1 all.2 (omega arith) w.if-line-gt8.false
    ]
