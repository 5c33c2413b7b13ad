-- `hpgl::write_decimal` meets its contract. Assumes nothing.
use Rattle.std.proofs.Common.{ℕ, ◌+◌, sym, ap, arith}
use Rattle.hpgl.specs.TextLaws.{length_small, length_tens, store_small, store_tens}
use Rattle.hpgl.proofs.text.+write_decimal.Goals as goal

pub bounds-out-at : goal.bounds-out-at
bounds-out-at t c = omega (arith, length_small c.args.n c.if-n-lt10.true)

pub returns-then-n-lt10 : goal.returns-then-n-lt10
returns-then-n-lt10 t c =
    record { place = ap (λ (k : ℕ). c.args.at + k) (sym (length_small c.args.n c.if-n-lt10.true)); bytes = store_small c.args.out.now c.args.at c.args.n c.if-n-lt10.true }

pub write_decimal-end-requires : goal.write_decimal-end-requires
write_decimal-end-requires t c = (omega arith, omega (arith, length_tens c.args.n c.if-n-lt10.false))

pub bounds-out-end : goal.bounds-out-end
bounds-out-end t c = omega (arith, length_tens c.args.n c.if-n-lt10.false, c.write_decimal-end.ensures.place, c.write_decimal-end.auto.out)

pub overflow_add-result-2 : goal.overflow_add-result-2
overflow_add-result-2 t c = omega (arith, length_tens c.args.n c.if-n-lt10.false, c.write_decimal-end.ensures.place, c.write_decimal-end.auto.out)

pub returns : goal.returns
returns t c =
    record { place = omega (arith, length_tens c.args.n c.if-n-lt10.false, c.write_decimal-end.ensures.place); bytes = store_tens c.args.out.now c.write_decimal-end.new.out c.args.at c.write_decimal-end.result c.args.n c.if-n-lt10.false c.write_decimal-end.ensures.place c.write_decimal-end.ensures.bytes }
