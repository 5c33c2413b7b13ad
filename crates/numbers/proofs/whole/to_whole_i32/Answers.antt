-- `numbers::whole::to_whole_i32` meets its contract. Assumes nothing.
use Rattle.std.proofs.Common.{ℕ, Bool, cond, not, T, pos, neg_ℤ, sym, ap, ◌∙◌, subst, le_trans, le_of_eq}
use lib.Ieee.{Float, of_bits, lt, to_signed}
use Rattle.numbers.specs.Words.{sign_of}
use Rattle.numbers.specs.WordsLaws.{abs_clear}
use Rattle.numbers.proofs.Bits.{yes, no}
use Rattle.numbers.proofs.Integers.{read_back}
use Rattle.numbers.proofs.Wholes.{limit, kept, as_i32}
use Rattle.numbers.proofs.whole.to_whole_i32.Goals as goal

pub near-f-requires : goal.near-f-requires
unfolding of_bits
near-f-requires c = record { unsigned = subst (λ (v : Float). T (not (sign_of v))) (sym c.abs-a.ensures) (abs_clear c.args.x); small = yes c.if-a.true }

pub float_to_int-f : goal.float_to_int-f
unfolding of_bits
float_to_int-f c =
    (as_i32 c.args.away c.args.x c.abs-a.result c.near-f.result (subst T (sym c.well_formed.1.0.1) tt) c.abs-a.ensures (yes c.if-a.true) c.near-f.ensures).whole

pub next-k-requires : goal.next-k-requires
unfolding of_bits
next-k-requires c =
    (as_i32 c.args.away c.args.x c.abs-a.result c.near-f.result (subst T (sym c.well_formed.1.0.1) tt) c.abs-a.ensures (yes c.if-a.true) c.near-f.ensures).low

pub with_sign-requires : goal.with_sign-requires
unfolding of_bits
with_sign-requires c =
    le_trans (le_of_eq c.next-k.ensures) (as_i32 c.args.away c.args.x c.abs-a.result c.near-f.result (subst T (sym c.well_formed.1.0.1) tt) c.abs-a.ensures (yes c.if-a.true) c.near-f.ensures).small

pub returns-then-a : goal.returns-then-a
unfolding of_bits
returns-then-a c =
    read_back c.with_sign.type_inv
    ∙ c.with_sign.ensures
    ∙ ap (λ (s : Bool). cond s (neg_ℤ (pos c.next-k.result)) (pos c.next-k.result)) c.is_negative.ensures
    ∙ ap (λ (k : ℕ). cond (sign_of c.args.x) (neg_ℤ (pos k)) (pos k)) c.next-k.ensures
    ∙ (as_i32 c.args.away c.args.x c.abs-a.result c.near-f.result (subst T (sym c.well_formed.1.0.1) tt) c.abs-a.ensures (yes c.if-a.true) c.near-f.ensures).value

pub returns : goal.returns
unfolding of_bits
returns c =
    read_back c.to_i32.type_inv
    ∙ c.to_i32.ensures
    ∙ ap (to_signed 31) (kept c.args.away c.args.x (subst T (sym c.well_formed.1.0.1) tt) (subst (λ (v : Float). T (not (lt v limit))) c.abs-a.ensures (no c.if-a.false)))
