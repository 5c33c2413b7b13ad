-- `numbers::whole::between` meets its contract. Assumes nothing.
use Rattle.std.proofs.Common.{ℕ, Bool, true, false, T, pos, neg_ℤ, sym, ap, ◌∙◌, subst, le_trans, le_of_eq}
use Rattle.numbers.specs.Words.{signed}
use Rattle.numbers.specs.Whole.{span_of}
use Rattle.numbers.proofs.Spans.{both, ended}
use Rattle.numbers.proofs.whole.between.Goals as goal

pub float_to_int-k : goal.float_to_int-k
float_to_int-k c =
    (both c.args.s c.args.a c.near-f.result (subst T (sym c.well_formed.1.0.1) tt) c.requires.unsigned c.requires.small c.near-f.ensures).whole

pub next-m-requires : goal.next-m-requires
next-m-requires c =
    (both c.args.s c.args.a c.near-f.result (subst T (sym c.well_formed.1.0.1) tt) c.requires.unsigned c.requires.small c.near-f.ensures).low

pub with_sign-requires : goal.with_sign-requires
with_sign-requires c =
    le_trans (le_of_eq c.next-m.ensures) (both c.args.s c.args.a c.near-f.result (subst T (sym c.well_formed.1.0.1) tt) c.requires.unsigned c.requires.small c.near-f.ensures).next

pub with_sign-requires-then-s : goal.with_sign-requires-then-s
with_sign-requires-then-s c =
    (both c.args.s c.args.a c.near-f.result (subst T (sym c.well_formed.1.0.1) tt) c.requires.unsigned c.requires.small c.near-f.ensures).small

pub returns-then-s : goal.returns-then-s
returns-then-s c =
    let B = both true c.args.a c.near-f.result (subst T (sym c.well_formed.1.0.1) tt) c.requires.unsigned c.requires.small c.near-f.ensures in
    ended (signed true c.args.a) c.with_sign.type_inv c.with_sign-then-s.type_inv (c.with_sign.ensures ∙ ap (λ (k : ℕ). neg_ℤ (pos k)) c.next-m.ensures ∙ B.floor) (c.with_sign-then-s.ensures ∙ B.ceil)
    ∙ ap (λ (s : Bool). span_of (signed s c.args.a)) (sym c.if-s.true)

pub with_sign-requires-else-s : goal.with_sign-requires-else-s
with_sign-requires-else-s c =
    (both c.args.s c.args.a c.near-f.result (subst T (sym c.well_formed.1.0.1) tt) c.requires.unsigned c.requires.small c.near-f.ensures).small

pub with_sign-requires-else-s-2 : goal.with_sign-requires-else-s-2
with_sign-requires-else-s-2 c =
    le_trans (le_of_eq c.next-m.ensures) (both c.args.s c.args.a c.near-f.result (subst T (sym c.well_formed.1.0.1) tt) c.requires.unsigned c.requires.small c.near-f.ensures).next

pub returns-else-s : goal.returns-else-s
returns-else-s c =
    let B = both false c.args.a c.near-f.result (subst T (sym c.well_formed.1.0.1) tt) c.requires.unsigned c.requires.small c.near-f.ensures in
    ended (signed false c.args.a) c.with_sign-else-s.type_inv c.with_sign-else-s-2.type_inv (c.with_sign-else-s.ensures ∙ B.floor) (c.with_sign-else-s-2.ensures ∙ ap pos c.next-m.ensures ∙ B.ceil)
    ∙ ap (λ (s : Bool). span_of (signed s c.args.a)) (sym c.if-s.false)
