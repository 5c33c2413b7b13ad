-- `roots::sum::hypot_near` meets its contract: what `near` settles of the rounded sum is the root of the exact one, by `hypot_settled`. Assumes nothing.
use Rattle.std.proofs.Common.{T, sym, ◌∙◌, subst}
use Rattle.std.specs.Prelude.{ℕ, Option, Some, None, IfSome}
use Rattle.roots.proofs.Patterns.{is_number}
use Rattle.roots.proofs.Wide.{sum_number, zero_side, far_side, hypot_settled}
use Rattle.roots.proofs.sum.hypot_near.Goals as goal

-- what holds of each value that may be there
of_each : {P Q : ℕ → Type 0} (o : Option ℕ) → ((r : ℕ) → P r → Q r) → IfSome o P → IfSome o Q
of_each None f h = tt
of_each (Some r) f h = f r h

pub returns-then-a-eq0 : goal.returns-then-a-eq0
returns-then-a-eq0 c =
    zero_side c.args.x c.args.y (subst T (sym c.well_formed.0.1) tt) (subst T (sym c.well_formed.1.0.1) tt) (is_number _ (sym c.is_nan.ensures.value ∙ c.if-is_nan.false)) (is_number _ (sym c.is_nan-else-is_nan.ensures.value ∙ c.if-is_nan-2.false)) c.if-a-eq0.true

pub returns-then-b-a : goal.returns-then-b-a
returns-then-b-a c =
    far_side c.args.x c.args.y (subst T (sym c.well_formed.0.1) tt) (subst T (sym c.well_formed.1.0.1) tt) (is_number _ (sym c.is_nan.ensures.value ∙ c.if-is_nan.false)) (is_number _ (sym c.is_nan-else-is_nan.ensures.value ∙ c.if-is_nan-2.false)) c.if-b-a.true

pub float_to_bits-v : goal.float_to_bits-v
float_to_bits-v c = sum_number _ _ (is_number _ (sym c.is_nan.ensures.value ∙ c.if-is_nan.false)) (is_number _ (sym c.is_nan-else-is_nan.ensures.value ∙ c.if-is_nan-2.false))

pub returns-then-j-lt2287828610704211968 : goal.returns-then-j-lt2287828610704211968
returns-then-j-lt2287828610704211968 c =
    let N = is_number _ (sym c.is_nan.ensures.value ∙ c.if-is_nan.false) in
    let O = is_number _ (sym c.is_nan-else-is_nan.ensures.value ∙ c.if-is_nan-2.false) in
    of_each c.near.result
    (hypot_settled c.args.x c.args.y (subst T (sym c.well_formed.0.1) tt) (subst T (sym c.well_formed.1.0.1) tt) N O _ c.if-j-lt2287828610704211968.true c.wrapping_sub_u64-j.ensures.value) c.near.ensures
