-- `flatten::call::flatten_owned` meets its contract: the first boxes are lent, and the others stay behind them. Assumes nothing.
use Rattle.std.proofs.Common.{◌≡◌, ℕ, ◌≤◌, Bool, true, false, cond, ltb, ltb-false, length, drop, sym, refl, ap, arith}
use Rattle.std.proofs.lemmas.List.{length-take-le}
use Rattle.flatten.specs.Call.{few_of, and_behind, owned_of}
use Rattle.flatten.proofs.call.flatten_owned.Goals as goal

few_fit : (n : ℕ) → few_of n ≤ 64
unfolding few_of
few_fit n = by_test (ltb 64 n) refl
  where
    by_test : (t : Bool) → ltb 64 n ≡ t → cond t 64 n ≤ 64
    by_test true e = omega arith
    by_test false e = ltb-false 64 n e

pub slice_bounds-boxes-end : goal.slice_bounds-boxes-end
slice_bounds-boxes-end c = omega (arith, few_fit c.args.n)

pub slice_bounds-flatten_main-end : goal.slice_bounds-flatten_main-end
slice_bounds-flatten_main-end c = let few : c.few-n_boxes.result ≤ length c.args.boxes = omega (arith, few_fit c.args.n) in sym (length-take-le c.few-n_boxes.result c.args.boxes few)

pub returns : goal.returns
unfolding owned_of
returns c = rw (sym c.few-n_boxes.ensures) (ap (and_behind (drop c.few-n_boxes.result c.args.boxes)) c.flatten_main-answer.ensures)
