-- `mender::list::seen` meets its contract. Assumes nothing.
use Rattle.std.proofs.Common.{◌≡◌, ℕ, ◌<◌, Bool, true, false, refl, sym, List, length, zero-add, MatchBool, rules, tests, arith}
use Rattle.std.proofs.Math.Nat.{sub-zero}
use Rattle.std.specs.List.{range_with_len, HoldsAt, AllWithin}
use Rattle.std.proofs.lemmas.Iterator.{cases_from_any, YieldsList-from_range}
use Rattle.std.proofs.lemmas.List.FromFn.{get_or-range_with_len, length-range_with_len}
use Rattle.records.specs.Record.{path_of}
use Rattle.mender.specs.Report.{seen_in}
use Rattle.mender.specs.ReportLaws.{none_seen, seen_there}
use Rattle.mender.proofs.list.seen.Goals as goal

module _ (ws : List ℕ) (p k : ℕ) where
  abbrev Is : ℕ → Type 0
  Is j = path_of ws j ≡ p

  by_any : (r : Bool) → MatchBool r ((j : ℕ) × (j < length (range_with_len 0 k)) × HoldsAt Is (range_with_len 0 k) j) (AllWithin (λ j. Is j → ⊥) (range_with_len 0 k) 0 (length (range_with_len 0 k))) → r ≡ seen_in ws p k
  by_any true h =
      let l : h.0 < k = omega (arith, h.1, length-range_with_len 0 k) in
      sym (seen_there ws p h.0 k l (rw (get_or-range_with_len 0 k h.0 0 l, zero-add h.0) at (h.2 0)))
  by_any false h =
      sym (none_seen ws p k (λ j l. rw (get_or-range_with_len 0 k j 0 l, zero-add j) at (h j 0 (omega arith) (omega (arith, l, length-range_with_len 0 k)))))

pub returns : goal.returns
returns c =
    let ws = c.args.list.now in
    let p = c.args.path in
    by_any ws p c.args.k c.any.result (cases_from_any _ _ _ (Is ws p c.args.k) (λ j. Is ws p c.args.k j → ⊥) c.any.ensures.ran (YieldsList-from_range 0 c.args.k c.args.k refl (sub-zero c.args.k)) (λ x q k. search (rules, tests)) (λ x q k. (search rules, search (rules, tests))))
