-- `mender::list::write_at` meets its contract. Assumes nothing.
use Prim.Native.Nat.{ℕ, ◌+◌, ◌*◌, ◌≤◌, ◌<◌}
use mathlib.Core.Path.{◌≡◌, sym, ap, ◌∙◌}
use mathlib.Core.List.{List, []}
use native.Mathlib.Omega.{arith}
use lib.ListN.{length}
use lib.Seq.{sets}
use Rattle.mender.specs.Report.{said_of}
use Rattle.mender.specs.ReportLaws.{nothing_at, new_at, said_six}
use Rattle.mender.specs.declared.cases.Case.{Case}
use Rattle.mender.proofs.list.write_at.Goals as goal

none : (l : List ℕ) (at : ℕ) {vs : List ℕ} → vs ≡ [] → (l ≡ sets l at vs) × (at ≡ at + length vs)
none l at e = (rw e, rw e (omega arith))

-- six words are said
said_room : {vs : List ℕ} (p at n : ℕ) (d : Case) → vs ≡ said_of p d → at + length vs ≤ n → at + 5 < n
said_room p at n d e h = let l = ap length e ∙ said_six p d in omega arith

line_room : {vs us : List ℕ} (at n : ℕ) → vs ≡ us → at + length vs ≤ n → at + length us ≤ n
line_room at n e h = let l = ap length e in omega arith

pub returns-then-seen : goal.returns-then-seen
returns-then-seen c =
    let a = c.args in
    let e = nothing_at a.list.now a.tolerance a.k c.word_at-path.ensures c.seen.ensures c.if-seen.true in
    let r = none a.report.now (a.before.paths * 6) e.0 in
    let l = none a.room.now (a.before.lines * 6) e.1 in
    (l.0, r.0, l.1, r.1)

pub say-requires : goal.say-requires
say-requires c =
    let e = new_at _ _ _ c.case_of-case.result c.word_at-path.ensures c.seen.ensures c.if-seen.false c.case_of-case.ensures in
    said_room _ _ _ _ e.0 c.requires.1

pub append-requires : goal.append-requires
append-requires c =
    let e = new_at _ _ _ c.case_of-case.result c.word_at-path.ensures c.seen.ensures c.if-seen.false c.case_of-case.ensures in
    line_room _ _ e.1 c.requires.0

-- one more line, or none
counted_on : {vs us : List ℕ} (n r : ℕ) → vs ≡ us → r * 6 ≡ length us → (n + r) * 6 ≡ n * 6 + length vs
counted_on n r e h = let l = ap length e in omega arith

said_on : {vs : List ℕ} (p n : ℕ) (d : Case) → vs ≡ said_of p d → (n + 1) * 6 ≡ n * 6 + length vs
said_on p n d e = let l = ap length e ∙ said_six p d in omega arith

pub overflow_add-result-2 : goal.overflow_add-result-2
overflow_add-result-2 c =
    let e = new_at _ _ _ c.case_of-case.result c.word_at-path.ensures c.seen.ensures c.if-seen.false c.case_of-case.ensures in
    let m = counted_on c.args.before.lines c.lines_of.result e.1 (c.lines_of.ensures _) in
    omega (arith, c.requires.0, c.well_formed)

pub returns : goal.returns
returns c =
    let a = c.args in
    let e = new_at _ _ _ c.case_of-case.result c.word_at-path.ensures c.seen.ensures c.if-seen.false c.case_of-case.ensures in (
      c.append.ensures ∙ ap (λ (l : List ℕ). sets a.room.now (a.before.lines * 6) l) (sym e.1),
      c.say.ensures ∙ ap (λ (l : List ℕ). sets a.report.now (a.before.paths * 6) l) (sym e.0),
      counted_on a.before.lines c.lines_of.result e.1 (c.lines_of.ensures _),
      said_on _ a.before.paths _ e.0,
    )
