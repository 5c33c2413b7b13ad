-- `mender::cases::close_broken` meets its contract. Assumes nothing.
use Prim.Native.Nat.{ℕ, ◌+◌}
use mathlib.Core.Path.{◌≡◌}
use mathlib.Core.List.{List}
use Rattle.records.specs.Record.{keys_at, starts, ends}
use Rattle.records.specs.declared.Line.{Line}
use Rattle.checker.specs.Verdict.{key_at}
use Rattle.mender.specs.CaseLaws.{open_end, open_start, no_open_end, no_open_start, no_gap_unmended}
use Rattle.mender.proofs.cases.close_broken.Goals as goal

over_keys : (ws : List ℕ) (p k : ℕ) {l : Line} → l ≡ keys_at ws k → ends ws p (key_at ws k 4) (key_at ws k 5) ≡ starts ws p (key_at ws k 4) (key_at ws k 5) + 1
    → ends ws p l.z l.w ≡ starts ws p l.z l.w + 1
over_keys ws p k e h = rw e h

under_keys : (ws : List ℕ) (p k : ℕ) {l : Line} → l ≡ keys_at ws k → starts ws p (key_at ws k 2) (key_at ws k 3) ≡ ends ws p (key_at ws k 2) (key_at ws k 3) + 1
    → starts ws p l.x l.y ≡ ends ws p l.x l.y + 1
under_keys ws p k e h = rw e h

pub returns-in_default : goal.returns-in_default
returns-in_default c = no_gap_unmended _ _ _ c.requires (no_open_end _ _ (rw c.in_default.is at c.first.ensures))

pub returns-in_default-first : goal.returns-in_default-first
returns-in_default-first c = no_gap_unmended _ _ _ c.requires (no_open_start _ _ (rw c.in_default-first.is at c.first-2.ensures))

pub close-requires : goal.close-requires
close-requires c =
    let e = rw c.in-Some.is at c.first.ensures in
    let s = rw c.in-Some-first.is at c.first-2.ensures in (
      over_keys _ _ _ c.keys_at-over.ensures (open_end _ _ _ e.here),
      under_keys _ _ _ c.keys_at-under.ensures (open_start _ _ _ s.here),
    )
