-- Closed chains balance: the theorem. What it speaks of is defined in Closed.antt. Assumes nothing.
use Rattle.std.specs.Prelude.{ℕ, ◌+◌, ◌≡◌, refl}
use Rattle.std.proofs.Common.{ap}
use mathlib.Core.List.{List, [], ◌∷◌}
use native.Mathlib.Omega.{arith}
use Rattle.records.specs.Record.{once}
use Rattle.hpgl.specs.Form.{Line, Chain, along, lines_of, end_of, AllClosed}
use Rattle.hpgl.specs.declared.Point.{Point}
use Rattle.closed_cuts.specs.Closed.{same_point, starts_at, ends_at}

module _ (p : Point) where
  abbrev at : Point → ℕ
  at q = once (same_point p q)

  -- along points p starts as often as it ends, but for where they begin and where they lead
  balance_along : (q : Point) (ps : List Point) (ls : List Line) → starts_at p (along q ps ls) + at (end_of q ps) + ends_at p ls ≡ at q + ends_at p (along q ps ls) + starts_at p ls
  unfolding along end_of starts_at ends_at
  balance_along q [] ls = omega arith
  balance_along q (r ∷ ps) ls = omega (arith, balance_along r ps ls)

-- ---- the theorem: where each chain of a cut ends where it began, every plotter point is the start of a line exactly as often as an end
pub closed_balance : (cs : List Chain) → AllClosed cs → (p : Point) → starts_at p (lines_of cs) ≡ ends_at p (lines_of cs)
unfolding AllClosed lines_of starts_at ends_at
closed_balance [] h p = refl
closed_balance (c ∷ cs) h p =
    omega (arith, balance_along p c.start (c.first ∷ c.more) (lines_of cs), ap (at p) h.0, closed_balance cs h.1 p)
