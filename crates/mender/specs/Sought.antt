-- What is looked for among the records of a path. Definitions only.
use Rattle.std.specs.Prelude.{ℕ, ◌+◌, Bool, not, ◌&&◌, ◌||◌, List, eqb}
use Rattle.records.specs.Record.{path_of, counts_of}
use Rattle.records.specs.declared.Counts.{Counts}
use Rattle.checker.specs.Verdict.{key_at}
use Rattle.mender.specs.declared.cases.Sought.{Sought}
use Rattle.mender.specs.declared.cases.Sought.TheVariants.{Uneven, OpenEnd, OpenStart, Other}

-- a point that balances, or is one of two
unfoldable pub allowed_point : ℕ → ℕ → ℕ → ℕ → ℕ → ℕ → ℕ → ℕ → Bool
allowed_point starts ends a b x y z w = eqb starts ends || ((eqb a x && eqb b y) || (eqb a z && eqb b w))

-- of a record from the point of keys a and b to that of keys c and d, whose points are counted so
unfoldable pub is_sought : Sought → ℕ → ℕ → ℕ → ℕ → Counts → Bool
is_sought Uneven a b c d n = not (eqb n.starts0 n.ends0 && eqb n.starts1 n.ends1)
is_sought OpenEnd a b c d n = eqb n.ends1 (n.starts1 + 1)
is_sought OpenStart a b c d n = eqb n.starts0 (n.ends0 + 1)
is_sought (Other g) a b c d n = not (allowed_point n.starts0 n.ends0 a b g.x g.y g.z g.w && allowed_point n.starts1 n.ends1 c d g.x g.y g.z g.w)

-- record k is one of the path, and what is sought
unfoldable pub sought_at : List ℕ → ℕ → Sought → ℕ → Bool
sought_at ws p what k =
    eqb (path_of ws k) p
    && is_sought what (key_at ws k 2) (key_at ws k 3) (key_at ws k 4) (key_at ws k 5) (counts_of ws p (key_at ws k 2) (key_at ws k 3) (key_at ws k 4) (key_at ws k 5))
