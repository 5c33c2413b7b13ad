-- The words of `out`, in which a call tells more than its number. Definitions only.
use Rattle.std.specs.Prelude.{ℕ, List, length, drop, leb, cond, ◌++◌}

-- the first words are written, where there are so many
unfoldable pub told_in : List ℕ → List ℕ → List ℕ
told_in ws os = cond (leb (length ws) (length os)) (ws ++ drop (length ws) os) os
