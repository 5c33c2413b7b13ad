-- Where the reader stops with a byte that is not of the form: a file of the form begins with the bytes before it, and none with it too. Definitions only.
use Rattle.std.specs.Prelude.{◌≡◌, length}
use mathlib.Core.List.{List, ◌++◌}
use Prim.Native.Nat.{ℕ, suc, ◌≤◌, ◌<◌}
use Rattle.std.proofs.Math.ListN.{take}
use Rattle.hpgl.specs.Form.{Chain, file_text, Fits, range_of}
use Rattle.hpgl.specs.declared.Table.{Table}

module _ (table : Table) where
  pub record First (file : List ℕ) (q : ℕ) : Type 0 where
    pub inside : q ≤ length file
    -- some file of the form, in range, begins with the bytes before
    pub rest : List ℕ
    pub chains : List Chain
    pub before : take q file ++ rest ≡ file_text chains
    pub fits : Fits (range_of table) chains
    -- and none, whatever its numbers, with this byte too
    pub not_there : q < length file → (more : List ℕ) (cs : List Chain) → take (suc q) file ++ more ≡ file_text cs → ⊥
