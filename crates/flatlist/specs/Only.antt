-- No second answer satisfies the contract of a public function. Assumes nothing.
use Rattle.std.specs.Prelude.{ℕ, ◌≡◌, List}
use Rattle.laws.specs.Only.{Only, determined}
use Rattle.flatlist.specs.Form.{sheet_of}

pub read_sheet_only : (text : List ℕ) → Only (λ r. r ≡ sheet_of text)
read_sheet_only text = determined (sheet_of text)
