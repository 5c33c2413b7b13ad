-- What it means that a contract determines an answer: no two answers satisfy it. Assumes nothing.
use Rattle.std.specs.Prelude.{◌≡◌}
use Rattle.std.proofs.Common.{◌∙◌, sym}

-- any two values that satisfy P are one
abbrev pub Only : {A : Type 0} → (A → Type 0) → Type 0
Only {A} P = (r s : A) → P r → P s → r ≡ s

-- an answer that is stated by equation is the only one
pub determined : {A : Type 0} (v : A) → Only (λ r. r ≡ v)
determined v r s p q = p ∙ sym q
