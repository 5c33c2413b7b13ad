-- The contracts of the public functions determine every answer, and what stands in the lent buffers. Assumes nothing.
use Rattle.std.specs.Prelude.{Ok, Err, ℕ, ◌≡◌, refl, cond, List, eqb, length}
use Rattle.std.proofs.Common.{sym, ap, ◌∙◌}
use Rattle.laws.specs.Only.{Only, determined}
use Rattle.sheets.specs.Moving.{to_f32, to_i16}
use Rattle.sheets.specs.Written.{Moved, told_of, Left, left, stored}
use Rattle.sheets.specs.declared.sheet.Told.{Told}
use Rattle.sheets.specs.declared.sheet.MoveError.TheVariants.{WrongKind, Missing, NotWhole, NoRoom}

-- an answer from its numbers
answer : Told → Moved
answer t = cond (eqb t.number 0) (Ok (record { tags = t.tags; words = t.words })) (Err (cond (eqb t.number 40) (WrongKind t.at) (cond (eqb t.number 43) (Missing t.at) (cond (eqb t.number 41) (NotWhole t.at) NoRoom))))

back : (r : Moved) → answer (told_of r) ≡ r
unfolding answer told_of
back (Ok w) = refl
back (Err (WrongKind i)) = refl
back (Err (Missing i)) = refl
back (Err (NotWhole i)) = refl
back (Err NoRoom) = refl

one : (l : Left) → Only (λ (x : Moved × (List ℕ × List ℕ)). left x.0 x.1.0 x.1.1 ≡ l)
one l x y p q =
    let e = p ∙ sym q in
    let same : x.0 ≡ y.0 = sym (back x.0) ∙ ap (λ (l : Left). answer l.told) e ∙ back y.0 in
    λ i. (same i, ((e i).tag_buffer, (e i).word_buffer))

pub to_f32_only : (tags points ts ws : List ℕ) → Only (λ (x : Moved × (List ℕ × List ℕ)). left x.0 x.1.0 x.1.1 ≡ stored (to_f32 tags points (length ts) (length ws)) ts ws)
to_f32_only tags points ts ws = one (stored (to_f32 tags points (length ts) (length ws)) ts ws)

pub to_i16_only : (tags points ts ws : List ℕ) → Only (λ (x : Moved × (List ℕ × List ℕ)). left x.0 x.1.0 x.1.1 ≡ stored (to_i16 tags points (length ts) (length ws)) ts ws)
to_i16_only tags points ts ws = one (stored (to_i16 tags points (length ts) (length ws)) ts ws)

pub told_only : (r : Moved) → Only (λ t. t ≡ told_of r)
told_only r = determined (told_of r)
