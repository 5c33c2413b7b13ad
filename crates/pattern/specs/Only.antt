-- No second answer satisfies the contract of a public function, nor second contents of the buffers. Assumes nothing.
use Rattle.std.specs.Prelude.{ℕ, ◌≡◌, refl, cond, List, eqb, Result, Ok, Err}
use Rattle.std.proofs.Common.{sym, ap, ◌∙◌}
use Rattle.laws.specs.Only.{Only, determined}
use Rattle.pattern.specs.Commands.{Command, move, draw, end, line, quad, cubic, Answer, Outcome, number_of, told, command_of}
use Rattle.pattern.specs.declared.pen.Spot.{Spot}
use Rattle.pattern.specs.declared.pen.Pen.{Pen}
use Rattle.pattern.specs.declared.pen.Fault.{Fault}
use Rattle.pattern.specs.declared.pen.Fault.TheVariants.{NoMove, NoRoom, NotFinite}

pub number_only : (answer : Answer) → Only (λ r. r ≡ number_of answer)
number_only answer = determined (number_of answer)

-- the answer that a number names
named : ℕ → Answer
named n = cond (eqb n 0) (Ok tt) (cond (eqb n 20) (Err NoMove) (cond (eqb n 21) (Err NoRoom) (Err NotFinite)))

number_names : (answer : Answer) → named (number_of answer) ≡ answer
unfolding named number_of
number_names (Ok x) = refl
number_names (Err NoMove) = refl
number_names (Err NoRoom) = refl
number_names (Err NotFinite) = refl

-- an answer with the buffers
abbrev pub Left : Type 0
Left = Result Pen Fault × (List ℕ × List ℕ)

-- from what is told of it
answered : Answer → Pen → Result Pen Fault
answered (Ok x) pen = Ok pen
answered (Err fault) pen = Err fault

back : Outcome → Left
back o = (answered o.answer o.pen, (o.tags, o.points))

told_back : (x : Left) (pen : Pen) → back (told x.0 pen x.1.0 x.1.1) ≡ x
unfolding back answered
told_back x pen = go x.0
  where
    go : (r : Result Pen Fault) → back (told r pen x.1.0 x.1.1) ≡ (r, (x.1.0, x.1.1))
    go (Ok then) = refl
    go (Err fault) = refl

-- what is told of it is told of no other
told_only : (pen : Pen) (o : Outcome) → Only (λ (x : Left). told x.0 pen x.1.0 x.1.1 ≡ o)
told_only pen o x y p q = sym (told_back x pen) ∙ ap back (p ∙ sym q) ∙ told_back y pen

module _ (pen : Pen) (tags points : List ℕ) where
  -- what a command leaves, and nothing else
  abbrev pub Leaves : Command → Left → Type 0
  Leaves command x = told x.0 pen x.1.0 x.1.1 ≡ command_of pen command tags points

  pub move_to_only : (to : Spot) → Only (Leaves (move to))
  move_to_only to = told_only pen (command_of pen (move to) tags points)

  pub line_to_only : (to : Spot) → Only (Leaves (draw (line to)))
  line_to_only to = told_only pen (command_of pen (draw (line to)) tags points)

  pub quad_to_only : (by to : Spot) → Only (Leaves (draw (quad by to)))
  quad_to_only by to = told_only pen (command_of pen (draw (quad by to)) tags points)

  pub cubic_to_only : (from by to : Spot) → Only (Leaves (draw (cubic from by to)))
  cubic_to_only from by to = told_only pen (command_of pen (draw (cubic from by to)) tags points)

  pub end_only : Only (Leaves end)
  end_only = told_only pen (command_of pen end tags points)
