-- The commands as C sees them: a pen of seven words, coordinates as f32, a number out, and three lists. Definitions only.
use Rattle.std.specs.Prelude.{ℕ, zero, suc, ◌+◌, ◌%◌, ◌^◌, cond, List, [], ◌∷◌, ltb, length, get_or, Float, Err}
use Rattle.std.proofs.lemmas.List.Edits.{sets}
use Rattle.std.specs.Float.{binary32}
use Rattle.std.specs.Float.Ieee.{to_bits}
use Rattle.pattern.specs.Commands.{Command, number_of, Outcome, command_of}
use Rattle.pattern.specs.declared.pen.Spot.{Spot}
use Rattle.pattern.specs.declared.pen.Open.{Open}
use Rattle.pattern.specs.declared.pen.Open.TheVariants.{Nothing, Moved, Drawing}
use Rattle.pattern.specs.declared.pen.Pen.{Pen}
use Rattle.pattern.specs.declared.pen.Fault.TheVariants.{NoRoom}

-- ---- the pen

-- any other word is taken as drawing
unfoldable pub open_of : ℕ → Open
open_of zero = Nothing
open_of (suc zero) = Moved
open_of (suc (suc n)) = Drawing

unfoldable pub open_word : Open → ℕ
open_word Nothing = 0
open_word Moved = 1
open_word Drawing = 2

abbrev pub spot_of : Float → Float → Spot
spot_of x y = record { x = to_bits binary32 x; y = to_bits binary32 y }

-- the low 32 bits of two words
abbrev pub spot_at : List ℕ → ℕ → Spot
spot_at ws at = record { x = get_or ws at 0 % 2 ^ 32; y = get_or ws (at + 1) 0 % 2 ^ 32 }

unfoldable pub pen_read : List ℕ → Pen
pen_read ws =
    record { place = record { opened = open_of (get_or ws 0 0); first = spot_at ws 1; last = spot_at ws 3 }; tags = get_or ws 5 0; points = get_or ws 6 0 }

unfoldable pub pen_words : Pen → List ℕ
pen_words pen =
    open_word pen.place.opened ∷ pen.place.first.x ∷ pen.place.first.y ∷ pen.place.last.x ∷ pen.place.last.y ∷ pen.tags ∷ pen.points ∷ []

-- the words are written where the command was accepted, number 0
unfoldable pub kept_by : ℕ → Pen → List ℕ → List ℕ
kept_by zero pen ws = sets ws 0 (pen_words pen)
kept_by (suc n) pen ws = ws

-- ---- a command

-- the number returned, and the lists that are lent to be written
pub record Penned : Type 0 where
  pub number : ℕ
  pub pen : List ℕ
  pub tags : List ℕ
  pub points : List ℕ

abbrev pub penned : ℕ → List ℕ → List ℕ → List ℕ → Penned
penned r ws tags points = record { number = r; pen = ws; tags = tags; points = points }

abbrev pub penned_of : Outcome → List ℕ → Penned
penned_of o ws = penned (number_of o.answer) (kept_by (number_of o.answer) o.pen ws) o.tags o.points

-- 21, before all else, where the pen's seven words are not lent
unfoldable pub penned_by : List ℕ → Command → List ℕ → List ℕ → Penned
penned_by ws command tags points =
    cond (ltb (length ws) 7) (penned (number_of (Err NoRoom)) ws tags points) (penned_of (command_of (pen_read ws) command tags points) ws)
