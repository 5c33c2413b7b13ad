-- The parts of a command. Assumes nothing.
use Rattle.std.specs.Prelude.{◌≡◌, Bool, true, false, List, [], ◌∷◌, ◌++◌, ℕ, ◌+◌, ◌≤◌, length}
use Rattle.std.proofs.Common.{sym, ap, ◌∙◌, append_assoc, arith, length-append}
use Rattle.hpgl.specs.Text.{numeral, signed_of}
use Rattle.hpgl.specs.TextLaws.{Stored, same_room, same_stored, first_room, second_room, then_stored}
use Rattle.hpgl.specs.Form.{Pen, up, down, letter, command}
use Rattle.hpgl.specs.declared.Point.{Point}
use Rattle.hpgl.specs.declared.rounding.Signed.{Signed}
use Rattle.hpgl.specs.declared.rounding.Spot.{Spot}

-- what code says of the pen: it draws, or it is lifted
abbrev pub pen_of : Bool → Pen
pen_of true = down
pen_of false = up

-- the point of signs and sizes
abbrev pub spot_point : Spot → Point
spot_point p = record { x = signed_of p.x.negative p.x.size; y = signed_of p.y.negative p.y.size }

-- the text of a command to a point given by signs and sizes
unfoldable pub command_text : Bool → Spot → List ℕ
command_text draws p = command (pen_of draws) (spot_point p) []

pub command_parts : (draws : Bool) (p : Spot) → command_text draws p ≡ (80 ∷ []) ++ ((letter (pen_of draws) ∷ []) ++ ((numeral (signed_of p.x.negative p.x.size) ++ (44 ∷ [])) ++ (numeral (signed_of p.y.negative p.y.size) ++ (59 ∷ []))))
unfolding command_text command
command_parts draws p = ap (λ (t : List ℕ). 80 ∷ letter (pen_of draws) ∷ t) (sym (append_assoc (numeral (signed_of p.x.negative p.x.size)) (44 ∷ []) (numeral (signed_of p.y.negative p.y.size) ++ (59 ∷ []))))

abbrev pub ended : Signed → ℕ → List ℕ
ended n b = numeral (signed_of n.negative n.size) ++ (b ∷ [])

-- the same with the letter in a local
pub parts_with : (l : ℕ) (draws : Bool) (p : Spot) → l ≡ letter (pen_of draws) → command_text draws p ≡ (80 ∷ []) ++ ((l ∷ []) ++ (ended p.x 44 ++ ended p.y 59))
parts_with l draws p e = command_parts draws p ∙ ap (λ (k : ℕ). (80 ∷ []) ++ ((k ∷ []) ++ (ended p.x 44 ++ ended p.y 59))) (sym e)

pub command_size : (draws : Bool) (p : Spot) (a b : ℕ) → a ≡ length (numeral (signed_of p.x.negative p.x.size)) → b ≡ length (numeral (signed_of p.y.negative p.y.size)) → 4 + a + b ≡ length (command_text draws p)
unfolding command_text command
command_size draws p a b e f =
    omega (arith, length-append (numeral (signed_of p.x.negative p.x.size)) (44 ∷ (numeral (signed_of p.y.negative p.y.size) ++ (59 ∷ []))), length-append (numeral (signed_of p.y.negative p.y.size)) (59 ∷ []))

-- the room left for each part, and the whole stored
module _ (l : ℕ) (draws : Bool) (p : Spot) (e : l ≡ letter (pen_of draws)) (w : List ℕ) (at : ℕ) (h : at + length (command_text draws p) ≤ length w) where
  room0 : at + length ((80 ∷ []) ++ ((l ∷ []) ++ (ended p.x 44 ++ ended p.y 59))) ≤ length w
  room0 = same_room (command_text draws p) ((80 ∷ []) ++ ((l ∷ []) ++ (ended p.x 44 ++ ended p.y 59))) at (length w) (parts_with l draws p e) h

  pub room_p : at + 1 ≤ length w
  room_p = first_room (80 ∷ []) ((l ∷ []) ++ (ended p.x 44 ++ ended p.y 59)) at (length w) room0

  module _ (w1 : List ℕ) (a : ℕ) (s1 : Stored w w1 at a (80 ∷ [])) (k1 : length w1 ≡ length w) where
    room1 : a + length ((l ∷ []) ++ (ended p.x 44 ++ ended p.y 59)) ≤ length w1
    room1 = second_room w w1 at a (80 ∷ []) ((l ∷ []) ++ (ended p.x 44 ++ ended p.y 59)) s1 k1 room0

    pub room_letter : a + 1 ≤ length w1
    room_letter = first_room (l ∷ []) (ended p.x 44 ++ ended p.y 59) a (length w1) room1

    module _ (w2 : List ℕ) (b : ℕ) (s2 : Stored w1 w2 a b (l ∷ [])) (k2 : length w2 ≡ length w1) where
      room2 : b + length (ended p.x 44 ++ ended p.y 59) ≤ length w2
      room2 = second_room w1 w2 a b (l ∷ []) (ended p.x 44 ++ ended p.y 59) s2 k2 room1

      pub room_x : b + length (ended p.x 44) ≤ length w2
      room_x = first_room (ended p.x 44) (ended p.y 59) b (length w2) room2

      module _ (w3 : List ℕ) (c : ℕ) (s3 : Stored w2 w3 b c (ended p.x 44)) (k3 : length w3 ≡ length w2) where
        pub room_y : c + length (ended p.y 59) ≤ length w3
        room_y = second_room w2 w3 b c (ended p.x 44) (ended p.y 59) s3 k3 room2

        pub command_stored : (w4 : List ℕ) (d : ℕ) → Stored w3 w4 c d (ended p.y 59) → Stored w w4 at d (command_text draws p)
        command_stored w4 d s4 =
            same_stored w w4 at d (command_text draws p) ((80 ∷ []) ++ ((l ∷ []) ++ (ended p.x 44 ++ ended p.y 59))) (parts_with l draws p e)
            (then_stored w w1 w4 at a d (80 ∷ []) ((l ∷ []) ++ (ended p.x 44 ++ ended p.y 59)) s1
            (then_stored w1 w2 w4 a b d (l ∷ []) (ended p.x 44 ++ ended p.y 59) s2
            (then_stored w2 w3 w4 b c d (ended p.x 44) (ended p.y 59) s3 s4)))
