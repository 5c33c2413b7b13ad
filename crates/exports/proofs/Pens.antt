-- What the functions of the pen share: the answer where the pen is too short, and where a command answered. Assumes nothing.
use Prim.Native.Nat.{ℕ, ◌<◌}
use mathlib.Core.Path.{◌≡◌, refl, ap, ◌∙◌}
use mathlib.Core.List.{List, [], ◌∷◌, ◌++◌}
use native.Mathlib.Omega.{arith}
use lib.ListN.{length, drop, take-append-drop}
use lib.Seq.{sets, length-take-le}
use borrow.Author.Tests.{lt-ltb, le-ltb}
use Rattle.pattern.specs.Commands.{Command, number_of, Outcome, told, command_of}
use Rattle.pattern.specs.declared.pen.Pen.{Pen}
use Rattle.std.specs.Prelude.{Result, Err}
use Rattle.std.specs.Array.{IsFirstChunk}
use Rattle.pattern.specs.declared.pen.Fault.{Fault}
use Rattle.pattern.specs.declared.pen.Fault.TheVariants.{NoMove, NoRoom, NotFinite}
use Rattle.exports.specs.Pen.{pen_read, pen_words, kept_by, penned, penned_of, penned_by}

seven : (P : List ℕ → Type 0) → ((a b c d e f g : ℕ) → P (a ∷ b ∷ c ∷ d ∷ e ∷ f ∷ g ∷ [])) → (us : List ℕ) → length us ≡ 7 → P us
seven P k [] h = absurd (omega arith)
seven P k (a ∷ []) h = absurd (omega arith)
seven P k (a ∷ b ∷ []) h = absurd (omega arith)
seven P k (a ∷ b ∷ c ∷ []) h = absurd (omega arith)
seven P k (a ∷ b ∷ c ∷ d ∷ []) h = absurd (omega arith)
seven P k (a ∷ b ∷ c ∷ d ∷ e ∷ []) h = absurd (omega arith)
seven P k (a ∷ b ∷ c ∷ d ∷ e ∷ f ∷ []) h = absurd (omega arith)
seven P k (a ∷ b ∷ c ∷ d ∷ e ∷ f ∷ g ∷ []) h = k a b c d e f g
seven P k (a ∷ b ∷ c ∷ d ∷ e ∷ f ∷ g ∷ i ∷ us) h = absurd (omega arith)

-- a pen is read of the first seven words, and written over them
read_front : (us rest : List ℕ) → length us ≡ 7 → pen_read us ≡ pen_read (us ++ rest)
unfolding pen_read
read_front us rest h = seven (λ us. pen_read us ≡ pen_read (us ++ rest)) (λ a b c d e f g. refl) us h

pub put_front : (us rest : List ℕ) (pen : Pen) → length us ≡ 7 → pen_words pen ++ rest ≡ sets (us ++ rest) 0 (pen_words pen)
unfolding pen_words
put_front us rest pen h = seven (λ us. pen_words pen ++ rest ≡ sets (us ++ rest) 0 (pen_words pen)) (λ a b c d e f g. refl) us h

pub first_and_rest : (ws us : List ℕ) → IsFirstChunk ws us 7 → us ++ drop 7 ws ≡ ws
first_and_rest ws us s = ap (λ (us : List ℕ). us ++ drop 7 ws) s.same ∙ take-append-drop 7 ws

pub first_long : (ws us : List ℕ) → IsFirstChunk ws us 7 → length us ≡ 7
first_long ws us s = ap length s.same ∙ length-take-le 7 ws s.enough

pub first_read : (ws us : List ℕ) → IsFirstChunk ws us 7 → pen_read us ≡ pen_read ws
first_read ws us s = read_front us (drop 7 ws) (first_long ws us s) ∙ ap pen_read (first_and_rest ws us s)

module _ (ws : List ℕ) (command : Command) (tags points : List ℕ) where
  pub too_short : (r : ℕ) → length ws < 7 → r ≡ number_of (Err NoRoom) → penned r ws tags points ≡ penned_by ws command tags points
  unfolding penned_by
  too_short r h e = rw (lt-ltb (length ws) 7 h, e)

  -- a command that was given the pen, in the first seven words, and what it names, each by an equation
  pub answered : (us : List ℕ) (drew : Result Pen Fault) (pen : Pen) (given : Command) (r : ℕ) (us' tags' points' : List ℕ) → IsFirstChunk ws us 7 → pen ≡ pen_read us → given ≡ command
      → told drew pen tags' points' ≡ command_of pen given tags points
      → ((pen : Pen) (rest tags points : List ℕ) → penned r (us' ++ rest) tags points ≡ penned_of (told drew pen tags points) (us ++ rest))
      → penned r (us' ++ drop 7 ws) tags' points' ≡ penned_by ws command tags points
  unfolding penned_by
  answered us drew pen given r us' tags' points' s e f g k =
      let o : told drew (pen_read ws) tags' points' ≡ command_of (pen_read ws) command tags points = rw (e ∙ first_read ws us s, f) at g in
      rw (le-ltb (length ws) 7 s.enough)
      (k (pen_read ws) (drop 7 ws) tags' points' ∙ ap (λ (o : Outcome). penned_of o (us ++ drop 7 ws)) o ∙ ap (penned_of (command_of (pen_read ws) command tags points)) (first_and_rest ws us s))

-- a refusal leaves the pen's words
pub kept_old : (fault : Fault) (pen : Pen) (ws : List ℕ) → ws ≡ kept_by (number_of (Err fault)) pen ws
unfolding kept_by number_of
kept_old NoMove pen ws = refl
kept_old NoRoom pen ws = refl
kept_old NotFinite pen ws = refl
