-- What the functions of `stretch` hand each other: from behind some digits, what is left of the text comes to the same. Definitions only.
use Rattle.std.specs.Prelude.{◌≡◌, Bool, true, false, List, ℕ, ◌+◌, ◌*◌, ◌^◌, ◌≤◌, ◌<◌, ltb, eqb, length, drop, get_or, Ok}
use Rattle.pattern.specs.declared.pen.Pen.{Pen}
use Rattle.svg.specs.declared.steps.Kind.{Kind}
use Rattle.svg.specs.declared.steps.Symbol.TheVariants.{Digit}
use Rattle.svg.specs.declared.steps.Place.{Place}
use Rattle.svg.specs.declared.steps.Place.TheVariants.{AtStart, AtLetter, AtSign, InWhole, AtPoint, InFraction, AtGap, AtComma, AtClose}
use Rattle.svg.specs.declared.steps.Num.{Num}
use Rattle.svg.specs.declared.steps.State.{State}
use Rattle.svg.specs.declared.steps.Step.TheVariants.{Go}
use Rattle.svg.specs.declared.hand.Hand.{Hand}
use Rattle.svg.specs.Language.{pick, digit_byte, symbols}
use Rattle.svg.specs.Machine.{num, st, moved, ended, Sound}
use Rattle.svg.specs.Walk.{walk, left, read_into}

-- a digit stands there that is not the tenth of its side, and a point
abbrev pub has_digit : List ℕ → ℕ → ℕ → Bool
has_digit text i c = pick (ltb i (length text)) (pick (ltb c 9) (digit_byte (get_or text i 0)) false) false

abbrev pub has_point : List ℕ → ℕ → Bool
has_point text i = pick (ltb i (length text)) (eqb (get_or text i 0) 46) false

-- the places at which digits before the point may follow, and those behind it
abbrev pub before_point : Place → Bool
before_point AtStart = false
before_point AtLetter = false
before_point AtSign = true
before_point InWhole = true
before_point AtPoint = false
before_point InFraction = false
before_point AtGap = false
before_point AtComma = false
before_point AtClose = false

abbrev pub behind_point : Place → Bool
behind_point AtStart = false
behind_point AtLetter = false
behind_point AtSign = false
behind_point InWhole = false
behind_point AtPoint = true
behind_point InFraction = true
behind_point AtGap = false
behind_point AtComma = false
behind_point AtClose = false

-- in the digits on a side of the point, by the number n of all digits and the count c of that side's
abbrev pub in_whole : Kind → ℕ → Num → ℕ → ℕ → State
in_whole k h m n c = st InWhole k h (num m.negative n c m.behind m.from)

abbrev pub in_fraction : Kind → ℕ → Num → ℕ → ℕ → State
in_fraction k h m n c = st InFraction k h (num m.negative n m.before c m.from)

-- states that a digit more takes to the next
pub record Grows (f : ℕ → ℕ → State) : Type 0 where
  pub quiet : (n c d : ℕ) → ended (f n c).place (Digit d) ≡ false
  pub more : (n c d i : ℕ) → c < 9 → moved (f n c) i (Digit d) ≡ Go (f (n * 10 + d) (c + 1))

-- from the byte i on in the state s the text comes to what it comes to from j on in the state t, whatever was drawn before
pub record Onward (text : List ℕ) (s : State) (i : ℕ) (t : State) (j : ℕ) : Type 0 where
  pub on : i ≤ j
  pub within : j ≤ length text
  pub sound : Sound t
  pub same : (h : Hand) (pen : Pen) (tags points : List ℕ) → read_into i (left (Ok (walk s h)) pen tags points) (symbols (drop i text)) ≡ read_into j (left (Ok (walk t h)) pen tags points) (symbols (drop j text))

-- reading digits from i on, with the number n and the count c, one may stand at j with n' and c': on either side of the point the text comes to the same from there; where j is behind i, a digit stands at i
pub record Digits (text : List ℕ) (i n c j n' c' : ℕ) : Type 0 where
  pub on : i ≤ j
  pub within : j ≤ length text
  pub few : c' ≤ 9
  pub small : n' < 10 ^ (c' + 9)
  pub first : i < j → digit_byte (get_or text i 0) ≡ true
  pub run : (f : ℕ → ℕ → State) → Grows f → Sound (f n c) → Onward text (f n c) i (f n' c') j
