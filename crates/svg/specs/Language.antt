-- The language of path data: SVG 2's, cut down to absolute M, L, Q, C and Z. Definitions only, and no reader: a text is in the language where `Text` says so.
use Rattle.std.specs.Prelude.{Bool, true, false, not, ◌||◌, ◌≡◌, List, [], ◌∷◌, ◌++◌, ℕ, zero, suc, ◌+◌, ◌-◌, ◌*◌, ◌≤◌, T, leb, ltb, eqb, length}
use Rattle.svg.specs.declared.steps.Kind.{Kind}
use Rattle.svg.specs.declared.steps.Kind.TheVariants.{Move, Line, Quad, Cubic}
use Rattle.svg.specs.declared.steps.Symbol.{Symbol}
use Rattle.svg.specs.declared.steps.Symbol.TheVariants.{White, Comma, Sign, Dot, Digit, Letter, Close, Other}

-- ---- bytes

abbrev pub pick : {A : Type 0} → Bool → A → A → A
pick true a b = a
pick false a b = b

-- one answer for each symbol, in the order white space, comma, sign, point, digit, letter, Z, other
abbrev pub by : {A : Type 0} → A → A → (Bool → A) → A → (ℕ → A) → (Kind → A) → A → A → Symbol → A
by w c s p d l z o White = w
by w c s p d l z o Comma = c
by w c s p d l z o (Sign x) = s x
by w c s p d l z o Dot = p
by w c s p d l z o (Digit x) = d x
by w c s p d l z o (Letter x) = l x
by w c s p d l z o Close = z
by w c s p d l z o Other = o

-- white space is tab, line feed, form feed, carriage return and space
abbrev pub white_byte : ℕ → Bool
white_byte b = eqb b 32 || (eqb b 9 || (eqb b 10 || (eqb b 12 || eqb b 13)))

abbrev pub digit_byte : ℕ → Bool
digit_byte b = pick (ltb b 48) false (leb b 57)

-- M, L, Q, C and Z. Every byte that is not named is `Other`, and is in no text of the language.
unfoldable pub letter_of : ℕ → Symbol
letter_of b =
    pick (eqb b 77) (Letter Move)
    (pick (eqb b 76) (Letter Line)
    (pick (eqb b 81) (Letter Quad)
    (pick (eqb b 67) (Letter Cubic)
    (pick (eqb b 90) Close Other))))

-- , + - .
unfoldable pub mark_of : ℕ → Symbol
unfolding letter_of
mark_of b =
    pick (eqb b 44) Comma
    (pick (eqb b 43) (Sign false)
    (pick (eqb b 45) (Sign true)
    (pick (eqb b 46) Dot
    (letter_of b))))

unfoldable pub symbol_of : ℕ → Symbol
unfolding mark_of
symbol_of b = pick (digit_byte b) (Digit (b - 48)) (pick (white_byte b) White (mark_of b))

unfoldable pub symbols : List ℕ → List Symbol
unfolding symbol_of
symbols [] = []
symbols (b ∷ bs) = symbol_of b ∷ symbols bs

-- ---- what a text says: its letters and numbers in their order

-- a decimal: negative or not, its digits as one whole number n, and how many of them, k, stand behind the point: ± n / 10 ^ k
pub data Decimal : Type 0 where
  dec : Bool → ℕ → ℕ → Decimal

pub data Item : Type 0 where
  letter : Kind → Item
  number : Decimal → Item
  close : Item

-- ---- spellings; each is written with what stands behind it, r

-- no sign, or + (false) or - (true)
pub data Signs : Type 0 where
  bare : Signs
  sign : Bool → Signs

abbrev pub signed : Signs → List Symbol → List Symbol
signed bare r = r
signed (sign s) r = Sign s ∷ r

abbrev pub negative : Signs → Bool
negative bare = false
negative (sign s) = s

abbrev pub digits : List ℕ → List Symbol → List Symbol
digits [] r = r
digits (d ∷ ds) r = Digit d ∷ digits ds r

-- n with the digits ds behind it
abbrev pub onto : ℕ → List ℕ → ℕ
onto n [] = n
onto n (d ∷ ds) = onto (n * 10 + d) ds

-- a number is a sign and at least one digit; or a sign, digits or none, a point and at least one digit
pub data Number : Type 0 where
  plain : Signs → ℕ → List ℕ → Number
  pointed : Signs → List ℕ → ℕ → List ℕ → Number

abbrev pub spell : Number → List Symbol → List Symbol
spell (plain s d ds) r = signed s (Digit d ∷ digits ds r)
spell (pointed s ds e es) r = signed s (digits ds (Dot ∷ Digit e ∷ digits es r))

abbrev pub value_of : Number → Decimal
value_of (plain s d ds) = dec (negative s) (onto 0 (d ∷ ds)) 0
value_of (pointed s ds e es) = dec (negative s) (onto (onto 0 ds) (e ∷ es)) (length (e ∷ es))

-- at most nine digits before the point, and at most nine behind it
abbrev pub Short : Number → Type 0
Short (plain s d ds) = length (d ∷ ds) ≤ 9
Short (pointed s ds e es) = (length ds ≤ 9) × (length (e ∷ es) ≤ 9)

-- Longest match: where a digit follows, the number was longer, and so it was where a point follows a number that has none.
abbrev pub is_digit : Symbol → Bool
is_digit b = by false false (λ s. false) false (λ d. true) (λ l. false) false false b

abbrev pub is_dot : Symbol → Bool
is_dot b = by false false (λ s. false) true (λ d. false) (λ l. false) false false b

abbrev pub ends : Number → List Symbol → Bool
ends (plain s d ds) [] = true
ends (plain s d ds) (b ∷ r) = not (is_digit b || is_dot b)
ends (pointed s ds e es) [] = true
ends (pointed s ds e es) (b ∷ r) = not (is_digit b)

abbrev pub spaces : ℕ → List Symbol → List Symbol
spaces zero r = r
spaces (suc n) r = White ∷ spaces n r

-- between two numbers: white space or none, and at most one comma
pub data Gap : Type 0 where
  blank : ℕ → Gap
  comma : ℕ → ℕ → Gap

abbrev pub between : Gap → List Symbol → List Symbol
between (blank n) r = spaces n r
between (comma n m) r = spaces n (Comma ∷ spaces m r)

-- ---- commands

-- how many numbers a command takes
abbrev pub arity : Kind → ℕ
arity Move = 2
arity Line = 2
arity Quad = 4
arity Cubic = 6

-- how many numbers of the group are there, behind one more: a full group begins the next
abbrev pub next : Kind → ℕ → ℕ
next k h = pick (eqb (h + 1) (arity k)) 0 (h + 1)

-- Where a text stands: before its first command; behind a letter; behind a number, with so many numbers of the letter's next group read; behind Z.
pub data Stage : Type 0 where
  opening : Stage
  lettered : Kind → Stage
  numbered : Kind → ℕ → Stage
  closed : Stage

-- `Rest p r is`: r can be the rest of a text at the spot p, and says is
pub data Rest : Stage → List Symbol → List Item → Type 0 where
  -- a text of white space says nothing, and any other begins with M
  nothing : (n : ℕ) → Rest opening (spaces n []) []
  begins : (n : ℕ) {r : List Symbol} {is : List Item} → Rest (lettered Move) r is → Rest opening (spaces n (Letter Move ∷ r)) (letter Move ∷ is)
  -- behind a letter stands white space or none, and a number
  first : (n : ℕ) (x : Number) {k : Kind} {r : List Symbol} {is : List Item} → Short x → T (ends x r) → Rest (numbered k (next k 0)) r is → Rest (lettered k) (spaces n (spell x r)) (number (value_of x) ∷ is)
  -- behind a number may stand another
  more : (g : Gap) (x : Number) {k : Kind} {h : ℕ} {r : List Symbol} {is : List Item} → Short x → T (ends x r) → Rest (numbered k (next k h)) r is → Rest (numbered k h) (between g (spell x r)) (number (value_of x) ∷ is)
  -- behind a full group may stand, after white space or none, a letter, Z, or the end
  turns : (n : ℕ) (l : Kind) {k : Kind} {r : List Symbol} {is : List Item} → Rest (lettered l) r is → Rest (numbered k 0) (spaces n (Letter l ∷ r)) (letter l ∷ is)
  closes : (n : ℕ) {k : Kind} {r : List Symbol} {is : List Item} → Rest closed r is → Rest (numbered k 0) (spaces n (Close ∷ r)) (close ∷ is)
  stops : (n : ℕ) {k : Kind} → Rest (numbered k 0) (spaces n []) []
  -- and so it is behind Z
  opens : (n : ℕ) (l : Kind) {r : List Symbol} {is : List Item} → Rest (lettered l) r is → Rest closed (spaces n (Letter l ∷ r)) (letter l ∷ is)
  again : (n : ℕ) {r : List Symbol} {is : List Item} → Rest closed r is → Rest closed (spaces n (Close ∷ r)) (close ∷ is)
  over : (n : ℕ) → Rest closed (spaces n []) []

-- the bytes bs are a text that says is
abbrev pub Text : List ℕ → List Item → Type 0
Text bs is = Rest opening (symbols bs) is

-- ---- the commands that the items are

pub data Command : Type 0 where
  draw : Kind → List Decimal → Command
  close_path : Command

-- the pairs behind an M's first are lines
abbrev pub behind : Kind → Kind
behind Move = Line
behind Line = Line
behind Quad = Quad
behind Cubic = Cubic

-- the commands of the items behind a letter k and the numbers p of a group that is not full
unfoldable pub commands_at : Kind → List Decimal → List Item → List Command
commands_at k p [] = []
commands_at k p (letter l ∷ is) = commands_at l [] is
commands_at k p (close ∷ is) = close_path ∷ commands_at k [] is
commands_at k p (number a ∷ is) = pick (eqb (length p + 1) (arity k)) (draw k (p ++ (a ∷ [])) ∷ commands_at (behind k) [] is) (commands_at k (p ++ (a ∷ [])) is)

-- the bytes bs are the text of the commands cs
pub record Means (bs : List ℕ) (cs : List Command) : Type 0 where
  pub items : List Item
  pub text : Text bs items
  pub commands : commands_at Move [] items ≡ cs
