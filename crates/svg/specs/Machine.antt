-- The automaton that the reader walks, symbol by symbol. Definitions only.
use Rattle.std.specs.Prelude.{Bool, true, false, List, [], ◌∷◌, ℕ, ◌+◌, ◌*◌, ◌^◌, ◌≤◌, ◌<◌, ltb, eqb}
use Rattle.svg.specs.declared.steps.Kind.{Kind}
use Rattle.svg.specs.declared.steps.Kind.TheVariants.{Move, Line, Quad, Cubic}
use Rattle.svg.specs.declared.steps.Symbol.{Symbol}
use Rattle.svg.specs.declared.steps.Place.{Place}
use Rattle.svg.specs.declared.steps.Place.TheVariants.{AtStart, AtLetter, AtSign, InWhole, AtPoint, InFraction, AtGap, AtComma, AtClose}
use Rattle.svg.specs.declared.steps.Num.{Num}
use Rattle.svg.specs.declared.steps.State.{State}
use Rattle.svg.specs.declared.steps.Fault.{Fault}
use Rattle.svg.specs.declared.steps.Fault.TheVariants.{NotInLanguage, TooLong}
use Rattle.svg.specs.declared.steps.Step.{Step}
use Rattle.svg.specs.declared.steps.Step.TheVariants.{Go, Lettered, Shut, Bad}
use Rattle.svg.specs.Language.{arity, pick, by, Decimal, dec, Item, letter, number, close, next}

abbrev pub num : Bool → ℕ → ℕ → ℕ → ℕ → Num
num s n b a f = record { negative = s; n = n; before = b; behind = a; from = f }

abbrev pub st : Place → Kind → ℕ → Num → State
st p k h m = record { place = p; kind = k; have = h; num = m }

-- no text goes on with the byte i
abbrev pub off : ℕ → Step
off i = Bad NotInLanguage i

-- a digit is read and the state is s, unless nine stood before it; the tenth is refused at the number's first byte
abbrev pub unless_tenth : ℕ → State → Step
unless_tenth c s = pick (ltb c 9) (Go s) (Bad TooLong s.num.from)

-- a digit before the point, and one behind it
abbrev pub whole_digit : Kind → ℕ → Num → ℕ → Step
whole_digit k h m d = unless_tenth m.before (st InWhole k h (num m.negative (m.n * 10 + d) (m.before + 1) m.behind m.from))

abbrev pub fraction_digit : Kind → ℕ → Num → ℕ → Step
fraction_digit k h m d = unless_tenth m.behind (st InFraction k h (num m.negative (m.n * 10 + d) m.before (m.behind + 1) m.from))

-- what holds of the number that is being read: at most nine digits each side of the point
pub record Held (m : Num) : Type 0 where
  pub before : m.before ≤ 9
  pub behind : m.behind ≤ 9
  pub small : m.n < 10 ^ (m.before + m.behind)

-- a state that the reader can be in: a group that is full begins anew
pub record Sound (s : State) : Type 0 where
  pub group : s.have < arity s.kind
  pub held : Held s.num

abbrev pub is_white : Symbol → Bool
is_white b = by true false (λ s. false) false (λ d. false) (λ l. false) false false b

-- the digit of a symbol
abbrev pub digit_of : Symbol → ℕ
digit_of b = by 0 0 (λ s. 0) 0 (λ d. d) (λ l. 0) 0 0 b

-- a first letter is M
abbrev pub first_letter : Kind → ℕ → Num → ℕ → Kind → Step
first_letter k h m i Move = Lettered (st AtLetter Move 0 m)
first_letter k h m i Line = off i
first_letter k h m i Quad = off i
first_letter k h m i Cubic = off i

-- where a number is to begin, at the byte i: the answer at white space and at a comma, a letter and Z is the place's
abbrev pub opening : Kind → ℕ → ℕ → Step → Step → (Kind → Step) → Step → Symbol → Step
opening k h i w c l z b =
    by w c (λ s. Go (st AtSign k h (num s 0 0 0 i))) (Go (st AtPoint k h (num false 0 0 0 i))) (λ d. whole_digit k h (num false 0 0 0 i) d) l z (off i) b

abbrev pub opens_of : Kind → ℕ → ℕ → Symbol → Step
opens_of k h i b = opening k h i (off i) (off i) (λ l. off i) (off i) b

-- behind a full group a letter or Z may stand
abbrev pub gap_letter : ℕ → Num → ℕ → Kind → Step
gap_letter h m i l = pick (eqb h 0) (Lettered (st AtLetter l 0 m)) (off i)

abbrev pub gap_close : Kind → ℕ → Num → ℕ → Step
gap_close k h m i = pick (eqb h 0) (Shut (st AtClose k 0 m)) (off i)

-- The table: one symbol, at the byte i, at each place. Its columns are white space, comma, sign, point, digit, letter, Z, other.
abbrev pub move : Place → Kind → ℕ → Num → ℕ → Symbol → Step
move AtStart k h m i b = by (Go (st AtStart k h m)) (off i) (λ s. off i) (off i) (λ d. off i) (λ l. first_letter k h m i l) (off i) (off i) b
move AtLetter k h m i b = opening k h i (Go (st AtLetter k h m)) (off i) (λ l. off i) (off i) b
move AtSign k h m i b = by (off i) (off i) (λ s. off i) (Go (st AtPoint k h m)) (λ d. whole_digit k h m d) (λ l. off i) (off i) (off i) b
move InWhole k h m i b = by (off i) (off i) (λ s. off i) (Go (st AtPoint k h m)) (λ d. whole_digit k h m d) (λ l. off i) (off i) (off i) b
move AtPoint k h m i b = by (off i) (off i) (λ s. off i) (off i) (λ d. fraction_digit k h m d) (λ l. off i) (off i) (off i) b
move InFraction k h m i b = by (off i) (off i) (λ s. off i) (off i) (λ d. fraction_digit k h m d) (λ l. off i) (off i) (off i) b
move AtGap k h m i b = opening k h i (Go (st AtGap k h m)) (Go (st AtComma k h m)) (λ l. gap_letter h m i l) (gap_close k h m i) b
move AtComma k h m i b = opening k h i (Go (st AtComma k h m)) (off i) (λ l. off i) (off i) b
move AtClose k h m i b = by (Go (st AtClose k h m)) (off i) (λ s. off i) (off i) (λ d. off i) (λ l. Lettered (st AtLetter l 0 m)) (Shut (st AtClose k 0 m)) (off i) b

abbrev pub in_number : Place → Bool
in_number AtStart = false
in_number AtLetter = false
in_number AtSign = false
in_number InWhole = true
in_number AtPoint = false
in_number InFraction = true
in_number AtGap = false
in_number AtComma = false
in_number AtClose = false

-- the symbol ends the number before it: at the digits before the point all but a digit and a point, and at those behind it all but a digit
abbrev pub whole_ends : Symbol → Bool
whole_ends b = by true true (λ s. true) false (λ d. false) (λ l. true) true true b

abbrev pub fraction_ends : Symbol → Bool
fraction_ends b = by true true (λ s. true) true (λ d. false) (λ l. true) true true b

abbrev pub ended : Place → Symbol → Bool
ended AtStart b = false
ended AtLetter b = false
ended AtSign b = false
ended InWhole b = whole_ends b
ended AtPoint b = false
ended InFraction b = fraction_ends b
ended AtGap b = false
ended AtComma b = false
ended AtClose b = false

-- the number is read: the state behind it
abbrev pub finished : State → State
finished s = st AtGap s.kind (next s.kind s.have) s.num

abbrev pub number_of : Num → Decimal
number_of m = dec m.negative m.n m.behind

-- ---- a text, read from left to right

abbrev pub moved : State → ℕ → Symbol → Step
moved s i b = move s.place s.kind s.have s.num i b

abbrev pub begun : State
begun = st AtStart Move 0 (num false 0 0 0 0)

-- how a text ends
pub data Verdict : Type 0 where
  Accepted : Verdict
  Refused : Fault → ℕ → Verdict

-- behind a number the text may end where the group is full
abbrev pub gap_last : ℕ → ℕ → Verdict
gap_last h i = pick (eqb h 0) Accepted (Refused NotInLanguage i)

-- the end of the text, which is i bytes long
abbrev pub last : Place → ℕ → ℕ → Verdict
last AtStart h i = Accepted
last AtLetter h i = Refused NotInLanguage i
last AtSign h i = Refused NotInLanguage i
last InWhole h i = Refused NotInLanguage i
last AtPoint h i = Refused NotInLanguage i
last InFraction h i = Refused NotInLanguage i
last AtGap h i = gap_last h i
last AtComma h i = Refused NotInLanguage i
last AtClose h i = Accepted

-- what a text says, each item with the byte at which it is over: a letter's and Z's own, and the one behind a number; and how it ended
pub data Run : Type 0 where
  over : Verdict → Run
  said : Item → ℕ → Run → Run

abbrev pub does : Step → ℕ → (State → Run) → Run
does (Go s) i f = f s
does (Lettered s) i f = said (letter s.kind) i (f s)
does (Shut s) i f = said close i (f s)
does (Bad c j) i f = over (Refused c j)

-- from the byte i on, in the state s; a symbol that ends a number says it first
unfoldable pub runs : ℕ → State → List Symbol → Run
runs i s [] = pick (in_number s.place) (said (number (number_of s.num)) i (over (last AtGap (next s.kind s.have) i))) (over (last s.place s.have i))
runs i s (b ∷ bs) =
    pick (ended s.place b)
    (said (number (number_of s.num)) i (does (moved (finished s) i b) i (λ t. runs (i + 1) t bs)))
    (does (moved s i b) i (λ t. runs (i + 1) t bs))
