-- Where a text is refused with 61: nothing of the number stands before the byte that is told (`first_of_number`). Assumes nothing.
use Rattle.std.specs.Prelude.{◌≡◌, refl, Bool, true, false, List, [], ◌∷◌, ◌++◌, ℕ, suc, ◌+◌, eqb, ltb, length, Err}
use Rattle.std.proofs.Common.{sym, ap, ◌∙◌, subst, append_assoc, arith, length-append}
use Rattle.pattern.specs.declared.pen.Pen.{Pen}
use Rattle.svg.specs.declared.steps.Kind.{Kind}
use Rattle.svg.specs.declared.steps.Kind.TheVariants.{Move, Line, Quad, Cubic}
use Rattle.svg.specs.declared.steps.Symbol.{Symbol}
use Rattle.svg.specs.declared.steps.Symbol.TheVariants.{White, Comma, Sign, Dot, Digit, Letter, Close, Other}
use Rattle.svg.specs.declared.steps.Place.{Place}
use Rattle.svg.specs.declared.steps.Place.TheVariants.{AtStart, AtLetter, AtSign, InWhole, AtPoint, InFraction, AtGap, AtComma, AtClose}
use Rattle.svg.specs.declared.steps.Num.{Num}
use Rattle.svg.specs.declared.steps.State.{State}
use Rattle.svg.specs.declared.steps.Fault.{Fault}
use Rattle.svg.specs.declared.steps.Fault.TheVariants.{NotInLanguage, TooLong}
use Rattle.svg.specs.declared.steps.Step.{Step}
use Rattle.svg.specs.declared.steps.Step.TheVariants.{Go, Lettered, Shut, Bad}
use Rattle.svg.specs.Machine.{Refused}
use Rattle.svg.specs.declared.reader.Refusal.TheVariants.{Faulty}
use Rattle.svg.specs.Language.{pick, by, symbols, next}
use Rattle.svg.specs.Machine.{num, whole_digit, fraction_digit, first_letter, opening, move, moved, finished, ended, whole_ends, fraction_ends, begun}
use Rattle.svg.specs.Fold.{Turn, Going, Stopped, settle, turn_of, verdict_from}
use Rattle.svg.specs.Unique.{verdict_stays}
use Rattle.svg.specs.GoesOn.{after}
use Rattle.svg.specs.Import.{import_of}
use Rattle.svg.specs.Breaks.{fault_verdict}
use Rattle.svg.specs.Long.{Short, closing_short}

-- at this place no number is on its way, or the symbol ends the one that is: behind a letter, a number or a comma, or in the digits of a number to which it does not belong
abbrev pub opens_at : Place → Symbol → Bool
opens_at AtStart y = false
opens_at AtLetter y = true
opens_at AtSign y = false
opens_at InWhole y = whole_ends y
opens_at AtPoint y = false
opens_at InFraction y = fraction_ends y
opens_at AtGap y = true
opens_at AtComma y = true
opens_at AtClose y = false

-- the symbol j of ys can begin a number, and belongs to none that began before it
pub record Opens (ys : List Symbol) (j : ℕ) : Type 0 where
  pub before : List Symbol
  pub symbol : Symbol
  pub rest : List Symbol
  pub spelt : ys ≡ before ++ (symbol ∷ rest)
  pub count : length before ≡ j
  pub state : State
  pub reached : after 0 (Going begun) before ≡ Going state
  pub opens : opens_at state.place symbol ≡ true

ended_opens : (p : Place) (y : Symbol) → ended p y ≡ true → opens_at p y ≡ true
ended_opens AtStart y e = e
ended_opens AtLetter y e = refl
ended_opens AtSign y e = e
ended_opens InWhole y e = e
ended_opens AtPoint y e = e
ended_opens InFraction y e = e
ended_opens AtGap y e = refl
ended_opens AtComma y e = refl
ended_opens AtClose y e = e

-- W is the whole text
module _ (W : List Symbol) where
  -- a number that is on its way began so
  abbrev Began : Place → ℕ → Type 0
  Began AtStart f = Unit {0}
  Began AtLetter f = Unit {0}
  Began AtSign f = Opens W f
  Began InWhole f = Opens W f
  Began AtPoint f = Opens W f
  Began InFraction f = Opens W f
  Began AtGap f = Unit {0}
  Began AtComma f = Unit {0}
  Began AtClose f = Unit {0}

  -- and one that begins at i does
  abbrev Begins : Place → ℕ → ℕ → Type 0
  Begins AtStart i f = Unit {0}
  Begins AtLetter i f = Opens W i
  Begins AtSign i f = Opens W f
  Begins InWhole i f = Opens W f
  Begins AtPoint i f = Opens W f
  Begins InFraction i f = Opens W f
  Begins AtGap i f = Opens W i
  Begins AtComma i f = Opens W i
  Begins AtClose i f = Unit {0}

  begins : (p : Place) (i f : ℕ) (y : Symbol) → (opens_at p y ≡ true → Opens W i) → Began p f → Begins p i f
  begins AtStart i f y o b = tt
  begins AtLetter i f y o b = o refl
  begins AtSign i f y o b = b
  begins InWhole i f y o b = b
  begins AtPoint i f y o b = b
  begins InFraction i f y o b = b
  begins AtGap i f y o b = o refl
  begins AtComma i f y o b = o refl
  begins AtClose i f y o b = tt

  abbrev OnWay : State → Type 0
  OnWay s = Began s.place s.num.from

  abbrev Told : Fault → ℕ → Type 0
  Told NotInLanguage j = Unit {0}
  Told TooLong j = Opens W j

  abbrev OpenStep : Step → Type 0
  OpenStep (Go s) = OnWay s
  OpenStep (Lettered s) = OnWay s
  OpenStep (Shut s) = OnWay s
  OpenStep (Bad f j) = Told f j

  on : (t : Bool) (a b : Step) → OpenStep a → OpenStep b → OpenStep (pick t a b)
  on true a b A B = A
  on false a b A B = B

  whole_open : (k : Kind) (h : ℕ) (m : Num) (d : ℕ) → Opens W m.from → OpenStep (whole_digit k h m d)
  whole_open k h m d o = on (ltb m.before 9) _ _ o o

  fraction_open : (k : Kind) (h : ℕ) (m : Num) (d : ℕ) → Opens W m.from → OpenStep (fraction_digit k h m d)
  fraction_open k h m d o = on (ltb m.behind 9) _ _ o o

  by_open : (w c : Step) (s : Bool → Step) (p : Step) (f : ℕ → Step) (l : Kind → Step) (z o : Step) (y : Symbol)
      → OpenStep w → OpenStep c → ((b : Bool) → OpenStep (s b)) → OpenStep p → ((d : ℕ) → OpenStep (f d)) → ((k : Kind) → OpenStep (l k)) → OpenStep z → OpenStep o
      → OpenStep (by w c s p f l z o y)
  by_open w c s p f l z o White A C S P F L Z O = A
  by_open w c s p f l z o Comma A C S P F L Z O = C
  by_open w c s p f l z o (Sign b) A C S P F L Z O = S b
  by_open w c s p f l z o Dot A C S P F L Z O = P
  by_open w c s p f l z o (Digit d) A C S P F L Z O = F d
  by_open w c s p f l z o (Letter k) A C S P F L Z O = L k
  by_open w c s p f l z o Close A C S P F L Z O = Z
  by_open w c s p f l z o Other A C S P F L Z O = O

  first_open : (k : Kind) (h : ℕ) (m : Num) (i : ℕ) (l : Kind) → OpenStep (first_letter k h m i l)
  first_open k h m i Move = tt
  first_open k h m i Line = tt
  first_open k h m i Quad = tt
  first_open k h m i Cubic = tt

  opening_open : (k : Kind) (h i : ℕ) (w c : Step) (l : Kind → Step) (z : Step) (y : Symbol) → Opens W i → OpenStep w → OpenStep c → ((k : Kind) → OpenStep (l k)) → OpenStep z → OpenStep (opening k h i w c l z y)
  opening_open k h i w c l z y o A C L Z = by_open w c _ _ _ l z _ y A C (λ s. o) o (λ d. whole_open k h (num false 0 0 0 i) d o) L Z tt

  move_open : (p : Place) (k : Kind) (h : ℕ) (m : Num) (i : ℕ) (y : Symbol) → Begins p i m.from → OpenStep (move p k h m i y)
  move_open AtStart k h m i y o = by_open _ _ _ _ _ _ _ _ y tt tt (λ s. tt) tt (λ d. tt) (first_open k h m i) tt tt
  move_open AtLetter k h m i y o = opening_open k h i _ _ _ _ y o tt tt (λ l. tt) tt
  move_open AtSign k h m i y o = by_open _ _ _ _ _ _ _ _ y tt tt (λ s. tt) o (λ d. whole_open k h m d o) (λ l. tt) tt tt
  move_open InWhole k h m i y o = by_open _ _ _ _ _ _ _ _ y tt tt (λ s. tt) o (λ d. whole_open k h m d o) (λ l. tt) tt tt
  move_open AtPoint k h m i y o = by_open _ _ _ _ _ _ _ _ y tt tt (λ s. tt) tt (λ d. fraction_open k h m d o) (λ l. tt) tt tt
  move_open InFraction k h m i y o = by_open _ _ _ _ _ _ _ _ y tt tt (λ s. tt) tt (λ d. fraction_open k h m d o) (λ l. tt) tt tt
  move_open AtGap k h m i y o = opening_open k h i _ _ _ _ y o tt tt (λ l. on (eqb h 0) _ _ tt tt) (on (eqb h 0) _ _ tt tt)
  move_open AtComma k h m i y o = opening_open k h i _ _ _ _ y o tt tt (λ l. tt) tt
  move_open AtClose k h m i y o = by_open _ _ _ _ _ _ _ _ y tt tt (λ s. tt) tt (λ d. tt) (λ l. tt) tt tt

  abbrev OpenTurn : Turn → Type 0
  OpenTurn (Going s) = OnWay s
  OpenTurn (Stopped f j) = Told f j

  settle_open : (t : Step) → OpenStep t → OpenTurn (settle t)
  settle_open (Go s) h = h
  settle_open (Lettered s) h = h
  settle_open (Shut s) h = h
  settle_open (Bad f j) h = h

  either_open : (e : Bool) (a b : Turn) → (e ≡ true → OpenTurn a) → OpenTurn b → OpenTurn (pick e a b)
  either_open true a b A B = A refl
  either_open false a b A B = B

  turn_open : (s : State) (i : ℕ) (y : Symbol) → (opens_at s.place y ≡ true → Opens W i) → OnWay s → OpenTurn (turn_of (Going s) i y)
  turn_open s i y o b =
      either_open (ended s.place y) _ _
      (λ e. settle_open (moved (finished s) i y) (move_open AtGap s.kind (next s.kind s.have) s.num i y (o (ended_opens s.place y e))))
      (settle_open (moved s i y) (move_open s.place s.kind s.have s.num i y (begins s.place i s.num.from y o b)))

-- ---- the end of a text is no such number

-- ---- from left to right

after_more : (xs : List Symbol) (y : Symbol) (i : ℕ) (t : Turn) → after i t (xs ++ (y ∷ [])) ≡ turn_of (after i t xs) (i + length xs) y
unfolding after
after_more [] y i t = let e : i ≡ i + 0 = omega arith in ap (λ (i : ℕ). turn_of t i y) e
after_more (x ∷ xs) y i t =
    let e : i + 1 + length xs ≡ i + suc (length xs) = omega arith in
    after_more xs y (i + 1) (turn_of t i x) ∙ ap (λ (n : ℕ). turn_of (after (i + 1) (turn_of t i x) xs) n y) e

firsts : (W ys pre : List Symbol) (i : ℕ) (s : State) (j : ℕ) → W ≡ pre ++ ys → length pre ≡ i → after 0 (Going begun) pre ≡ Going s → OnWay W s → verdict_from i (Going s) ys ≡ Refused TooLong j → Opens W j
unfolding verdict_from
firsts W [] pre i s j w n a b v = absurd (subst Short v (closing_short s i))
firsts W (y ∷ ys) pre i s j w n a b v =
    go (turn_of (Going s) i y) refl
    (turn_open W s i y (λ o. record { before = pre; symbol = y; rest = ys; spelt = w; count = n; state = s; reached = a; opens = o }) b)
    (λ t e T u. firsts W ys (pre ++ (y ∷ [])) (i + 1) t j (w ∙ sym (append_assoc pre (y ∷ []) ys)) (length-append pre (y ∷ []) ∙ ap (λ (n : ℕ). n + 1) n) (there t e) T u)
  where
    there : (t : State) → turn_of (Going s) i y ≡ Going t → after 0 (Going begun) (pre ++ (y ∷ [])) ≡ Going t
    there t e =
        let c : 0 + length pre ≡ i = omega arith in
        after_more pre y 0 (Going begun) ∙ ap (λ (t : Turn). turn_of t (0 + length pre) y) a ∙ ap (λ (i : ℕ). turn_of (Going s) i y) c ∙ e

    go : (t : Turn) → turn_of (Going s) i y ≡ t → OpenTurn W t → ((t : State) → turn_of (Going s) i y ≡ Going t → OnWay W t → verdict_from (i + 1) (Going t) ys ≡ Refused TooLong j → Opens W j) → Opens W j
    go (Going t) f h IH = IH t f h (ap (λ (t : Turn). verdict_from (i + 1) t ys) (sym f) ∙ v)
    go (Stopped g m) f h IH =
        let u : Refused g m ≡ Refused TooLong j = sym (verdict_stays ys (i + 1) g m) ∙ ap (λ (t : Turn). verdict_from (i + 1) t ys) (sym f) ∙ v in
        let p : g ≡ TooLong = cc in
        let q : m ≡ j = cc in
        subst (Opens W) q (subst (λ (g : Fault). Told W g m) p h)

-- The byte told with 61 is the number's first: before it no number is on its way to which that byte belongs.
pub first_of_number : (bs : List ℕ) (pen : Pen) (tags points : List ℕ) (j : ℕ) → (import_of bs pen tags points).ending ≡ Err (Faulty TooLong j) → Opens (symbols bs) j
unfolding after
first_of_number bs pen tags points j e = firsts (symbols bs) (symbols bs) [] 0 begun j refl refl refl tt (fault_verdict bs pen tags points TooLong j e)
