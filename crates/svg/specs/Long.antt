-- Where a text is refused with 61: at the byte that is told a number is spelt whose digits, before the point or behind it, are ten or more (`long_byte`). Assumes nothing.
use Rattle.std.specs.Prelude.{◌≡◌, refl, ◌⊎◌, Bool, true, false, List, [], ◌∷◌, ◌++◌, ℕ, zero, suc, ◌+◌, ◌≤◌, eqb, ltb, length, drop, Err}
use Rattle.std.proofs.Common.{sym, ap, ◌∙◌, subst, inl, inr, arith, ltb-false, length-append}
use Rattle.pattern.specs.declared.pen.Pen.{Pen}
use Rattle.svg.specs.declared.steps.Kind.{Kind}
use Rattle.svg.specs.declared.steps.Kind.TheVariants.{Move, Line, Quad, Cubic}
use Rattle.svg.specs.declared.steps.Symbol.{Symbol}
use Rattle.svg.specs.declared.steps.Symbol.TheVariants.{White, Comma, Sign, Dot, Digit, Letter, Close, Other}
use Rattle.svg.specs.declared.steps.Place.{Place}
use Rattle.svg.specs.declared.steps.Place.TheVariants.{AtStart, AtLetter, AtSign, InWhole, AtPoint, InFraction, AtGap, AtComma, AtClose}
use Rattle.svg.specs.declared.steps.Num.{Num}
use Rattle.svg.specs.declared.steps.State.{State}
use Rattle.svg.specs.declared.steps.Fault.{Fault}
use Rattle.svg.specs.declared.steps.Fault.TheVariants.{NotInLanguage, TooLong}
use Rattle.svg.specs.declared.steps.Step.{Step}
use Rattle.svg.specs.declared.steps.Step.TheVariants.{Go, Lettered, Shut, Bad}
use Rattle.svg.specs.Machine.{Verdict, Accepted as Text, Refused}
use Rattle.svg.specs.declared.reader.Refusal.TheVariants.{Faulty}
use Rattle.svg.specs.Language.{pick, by, symbols, Signs, bare, sign, signed, digits, next}
use Rattle.svg.specs.Machine.{num, whole_digit, fraction_digit, first_letter, opening, move, moved, finished, ended, in_number, last, begun}
use Rattle.svg.specs.Fold.{Turn, Going, Stopped, settle, turn_of, closing, verdict_from}
use Rattle.svg.specs.Unique.{verdict_stays}
use Rattle.svg.specs.Import.{import_of}
use Rattle.svg.specs.Breaks.{fault_verdict}

-- a number with ten or more digits before the point, and one with as many behind it
pub record LongWhole (ys : List Symbol) : Type 0 where
  pub its_sign : Signs
  pub whole : List ℕ
  pub rest : List Symbol
  pub spelt : ys ≡ signed its_sign (digits whole rest)
  pub many : 10 ≤ length whole

pub record LongFraction (ys : List Symbol) : Type 0 where
  pub its_sign : Signs
  pub whole : List ℕ
  pub fraction : List ℕ
  pub rest : List Symbol
  pub spelt : ys ≡ signed its_sign (digits whole (Dot ∷ digits fraction rest))
  pub many : 10 ≤ length fraction

abbrev pub TooMany : List Symbol → Type 0
TooMany ys = LongWhole ys ⊎ LongFraction ys

-- ---- what was read of a number: it is spelt from F on, and r is left

record InWholes (m : Num) (F r : List Symbol) : Type 0 where
  its_sign : Signs
  whole : List ℕ
  spelt : F ≡ signed its_sign (digits whole r)
  count : length whole ≡ m.before
  none : m.behind ≡ 0

record AtPoints (m : Num) (F r : List Symbol) : Type 0 where
  its_sign : Signs
  whole : List ℕ
  spelt : F ≡ signed its_sign (digits whole (Dot ∷ r))
  none : m.behind ≡ 0

record InFractions (m : Num) (F r : List Symbol) : Type 0 where
  its_sign : Signs
  whole : List ℕ
  fraction : List ℕ
  spelt : F ≡ signed its_sign (digits whole (Dot ∷ digits fraction r))
  count : length fraction ≡ m.behind

abbrev Spelt : Place → Num → List Symbol → List Symbol → Type 0
Spelt AtStart m F r = Unit {0}
Spelt AtLetter m F r = Unit {0}
Spelt AtSign m F r = InWholes m F r
Spelt InWhole m F r = InWholes m F r
Spelt AtPoint m F r = AtPoints m F r
Spelt InFraction m F r = InFractions m F r
Spelt AtGap m F r = Unit {0}
Spelt AtComma m F r = Unit {0}
Spelt AtClose m F r = Unit {0}

digits_more : (ds : List ℕ) (d : ℕ) (r : List Symbol) → digits ds (Digit d ∷ r) ≡ digits (ds ++ (d ∷ [])) r
digits_more [] d r = refl
digits_more (e ∷ ds) d r = ap (λ (ys : List Symbol). Digit e ∷ ys) (digits_more ds d r)

-- W is the whole text, and ys what is left behind the symbol
module _ (W ys : List Symbol) where
  abbrev OnWay : State → Type 0
  OnWay s = Spelt s.place s.num (drop s.num.from W) ys

  abbrev Told : Fault → ℕ → Type 0
  Told NotInLanguage j = Unit {0}
  Told TooLong j = TooMany (drop j W)

  abbrev LongStep : Step → Type 0
  LongStep (Go s) = OnWay s
  LongStep (Lettered s) = OnWay s
  LongStep (Shut s) = OnWay s
  LongStep (Bad f j) = Told f j

  on : (t : Bool) (a b : Step) → (t ≡ true → LongStep a) → (t ≡ false → LongStep b) → LongStep (pick t a b)
  on true a b A B = A refl
  on false a b A B = B refl

  whole_long : (k : Kind) (h : ℕ) (m : Num) (d : ℕ) → InWholes m (drop m.from W) (Digit d ∷ ys) → LongStep (whole_digit k h m d)
  whole_long k h m d S =
      let e = S.spelt ∙ ap (signed S.its_sign) (digits_more S.whole d ys) in
      let c = S.count in
      let n : length (S.whole ++ (d ∷ [])) ≡ m.before + 1 = length-append S.whole (d ∷ []) ∙ ap (λ (b : ℕ). b + 1) c in
      on (ltb m.before 9) _ _
      (λ t. record { its_sign = S.its_sign; whole = S.whole ++ (d ∷ []); spelt = e; count = n; none = S.none })
      (λ t. inl (record { its_sign = S.its_sign; whole = S.whole ++ (d ∷ []); rest = ys; spelt = e; many = let q = ltb-false m.before 9 t in omega arith }))

  fraction_long : (k : Kind) (h : ℕ) (m : Num) (d : ℕ) → InFractions m (drop m.from W) (Digit d ∷ ys) → LongStep (fraction_digit k h m d)
  fraction_long k h m d S =
      let e = S.spelt ∙ ap (λ (r : List Symbol). signed S.its_sign (digits S.whole (Dot ∷ r))) (digits_more S.fraction d ys) in
      let c = S.count in
      let n : length (S.fraction ++ (d ∷ [])) ≡ m.behind + 1 = length-append S.fraction (d ∷ []) ∙ ap (λ (b : ℕ). b + 1) c in
      on (ltb m.behind 9) _ _
      (λ t. record { its_sign = S.its_sign; whole = S.whole; fraction = S.fraction ++ (d ∷ []); spelt = e; count = n })
      (λ t. inr (record { its_sign = S.its_sign; whole = S.whole; fraction = S.fraction ++ (d ∷ []); rest = ys; spelt = e; many = let q = ltb-false m.behind 9 t in omega arith }))

  by_long : (w c : Step) (s : Bool → Step) (p : Step) (f : ℕ → Step) (l : Kind → Step) (z o : Step) (y : Symbol)
      → LongStep w → LongStep c → ((b : Bool) → y ≡ Sign b → LongStep (s b)) → (y ≡ Dot → LongStep p) → ((d : ℕ) → y ≡ Digit d → LongStep (f d)) → ((k : Kind) → LongStep (l k)) → LongStep z → LongStep o
      → LongStep (by w c s p f l z o y)
  by_long w c s p f l z o White A C S P F L Z O = A
  by_long w c s p f l z o Comma A C S P F L Z O = C
  by_long w c s p f l z o (Sign b) A C S P F L Z O = S b refl
  by_long w c s p f l z o Dot A C S P F L Z O = P refl
  by_long w c s p f l z o (Digit d) A C S P F L Z O = F d refl
  by_long w c s p f l z o (Letter k) A C S P F L Z O = L k
  by_long w c s p f l z o Close A C S P F L Z O = Z
  by_long w c s p f l z o Other A C S P F L Z O = O

  first_long_lem : (k : Kind) (h : ℕ) (m : Num) (i : ℕ) (l : Kind) → LongStep (first_letter k h m i l)
  first_long_lem k h m i Move = tt
  first_long_lem k h m i Line = tt
  first_long_lem k h m i Quad = tt
  first_long_lem k h m i Cubic = tt

  -- a number begins at i
  opening_long : (k : Kind) (h i : ℕ) (w c : Step) (l : Kind → Step) (z : Step) (y : Symbol) → drop i W ≡ y ∷ ys → LongStep w → LongStep c → ((k : Kind) → LongStep (l k)) → LongStep z
      → LongStep (opening k h i w c l z y)
  opening_long k h i w c l z y e A C L Z =
      by_long w c _ _ _ l z _ y A C
      (λ b q. record { its_sign = sign b; whole = []; spelt = e ∙ ap (λ (y : Symbol). y ∷ ys) q; count = refl; none = refl })
      (λ q. record { its_sign = bare; whole = []; spelt = e ∙ ap (λ (y : Symbol). y ∷ ys) q; none = refl })
      (λ d q. whole_long k h (num false 0 0 0 i) d (record { its_sign = bare; whole = []; spelt = e ∙ ap (λ (y : Symbol). y ∷ ys) q; count = refl; none = refl }))
      L Z tt

  point : (m : Num) (F : List Symbol) → InWholes m F (Dot ∷ ys) → AtPoints m F ys
  point m F S = record { its_sign = S.its_sign; whole = S.whole; spelt = S.spelt; none = S.none }

  behind_point_lem : (m : Num) (F : List Symbol) (d : ℕ) → AtPoints m F (Digit d ∷ ys) → InFractions m F (Digit d ∷ ys)
  behind_point_lem m F d S = record { its_sign = S.its_sign; whole = S.whole; fraction = []; spelt = S.spelt; count = sym S.none }

  move_long : (p : Place) (k : Kind) (h : ℕ) (m : Num) (i : ℕ) (y : Symbol) → drop i W ≡ y ∷ ys → Spelt p m (drop m.from W) (y ∷ ys) → LongStep (move p k h m i y)
  move_long AtStart k h m i y e S = by_long _ _ _ _ _ _ _ _ y tt tt (λ b q. tt) (λ q. tt) (λ d q. tt) (first_long_lem k h m i) tt tt
  move_long AtLetter k h m i y e S = opening_long k h i _ _ _ _ y e tt tt (λ l. tt) tt
  move_long AtSign k h m i y e S =
      by_long _ _ _ _ _ _ _ _ y tt tt (λ b q. tt) (λ q. point m _ (subst (λ (y : Symbol). InWholes m (drop m.from W) (y ∷ ys)) q S))
      (λ d q. whole_long k h m d (subst (λ (y : Symbol). InWholes m (drop m.from W) (y ∷ ys)) q S)) (λ l. tt) tt tt
  move_long InWhole k h m i y e S =
      by_long _ _ _ _ _ _ _ _ y tt tt (λ b q. tt) (λ q. point m _ (subst (λ (y : Symbol). InWholes m (drop m.from W) (y ∷ ys)) q S))
      (λ d q. whole_long k h m d (subst (λ (y : Symbol). InWholes m (drop m.from W) (y ∷ ys)) q S)) (λ l. tt) tt tt
  move_long AtPoint k h m i y e S =
      by_long _ _ _ _ _ _ _ _ y tt tt (λ b q. tt) (λ q. tt)
      (λ d q. fraction_long k h m d (behind_point_lem m _ d (subst (λ (y : Symbol). AtPoints m (drop m.from W) (y ∷ ys)) q S))) (λ l. tt) tt tt
  move_long InFraction k h m i y e S =
      by_long _ _ _ _ _ _ _ _ y tt tt (λ b q. tt) (λ q. tt) (λ d q. fraction_long k h m d (subst (λ (y : Symbol). InFractions m (drop m.from W) (y ∷ ys)) q S)) (λ l. tt) tt tt
  move_long AtGap k h m i y e S = opening_long k h i _ _ _ _ y e tt tt (λ l. on (eqb h 0) _ _ (λ t. tt) (λ t. tt)) (on (eqb h 0) _ _ (λ t. tt) (λ t. tt))
  move_long AtComma k h m i y e S = opening_long k h i _ _ _ _ y e tt tt (λ l. tt) tt
  move_long AtClose k h m i y e S = by_long _ _ _ _ _ _ _ _ y tt tt (λ b q. tt) (λ q. tt) (λ d q. tt) (λ l. tt) tt tt

  abbrev LongTurn : Turn → Type 0
  LongTurn (Going s) = OnWay s
  LongTurn (Stopped f j) = Told f j

  settle_long : (t : Step) → LongStep t → LongTurn (settle t)
  settle_long (Go s) h = h
  settle_long (Lettered s) h = h
  settle_long (Shut s) h = h
  settle_long (Bad f j) h = h

  either_long : (e : Bool) (a b : Turn) → LongTurn a → LongTurn b → LongTurn (pick e a b)
  either_long true a b A B = A
  either_long false a b A B = B

  turn_long : (s : State) (i : ℕ) (y : Symbol) → drop i W ≡ y ∷ ys → Spelt s.place s.num (drop s.num.from W) (y ∷ ys) → LongTurn (turn_of (Going s) i y)
  turn_long s i y e S =
      either_long (ended s.place y) _ _ (settle_long (moved (finished s) i y) (move_long AtGap s.kind (next s.kind s.have) s.num i y e tt))
      (settle_long (moved s i y) (move_long s.place s.kind s.have s.num i y e S))

-- ---- the end of a text is no such number

abbrev pub Short : Verdict → Type 0
Short Text = Unit {0}
Short (Refused NotInLanguage j) = Unit {0}
Short (Refused TooLong j) = ⊥

pick_short : (t : Bool) (a b : Verdict) → Short a → Short b → Short (pick t a b)
pick_short true a b A B = A
pick_short false a b A B = B

last_short : (p : Place) (h i : ℕ) → Short (last p h i)
last_short AtStart h i = tt
last_short AtLetter h i = tt
last_short AtSign h i = tt
last_short InWhole h i = tt
last_short AtPoint h i = tt
last_short InFraction h i = tt
last_short AtGap h i = pick_short (eqb h 0) _ _ tt tt
last_short AtComma h i = tt
last_short AtClose h i = tt

pub closing_short : (s : State) (i : ℕ) → Short (closing (Going s) i)
closing_short s i = pick_short (in_number s.place) _ _ (last_short AtGap (next s.kind s.have) i) (last_short s.place s.have i)

drop_next : (W : List Symbol) (i : ℕ) (y : Symbol) (ys : List Symbol) → drop i W ≡ y ∷ ys → drop (i + 1) W ≡ ys
drop_next [] zero y ys e = let z : ◌≡◌ {A = ℕ} 0 1 = cc in absurd (omega arith)
drop_next [] (suc i) y ys e = let z : ◌≡◌ {A = ℕ} 0 1 = cc in absurd (omega arith)
drop_next (x ∷ W) zero y ys e = cc
drop_next (x ∷ W) (suc i) y ys e = ap (λ (n : ℕ). drop n (x ∷ W)) (let h : suc i + 1 ≡ suc (i + 1) = omega arith in h) ∙ drop_next W i y ys e

longs : (W ys : List Symbol) (i : ℕ) (s : State) (j : ℕ) → drop i W ≡ ys → Spelt s.place s.num (drop s.num.from W) ys → verdict_from i (Going s) ys ≡ Refused TooLong j → TooMany (drop j W)
unfolding verdict_from
longs W [] i s j e S v = absurd (subst Short v (closing_short s i))
longs W (y ∷ ys) i s j e S v = go (turn_of (Going s) i y) refl (turn_long W ys s i y e S) (λ t T w. longs W ys (i + 1) t j (drop_next W i y ys e) T w)
  where
    go : (t : Turn) → turn_of (Going s) i y ≡ t → LongTurn W ys t → ((t : State) → OnWay W ys t → verdict_from (i + 1) (Going t) ys ≡ Refused TooLong j → TooMany (drop j W)) → TooMany (drop j W)
    go (Going t) f h IH = IH t h (ap (λ (t : Turn). verdict_from (i + 1) t ys) (sym f) ∙ v)
    go (Stopped g m) f h IH =
        let w : Refused g m ≡ Refused TooLong j = sym (verdict_stays ys (i + 1) g m) ∙ ap (λ (t : Turn). verdict_from (i + 1) t ys) (sym f) ∙ v in
        let a : g ≡ TooLong = cc in
        let b : m ≡ j = cc in
        subst (λ (m : ℕ). TooMany (drop m W)) b (subst (λ (g : Fault). Told W ys g m) a h)

-- At the byte told with 61 a number begins that has ten or more digits before the point or behind it.
pub long_byte : (bs : List ℕ) (pen : Pen) (tags points : List ℕ) (j : ℕ) → (import_of bs pen tags points).ending ≡ Err (Faulty TooLong j) → TooMany (drop j (symbols bs))
long_byte bs pen tags points j e = longs (symbols bs) (symbols bs) 0 begun j refl tt (fault_verdict bs pen tags points TooLong j e)
