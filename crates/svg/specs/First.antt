-- Until the reader stops, some text goes on (`some_text_goes_on`): so a refusal is told at the first byte from which none does. Assumes nothing.
use Rattle.std.specs.Prelude.{◌≡◌, refl, Bool, true, false, List, [], ◌∷◌, ◌++◌, ℕ, zero, suc, ◌+◌, ◌-◌, ◌*◌, ◌<◌, ltb, eqb}
use Rattle.std.proofs.Common.{ap, ◌∙◌, subst, arith, lt-ltb, eq-eqb, ne_eqb}
use Rattle.std.proofs.lemmas.Bool.{eqb-false}
use Rattle.svg.specs.declared.steps.Kind.{Kind}
use Rattle.svg.specs.declared.steps.Kind.TheVariants.{Move, Line, Quad, Cubic}
use Rattle.svg.specs.declared.steps.Symbol.{Symbol}
use Rattle.svg.specs.declared.steps.Symbol.TheVariants.{White, Comma, Sign, Dot, Digit, Letter, Close, Other}
use Rattle.svg.specs.declared.steps.Place.{Place}
use Rattle.svg.specs.declared.steps.Place.TheVariants.{AtStart, AtLetter, AtSign, InWhole, AtPoint, InFraction, AtGap, AtComma, AtClose}
use Rattle.svg.specs.declared.steps.Num.{Num}
use Rattle.svg.specs.declared.steps.State.{State}
use Rattle.svg.specs.declared.steps.Fault.TheVariants.{TooLong}
use Rattle.svg.specs.declared.steps.Step.{Step}
use Rattle.svg.specs.declared.steps.Step.TheVariants.{Go, Lettered, Shut, Bad}
use Rattle.svg.specs.Fold.{Turn, Going, Stopped}
use Rattle.svg.specs.Machine.{Accepted}
use Rattle.svg.specs.Language.{pick, by, arity, next, Item, Text, symbols, symbol_of, mark_of, letter_of}
use Rattle.svg.specs.Machine.{num, st, whole_digit, fraction_digit, first_letter, opening, move, moved, ended, finished, gap_last, begun}
use Rattle.svg.specs.Fold.{settle, turn_of, run, verdict_from, Answer, answer}
use Rattle.svg.specs.Unique.{end_of, verdict_is}
use Rattle.svg.specs.Exactly.{accepted_is_text}
use Rattle.svg.specs.GoesOn.{after, symbols_append}

-- ---- numbers that fill the group: a space and a 0, n times

abbrev pad : ℕ → List ℕ
pad zero = []
pad (suc n) = 32 ∷ 48 ∷ pad n

next_last : (k : Kind) (h : ℕ) → h + 1 ≡ arity k → next k h ≡ 0
next_last k h e = ap (λ (t : Bool). pick t 0 (h + 1)) (eq-eqb (h + 1) (arity k) e)

next_more : (k : Kind) (h : ℕ) → (h + 1 ≡ arity k → ⊥) → next k h ≡ h + 1
next_more k h e = ap (λ (t : Bool). pick t 0 (h + 1)) (ne_eqb (h + 1) (arity k) e)

not_last : (h n a : ℕ) → h + 1 + suc n ≡ a → h + 1 ≡ a → ⊥
not_last h n a e f = omega arith

one_more_lem : (x h n a : ℕ) → x ≡ h + 1 → h + 1 + suc n ≡ a → x + 1 + n ≡ a
one_more_lem x h n a e f = omega arith

no_more : (h a : ℕ) → h + 1 + 0 ≡ a → h + 1 ≡ a
no_more h a e = omega arith

whole_pad : (n : ℕ) (k : Kind) (h : ℕ) (m : Num) (i : ℕ) → h + 1 + n ≡ arity k → verdict_from i (Going (st InWhole k h m)) (symbols (pad n)) ≡ Accepted
unfolding verdict_from symbols symbol_of mark_of letter_of
whole_pad zero k h m i e = ap (λ (h : ℕ). gap_last h i) (next_last k h (no_more h (arity k) e))
whole_pad (suc n) k h m i e =
    whole_pad n k (next k h) (num false (0 * 10 + 0) (0 + 1) 0 (i + 1)) (i + 1 + 1) (one_more_lem (next k h) h n (arity k) (next_more k h (not_last h n (arity k) e)) e)

fraction_pad : (n : ℕ) (k : Kind) (h : ℕ) (m : Num) (i : ℕ) → h + 1 + n ≡ arity k → verdict_from i (Going (st InFraction k h m)) (symbols (pad n)) ≡ Accepted
unfolding verdict_from symbols symbol_of mark_of letter_of
fraction_pad zero k h m i e = ap (λ (h : ℕ). gap_last h i) (next_last k h (no_more h (arity k) e))
fraction_pad (suc n) k h m i e =
    whole_pad n k (next k h) (num false (0 * 10 + 0) (0 + 1) 0 (i + 1)) (i + 1 + 1) (one_more_lem (next k h) h n (arity k) (next_more k h (not_last h n (arity k) e)) e)

-- ---- what holds of a state on the way

abbrev LiveAt : Place → Num → Type 0
LiveAt AtStart m = Unit {0}
LiveAt AtLetter m = Unit {0}
LiveAt AtSign m = (m.before < 9) × (m.behind < 9)
LiveAt InWhole m = m.behind < 9
LiveAt AtPoint m = m.behind < 9
LiveAt InFraction m = Unit {0}
LiveAt AtGap m = Unit {0}
LiveAt AtComma m = Unit {0}
LiveAt AtClose m = Unit {0}

abbrev Live : State → Type 0
Live s = (s.have < arity s.kind) × LiveAt s.place s.num

abbrev LiveStep : Step → Type 0
LiveStep (Go s) = Live s
LiveStep (Lettered s) = Live s
LiveStep (Shut s) = Live s
LiveStep (Bad c j) = Unit {0}

abbrev LiveTurn : Turn → Type 0
LiveTurn (Going s) = Live s
LiveTurn (Stopped c j) = Unit {0}

filled : (h a : ℕ) → h < a → h + 1 + (a - (h + 1)) ≡ a
filled h a l = omega arith

goes : (p : Place) (k : Kind) (h : ℕ) (m : Num) → h < arity k → LiveAt p m → (cs : List ℕ) × ((i : ℕ) → verdict_from i (Going (st p k h m)) (symbols cs) ≡ Accepted)
unfolding verdict_from symbols symbol_of mark_of letter_of
goes AtStart k h m g l = ([], λ i. refl)
goes AtLetter k h m g l = (48 ∷ pad (arity k - (h + 1)), λ i. whole_pad (arity k - (h + 1)) k h (num false (0 * 10 + 0) (0 + 1) 0 i) (i + 1) (filled h (arity k) g))
goes AtSign k h m g l = (
  48 ∷ pad (arity k - (h + 1)),
  λ i.
      ap (λ (t : Bool). verdict_from (i + 1) (settle (pick t (Go (st InWhole k h (num m.negative (m.n * 10 + 0) (m.before + 1) m.behind m.from))) (Bad TooLong m.from))) (symbols (pad (arity k - (h + 1))))) (lt-ltb m.before 9 l.0)
      ∙ whole_pad (arity k - (h + 1)) k h (num m.negative (m.n * 10 + 0) (m.before + 1) m.behind m.from) (i + 1) (filled h (arity k) g),
)
goes InWhole k h m g l = (pad (arity k - (h + 1)), λ i. whole_pad (arity k - (h + 1)) k h m i (filled h (arity k) g))
goes AtPoint k h m g l = (
  48 ∷ pad (arity k - (h + 1)),
  λ i.
      ap (λ (t : Bool). verdict_from (i + 1) (settle (pick t (Go (st InFraction k h (num m.negative (m.n * 10 + 0) m.before (m.behind + 1) m.from))) (Bad TooLong m.from))) (symbols (pad (arity k - (h + 1))))) (lt-ltb m.behind 9 l)
      ∙ fraction_pad (arity k - (h + 1)) k h (num m.negative (m.n * 10 + 0) m.before (m.behind + 1) m.from) (i + 1) (filled h (arity k) g),
)
goes InFraction k h m g l = (pad (arity k - (h + 1)), λ i. fraction_pad (arity k - (h + 1)) k h m i (filled h (arity k) g))
goes AtGap k h m g l = (48 ∷ pad (arity k - (h + 1)), λ i. whole_pad (arity k - (h + 1)) k h (num false (0 * 10 + 0) (0 + 1) 0 i) (i + 1) (filled h (arity k) g))
goes AtComma k h m g l = (48 ∷ pad (arity k - (h + 1)), λ i. whole_pad (arity k - (h + 1)) k h (num false (0 * 10 + 0) (0 + 1) 0 i) (i + 1) (filled h (arity k) g))
goes AtClose k h m g l = ([], λ i. refl)

-- ---- every step keeps it

pub arity_pos : (k : Kind) → 0 < arity k
arity_pos Move = omega arith
arity_pos Line = omega arith
arity_pos Quad = omega arith
arity_pos Cubic = omega arith

next_way : (a h : ℕ) (t : Bool) → eqb (h + 1) a ≡ t → 0 < a → h < a → pick t 0 (h + 1) < a
next_way a h true e p l = p
next_way a h false e p l = let n = eqb-false (h + 1) a e in omega arith

pub next_lt : (k : Kind) (h : ℕ) → h < arity k → next k h < arity k
next_lt k h l = next_way (arity k) h (eqb (h + 1) (arity k)) refl (arity_pos k) l

pick_live : (t : Bool) (a b : Step) → LiveStep a → LiveStep b → LiveStep (pick t a b)
pick_live true a b A B = A
pick_live false a b A B = B

by_live : (w c : Step) (s : Bool → Step) (p : Step) (f : ℕ → Step) (l : Kind → Step) (z o : Step) (y : Symbol)
    → LiveStep w → LiveStep c → ((b : Bool) → LiveStep (s b)) → LiveStep p → ((d : ℕ) → LiveStep (f d)) → ((k : Kind) → LiveStep (l k)) → LiveStep z → LiveStep o → LiveStep (by w c s p f l z o y)
by_live w c s p f l z o White W C S P F L Z O = W
by_live w c s p f l z o Comma W C S P F L Z O = C
by_live w c s p f l z o (Sign b) W C S P F L Z O = S b
by_live w c s p f l z o Dot W C S P F L Z O = P
by_live w c s p f l z o (Digit d) W C S P F L Z O = F d
by_live w c s p f l z o (Letter k) W C S P F L Z O = L k
by_live w c s p f l z o Close W C S P F L Z O = Z
by_live w c s p f l z o Other W C S P F L Z O = O

whole_live : (k : Kind) (h : ℕ) (m : Num) (d : ℕ) → h < arity k → m.behind < 9 → LiveStep (whole_digit k h m d)
whole_live k h m d g l = pick_live (ltb m.before 9) _ _ (g, l) tt

fraction_live : (k : Kind) (h : ℕ) (m : Num) (d : ℕ) → h < arity k → LiveStep (fraction_digit k h m d)
fraction_live k h m d g = pick_live (ltb m.behind 9) _ _ (g, tt) tt

first_live : (k : Kind) (h : ℕ) (m : Num) (i : ℕ) (l : Kind) → LiveStep (first_letter k h m i l)
first_live k h m i Move = (omega arith, tt)
first_live k h m i Line = tt
first_live k h m i Quad = tt
first_live k h m i Cubic = tt

opening_live : (k : Kind) (h i : ℕ) → h < arity k → (w c : Step) (l : Kind → Step) (z : Step) (y : Symbol) → LiveStep w → LiveStep c → ((k : Kind) → LiveStep (l k)) → LiveStep z → LiveStep (opening k h i w c l z y)
opening_live k h i g w c l z y W C L Z =
    let zn : 0 < 9 = omega arith in
    by_live w c _ _ _ l z _ y W C (λ s. (g, (zn, zn))) (g, zn) (λ d. whole_live k h (num false 0 0 0 i) d g zn) L Z tt

move_live : (p : Place) (k : Kind) (h : ℕ) (m : Num) (i : ℕ) (y : Symbol) → h < arity k → LiveAt p m → LiveStep (move p k h m i y)
move_live AtStart k h m i y g l = by_live _ _ _ _ _ _ _ _ y (g, tt) tt (λ s. tt) tt (λ d. tt) (first_live k h m i) tt tt
move_live AtLetter k h m i y g l = opening_live k h i g _ _ _ _ y (g, tt) tt (λ k. tt) tt
move_live AtSign k h m i y g l = by_live _ _ _ _ _ _ _ _ y tt tt (λ s. tt) (g, l.1) (λ d. whole_live k h m d g l.1) (λ k. tt) tt tt
move_live InWhole k h m i y g l = by_live _ _ _ _ _ _ _ _ y tt tt (λ s. tt) (g, l) (λ d. whole_live k h m d g l) (λ k. tt) tt tt
move_live AtPoint k h m i y g l = by_live _ _ _ _ _ _ _ _ y tt tt (λ s. tt) tt (λ d. fraction_live k h m d g) (λ k. tt) tt tt
move_live InFraction k h m i y g l = by_live _ _ _ _ _ _ _ _ y tt tt (λ s. tt) tt (λ d. fraction_live k h m d g) (λ k. tt) tt tt
move_live AtGap k h m i y g l = opening_live k h i g _ _ _ _ y (g, tt) (g, tt) (λ k. pick_live (eqb h 0) _ _ (arity_pos k, tt) tt) (pick_live (eqb h 0) _ _ (arity_pos k, tt) tt)
move_live AtComma k h m i y g l = opening_live k h i g _ _ _ _ y (g, tt) tt (λ k. tt) tt
move_live AtClose k h m i y g l = by_live _ _ _ _ _ _ _ _ y (g, tt) tt (λ s. tt) tt (λ d. tt) (λ k. (arity_pos k, tt)) (arity_pos k, tt) tt

settle_live : (t : Step) → LiveStep t → LiveTurn (settle t)
settle_live (Go s) l = l
settle_live (Lettered s) l = l
settle_live (Shut s) l = l
settle_live (Bad c j) l = tt

either_live : (e : Bool) (a b : Turn) → LiveTurn a → LiveTurn b → LiveTurn (pick e a b)
either_live true a b A B = A
either_live false a b A B = B

turn_live : (t : Turn) (i : ℕ) (y : Symbol) → LiveTurn t → LiveTurn (turn_of t i y)
turn_live (Going s) i y l =
    either_live (ended s.place y) (settle (moved (finished s) i y)) (settle (moved s i y))
    (settle_live (moved (finished s) i y) (move_live AtGap s.kind (next s.kind s.have) s.num i y (next_lt s.kind s.have l.0) tt))
    (settle_live (moved s i y) (move_live s.place s.kind s.have s.num i y l.0 l.1))
turn_live (Stopped c j) i y l = tt

after_live : (ys : List Symbol) (i : ℕ) (t : Turn) → LiveTurn t → LiveTurn (after i t ys)
unfolding after
after_live [] i t l = l
after_live (y ∷ ys) i t l = after_live ys (i + 1) (turn_of t i y) (turn_live t i y l)

-- ---- the law

through : (ys zs : List Symbol) (i : ℕ) (t : Turn) (s : State) → after i t ys ≡ Going s → ((j : ℕ) → verdict_from j (Going s) zs ≡ Accepted) → verdict_from i t (ys ++ zs) ≡ Accepted
unfolding after verdict_from
through [] zs i t s e f = ap (λ (t : Turn). verdict_from i t zs) e ∙ f i
through (y ∷ ys) zs i t s e f = through ys zs (i + 1) (turn_of t i y) s e f

whole_answer : (a : Answer) → end_of a ≡ Accepted → (is : List Item) × (a ≡ answer is Accepted)
whole_answer (answer is e) h = (is, ap (answer is) h)

pub some_text_goes_on : (bs : List ℕ) (s : State) → after 0 (Going begun) (symbols bs) ≡ Going s → (cs : List ℕ) × (is : List Item) × Text (bs ++ cs) is
some_text_goes_on bs s e =
    let l : Live s = subst (λ (t : Turn). LiveTurn t) e (after_live (symbols bs) 0 (Going begun) (arity_pos Move, tt)) in
    let g = goes s.place s.kind s.have s.num l.0 l.1 in
    let v : verdict_from 0 (Going begun) (symbols (bs ++ g.0)) ≡ Accepted =
    ap (λ (ys : List Symbol). verdict_from 0 (Going begun) ys) (symbols_append bs g.0) ∙ through (symbols bs) (symbols g.0) 0 (Going begun) s e g.1 in
    let a = whole_answer (run 0 begun (symbols (bs ++ g.0))) (verdict_is (symbols (bs ++ g.0)) 0 begun ∙ v) in
    (g.0, a.0, accepted_is_text (bs ++ g.0) a.0 a.1)
