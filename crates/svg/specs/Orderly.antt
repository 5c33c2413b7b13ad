-- What a reader says, of every text: a first letter is M, no letter stands inside the first group, and every number is below 10 ^ 18 (`orderly`). Assumes nothing.
use Rattle.std.specs.Prelude.{◌≡◌, refl, Bool, true, false, List, [], ◌∷◌, ℕ, suc, ◌+◌, ◌*◌, ◌^◌, ◌≤◌, ◌<◌, leb, ltb, eqb}
use Rattle.std.proofs.Common.{sym, ap, ◌∙◌, subst, pow-suc, lt_of_lt_of_le, arith, ltb-true, leb-true, eqb-true}
use Rattle.std.proofs.Math.Nat.{pow-le-pow_right}
use Rattle.svg.specs.declared.steps.Kind.{Kind}
use Rattle.svg.specs.declared.steps.Kind.TheVariants.{Move, Line, Quad, Cubic}
use Rattle.svg.specs.declared.steps.Symbol.{Symbol}
use Rattle.svg.specs.declared.steps.Symbol.TheVariants.{White, Comma, Sign, Dot, Digit, Letter, Close, Other}
use Rattle.svg.specs.declared.steps.Place.{Place}
use Rattle.svg.specs.declared.steps.Place.TheVariants.{AtStart, AtLetter, AtSign, InWhole, AtPoint, InFraction, AtGap, AtComma, AtClose}
use Rattle.svg.specs.declared.steps.Num.{Num}
use Rattle.svg.specs.declared.steps.State.{State}
use Rattle.svg.specs.declared.steps.Step.{Step}
use Rattle.svg.specs.declared.steps.Step.TheVariants.{Go, Lettered, Shut, Bad}
use Rattle.svg.specs.Language.{pick, by, arity, behind, next, letter, number, close, symbols, symbol_of, mark_of, letter_of, digit_byte, white_byte}
use Rattle.svg.specs.Machine.{Verdict}
use Rattle.svg.specs.Machine.{Held, num, st, digit_of, whole_digit, fraction_digit, first_letter, opening, move, moved, ended, finished, in_number, number_of, begun, Run, over, said, does, runs}
use Rattle.svg.specs.Finite.{Bounded}

-- `b`: a group was full before. Behind a letter k and h numbers of a group that is not full.
abbrev pub Orderly : Run → Bool → Kind → ℕ → Type 0
Orderly (over v) b k h = Unit {0}
Orderly (said (letter l) i r) b k h = (b ≡ false → l ≡ Move) × Orderly r b l 0
Orderly (said close i r) b k h = Orderly r true k 0
Orderly (said (number x) i r) b k h = Bounded x × ((eqb (h + 1) (arity k) ≡ true → Orderly r true (behind k) 0) × (eqb (h + 1) (arity k) ≡ false → Orderly r b k (h + 1)))

pub not_both : (b : Bool) → b ≡ true → b ≡ false → ⊥
not_both b e f = let z : ◌≡◌ {A = Bool} true false = sym e ∙ f in let y : ◌≡◌ {A = ℕ} 0 1 = cc in absurd (omega arith)

-- ---- digits

-- one digit more
pub digit_small : (x y n d : ℕ) → y ≡ suc x → n < 10 ^ x → d ≤ 9 → n * 10 + d < 10 ^ y
digit_small x y n d e h l =
    let p : 10 ^ y ≡ 10 ^ x * 10 = ap (λ (z : ℕ). 10 ^ z) e ∙ pow-suc 10 x in
    subst (λ (z : ℕ). n * 10 + d < z) (sym p) (at (10 ^ x) h)
  where
    at : (z : ℕ) → n < z → n * 10 + d < z * 10
    at z h = omega arith

abbrev Digits : List Symbol → Type 0
Digits [] = Unit {0}
Digits (y ∷ ys) = (digit_of y ≤ 9) × Digits ys

pick_digit : (t : Bool) (x y : Symbol) → (t ≡ true → digit_of x ≤ 9) → digit_of y ≤ 9 → digit_of (pick t x y) ≤ 9
pick_digit true x y A B = A refl
pick_digit false x y A B = B

none : (t : Bool) (x y : Symbol) → digit_of x ≡ 0 → digit_of y ≤ 9 → digit_of (pick t x y) ≤ 9
none t x y e B = pick_digit t x y (λ f. omega arith) B

letter_digit : (b : ℕ) → digit_of (letter_of b) ≤ 9
unfolding letter_of
letter_digit b =
    none (eqb b 77) _ _ refl (none (eqb b 76) _ _ refl (none (eqb b 81) _ _ refl (none (eqb b 67) _ _ refl (none (eqb b 90) _ _ refl (omega arith)))))

mark_digit : (b : ℕ) → digit_of (mark_of b) ≤ 9
unfolding mark_of
mark_digit b = none (eqb b 44) _ _ refl (none (eqb b 43) _ _ refl (none (eqb b 45) _ _ refl (none (eqb b 46) _ _ refl (letter_digit b))))

digit_way : (b : ℕ) (t : Bool) → pick t false (leb b 57) ≡ true → b ≤ 57
digit_way b true h = absurd (not_both false h refl)
digit_way b false h = leb-true b 57 h

symbol_digit : (b : ℕ) → digit_of (symbol_of b) ≤ 9
unfolding symbol_of
symbol_digit b = pick_digit (digit_byte b) _ _ (λ e. let h = digit_way b (ltb b 48) e in omega arith) (none (white_byte b) _ _ refl (mark_digit b))

symbols_digits : (bs : List ℕ) → Digits (symbols bs)
unfolding symbols
symbols_digits [] = tt
symbols_digits (b ∷ bs) = (symbol_digit b, symbols_digits bs)

-- ---- states

abbrev At : Bool → Place → ℕ → Type 0
At b AtStart h = Unit {0}
At b AtLetter h = Unit {0}
At b AtSign h = Unit {0}
At b InWhole h = Unit {0}
At b AtPoint h = Unit {0}
At b InFraction h = Unit {0}
At b AtGap h = b ≡ false → h ≡ 0 → ⊥
At b AtComma h = Unit {0}
At b AtClose h = b ≡ true

record Inv (b : Bool) (s : State) : Type 0 where
  held : Held s.num
  place : At b s.place s.have

record Goes (b : Bool) (k : Kind) (h : ℕ) (s : State) : Type 0 where
  kind : s.kind ≡ k
  have : s.have ≡ h
  inv : Inv b s

record Letters (b : Bool) (s : State) : Type 0 where
  kind : b ≡ false → s.kind ≡ Move
  have : s.have ≡ 0
  inv : Inv b s

module _ (b : Bool) (k : Kind) (h : ℕ) where
  abbrev StepInv : Step → Type 0
  StepInv (Go s) = Goes b k h s
  StepInv (Lettered s) = Letters b s
  StepInv (Shut s) = Goes true k 0 s
  StepInv (Bad c j) = Unit {0}

  goes : (p : Place) (m : Num) → Held m → At b p h → StepInv (Go (st p k h m))
  goes p m H A = record { kind = refl; have = refl; inv = record { held = H; place = A } }

  letters : (l : Kind) (m : Num) → Held m → (b ≡ false → l ≡ Move) → StepInv (Lettered (st AtLetter l 0 m))
  letters l m H f = record { kind = f; have = refl; inv = record { held = H; place = tt } }

  shuts : (m : Num) → Held m → StepInv (Shut (st AtClose k 0 m))
  shuts m H = record { kind = refl; have = refl; inv = record { held = H; place = refl } }

  on : (t : Bool) (x y : Step) → (t ≡ true → StepInv x) → (t ≡ false → StepInv y) → StepInv (pick t x y)
  on true x y f g = f refl
  on false x y f g = g refl

  whole_ok : (m : Num) (d : ℕ) → Held m → d ≤ 9 → StepInv (whole_digit k h m d)
  whole_ok m d H l =
      on (ltb m.before 9) _ _
      (λ e.
      let c = ltb-true m.before 9 e in
      goes InWhole (num m.negative (m.n * 10 + d) (m.before + 1) m.behind m.from)
      (record { before = omega arith; behind = H.behind; small = digit_small (m.before + m.behind) (m.before + 1 + m.behind) m.n d (omega arith) H.small l }) tt)
      (λ e. tt)

  fraction_ok : (m : Num) (d : ℕ) → Held m → d ≤ 9 → StepInv (fraction_digit k h m d)
  fraction_ok m d H l =
      on (ltb m.behind 9) _ _
      (λ e.
      let c = ltb-true m.behind 9 e in
      goes InFraction (num m.negative (m.n * 10 + d) m.before (m.behind + 1) m.from)
      (record { before = H.before; behind = omega arith; small = digit_small (m.before + m.behind) (m.before + (m.behind + 1)) m.n d (omega arith) H.small l }) tt)
      (λ e. tt)

  by_ok : (w c : Step) (s : Bool → Step) (p : Step) (f : ℕ → Step) (l : Kind → Step) (z o : Step) (y : Symbol)
      → StepInv w → StepInv c → ((b : Bool) → StepInv (s b)) → StepInv p → ((d : ℕ) → d ≤ 9 → StepInv (f d)) → ((k : Kind) → StepInv (l k)) → StepInv z → StepInv o
      → digit_of y ≤ 9 → StepInv (by w c s p f l z o y)
  by_ok w c s p f l z o White W C S P F L Z O d = W
  by_ok w c s p f l z o Comma W C S P F L Z O d = C
  by_ok w c s p f l z o (Sign x) W C S P F L Z O d = S x
  by_ok w c s p f l z o Dot W C S P F L Z O d = P
  by_ok w c s p f l z o (Digit x) W C S P F L Z O d = F x d
  by_ok w c s p f l z o (Letter x) W C S P F L Z O d = L x
  by_ok w c s p f l z o Close W C S P F L Z O d = Z
  by_ok w c s p f l z o Other W C S P F L Z O d = O

  first_ok : (m : Num) (i : ℕ) → Held m → (l : Kind) → StepInv (first_letter k h m i l)
  first_ok m i H Move = letters Move m H (λ e. refl)
  first_ok m i H Line = tt
  first_ok m i H Quad = tt
  first_ok m i H Cubic = tt

  fresh : (s : Bool) (i : ℕ) → Held (num s 0 0 0 i)
  fresh s i = record { before = omega arith; behind = omega arith; small = omega arith }

  opening_ok : (i : ℕ) (w c : Step) (l : Kind → Step) (z : Step) (y : Symbol) → StepInv w → StepInv c → ((k : Kind) → StepInv (l k)) → StepInv z → digit_of y ≤ 9 → StepInv (opening k h i w c l z y)
  opening_ok i w c l z y W C L Z d =
      by_ok w c _ _ _ l z _ y W C (λ s. goes AtSign (num s 0 0 0 i) (fresh s i) tt) (goes AtPoint (num false 0 0 0 i) (fresh false i) tt) (λ d e. whole_ok (num false 0 0 0 i) d (fresh false i) e) L Z tt d

  move_ok : (p : Place) (m : Num) (i : ℕ) (y : Symbol) → Held m → At b p h → digit_of y ≤ 9 → StepInv (move p k h m i y)
  move_ok AtStart m i y H A d = by_ok _ _ _ _ _ _ _ _ y (goes AtStart m H tt) tt (λ s. tt) tt (λ d e. tt) (first_ok m i H) tt tt d
  move_ok AtLetter m i y H A d = opening_ok i _ _ _ _ y (goes AtLetter m H tt) tt (λ l. tt) tt d
  move_ok AtSign m i y H A d = by_ok _ _ _ _ _ _ _ _ y tt tt (λ s. tt) (goes AtPoint m H tt) (λ d e. whole_ok m d H e) (λ l. tt) tt tt d
  move_ok InWhole m i y H A d = by_ok _ _ _ _ _ _ _ _ y tt tt (λ s. tt) (goes AtPoint m H tt) (λ d e. whole_ok m d H e) (λ l. tt) tt tt d
  move_ok AtPoint m i y H A d = by_ok _ _ _ _ _ _ _ _ y tt tt (λ s. tt) tt (λ d e. fraction_ok m d H e) (λ l. tt) tt tt d
  move_ok InFraction m i y H A d = by_ok _ _ _ _ _ _ _ _ y tt tt (λ s. tt) tt (λ d e. fraction_ok m d H e) (λ l. tt) tt tt d
  move_ok AtGap m i y H A d =
      opening_ok i _ _ _ _ y (goes AtGap m H A) (goes AtComma m H tt) (λ l. on (eqb h 0) _ _ (λ e. letters l m H (λ f. absurd (A f (eqb-true h 0 e)))) (λ e. tt))
      (on (eqb h 0) _ _ (λ e. shuts m H) (λ e. tt)) d
  move_ok AtComma m i y H A d = opening_ok i _ _ _ _ y (goes AtComma m H tt) tt (λ l. tt) tt d
  move_ok AtClose m i y H A d = by_ok _ _ _ _ _ _ _ _ y (goes AtClose m H A) tt (λ s. tt) tt (λ d e. tt) (λ l. letters l m H (λ f. absurd (not_both b A f))) (shuts m H) tt d

-- ---- runs

held_bounded : (m : Num) → Held m → Bounded (number_of m)
held_bounded m H = let a = H.before in let b = H.behind in lt_of_lt_of_le H.small (most (m.before + m.behind) (omega arith))
  where
    most : (x : ℕ) → x ≤ 18 → 10 ^ x ≤ 10 ^ 18
    most x l = pow-le-pow_right (omega arith) l

behind_arity : (k : Kind) → arity (behind k) ≡ arity k
behind_arity Move = refl
behind_arity Line = refl
behind_arity Quad = refl
behind_arity Cubic = refl

next_full : (k l : Kind) (h : ℕ) → arity k ≡ arity l → eqb (h + 1) (arity k) ≡ true → next l h ≡ 0
next_full k l h a e = ap (λ (t : Bool). pick t 0 (h + 1)) (ap (eqb (h + 1)) (sym a) ∙ e)

next_more : (k l : Kind) (h : ℕ) → arity k ≡ arity l → eqb (h + 1) (arity k) ≡ false → next l h ≡ h + 1
next_more k l h a e = ap (λ (t : Bool). pick t 0 (h + 1)) (ap (eqb (h + 1)) (sym a) ∙ e)

module _ (i : ℕ) (ys : List Symbol) (IH : (s : State) (b : Bool) (k : Kind) → arity k ≡ arity s.kind → Inv b s → Orderly (runs (i + 1) s ys) b k s.have) where
  does_ok : (b : Bool) (k l : Kind) (h : ℕ) (t : Step) → arity k ≡ arity l → StepInv b l h t → Orderly (does t i (λ s. runs (i + 1) s ys)) b k h
  does_ok b k l h (Go s) a v = subst (Orderly (runs (i + 1) s ys) b k) v.have (IH s b k (a ∙ ap arity (sym v.kind)) v.inv)
  does_ok b k l h (Lettered s) a v = (v.kind, subst (Orderly (runs (i + 1) s ys) b s.kind) v.have (IH s b s.kind refl v.inv))
  does_ok b k l h (Shut s) a v = subst (Orderly (runs (i + 1) s ys) true k) v.have (IH s true k (a ∙ ap arity (sym v.kind)) v.inv)
  does_ok b k l h (Bad c j) a v = tt

  full_ok : (s : State) (y : Symbol) (b : Bool) (k : Kind) → digit_of y ≤ 9 → arity k ≡ arity s.kind → Inv b s → eqb (s.have + 1) (arity k) ≡ true
      → Orderly (does (moved (finished s) i y) i (λ s. runs (i + 1) s ys)) true (behind k) 0
  full_ok s y b k d a v e =
      subst (Orderly (does (moved (finished s) i y) i (λ s. runs (i + 1) s ys)) true (behind k)) (next_full k s.kind s.have a e)
      (does_ok true (behind k) s.kind (next s.kind s.have) (moved (finished s) i y) (behind_arity k ∙ a)
      (move_ok true s.kind (next s.kind s.have) AtGap s.num i y v.held (λ f g. not_both true refl f) d))

  more_ok : (s : State) (y : Symbol) (b : Bool) (k : Kind) → digit_of y ≤ 9 → arity k ≡ arity s.kind → Inv b s → eqb (s.have + 1) (arity k) ≡ false
      → Orderly (does (moved (finished s) i y) i (λ s. runs (i + 1) s ys)) b k (s.have + 1)
  more_ok s y b k d a v e =
      let n = next_more k s.kind s.have a e in
      subst (Orderly (does (moved (finished s) i y) i (λ s. runs (i + 1) s ys)) b k) n
      (does_ok b k s.kind (next s.kind s.have) (moved (finished s) i y) a
      (move_ok b s.kind (next s.kind s.have) AtGap s.num i y v.held (λ f g. let q : s.have + 1 ≡ 0 = sym n ∙ g in omega arith) d))

  one_ok : (s : State) (y : Symbol) (b : Bool) (k : Kind) → digit_of y ≤ 9 → arity k ≡ arity s.kind → Inv b s → (t : Bool)
      → Orderly (pick t (said (number (number_of s.num)) i (does (moved (finished s) i y) i (λ s. runs (i + 1) s ys))) (does (moved s i y) i (λ s. runs (i + 1) s ys))) b k s.have
  one_ok s y b k d a v true = (held_bounded s.num v.held, (full_ok s y b k d a v, more_ok s y b k d a v))
  one_ok s y b k d a v false = does_ok b k s.kind s.have (moved s i y) a (move_ok b s.kind s.have s.place s.num i y v.held v.place d)

last_ok : (t : Bool) (m : Num) (i : ℕ) (v w : Verdict) (b : Bool) (k : Kind) (h : ℕ) → Held m → Orderly (pick t (said (number (number_of m)) i (over v)) (over w)) b k h
last_ok true m i v w b k h H = (held_bounded m H, ((λ e. tt), (λ e. tt)))
last_ok false m i v w b k h H = tt

runs_ok : (ys : List Symbol) (i : ℕ) (s : State) (b : Bool) (k : Kind) → Digits ys → arity k ≡ arity s.kind → Inv b s → Orderly (runs i s ys) b k s.have
unfolding runs
runs_ok [] i s b k d a v = last_ok (in_number s.place) s.num i _ _ b k s.have v.held
runs_ok (y ∷ ys) i s b k d a v = one_ok i ys (λ s b k a v. runs_ok ys (i + 1) s b k d.1 a v) s y b k d.0 a v (ended s.place y)

pub orderly : (bs : List ℕ) → Orderly (runs 0 begun (symbols bs)) false Move 0
orderly bs = runs_ok (symbols bs) 0 begun false Move (symbols_digits bs) refl (record { held = record { before = omega arith; behind = omega arith; small = omega arith }; place = tt })
