-- The automaton accepts no other texts: what it reads is the text of what it says (`accepted_is_text`). With `reads`, it accepts exactly the texts of the language. Assumes nothing.
use Rattle.std.specs.Prelude.{◌≡◌, Bool, true, false, ℕ, suc, ◌+◌, ◌*◌, ◌≤◌, T, ltb, eqb, length}
use Rattle.std.proofs.Math.Path.{refl, subst}
use Rattle.std.proofs.Common.{sym, ap, ◌∙◌, arith}
use mathlib.Core.List.{List, [], ◌∷◌}
use borrow.Author.Tests.{ltb-true, eqb-true}
use Rattle.svg.specs.declared.steps.Kind.{Kind}
use Rattle.svg.specs.declared.steps.Kind.TheVariants.{Move, Line, Quad, Cubic}
use Rattle.svg.specs.declared.steps.Symbol.{Symbol}
use Rattle.svg.specs.declared.steps.Symbol.TheVariants.{White, Comma, Sign, Dot, Digit, Letter, Close, Other}
use Rattle.svg.specs.declared.steps.Place.{Place}
use Rattle.svg.specs.declared.steps.Place.TheVariants.{AtStart, AtLetter, AtSign, InWhole, AtPoint, InFraction, AtGap, AtComma, AtClose}
use Rattle.svg.specs.declared.steps.Num.{Num}
use Rattle.svg.specs.declared.steps.State.{State}
use Rattle.svg.specs.declared.steps.Fault.{Fault}
use Rattle.svg.specs.declared.steps.Fault.TheVariants.{NotInLanguage, TooLong}
use Rattle.svg.specs.declared.steps.Step.TheVariants.{Go, Lettered, Shut, Bad}
use Rattle.svg.specs.Machine.{Verdict, Accepted, Refused}
use Rattle.svg.specs.Language.{pick, dec, Item, letter, number, close, next, Signs, bare, sign, signed, negative, digits, onto, Number, plain, pointed, spell, value_of, Short, ends, spaces, blank, comma, Stage, opening, lettered, numbered, closed, Rest, nothing, begins, first, more, turns, closes, stops, opens, again, over, Text, symbols}
use Rattle.svg.specs.Machine.{num, st, number_of, begun, gap_last}
use Rattle.svg.specs.Fold.{Answer, answer, says, onward, run}

-- ---- answers

zero_one : ◌≡◌ {A = ℕ} 0 1 → ⊥
zero_one z = omega arith

refuses : {A : Type 0} (c : Fault) (i : ℕ) (is : List Item) → answer [] (Refused c i) ≡ answer is Accepted → A
refuses c i is e = let z : ◌≡◌ {A = ℕ} 0 1 = cc in absurd (zero_one z)

refuses_one : {A : Type 0} (x : Item) (c : Fault) (i : ℕ) (is : List Item) → answer (x ∷ []) (Refused c i) ≡ answer is Accepted → A
refuses_one x c i is e = let z : ◌≡◌ {A = ℕ} 0 1 = cc in absurd (zero_one z)

record Said (x : Item) (a : Answer) (is : List Item) : Type 0 where
  items : List Item
  rest : a ≡ answer items Accepted
  whole : x ∷ items ≡ is

unsay : (x : Item) (a : Answer) (is : List Item) → says x a ≡ answer is Accepted → Said x a is
unsay x (answer js v) is e = record { items = js; rest = ap (answer js) (verdict js v is e); whole = items js v is e }
  where
    verdict : (js : List Item) (v : Verdict) (is : List Item) → answer (x ∷ js) v ≡ answer is Accepted → v ≡ Accepted
    verdict js v is e = cc

    items : (js : List Item) (v : Verdict) (is : List Item) → answer (x ∷ js) v ≡ answer is Accepted → x ∷ js ≡ is
    items js v is e = cc

no_items : (v : Verdict) (is : List Item) → answer [] v ≡ answer is Accepted → [] ≡ is
no_items v is e = cc

one_item : (x : Item) (v : Verdict) (is : List Item) → answer (x ∷ []) v ≡ answer is Accepted → x ∷ [] ≡ is
one_item x v is e = cc

verdict_of_lem : (js : List Item) (v : Verdict) (is : List Item) → answer js v ≡ answer is Accepted → v ≡ Accepted
verdict_of_lem js v is e = cc

gap_way : (t : Bool) (i : ℕ) → pick t Accepted (Refused NotInLanguage i) ≡ Accepted → t ≡ true
gap_way true i e = refl
gap_way false i e = let z : ◌≡◌ {A = ℕ} 0 1 = cc in absurd (zero_one z)

full_group : (h i : ℕ) → gap_last h i ≡ Accepted → h ≡ 0
full_group h i e = eqb-true h 0 (gap_way (eqb h 0) i e)

digit_way : (t : Bool) (s : State) (c : Fault) (j : ℕ) (f : State → Answer) (is : List Item) → onward (pick t (Go s) (Bad c j)) f ≡ answer is Accepted → (t ≡ true) × (f s ≡ answer is Accepted)
digit_way true s c j f is e = (refl, e)
digit_way false s c j f is e = refuses c j is e

letter_way : (t : Bool) (s : State) (i : ℕ) (f : State → Answer) (is : List Item) → onward (pick t (Lettered s) (Bad NotInLanguage i)) f ≡ answer is Accepted → (t ≡ true) × (says (letter s.kind) (f s) ≡ answer is Accepted)
letter_way true s i f is e = (refl, e)
letter_way false s i f is e = refuses NotInLanguage i is e

close_way : (t : Bool) (s : State) (i : ℕ) (f : State → Answer) (is : List Item) → onward (pick t (Shut s) (Bad NotInLanguage i)) f ≡ answer is Accepted → (t ≡ true) × (says close (f s) ≡ answer is Accepted)
close_way true s i f is e = (refl, e)
close_way false s i f is e = refuses NotInLanguage i is e

-- ---- what is left of a text inside a number

data Begun (k : Kind) (h : ℕ) : List Symbol → List Item → Type 0 where
  begun_by : (x : Number) {r : List Symbol} {is : List Item} → Short x → T (ends x r) → Rest (numbered k (next k h)) r is → Begun k h (spell x r) (number (value_of x) ∷ is)

data Led (k : Kind) (h : ℕ) : List Symbol → List Item → Type 0 where
  led : (n : ℕ) {r : List Symbol} {is : List Item} → Begun k h r is → Led k h (spaces n r) is

data Frac (k : Kind) (h : ℕ) (s : Bool) (n c : ℕ) : List Symbol → List Item → Type 0 where
  frac : (es : List ℕ) (q : ℕ) {r : List Symbol} {is : List Item} → q ≡ c + length es → q ≤ 9 → T (ends (pointed bare [] 0 []) r) → Rest (numbered k (next k h)) r is → Frac k h s n c (digits es r) (number (dec s (onto n es) q) ∷ is)

data Point (k : Kind) (h : ℕ) (s : Bool) (n : ℕ) : List Symbol → List Item → Type 0 where
  point : (e : ℕ) (es : List ℕ) {r : List Symbol} {is : List Item} → length (e ∷ es) ≤ 9 → T (ends (pointed bare [] 0 []) r) → Rest (numbered k (next k h)) r is → Point k h s n (Digit e ∷ digits es r) (number (dec s (onto n (e ∷ es)) (length (e ∷ es))) ∷ is)

data Whole (k : Kind) (h : ℕ) (s : Bool) (n b : ℕ) : List Symbol → List Item → Type 0 where
  whole : (ds : List ℕ) {r : List Symbol} {is : List Item} → b + length ds ≤ 9 → T (ends (plain bare 0 []) r) → Rest (numbered k (next k h)) r is → Whole k h s n b (digits ds r) (number (dec s (onto n ds) 0) ∷ is)
  parted : (ds : List ℕ) (e : ℕ) (es : List ℕ) {r : List Symbol} {is : List Item} → b + length ds ≤ 9 → length (e ∷ es) ≤ 9 → T (ends (pointed bare [] 0 []) r) → Rest (numbered k (next k h)) r is
      → Whole k h s n b (digits ds (Dot ∷ Digit e ∷ digits es r)) (number (dec s (onto (onto n ds) (e ∷ es)) (length (e ∷ es))) ∷ is)

white_cons : {p : Stage} {r : List Symbol} {is : List Item} → Rest p r is → Rest p (White ∷ r) is
white_cons (nothing n) = nothing (suc n)
white_cons (begins n R) = begins (suc n) R
white_cons (first n x S t R) = first (suc n) x S t R
white_cons (more (blank n) x S t R) = more (blank (suc n)) x S t R
white_cons (more (comma n m) x S t R) = more (comma (suc n) m) x S t R
white_cons (turns n l R) = turns (suc n) l R
white_cons (closes n R) = closes (suc n) R
white_cons (stops n) = stops (suc n)
white_cons (opens n l R) = opens (suc n) l R
white_cons (again n R) = again (suc n) R
white_cons (over n) = over (suc n)

led_white : {k : Kind} {h : ℕ} {r : List Symbol} {is : List Item} → Led k h r is → Led k h (White ∷ r) is
led_white (led n B) = led (suc n) B

led_letter : {k : Kind} {r : List Symbol} {is : List Item} → Led k 0 r is → Rest (lettered k) r is
led_letter (led n (begun_by x S t R)) = first n x S t R

led_comma : {k : Kind} {h : ℕ} {r : List Symbol} {is : List Item} → Led k h r is → Rest (numbered k h) (Comma ∷ r) is
led_comma (led n (begun_by x S t R)) = more (comma 0 n) x S t R

begun_gap : {k : Kind} {h : ℕ} {r : List Symbol} {is : List Item} → Begun k h r is → Rest (numbered k h) r is
begun_gap (begun_by x S t R) = more (blank 0) x S t R

-- the ends of a number do not turn on its digits
plain_ends : (x : Signs) (d : ℕ) (ds : List ℕ) (r : List Symbol) → T (ends (plain bare 0 []) r) → T (ends (plain x d ds) r)
plain_ends x d ds [] t = t
plain_ends x d ds (y ∷ r) t = t

pointed_ends : (x : Signs) (ds : List ℕ) (e : ℕ) (es : List ℕ) (r : List Symbol) → T (ends (pointed bare [] 0 []) r) → T (ends (pointed x ds e es) r)
pointed_ends x ds e es [] t = t
pointed_ends x ds e es (y ∷ r) t = t

digit_whole : {k : Kind} {h : ℕ} {s : Bool} {n b d : ℕ} {r : List Symbol} {is : List Item} → Whole k h s (n * 10 + d) (b + 1) r is → Whole k h s n b (Digit d ∷ r) is
digit_whole {d = d} (whole ds l t R) = whole (d ∷ ds) (omega arith) t R
digit_whole {d = d} (parted ds e es l m t R) = parted (d ∷ ds) e es (omega arith) m t R

digit_frac : {k : Kind} {h : ℕ} {s : Bool} {n c d : ℕ} {r : List Symbol} {is : List Item} → Frac k h s (n * 10 + d) (c + 1) r is → Frac k h s n c (Digit d ∷ r) is
digit_frac {d = d} (frac es q e l t R) = frac (d ∷ es) q (omega arith) l t R

digit_point : {k : Kind} {h : ℕ} {s : Bool} {n d : ℕ} {r : List Symbol} {is : List Item} → Frac k h s (n * 10 + d) (0 + 1) r is → Point k h s n (Digit d ∷ r) is
digit_point {k} {h} {s} {n} {d} (frac es q {r = r} {is = is} e l t R) =
    let z : suc (length es) ≡ q = omega arith in
    subst (λ (q : ℕ). Point k h s n (Digit d ∷ digits es r) (number (dec s (onto n (d ∷ es)) q) ∷ is)) z (point d es (omega arith) t R)

dot_whole : {k : Kind} {h : ℕ} {s : Bool} {n b : ℕ} {r : List Symbol} {is : List Item} → b ≤ 9 → Point k h s n r is → Whole k h s n b (Dot ∷ r) is
dot_whole l (point e es m t R) = parted [] e es (omega arith) m t R

-- a number from its first digit or point, with the sign x
digit_begun : (x : Signs) (d : ℕ) {k : Kind} {h : ℕ} {s : Bool} {r q : List Symbol} {is : List Item} → s ≡ negative x → q ≡ signed x (Digit d ∷ r) → Whole k h s (0 * 10 + d) (0 + 1) r is → Begun k h q is
digit_begun x d {k} {h} {s} e z (whole ds {r = r} {is = is} l t R) =
    subst (λ (q : List Symbol). Begun k h q (number (dec s (onto 0 (d ∷ ds)) 0) ∷ is)) (sym z)
    (subst (λ (s : Bool). Begun k h (signed x (Digit d ∷ digits ds r)) (number (dec s (onto 0 (d ∷ ds)) 0) ∷ is)) (sym e)
    (begun_by (plain x d ds) (omega arith) (plain_ends x d ds r t) R))
digit_begun x d {k} {h} {s} e z (parted ds a us {r = r} {is = is} l m t R) =
    subst (λ (q : List Symbol). Begun k h q (number (dec s (onto (onto 0 (d ∷ ds)) (a ∷ us)) (length (a ∷ us))) ∷ is)) (sym z)
    (subst (λ (s : Bool). Begun k h (signed x (Digit d ∷ digits ds (Dot ∷ Digit a ∷ digits us r))) (number (dec s (onto (onto 0 (d ∷ ds)) (a ∷ us)) (length (a ∷ us))) ∷ is)) (sym e)
    (begun_by (pointed x (d ∷ ds) a us) (omega arith, m) (pointed_ends x (d ∷ ds) a us r t) R))

dot_begun : (x : Signs) {k : Kind} {h : ℕ} {s : Bool} {r q : List Symbol} {is : List Item} → s ≡ negative x → q ≡ signed x (Dot ∷ r) → Point k h s 0 r is → Begun k h q is
dot_begun x {k} {h} {s} e z (point a us {r = r} {is = is} m t R) =
    subst (λ (q : List Symbol). Begun k h q (number (dec s (onto 0 (a ∷ us)) (length (a ∷ us))) ∷ is)) (sym z)
    (subst (λ (s : Bool). Begun k h (signed x (Dot ∷ Digit a ∷ digits us r)) (number (dec s (onto 0 (a ∷ us)) (length (a ∷ us))) ∷ is)) (sym e)
    (begun_by (pointed x [] a us) (omega arith, m) (pointed_ends x [] a us r t) R))

-- what is left at each place
abbrev Good : Place → Kind → ℕ → Bool → ℕ → ℕ → ℕ → List Symbol → List Item → Type 0
Good AtStart k h s n b c ys is = Rest opening ys is
Good AtLetter k h s n b c ys is = Led k h ys is
Good AtSign k h s n b c ys is = n ≡ 0 → b ≡ 0 → c ≡ 0 → Begun k h (Sign s ∷ ys) is
Good InWhole k h s n b c ys is = c ≡ 0 → b ≤ 9 → Whole k h s n b ys is
Good AtPoint k h s n b c ys is = c ≡ 0 → Point k h s n ys is
Good InFraction k h s n b c ys is = c ≤ 9 → Frac k h s n c ys is
Good AtGap k h s n b c ys is = Rest (numbered k h) ys is
Good AtComma k h s n b c ys is = Led k h ys is
Good AtClose k h s n b c ys is = Rest closed ys is

module _ (ys : List Symbol) (IH : (p : Place) (k : Kind) (h : ℕ) (m : Num) (i : ℕ) (is : List Item) → run i (st p k h m) ys ≡ answer is Accepted → Good p k h m.negative m.n m.before m.behind ys is) where
  num_sign : (k : Kind) (h : ℕ) (b : Bool) (i : ℕ) (is : List Item) → run (i + 1) (st AtSign k h (num b 0 0 0 i)) ys ≡ answer is Accepted → Begun k h (Sign b ∷ ys) is
  num_sign k h b i is e = IH AtSign k h (num b 0 0 0 i) (i + 1) is e refl refl refl

  num_dot : (k : Kind) (h i : ℕ) (is : List Item) → run (i + 1) (st AtPoint k h (num false 0 0 0 i)) ys ≡ answer is Accepted → Begun k h (Dot ∷ ys) is
  num_dot k h i is e = dot_begun bare refl refl (IH AtPoint k h (num false 0 0 0 i) (i + 1) is e refl)

  num_digit : (k : Kind) (h d i : ℕ) (is : List Item) → run (i + 1) (st InWhole k h (num false (0 * 10 + d) (0 + 1) 0 i)) ys ≡ answer is Accepted → Begun k h (Digit d ∷ ys) is
  num_digit k h d i is e = digit_begun bare d refl refl (IH InWhole k h (num false (0 * 10 + d) (0 + 1) 0 i) (i + 1) is e refl (omega arith))

  first_step : (l k : Kind) (h : ℕ) (m : Num) (i : ℕ) (is : List Item) → run i (st AtStart k h m) (Letter l ∷ ys) ≡ answer is Accepted → Rest opening (Letter l ∷ ys) is
  unfolding run
  first_step Move k h m i is e =
      let s = unsay (letter Move) (run (i + 1) (st AtLetter Move 0 m) ys) is e in
      subst (λ (is : List Item). Rest opening (Letter Move ∷ ys) is) s.whole (begins 0 (led_letter (IH AtLetter Move 0 m (i + 1) s.items s.rest)))
  first_step Line k h m i is e = refuses NotInLanguage i is e
  first_step Quad k h m i is e = refuses NotInLanguage i is e
  first_step Cubic k h m i is e = refuses NotInLanguage i is e

  start_step : (y : Symbol) (k : Kind) (h : ℕ) (m : Num) (i : ℕ) (is : List Item) → run i (st AtStart k h m) (y ∷ ys) ≡ answer is Accepted → Rest opening (y ∷ ys) is
  unfolding run
  start_step White k h m i is e = white_cons (IH AtStart k h m (i + 1) is e)
  start_step Comma k h m i is e = refuses NotInLanguage i is e
  start_step (Sign b) k h m i is e = refuses NotInLanguage i is e
  start_step Dot k h m i is e = refuses NotInLanguage i is e
  start_step (Digit d) k h m i is e = refuses NotInLanguage i is e
  start_step (Letter l) k h m i is e = first_step l k h m i is e
  start_step Close k h m i is e = refuses NotInLanguage i is e
  start_step Other k h m i is e = refuses NotInLanguage i is e

  letter_step : (y : Symbol) (k : Kind) (h : ℕ) (m : Num) (i : ℕ) (is : List Item) → run i (st AtLetter k h m) (y ∷ ys) ≡ answer is Accepted → Led k h (y ∷ ys) is
  unfolding run
  letter_step White k h m i is e = led_white (IH AtLetter k h m (i + 1) is e)
  letter_step Comma k h m i is e = refuses NotInLanguage i is e
  letter_step (Sign b) k h m i is e = led 0 (num_sign k h b i is e)
  letter_step Dot k h m i is e = led 0 (num_dot k h i is e)
  letter_step (Digit d) k h m i is e = led 0 (num_digit k h d i is e)
  letter_step (Letter l) k h m i is e = refuses NotInLanguage i is e
  letter_step Close k h m i is e = refuses NotInLanguage i is e
  letter_step Other k h m i is e = refuses NotInLanguage i is e

  comma_step : (y : Symbol) (k : Kind) (h : ℕ) (m : Num) (i : ℕ) (is : List Item) → run i (st AtComma k h m) (y ∷ ys) ≡ answer is Accepted → Led k h (y ∷ ys) is
  unfolding run
  comma_step White k h m i is e = led_white (IH AtComma k h m (i + 1) is e)
  comma_step Comma k h m i is e = refuses NotInLanguage i is e
  comma_step (Sign b) k h m i is e = led 0 (num_sign k h b i is e)
  comma_step Dot k h m i is e = led 0 (num_dot k h i is e)
  comma_step (Digit d) k h m i is e = led 0 (num_digit k h d i is e)
  comma_step (Letter l) k h m i is e = refuses NotInLanguage i is e
  comma_step Close k h m i is e = refuses NotInLanguage i is e
  comma_step Other k h m i is e = refuses NotInLanguage i is e

  gap_step : (y : Symbol) (k : Kind) (h : ℕ) (m : Num) (i : ℕ) (is : List Item) → run i (st AtGap k h m) (y ∷ ys) ≡ answer is Accepted → Rest (numbered k h) (y ∷ ys) is
  unfolding run
  gap_step White k h m i is e = white_cons (IH AtGap k h m (i + 1) is e)
  gap_step Comma k h m i is e = led_comma (IH AtComma k h m (i + 1) is e)
  gap_step (Sign b) k h m i is e = begun_gap (num_sign k h b i is e)
  gap_step Dot k h m i is e = begun_gap (num_dot k h i is e)
  gap_step (Digit d) k h m i is e = begun_gap (num_digit k h d i is e)
  gap_step (Letter l) k h m i is e =
      let w = letter_way (eqb h 0) (st AtLetter l 0 m) i (λ t. run (i + 1) t ys) is e in
      let s = unsay (letter l) (run (i + 1) (st AtLetter l 0 m) ys) is w.1 in
      subst (λ (h : ℕ). Rest (numbered k h) (Letter l ∷ ys) is) (sym (eqb-true h 0 w.0))
      (subst (λ (is : List Item). Rest (numbered k 0) (Letter l ∷ ys) is) s.whole (turns 0 l (led_letter (IH AtLetter l 0 m (i + 1) s.items s.rest))))
  gap_step Close k h m i is e =
      let w = close_way (eqb h 0) (st AtClose k 0 m) i (λ t. run (i + 1) t ys) is e in
      let s = unsay close (run (i + 1) (st AtClose k 0 m) ys) is w.1 in
      subst (λ (h : ℕ). Rest (numbered k h) (Close ∷ ys) is) (sym (eqb-true h 0 w.0))
      (subst (λ (is : List Item). Rest (numbered k 0) (Close ∷ ys) is) s.whole (closes 0 (IH AtClose k 0 m (i + 1) s.items s.rest)))
  gap_step Other k h m i is e = refuses NotInLanguage i is e

  close_step : (y : Symbol) (k : Kind) (h : ℕ) (m : Num) (i : ℕ) (is : List Item) → run i (st AtClose k h m) (y ∷ ys) ≡ answer is Accepted → Rest closed (y ∷ ys) is
  unfolding run
  close_step White k h m i is e = white_cons (IH AtClose k h m (i + 1) is e)
  close_step Comma k h m i is e = refuses NotInLanguage i is e
  close_step (Sign b) k h m i is e = refuses NotInLanguage i is e
  close_step Dot k h m i is e = refuses NotInLanguage i is e
  close_step (Digit d) k h m i is e = refuses NotInLanguage i is e
  close_step (Letter l) k h m i is e =
      let s = unsay (letter l) (run (i + 1) (st AtLetter l 0 m) ys) is e in
      subst (λ (is : List Item). Rest closed (Letter l ∷ ys) is) s.whole (opens 0 l (led_letter (IH AtLetter l 0 m (i + 1) s.items s.rest)))
  close_step Close k h m i is e =
      let s = unsay close (run (i + 1) (st AtClose k 0 m) ys) is e in
      subst (λ (is : List Item). Rest closed (Close ∷ ys) is) s.whole (again 0 (IH AtClose k 0 m (i + 1) s.items s.rest))
  close_step Other k h m i is e = refuses NotInLanguage i is e

  sign_step : (y : Symbol) (k : Kind) (h : ℕ) (m : Num) (i : ℕ) (is : List Item) → run i (st AtSign k h m) (y ∷ ys) ≡ answer is Accepted → Good AtSign k h m.negative m.n m.before m.behind (y ∷ ys) is
  unfolding run
  sign_step White k h m i is e = λ zn zb zc. refuses NotInLanguage i is e
  sign_step Comma k h m i is e = λ zn zb zc. refuses NotInLanguage i is e
  sign_step (Sign b) k h m i is e = λ zn zb zc. refuses NotInLanguage i is e
  sign_step Dot k h m i is e = λ zn zb zc. dot_begun (sign m.negative) refl refl (subst (λ (n : ℕ). Point k h m.negative n ys is) zn (IH AtPoint k h m (i + 1) is e zc))
  sign_step (Digit d) k h m i is e = λ zn zb zc.
      let w = digit_way (ltb m.before 9) (st InWhole k h (num m.negative (m.n * 10 + d) (m.before + 1) m.behind m.from)) TooLong m.from (λ t. run (i + 1) t ys) is e in
      digit_begun (sign m.negative) d refl refl (subst (λ (b : ℕ). Whole k h m.negative (0 * 10 + d) (b + 1) ys is) zb (subst (λ (n : ℕ). Whole k h m.negative (n * 10 + d) (m.before + 1) ys is) zn (IH InWhole k h (num m.negative (m.n * 10 + d) (m.before + 1) m.behind m.from) (i + 1) is w.1 zc (omega arith))))
  sign_step (Letter l) k h m i is e = λ zn zb zc. refuses NotInLanguage i is e
  sign_step Close k h m i is e = λ zn zb zc. refuses NotInLanguage i is e
  sign_step Other k h m i is e = λ zn zb zc. refuses NotInLanguage i is e

  point_step : (y : Symbol) (k : Kind) (h : ℕ) (m : Num) (i : ℕ) (is : List Item) → run i (st AtPoint k h m) (y ∷ ys) ≡ answer is Accepted → Good AtPoint k h m.negative m.n m.before m.behind (y ∷ ys) is
  unfolding run
  point_step White k h m i is e = λ zc. refuses NotInLanguage i is e
  point_step Comma k h m i is e = λ zc. refuses NotInLanguage i is e
  point_step (Sign b) k h m i is e = λ zc. refuses NotInLanguage i is e
  point_step Dot k h m i is e = λ zc. refuses NotInLanguage i is e
  point_step (Digit d) k h m i is e = λ zc.
      let w = digit_way (ltb m.behind 9) (st InFraction k h (num m.negative (m.n * 10 + d) m.before (m.behind + 1) m.from)) TooLong m.from (λ t. run (i + 1) t ys) is e in
      let l = ltb-true m.behind 9 w.0 in
      digit_point (subst (λ (c : ℕ). Frac k h m.negative (m.n * 10 + d) (c + 1) ys is) zc (IH InFraction k h (num m.negative (m.n * 10 + d) m.before (m.behind + 1) m.from) (i + 1) is w.1 (omega arith)))
  point_step (Letter l) k h m i is e = λ zc. refuses NotInLanguage i is e
  point_step Close k h m i is e = λ zc. refuses NotInLanguage i is e
  point_step Other k h m i is e = λ zc. refuses NotInLanguage i is e

  whole_step : (y : Symbol) (k : Kind) (h : ℕ) (m : Num) (i : ℕ) (is : List Item) → run i (st InWhole k h m) (y ∷ ys) ≡ answer is Accepted → Good InWhole k h m.negative m.n m.before m.behind (y ∷ ys) is
  unfolding run
  whole_step White k h m i is e = λ zc lb.
      let s = unsay (number (number_of m)) (run i (st AtGap k (next k h) m) (White ∷ ys)) is e in
      subst (λ (is : List Item). Whole k h m.negative m.n m.before (White ∷ ys) is) (ap (λ (c : ℕ). number (dec m.negative m.n c) ∷ s.items) (sym zc) ∙ s.whole)
      (whole [] (omega arith) tt (gap_step White k (next k h) m i s.items s.rest))
  whole_step Comma k h m i is e = λ zc lb.
      let s = unsay (number (number_of m)) (run i (st AtGap k (next k h) m) (Comma ∷ ys)) is e in
      subst (λ (is : List Item). Whole k h m.negative m.n m.before (Comma ∷ ys) is) (ap (λ (c : ℕ). number (dec m.negative m.n c) ∷ s.items) (sym zc) ∙ s.whole)
      (whole [] (omega arith) tt (gap_step Comma k (next k h) m i s.items s.rest))
  whole_step (Sign b) k h m i is e = λ zc lb.
      let s = unsay (number (number_of m)) (run i (st AtGap k (next k h) m) ((Sign b) ∷ ys)) is e in
      subst (λ (is : List Item). Whole k h m.negative m.n m.before ((Sign b) ∷ ys) is) (ap (λ (c : ℕ). number (dec m.negative m.n c) ∷ s.items) (sym zc) ∙ s.whole)
      (whole [] (omega arith) tt (gap_step (Sign b) k (next k h) m i s.items s.rest))
  whole_step Dot k h m i is e = λ zc lb. dot_whole lb (IH AtPoint k h m (i + 1) is e zc)
  whole_step (Digit d) k h m i is e = λ zc lb.
      let w = digit_way (ltb m.before 9) (st InWhole k h (num m.negative (m.n * 10 + d) (m.before + 1) m.behind m.from)) TooLong m.from (λ t. run (i + 1) t ys) is e in
      let l = ltb-true m.before 9 w.0 in
      digit_whole (IH InWhole k h (num m.negative (m.n * 10 + d) (m.before + 1) m.behind m.from) (i + 1) is w.1 zc (omega arith))
  whole_step (Letter l) k h m i is e = λ zc lb.
      let s = unsay (number (number_of m)) (run i (st AtGap k (next k h) m) ((Letter l) ∷ ys)) is e in
      subst (λ (is : List Item). Whole k h m.negative m.n m.before ((Letter l) ∷ ys) is) (ap (λ (c : ℕ). number (dec m.negative m.n c) ∷ s.items) (sym zc) ∙ s.whole)
      (whole [] (omega arith) tt (gap_step (Letter l) k (next k h) m i s.items s.rest))
  whole_step Close k h m i is e = λ zc lb.
      let s = unsay (number (number_of m)) (run i (st AtGap k (next k h) m) (Close ∷ ys)) is e in
      subst (λ (is : List Item). Whole k h m.negative m.n m.before (Close ∷ ys) is) (ap (λ (c : ℕ). number (dec m.negative m.n c) ∷ s.items) (sym zc) ∙ s.whole)
      (whole [] (omega arith) tt (gap_step Close k (next k h) m i s.items s.rest))
  whole_step Other k h m i is e = λ zc lb.
      let s = unsay (number (number_of m)) (run i (st AtGap k (next k h) m) (Other ∷ ys)) is e in
      subst (λ (is : List Item). Whole k h m.negative m.n m.before (Other ∷ ys) is) (ap (λ (c : ℕ). number (dec m.negative m.n c) ∷ s.items) (sym zc) ∙ s.whole)
      (whole [] (omega arith) tt (gap_step Other k (next k h) m i s.items s.rest))

  fraction_step : (y : Symbol) (k : Kind) (h : ℕ) (m : Num) (i : ℕ) (is : List Item) → run i (st InFraction k h m) (y ∷ ys) ≡ answer is Accepted → Good InFraction k h m.negative m.n m.before m.behind (y ∷ ys) is
  unfolding run
  fraction_step White k h m i is e = λ lc.
      let s = unsay (number (number_of m)) (run i (st AtGap k (next k h) m) (White ∷ ys)) is e in
      subst (λ (is : List Item). Frac k h m.negative m.n m.behind (White ∷ ys) is) s.whole
      (frac [] m.behind (omega arith) lc tt (gap_step White k (next k h) m i s.items s.rest))
  fraction_step Comma k h m i is e = λ lc.
      let s = unsay (number (number_of m)) (run i (st AtGap k (next k h) m) (Comma ∷ ys)) is e in
      subst (λ (is : List Item). Frac k h m.negative m.n m.behind (Comma ∷ ys) is) s.whole
      (frac [] m.behind (omega arith) lc tt (gap_step Comma k (next k h) m i s.items s.rest))
  fraction_step (Sign b) k h m i is e = λ lc.
      let s = unsay (number (number_of m)) (run i (st AtGap k (next k h) m) ((Sign b) ∷ ys)) is e in
      subst (λ (is : List Item). Frac k h m.negative m.n m.behind ((Sign b) ∷ ys) is) s.whole
      (frac [] m.behind (omega arith) lc tt (gap_step (Sign b) k (next k h) m i s.items s.rest))
  fraction_step Dot k h m i is e = λ lc.
      let s = unsay (number (number_of m)) (run i (st AtGap k (next k h) m) (Dot ∷ ys)) is e in
      subst (λ (is : List Item). Frac k h m.negative m.n m.behind (Dot ∷ ys) is) s.whole
      (frac [] m.behind (omega arith) lc tt (gap_step Dot k (next k h) m i s.items s.rest))
  fraction_step (Digit d) k h m i is e = λ lc.
      let w = digit_way (ltb m.behind 9) (st InFraction k h (num m.negative (m.n * 10 + d) m.before (m.behind + 1) m.from)) TooLong m.from (λ t. run (i + 1) t ys) is e in
      let l = ltb-true m.behind 9 w.0 in
      digit_frac (IH InFraction k h (num m.negative (m.n * 10 + d) m.before (m.behind + 1) m.from) (i + 1) is w.1 (omega arith))
  fraction_step (Letter l) k h m i is e = λ lc.
      let s = unsay (number (number_of m)) (run i (st AtGap k (next k h) m) ((Letter l) ∷ ys)) is e in
      subst (λ (is : List Item). Frac k h m.negative m.n m.behind ((Letter l) ∷ ys) is) s.whole
      (frac [] m.behind (omega arith) lc tt (gap_step (Letter l) k (next k h) m i s.items s.rest))
  fraction_step Close k h m i is e = λ lc.
      let s = unsay (number (number_of m)) (run i (st AtGap k (next k h) m) (Close ∷ ys)) is e in
      subst (λ (is : List Item). Frac k h m.negative m.n m.behind (Close ∷ ys) is) s.whole
      (frac [] m.behind (omega arith) lc tt (gap_step Close k (next k h) m i s.items s.rest))
  fraction_step Other k h m i is e = λ lc.
      let s = unsay (number (number_of m)) (run i (st AtGap k (next k h) m) (Other ∷ ys)) is e in
      subst (λ (is : List Item). Frac k h m.negative m.n m.behind (Other ∷ ys) is) s.whole
      (frac [] m.behind (omega arith) lc tt (gap_step Other k (next k h) m i s.items s.rest))

full_stop : (k : Kind) (h i : ℕ) → gap_last h i ≡ Accepted → Rest (numbered k h) [] []
full_stop k h i e = subst (λ (h : ℕ). Rest (numbered k h) [] []) (sym (full_group h i e)) (stops 0)

sound : (ys : List Symbol) (p : Place) (k : Kind) (h : ℕ) (m : Num) (i : ℕ) (is : List Item) → run i (st p k h m) ys ≡ answer is Accepted → Good p k h m.negative m.n m.before m.behind ys is
unfolding run
sound [] AtStart k h m i is e = subst (λ (is : List Item). Rest opening [] is) (no_items Accepted is e) (nothing 0)
sound [] AtLetter k h m i is e = refuses NotInLanguage i is e
sound [] AtSign k h m i is e = λ zn zb zc. refuses NotInLanguage i is e
sound [] InWhole k h m i is e = λ zc lb.
    subst (λ (is : List Item). Whole k h m.negative m.n m.before [] is) (ap (λ (c : ℕ). number (dec m.negative m.n c) ∷ []) (sym zc) ∙ one_item (number (number_of m)) (gap_last (next k h) i) is e)
    (whole [] (omega arith) tt (full_stop k (next k h) i (verdict_of_lem (number (number_of m) ∷ []) (gap_last (next k h) i) is e)))
sound [] AtPoint k h m i is e = λ zc. refuses NotInLanguage i is e
sound [] InFraction k h m i is e = λ lc.
    subst (λ (is : List Item). Frac k h m.negative m.n m.behind [] is) (one_item (number (number_of m)) (gap_last (next k h) i) is e)
    (frac [] m.behind (omega arith) lc tt (full_stop k (next k h) i (verdict_of_lem (number (number_of m) ∷ []) (gap_last (next k h) i) is e)))
sound [] AtGap k h m i is e = subst (λ (is : List Item). Rest (numbered k h) [] is) (no_items (gap_last h i) is e) (full_stop k h i (verdict_of_lem [] (gap_last h i) is e))
sound [] AtComma k h m i is e = refuses NotInLanguage i is e
sound [] AtClose k h m i is e = subst (λ (is : List Item). Rest closed [] is) (no_items Accepted is e) (over 0)
sound (y ∷ ys) AtStart k h m i is e = start_step ys (λ p k h m i is e. sound ys p k h m i is e) y k h m i is e
sound (y ∷ ys) AtLetter k h m i is e = letter_step ys (λ p k h m i is e. sound ys p k h m i is e) y k h m i is e
sound (y ∷ ys) AtSign k h m i is e = sign_step ys (λ p k h m i is e. sound ys p k h m i is e) y k h m i is e
sound (y ∷ ys) InWhole k h m i is e = whole_step ys (λ p k h m i is e. sound ys p k h m i is e) y k h m i is e
sound (y ∷ ys) AtPoint k h m i is e = point_step ys (λ p k h m i is e. sound ys p k h m i is e) y k h m i is e
sound (y ∷ ys) InFraction k h m i is e = fraction_step ys (λ p k h m i is e. sound ys p k h m i is e) y k h m i is e
sound (y ∷ ys) AtGap k h m i is e = gap_step ys (λ p k h m i is e. sound ys p k h m i is e) y k h m i is e
sound (y ∷ ys) AtComma k h m i is e = comma_step ys (λ p k h m i is e. sound ys p k h m i is e) y k h m i is e
sound (y ∷ ys) AtClose k h m i is e = close_step ys (λ p k h m i is e. sound ys p k h m i is e) y k h m i is e

-- what the automaton accepts is a text of the language
pub accepted_is_text : (bs : List ℕ) (is : List Item) → run 0 begun (symbols bs) ≡ answer is Accepted → Text bs is
accepted_is_text bs is e = sound (symbols bs) AtStart Move 0 (num false 0 0 0 0) 0 is e
