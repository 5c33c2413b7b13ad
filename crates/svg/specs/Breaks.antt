-- Where a text is refused with 60: the bytes before the one that is told begin a text of the language, and with it they begin none (`stop_byte`). Assumes nothing.
use Rattle.std.specs.Prelude.{◌≡◌, refl, Bool, true, false, List, [], ◌∷◌, ◌++◌, ℕ, zero, suc, ◌+◌, ◌≤◌, ◌<◌, eqb, ltb, length, take, Err}
use Rattle.std.proofs.Common.{sym, ap, ◌∙◌, subst, arith}
use Rattle.pattern.specs.declared.pen.Pen.{Pen}
use Rattle.pattern.specs.Commands.{Answer}
use Rattle.svg.specs.declared.steps.Kind.{Kind}
use Rattle.svg.specs.declared.steps.Kind.TheVariants.{Move, Line, Quad, Cubic}
use Rattle.svg.specs.declared.steps.Symbol.{Symbol}
use Rattle.svg.specs.declared.steps.Symbol.TheVariants.{White, Comma, Sign, Dot, Digit, Letter, Close, Other}
use Rattle.svg.specs.declared.steps.Place.{Place}
use Rattle.svg.specs.declared.steps.Place.TheVariants.{AtStart, AtLetter, AtSign, InWhole, AtPoint, InFraction, AtGap, AtComma, AtClose}
use Rattle.svg.specs.declared.steps.Num.{Num}
use Rattle.svg.specs.declared.steps.State.{State}
use Rattle.svg.specs.declared.steps.Fault.{Fault}
use Rattle.svg.specs.declared.steps.Fault.TheVariants.{NotInLanguage, TooLong}
use Rattle.svg.specs.declared.steps.Step.{Step}
use Rattle.svg.specs.declared.steps.Step.TheVariants.{Go, Lettered, Shut, Bad}
use Rattle.svg.specs.Machine.{Verdict, Accepted as Text, Refused}
use Rattle.svg.specs.declared.reader.Refusal.TheVariants.{Faulty}
use Rattle.svg.specs.Language.{pick, by, Item, symbols, symbol_of, next}
use Rattle.svg.specs.Language.{Text as IsText}
use Rattle.svg.specs.Machine.{num, whole_digit, fraction_digit, first_letter, opening, move, moved, finished, ended, in_number, last, begun}
use Rattle.svg.specs.Fold.{Turn, Going, Stopped, settle, turn_of, closing, verdict_from}
use Rattle.svg.specs.Unique.{verdict_is, verdict_stays}
use Rattle.svg.specs.Unique.{end_of as verdict_of}
use Rattle.svg.specs.GoesOn.{after, no_text_goes_on, never, text_verdict}
use Rattle.svg.specs.First.{some_text_goes_on}
use Rattle.svg.specs.Said.{end_in, run_is}
use Rattle.svg.specs.Import.{Ending, import_of}
use Rattle.svg.specs.Imports.{Ends, accepted, faulty, undrawn, run_of, import_stands}

-- ---- the table tells its own byte

abbrev Off : ℕ → Fault → ℕ → Type 0
Off i NotInLanguage j = i ≡ j
Off i TooLong j = Unit {0}

abbrev OffStep : ℕ → Step → Type 0
OffStep i (Go s) = Unit {0}
OffStep i (Lettered s) = Unit {0}
OffStep i (Shut s) = Unit {0}
OffStep i (Bad f j) = Off i f j

pick_off : (i : ℕ) (t : Bool) (a b : Step) → OffStep i a → OffStep i b → OffStep i (pick t a b)
pick_off i true a b A B = A
pick_off i false a b A B = B

by_off : (i : ℕ) (w c : Step) (s : Bool → Step) (p : Step) (f : ℕ → Step) (l : Kind → Step) (z o : Step) (y : Symbol)
    → OffStep i w → OffStep i c → ((b : Bool) → OffStep i (s b)) → OffStep i p → ((d : ℕ) → OffStep i (f d)) → ((k : Kind) → OffStep i (l k)) → OffStep i z → OffStep i o → OffStep i (by w c s p f l z o y)
by_off i w c s p f l z o White W C S P F L Z O = W
by_off i w c s p f l z o Comma W C S P F L Z O = C
by_off i w c s p f l z o (Sign b) W C S P F L Z O = S b
by_off i w c s p f l z o Dot W C S P F L Z O = P
by_off i w c s p f l z o (Digit d) W C S P F L Z O = F d
by_off i w c s p f l z o (Letter k) W C S P F L Z O = L k
by_off i w c s p f l z o Close W C S P F L Z O = Z
by_off i w c s p f l z o Other W C S P F L Z O = O

whole_off : (k : Kind) (h : ℕ) (m : Num) (i d : ℕ) → OffStep i (whole_digit k h m d)
whole_off k h m i d = pick_off i (ltb m.before 9) _ _ tt tt

fraction_off : (k : Kind) (h : ℕ) (m : Num) (i d : ℕ) → OffStep i (fraction_digit k h m d)
fraction_off k h m i d = pick_off i (ltb m.behind 9) _ _ tt tt

first_off : (k : Kind) (h : ℕ) (m : Num) (i : ℕ) (l : Kind) → OffStep i (first_letter k h m i l)
first_off k h m i Move = tt
first_off k h m i Line = refl
first_off k h m i Quad = refl
first_off k h m i Cubic = refl

opening_off : (k : Kind) (h i : ℕ) (w c : Step) (l : Kind → Step) (z : Step) (y : Symbol) → OffStep i w → OffStep i c → ((k : Kind) → OffStep i (l k)) → OffStep i z → OffStep i (opening k h i w c l z y)
opening_off k h i w c l z y W C L Z = by_off i w c _ _ _ l z _ y W C (λ s. tt) tt (λ d. whole_off k h (num false 0 0 0 i) i d) L Z refl

move_off : (p : Place) (k : Kind) (h : ℕ) (m : Num) (i : ℕ) (y : Symbol) → OffStep i (move p k h m i y)
move_off AtStart k h m i y = by_off i _ _ _ _ _ _ _ _ y tt refl (λ s. refl) refl (λ d. refl) (first_off k h m i) refl refl
move_off AtLetter k h m i y = opening_off k h i _ _ _ _ y tt refl (λ k. refl) refl
move_off AtSign k h m i y = by_off i _ _ _ _ _ _ _ _ y refl refl (λ s. refl) tt (whole_off k h m i) (λ k. refl) refl refl
move_off InWhole k h m i y = by_off i _ _ _ _ _ _ _ _ y refl refl (λ s. refl) tt (whole_off k h m i) (λ k. refl) refl refl
move_off AtPoint k h m i y = by_off i _ _ _ _ _ _ _ _ y refl refl (λ s. refl) refl (fraction_off k h m i) (λ k. refl) refl refl
move_off InFraction k h m i y = by_off i _ _ _ _ _ _ _ _ y refl refl (λ s. refl) refl (fraction_off k h m i) (λ k. refl) refl refl
move_off AtGap k h m i y = opening_off k h i _ _ _ _ y tt tt (λ k. pick_off i (eqb h 0) _ _ tt refl) (pick_off i (eqb h 0) _ _ tt refl)
move_off AtComma k h m i y = opening_off k h i _ _ _ _ y tt refl (λ k. refl) refl
move_off AtClose k h m i y = by_off i _ _ _ _ _ _ _ _ y tt refl (λ s. refl) refl (λ d. refl) (λ k. tt) tt refl

abbrev OffTurn : ℕ → Turn → Type 0
OffTurn i (Going s) = Unit {0}
OffTurn i (Stopped f j) = Off i f j

settle_off : (i : ℕ) (t : Step) → OffStep i t → OffTurn i (settle t)
settle_off i (Go s) h = tt
settle_off i (Lettered s) h = tt
settle_off i (Shut s) h = tt
settle_off i (Bad f j) h = h

either_off : (i : ℕ) (e : Bool) (a b : Turn) → OffTurn i a → OffTurn i b → OffTurn i (pick e a b)
either_off i true a b A B = A
either_off i false a b A B = B

turn_off : (s : State) (i : ℕ) (y : Symbol) → OffTurn i (turn_of (Going s) i y)
turn_off s i y =
    either_off i (ended s.place y) _ _ (settle_off i (moved (finished s) i y) (move_off AtGap s.kind (next s.kind s.have) s.num i y)) (settle_off i (moved s i y) (move_off s.place s.kind s.have s.num i y))

-- ---- at the end of a text it is the length

abbrev OffVerdict : ℕ → Verdict → Type 0
OffVerdict i Text = Unit {0}
OffVerdict i (Refused f j) = i ≡ j

pick_verdict : (i : ℕ) (t : Bool) (a b : Verdict) → OffVerdict i a → OffVerdict i b → OffVerdict i (pick t a b)
pick_verdict i true a b A B = A
pick_verdict i false a b A B = B

last_off : (p : Place) (h i : ℕ) → OffVerdict i (last p h i)
last_off AtStart h i = tt
last_off AtLetter h i = refl
last_off AtSign h i = refl
last_off InWhole h i = refl
last_off AtPoint h i = refl
last_off InFraction h i = refl
last_off AtGap h i = pick_verdict i (eqb h 0) _ _ tt refl
last_off AtComma h i = refl
last_off AtClose h i = tt

closing_off : (s : State) (i : ℕ) → OffVerdict i (closing (Going s) i)
closing_off s i = pick_verdict i (in_number s.place) _ _ (last_off AtGap (next s.kind s.have) i) (last_off s.place s.have i)

-- ---- where it stops

-- in k symbols it does not stop, and in one more it does
record StopsAt (i : ℕ) (s : State) (ys : List Symbol) (j : ℕ) : Type 0 where
  count : ℕ
  there : i + count ≡ j
  within : count ≤ length ys
  state : State
  goes : after i (Going s) (take count ys) ≡ Going state
  stopped : count < length ys → (m : ℕ) × (after i (Going s) (take (suc count) ys) ≡ Stopped NotInLanguage m)

off_here : (i : ℕ) (v : Verdict) (f : Fault) (j : ℕ) → OffVerdict i v → v ≡ Refused f j → i ≡ j
off_here i v f j h e = subst (OffVerdict i) e h

stops : (ys : List Symbol) (i : ℕ) (s : State) (j : ℕ) → verdict_from i (Going s) ys ≡ Refused NotInLanguage j → StopsAt i s ys j
unfolding verdict_from after
stops [] i s j e =
    let h = off_here i (closing (Going s) i) NotInLanguage j (closing_off s i) e in
    record { count = 0; there = omega arith; within = omega arith; state = s; goes = refl; stopped = λ l. absurd (omega arith) }
stops (y ∷ ys) i s j e = go (turn_of (Going s) i y) refl (turn_off s i y) (λ t. stops ys (i + 1) t j)
  where
    go : (t : Turn) → turn_of (Going s) i y ≡ t → OffTurn i t → ((t : State) → verdict_from (i + 1) (Going t) ys ≡ Refused NotInLanguage j → StopsAt (i + 1) t ys j) → StopsAt i s (y ∷ ys) j
    go (Going t) f h IH =
        let r = IH t (ap (λ (t : Turn). verdict_from (i + 1) t ys) (sym f) ∙ e) in
        record {
          count = suc r.count;
          there = let q = r.there in omega arith;
          within = let q = r.within in omega arith;
          state = r.state;
          goes = ap (λ (t : Turn). after (i + 1) t (take r.count ys)) f ∙ r.goes;
          stopped = λ l. let q = r.stopped (omega arith) in (q.0, ap (λ (t : Turn). after (i + 1) t (take (suc r.count) ys)) f ∙ q.1);
        }
    go (Stopped g m) f h IH =
        let v : Refused g m ≡ Refused NotInLanguage j = sym (verdict_stays ys (i + 1) g m) ∙ ap (λ (t : Turn). verdict_from (i + 1) t ys) (sym f) ∙ e in
        let a : g ≡ NotInLanguage = cc in
        let b : m ≡ j = cc in
        let at : i ≡ m = subst (λ (g : Fault). Off i g m) a h in
        record { count = 0; there = omega arith; within = omega arith; state = s; goes = refl; stopped = λ l. (m, f ∙ ap (λ (g : Fault). Stopped g m) a) }

-- ---- the law

symbols_take : (n : ℕ) (bs : List ℕ) → take n (symbols bs) ≡ symbols (take n bs)
unfolding symbols
symbols_take zero bs = refl
symbols_take (suc n) [] = refl
symbols_take (suc n) (b ∷ bs) = ap (λ (ys : List Symbol). symbol_of b ∷ ys) (symbols_take n bs)

symbols_length : (bs : List ℕ) → length (symbols bs) ≡ length bs
unfolding symbols
symbols_length [] = refl
symbols_length (b ∷ bs) = ap suc (symbols_length bs)

-- bs begins a text of the language
abbrev pub Begins : List ℕ → Type 0
Begins bs = (cs : List ℕ) × (is : List Item) × IsText (bs ++ cs) is

-- at the byte j, or at the end where j is the length, the bytes stop to be a text of the language
pub record Breaks (bs : List ℕ) (j : ℕ) : Type 0 where
  pub within : j ≤ length bs
  pub before : Begins (take j bs)
  pub with_it : j < length bs → Begins (take (suc j) bs) → ⊥
  pub no_text : (is : List Item) → IsText bs is → ⊥

verdict_run : (bs : List ℕ) → end_in (run_of bs) ≡ verdict_from 0 (Going begun) (symbols bs)
verdict_run bs = ap verdict_of (sym (run_is (symbols bs) 0 begun)) ∙ verdict_is (symbols bs) 0 begun

broken : (bs : List ℕ) (j : ℕ) → verdict_from 0 (Going begun) (symbols bs) ≡ Refused NotInLanguage j → Breaks bs j
broken bs j e =
    let r = stops (symbols bs) 0 begun j e in
    let c : r.count ≡ j = let q = r.there in omega arith in
    let n = symbols_length bs in
    let w = r.within in
    record {
      within = omega arith;
      before =
          some_text_goes_on (take j bs) r.state
          (ap (after 0 (Going begun)) (sym (symbols_take j bs)) ∙ ap (λ (k : ℕ). after 0 (Going begun) (take k (symbols bs))) (sym c) ∙ r.goes);
      with_it = λ l t.
          let q = r.stopped (omega arith) in
          no_text_goes_on (take (suc j) bs) t.0 t.1 NotInLanguage q.0
          (ap (after 0 (Going begun)) (sym (symbols_take (suc j) bs)) ∙ ap (λ (k : ℕ). after 0 (Going begun) (take (suc k) (symbols bs))) (sym c) ∙ q.1) t.2;
      no_text = λ is t. never (verdict_from 0 (Going begun) (symbols bs)) NotInLanguage j e (text_verdict bs is t);
    }

by_fault : (e : Ending) (a : Answer) (v : Verdict) (f : Fault) (j : ℕ) → Ends e a v → e ≡ Err (Faulty f j) → v ≡ Refused f j
by_fault e n v f j accepted q = let z : ◌≡◌ {A = ℕ} 0 1 = cc in absurd (omega arith)
by_fault e n v f j (faulty g i) q = cc
by_fault e n v f j (undrawn g i w) q = let z : ◌≡◌ {A = ℕ} 0 1 = cc in absurd (omega arith)

-- the verdict on a text that was refused by the language
pub fault_verdict : (bs : List ℕ) (pen : Pen) (tags points : List ℕ) (f : Fault) (j : ℕ) → (import_of bs pen tags points).ending ≡ Err (Faulty f j) → verdict_from 0 (Going begun) (symbols bs) ≡ Refused f j
fault_verdict bs pen tags points f j e = sym (verdict_run bs) ∙ by_fault _ _ _ f j (import_stands pen tags points bs).ends e

-- The byte told with 60 is the first after which no text of the language goes on, or the length where the text stops short.
pub stop_byte : (bs : List ℕ) (pen : Pen) (tags points : List ℕ) (j : ℕ) → (import_of bs pen tags points).ending ≡ Err (Faulty NotInLanguage j) → Breaks bs j
stop_byte bs pen tags points j e = broken bs j (fault_verdict bs pen tags points NotInLanguage j e)
