-- The automaton reads every text of the language, and finds what it says (`reads`); so a text says one thing only (`unique`), and is the text of at most one list of
-- commands (`one_meaning`). Assumes nothing.
use Rattle.std.specs.Prelude.{◌≡◌, refl, Bool, true, T, length}
use Rattle.std.proofs.Common.{sym, ◌∙◌, lt-ltb}
use Rattle.std.proofs.Math.Path.{ap}
use Rattle.std.proofs.Math.Bool.{false}
use mathlib.Core.List.{List, [], ◌∷◌}
use Prim.Native.Nat.{ℕ, zero, suc, ◌+◌, ◌*◌, ◌≤◌, ◌<◌}
use native.Mathlib.Omega.{arith}
use Rattle.svg.specs.declared.steps.Kind.{Kind}
use Rattle.svg.specs.declared.steps.Kind.TheVariants.{Move}
use Rattle.svg.specs.declared.steps.Symbol.{Symbol}
use Rattle.svg.specs.declared.steps.Symbol.TheVariants.{White, Comma, Sign, Dot, Digit, Letter, Close, Other}
use Rattle.svg.specs.declared.steps.Place.{Place}
use Rattle.svg.specs.declared.steps.Place.TheVariants.{AtStart, AtLetter, AtSign, InWhole, AtPoint, InFraction, AtGap, AtComma, AtClose}
use Rattle.svg.specs.declared.steps.Num.{Num}
use Rattle.svg.specs.declared.steps.State.{State}
use Rattle.svg.specs.declared.steps.Fault.{Fault}
use Rattle.svg.specs.declared.steps.Fault.TheVariants.{TooLong}
use Rattle.svg.specs.declared.steps.Step.{Step}
use Rattle.svg.specs.declared.steps.Step.TheVariants.{Go, Lettered, Shut, Bad}
use Rattle.svg.specs.Language.{pick, dec, Item, letter, number, close, next, Signs, bare, sign, digits, onto, Number, plain, pointed, spell, value_of, Short, ends, spaces, blank, comma, Stage, opening, lettered, numbered, closed, Rest, nothing, begins, first, more, turns, closes, stops, opens, again, over, Text, symbols, Command, commands_at, Means}
use Rattle.svg.specs.Machine.{num, st, number_of, begun, moved, finished, ended, last, in_number}
use Rattle.svg.specs.Fold.{Answer, answer, says, onward, run, verdict_from, settle, last_of}
use Rattle.svg.specs.Fold.{Going, Stopped}
use Rattle.svg.specs.Machine.{Verdict, Accepted, Refused}

-- ---- white space

data Stays : Place → Type 0 where
  s_start : Stays AtStart
  s_letter : Stays AtLetter
  s_gap : Stays AtGap
  s_comma : Stays AtComma
  s_close : Stays AtClose

white : {p : Place} → Stays p → (k : Kind) (h : ℕ) (m : Num) (i : ℕ) (r : List Symbol) → run i (st p k h m) (White ∷ r) ≡ run (i + 1) (st p k h m) r
unfolding run
white s_start k h m i r = refl
white s_letter k h m i r = refl
white s_gap k h m i r = refl
white s_comma k h m i r = refl
white s_close k h m i r = refl

spaced : {p : Place} → Stays p → (k : Kind) (h : ℕ) (m : Num) (r : List Symbol) (a : Answer) → ((i : ℕ) → run i (st p k h m) r ≡ a) → (n i : ℕ) → run i (st p k h m) (spaces n r) ≡ a
spaced w k h m r a f zero i = f i
spaced w k h m r a f (suc n) i = white w k h m i (spaces n r) ∙ spaced w k h m r a f n (i + 1)

-- ---- digits

module _ (k : Kind) (h : ℕ) (s : Bool) (f : ℕ) (r : List Symbol) (a : Answer) where
  whole_digit_lem : (n b c i d : ℕ) (q : List Symbol) → b < 9 → run i (st InWhole k h (num s n b c f)) (Digit d ∷ q) ≡ run (i + 1) (st InWhole k h (num s (n * 10 + d) (b + 1) c f)) q
  unfolding run
  whole_digit_lem n b c i d q l = ap (λ (t : Bool). onward (pick t (Go (st InWhole k h (num s (n * 10 + d) (b + 1) c f))) (Bad TooLong f)) (λ t. run (i + 1) t q)) (lt-ltb b 9 l)

  fraction_digit_lem : (n b c i d : ℕ) (q : List Symbol) → c < 9 → run i (st InFraction k h (num s n b c f)) (Digit d ∷ q) ≡ run (i + 1) (st InFraction k h (num s (n * 10 + d) b (c + 1) f)) q
  unfolding run
  fraction_digit_lem n b c i d q l = ap (λ (t : Bool). onward (pick t (Go (st InFraction k h (num s (n * 10 + d) b (c + 1) f))) (Bad TooLong f)) (λ t. run (i + 1) t q)) (lt-ltb c 9 l)

  whole_digits : (ds : List ℕ) (n b c : ℕ) → b + length ds ≤ 9 → ((i b : ℕ) → run i (st InWhole k h (num s (onto n ds) b c f)) r ≡ a) → (i : ℕ) → run i (st InWhole k h (num s n b c f)) (digits ds r) ≡ a
  whole_digits [] n b c l g i = g i b
  whole_digits (d ∷ ds) n b c l g i = whole_digit_lem n b c i d (digits ds r) (omega arith) ∙ whole_digits ds (n * 10 + d) (b + 1) c (omega arith) g (i + 1)

  fraction_digits : (ds : List ℕ) (n b c : ℕ) → c + length ds ≤ 9 → ((i e : ℕ) → e ≡ c + length ds → run i (st InFraction k h (num s (onto n ds) b e f)) r ≡ a) → (i : ℕ) → run i (st InFraction k h (num s n b c f)) (digits ds r) ≡ a
  fraction_digits [] n b c l g i = g i c (omega arith)
  fraction_digits (d ∷ ds) n b c l g i = fraction_digit_lem n b c i d (digits ds r) (omega arith) ∙ fraction_digits ds (n * 10 + d) b (c + 1) (omega arith) (λ i e q. g i e (omega arith)) (i + 1)

-- ---- the end of a number

whole_ends_lem : (x : Signs) (d : ℕ) (ds : List ℕ) (k : Kind) (h : ℕ) (m : Num) (i : ℕ) (r : List Symbol) → T (ends (plain x d ds) r) → run i (st InWhole k h m) r ≡ says (number (number_of m)) (run i (st AtGap k (next k h) m) r)
unfolding run
whole_ends_lem x d ds k h m i [] t = refl
whole_ends_lem x d ds k h m i (White ∷ r) t = refl
whole_ends_lem x d ds k h m i (Comma ∷ r) t = refl
whole_ends_lem x d ds k h m i (Sign b ∷ r) t = refl
whole_ends_lem x d ds k h m i (Dot ∷ r) t = absurd t
whole_ends_lem x d ds k h m i (Digit b ∷ r) t = absurd t
whole_ends_lem x d ds k h m i (Letter b ∷ r) t = refl
whole_ends_lem x d ds k h m i (Close ∷ r) t = refl
whole_ends_lem x d ds k h m i (Other ∷ r) t = refl

fraction_ends_lem : (x : Signs) (ds : List ℕ) (e : ℕ) (es : List ℕ) (k : Kind) (h : ℕ) (m : Num) (i : ℕ) (r : List Symbol) → T (ends (pointed x ds e es) r) → run i (st InFraction k h m) r ≡ says (number (number_of m)) (run i (st AtGap k (next k h) m) r)
unfolding run
fraction_ends_lem x ds e es k h m i [] t = refl
fraction_ends_lem x ds e es k h m i (White ∷ r) t = refl
fraction_ends_lem x ds e es k h m i (Comma ∷ r) t = refl
fraction_ends_lem x ds e es k h m i (Sign b ∷ r) t = refl
fraction_ends_lem x ds e es k h m i (Dot ∷ r) t = refl
fraction_ends_lem x ds e es k h m i (Digit b ∷ r) t = absurd t
fraction_ends_lem x ds e es k h m i (Letter b ∷ r) t = refl
fraction_ends_lem x ds e es k h m i (Close ∷ r) t = refl
fraction_ends_lem x ds e es k h m i (Other ∷ r) t = refl

-- ---- a number, from behind its sign

module _ (k : Kind) (h : ℕ) (r : List Symbol) (a : Answer) (g : (i : ℕ) (m : Num) → run i (st AtGap k (next k h) m) r ≡ a) where
  plain_body : (x : Signs) (s : Bool) (f d : ℕ) (ds : List ℕ) → Short (plain x d ds) → T (ends (plain x d ds) r) → (i : ℕ) → run i (st AtSign k h (num s 0 0 0 f)) (Digit d ∷ digits ds r) ≡ says (number (dec s (onto 0 (d ∷ ds)) 0)) a
  unfolding run
  plain_body x s f d ds l t i =
      whole_digits k h s f r (says (number (dec s (onto 0 (d ∷ ds)) 0)) a) ds (0 * 10 + d) (0 + 1) 0 (omega arith)
      (λ j b. whole_ends_lem x d ds k h (num s (onto 0 (d ∷ ds)) b 0 f) j r t ∙ ap (says (number (dec s (onto 0 (d ∷ ds)) 0))) (g j _))
      (i + 1)

  point_tail : (x : Signs) (s : Bool) (f n b : ℕ) (ds : List ℕ) (e : ℕ) (es : List ℕ) → length (e ∷ es) ≤ 9 → T (ends (pointed x ds e es) r) → (i : ℕ)
      → run i (st AtPoint k h (num s n b 0 f)) (Digit e ∷ digits es r) ≡ says (number (dec s (onto n (e ∷ es)) (length (e ∷ es)))) a
  unfolding run
  point_tail x s f n b ds e es l t i =
      fraction_digits k h s f r (says (number (dec s (onto n (e ∷ es)) (length (e ∷ es)))) a) es (n * 10 + e) b (0 + 1) (omega arith)
      (λ j c q.
      fraction_ends_lem x ds e es k h (num s (onto n (e ∷ es)) b c f) j r t
      ∙ ap (says (number (dec s (onto n (e ∷ es)) c))) (g j _)
      ∙ ap (λ (c : ℕ). says (number (dec s (onto n (e ∷ es)) c)) a) (counted c (length es) q))
      (i + 1)
    where
      counted : (c l : ℕ) → c ≡ 1 + l → c ≡ suc l
      counted c l q = omega arith

  pointed_body : (x : Signs) (s : Bool) (f : ℕ) (ds : List ℕ) (e : ℕ) (es : List ℕ) → Short (pointed x ds e es) → T (ends (pointed x ds e es) r) → (i : ℕ)
      → run i (st AtSign k h (num s 0 0 0 f)) (digits ds (Dot ∷ Digit e ∷ digits es r)) ≡ says (number (dec s (onto (onto 0 ds) (e ∷ es)) (length (e ∷ es)))) a
  unfolding run
  pointed_body x s f [] e es l t i = point_tail x s f 0 0 [] e es l.1 t (i + 1)
  pointed_body x s f (d ∷ ds) e es l t i =
      whole_digits k h s f (Dot ∷ Digit e ∷ digits es r) (says (number (dec s (onto (onto 0 (d ∷ ds)) (e ∷ es)) (length (e ∷ es)))) a) ds (0 * 10 + d) (0 + 1) 0 (let z = l.0 in omega arith)
      (λ j b. point_tail x s f (onto 0 (d ∷ ds)) b (d ∷ ds) e es l.1 t (j + 1))
      (i + 1)

  -- and from before it
  spelled : (x : Number) → Short x → T (ends x r) → (m : Num) (i : ℕ) → run i (st AtLetter k h m) (spell x r) ≡ says (number (value_of x)) a
  unfolding run
  spelled (plain bare d ds) l t m i = plain_body bare false i d ds l t i
  spelled (plain (sign s) d ds) l t m i = plain_body (sign s) s i d ds l t (i + 1)
  spelled (pointed bare [] e es) l t m i = pointed_body bare false i [] e es l t i
  spelled (pointed bare (d ∷ ds) e es) l t m i = pointed_body bare false i (d ∷ ds) e es l t i
  spelled (pointed (sign s) ds e es) l t m i = pointed_body (sign s) s i ds e es l t (i + 1)

-- behind a number and behind a comma a number begins as it does behind a letter
gap_spell : (x : Number) (r : List Symbol) (k : Kind) (h : ℕ) (m : Num) (i : ℕ) → run i (st AtGap k h m) (spell x r) ≡ run i (st AtLetter k h m) (spell x r)
unfolding run
gap_spell (plain bare d ds) r k h m i = refl
gap_spell (plain (sign s) d ds) r k h m i = refl
gap_spell (pointed bare [] e es) r k h m i = refl
gap_spell (pointed bare (d ∷ ds) e es) r k h m i = refl
gap_spell (pointed (sign s) ds e es) r k h m i = refl

comma_spell : (x : Number) (r : List Symbol) (k : Kind) (h : ℕ) (m : Num) (i : ℕ) → run i (st AtComma k h m) (spell x r) ≡ run i (st AtLetter k h m) (spell x r)
unfolding run
comma_spell (plain bare d ds) r k h m i = refl
comma_spell (plain (sign s) d ds) r k h m i = refl
comma_spell (pointed bare [] e es) r k h m i = refl
comma_spell (pointed bare (d ∷ ds) e es) r k h m i = refl
comma_spell (pointed (sign s) ds e es) r k h m i = refl

-- ---- a text

abbrev pub state_at : Stage → Kind → ℕ → Num → State
state_at opening k h m = st AtStart k h m
state_at (lettered l) k h m = st AtLetter l 0 m
state_at (numbered l j) k h m = st AtGap l j m
state_at closed k h m = st AtClose k h m

pub reads : {p : Stage} {r : List Symbol} {is : List Item} → Rest p r is → (k : Kind) (h : ℕ) (m : Num) (i : ℕ) → run i (state_at p k h m) r ≡ answer is Accepted
unfolding run
reads (nothing n) k h m i = spaced s_start k h m [] (answer [] Accepted) (λ i. refl) n i
reads (begins n R) k h m i = spaced s_start k h m _ _ (λ i. ap (says (letter Move)) (reads R k h m (i + 1))) n i
reads (first n x {k = l} {r = q} S t R) k h m i = spaced s_letter l 0 m _ _ (λ i. spelled l 0 q _ (λ i m. reads R k h m i) x S t m i) n i
reads (more (blank n) x {k = l} {h = j} {r = q} S t R) k h m i =
    spaced s_gap l j m _ _ (λ i. gap_spell x q l j m i ∙ spelled l j q _ (λ i m. reads R k h m i) x S t m i) n i
reads (more (comma n c) x {k = l} {h = j} {r = q} S t R) k h m i =
    spaced s_gap l j m _ _ (λ i. spaced s_comma l j m _ _ (λ i. comma_spell x q l j m i ∙ spelled l j q _ (λ i m. reads R k h m i) x S t m i) c (i + 1)) n i
reads (turns n l {k = j} R) k h m i = spaced s_gap j 0 m _ _ (λ i. ap (says (letter l)) (reads R k h m (i + 1))) n i
reads (closes n {k = j} R) k h m i = spaced s_gap j 0 m _ _ (λ i. ap (says close) (reads R j 0 m (i + 1))) n i
reads (stops n {k = j}) k h m i = spaced s_gap j 0 m [] (answer [] Accepted) (λ i. refl) n i
reads (opens n l R) k h m i = spaced s_close k h m _ _ (λ i. ap (says (letter l)) (reads R k h m (i + 1))) n i
reads (again n R) k h m i = spaced s_close k h m _ _ (λ i. ap (says close) (reads R k 0 m (i + 1))) n i
reads (over n) k h m i = spaced s_close k h m [] (answer [] Accepted) (λ i. refl) n i

-- ---- the laws

same_items : (a : Answer) (is js : List Item) → a ≡ answer is Accepted → a ≡ answer js Accepted → is ≡ js
same_items a is js p q = cc

pub unique : (bs : List ℕ) (is js : List Item) → Text bs is → Text bs js → is ≡ js
unique bs is js p q = same_items (run 0 begun (symbols bs)) is js (reads p Move 0 (num false 0 0 0 0) 0) (reads q Move 0 (num false 0 0 0 0) 0)

pub one_meaning : (bs : List ℕ) (cs ds : List Command) → Means bs cs → Means bs ds → cs ≡ ds
one_meaning bs cs ds p q = sym p.commands ∙ ap (commands_at Move []) (unique bs p.items q.items p.text q.text) ∙ q.commands

-- ---- the verdict is that of the fold

abbrev pub end_of : Answer → Verdict
end_of (answer is e) = e

end_says : (x : Item) (a : Answer) → end_of (says x a) ≡ end_of a
end_says x (answer is e) = refl

pub verdict_stays : (ys : List Symbol) (i : ℕ) (c : Fault) (j : ℕ) → verdict_from i (Stopped c j) ys ≡ Refused c j
unfolding verdict_from
verdict_stays [] i c j = refl
verdict_stays (y ∷ ys) i c j = verdict_stays ys (i + 1) c j

onward_end : (t : Step) (i : ℕ) (bs : List Symbol) → ((s : State) → end_of (run (i + 1) s bs) ≡ verdict_from (i + 1) (Going s) bs) → end_of (onward t (λ s. run (i + 1) s bs)) ≡ verdict_from (i + 1) (settle t) bs
onward_end (Go s) i bs f = f s
onward_end (Lettered s) i bs f = end_says (letter s.kind) (run (i + 1) s bs) ∙ f s
onward_end (Shut s) i bs f = end_says close (run (i + 1) s bs) ∙ f s
onward_end (Bad c j) i bs f = sym (verdict_stays bs (i + 1) c j)

pick_end : (e : Bool) (x : Item) (t u : Step) (i : ℕ) (bs : List Symbol) → ((s : State) → end_of (run (i + 1) s bs) ≡ verdict_from (i + 1) (Going s) bs)
    → end_of (pick e (says x (onward t (λ s. run (i + 1) s bs))) (onward u (λ s. run (i + 1) s bs))) ≡ verdict_from (i + 1) (pick e (settle t) (settle u)) bs
pick_end true x t u i bs f = end_says x (onward t (λ s. run (i + 1) s bs)) ∙ onward_end t i bs f
pick_end false x t u i bs f = onward_end u i bs f

last_end : (e : Bool) (s : State) (i : ℕ) → end_of (last_of e s i) ≡ pick e (last AtGap (next s.kind s.have) i) (last s.place s.have i)
last_end true s i = refl
last_end false s i = refl

pub verdict_is : (bs : List Symbol) (i : ℕ) (s : State) → end_of (run i s bs) ≡ verdict_from i (Going s) bs
unfolding run verdict_from
verdict_is [] i s = last_end (in_number s.place) s i
verdict_is (b ∷ bs) i s = pick_end (ended s.place b) (number (number_of s.num)) (moved (finished s) i b) (moved s i b) i bs (λ t. verdict_is bs (i + 1) t)
