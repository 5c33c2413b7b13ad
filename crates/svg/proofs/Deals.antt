-- Byte by byte, with a hand of six numbers, comes to what importing is defined as: item by item, with the numbers of a group in a list. Assumes nothing.
use mathlib.Core.Path.{◌≡◌, refl, sym, ap, ◌∙◌}
use mathlib.Core.Bool.{Bool, true, false}
use mathlib.Core.List.{List, [], ◌∷◌, ◌++◌}
use Prim.Native.Nat.{ℕ, suc, ◌+◌}
use native.Mathlib.Omega.{arith}
use borrow.Author.Tests.{eqb-true}
use lib.Dec.{eqb}
use lib.ListN.{length, length-append}
use Rattle.pattern.specs.Commands.{Command, move, end, Answer, Outcome, outcome, number_of}
use Rattle.pattern.specs.Meaning.{next}
use Rattle.pattern.specs.declared.pen.Spot.{Spot}
use Rattle.pattern.specs.declared.pen.Pen.{Pen}
use Rattle.svg.specs.declared.steps.Kind.{Kind}
use Rattle.svg.specs.declared.steps.Kind.TheVariants.{Move, Line, Quad, Cubic}
use Rattle.svg.specs.declared.steps.Symbol.{Symbol}
use Rattle.svg.specs.declared.steps.Place.TheVariants.{AtGap}
use Rattle.svg.specs.declared.steps.State.{State}
use Rattle.svg.specs.declared.steps.Step.{Step}
use Rattle.svg.specs.declared.steps.Step.TheVariants.{Go, Lettered, Shut, Bad}
use Rattle.svg.specs.Machine.{Verdict, Accepted as Text, Refused}
use Rattle.svg.specs.declared.hand.Six.{Six}
use Rattle.svg.specs.declared.hand.Hand.{Hand}
use Rattle.svg.specs.declared.reader.Refusal.{Refusal}
use Rattle.svg.specs.declared.reader.Refusal.TheVariants.{Faulty, Undrawn}
use Rattle.std.specs.Prelude.{Ok, Err}
use Rattle.pattern.specs.Encoded.{zero_ok}
use Rattle.svg.specs.Language.{pick, arity, behind, Decimal, number, symbols, next as nextHave}
use Rattle.svg.specs.Machine.{Run, over, said, does, runs, begun, moved, ended, finished, in_number, last, number_of as decimalIn}
use Rattle.svg.specs.Meaning.{word_of, home_of, restart, commands_of, all_of}
use Rattle.svg.specs.Meaning.{command_of as group_of}
use Rattle.svg.specs.Import.{Told, told, on_answer, go_on, import_from, import_of}
use Rattle.svg.specs.Hands.{pushed, hand, six_command, restarts_by, hand_commands, command_by, home_by, lettered, counted, onward, closed}
use Rattle.svg.specs.Walk.{walk, Left, left, way_of, settled, number_with, number_by, act_by, step_by, then_step, over_with, over_by, then_over, read_into, beginning}

-- ---- the last six numbers, and the numbers of a group

push_all : Six → List Decimal → Six
push_all s [] = s
push_all s (x ∷ xs) = push_all (pushed s (word_of x)) xs

push_more : (s : Six) (p : List Decimal) (x : Decimal) → push_all s (p ++ (x ∷ [])) ≡ pushed (push_all s p) (word_of x)
unfolding push_all
push_more s [] x = refl
push_more s (y ∷ p) x = push_more (pushed s (word_of y)) p x

record Holds (h : Hand) (p : List Decimal) : Type 0 where
  base : Six
  count : h.have ≡ length p
  words : h.six ≡ push_all base p

holds_none : (k : Kind) (s : Six) (home : Spot) (shut : Bool) → Holds (hand k 0 s home shut) []
unfolding push_all
holds_none k s home shut = record { base = s; count = refl; words = refl }

holds_more : (h : Hand) (p : List Decimal) (x : Decimal) → Holds h p → Holds (counted h (word_of x)) (p ++ (x ∷ []))
holds_more h p x H =
    record {
      base = H.base;
      count = let c = H.count in simp length-append (omega arith);
      words = ap (λ (s : Six). pushed s (word_of x)) H.words ∙ sym (push_more H.base p x);
    }

-- a full group
full : (k : Kind) (s : Six) (q : List Decimal) → length q ≡ arity k → six_command k (push_all s q) ≡ group_of k q
unfolding push_all
full Move s [] e = absurd (omega arith)
full Move s (a ∷ []) e = absurd (omega arith)
full Move s (a ∷ b ∷ []) e = refl
full Move s (a ∷ b ∷ c ∷ q) e = absurd (omega arith)
full Line s [] e = absurd (omega arith)
full Line s (a ∷ []) e = absurd (omega arith)
full Line s (a ∷ b ∷ []) e = refl
full Line s (a ∷ b ∷ c ∷ q) e = absurd (omega arith)
full Quad s [] e = absurd (omega arith)
full Quad s (a ∷ []) e = absurd (omega arith)
full Quad s (a ∷ b ∷ []) e = absurd (omega arith)
full Quad s (a ∷ b ∷ c ∷ []) e = absurd (omega arith)
full Quad s (a ∷ b ∷ c ∷ d ∷ []) e = refl
full Quad s (a ∷ b ∷ c ∷ d ∷ f ∷ q) e = absurd (omega arith)
full Cubic s [] e = absurd (omega arith)
full Cubic s (a ∷ []) e = absurd (omega arith)
full Cubic s (a ∷ b ∷ []) e = absurd (omega arith)
full Cubic s (a ∷ b ∷ c ∷ []) e = absurd (omega arith)
full Cubic s (a ∷ b ∷ c ∷ d ∷ []) e = absurd (omega arith)
full Cubic s (a ∷ b ∷ c ∷ d ∷ f ∷ []) e = absurd (omega arith)
full Cubic s (a ∷ b ∷ c ∷ d ∷ f ∷ g ∷ []) e = refl
full Cubic s (a ∷ b ∷ c ∷ d ∷ f ∷ g ∷ i ∷ q) e = absurd (omega arith)

home_full : (k : Kind) (s : Six) (q : List Decimal) (home : Spot) → length q ≡ arity k → home_by k (push_all s q) home ≡ home_of k q home
unfolding push_all
home_full Move s [] home e = absurd (omega arith)
home_full Move s (a ∷ []) home e = absurd (omega arith)
home_full Move s (a ∷ b ∷ []) home e = refl
home_full Move s (a ∷ b ∷ c ∷ q) home e = absurd (omega arith)
home_full Line s q home e = refl
home_full Quad s q home e = refl
home_full Cubic s q home e = refl

with_restart : (k : Kind) (shut : Bool) (home : Spot) (c : Command) → pick (restarts_by k shut) (move home ∷ c ∷ []) (c ∷ []) ≡ restart k shut home ++ (c ∷ [])
with_restart Move shut home c = refl
with_restart Line true home c = refl
with_restart Line false home c = refl
with_restart Quad true home c = refl
with_restart Quad false home c = refl
with_restart Cubic true home c = refl
with_restart Cubic false home c = refl

hand_full : (h : Hand) (q : List Decimal) → Holds h q → length q ≡ arity h.kind → hand_commands h ≡ commands_of h.kind q h.home h.shut
hand_full h q H e =
    with_restart h.kind h.shut h.home (six_command h.kind h.six)
    ∙ ap (λ (c : Command). restart h.kind h.shut h.home ++ (c ∷ [])) (ap (six_command h.kind) H.words ∙ full h.kind H.base q e)

-- ---- outcomes

accepted : (o : Outcome) → number_of o.answer ≡ 0 → outcome (Ok tt) o.pen o.tags o.points ≡ o
accepted o e = ap (λ (a : Answer). outcome a o.pen o.tags o.points) (sym (zero_ok o.answer e))

command_is : (h : Hand) (q : List Decimal) (o : Outcome) → number_of o.answer ≡ 0 → Holds h q → length q ≡ arity h.kind
    → command_by h o.pen o.tags o.points ≡ all_of o (commands_of h.kind q h.home h.shut)
unfolding command_by
command_is h q o z H e = ap (λ (x : Outcome). all_of x (hand_commands h)) (accepted o z) ∙ ap (λ (cs : List Command). all_of o cs) (hand_full h q H e)

-- ---- a number, whatever follows it

-- `R` is what the text says behind the number, and `F` what the reader makes of it from there
module _ (n i : ℕ) (s : State) (R : Run) (F : Left → Told)
    (on : (h : Hand) (p : List Decimal) (o : Outcome) → Holds h p → number_of o.answer ≡ 0 → F (left (Ok (walk s h)) o.pen o.tags o.points) ≡ import_from n h.kind p h.home h.shut o R)
    (out : (r : Refusal) (pen : Pen) (tags points : List ℕ) → F (left (Err r) pen tags points) ≡ told (Err r) pen tags points) where
  drawn : (o : Outcome) (h : Hand) (p : List Decimal) → Holds h p → F (settled o i s h) ≡ go_on o i (import_from n h.kind p h.home h.shut o R)
  unfolding number_of
  drawn o h p H = go o.answer refl
    where
      go : (a : Answer) → o.answer ≡ a → F (left (way_of a i s h) o.pen o.tags o.points) ≡ on_answer a o i (import_from n h.kind p h.home h.shut o R)
      go (Ok x) e = on h p o H (ap number_of e)
      go (Err f) e = out (Undrawn f i) o.pen o.tags o.points

  number_way : (t : Bool) (h : Hand) (q : List Decimal) (o : Outcome) → Holds h q → number_of o.answer ≡ 0 → eqb (length q) (arity h.kind) ≡ t
      → F (pick t (settled (command_by h o.pen o.tags o.points) i s (onward h)) (left (Ok (walk s h)) o.pen o.tags o.points))
      ≡ pick t
      (let o' = all_of o (commands_of h.kind q h.home h.shut) in go_on o' i (import_from n (behind h.kind) [] (home_of h.kind q h.home) false o' R))
      (import_from n h.kind q h.home h.shut o R)
  number_way true h q o H z e =
      let l = eqb-true (length q) (arity h.kind) e in
      let o' = all_of o (commands_of h.kind q h.home h.shut) in
      ap (λ (x : Outcome). F (settled x i s (onward h))) (command_is h q o z H l)
      ∙ drawn o' (onward h) [] (holds_none _ _ _ _)
      ∙ ap (λ (home : Spot). go_on o' i (import_from n (behind h.kind) [] home false o' R)) (ap (λ (x : Six). home_by h.kind x h.home) H.words ∙ home_full h.kind H.base q h.home l)
  number_way false h q o H z e = on h q o H z

  numbered : (h : Hand) (p : List Decimal) (x : Decimal) (o : Outcome) → Holds h p → number_of o.answer ≡ 0
      → F (number_with (counted h (word_of x)) s o.pen i o.tags o.points) ≡ import_from n h.kind p h.home h.shut o (said (number x) i R)
  unfolding import_from
  numbered h p x o H z =
      let K = holds_more h p x H in
      ap (λ (m : ℕ). F (pick (eqb m (arity h.kind)) (settled (command_by (counted h (word_of x)) o.pen o.tags o.points) i s (onward (counted h (word_of x)))) (left (Ok (walk s (counted h (word_of x)))) o.pen o.tags o.points))) K.count
      ∙ number_way (eqb (length (p ++ (x ∷ []))) (arity h.kind)) (counted h (word_of x)) (p ++ (x ∷ [])) o K z refl
      ∙ ap (λ (m : ℕ). pick (eqb m (arity h.kind))
      (let o' = all_of o (commands_of h.kind (p ++ (x ∷ [])) h.home h.shut) in go_on o' i (import_from n (behind h.kind) [] (home_of h.kind (p ++ (x ∷ [])) h.home) false o' R))
      (import_from n h.kind (p ++ (x ∷ [])) h.home h.shut o R)) (length-append p (x ∷ []))

-- ---- the rest of a text

pub stays : (ys : List Symbol) (i : ℕ) (r : Refusal) (pen : Pen) (tags points : List ℕ) → read_into i (left (Err r) pen tags points) ys ≡ told (Err r) pen tags points
unfolding read_into
stays [] i r pen tags points = refl
stays (y ∷ ys) i r pen tags points = stays ys (i + 1) r pen tags points

abbrev Deals : ℕ → ℕ → List Symbol → Type 0
Deals n i ys = (s : State) (h : Hand) (p : List Decimal) (o : Outcome) → Holds h p → number_of o.answer ≡ 0
    → read_into i (left (Ok (walk s h)) o.pen o.tags o.points) ys ≡ import_from n h.kind p h.home h.shut o (runs i s ys)

module _ (n i : ℕ) (ys : List Symbol) (IH : Deals n (i + 1) ys) where
  act_deals : (y : Step) (h : Hand) (p : List Decimal) (o : Outcome) → Holds h p → number_of o.answer ≡ 0
      → read_into (i + 1) (act_by h o.pen i y o.tags o.points) ys ≡ import_from n h.kind p h.home h.shut o (does y i (λ t. runs (i + 1) t ys))
  unfolding import_from
  act_deals (Go s) h p o H z = IH s h p o H z
  act_deals (Lettered s) h p o H z = IH s (lettered h s.kind) [] o (holds_none _ _ _ _) z
  act_deals (Shut s) h p o H z =
      drawn n i s (runs (i + 1) s ys) (λ l. read_into (i + 1) l ys) (λ h p o H z. IH s h p o H z) (λ r pen tags points. stays ys (i + 1) r pen tags points) (next o end) (closed h) [] (holds_none _ _ _ _)
  act_deals (Bad f j) h p o H z = stays ys (i + 1) (Faulty f j) o.pen o.tags o.points

  either : (t : Bool) (y : Symbol) (s : State) (h : Hand) (p : List Decimal) (o : Outcome) → Holds h p → number_of o.answer ≡ 0
      → read_into (i + 1) (pick t (then_step (number_by (walk s h) i o.pen o.tags o.points) i y) (step_by (walk s h) i y o.pen o.tags o.points)) ys
      ≡ import_from n h.kind p h.home h.shut o
      (pick t (said (number (decimalIn s.num)) i (does (moved (finished s) i y) i (λ t. runs (i + 1) t ys))) (does (moved s i y) i (λ t. runs (i + 1) t ys)))
  either true y s h p o H z =
      numbered n i (finished s) (does (moved (finished s) i y) i (λ t. runs (i + 1) t ys)) (λ l. read_into (i + 1) (then_step l i y) ys)
      (λ h p o H z. act_deals (moved (finished s) i y) h p o H z) (λ r pen tags points. stays ys (i + 1) r pen tags points) h p (decimalIn s.num) o H z
  either false y s h p o H z = act_deals (moved s i y) h p o H z

over_deals : (v : Verdict) (n : ℕ) (k : Kind) (p : List Decimal) (home : Spot) (shut : Bool) (o : Outcome) → over_with v o.pen n o.tags o.points ≡ import_from n k p home shut o (over v)
unfolding import_from
over_deals Text n k p home shut o = refl
over_deals (Refused f j) n k p home shut o = refl

last_deals : (t : Bool) (i : ℕ) (s : State) (h : Hand) (p : List Decimal) (o : Outcome) → Holds h p → number_of o.answer ≡ 0
    → pick t (then_over (number_by (walk s h) i o.pen o.tags o.points) i) (over_by (walk s h) i o.pen o.tags o.points)
    ≡ import_from i h.kind p h.home h.shut o
    (pick t (said (number (decimalIn s.num)) i (over (last AtGap (nextHave s.kind s.have) i))) (over (last s.place s.have i)))
last_deals true i s h p o H z =
    numbered i i (finished s) (over (last AtGap (nextHave s.kind s.have) i)) (λ l. then_over l i)
    (λ h p o H z. over_deals (last AtGap (nextHave s.kind s.have) i) i h.kind p h.home h.shut o) (λ r pen tags points. refl) h p (decimalIn s.num) o H z
last_deals false i s h p o H z = over_deals (last s.place s.have i) i h.kind p h.home h.shut o

deals : (ys : List Symbol) (n i : ℕ) → i + length ys ≡ n → Deals n i ys
unfolding read_into runs
deals [] n i e s h p o H z =
    last_deals (in_number s.place) i s h p o H z
    ∙ ap (λ (m : ℕ). import_from m h.kind p h.home h.shut o (runs i s [])) (let f : i ≡ n = omega arith in f)
deals (y ∷ ys) n i e s h p o H z = either n i ys (deals ys n (i + 1) (omega arith)) (ended s.place y) y s h p o H z

length_symbols : (bs : List ℕ) → length (symbols bs) ≡ length bs
unfolding symbols
length_symbols [] = refl
length_symbols (b ∷ bs) = ap suc (length_symbols bs)

pub import_is : (bs : List ℕ) (pen : Pen) (tags points : List ℕ) → read_into 0 (left (Ok beginning) pen tags points) (symbols bs) ≡ import_of bs pen tags points
unfolding import_of number_of
import_is bs pen tags points =
    deals (symbols bs) (length bs) 0 (let l = length_symbols bs in omega arith) begun beginning.hand [] (outcome (Ok tt) pen tags points) (holds_none _ _ _ _) refl
