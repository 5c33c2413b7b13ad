-- What an import leaves is what the commands read so far mean (`import_stands`); so it accepts the texts of the language and no others, and draws their meaning
-- (`text_accepted`, `accepted_text`). Assumes nothing.
use Rattle.std.specs.Prelude.{◌≡◌, Bool, ℕ, ◌+◌, eqb, length, Ok, Err}
use Rattle.std.proofs.Math.Path.{refl, ap, subst}
use Rattle.std.proofs.Common.{sym, ◌∙◌, arith, eqb-true, eq-eqb}
use Rattle.std.proofs.Math.Bool.{true, false}
use mathlib.Core.List.{List, [], ◌∷◌, ◌++◌, append_assoc}
use Rattle.pattern.specs.Commands.{Command, end, Answer, Outcome, outcome, number_of}
use Rattle.pattern.specs.Encoded.{zero_ok, not_zero}
use Rattle.pattern.specs.declared.pen.Fault.{Fault as DrawFault}
use Rattle.pattern.specs.Meaning.{next, after, kept}
use Rattle.pattern.specs.Meaning.{accepted as kept_of}
use Rattle.pattern.specs.declared.pen.Spot.{Spot}
use Rattle.pattern.specs.declared.pen.Pen.{Pen}
use Rattle.svg.specs.declared.steps.Kind.{Kind}
use Rattle.svg.specs.declared.steps.Kind.TheVariants.{Move}
use Rattle.svg.specs.declared.steps.Fault.{Fault}
use Rattle.svg.specs.declared.steps.Fault.TheVariants.{NotInLanguage, TooLong}
use Rattle.svg.specs.Machine.{Verdict, Accepted as Text, Refused}
use Rattle.svg.specs.declared.reader.Refusal.{Refusal}
use Rattle.svg.specs.declared.reader.Refusal.TheVariants.{Faulty, Undrawn}
use Rattle.svg.specs.Language.{pick, arity, behind, Decimal, Item, letter, number, close, symbols, commands_at, Means}
use Rattle.svg.specs.Language.{Command as Svg, Text as IsText, draw as group}
use Rattle.svg.specs.Machine.{Run, over, said, runs, begun, num}
use Rattle.svg.specs.Fold.{answer}
use Rattle.svg.specs.Unique.{reads}
use Rattle.svg.specs.Exactly.{accepted_is_text}
use Rattle.svg.specs.Said.{items_in, end_in, answer_in, run_is}
use Rattle.svg.specs.Meaning.{home_of, commands_of, drawn_from, origin, meaning, unless_refused, all_of}
use Rattle.svg.specs.Import.{fault_number, Ending, report_of, Told, stop, on_answer, go_on, import_from, import_of}

-- ---- commands one after the other

on : {A : Type 0} (P : A → Type 0) (t : Bool) (x y : A) → (t ≡ true → P x) → (t ≡ false → P y) → P (pick t x y)
on P true x y f g = f refl
on P false x y f g = g refl

all_refused : (cs : List Command) (o : Outcome) → eqb (number_of o.answer) 0 ≡ false → all_of o cs ≡ o
unfolding all_of
all_refused [] o e = refl
all_refused (c ∷ cs) o e = ap (λ (t : Bool). all_of (pick t (next o c) o) cs) e ∙ all_refused cs o e

all_append : (cs ds : List Command) (o : Outcome) → all_of o (cs ++ ds) ≡ all_of (all_of o cs) ds
unfolding all_of
all_append [] ds o = refl
all_append (c ∷ cs) ds o = all_append cs ds (unless_refused o c)

all_first : (c : Command) (cs : List Command) (o : Outcome) → number_of o.answer ≡ 0 → all_of o (c ∷ cs) ≡ all_of (next o c) cs
unfolding all_of
all_first c cs o z = ap (λ (t : Bool). all_of (pick t (next o c) o) cs) (eq-eqb (number_of o.answer) 0 z)

first_drawn : (cs : List Command) (o : Outcome) → number_of (all_of o cs).answer ≡ 0 → number_of o.answer ≡ 0
first_drawn cs o z = go (eqb (number_of o.answer) 0) refl
  where
    go : (t : Bool) → eqb (number_of o.answer) 0 ≡ t → number_of o.answer ≡ 0
    go true e = eqb-true (number_of o.answer) 0 e
    go false e = sym (ap (λ (x : Outcome). number_of x.answer) (all_refused cs o e)) ∙ z

-- where none is refused all are accepted
pub all_kept : (cs : List Command) (o : Outcome) → number_of o.answer ≡ 0 → number_of (all_of o cs).answer ≡ 0 → kept_of o cs ≡ cs
unfolding all_of kept_of kept
all_kept [] o z e = refl
all_kept (c ∷ cs) o z e =
    let z' = ap (λ (x : Outcome). number_of x.answer) (sym (all_first c cs o z)) ∙ e in
    let n = first_drawn cs (next o c) z' in
    ap (λ (t : Bool). kept t c (kept_of (next o c) cs)) (eq-eqb (number_of (next o c).answer) 0 n) ∙ ap (λ (ds : List Command). c ∷ ds) (all_kept cs (next o c) n z')

-- and they are simply one after the other
pub all_after : (cs : List Command) (o : Outcome) → number_of o.answer ≡ 0 → number_of (all_of o cs).answer ≡ 0 → all_of o cs ≡ after o cs
unfolding all_of after
all_after [] o z e = refl
all_after (c ∷ cs) o z e =
    let f = all_first c cs o z in
    let z' = ap (λ (x : Outcome). number_of x.answer) (sym f) ∙ e in
    f ∙ all_after cs (next o c) (first_drawn cs (next o c) z') z'

-- ---- what an import leaves

-- how it ended, as `pattern`'s answer to the commands drawn and the verdict on the text say
pub data Ends : Ending → Answer → Verdict → Type 0 where
  accepted : Ends (Ok tt) (Ok tt) Text
  faulty : (f : Fault) (i : ℕ) → Ends (Err (Faulty f i)) (Ok tt) (Refused f i)
  undrawn : (f : DrawFault) (i : ℕ) (v : Verdict) → Ends (Err (Undrawn f i)) (Err f) v

-- the pen and the buffers are what the commands left that were drawn
pub record Stands (t : Told) (o : Outcome) (v : Verdict) : Type 0 where
  pub same : t ≡ stop t.ending o
  pub ends : Ends t.ending o.answer v

abbrev end_for : Verdict → List Command
end_for Text = end ∷ []
end_for (Refused f i) = []

-- what the commands that were read mean, and behind a whole text its end
abbrev pub read_so_far : Kind → List Decimal → Spot → Bool → Run → List Command
read_so_far k p home shut r = drawn_from home shut (commands_at k p (items_in r)) ++ end_for (end_in r)

number_is : (o x : Outcome) (e : Ending) (v : Verdict) → o ≡ x → Stands (stop e o) o v → Stands (stop e o) x v
number_is o x e v f h = subst (λ (x : Outcome). Stands (stop e o) x v) f h

refused_stands : (o : Outcome) (cs : List Command) (f : DrawFault) (i : ℕ) (v : Verdict) → o.answer ≡ Err f → Stands (stop (Err (Undrawn f i)) o) (all_of o cs) v
unfolding number_of
refused_stands o cs f i v e =
    number_is o (all_of o cs) _ v (sym (all_refused cs o (ap (λ (a : Answer). eqb (number_of a) 0) e ∙ not_zero f)))
    (record { same = refl; ends = subst (λ (a : Answer). Ends (Err (Undrawn f i)) a v) (sym e) (undrawn f i v) })

-- drawn, and what follows where it was accepted
goes_stands : (o : Outcome) (i : ℕ) (cs : List Command) (t : Told) (v : Verdict) → (number_of o.answer ≡ 0 → Stands t (all_of o cs) v) → Stands (go_on o i t) (all_of o cs) v
unfolding number_of
goes_stands o i cs t v f = go o.answer refl
  where
    go : (a : Answer) → o.answer ≡ a → Stands (on_answer a o i t) (all_of o cs) v
    go (Ok x) e = f (ap number_of e)
    go (Err g) e = refused_stands o cs g i v e

end_stands : (o : Outcome) (e : Ending) (v : Verdict) → number_of o.answer ≡ 0 → Ends e (Ok tt) v → Stands (stop e o) o v
end_stands o e v z h = record { same = refl; ends = subst (λ (a : Answer). Ends e a v) (sym (zero_ok o.answer z)) h }

-- a number, by whether its group is full
module _ (n i : ℕ) (r : Run) (k : Kind) (xs : List Decimal) (home : Spot) (shut : Bool) (o : Outcome) (z : number_of o.answer ≡ 0)
    (IH : (k : Kind) (p : List Decimal) (home : Spot) (shut : Bool) (o : Outcome) → number_of o.answer ≡ 0 → Stands (import_from n k p home shut o r) (all_of o (read_so_far k p home shut r)) (end_in r)) where
  abbrev o' : Outcome
  o' = all_of o (commands_of k xs home shut)

  abbrev rest : List Command
  rest = read_so_far (behind k) [] (home_of k xs home) false r

  number_stands : (t : Bool)
      → Stands (pick t (go_on o' i (import_from n (behind k) [] (home_of k xs home) false o' r)) (import_from n k xs home shut o r))
      (all_of o (drawn_from home shut (pick t (group k xs ∷ commands_at (behind k) [] (items_in r)) (commands_at k xs (items_in r))) ++ end_for (end_in r))) (end_in r)
  unfolding drawn_from
  number_stands true =
      subst (λ (y : Outcome). Stands (go_on o' i (import_from n (behind k) [] (home_of k xs home) false o' r)) y (end_in r))
      (sym (ap (all_of o) (append_assoc (commands_of k xs home shut) (drawn_from (home_of k xs home) false (commands_at (behind k) [] (items_in r))) (end_for (end_in r))) ∙ all_append (commands_of k xs home shut) rest o))
      (goes_stands o' i rest _ (end_in r) (λ e. IH (behind k) [] (home_of k xs home) false o' e))
  number_stands false = IH k xs home shut o z

pub stands : (r : Run) (n : ℕ) (k : Kind) (p : List Decimal) (home : Spot) (shut : Bool) (o : Outcome) → number_of o.answer ≡ 0
    → Stands (import_from n k p home shut o r) (all_of o (read_so_far k p home shut r)) (end_in r)
unfolding import_from commands_at drawn_from all_of
stands (over Text) n k p home shut o z =
    subst (λ (x : Outcome). Stands (go_on (next o end) n (stop (Ok tt) (next o end))) x Text) (sym (all_first end [] o z))
    (goes_stands (next o end) n [] (stop (Ok tt) (next o end)) Text (λ e. end_stands (next o end) (Ok tt) Text e accepted))
stands (over (Refused f i)) n k p home shut o z = end_stands o (Err (Faulty f i)) (Refused f i) z (faulty f i)
stands (said (letter l) i r) n k p home shut o z = stands r n l [] home shut o z
stands (said close i r) n k p home shut o z =
    subst (λ (x : Outcome). Stands (go_on (next o end) i (import_from n k [] home true (next o end) r)) x (end_in r)) (sym (all_first end (read_so_far k [] home true r) o z))
    (goes_stands (next o end) i (read_so_far k [] home true r) _ (end_in r) (λ e. stands r n k [] home true (next o end) e))
stands (said (number x) i r) n k p home shut o z =
    number_stands n i r k (p ++ (x ∷ [])) home shut o z (λ k p home shut o z. stands r n k p home shut o z) (eqb (length p + 1) (arity k))

-- a refusal's number is not 0
pub refusal_told : (r : Refusal) → eqb (report_of (Err r)).number 0 ≡ false
unfolding report_of fault_number
refusal_told (Faulty NotInLanguage i) = refl
refusal_told (Faulty TooLong i) = refl
refusal_told (Undrawn f i) = not_zero f

-- ---- texts

abbrev pub run_of : List ℕ → Run
run_of bs = runs 0 begun (symbols bs)

module _ (pen : Pen) (tags points : List ℕ) where
  abbrev pub given : Outcome
  given = outcome (Ok tt) pen tags points

  -- of every text: what stands is the meaning of the commands read so far
  pub import_stands : (bs : List ℕ) → Stands (import_of bs pen tags points) (all_of given (read_so_far Move [] origin false (run_of bs))) (end_in (run_of bs))
  unfolding import_of number_of
  import_stands bs = stands (run_of bs) (length bs) Move [] origin false given refl

  text_run : (bs : List ℕ) (is : List Item) → IsText bs is → answer_in (run_of bs) ≡ answer is Text
  text_run bs is t = sym (run_is (symbols bs) 0 begun) ∙ reads t Move 0 (num false 0 0 0 0) 0

  -- of a text of the language: what stands is its meaning, up to the first command that is refused
  pub text_stands : (bs : List ℕ) (cs : List Svg) → Means bs cs → Stands (import_of bs pen tags points) (all_of given (meaning cs)) Text
  unfolding meaning
  text_stands bs cs m =
      let e = text_run bs m.items m.text in
      let is : items_in (run_of bs) ≡ m.items = cc in
      let v : end_in (run_of bs) ≡ Text = cc in
      subst (λ (v : Verdict). Stands (import_of bs pen tags points) (all_of given (drawn_from origin false cs ++ end_for v)) v) v
      (subst (λ (cs : List Svg). Stands (import_of bs pen tags points) (all_of given (drawn_from origin false cs ++ end_for (end_in (run_of bs)))) (end_in (run_of bs)))
      (ap (commands_at Move []) is ∙ m.commands) (import_stands bs))

  by_ends : (t : Told) (o : Outcome) (v : Verdict) → Stands t o v → number_of o.answer ≡ 0 → v ≡ Text → t ≡ stop (Ok tt) o
  by_ends t o v h z e = h.same ∙ ap (λ (e : Ending). stop e o) (go t.ending o.answer v h.ends (zero_ok o.answer z) e)
    where
      go : (e : Ending) (a : Answer) (v : Verdict) → Ends e a v → a ≡ Ok tt → v ≡ Text → e ≡ Ok tt
      go e a v accepted z q = refl
      go e a v (faulty f i) z q = let y : ◌≡◌ {A = ℕ} 0 1 = cc in absurd (omega arith)
      go e a v (undrawn f i w) z q = let y : ◌≡◌ {A = ℕ} 0 1 = cc in absurd (omega arith)

  -- A text of the language for whose commands there is room is accepted, and what is drawn is its meaning.
  pub text_accepted : (bs : List ℕ) (cs : List Svg) → Means bs cs → number_of (all_of given (meaning cs)).answer ≡ 0 → import_of bs pen tags points ≡ stop (Ok tt) (after given (meaning cs))
  unfolding number_of
  text_accepted bs cs m z = by_ends _ _ Text (text_stands bs cs m) z refl ∙ ap (stop (Ok tt)) (all_after (meaning cs) given refl z)

  whole : (e : Ending) (a : Answer) (v : Verdict) → Ends e a v → e ≡ Ok tt → (number_of a ≡ 0) × (v ≡ Text)
  unfolding number_of
  whole e a v accepted q = (refl, refl)
  whole e a v (faulty f i) q = let y : ◌≡◌ {A = ℕ} 0 1 = cc in absurd (omega arith)
  whole e a v (undrawn f i w) q = let y : ◌≡◌ {A = ℕ} 0 1 = cc in absurd (omega arith)

  -- an accepted text: its commands, and what was drawn
  pub record Imported (bs : List ℕ) : Type 0 where
    pub commands : List Svg
    pub means : Means bs commands
    pub none_refused : number_of (all_of given (meaning commands)).answer ≡ 0
    pub drawn : import_of bs pen tags points ≡ stop (Ok tt) (after given (meaning commands))

  -- What is accepted is a text of the language, and what is drawn is its meaning.
  pub accepted_text : (bs : List ℕ) → (import_of bs pen tags points).ending ≡ Ok tt → Imported bs
  accepted_text bs e =
      let w = whole _ _ _ (import_stands bs).ends e in
      let is = items_in (run_of bs) in
      let m : Means bs (commands_at Move [] is) =
      record { items = is; text = accepted_is_text bs is (run_is (symbols bs) 0 begun ∙ ap (answer is) w.1); commands = refl } in
      let z = whole _ _ _ (text_stands bs (commands_at Move [] is) m).ends e in
      record { commands = commands_at Move [] is; means = m; none_refused = z.0; drawn = text_accepted bs (commands_at Move [] is) m z.0 }
