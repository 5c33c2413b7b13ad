-- How drawings follow one another. Assumes nothing.
use Rattle.std.specs.Prelude.{ℕ, ◌*◌, ◌≡◌, refl, Bool, true, false, List, [], ◌∷◌, ◌++◌, Result, Ok, Err, is_err, length}
use Rattle.std.proofs.Common.{ap, sym, ◌∙◌, arith}
use Rattle.std.specs.Result.{IsErrAnd}
use Rattle.std.proofs.Math.Seq.{length-sets}
use Rattle.std.proofs.lemmas.Result.{err_from_is_err_and}
use Rattle.refusals.specs.Laws.{named, number_names}
use Rattle.refusals.specs.declared.Refusal.{Refusal}
use Rattle.spiral.specs.declared.util.Vec2.{Vec2}
use Rattle.spiral.specs.Util.{has_nan}
use Rattle.drawing.specs.Sheet.{Event, line, no_count, no_join, halt, record_of, has_room}
use Rattle.drawing.specs.Page.{Reach, Ink, Page, page, inked, ink_on, ink_event, ink_all, Told, told, told_of, Drew}
use Rattle.drawing.specs.declared.line.Nib.{Nib}
use Rattle.drawing.specs.declared.line.Stopped.{Stopped}

-- ---- what is told determines the answer
answer : List Reach → Told → Ink
answer (b ∷ bs) t = Ok (record { count = t.count; tag = t.tag; path = t.path; reach = b })
answer [] t = halt (named t.number t.end) t.count

page_in : Told → Page
page_in t = page t.words (answer t.reach t)

back : (ws : List ℕ) (d : Ink) → page_in (told ws d) ≡ page ws d
unfolding page_in answer told
back ws (Ok nib) = refl
back ws (Err s) = ap (λ (w : Refusal). page ws (halt w s.count)) (number_names s.why)

-- the contract, as an equation of pages, and back
pub exact : {ws ws' : List ℕ} {ink r : Ink} {es : List Event} → Drew ws ink es ws' r → page ws' r ≡ ink_all (page ws ink) es
exact {ws} {ws'} {ink} {r} {es} h =
    let s = ink_all (page ws ink) es in
    sym (back ws' r) ∙ ap page_in h.is ∙ back s.words s.ink

pub drew : {ws ws' : List ℕ} {ink r : Ink} {es : List Event} → page ws' r ≡ ink_all (page ws ink) es → Drew ws ink es ws' r
drew e = record { is = ap told_of e }

-- ---- a page that stopped takes no more
pub absorbs : (ws : List ℕ) (s : Stopped) (es : List Event) → page ws (Err s) ≡ ink_all (page ws (Err s)) es
unfolding ink_all ink_event
absorbs ws s [] = refl
absorbs ws s (e ∷ es) = absorbs ws s es

pub stays : {ws : List ℕ} {d : Ink} {es : List Event} → is_err d ≡ true → Drew ws d es ws d
stays {d = Ok nib} h = let z : ◌≡◌ {A = ℕ} 0 1 = cc in absurd (omega arith)
stays {ws} {d = Err s} {es} h = drew (absorbs ws s es)

append : (s : Page) (xs ys : List Event) → ink_all s (xs ++ ys) ≡ ink_all (ink_all s xs) ys
unfolding ink_all
append s [] ys = refl
append s (x ∷ xs) ys = append (ink_event s.words s.ink x) xs ys

-- ---- calls in a row
pub nothing : {ws : List ℕ} {ink : Ink} → Drew ws ink [] ws ink
unfolding ink_all
nothing = drew refl

-- what a call left is drawn on by the next one
pub then : {ws ws' ws'' : List ℕ} {ink ink' r : Ink} {xs ys : List Event} → Drew ws ink xs ws' ink' → Drew ws' ink' ys ws'' r → Drew ws ink (xs ++ ys) ws'' r
then {ws} {ink = ink} {xs = xs} {ys = ys} h k = drew (exact k ∙ ap (λ (s : Page). ink_all s ys) (exact h) ∙ sym (append (page ws ink) xs ys))

-- what `?` hands on
pub passed : {A : Type 0} {r : Result A Stopped} {s : Stopped} → IsErrAnd r (λ (e : Stopped). e ≡ s) → r ≡ Err s
passed {r = r} h = let p = err_from_is_err_and r h in p.1 ∙ ap (λ (e : Stopped). Err e) p.2

-- what is drawn with an answer is drawn with what is handed in, where they are one
pub handed : {ws ws' : List ℕ} {ink ink' r : Ink} {es : List Event} → ink ≡ ink' → Drew ws ink' es ws' r → Drew ws ink es ws' r
handed e h = rw e h

-- what stopped before draws nothing and gives the stop back
pub stopped : {ws : List ℕ} {r : Ink} {s : Stopped} (es : List Event) → IsErrAnd r (λ (e : Stopped). e ≡ s) → Drew ws (Err s) es ws r
stopped {ws} {s = s} es k = drew (ap (page ws) (passed k) ∙ absorbs ws s es)

-- a call that stopped is the last one
pub stops : {ws ws' : List ℕ} {ink r : Ink} {s : Stopped} {xs : List Event} (ys : List Event) → Drew ws ink xs ws' (Err s) → IsErrAnd r (λ (e : Stopped). e ≡ s) → Drew ws ink (xs ++ ys) ws' r
stops {xs = xs} ys h k = then h (stopped ys k)

-- the events of the code are those of the definition
pub draws : {ws ws' : List ℕ} {ink r : Ink} {xs ys : List Event} → Drew ws ink xs ws' r → xs ≡ ys → Drew ws ink ys ws' r
draws {ws} {ink = ink} h e = drew (exact h ∙ ap (ink_all (page ws ink)) e)

-- ---- a loop

-- the events es₀, drawn where the loop begins, come to the same as the events es, drawn where it is now
pub record Left (ws₀ : List ℕ) (d₀ : Ink) (es₀ : List Event) (ws : List ℕ) (d : Ink) (es : List Event) : Type 0 where
  pub is : ink_all (page ws d) es ≡ ink_all (page ws₀ d₀) es₀

pub begin : {ws : List ℕ} {d : Ink} {es : List Event} → Left ws d es ws d es
begin = record { is = refl }

module _ {ws₀ ws ws' : List ℕ} {d₀ d d' : Ink} {es₀ es xs : List Event} where
  -- after the loop the rest is drawn
  pub done : Left ws₀ d₀ es₀ ws d es → es ≡ xs → Drew ws d xs ws' d' → Drew ws₀ d₀ es₀ ws' d'
  done l e h = drew (exact h ∙ sym (ap (ink_all (page ws d)) e) ∙ l.is)

  -- a turn draws the first events of what is left
  pub turn : {ys : List Event} → Left ws₀ d₀ es₀ ws d es → es ≡ xs ++ ys → Drew ws d xs ws' d' → Left ws₀ d₀ es₀ ws' d' ys
  turn {ys} l e h =
      record { is = ap (λ (s : Page). ink_all s ys) (exact h) ∙ sym (append (page ws d) xs ys) ∙ sym (ap (ink_all (page ws d)) e) ∙ l.is }

-- a stop ends the loop
pub ends : {ws₀ ws : List ℕ} {d₀ d : Ink} {es₀ es : List Event} → Left ws₀ d₀ es₀ ws d es → is_err d ≡ true → Drew ws₀ d₀ es₀ ws d
ends l h = done l refl (stays h)

pub halts : {ws₀ ws ws' : List ℕ} {d₀ d r : Ink} {s : Stopped} {es₀ es xs : List Event} (ys : List Event) → Left ws₀ d₀ es₀ ws d es → es ≡ xs ++ ys → Drew ws d xs ws' (Err s) → IsErrAnd r (λ (e : Stopped). e ≡ s) → Drew ws₀ d₀ es₀ ws' r
halts ys l e h k = done l e (stops ys h k)

-- ---- the lent words stay as many
stored_length : (s t u : Bool) (ws : List ℕ) (nib : Nib) (p q : Vec2) → length (inked s t u ws nib p q).words ≡ length ws
unfolding inked
stored_length true t u ws nib p q = refl
stored_length false true u ws nib p q = refl
stored_length false false false ws nib p q = refl
stored_length false false true ws nib p q = length-sets ws (nib.count * 6) (record_of nib.path nib.tag p q)

draw_length : (ws : List ℕ) (d : Ink) (e : Event) → length (ink_event ws d e).words ≡ length ws
unfolding ink_event ink_on
draw_length ws (Ok nib) (line p q) = stored_length (has_nan p) (has_nan q) (has_room ws nib.count) ws nib p q
draw_length ws (Ok nib) no_count = refl
draw_length ws (Ok nib) no_join = refl
draw_length ws (Err s) e = refl

all_length : (s : Page) (es : List Event) → length (ink_all s es).words ≡ length s.words
unfolding ink_all
all_length s [] = refl
all_length s (e ∷ es) = all_length (ink_event s.words s.ink e) es ∙ draw_length s.words s.ink e

pub as_many : {ws ws' : List ℕ} {ink r : Ink} {es : List Event} → Drew ws ink es ws' r → length ws' ≡ length ws
as_many {ws} {ink = ink} {es = es} h = ap (λ (s : Page). length s.words) (exact h) ∙ all_length (page ws ink) es
