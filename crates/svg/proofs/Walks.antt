-- The loop of the reader: what is left of the text comes to the same. Assumes nothing.
use mathlib.Core.Path.{◌≡◌, refl, sym, ap, ◌∙◌, subst}
use mathlib.Core.Bool.{Bool, true, false, false≢true}
use mathlib.Core.List.{List, ◌∷◌}
use Prim.Native.Nat.{ℕ, suc, ◌+◌, ◌-◌, ◌*◌, ◌≤◌, ◌<◌}
use native.Mathlib.Nat.{le_antisymm}
use native.Mathlib.Numerals.{add-one}
use native.Mathlib.Omega.{arith}
use lib.Dec.{eqb}
use lib.ListN.{length, drop, get_or}
use lib.Seq.{drop-cons, drop-length}
use Rattle.pattern.specs.declared.pen.Pen.{Pen}
use Rattle.svg.specs.declared.steps.Symbol.{Symbol}
use Rattle.svg.specs.declared.steps.Symbol.TheVariants.{White, Digit}
use Rattle.svg.specs.declared.steps.Place.{Place}
use Rattle.svg.specs.declared.steps.Place.TheVariants.{AtStart, AtLetter, AtSign, InWhole, AtPoint, InFraction, AtGap, AtComma, AtClose}
use Rattle.svg.specs.declared.steps.State.{State}
use Rattle.svg.specs.declared.steps.Step.{Step}
use Rattle.svg.specs.declared.steps.Step.TheVariants.{Go}
use Rattle.svg.specs.declared.hand.Hand.{Hand}
use Rattle.svg.specs.declared.reader.Refusal.{Refusal}
use Rattle.svg.specs.declared.reader.Walk.{Walk}
use Rattle.std.specs.Prelude.{Ok, Err}
use Rattle.pattern.specs.Commands.{Answer}
use Rattle.svg.specs.Language.{pick, arity, symbol_of, mark_of, letter_of, digit_byte, white_byte, symbols}
use Rattle.svg.specs.Machine.{number_of, moved, ended, finished, in_number, digit_of}
use Rattle.svg.specs.Machine.{Sound as SoundState}
use Rattle.svg.specs.Meaning.{word_of}
use Rattle.svg.specs.Hands.{command_by, counted, onward}
use Rattle.svg.specs.Import.{Ending, told, import_of}
use Rattle.svg.specs.Walk.{walk, Way, Left, left, way_of, settled, number_by, act_by, then_step, one_by, last_by, read_into, beginning, Sound}
use Rattle.svg.specs.Stretch.{Onward}
use Rattle.svg.proofs.Reading.{pick_yes, pick_no, digit_bounds}
use Rattle.svg.proofs.Places.{fresh}
use Rattle.svg.proofs.Walking.{SoundLeft, number_sound, one_sound}
use Rattle.svg.proofs.Deals.{stays, import_is}

-- ---- a symbol's digit is below ten

pick_digit : (t : Bool) (x y : Symbol) → digit_of x ≤ 9 → digit_of y ≤ 9 → digit_of (pick t x y) ≤ 9
pick_digit true x y a b = a
pick_digit false x y a b = b

letter_digit : (b : ℕ) → digit_of (letter_of b) ≤ 9
unfolding letter_of
letter_digit b =
    let z : 0 ≤ 9 = omega arith in
    pick_digit (eqb b 77) _ _ z (pick_digit (eqb b 76) _ _ z (pick_digit (eqb b 81) _ _ z (pick_digit (eqb b 67) _ _ z (pick_digit (eqb b 90) _ _ z z))))

mark_digit : (b : ℕ) → digit_of (mark_of b) ≤ 9
unfolding mark_of
mark_digit b =
    let z : 0 ≤ 9 = omega arith in
    pick_digit (eqb b 44) _ _ z (pick_digit (eqb b 43) _ _ z (pick_digit (eqb b 45) _ _ z (pick_digit (eqb b 46) _ _ z (letter_digit b))))

byte_way : (b : ℕ) (t : Bool) → digit_byte b ≡ t → digit_of (pick t (Digit (b - 48)) (pick (white_byte b) White (mark_of b))) ≤ 9
byte_way b true e = let z = (digit_bounds b e).1 in omega arith
byte_way b false e = pick_digit (white_byte b) White (mark_of b) (omega arith) (mark_digit b)

pub byte_digit : (b : ℕ) → digit_of (symbol_of b) ≤ 9
unfolding symbol_of
byte_digit b = byte_way b (digit_byte b) refl

-- ---- the loop

pub record Here (text : List ℕ) (pen₀ : Pen) (tags₀ points₀ : List ℕ) (pen : Pen) (tags points : List ℕ) (w : Walk) (i : ℕ) : Type 0 where
  pub within : i ≤ length text
  pub sound : Sound w
  pub same_tags : length tags ≡ length tags₀
  pub same_points : length points ≡ length points₀
  pub rest : read_into i (left (Ok w) pen tags points) (symbols (drop i text)) ≡ import_of text pen₀ tags₀ points₀

-- ---- behind a number

state_or : State → Left → State
state_or s (left (Ok v) pen tags points) = v.state
state_or s (left (Err r) pen tags points) = s

way_state : (a : Answer) (i : ℕ) (s : State) (h : Hand) (pen : Pen) (tags points : List ℕ) → state_or s (left (way_of a i s h) pen tags points) ≡ s
unfolding state_or
way_state (Ok x) i s h pen tags points = refl
way_state (Err f) i s h pen tags points = refl

either_state : (t : Bool) (s : State) (a b : Left) → state_or s a ≡ s → state_or s b ≡ s → state_or s (pick t a b) ≡ s
either_state true s a b A B = A
either_state false s a b A B = B

number_state : (w v : Walk) (i : ℕ) (pen : Pen) (tags points : List ℕ) (pen' : Pen) (ts ps : List ℕ) → left (Ok v) pen' ts ps ≡ number_by w i pen tags points → v.state ≡ finished w.state
unfolding state_or
number_state w v i pen tags points pen' ts ps k =
    let s = finished w.state in
    let h = counted w.hand (word_of (number_of w.state.num)) in
    let o = command_by h pen tags points in
    ap (state_or s) k
    ∙ either_state (eqb h.have (arity h.kind)) s (settled o i s (onward h)) (left (Ok (walk s h)) pen tags points)
    (way_state o.answer i s (onward h) o.pen o.tags o.points) refl

-- ---- what is left to do: two for each byte, and one for a number that stands there
abbrev at_number : Place → ℕ
at_number p = pick (in_number p) 1 0

abbrev pub to_go : List ℕ → Walk → ℕ → ℕ
to_go text w i = (length text - i) * 2 + at_number w.state.place

at_most : (t : Bool) → pick t 1 0 ≤ 1
at_most true = omega arith
at_most false = omega arith

ended_in : (p : Place) (y : Symbol) → ended p y ≡ true → at_number p ≡ 1
ended_in AtStart y e = absurd (false≢true e)
ended_in AtLetter y e = absurd (false≢true e)
ended_in AtSign y e = absurd (false≢true e)
ended_in InWhole y e = refl
ended_in AtPoint y e = absurd (false≢true e)
ended_in InFraction y e = refl
ended_in AtGap y e = absurd (false≢true e)
ended_in AtComma y e = absurd (false≢true e)
ended_in AtClose y e = absurd (false≢true e)

pub here_start : (text : List ℕ) (pen : Pen) (tags points : List ℕ) (w : Walk) → w ≡ beginning → Here text pen tags points pen tags points w 0
here_start text pen tags points w e =
    record {
      within = omega arith;
      sound = subst (λ (w : Walk). Sound w) (sym e) (record { state = record { group = omega arith; held = fresh false 0 }; hand = omega arith });
      same_tags = refl;
      same_points = refl;
      rest = ap (λ (w : Walk). read_into 0 (left (Ok w) pen tags points) (symbols text)) e ∙ import_is text pen tags points;
    }

pub unread : (text : List ℕ) (i : ℕ) (y : Symbol) → y ≡ symbol_of (get_or text i 0) → i < length text → symbols (drop i text) ≡ y ∷ symbols (drop (i + 1) text)
unfolding symbols
unread text i y e l =
    ap symbols (drop-cons text i 0 l)
    ∙ ap (λ (y : Symbol). y ∷ symbols (drop (suc i) text)) (sym e)
    ∙ ap (λ (j : ℕ). y ∷ symbols (drop j text)) (sym (add-one i))

module _ {text : List ℕ} {pen₀ : Pen} {tags₀ points₀ : List ℕ} {pen : Pen} {tags points : List ℕ} {w : Walk} {i : ℕ} (h : Here text pen₀ tags₀ points₀ pen tags points w i) where
  -- the step that was taken, and what is left then
  read_one : (v : Way) (pen' : Pen) (ts ps : List ℕ) (y : Symbol) → i < length text → y ≡ symbol_of (get_or text i 0) → left v pen' ts ps ≡ one_by w i y pen tags points
      → read_into (i + 1) (left v pen' ts ps) (symbols (drop (i + 1) text)) ≡ import_of text pen₀ tags₀ points₀
  unfolding read_into
  read_one v pen' ts ps y l e o =
      ap (λ (o : Left). read_into (i + 1) o (symbols (drop (i + 1) text))) o
      ∙ ap (λ (ys : List Symbol). read_into i (left (Ok w) pen tags points) ys) (sym (unread text i y e l))
      ∙ h.rest

  pub here_step : (v : Walk) (q : Way) (pen' : Pen) (ts ps : List ℕ) (y : Symbol) → i < length text → y ≡ symbol_of (get_or text i 0) → length ts ≡ length tags → length ps ≡ length points
      → left q pen' ts ps ≡ one_by w i y pen tags points → q ≡ Ok v → Here text pen₀ tags₀ points₀ pen' ts ps v (i + 1)
  here_step v q pen' ts ps y l e st sp o f =
      record {
        within = omega arith;
        sound = subst (λ (o : Left). SoundLeft o) (sym o ∙ ap (λ (q : Way). left q pen' ts ps) f) (one_sound w i y pen tags points h.sound (subst (λ (y : Symbol). digit_of y ≤ 9) (sym e) (byte_digit (get_or text i 0))));
        same_tags = st ∙ h.same_tags;
        same_points = sp ∙ h.same_points;
        rest = ap (λ (q : Way). read_into (i + 1) (left q pen' ts ps) (symbols (drop (i + 1) text))) (sym f) ∙ read_one q pen' ts ps y l e o;
      }

  pub here_over : (r : Refusal) (q : Way) (pen' : Pen) (ts ps : List ℕ) (y : Symbol) → i < length text → y ≡ symbol_of (get_or text i 0) → left q pen' ts ps ≡ one_by w i y pen tags points → q ≡ Err r
      → told (Err r) pen' ts ps ≡ import_of text pen₀ tags₀ points₀
  here_over r q pen' ts ps y l e o f =
      sym (stays (symbols (drop (i + 1) text)) (i + 1) r pen' ts ps)
      ∙ ap (λ (q : Way). read_into (i + 1) (left q pen' ts ps) (symbols (drop (i + 1) text))) (sym f)
      ∙ read_one q pen' ts ps y l e o

  pub here_end : (q : Ending) (pen' : Pen) (ts ps : List ℕ) → length text ≤ i → told q pen' ts ps ≡ last_by w i pen tags points → told q pen' ts ps ≡ import_of text pen₀ tags₀ points₀
  unfolding read_into symbols
  here_end q pen' ts ps l o =
      o
      ∙ ap (λ (ys : List Symbol). read_into i (left (Ok w) pen tags points) ys) (sym (ap symbols (ap (λ (j : ℕ). drop j text) (le_antisymm h.within l) ∙ drop-length text)))
      ∙ h.rest

  -- a byte that ends a number is looked at again, behind the number
  pub here_number : (v : Walk) (q : Way) (pen' : Pen) (ts ps : List ℕ) (y : Symbol) → i < length text → y ≡ symbol_of (get_or text i 0) → ended w.state.place y ≡ true → length ts ≡ length tags → length ps ≡ length points
      → left q pen' ts ps ≡ number_by w i pen tags points → q ≡ Ok v → Here text pen₀ tags₀ points₀ pen' ts ps v i
  unfolding read_into
  here_number v q pen' ts ps y l e n st sp o f =
      let k : left (Ok v) pen' ts ps ≡ number_by w i pen tags points = ap (λ (q : Way). left q pen' ts ps) (sym f) ∙ o in
      let gap : ended v.state.place y ≡ false = ap (λ (s : State). ended s.place y) (number_state w v i pen tags points pen' ts ps k) in
      let again : one_by v i y pen' ts ps ≡ one_by w i y pen tags points =
      pick_no _ _ _ gap ∙ ap (λ (o : Left). then_step o i y) k ∙ sym (pick_yes _ _ _ n) in
      record {
        within = h.within;
        sound = subst (λ (o : Left). SoundLeft o) (sym k) (number_sound w i pen tags points h.sound);
        same_tags = st ∙ h.same_tags;
        same_points = sp ∙ h.same_points;
        rest =
            ap (λ (ys : List Symbol). read_into i (left (Ok v) pen' ts ps) ys) (unread text i y e l)
            ∙ ap (λ (o : Left). read_into (i + 1) o (symbols (drop (i + 1) text))) again
            ∙ ap (λ (ys : List Symbol). read_into i (left (Ok w) pen tags points) ys) (sym (unread text i y e l))
            ∙ h.rest;
      }

  pub over_number : (r : Refusal) (q : Way) (pen' : Pen) (ts ps : List ℕ) (y : Symbol) → i < length text → y ≡ symbol_of (get_or text i 0) → ended w.state.place y ≡ true → left q pen' ts ps ≡ number_by w i pen tags points → q ≡ Err r
      → told (Err r) pen' ts ps ≡ import_of text pen₀ tags₀ points₀
  over_number r q pen' ts ps y l e n o f =
      let k : left (Err r) pen' ts ps ≡ number_by w i pen tags points = ap (λ (q : Way). left q pen' ts ps) (sym f) ∙ o in
      here_over r (Err r) pen' ts ps y l e (rw n (ap (λ (o : Left). then_step o i y) k)) refl

  -- what a byte does that ends none
  module _ (y : Symbol) (n : ended w.state.place y ≡ false) (taken : Step) (t : taken ≡ moved w.state i y) where
    pub as_one : (q : Way) (pen' : Pen) (ts ps : List ℕ) → left q pen' ts ps ≡ act_by w.hand pen i taken tags points → left q pen' ts ps ≡ one_by w i y pen tags points
    as_one q pen' ts ps o = o ∙ rw (n, t)

    here_go : (s : State) → i < length text → y ≡ symbol_of (get_or text i 0) → taken ≡ Go s → Here text pen₀ tags₀ points₀ pen tags points (walk s w.hand) (i + 1)
    here_go s l e g = here_step (walk s w.hand) (Ok (walk s w.hand)) pen tags points y l e refl refl (as_one (Ok (walk s w.hand)) pen tags points (rw g)) refl

    pub go_sound : (s : State) → i < length text → y ≡ symbol_of (get_or text i 0) → taken ≡ Go s → SoundState s × (i + 1 ≤ length text)
    go_sound s l e g = let here = here_go s l e g in (here.sound.state, here.within)

    -- a byte that is read, and what stands behind it at a stretch
    pub here_on : (s t : State) (j : ℕ) → i < length text → y ≡ symbol_of (get_or text i 0) → taken ≡ Go s → Onward text s (i + 1) t j → Here text pen₀ tags₀ points₀ pen tags points (walk t w.hand) j
    here_on s t j l e g o =
        let here = here_go s l e g in
        record {
          within = o.within;
          sound = record { state = o.sound; hand = here.sound.hand };
          same_tags = here.same_tags;
          same_points = here.same_points;
          rest = sym (o.same w.hand pen tags points) ∙ here.rest;
        }
