-- Where a text's command is refused, there was no room for it (`only_room`): every number of a text is finite, and a drawing command finds something open. Assumes nothing.
use Rattle.std.specs.Prelude.{◌≡◌, refl, ◌⊎◌, Bool, true, false, cond, ◌&&◌, List, [], ◌∷◌, ◌++◌, ℕ, zero, suc, ◌+◌, eqb, length, get_or, Ok, Err}
use Rattle.std.proofs.Common.{sym, ap, ◌∙◌, subst, inl, inr, arith, eq-eqb, ne_eqb, lit<, length-append}
use Rattle.std.specs.Float.{binary32}
use Rattle.std.specs.Float.Ieee.{of_bits}
use Rattle.std.specs.Float.Ieee.Scale.{finite}
use Rattle.scene.specs.Reading.{all_finite}
use Rattle.pattern.specs.Commands.{floats_of, words_of, numbers, named, spots, may_draw, place_of, ink_of, Ink, none, end_bit, fits, written, inked, Command, move, end, Answer, Outcome, outcome, number_of}
use Rattle.pattern.specs.Commands.{behind as inkBehind, command_of as drawn_by}
use Rattle.pattern.specs.Meaning.{next}
use Rattle.pattern.specs.declared.pen.Spot.{Spot}
use Rattle.pattern.specs.declared.pen.Open.{Open}
use Rattle.pattern.specs.declared.pen.Open.TheVariants.{Nothing, Moved, Drawing}
use Rattle.pattern.specs.declared.pen.Place.{Place}
use Rattle.pattern.specs.declared.pen.Pen.{Pen}
use Rattle.pattern.specs.Encoded.{zero_ok}
use Rattle.pattern.specs.declared.pen.Fault.{Fault}
use Rattle.pattern.specs.declared.pen.Fault.TheVariants.{NoMove, NoRoom, NotFinite}
use Rattle.svg.specs.declared.steps.Kind.{Kind}
use Rattle.svg.specs.declared.steps.Kind.TheVariants.{Move, Line, Quad, Cubic}
use Rattle.svg.specs.Machine.{Accepted as Text, Refused}
use Rattle.svg.specs.declared.reader.Refusal.TheVariants.{Faulty, Undrawn}
use Rattle.svg.specs.Language.{pick, arity, behind, symbols, Decimal, dec, letter, number, close}
use Rattle.svg.specs.Machine.{Run, over, said, runs, begun}
use Rattle.svg.specs.Meaning.{spot_at, command_of, home_of, commands_of, origin, all_of}
use Rattle.svg.specs.Import.{Ending, Told, stop, on_answer, go_on, import_from, import_of}
use Rattle.svg.specs.Finite.{Bounded, word_finite}
use Rattle.svg.specs.Orderly.{Orderly, orderly, not_both}

-- ---- every coordinate is finite

abbrev Whole : ℕ → Type 0
Whole w = finite (of_bits binary32 w) ≡ true

abbrev Wholes : List ℕ → Type 0
Wholes [] = Unit {0}
Wholes (w ∷ ws) = Whole w × Wholes ws

abbrev WholeSpot : Spot → Type 0
WholeSpot p = Whole p.x × Whole p.y

abbrev AllBounded : List Decimal → Type 0
AllBounded [] = Unit {0}
AllBounded (x ∷ xs) = Bounded x × AllBounded xs

numbers_ok : (ws : List ℕ) → Wholes ws → numbers ws ≡ true
unfolding all_finite floats_of
numbers_ok [] h = refl
numbers_ok (w ∷ ws) h = ap (λ (t : Bool). t && numbers ws) h.0 ∙ numbers_ok ws h.1

at_bounded : (xs : List Decimal) (i : ℕ) → AllBounded xs → Bounded (get_or xs i (dec false 0 0))
at_bounded [] i B = lit< tt
at_bounded (x ∷ xs) zero B = B.0
at_bounded (x ∷ xs) (suc i) B = at_bounded xs i B.1

bounded_more : (xs : List Decimal) (x : Decimal) → AllBounded xs → Bounded x → AllBounded (xs ++ (x ∷ []))
bounded_more [] x A B = (B, tt)
bounded_more (y ∷ xs) x A B = (A.0, bounded_more xs x A.1 B)

spot_ok : (xs : List Decimal) (i : ℕ) → AllBounded xs → WholeSpot (spot_at xs i)
spot_ok xs i B = (word_finite (get_or xs i (dec false 0 0)) (at_bounded xs i B), word_finite (get_or xs (i + 1) (dec false 0 0)) (at_bounded xs (i + 1) B))

abbrev WholeSpots : List Spot → Type 0
WholeSpots [] = Unit {0}
WholeSpots (p ∷ ps) = WholeSpot p × WholeSpots ps

words_ok : (ps : List Spot) → WholeSpots ps → Wholes (words_of ps)
unfolding words_of
words_ok [] h = tt
words_ok (p ∷ ps) h = (h.0.0, (h.0.1, words_ok ps h.1))

move_ok : (p : Spot) → WholeSpot p → numbers (named (move p)) ≡ true
unfolding named
move_ok p h = numbers_ok (words_of (p ∷ [])) (words_ok (p ∷ []) (h, tt))

command_ok : (k : Kind) (xs : List Decimal) → AllBounded xs → numbers (named (command_of k xs)) ≡ true
unfolding named spots
command_ok Move xs B = move_ok (spot_at xs 0) (spot_ok xs 0 B)
command_ok Line xs B = numbers_ok (words_of (spot_at xs 0 ∷ [])) (words_ok (spot_at xs 0 ∷ []) (spot_ok xs 0 B, tt))
command_ok Quad xs B = numbers_ok (words_of (spot_at xs 0 ∷ spot_at xs 2 ∷ [])) (words_ok (spot_at xs 0 ∷ spot_at xs 2 ∷ []) (spot_ok xs 0 B, (spot_ok xs 2 B, tt)))
command_ok Cubic xs B =
    numbers_ok (words_of (spot_at xs 0 ∷ spot_at xs 2 ∷ spot_at xs 4 ∷ [])) (words_ok (spot_at xs 0 ∷ spot_at xs 2 ∷ spot_at xs 4 ∷ []) (spot_ok xs 0 B, (spot_ok xs 2 B, (spot_ok xs 4 B, tt))))

home_ok : (k : Kind) (xs : List Decimal) (home : Spot) → AllBounded xs → WholeSpot home → WholeSpot (home_of k xs home)
home_ok Move xs home B h = spot_ok xs 0 B
home_ok Line xs home B h = h
home_ok Quad xs home B h = h
home_ok Cubic xs home B h = h

-- ---- one command

-- accepted, the pen at the place p; or refused with 21
abbrev Goes : Outcome → Place → Type 0
Goes o p = ((number_of o.answer ≡ 0) × (o.pen.place ≡ p)) ⊎ (number_of o.answer ≡ 21)

written_ok : (pen : Pen) (p : Place) (ink : Ink) (tags points : List ℕ) → (number_of (written pen p ink tags points).answer ≡ 0) × ((written pen p ink tags points).pen.place ≡ p)
unfolding written number_of
written_ok pen p none tags points = (refl, refl)
written_ok pen p end_bit tags points = (refl, refl)
written_ok pen p (inkBehind t ws) tags points = (refl, refl)

inked_way : (t : Bool) (pen : Pen) (p : Place) (ink : Ink) (tags points : List ℕ) → Goes (cond t (written pen p ink tags points) (outcome (Err NoRoom) pen tags points)) p
unfolding number_of
inked_way true pen p ink tags points = inl (written_ok pen p ink tags points)
inked_way false pen p ink tags points = inr refl

inked_ok : (pen : Pen) (p : Place) (ink : Ink) (tags points : List ℕ) → Goes (inked pen p ink tags points) p
unfolding inked
inked_ok pen p ink tags points = inked_way (fits pen ink tags points) pen p ink tags points

taken : (t : Bool) (x y : Outcome) → t ≡ true → cond t x y ≡ x
taken t x y e = ap (λ (t : Bool). cond t x y) e

next_ok : (o : Outcome) (c : Command) → may_draw o.pen.place.opened c ≡ true → numbers (named c) ≡ true → Goes (next o c) (place_of o.pen.place c)
unfolding drawn_by
next_ok o c m n =
    subst (λ (x : Outcome). Goes x (place_of o.pen.place c))
    (sym (taken _ _ _ m ∙ taken _ _ _ n))
    (inked_ok o.pen (place_of o.pen.place c) (ink_of o.pen.place c) o.tags o.points)

abbrev IsOpen : Open → Type 0
IsOpen Nothing = ⊥
IsOpen Moved = Unit {0}
IsOpen Drawing = Unit {0}

may_open : (p : Open) (c : Command) → IsOpen p → may_draw p c ≡ true
unfolding may_draw
may_open Nothing c h = absurd h
may_open Moved c h = refl
may_open Drawing c h = refl

may_move : (p : Open) (q : Spot) → may_draw p (move q) ≡ true
unfolding may_draw
may_move Nothing q = refl
may_move Moved q = refl
may_move Drawing q = refl

may_end : (p : Open) → may_draw p end ≡ true
unfolding may_draw
may_end Nothing = refl
may_end Moved = refl
may_end Drawing = refl

-- accepted, and something is open; or 21
abbrev Opens : Outcome → Type 0
Opens o = ((number_of o.answer ≡ 0) × IsOpen o.pen.place.opened) ⊎ (number_of o.answer ≡ 21)

opens_by : (o : Outcome) (p : Place) → IsOpen p.opened → Goes o p → Opens o
opens_by o p h (inl (e, q)) = inl (e, subst (λ (p : Place). IsOpen p.opened) (sym q) h)
opens_by o p h (inr e) = inr e

move_opens : (p : Place) (q : Spot) → IsOpen (place_of p (move q)).opened
unfolding place_of
move_opens p q = tt

command_opens : (k : Kind) (xs : List Decimal) (p : Place) → IsOpen (place_of p (command_of k xs)).opened
unfolding place_of
command_opens Move xs p = tt
command_opens Line xs p = tt
command_opens Quad xs p = tt
command_opens Cubic xs p = tt

moves : (o : Outcome) (q : Spot) → WholeSpot q → Opens (next o (move q))
moves o q h = opens_by (next o (move q)) _ (move_opens o.pen.place q) (next_ok o (move q) (may_move o.pen.place.opened q) (move_ok q h))

draws : (o : Outcome) (k : Kind) (xs : List Decimal) → AllBounded xs → may_draw o.pen.place.opened (command_of k xs) ≡ true → Opens (next o (command_of k xs))
draws o k xs B m = opens_by (next o (command_of k xs)) _ (command_opens k xs o.pen.place) (next_ok o (command_of k xs) m (command_ok k xs B))

end_ok : numbers (named end) ≡ true
unfolding named all_finite floats_of
end_ok = refl

ends : (o : Outcome) → (number_of (next o end).answer ≡ 0) ⊎ (number_of (next o end).answer ≡ 21)
ends o = one (next_ok o end (may_end o.pen.place.opened) end_ok)
  where
    one : Goes (next o end) (place_of o.pen.place end) → (number_of (next o end).answer ≡ 0) ⊎ (number_of (next o end).answer ≡ 21)
    one (inl (e, q)) = inl e
    one (inr e) = inr e

-- ---- the commands of one group

all_one : (o : Outcome) (c : Command) → number_of o.answer ≡ 0 → Opens (next o c) → Opens (all_of o (c ∷ []))
unfolding all_of
all_one o c z h = subst Opens (sym (ap (λ (t : Bool). pick t (next o c) o) (eq-eqb (number_of o.answer) 0 z))) h

-- nothing more is drawn behind a refusal
all_then : (o : Outcome) (c : Command) → Opens o → (number_of o.answer ≡ 0 → IsOpen o.pen.place.opened → Opens (next o c)) → Opens (all_of o (c ∷ []))
unfolding all_of
all_then o c (inl (z, p)) h = all_one o c z (h z p)
all_then o c (inr e) h =
    subst Opens (sym (ap (λ (t : Bool). pick t (next o c) o) (ne_eqb (number_of o.answer) 0 (λ z. let q = e in omega arith)))) (inr e)

all_two : (o : Outcome) (c d : Command) → number_of o.answer ≡ 0 → all_of o (c ∷ d ∷ []) ≡ all_of (next o c) (d ∷ [])
unfolding all_of
all_two o c d z = ap (λ (t : Bool). all_of (pick t (next o c) o) (d ∷ [])) (eq-eqb (number_of o.answer) 0 z)

-- behind Z, or with something open
abbrev Stays : Bool → Outcome → Type 0
Stays shut o = (shut ≡ true) ⊎ IsOpen o.pen.place.opened

module _ (o : Outcome) (xs : List Decimal) (home : Spot) (z : number_of o.answer ≡ 0) (B : AllBounded xs) (H : WholeSpot home) where
  restarted : (k : Kind) → Opens (all_of o (move home ∷ command_of k xs ∷ []))
  restarted k =
      subst Opens (sym (all_two o (move home) (command_of k xs) z))
      (all_then (next o (move home)) (command_of k xs) (moves o home H) (λ e p. draws (next o (move home)) k xs B (may_open (next o (move home)).pen.place.opened (command_of k xs) p)))

  open_draws : (k : Kind) → IsOpen o.pen.place.opened → Opens (all_of o (command_of k xs ∷ []))
  open_draws k p = all_one o (command_of k xs) z (draws o k xs B (may_open o.pen.place.opened (command_of k xs) p))

  drawn_by_lem : (k : Kind) (shut : Bool) → Stays shut o → Opens (all_of o (pick shut (move home ∷ []) [] ++ (command_of k xs ∷ [])))
  drawn_by_lem k true s = restarted k
  drawn_by_lem k false (inl e) = absurd (not_both false e refl)
  drawn_by_lem k false (inr p) = open_draws k p

  group_ok : (k : Kind) (shut : Bool) → (k ≡ Move) ⊎ Stays shut o → Opens (all_of o (commands_of k xs home shut))
  group_ok Move shut s = all_one o (command_of Move xs) z (moves o (spot_at xs 0) (spot_ok xs 0 B))
  group_ok Line shut (inl e) = let y : ◌≡◌ {A = ℕ} 0 1 = cc in absurd (omega arith)
  group_ok Line shut (inr s) = drawn_by_lem Line shut s
  group_ok Quad shut (inl e) = let y : ◌≡◌ {A = ℕ} 0 1 = cc in absurd (omega arith)
  group_ok Quad shut (inr s) = drawn_by_lem Quad shut s
  group_ok Cubic shut (inl e) = let y : ◌≡◌ {A = ℕ} 0 1 = cc in absurd (omega arith)
  group_ok Cubic shut (inr s) = drawn_by_lem Cubic shut s

-- ---- the import

abbrev Room : Ending → Type 0
Room (Ok x) = Unit {0}
Room (Err (Faulty f i)) = Unit {0}
Room (Err (Undrawn f i)) = f ≡ NoRoom

no_room : (f : Fault) → number_of (Err f) ≡ 21 → f ≡ NoRoom
unfolding number_of
no_room NoMove e = absurd (omega (arith, e))
no_room NoRoom e = refl
no_room NotFinite e = absurd (omega (arith, e))

goes_room : (o : Outcome) (i : ℕ) (t : Told) → (number_of o.answer ≡ 0) ⊎ (number_of o.answer ≡ 21) → (number_of o.answer ≡ 0 → Room t.ending) → Room (go_on o i t).ending
unfolding number_of
goes_room o i t s f = go o.answer refl s
  where
    go : (a : Answer) → o.answer ≡ a → (number_of o.answer ≡ 0) ⊎ (number_of o.answer ≡ 21) → Room (on_answer a o i t).ending
    go (Ok x) e s = f (ap number_of e)
    go (Err g) e (inl z) = let y : ◌≡◌ {A = ℕ} 0 1 = let k = zero_ok o.answer z in cc in absurd (omega arith)
    go (Err g) e (inr z) = no_room g (sym (ap number_of e) ∙ z)

-- `b`: a group was full before
record Way (b : Bool) (k : Kind) (p : List Decimal) (home : Spot) (shut : Bool) (o : Outcome) : Type 0 where
  drawn : number_of o.answer ≡ 0
  bounded : AllBounded p
  whole : WholeSpot home
  first : b ≡ false → k ≡ Move
  later : b ≡ true → Stays shut o

ready : (b : Bool) (k : Kind) (shut : Bool) (o : Outcome) → (b ≡ false → k ≡ Move) → (b ≡ true → Stays shut o) → (k ≡ Move) ⊎ Stays shut o
ready true k shut o f g = inr (g refl)
ready false k shut o f g = inl (f refl)

opened_room : (o : Outcome) (i : ℕ) (t : Told) → Opens o → (number_of o.answer ≡ 0 → IsOpen o.pen.place.opened → Room t.ending) → Room (go_on o i t).ending
opened_room o i t (inl (z, p)) f = goes_room o i t (inl z) (λ e. f z p)
opened_room o i t (inr e) f = goes_room o i t (inr e) (λ z. absurd (let q = e in omega arith))

-- a number, by whether its group is full
module _ (n i : ℕ) (r : Run) (IH : (b : Bool) (k : Kind) (p : List Decimal) (home : Spot) (shut : Bool) (o : Outcome) → Orderly r b k (length p) → Way b k p home shut o → Room (import_from n k p home shut o r).ending) where
  number_room : (b : Bool) (k : Kind) (p : List Decimal) (x : Decimal) (home : Spot) (shut : Bool) (o : Outcome) → Orderly (said (number x) i r) b k (length p) → Way b k p home shut o → (t : Bool) → eqb (length p + 1) (arity k) ≡ t
      → Room (pick t
      (go_on (all_of o (commands_of k (p ++ (x ∷ [])) home shut)) i (import_from n (behind k) [] (home_of k (p ++ (x ∷ [])) home) false (all_of o (commands_of k (p ++ (x ∷ [])) home shut)) r))
      (import_from n k (p ++ (x ∷ [])) home shut o r)).ending
  number_room b k p x home shut o R W true e =
      let B : AllBounded (p ++ (x ∷ [])) = bounded_more p x W.bounded R.0 in
      opened_room (all_of o (commands_of k (p ++ (x ∷ [])) home shut)) i _
      (group_ok o (p ++ (x ∷ [])) home W.drawn B W.whole k shut (ready b k shut o W.first W.later))
      (λ z q.
      IH true (behind k) [] (home_of k (p ++ (x ∷ [])) home) false (all_of o (commands_of k (p ++ (x ∷ [])) home shut)) (R.1.0 e)
      (record { drawn = z; bounded = tt; whole = home_ok k (p ++ (x ∷ [])) home B W.whole; first = λ f. absurd (not_both true refl f); later = λ f. inr q }))
  number_room b k p x home shut o R W false e =
      IH b k (p ++ (x ∷ [])) home shut o (subst (Orderly r b k) (sym (length-append p (x ∷ []))) (R.1.1 e))
      (record { drawn = W.drawn; bounded = bounded_more p x W.bounded R.0; whole = W.whole; first = W.first; later = W.later })

room : (r : Run) (n : ℕ) (b : Bool) (k : Kind) (p : List Decimal) (home : Spot) (shut : Bool) (o : Outcome) → Orderly r b k (length p) → Way b k p home shut o → Room (import_from n k p home shut o r).ending
unfolding import_from
room (over Text) n b k p home shut o R W = goes_room (next o end) n (stop (Ok tt) (next o end)) (ends o) (λ z. tt)
room (over (Refused f i)) n b k p home shut o R W = tt
room (said (letter l) i r) n b k p home shut o R W =
    room r n b l [] home shut o R.1 (record { drawn = W.drawn; bounded = tt; whole = W.whole; first = R.0; later = W.later })
room (said close i r) n b k p home shut o R W =
    goes_room (next o end) i _ (ends o)
    (λ z. room r n true k [] home true (next o end) R (record { drawn = z; bounded = tt; whole = W.whole; first = λ f. absurd (not_both true refl f); later = λ f. inl refl }))
room (said (number x) i r) n b k p home shut o R W =
    number_room n i r (λ b k p home shut o R W. room r n b k p home shut o R W) b k p x home shut o R W (eqb (length p + 1) (arity k)) refl

zero_whole : Whole 0
unfolding of_bits
zero_whole = refl

all_room : (bs : List ℕ) (pen : Pen) (tags points : List ℕ) → Room (import_of bs pen tags points).ending
unfolding import_of number_of
all_room bs pen tags points =
    room (runs 0 begun (symbols bs)) (length bs) false Move [] origin false (outcome (Ok tt) pen tags points) (orderly bs)
    (record { drawn = refl; bounded = tt; whole = (zero_whole, zero_whole); first = λ f. refl; later = λ f. absurd (not_both false f refl) })

-- Where a command of a text is refused, it is for want of room: never for a number that is not finite, and never with nothing open.
pub only_room : (bs : List ℕ) (pen : Pen) (tags points : List ℕ) (f : Fault) (i : ℕ) → (import_of bs pen tags points).ending ≡ Err (Undrawn f i) → f ≡ NoRoom
only_room bs pen tags points f i e = subst Room e (all_room bs pen tags points)
