-- What the parts of the reader find, and how the automaton goes on from there. Assumes nothing.
use Rattle.std.specs.Prelude.{Result, Ok, Err, ◌≡◌, Bool, true, false, ◌&&◌, ℤ, ltb, get_or, drop, set}
use Rattle.std.proofs.Math.Path.{refl, sym, ap}
use Rattle.std.proofs.Common.{subst, ◌∙◌, inl, inr, le_trans, add-zero, add-one, ltb→lt, nltb→le, drop_of_length-le, drop-cons, drop-drop}
use mathlib.Core.List.{List, [], ◌∷◌}
use Prim.{Unit}
use Prim.Native.Nat.{ℕ, zero, suc, ◌+◌, ◌-◌, ◌*◌, ◌/◌, ◌≤◌, ◌<◌}
use Rattle.std.proofs.Math.Nat.{sub-zero}
use native.Mathlib.Omega.{arith}
use Rattle.std.proofs.Math.Dec.{T, eqb, eqb→eq}
use Rattle.std.proofs.Math.ListN.{length}
use Rattle.std.proofs.lemmas.List.Edits.{sets}
use Rattle.std.proofs.Math.Seq.{length-sets}
use Rattle.std.specs.Float.Ieee.Fits.{and_l, and_r}
use borrow.Author.Tests.{lt-ltb, le-ltb, le-leb, lt-leb, eq-eqb, ne_eqb}
use Rattle.laws.specs.Same.{either}
use Rattle.hpgl.specs.Text.{pick}
use Rattle.hpgl.specs.Form.{Line, Pen, up, down, Range, most, range_of, Within}
use Rattle.hpgl.specs.Reading.{dash, digit, other, byte_of, kept, on_digit, on_other, num_step, State, start1, start2, start3, free, pen, first, second, Move, go, drew, bad, outside, up_from, down_from, whole, first_of, second_of, move_of, End, malformed, full, Answer, answer, ending, after, run, read_of, flat, Told, told, back_of, stopped, tell, reading_of}
use Rattle.hpgl.specs.Ranges.{most_few, most_new}
use Rattle.hpgl.specs.Numbers.{Good}
use Rattle.hpgl.specs.declared.Point.{Point}
use Rattle.hpgl.specs.declared.Table.{Table}
use Rattle.hpgl.specs.declared.Table.TheVariants.{New}
use Rattle.hpgl.specs.declared.reading.Num.{Num}
use Rattle.hpgl.specs.declared.reading.Num.TheVariants.{None, Dashed, Naught, Some}
use Rattle.hpgl.specs.declared.reading.NumStep.{NumStep}
use Rattle.hpgl.specs.declared.reading.NumStep.TheVariants.{Goes, Done, Wrong, Beyond}
use Rattle.hpgl.specs.declared.reading.Stand.{Stand}
use Rattle.hpgl.specs.declared.reading.Stand.TheVariants.{Fresh, Lifted, Drawn}
use Rattle.hpgl.specs.declared.reading.ReadError.TheVariants.{Malformed, Full}
use Rattle.hpgl.specs.declared.reading.Fault.{Fault}
use Rattle.hpgl.specs.declared.reading.Fault.TheVariants as fault_is
use Rattle.hpgl.specs.declared.reading.Command.{Command}
use Rattle.hpgl.specs.declared.reading.Command.TheVariants.{Up, Line as Drawing}

-- ---- one byte of a number
module _ (r : Range) where
  pub kept_in : (s : Bool) (w m : ℕ) → m ≡ most r s → w < m → Goes (Some s w) ≡ kept r s w
  unfolding kept
  kept_in s w m e h = rw (sym e, le-leb (suc w) m h)

  pub kept_out : (s : Bool) (w m : ℕ) → m ≡ most r s → m ≤ w → Beyond ≡ kept r s w
  unfolding kept
  kept_out s w m e h = rw (sym e, lt-leb (suc w) m (omega arith))

  pub digit_first : (d : ℕ) → d ≡ 0 → (Goes Naught ≡ on_digit r None d) × (Wrong ≡ on_digit r Dashed d)
  digit_first zero h = (refl, refl)
  digit_first (suc d) h = absurd (let z : ⊥ = omega arith in z)

  pub digit_more : (d : ℕ) → (d ≡ 0 → ⊥) → (kept r false (d - 1) ≡ on_digit r None d) × (kept r true (d - 1) ≡ on_digit r Dashed d)
  digit_more zero h = absurd (h refl)
  digit_more (suc d) h = let e : suc d - 1 ≡ d = omega arith in (ap (kept r false) e, ap (kept r true) e)

pub other_wrong : (n : Num) → Wrong ≡ on_other false n
other_wrong None = refl
other_wrong Dashed = refl
other_wrong Naught = refl
other_wrong (Some s w) = refl

pub good_some : (table : Table) (n : Num) (s : Bool) (w : ℕ) → n ≡ Some s w → Good (range_of table) n → w < 8388608
unfolding Good
good_some table n s w e g = le_trans (rw e at g) (most_few table s)

pub good_new : (table : Table) (n : Num) → Good (range_of table) n → Good (range_of New) n
unfolding Good
good_new table None g = g
good_new table Dashed g = g
good_new table Naught g = g
good_new table (Some s w) g = le_trans g (most_new table s)

module _ (b : ℕ) where
  pub byte_dash : b ≡ 45 → byte_of b ≡ dash
  unfolding byte_of
  byte_dash h = rw (eq-eqb b 45 h)

  module _ (ne : b ≡ 45 → ⊥) where
    pub byte_low : b < 48 → byte_of b ≡ other
    unfolding byte_of
    byte_low h = rw (ne_eqb b 45 ne, lt-ltb b 48 h)

    pub byte_digit : 48 ≤ b → b < 58 → byte_of b ≡ digit (b - 48)
    unfolding byte_of
    byte_digit h k = rw (ne_eqb b 45 ne, le-ltb b 48 h, lt-ltb b 58 k)

    pub byte_high : 48 ≤ b → 58 ≤ b → byte_of b ≡ other
    unfolding byte_of
    byte_high h k = rw (ne_eqb b 45 ne, le-ltb b 48 h, le-ltb b 58 k)

-- what a number, a point or a command is read as
abbrev pub Number : Type 0
Number = Result (ℤ × ℕ) Fault

abbrev pub Place : Type 0
Place = Result (Point × ℕ) Fault

abbrev pub Part : Type 0
Part = Result Command Fault

-- ---- the reader that is set to a table
module _ (table : Table) where
  -- ---- a number's bytes, from a start on
  abbrev pub num_next : ℕ → (Num → Number) → ℕ → NumStep → Number
  num_next start rest at (Goes m) = rest m
  num_next start rest at (Done z) = Ok (z, at)
  num_next start rest at Wrong = Err (fault_is.Wrong at)
  num_next start rest at Beyond = Err (fault_is.Beyond start)

  unfoldable pub num_run : ℕ → ℕ → Num → ℕ → List ℕ → Number
  num_run start e n at [] = Err (fault_is.Wrong at)
  num_run start e n at (b ∷ bs) = num_next start (λ m. num_run start e m (suc at) bs) at (num_step (range_of table) (eqb b e) n (byte_of b))

  abbrev EndsIn : List ℕ → ℕ → Number → Type 0
  EndsIn file start (Ok (z, at)) = (start ≤ at) × (at < length file) × Within (range_of table) z
  EndsIn file start (Err f) = Unit {0}

  pub record Numbered (file : List ℕ) (start e : ℕ) (r : Number) : Type 0 where
    pub is : r ≡ num_run start e None start (drop start file)
    pub inside : EndsIn file start r

  -- the byte behind a number
  pub number_ends : (file : List ℕ) (start e : ℕ) (r : Number) → Numbered file start e r → (z : ℤ) (a : ℕ) → r ≡ Ok (z, a) → (start ≤ a) × (a < length file) × Within (range_of table) z
  number_ends file start e r d z a g = let i : EndsIn file start (Ok (z, a)) = rw g at d.inside in i

  -- what holds before each byte of a number
  pub record Counting (file : List ℕ) (start e : ℕ) (n : Num) (at : ℕ) : Type 0 where
    pub same : num_run start e n at (drop at file) ≡ num_run start e None start (drop start file)
    pub behind : start ≤ at
    pub inside : at ≤ length file
    pub good : Good (range_of table) n

  module _ (file : List ℕ) (start e : ℕ) (n : Num) (at : ℕ) (inv : Counting file start e n at) where
    pub number_short : length file ≤ at → Numbered file start e (Err (fault_is.Wrong (length file)))
    unfolding num_run
    number_short h = subst (λ (k : ℕ). Numbered file start e (Err (fault_is.Wrong k))) (let k : at ≡ length file = omega (arith, h, inv.inside) in k) (record { is = ap (num_run start e n at) (sym (drop_of_length-le file h)) ∙ inv.same; inside = tt })

  -- ---- a number in the automaton: F n is the state that has read n of it, M the move
  module _ (file : List ℕ) (e q : ℕ) (F : Num → State) (M : ℕ → NumStep → Move) (room : ℕ) where
    abbrev numbered : Number → Answer
    numbered (Ok (z, a)) = after (λ m u. run (range_of table) m (suc a) u (drop (suc a) file)) room (M a (Done z))
    numbered (Err f) = answer [] (stopped f)

    -- how the state takes a byte
    pub record Numeric : Type 0 where
      pub moves : (at : ℕ) (n : Num) (b : ℕ) → move_of (range_of table) at (F n) b ≡ M at (num_step (range_of table) (eqb b e) n (byte_of b))
      pub goes : (at : ℕ) (m : Num) → M at (Goes m) ≡ go (F m)
      pub wrong : (at : ℕ) → M at Wrong ≡ bad at
      pub beyond : (at : ℕ) → M at Beyond ≡ outside q
      pub short : (at : ℕ) (n : Num) → ending at (F n) ≡ malformed at

    module _ (f : Numeric) where
      behind : (at b : ℕ) (bs : List ℕ) → drop at file ≡ b ∷ bs → drop (suc at) file ≡ bs
      behind at b bs h = ap (λ (k : ℕ). drop k file) (sym (add-one at)) ∙ sym (drop-drop 1 at file) ∙ ap (drop 1) h

      step : (at b : ℕ) (bs : List ℕ) → drop at file ≡ b ∷ bs → ((n : Num) → run (range_of table) room (suc at) (F n) bs ≡ numbered (num_run q e n (suc at) bs)) → (s : NumStep)
          → after (λ m t. run (range_of table) m (suc at) t bs) room (M at s) ≡ numbered (num_next q (λ m. num_run q e m (suc at) bs) at s)
      unfolding after
      step at b bs h rest (Goes m) = rw (f.goes at m) (rest m)
      step at b bs h rest (Done z) = rw (behind at b bs h)
      step at b bs h rest Wrong = rw (f.wrong at)
      step at b bs h rest Beyond = rw (f.beyond at)

      num_run_lem : (bs : List ℕ) (at : ℕ) (n : Num) → drop at file ≡ bs → run (range_of table) room at (F n) bs ≡ numbered (num_run q e n at bs)
      unfolding run num_run
      num_run_lem [] at n h = ap (answer []) (f.short at n)
      num_run_lem (b ∷ bs) at n h =
          ap (after (λ m t. run (range_of table) m (suc at) t bs) room) (f.moves at n b)
          ∙ step at b bs h (λ m. num_run_lem bs (suc at) m (behind at b bs h)) (num_step (range_of table) (eqb b e) n (byte_of b))

      pub number_run : (r : Number) → Numbered file q e r → run (range_of table) room q (F None) (drop q file) ≡ numbered r
      number_run r d = num_run_lem (drop q file) q None refl ∙ ap numbered (sym d.is)

  -- ---- a point
  abbrev pub placed : List ℕ → ℕ → Stand → Pen → ℕ → Place → Answer
  placed file room c k p (Ok (t, a)) = after (λ m u. run (range_of table) m (suc a) u (drop (suc a) file)) room (whole a c k p t)
  placed file room c k p (Err f) = answer [] (stopped f)

  abbrev PlaceIn : List ℕ → ℕ → Place → Type 0
  PlaceIn file start (Ok (t, a)) = (start ≤ a) × (a < length file)
  PlaceIn file start (Err f) = Unit {0}

  -- from a state of a command: which pen, from where, begun where
  pub record Reaches (file : List ℕ) (start : ℕ) (S : Stand → Pen → ℕ → State) (r : Place) : Type 0 where
    pub says : (room : ℕ) (c : Stand) (k : Pen) (p : ℕ) → run (range_of table) room start (S c k p) (drop start file) ≡ placed file room c k p r
    pub inside : PlaceIn file start r

  module _ (file : List ℕ) (start : ℕ) where
    second_run : (x : ℤ) (r : Number) → Numbered file start 59 r → (room : ℕ) (c : Stand) (k : Pen) (p : ℕ) → run (range_of table) room start (second c k p x start None) (drop start file) ≡ numbered file 59 start (second c k p x start) (λ at s. second_of at c k p x start s) room r
    second_run x r d room c k p = number_run file 59 start (second c k p x start) (λ at s. second_of at c k p x start s) room (unfold move_of second_of in record { moves = λ at n b. refl; goes = λ at m. refl; wrong = λ at. refl; beyond = λ at. refl; short = λ at n. refl }) r d

    first_run : (r : Number) → Numbered file start 44 r → (room : ℕ) (c : Stand) (k : Pen) (p : ℕ) → run (range_of table) room start (first c k p start None) (drop start file) ≡ numbered file 44 start (first c k p start) (λ at s. first_of at c k p start s) room r
    first_run r d room c k p = number_run file 44 start (first c k p start) (λ at s. first_of at c k p start s) room (unfold move_of first_of in record { moves = λ at n b. refl; goes = λ at m. refl; wrong = λ at. refl; beyond = λ at. refl; short = λ at n. refl }) r d

    module _ (x : ℤ) where
      abbrev Second : Place → Type 0
      Second = Reaches file start (λ c k p. second c k p x start None)

      pub y_at : (y : ℤ) (a : ℕ) → Numbered file start 59 (Ok (y, a)) → Second (Ok (record { x = x; y = y }, a))
      unfolding second_of
      y_at y a d = record { says = second_run x (Ok (y, a)) d; inside = (d.inside.0, d.inside.1) }

      pub y_stopped : (f : Fault) → Numbered file start 59 (Err f) → Second (Err f)
      y_stopped f d = record { says = second_run x (Err f) d; inside = tt }

    abbrev First : Place → Type 0
    First = Reaches file start (λ c k p. first c k p start None)

    then_in : (a : ℕ) → start ≤ a → (q : Place) → PlaceIn file (a + 1) q → PlaceIn file start q
    then_in a h (Ok (t, b)) i = (omega (arith, i.0), i.1)
    then_in a h (Err f) i = tt

    pub x_then : (x : ℤ) (a : ℕ) → Numbered file start 44 (Ok (x, a)) → (q : Place) (z : ℤ) → z ≡ x → Reaches file (a + 1) (λ c k p. second c k p z (a + 1) None) q → First q
    unfolding first_of after
    x_then x a d q z e y =
        record {
          says = λ room c k p. rw (sym (add-one a), sym e) at (first_run (Ok (x, a)) d room c k p) ∙ y.says room c k p;
          inside = then_in a d.inside.0 q y.inside;
        }

    pub x_stopped : (f : Fault) → Numbered file start 44 (Err f) → First (Err f)
    x_stopped f d = record { says = first_run (Err f) d; inside = tt }

  -- ---- a command
  abbrev pub commanded : List ℕ → ℕ → ℕ → Part → Answer
  commanded file room p (Ok (Up t next)) = run (range_of table) room next (free (Lifted t)) (drop next file)
  commanded file room p (Ok (Drawing q t next)) = after (λ m u. run (range_of table) m next u (drop next file)) room (drew (record { from = q; to = t }) p (free (Drawn t)))
  commanded file room p (Err f) = answer [] (stopped f)

  abbrev CommandIn : List ℕ → ℕ → Part → Type 0
  CommandIn file at (Ok (Up t next)) = (at < next) × (next ≤ length file)
  CommandIn file at (Ok (Drawing q t next)) = (at < next) × (next ≤ length file)
  CommandIn file at (Err f) = Unit {0}

  pub record Commands (file : List ℕ) (at : ℕ) (A : ℕ → Answer) (r : Part) : Type 0 where
    pub says : (room : ℕ) → A room ≡ commanded file room at r
    pub inside : CommandIn file at r

  -- behind the letter, from where a PU may stand, or a PD from q
  abbrev pub Lifts : List ℕ → ℕ → Part → Type 0
  Lifts file at r = (c : Stand) → ((e : ℕ) (t : Point) → whole e c up at t ≡ go (free (Lifted t)))
      → Commands file at (λ room. run (range_of table) room (at + 2) (first c up at (at + 2) None) (drop (at + 2) file)) r

  abbrev pub Draws : List ℕ → ℕ → Point → Part → Type 0
  Draws file at q r = (c : Stand) → ((e : ℕ) (t : Point) → whole e c down at t ≡ drew (record { from = q; to = t }) at (free (Drawn t)))
      → Commands file at (λ room. run (range_of table) room (at + 2) (first c down at (at + 2) None) (drop (at + 2) file)) r

  -- after the move of the letter
  abbrev pub Lettered : List ℕ → ℕ → Move → Part → Type 0
  Lettered file at m r = Commands file at (λ room. after (λ k u. run (range_of table) k (at + 2) u (drop (at + 2) file)) room m) r

  module _ (file : List ℕ) (at : ℕ) where
    abbrev At : Place → Type 0
    At = Reaches file (at + 2) (λ c k p. first c k p (at + 2) None)

    next_in : (t : Point) (e : ℕ) → At (Ok (t, e)) → (at < e + 1) × (e + 1 ≤ length file)
    next_in t e d = (omega (arith, d.inside.0), omega (arith, d.inside.1))

    pub lift_at : (t : Point) (e : ℕ) → At (Ok (t, e)) → Lifts file at (Ok (Up t (e + 1)))
    unfolding after
    lift_at t e d c w = record { says = λ room. rw (w e t, sym (add-one e)) at (d.says room c up at); inside = next_in t e d }

    pub draw_at : (q t : Point) (e : ℕ) → At (Ok (t, e)) → Draws file at q (Ok (Drawing q t (e + 1)))
    draw_at q t e d c w = record { says = λ room. rw (w e t, sym (add-one e)) at (d.says room c down at); inside = next_in t e d }

    pub lift_stopped : (f : Fault) → At (Err f) → Lifts file at (Err f)
    lift_stopped f d c w = record { says = λ room. d.says room c up at; inside = tt }

    pub draw_stopped : (q : Point) (f : Fault) → At (Err f) → Draws file at q (Err f)
    draw_stopped q f d c w = record { says = λ room. d.says room c down at; inside = tt }

  -- ---- the letter
  two : (at : ℕ) → suc (at + 1) ≡ at + 2
  two at = omega arith

  module _ (file : List ℕ) (at : ℕ) (r : Part) where
    pub up_fresh : Lifts file at r → Lettered file at (up_from Fresh at (at + 1)) r
    unfolding after up_from whole
    up_fresh l = rw (two at) (l Fresh (λ e t. refl))

    pub up_drawn : (q : Point) → Lifts file at r → Lettered file at (up_from (Drawn q) at (at + 1)) r
    unfolding after up_from whole
    up_drawn q l = rw (two at) (l (Drawn q) (λ e t. refl))

    pub down_lifted : (q : Point) → Draws file at q r → Lettered file at (down_from (Lifted q) at (at + 1)) r
    unfolding after down_from whole
    down_lifted q l = rw (two at) (l (Lifted q) (λ e t. refl))

    pub down_drawn : (q : Point) → Draws file at q r → Lettered file at (down_from (Drawn q) at (at + 1)) r
    unfolding after down_from whole
    down_drawn q l = rw (two at) (l (Drawn q) (λ e t. refl))

  pub up_lifted : (file : List ℕ) (at : ℕ) (q : Point) → Lettered file at (up_from (Lifted q) at (at + 1)) (Err (fault_is.Wrong (at + 1)))
  unfolding after up_from
  up_lifted file at q = record { says = λ room. refl; inside = tt }

  pub down_fresh : (file : List ℕ) (at : ℕ) → Lettered file at (down_from Fresh at (at + 1)) (Err (fault_is.Wrong (at + 1)))
  unfolding after down_from
  down_fresh file at = record { says = λ room. refl; inside = tt }

  -- ---- from where a command may start
  module _ (file : List ℕ) (at : ℕ) (h : at < length file) (c : Stand) where
    abbrev From : Part → Type 0
    From = Commands file at (λ room. run (range_of table) room at (free c) (drop at file))

    one_byte : (room : ℕ) → run (range_of table) room at (free c) (drop at file) ≡ after (λ m t. run (range_of table) m (suc at) t (drop (suc at) file)) room (move_of (range_of table) at (free c) (get_or file at 0))
    unfolding run
    one_byte room = ap (run (range_of table) room at (free c)) (drop-cons file at 0 h)

    pub no_p : (get_or file at 0 ≡ 80 → ⊥) → From (Err (fault_is.Wrong at))
    unfolding move_of after
    no_p ne = record { says = λ room. rw (ne_eqb (get_or file at 0) 80 ne) at (one_byte room); inside = tt }

    module _ (p : get_or file at 0 ≡ 80) where
      opened : (room : ℕ) → run (range_of table) room at (free c) (drop at file) ≡ run (range_of table) room (suc at) (pen c at) (drop (suc at) file)
      unfolding move_of after
      opened room = rw (eq-eqb (get_or file at 0) 80 p) at (one_byte room)

      pub stops_short : length file - at < 2 → From (Err (fault_is.Wrong (at + 1)))
      unfolding run
      stops_short l = record {
        says = λ room. opened room ∙ ap (run (range_of table) room (suc at) (pen c at)) (drop_of_length-le file {i = suc at} (omega arith)) ∙ ap (λ (k : ℕ). answer [] (malformed k)) (sym (add-one at));
        inside = tt;
      }

      module _ (l : 2 ≤ length file - at) where
        lettered : (room : ℕ) → run (range_of table) room at (free c) (drop at file) ≡ after (λ m t. run (range_of table) m (at + 2) t (drop (at + 2) file)) room (move_of (range_of table) (at + 1) (pen c at) (get_or file (at + 1) 0))
        unfolding run
        lettered room =
            opened room ∙ ap (λ (k : ℕ). run (range_of table) room k (pen c at) (drop k file)) (sym (add-one at))
            ∙ ap (run (range_of table) room (at + 1) (pen c at)) (drop-cons file (at + 1) 0 (omega arith))
            ∙ ap (λ (k : ℕ). after (λ m t. run (range_of table) m k t (drop k file)) room (move_of (range_of table) (at + 1) (pen c at) (get_or file (at + 1) 0))) (two at)

        by_letter : (m : Move) (r : Part) → move_of (range_of table) (at + 1) (pen c at) (get_or file (at + 1) 0) ≡ m → Lettered file at m r → From r
        by_letter m r e g = record { says = λ room. lettered room ∙ rw e (g.says room); inside = g.inside }

        pub letter_up : get_or file (at + 1) 0 ≡ 85 → (r : Part) → Lettered file at (up_from c at (at + 1)) r → From r
        letter_up e r g = by_letter (up_from c at (at + 1)) r (unfold move_of in rw e) g

        pub letter_down : get_or file (at + 1) 0 ≡ 68 → (r : Part) → Lettered file at (down_from c at (at + 1)) r → From r
        letter_down e r g = by_letter (down_from c at (at + 1)) r (unfold move_of in rw e) g

        pub no_letter : (get_or file (at + 1) 0 ≡ 85 → ⊥) → (get_or file (at + 1) 0 ≡ 68 → ⊥) → From (Err (fault_is.Wrong (at + 1)))
        unfolding after
        no_letter u d =
            by_letter (bad (at + 1)) (Err (fault_is.Wrong (at + 1))) (unfold move_of in rw (ne_eqb (get_or file (at + 1) 0) 85 u, ne_eqb (get_or file (at + 1) 0) 68 d)) (record { says = λ room. refl; inside = tt })

-- ---- the lines
pub stored_line : (zs : List ℤ) (at : ℕ) (a b c d a' b' c' d' : ℤ) → a' ≡ a → b' ≡ b → c' ≡ c → d' ≡ d → set (set (set (set zs at a') (at + 1) b') (at + 2) c') (at + 3) d' ≡ sets zs at (a ∷ b ∷ c ∷ d ∷ [])
stored_line zs at a b c d a' b' c' d' p q r s = let e : at + 2 ≡ suc (suc at) = omega arith in let f : at + 3 ≡ suc (suc (suc at)) = omega arith in rw (p, q, r, s, add-one at, e, f)

nothing_read : (n : ℕ) (zs : List ℤ) (e : End) → told (back_of e n) zs ≡ tell n zs (answer [] e)
unfolding tell flat
nothing_read n zs e = ap (λ (k : ℕ). told (back_of e k) zs) (sym (add-zero n))

abbrev numbers_of : Line → List ℤ
numbers_of l = l.from.x ∷ l.from.y ∷ l.to.x ∷ l.to.y ∷ []

-- a line told apart, or stored
line_told : (n : ℕ) (zs : List ℤ) (l : Line) (a : Answer) → tell (n + 1) (sets zs (n * 4) (numbers_of l)) a ≡ tell n zs (answer (l ∷ a.lines) a.end)
unfolding tell flat
line_told n zs l a =
    let e : (n + 1) * 4 ≡ suc (suc (suc (suc (n * 4)))) = omega arith in
    let f : n + 1 + length a.lines ≡ n + suc (length a.lines) = omega arith in
    rw (e, f)

module _ (table : Table) where
  -- the file from a place on, with n lines read
  unfoldable pub unread : List ℕ → List ℤ → ℕ → ℕ → Stand → Told
  unread file zs n at c = tell n zs (run (range_of table) (length zs / 4 - n) at (free c) (drop at file))

  pub none_unread : (file : List ℕ) (zs : List ℤ) (n at : ℕ) (c : Stand) → length file ≤ at → told (back_of (ending at (free c)) n) zs ≡ unread file zs n at c
  unfolding unread run
  none_unread file zs n at c h = nothing_read n zs (ending at (free c)) ∙ ap (λ (t : List ℕ). tell n zs (run (range_of table) (length zs / 4 - n) at (free c) t)) (sym (drop_of_length-le file h))

  module _ (file : List ℕ) (zs : List ℤ) (n at : ℕ) (c : Stand) (r : Part) (d : Commands table file at (λ room. run (range_of table) room at (free c) (drop at file)) r) where
    turned : unread file zs n at c ≡ tell n zs (commanded table file (length zs / 4 - n) at r)
    unfolding unread
    turned = ap (tell n zs) (d.says (length zs / 4 - n))

    pub read_up : (t : Point) (next : ℕ) → r ≡ Ok (Up t next) → unread file zs n next (Lifted t) ≡ unread file zs n at c
    unfolding unread
    read_up t next g = sym (rw g at turned)

    line_turned : (q t : Point) (next m : ℕ) → r ≡ Ok (Drawing q t next) → length zs / 4 - n ≡ suc m
        → let a = run (range_of table) m next (free (Drawn t)) (drop next file) in unread file zs n at c ≡ tell n zs (answer (record { from = q; to = t } ∷ a.lines) a.end)
    unfolding after
    line_turned q t next m g e = rw e at (rw g at turned)

    stored_then : (l : Line) (next : ℕ) (e : Stand) → unread file (sets zs (n * 4) (numbers_of l)) (n + 1) next e ≡ tell (n + 1) (sets zs (n * 4) (numbers_of l)) (run (range_of table) (length zs / 4 - (n + 1)) next (free e) (drop next file))
    unfolding unread
    stored_then l next e = rw (length-sets zs (n * 4) (numbers_of l))

    pub read_line : (q t : Point) (next : ℕ) → r ≡ Ok (Drawing q t next) → n < length zs / 4 → unread file (sets zs (n * 4) (q.x ∷ q.y ∷ t.x ∷ t.y ∷ [])) (n + 1) next (Drawn t) ≡ unread file zs n at c
    read_line q t next g h =
        let l : Line = record { from = q; to = t } in
        let m = length zs / 4 - (n + 1) in
        stored_then l next (Drawn t) ∙ line_told n zs l (run (range_of table) m next (free (Drawn t)) (drop next file))
        ∙ sym (line_turned q t next m g (omega arith))

    pub read_full : (q t : Point) (next : ℕ) → r ≡ Ok (Drawing q t next) → length zs / 4 ≤ n → told (Err (Full n at)) zs ≡ unread file zs n at c
    unfolding after back_of
    read_full q t next g h = let e : length zs / 4 - n ≡ 0 = omega arith in nothing_read n zs (full at) ∙ sym (rw e at (rw g at turned))

    pub read_stopped : (f : Fault) → r ≡ Err f → told (back_of (stopped f) n) zs ≡ unread file zs n at c
    read_stopped f g = nothing_read n zs (stopped f) ∙ sym (rw g at turned)

    pub up_in : (t : Point) (next : ℕ) → r ≡ Ok (Up t next) → (at < next) × (next ≤ length file)
    up_in t next g = let i : CommandIn table file at (Ok (Up t next)) = rw g at d.inside in i

    pub line_in : (q t : Point) (next : ℕ) → r ≡ Ok (Drawing q t next) → (at < next) × (next ≤ length file)
    line_in q t next g = let i : CommandIn table file at (Ok (Drawing q t next)) = rw g at d.inside in i

  -- what holds before each command
  pub record Unread (file : List ℕ) (start : ℕ) (zs₀ : List ℤ) (most : ℕ) (zs : List ℤ) (at : ℕ) (c : Stand) (n : ℕ) : Type 0 where
    pub same : unread file zs n at c ≡ unread file zs₀ 0 start Fresh
    pub inside : at ≤ length file
    pub kept : length zs ≡ length zs₀
    pub room : most ≡ length zs₀ / 4
    pub few : n ≤ length zs / 4

-- ---- the first three bytes
unfoldable pub byte_is : List ℕ → ℕ → ℕ → Bool
byte_is file at b = ltb at (length file) && eqb (get_or file at 0) b

module _ (file : List ℕ) (at b : ℕ) where
  pub byte_in : at < length file → eqb (get_or file at 0) b ≡ byte_is file at b
  unfolding byte_is
  byte_in h = rw (lt-ltb at (length file) h)

  pub byte_out : length file ≤ at → false ≡ byte_is file at b
  unfolding byte_is
  byte_out h = rw (le-ltb at (length file) h)

  pub byte_inside : byte_is file at b ≡ true → (at < length file) × (get_or file at 0 ≡ b)
  unfolding byte_is
  byte_inside e =
      let h : T (ltb at (length file) && eqb (get_or file at 0) b) = rw e tt in
      (ltb→lt at (length file) (and_l (ltb at (length file)) (eqb (get_or file at 0) b) h), eqb→eq (get_or file at 0) b (and_r (ltb at (length file)) (eqb (get_or file at 0) b) h))

module _ (table : Table) where
  -- a state that wants one byte
  module _ (file : List ℕ) (at b : ℕ) (s t : State) (moves : (k : ℕ) → move_of (range_of table) at s k ≡ pick (eqb k b) (go t) (bad at)) (short : ending at s ≡ malformed at) (room : ℕ) where
    wanted : at < length file → run (range_of table) room at s (drop at file) ≡ after (λ m u. run (range_of table) m (suc at) u (drop (suc at) file)) room (pick (eqb (get_or file at 0) b) (go t) (bad at))
    unfolding run
    wanted h = ap (run (range_of table) room at s) (drop-cons file at 0 h) ∙ ap (after (λ m u. run (range_of table) m (suc at) u (drop (suc at) file)) room) (moves (get_or file at 0))

    found : byte_is file at b ≡ true → run (range_of table) room at s (drop at file) ≡ run (range_of table) room (suc at) t (drop (suc at) file)
    unfolding after
    found e = let h = byte_inside file at b e in rw (eq-eqb (get_or file at 0) b h.1) at (wanted h.0)

    wrong : at < length file → eqb (get_or file at 0) b ≡ false → run (range_of table) room at s (drop at file) ≡ answer [] (malformed at)
    unfolding after
    wrong h e = rw e at (wanted h)

    over : length file ≤ at → run (range_of table) room at s (drop at file) ≡ answer [] (malformed at)
    unfolding run
    over h = ap (run (range_of table) room at s) (drop_of_length-le file h) ∙ ap (answer []) short

    missed : byte_is file at b ≡ false → run (range_of table) room at s (drop at file) ≡ answer [] (malformed at)
    missed e = elim (either (ltb at (length file))) [
      | inl l ↦ let h = ltb→lt at (length file) l in wrong h (byte_in file at b h ∙ e)
      | inr l ↦ over (nltb→le at (length file) l)
    ]

  module _ (file : List ℕ) (zs : List ℤ) where
    -- how the automaton goes over the three bytes
    after_i : byte_is file 0 73 ≡ true → (room : ℕ) → run (range_of table) room 0 start1 file ≡ run (range_of table) room 1 start2 (drop 1 file)
    unfolding move_of
    after_i e room = found file 0 73 start1 start2 (λ k. refl) refl room e

    after_n : byte_is file 1 78 ≡ true → (room : ℕ) → run (range_of table) room 1 start2 (drop 1 file) ≡ run (range_of table) room 2 start3 (drop 2 file)
    unfolding move_of
    after_n e room = found file 1 78 start2 start3 (λ k. refl) refl room e

    after_end : byte_is file 2 59 ≡ true → (room : ℕ) → run (range_of table) room 2 start3 (drop 2 file) ≡ run (range_of table) room 3 (free Fresh) (drop 3 file)
    unfolding move_of
    after_end e room = found file 2 59 start3 (free Fresh) (λ k. refl) refl room e

    misread : (q : ℕ) → run (range_of table) (length zs / 4) 0 start1 file ≡ answer [] (malformed q) → told (Err (Malformed 0 q)) zs ≡ reading_of table file zs
    unfolding reading_of read_of back_of
    misread q e = nothing_read 0 zs (malformed q) ∙ sym (ap (tell 0 zs) e)

    pub no_i : byte_is file 0 73 ≡ false → told (Err (Malformed 0 0)) zs ≡ reading_of table file zs
    unfolding move_of
    no_i e = misread 0 (missed file 0 73 start1 start2 (λ k. refl) refl (length zs / 4) e)

    module _ (i : byte_is file 0 73 ≡ true) where
      pub no_n : byte_is file 1 78 ≡ false → told (Err (Malformed 0 1)) zs ≡ reading_of table file zs
      unfolding move_of
      no_n e = misread 1 (after_i i (length zs / 4) ∙ missed file 1 78 start2 start3 (λ k. refl) refl (length zs / 4) e)

      module _ (n : byte_is file 1 78 ≡ true) where
        pub no_end : byte_is file 2 59 ≡ false → told (Err (Malformed 0 2)) zs ≡ reading_of table file zs
        unfolding move_of
        no_end e = misread 2 (after_i i (length zs / 4) ∙ after_n n (length zs / 4) ∙ missed file 2 59 start3 (free Fresh) (λ k. refl) refl (length zs / 4) e)

        pub all_in : byte_is file 2 59 ≡ true → unread table file zs 0 3 Fresh ≡ reading_of table file zs
        unfolding reading_of read_of unread
        all_in e = rw (sub-zero (length zs / 4)) (sym (ap (tell 0 zs) (after_i i (length zs / 4) ∙ after_n n (length zs / 4) ∙ after_end e (length zs / 4))))

        pub three_in : byte_is file 2 59 ≡ true → 3 ≤ length file
        three_in e = (byte_inside file 2 59 e).0
