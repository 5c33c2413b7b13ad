-- Where the reader stops with a byte that is not of the form: a file of the form begins with the bytes before it, and none with it too. Assumes nothing.
use Rattle.std.specs.Prelude.{◌≡◌, Bool, ℤ, pos, negsuc, eqb, leb, length}
use Rattle.std.proofs.Math.Path.{refl, ap, subst}
use Rattle.std.proofs.Common.{sym, ◌∙◌, le_trans, add-zero, leb→le, le-leb}
use Rattle.std.proofs.Math.Bool.{true, false}
use mathlib.Core.List.{List, [], ◌∷◌, ◌++◌}
use Prim.{Unit}
use Prim.Native.Nat.{ℕ, zero, suc, ◌+◌, ◌*◌, ◌≤◌, ◌<◌}
use Rattle.std.proofs.Math.Nat.{zero-add}
use native.Mathlib.Omega.{arith}
use Rattle.std.proofs.Math.Dec.{T}
use Rattle.std.proofs.Math.ListN.{take}
use Rattle.hpgl.specs.Text.{pick}
use Rattle.hpgl.specs.Form.{Line, Chain, Pen, up, down, file_text, lines_of, Range, most, Within, AllInside, Inside, Fits, range_of}
use Rattle.hpgl.specs.Reading.{Byte, dash, digit, other, byte_of, kept, num_step, State, start1, start2, start3, free, pen, first, second, Move, go, drew, bad, outside, up_from, down_from, whole, first_of, second_of, move_of, End, complete, malformed, too_far, full, Answer, after, ending, run, read_of}
use Rattle.hpgl.specs.Numbers.{on}
use Rattle.hpgl.specs.Sound.{is_complete}
use Rattle.hpgl.proofs.Sound.{accepted_form}
use Rattle.hpgl.specs.Accepts.{form_accepted}
use Rattle.hpgl.specs.Ranges.{most_few}
use Rattle.hpgl.specs.Completion.{Allowed, Able, closing, closes}
use Rattle.hpgl.specs.declared.Point.{Point}
use Rattle.hpgl.specs.declared.Table.{Table}
use Rattle.hpgl.specs.declared.reading.Num.{Num}
use Rattle.hpgl.specs.declared.reading.Num.TheVariants.{None, Dashed, Naught, Some}
use Rattle.hpgl.specs.declared.reading.NumStep.{NumStep}
use Rattle.hpgl.specs.declared.reading.NumStep.TheVariants.{Goes, Done, Wrong, Beyond}
use Rattle.hpgl.specs.declared.reading.Stand.{Stand}
use Rattle.hpgl.specs.declared.reading.Stand.TheVariants.{Fresh, Lifted, Drawn}
use Rattle.hpgl.specs.Stops.{First}

abbrev StopsAt : ℕ → End → Type 0
StopsAt q complete = ⊥
StopsAt q (malformed p) = p ≡ q
StopsAt q (too_far p) = ⊥
StopsAt q (full p) = ⊥

abbrev Whole : Answer → Type 0
Whole a = T (is_complete a.end)

-- ---- a move: to a state that can be closed, or the place of the byte
abbrev Sane : ℕ → Move → Type 0
Sane at (go t) = Able t
Sane at (drew l p t) = Able t
Sane at (bad p) = p ≡ at
Sane at (outside p) = Unit {0}

first_sane : (at : ℕ) (c : Stand) (k : Pen) (p q : ℕ) → Allowed c k → (y : NumStep) → Sane at (first_of at c k p q y)
unfolding first_of
first_sane at c k p q a (Goes n) = a
first_sane at c k p q a (Done z) = a
first_sane at c k p q a Wrong = refl
first_sane at c k p q a Beyond = tt

whole_sane : (at : ℕ) (c : Stand) (k : Pen) (p : ℕ) (t : Point) → Sane at (whole at c k p t)
unfolding whole
whole_sane at Fresh up p t = tt
whole_sane at Fresh down p t = refl
whole_sane at (Lifted q) up p t = refl
whole_sane at (Lifted q) down p t = tt
whole_sane at (Drawn q) up p t = tt
whole_sane at (Drawn q) down p t = tt

second_sane : (at : ℕ) (c : Stand) (k : Pen) (p : ℕ) (x : ℤ) (q : ℕ) → Allowed c k → (y : NumStep) → Sane at (second_of at c k p x q y)
unfolding second_of
second_sane at c k p x q a (Goes n) = a
second_sane at c k p x q a (Done z) = whole_sane at c k p (record { x = x; y = z })
second_sane at c k p x q a Wrong = refl
second_sane at c k p x q a Beyond = tt

up_sane : (at p : ℕ) (c : Stand) → Sane at (up_from c p at)
unfolding up_from
up_sane at p Fresh = tt
up_sane at p (Lifted q) = refl
up_sane at p (Drawn q) = tt

down_sane : (at p : ℕ) (c : Stand) → Sane at (down_from c p at)
unfolding down_from
down_sane at p Fresh = refl
down_sane at p (Lifted q) = tt
down_sane at p (Drawn q) = tt

module _ (table : Table) where
  sane : (at : ℕ) (s : State) (b : ℕ) → Able s → Sane at (move_of (range_of table) at s b)
  unfolding move_of
  sane at start1 b a = on (Sane at) (eqb b 73) (go start2) (bad at) (λ e. tt) (λ e. refl)
  sane at start2 b a = on (Sane at) (eqb b 78) (go start3) (bad at) (λ e. tt) (λ e. refl)
  sane at start3 b a = on (Sane at) (eqb b 59) (go (free Fresh)) (bad at) (λ e. tt) (λ e. refl)
  sane at (free c) b a = on (Sane at) (eqb b 80) (go (pen c at)) (bad at) (λ e. tt) (λ e. refl)
  sane at (pen c p) b a =
      on (Sane at) (eqb b 85) (up_from c p at) (pick (eqb b 68) (down_from c p at) (bad at)) (λ e. up_sane at p c)
      (λ e. on (Sane at) (eqb b 68) (down_from c p at) (bad at) (λ d. down_sane at p c) (λ d. refl))
  sane at (first c k p q n) b a = first_sane at c k p q a (num_step (range_of table) (eqb b 44) n (byte_of b))
  sane at (second c k p x q n) b a = second_sane at c k p x q a (num_step (range_of table) (eqb b 59) n (byte_of b))

  -- ---- a wider range moves alike, but where a number is out of the narrower
  module _ (R : Range) (wide : (s : Bool) → most (range_of table) s ≤ most R s) where
    abbrev AlikeNum : NumStep → NumStep → Type 0
    AlikeNum (Goes m) y = y ≡ Goes m
    AlikeNum (Done z) y = y ≡ Done z
    AlikeNum Wrong y = y ≡ Wrong
    AlikeNum Beyond y = Unit {0}

    abbrev Alike : Move → Move → Type 0
    Alike (go t) v = v ≡ go t
    Alike (drew l p t) v = v ≡ drew l p t
    Alike (bad p) v = v ≡ bad p
    Alike (outside p) v = Unit {0}

    alike_self : (v : Move) → Alike v v
    alike_self (go t) = refl
    alike_self (drew l p t) = refl
    alike_self (bad p) = refl
    alike_self (outside p) = tt

    alike_kept : (s : Bool) (w : ℕ) → AlikeNum (kept (range_of table) s w) (kept R s w)
    unfolding kept
    alike_kept s w =
        on (λ (y : NumStep). AlikeNum y (kept R s w)) (leb (suc w) (most (range_of table) s)) (Goes (Some s w)) Beyond
        (λ h. ap (λ (t : Bool). pick t (Goes (Some s w)) Beyond) (le-leb (suc w) (most R s) (le_trans (leb→le (suc w) (most (range_of table) s) h) (wide s))))
        (λ h. tt)

    alike_self_num : (y : NumStep) → AlikeNum y y
    alike_self_num (Goes m) = refl
    alike_self_num (Done z) = refl
    alike_self_num Wrong = refl
    alike_self_num Beyond = tt

    alike_digit : (ends : Bool) (n : Num) (d : ℕ) → AlikeNum (num_step (range_of table) ends n (digit d)) (num_step R ends n (digit d))
    unfolding num_step
    alike_digit ends None zero = refl
    alike_digit ends None (suc w) = alike_kept false w
    alike_digit ends Dashed zero = refl
    alike_digit ends Dashed (suc w) = alike_kept true w
    alike_digit ends Naught d = refl
    alike_digit ends (Some s w) d = alike_kept s (w * 10 + 9 + d)

    alike_num : (ends : Bool) (n : Num) (y : Byte) → AlikeNum (num_step (range_of table) ends n y) (num_step R ends n y)
    alike_num ends n dash = unfold num_step in alike_self_num (num_step (range_of table) ends n dash)
    alike_num ends n (digit d) = alike_digit ends n d
    alike_num ends n other = unfold num_step in alike_self_num (num_step (range_of table) ends n other)

    alike_first : (at : ℕ) (c : Stand) (k : Pen) (p q : ℕ) (y z : NumStep) → AlikeNum y z → Alike (first_of at c k p q y) (first_of at c k p q z)
    unfolding first_of
    alike_first at c k p q (Goes m) z e = ap (first_of at c k p q) e
    alike_first at c k p q (Done x) z e = ap (first_of at c k p q) e
    alike_first at c k p q Wrong z e = ap (first_of at c k p q) e
    alike_first at c k p q Beyond z e = tt

    alike_second : (at : ℕ) (c : Stand) (k : Pen) (p : ℕ) (x : ℤ) (q : ℕ) (y z : NumStep) → AlikeNum y z → Alike (second_of at c k p x q y) (second_of at c k p x q z)
    unfolding second_of
    alike_second at c k p x q (Goes m) z e = ap (second_of at c k p x q) e
    alike_second at c k p x q (Done w) z e = subst (λ (v : Move). Alike (whole at c k p (record { x = x; y = w })) v) (sym (ap (second_of at c k p x q) e)) (alike_self (whole at c k p (record { x = x; y = w })))
    alike_second at c k p x q Wrong z e = ap (second_of at c k p x q) e
    alike_second at c k p x q Beyond z e = tt

    alike : (at : ℕ) (s : State) (b : ℕ) → Alike (move_of (range_of table) at s b) (move_of R at s b)
    unfolding move_of
    alike at start1 b = alike_self (move_of R at start1 b)
    alike at start2 b = alike_self (move_of R at start2 b)
    alike at start3 b = alike_self (move_of R at start3 b)
    alike at (free c) b = alike_self (move_of R at (free c) b)
    alike at (pen c p) b = alike_self (move_of R at (pen c p) b)
    alike at (first c k p q n) b = alike_first at c k p q (num_step (range_of table) (eqb b 44) n (byte_of b)) (num_step R (eqb b 44) n (byte_of b)) (alike_num (eqb b 44) n (byte_of b))
    alike at (second c k p x q n) b = alike_second at c k p x q (num_step (range_of table) (eqb b 59) n (byte_of b)) (num_step R (eqb b 59) n (byte_of b)) (alike_num (eqb b 59) n (byte_of b))

  -- ---- from a state on: n more bytes can be closed, and one more cannot, in any range as wide
  record Stopped (at q : ℕ) (s : State) (bs : List ℕ) : Type 0 where
    n : ℕ
    place : q ≡ at + n
    inside : n ≤ length bs
    room : ℕ
    rest : List ℕ
    goes : Whole (run (range_of table) room at s (take n bs ++ rest))
    no_more : n < length bs → (R : Range) → ((s : Bool) → most (range_of table) s ≤ most R s) → (m : ℕ) (ys : List ℕ) → Whole (run R m at s (take (suc n) bs ++ ys)) → ⊥

  here : (at q : ℕ) (s : State) (bs : List ℕ) → Able s → at ≡ q → (0 < length bs → (R : Range) → ((s : Bool) → most (range_of table) s ≤ most R s) → (m : ℕ) (ys : List ℕ) → Whole (run R m at s (take 1 bs ++ ys)) → ⊥) → Stopped at q s bs
  here at q s bs a e f = record { n = 0; place = sym e ∙ sym (add-zero at); inside = omega arith; room = 1; rest = closing s; goes = closes table s a at; no_more = f }

  module _ (at q : ℕ) (s : State) (b : ℕ) (bs : List ℕ) where
    abbrev step : Range → ℕ → Move → List ℕ → Answer
    step R m v ys = after (λ k t. run R k (suc at) t ys) m v

    one : (R : Range) (m : ℕ) (v : Move) (ys : List ℕ) → move_of R at s b ≡ v → run R m at s (b ∷ ys) ≡ step R m v ys
    unfolding run
    one R m v ys e = ap (λ (w : Move). step R m w ys) e

    stop_bad : (p : ℕ) → Able s → p ≡ at → p ≡ q → move_of (range_of table) at s b ≡ bad p → Stopped at q s (b ∷ bs)
    unfolding after
    stop_bad p a g h e =
        here at q s (b ∷ bs) a (sym g ∙ h)
        (λ l R w m ys d. subst Whole (one R m (bad p) ys (subst (λ (v : Move). Alike R w v (move_of R at s b)) e (alike R w at s b))) d)

    stop_go : (t : State) → move_of (range_of table) at s b ≡ go t → Stopped (suc at) q t bs → Stopped at q s (b ∷ bs)
    unfolding after
    stop_go t e i = record {
      n = suc i.n;
      place = i.place ∙ (let z : suc at + i.n ≡ at + suc i.n = omega arith in z);
      inside = omega (arith, i.inside);
      room = i.room;
      rest = i.rest;
      goes = subst Whole (sym (one (range_of table) i.room (go t) (take i.n bs ++ i.rest) e)) i.goes;
      no_more = λ l R w m ys d. i.no_more (omega arith) R w m ys (subst Whole (one R m (go t) (take (suc i.n) bs ++ ys) (subst (λ (v : Move). Alike R w v (move_of R at s b)) e (alike R w at s b))) d);
    }

    drawn_whole : (R : Range) (m : ℕ) (l : Line) (p : ℕ) (t : State) (ys : List ℕ) → Whole (step R m (drew l p t) ys) → (k : ℕ) × Whole (run R k (suc at) t ys)
    unfolding after
    drawn_whole R zero l p t ys d = absurd d
    drawn_whole R (suc m) l p t ys d = (m, d)

    stop_drew : (l : Line) (p : ℕ) (t : State) → move_of (range_of table) at s b ≡ drew l p t → Stopped (suc at) q t bs → Stopped at q s (b ∷ bs)
    unfolding after
    stop_drew l p t e i = record {
      n = suc i.n;
      place = i.place ∙ (let z : suc at + i.n ≡ at + suc i.n = omega arith in z);
      inside = omega (arith, i.inside);
      room = suc i.room;
      rest = i.rest;
      goes = subst Whole (sym (one (range_of table) (suc i.room) (drew l p t) (take i.n bs ++ i.rest) e)) i.goes;
      no_more = λ g R w m ys d.
          let k = drawn_whole R m l p t (take (suc i.n) bs ++ ys) (subst Whole (one R m (drew l p t) (take (suc i.n) bs ++ ys) (subst (λ (v : Move). Alike R w v (move_of R at s b)) e (alike R w at s b))) d) in
          i.no_more (omega arith) R w k.0 ys k.1;
    }

  at_end : (at q : ℕ) (s : State) → StopsAt q (ending at s) → at ≡ q
  at_end at q start1 h = h
  at_end at q start2 h = h
  at_end at q start3 h = h
  at_end at q (free Fresh) h = absurd h
  at_end at q (free (Lifted p)) h = h
  at_end at q (free (Drawn p)) h = absurd h
  at_end at q (pen c p) h = h
  at_end at q (first c k p r n) h = h
  at_end at q (second c k p x r n) h = h

  by_move : (at q : ℕ) (s : State) (b : ℕ) (bs : List ℕ) → Able s → ((m : ℕ) (t : State) → Able t → StopsAt q (run (range_of table) m (suc at) t bs).end → Stopped (suc at) q t bs)
      → (v : Move) → move_of (range_of table) at s b ≡ v → Sane at v → (m : ℕ) → StopsAt q (after (λ k t. run (range_of table) k (suc at) t bs) m v).end → Stopped at q s (b ∷ bs)
  unfolding after
  by_move at q s b bs a more (go t) e g m d = stop_go at q s b bs t e (more m t g d)
  by_move at q s b bs a more (drew l p t) e g zero d = absurd d
  by_move at q s b bs a more (drew l p t) e g (suc m) d = stop_drew at q s b bs l p t e (more m t g d)
  by_move at q s b bs a more (bad p) e g m d = stop_bad at q s b bs p a g d e
  by_move at q s b bs a more (outside p) e g m d = absurd d

  stopped : (bs : List ℕ) (room at q : ℕ) (s : State) → Able s → StopsAt q (run (range_of table) room at s bs).end → Stopped at q s bs
  unfolding run
  stopped [] room at q s a h = here at q s [] a (at_end at q s h) (λ l. absurd (let z : ⊥ = omega arith in z))
  stopped (b ∷ bs) room at q s a h = by_move at q s b bs a (λ m t g d. stopped bs m (suc at) q t g d) (move_of (range_of table) at s b) refl (sane at s b a) room h

-- ---- a range that a file fits
size : ℤ → ℕ
size (pos n) = n
size (negsuc n) = suc n

both : Point → ℕ
unfolding size
both p = size p.x + size p.y

total : List Point → ℕ
unfolding both
total [] = 0
total (p ∷ ps) = both p + total ps

reach : List Chain → ℕ
unfolding both total
reach [] = 0
reach (c ∷ cs) = both c.start + (total (c.first ∷ c.more) + reach cs)

abbrev up_to : ℕ → Range
up_to n = record { below = n; above = n }

within_size : (n : ℕ) (z : ℤ) → size z ≤ n → Within (up_to n) z
unfolding Within size
within_size n (pos m) h = h
within_size n (negsuc m) h = h

inside_both : (n : ℕ) (p : Point) → both p ≤ n → Inside (up_to n) p
unfolding both
inside_both n p h = record { x = within_size n p.x (omega arith); y = within_size n p.y (omega arith) }

all_total : (n : ℕ) (ps : List Point) → total ps ≤ n → AllInside (up_to n) ps
unfolding total AllInside
all_total n [] h = tt
all_total n (p ∷ ps) h = (inside_both n p (omega arith), all_total n ps (omega arith))

fits_reach : (n : ℕ) (cs : List Chain) → reach cs ≤ n → Fits (up_to n) cs
unfolding reach Fits
fits_reach n [] h = tt
fits_reach n (c ∷ cs) h = (inside_both n c.start (omega arith), all_total n (c.first ∷ c.more) (omega arith), fits_reach n cs (omega arith))

-- ---- the whole file
stops_at : (q : ℕ) (e : End) → e ≡ malformed q → StopsAt q e
stops_at q e h = subst (StopsAt q) (sym h) refl

wide_most : (n : ℕ) (s : Bool) → most (up_to n) s ≡ n
wide_most n true = refl
wide_most n false = refl

module _ (table : Table) where
  pub malformed_first : (room : ℕ) (file : List ℕ) (q : ℕ) → (read_of (range_of table) room file).end ≡ malformed q → First table file q
  unfolding read_of
  malformed_first room file q h =
      let d = stopped table file room 0 q start1 tt (stops_at q (run (range_of table) room 0 start1 file).end h) in
      let e : q ≡ d.n = d.place ∙ zero-add d.n in
      let f = accepted_form (range_of table) d.room (take d.n file ++ d.rest) d.goes in
      record {
        inside = omega (arith, e, d.inside);
        rest = d.rest;
        chains = f.0;
        before = subst (λ (k : ℕ). take k file ++ d.rest ≡ file_text f.0) (sym e) f.1;
        fits = f.3;
        not_there = λ l more cs g.
            let n = 8388608 + reach cs in
            let a = form_accepted (up_to n) cs (fits_reach n cs (omega arith)) (length (lines_of cs)) (omega arith) in
            d.no_more (omega (arith, e)) (up_to n) (λ s. rw (wide_most n s) (le_trans (most_few table s) (let g : 8388608 ≤ n = omega arith in g))) (length (lines_of cs)) more
            (subst (λ (b : Answer). T (is_complete b.end)) (sym (ap (read_of (up_to n) (length (lines_of cs))) (subst (λ (k : ℕ). take (suc k) file ++ more ≡ file_text cs) e g) ∙ a)) tt);
      }
