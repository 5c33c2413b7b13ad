-- Commands, lines and records one behind the other, stored in lent bytes or only counted: what each leaves for what follows. Assumes nothing.
use Rattle.std.specs.Prelude.{◌≡◌, Bool, true, false, ◌&&◌}
use Rattle.std.proofs.Math.Path.{refl, ap}
use Rattle.std.proofs.Common.{sym, ◌∙◌, subst, add-zero, add-one, length-append}
use mathlib.Core.List.{List, [], ◌∷◌, ◌++◌, append_assoc}
use Prim.Native.Nat.{ℕ, suc, ◌+◌, ◌-◌, ◌≤◌, ◌<◌}
use Rattle.std.proofs.Math.Nat.{sub-zero}
use native.Mathlib.Omega.{arith}
use Rattle.std.proofs.Math.ListN.{length}
use Rattle.std.proofs.lemmas.List.Edits.{sets}
use Rattle.std.proofs.Math.Seq.{length-sets}
use Rattle.std.specs.Float.{binary32}
use Rattle.std.specs.Float.Ieee.{of_bits}
use borrow.Author.Tests.{lt-ltb, le-ltb, le-leb, lt-leb, eq-eqb, ne_eqb}
use Rattle.records.specs.Record.{line_at, count, word, path_of}
use Rattle.records.specs.declared.Line.{Line}
use Rattle.hpgl.specs.Text.{numeral}
use Rattle.hpgl.specs.TextLaws.{Stored, sets_append}
use Rattle.hpgl.specs.Form.{Pen, up, down, letter, command, Range, range_of}
use Rattle.hpgl.specs.declared.Point.{Point}
use Rattle.hpgl.specs.declared.Table.{Table}
use Rattle.hpgl.specs.declared.Table.TheVariants.{New}
use Rattle.hpgl.specs.CommandLaws.{pen_of, command_text}
use Rattle.hpgl.specs.Rounding.{is_good, point_of}
use Rattle.hpgl.specs.Bits.{Aims}
use Rattle.hpgl.specs.Export.{Last, Cut, Verdict, written, refused, no_room, Exported, exported, put, goes_on, put_line, export_from, Outcome, outcome, answer_of, counted, finish, export_of, cut_of, look_of}
use Rattle.hpgl.specs.declared.rounding.Spot.{Spot}
use Rattle.hpgl.specs.declared.export.CutError.{CutError}
use Rattle.hpgl.specs.declared.export.CutError.TheVariants.{BadNumber, NoRoom}
use Rattle.std.specs.Prelude.{None, Some, Result, Ok, Err}
use Rattle.hpgl.specs.declared.lines.Reached.{Reached}
use Rattle.hpgl.specs.declared.sink.Stop.{Stop}
use Rattle.hpgl.specs.declared.sink.Stop.TheVariants.{Bad, Full}

-- where an export's bytes go, from a place on: what takes them, its size, and what a caller is told
pub record Sink : Type 1 where
  pub Held : Type 0
  pub Told : Type 0
  pub size : Held → ℕ
  pub say : Cut → Held → Told
  pub end : ℕ → Held → Exported → Told
  -- a text taken, up to the place behind it
  pub Kept : List ℕ → Held → ℕ → ℕ → Held → Type 0
  pub nothing : (at : ℕ) (h : Held) (v : Verdict) → end at h (exported [] v) ≡ say (answer_of v at) h
  pub place : {xs : List ℕ} {before : Held} {at n : ℕ} {after : Held} → Kept xs before at n after → n ≡ at + length xs
  pub same : {xs : List ℕ} {before : Held} {at n : ℕ} {after : Held} → Kept xs before at n after → size after ≡ size before
  pub then : {xs : List ℕ} {before : Held} {at n : ℕ} {after : Held} → Kept xs before at n after → (e : Exported) → end at before (exported (xs ++ e.bytes) e.verdict) ≡ end n after e

-- in lent bytes
pub stored_finish : {before after : List ℕ} {at n : ℕ} {xs : List ℕ} → Stored before after at n xs → (e : Exported) → finish at before (exported (xs ++ e.bytes) e.verdict) ≡ finish n after e
unfolding finish
stored_finish {before} {after} {at} {n} {xs} s e =
    let k : at + length (xs ++ e.bytes) ≡ n + length e.bytes = omega (arith, length-append xs e.bytes, s.place) in
    rw (k, s.bytes, s.place, sets_append before at xs e.bytes)

pub nothing_stood : (at : ℕ) (bs : List ℕ) (v : Verdict) → finish at bs (exported [] v) ≡ outcome (answer_of v at) bs
unfolding finish
nothing_stood at bs v = ap (λ (n : ℕ). outcome (answer_of v n) bs) (add-zero at)

abbrev pub in_bytes : Sink
in_bytes = record {
  Held = List ℕ;
  Told = Outcome;
  size = length;
  say = outcome;
  end = finish;
  Kept = λ xs before at n after. Stored before after at n xs;
  nothing = nothing_stood;
  place = λ s. s.place;
  same = λ {xs} {before} {at} {n} {after} s. ap length s.bytes ∙ length-sets before at xs;
  then = stored_finish;
}

-- nowhere, in so much room: the count alone
pub counted_behind : (xs : List ℕ) (at n : ℕ) → n ≡ at + length xs → (e : Exported) → counted at (exported (xs ++ e.bytes) e.verdict) ≡ counted n e
counted_behind xs at n h e = ap (answer_of e.verdict) (let k : at + length (xs ++ e.bytes) ≡ n + length e.bytes = omega (arith, length-append xs e.bytes) in k)

abbrev pub only_counted : Sink
only_counted = record {
  Held = ℕ;
  Told = Cut;
  size = λ room. room;
  say = λ a room. a;
  end = λ at room. counted at;
  Kept = λ xs before at n after. (n ≡ at + length xs) × (after ≡ before);
  nothing = λ at room v. ap (answer_of v) (add-zero at);
  place = λ s. s.0;
  same = λ s. s.1;
  then = λ {xs} {before} {at} {n} s. counted_behind xs at n s.0;
}

-- ---- what a text, a command, a line and a record leave

-- a stop in record i
abbrev pub in_record : Stop → ℕ → CutError
in_record (Bad n) i = BadNumber n i
in_record (Full n) i = NoRoom n i

-- a text taken where it has room
abbrev pub Texted : (k : Sink) → List ℕ → k.Held → ℕ → Result ℕ Stop → k.Held → Type 0
Texted k xs before at (Ok n) after = k.Kept xs before at n after × (n ≤ k.size after)
Texted k xs before at (Err (Bad n)) after = ⊥
Texted k xs before at (Err (Full n)) after = (n ≡ at) × (k.size before - at < length xs) × (after ≡ before)

-- what comes about with the rest behind a command or a line of record i
abbrev pub went_on : (k : Sink) → ℕ → (ℕ → Exported) → Result ℕ Stop → k.Held → k.Told
went_on k i rest (Ok n) after = k.end n after (rest (k.size after - n))
went_on k i rest (Err e) after = k.say (Err (in_record e i)) after

abbrev pub InRoom : Result ℕ Stop → ℕ → Type 0
InRoom (Ok n) room = n ≤ room
InRoom (Err e) room = Unit {0}

pub record Continues (k : Sink) (part : ℕ → ℕ → (ℕ → Exported) → Exported) (before : k.Held) (at : ℕ) (r : Result ℕ Stop) (after : k.Held) : Type 0 where
  pub says : (i : ℕ) (rest : ℕ → Exported) → k.end at before (part (k.size before - at) i rest) ≡ went_on k i rest r after
  pub room : InRoom r (k.size after)

abbrev pub stepped_to : (k : Sink) → Range → List ℕ → ℕ → ℕ → ℕ → Result Reached Stop → k.Held → k.Told
stepped_to k g ws path i n (Ok r) after = k.end r.at after (export_from g path ws (k.size after - r.at) r.last n (suc i))
stepped_to k g ws path i n (Err e) after = k.say (Err (in_record e i)) after

abbrev pub StepInRoom : Result Reached Stop → ℕ → Type 0
StepInRoom (Ok r) room = r.at ≤ room
StepInRoom (Err e) room = Unit {0}

pub record Steps (k : Sink) (g : Range) (ws : List ℕ) (path i : ℕ) (from : Reached) (before : k.Held) (r : Result Reached Stop) (after : k.Held) : Type 0 where
  pub says : (n : ℕ) → k.end from.at before (export_from g path ws (k.size before - from.at) from.last (suc n) i) ≡ stepped_to k g ws path i n r after
  pub room : StepInRoom r (k.size after)

-- ---- a command, and the bytes behind it
regroup : (a b xs : List ℕ) → a ++ (44 ∷ (b ++ (59 ∷ xs))) ≡ (a ++ (44 ∷ (b ++ (59 ∷ [])))) ++ xs
regroup a b xs = simp append_assoc

pub command_more : (p : Pen) (q : Point) (xs : List ℕ) → command p q xs ≡ command p q [] ++ xs
unfolding command
command_more p q xs = ap (λ (t : List ℕ). 80 ∷ letter p ∷ t) (regroup (numeral q.x) (numeral q.y) xs)

module _ (g : Range) (p : Pen) (x y room i : ℕ) (rest : ℕ → Exported) where
  abbrev text : List ℕ
  text = command p (point_of x y) []

  put_refused : is_good g (of_bits binary32 x) && is_good g (of_bits binary32 y) ≡ false → put g p x y room i rest ≡ exported [] (refused i)
  unfolding put
  put_refused e = rw e

  put_full : is_good g (of_bits binary32 x) && is_good g (of_bits binary32 y) ≡ true → room < length text → put g p x y room i rest ≡ exported [] (no_room i)
  unfolding put
  put_full e h = rw (e, lt-leb (length text) room h)

  put_fits : is_good g (of_bits binary32 x) && is_good g (of_bits binary32 y) ≡ true → length text ≤ room → (m : ℕ) → room - length text ≡ m → put g p x y room i rest ≡ exported (text ++ (rest m).bytes) (rest m).verdict
  unfolding put
  put_fits e h m l = rw (e, le-leb (length text) room h, l, command_more p (point_of x y) (rest m).bytes)

module _ (k : Sink) (g : Range) where
  -- by what code found of the two words
  module _ (draws : Bool) (x y : ℕ) (before : k.Held) (at : ℕ) where
    abbrev Here : Result ℕ Stop → k.Held → Type 0
    Here = Continues k (put g (pen_of draws) x y) before at

    pub put_bad : Aims g x y None → Here (Err (Bad at)) before
    unfolding answer_of
    put_bad e = record { says = λ i rest. ap (k.end at before) (put_refused g (pen_of draws) x y (k.size before - at) i rest e) ∙ k.nothing at before (refused i); room = tt }

    put_good : is_good g (of_bits binary32 x) && is_good g (of_bits binary32 y) ≡ true → (q : Result ℕ Stop) (after : k.Held) → Texted k (command (pen_of draws) (point_of x y) []) before at q after → Here q after
    unfolding answer_of
    put_good e (Ok n) after t =
        let c = command (pen_of draws) (point_of x y) [] in
        let same : k.size after ≡ k.size before = k.same t.0 in
        let to : n ≡ at + length c = k.place t.0 in
        record {
          says = λ i rest.
              ap (k.end at before) (put_fits g (pen_of draws) x y (k.size before - at) i rest e (omega (arith, t.1)) (k.size after - n) (omega (arith, t.1)))
              ∙ k.then t.0 (rest (k.size after - n));
          room = t.1;
        }
    put_good e (Err (Bad n)) after t = absurd t
    put_good e (Err (Full n)) after t =
        record {
          says = λ i rest.
              ap (k.end at before) (put_full g (pen_of draws) x y (k.size before - at) i rest e t.1)
              ∙ k.nothing at before (no_room i) ∙ rw (t.0, t.2);
          room = tt;
        }

    pub put_text : (p : Spot) → Aims g x y (Some p) → (q : Result ℕ Stop) (after : k.Held) → Texted k (command_text draws p) before at q after → Here q after
    unfolding command_text
    put_text p e q after h = put_good e.0 q after (subst (λ (p : Point). Texted k (command (pen_of draws) p []) before at q after) (sym e.1) h)

  -- ---- a line
  module _ (x y z w : ℕ) (before : k.Held) (at : ℕ) where
    abbrev Lined : Bool → Result ℕ Stop → k.Held → Type 0
    Lined b = Continues k (put_line g b x y z w) before at

    pub line_joined : (b : Bool) (q : Result ℕ Stop) (after : k.Held) → b ≡ true → Continues k (put g down z w) before at q after → Lined b q after
    unfolding put_line
    line_joined b q after e h = rw e h

    module _ (b : Bool) (mid : k.Held) (e : b ≡ false) where
      pub line_then : (a : ℕ) → Continues k (put g up x y) before at (Ok a) mid → (q : Result ℕ Stop) (after : k.Held) → Continues k (put g down z w) mid a q after → Lined b q after
      unfolding put_line
      line_then a u q after d = rw e (record { says = λ i rest. u.says i (λ m. put g down z w m i rest) ∙ d.says i rest; room = d.room })

      pub line_stopped : (r : Stop) → Continues k (put g up x y) before at (Err r) mid → Lined b (Err r) mid
      unfolding put_line
      line_stopped r u = rw e (record { says = λ i rest. u.says i (λ m. put g down z w m i rest); room = tt })

  -- ---- a record
  module _ (ws : List ℕ) (path i : ℕ) (from : Reached) (before : k.Held) where
    pub other_path : (path_of ws i ≡ path → ⊥) → from.at ≤ k.size before → Steps k g ws path i from before (Ok from) before
    unfolding export_from
    other_path ne h = record { says = λ n. rw (ne_eqb (path_of ws i) path ne); room = h }

    module _ (is : path_of ws i ≡ path) where
      -- the line of record i, before the records behind it
      turned : (n : ℕ) → export_from g path ws (k.size before - from.at) from.last (suc n) i
          ≡ put_line g (goes_on from.last (word ws i 2) (word ws i 3)) (word ws i 2) (word ws i 3) (word ws i 4) (word ws i 5) (k.size before - from.at) i
          (λ m. export_from g path ws m (Some (word ws i 4, word ws i 5)) n (suc i))
      unfolding export_from
      turned n = rw (eq-eqb (path_of ws i) path is)

      abbrev step_of : Result ℕ Stop → ℕ → ℕ → Result Reached Stop
      step_of (Ok a) z w = Ok (record { at = a; last = Some (z, w) })
      step_of (Err e) z w = Err e

      by_result : (q : Result ℕ Stop) (after : k.Held) → Continues k (put_line g (goes_on from.last (word ws i 2) (word ws i 3)) (word ws i 2) (word ws i 3) (word ws i 4) (word ws i 5)) before from.at q after → Steps k g ws path i from before (step_of q (word ws i 4) (word ws i 5)) after
      by_result (Ok a) after c = record { says = λ n. ap (k.end from.at before) (turned n) ∙ c.says i (λ m. export_from g path ws m (Some (word ws i 4, word ws i 5)) n (suc i)); room = c.room }
      by_result (Err e) after c = record { says = λ n. ap (k.end from.at before) (turned n) ∙ c.says i (λ m. export_from g path ws m (Some (word ws i 4, word ws i 5)) n (suc i)); room = tt }

      pub its_line : (l : Line) (b : Bool) → l ≡ line_at ws i → b ≡ goes_on from.last l.x l.y → (q : Result ℕ Stop) (after : k.Held) → Continues k (put_line g b l.x l.y l.z l.w) before from.at q after → Steps k g ws path i from before (step_of q l.z l.w) after
      its_line l b el eb q after c = rw el (by_result q after (rw (eb, el) at c))

-- ---- the records left
unfoldable pub left : (k : Sink) → Range → List ℕ → ℕ → k.Held → ℕ → Last → ℕ → k.Told
left k g ws path h at last i = k.end at h (export_from g path ws (k.size h - at) last (count ws - i) i)

module _ (k : Sink) (g : Range) (ws : List ℕ) (path : ℕ) (held : k.Held) (from : Reached) (i : ℕ) where
  pub none_left : count ws ≤ i → k.say (Ok from.at) held ≡ left k g ws path held from.at from.last i
  unfolding left export_from answer_of
  none_left h = rw (let e : count ws - i ≡ 0 = omega arith in e, left) (sym (k.nothing from.at held written))

  module _ (h : i < count ws) (q : Result Reached Stop) (after : k.Held) (s : Steps k g ws path i from held q after) where
    one_less : left k g ws path held from.at from.last i ≡ stepped_to k g ws path i (count ws - suc i) q after
    unfolding left
    one_less = rw (let e : count ws - i ≡ suc (count ws - suc i) = omega arith in e, left) (s.says (count ws - suc i))

    pub record_on : (r : Reached) → q ≡ Ok r → left k g ws path after r.at r.last (i + 1) ≡ left k g ws path held from.at from.last i
    unfolding left
    record_on r e = rw (add-one i) (sym (rw e at one_less))

    pub record_stopped : (e : Stop) → q ≡ Err e → k.say (Err (in_record e i)) after ≡ left k g ws path held from.at from.last i
    record_stopped e f = sym (rw f at one_less)

    pub step_room : (r : Reached) → q ≡ Ok r → r.at ≤ k.size after
    step_room r e = rw e at s.room

-- what holds before each record, from where the loop began
pub record Going (k : Sink) (g : Range) (ws : List ℕ) (path : ℕ) (held₀ : k.Held) (start : ℕ) (held : k.Held) (from : Reached) (i : ℕ) : Type 0 where
  pub same : left k g ws path held from.at from.last i ≡ left k g ws path held₀ start None 0
  pub room : from.at ≤ k.size held

-- ---- the whole file
module _ (ws : List ℕ) (path : ℕ) where
  module _ (bs : List ℕ) where
    pub no_opening : length bs < 3 → outcome (Err (NoRoom 0 0)) bs ≡ cut_of path ws bs
    unfolding cut_of export_of finish answer_of
    no_opening h = rw (lt-ltb (length bs) 3 h)

    pub opened : 3 ≤ length bs → left in_bytes (range_of New) ws path (sets bs 0 (73 ∷ 78 ∷ 59 ∷ [])) 3 None 0 ≡ cut_of path ws bs
    unfolding cut_of export_of left
    opened h =
        rw (le-ltb (length bs) 3 h, length-sets bs 0 (73 ∷ 78 ∷ 59 ∷ []), sub-zero (count ws))
        (sym (stored_finish {xs = 73 ∷ 78 ∷ 59 ∷ []} (record { place = refl; bytes = refl }) (export_from (range_of New) path ws (length bs - 3) None (count ws) 0)))

  module _ (table : Table) (room : ℕ) where
    pub no_look : room < 3 → Err (NoRoom 0 0) ≡ look_of table path room ws
    unfolding look_of export_of answer_of
    no_look h = rw (lt-ltb room 3 h)

    pub looked : 3 ≤ room → left only_counted (range_of table) ws path room 3 None 0 ≡ look_of table path room ws
    unfolding look_of export_of left
    looked h =
        rw (le-ltb room 3 h, sub-zero (count ws))
        (sym (counted_behind (73 ∷ 78 ∷ 59 ∷ []) 0 3 refl (export_from (range_of table) path ws (room - 3) None (count ws) 0)))
