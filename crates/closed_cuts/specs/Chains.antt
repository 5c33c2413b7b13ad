-- The cut of a path is what its segments draw, and each chain of a closed cut ends where it began: the theorems. What they speak of is defined in Closed.antt. Assumes nothing.
use Prim.Native.Nat.{ℕ, zero, suc, ◌+◌, ◌≤◌, ◌<◌}
use Rattle.std.specs.Prelude.{◌≡◌, Bool, not, ◌&&◌, cond, T, eqb, get_or, take, drop}
use Rattle.std.proofs.Math.Path.{refl, sym, ap, subst}
use Rattle.std.proofs.Common.{◌∙◌, zero-add, eqb→eq, get_or-drop, drop-drop, eq-eqb, ne_eqb}
use Rattle.std.proofs.Math.Logic.{inl, inr}
use Rattle.std.proofs.Math.Bool.{true, false}
use Rattle.std.proofs.lemmas.Bool.{false≢true}
use mathlib.Core.List.{List, [], ◌∷◌, ◌++◌, append_assoc}
use native.Mathlib.Omega.{arith}
use Rattle.std.proofs.Math.ListN.{length}
use Rattle.std.specs.Float.{binary32}
use Rattle.std.specs.Float.Ieee.{to_bits}
use Rattle.records.specs.Record.{place_of, count, word, path_of}
use Rattle.records.specs.RecordLaws.{word_among}
use Rattle.spiral.specs.declared.util.Vec2.{Vec2}
use Rattle.drawing.specs.Sheet.{Event, line, no_count, no_join}
use Rattle.drawing.specs.Stands.{records_of}
use Rattle.curve.specs.Chain.{Chain}
use Rattle.flatten.specs.Tag.{events_by, events_at}
use Rattle.flatten.specs.Step.{tag_word}
use Rattle.watertight.specs.Balance.{AllLines}
use Rattle.watertight.specs.Fill.{Call, Accepted, outcome, tags, path_at, type_of, events_or, drawn_at, lines_of, count_before}
use Rattle.watertight.specs.Accepted.{records_at, done}
use Rattle.watertight.specs.Stored.{place}
use Rattle.watertight.specs.Watertight.{one_chain}
use Rattle.own_lists.specs.Fills.{list_of, Outline, ClosedFill, EachOutline, tags_of}
use Rattle.own_lists.proofs.Pass.{records}
use Rattle.hpgl.specs.Text.{pick}
use Rattle.hpgl.specs.Form.{file_text, Line, AllClosed, Range}
use Rattle.hpgl.specs.Form.{lines_of as chainLines, Chain as Cut}
use Rattle.hpgl.specs.Rounding.{Taken, point_of}
use Rattle.hpgl.specs.Export.{export_of, rounded_from, rounded_lines}
use Rattle.hpgl.specs.RoundTrip.{is_written}
use Rattle.hpgl.specs.Taken.{all_taken}
use Rattle.hpgl.specs.Loops.{Turn, Within, First, Loops, export_closed}
use Rattle.closed_cuts.specs.Closed.{segments_from, ClosedInOrder, rounded, AllTaken}

-- ---- the lines of a path among records

abbrev wx : Vec2 → ℕ
wx p = to_bits binary32 p.x

abbrev wy : Vec2 → ℕ
wy p = to_bits binary32 p.y

-- record i is of the path and the first of these lines, or of another path
abbrev ReadBy : Bool → (List Event → Type 0) → ℕ → ℕ → ℕ → ℕ → List Event → Type 0
ReadBy false next u v z w es = next es
ReadBy true next u v z w [] = ⊥
ReadBy true next u v z w (line p q ∷ es) = (u ≡ wx p) × (v ≡ wy p) × (z ≡ wx q) × (w ≡ wy q) × next es
ReadBy true next u v z w (no_count ∷ es) = ⊥
ReadBy true next u v z w (no_join ∷ es) = ⊥

-- among n records from record i on those of the path are these lines
unfoldable Reads : ℕ → List ℕ → ℕ → ℕ → List Event → Type 0
Reads path ws zero i es = es ≡ []
Reads path ws (suc n) i es = ReadBy (eqb (path_of ws i) path) (Reads path ws n (suc i)) (word ws i 2) (word ws i 3) (word ws i 4) (word ws i 5) es

-- ---- lines that are chains, each back to where it starts

record Loop (es : List Event) : Type 0 where
  from : Vec2
  chain : Chain false from from es

unfoldable Each : List (List Event) → Type 0
Each [] = Unit {0}
Each (g ∷ gs) = Loop g × Each gs

unfoldable all : List (List Event) → List Event
all [] = []
all (g ∷ gs) = g ++ all gs

module _ (next : List Event → Type 0) (step : ℕ → ℕ → ℕ → ℕ → Type 0) (u v z w : ℕ)
    (holds : (p q : Vec2) (xs : List Event) (gs : List (List Event)) → Chain false p q xs → Each gs → next (xs ++ all gs) → step (wx q) (wy q) (wx p) (wy p)) where
  -- the first line of the loops that are left begins one
  begins : (gs : List (List Event)) → Each gs → ReadBy true next u v z w (all gs) → step u v z w
  unfolding all Each Chain
  begins [] h r = absurd r
  begins ([] ∷ gs) h r = begins gs h.1 r
  begins ((line p q ∷ g) ∷ gs) h r =
      let k = h.0.chain in
      let s = holds q h.0.from g gs k.1 h.1 r.4 in
      rw (r.0, r.1, r.2, r.3, k.0) s
  begins ((no_count ∷ g) ∷ gs) h r = absurd r
  begins ((no_join ∷ g) ∷ gs) h r = absurd r

  turned : (own : Bool) → (p q : Vec2) (xs : List Event) (gs : List (List Event)) → Chain false p q xs → Each gs → ReadBy own next u v z w (xs ++ all gs) → Turn own step u v z w (wx q) (wy q) (wx p) (wy p)
  unfolding Chain
  turned false p q xs gs k h r = holds p q xs gs k h r
  turned true p q [] gs k h r = inr (ap wx k, ap wy k, begins gs h r)
  turned true p q (line s t ∷ xs) gs k h r = inl (ap wx (sym k.0) ∙ sym r.0, ap wy (sym k.0) ∙ sym r.1, rw (r.2, r.3) (holds t q xs gs k.1 h r.4))
  turned true p q (no_count ∷ xs) gs k h r = absurd r
  turned true p q (no_join ∷ xs) gs k h r = absurd r

nothing_left : (xs : List Event) (gs : List (List Event)) (p q : Vec2) → Chain false p q xs → xs ++ all gs ≡ [] → p ≡ q
unfolding Chain
nothing_left [] gs p q k e = k
nothing_left (x ∷ xs) gs p q k e = let z : ◌≡◌ {A = ℕ} 0 1 = cc in absurd (omega arith)

module _ (path : ℕ) (ws : List ℕ) where
  within : (n i : ℕ) (p q : Vec2) (xs : List Event) (gs : List (List Event)) → Chain false p q xs → Each gs → Reads path ws n i (xs ++ all gs) → Within path ws n i (wx q) (wy q) (wx p) (wy p)
  unfolding Reads Within
  within zero i p q xs gs k h r = let e = nothing_left xs gs p q k r in (ap wx e, ap wy e)
  within (suc n) i p q xs gs k h r =
      turned (Reads path ws n (suc i)) (Within path ws n (suc i)) (word ws i 2) (word ws i 3) (word ws i 4) (word ws i 5)
      (within n (suc i)) (eqb (path_of ws i) path) p q xs gs k h r

  firsts : (n i : ℕ) (gs : List (List Event)) → Each gs → (own : Bool) → (Reads path ws n (suc i) (all gs) → Loops path ws n (suc i))
      → ReadBy own (Reads path ws n (suc i)) (word ws i 2) (word ws i 3) (word ws i 4) (word ws i 5) (all gs)
      → First own (Loops path ws n (suc i)) (Within path ws n (suc i) (word ws i 2) (word ws i 3) (word ws i 4) (word ws i 5))
  firsts n i gs h false k r = k r
  firsts n i gs h true k r =
      begins (Reads path ws n (suc i)) (Within path ws n (suc i)) (word ws i 2) (word ws i 3) (word ws i 4) (word ws i 5) (within n (suc i)) gs h r

  read_loops : (n i : ℕ) (gs : List (List Event)) → Each gs → Reads path ws n i (all gs) → Loops path ws n i
  unfolding Reads Loops
  read_loops zero i gs h r = tt
  read_loops (suc n) i gs h r = firsts n i gs h (eqb (path_of ws i) path) (read_loops n (suc i) gs h) r

-- ---- the records of a tag

module _ (path : ℕ) (ws : List ℕ) where
  word_is : (i k : ℕ) (xs : List ℕ) → drop (place_of i) ws ≡ xs → word ws i k ≡ get_or xs k 0
  word_is i k xs e = sym (get_or-drop (place_of i) ws k 0) ∙ ap (λ (l : List ℕ). get_or l k 0) e

  behind : (i a b c d e f : ℕ) (xs : List ℕ) → drop (place_of i) ws ≡ a ∷ b ∷ c ∷ d ∷ e ∷ f ∷ xs → drop (place_of (suc i)) ws ≡ xs
  behind i a b c d e f xs h =
      let at : place_of (suc i) ≡ place_of i + 6 = omega arith in
      ap (λ (n : ℕ). drop n ws) at ∙ sym (drop-drop 6 (place_of i) ws) ∙ ap (drop 6) h

  moved : (n m i j : ℕ) (es : List Event) → n ≡ m → i ≡ j → Reads path ws n i es → Reads path ws m j es
  moved n m i j es e f r = subst (λ (k : ℕ). Reads path ws k j es) e (subst (λ (k : ℕ). Reads path ws n k es) f r)

  none_drawn : (n i : ℕ) (es more : List Event) → es ≡ [] → Reads path ws n (i + length es) more → Reads path ws (length es + n) i more
  none_drawn n i es more e r =
      let z : length es ≡ 0 = ap length e in
      moved n (length es + n) (i + length es) i more (omega (arith, z)) (omega (arith, z)) r

  module _ (m i : ℕ) (es : List Event) (xs : List ℕ) (e : drop (place_of i) ws ≡ xs) where
    abbrev By : Bool → List Event → Type 0
    By b = ReadBy b (Reads path ws m (suc i)) (word ws i 2) (word ws i 3) (word ws i 4) (word ws i 5)

    own_record : (p q : Vec2) → get_or xs 0 0 ≡ path → get_or xs 2 0 ≡ wx p → get_or xs 3 0 ≡ wy p → get_or xs 4 0 ≡ wx q → get_or xs 5 0 ≡ wy q → Reads path ws m (suc i) es → Reads path ws (suc m) i (line p q ∷ es)
    unfolding Reads
    own_record p q h a b c d r =
        subst (λ (t : Bool). By t (line p q ∷ es)) (sym (eq-eqb (path_of ws i) path (word_is i 0 xs e ∙ h)))
        (word_is i 2 xs e ∙ a, word_is i 3 xs e ∙ b, word_is i 4 xs e ∙ c, word_is i 5 xs e ∙ d, r)

    other_record : (get_or xs 0 0 ≡ path → ⊥) → Reads path ws m (suc i) es → Reads path ws (suc m) i es
    unfolding Reads
    other_record ne r = subst (λ (t : Bool). By t es) (sym (ne_eqb (path_of ws i) path (λ h. ne (sym (word_is i 0 xs e) ∙ h)))) r

  module _ (n tag : ℕ) (more : List Event) (rest : List ℕ) where
    own_drawn : (i : ℕ) (es : List Event) → AllLines es → drop (place_of i) ws ≡ records_of path tag (length es) es ++ rest → Reads path ws n (i + length es) more → Reads path ws (length es + n) i (es ++ more)
    unfolding AllLines records_of
    own_drawn i [] l e r = none_drawn n i [] more refl r
    own_drawn i (line p q ∷ es) l e r =
        moved (suc (length es + n)) (suc (length es) + n) i i (line p q ∷ (es ++ more)) (omega arith) refl
        (own_record (length es + n) i (es ++ more) _ e p q refl refl refl refl refl
        (own_drawn (suc i) es l (behind i _ _ _ _ _ _ _ e) (moved n n (i + suc (length es)) (suc i + length es) more refl (omega arith) r)))
    own_drawn i (no_count ∷ es) l e r = absurd l
    own_drawn i (no_join ∷ es) l e r = absurd l

    module _ (other : ℕ) (ne : other ≡ path → ⊥) where
      other_drawn : (i : ℕ) (es : List Event) → AllLines es → drop (place_of i) ws ≡ records_of other tag (length es) es ++ rest → Reads path ws n (i + length es) more → Reads path ws (length es + n) i more
      unfolding AllLines records_of
      other_drawn i [] l e r = none_drawn n i [] more refl r
      other_drawn i (line p q ∷ es) l e r =
          moved (suc (length es + n)) (suc (length es) + n) i i more (omega arith) refl
          (other_record (length es + n) i more _ e ne
          (other_drawn (suc i) es l (behind i _ _ _ _ _ _ _ e) (moved n n (i + suc (length es)) (suc i + length es) more refl (omega arith) r)))
      other_drawn i (no_count ∷ es) l e r = absurd l
      other_drawn i (no_join ∷ es) l e r = absurd l

-- words behind the records do not matter
read_map : (b : Bool) (u v z w : ℕ) (P Q : List Event → Type 0) → ((es : List Event) → P es → Q es) → (es : List Event) → ReadBy b P u v z w es → ReadBy b Q u v z w es
read_map false u v z w P Q f es r = f es r
read_map true u v z w P Q f [] r = r
read_map true u v z w P Q f (line p q ∷ es) r = (r.0, r.1, r.2, r.3, f es r.4)
read_map true u v z w P Q f (no_count ∷ es) r = r
read_map true u v z w P Q f (no_join ∷ es) r = r

among : (path : ℕ) (ws : List ℕ) (m n i : ℕ) (es : List Event) → i + n ≤ m → Reads path ws n i es → Reads path (take (place_of m) ws) n i es
unfolding Reads
among path ws m zero i es h r = r
among path ws m (suc n) i es h r =
    let w : (k : ℕ) → k < 6 → word (take (place_of m) ws) i k ≡ word ws i k = λ k l. word_among ws m i k (omega arith) l in
    rw (w 0 (omega arith), w 2 (omega arith), w 3 (omega arith), w 4 (omega arith), w 5 (omega arith))
    (read_map (eqb (path_of ws i) path) (word ws i 2) (word ws i 3) (word ws i 4) (word ws i 5) (Reads path ws n (suc i)) (Reads path (take (place_of m) ws) n (suc i))
    (λ es. among path ws m n (suc i) es (omega arith)) es r)

-- ---- tag by tag
module _ (c : Call) (a : Accepted c) (path : ℕ) where
  nothing_drawn : (i : ℕ) → i < tags c → eqb (type_of c i) 0 ≡ true → drawn_at c i ≡ []
  unfolding events_at events_by events_or
  nothing_drawn i h e = ap events_or (sym ((done c a).sound i h).events) ∙ rw e

  -- how many lines t tags from tag j on draw
  unfoldable drawn_by : ℕ → ℕ → ℕ
  drawn_by zero j = 0
  drawn_by (suc t) j = length (drawn_at c j) + drawn_by t (suc j)

  drawn_by_lem : (t j : ℕ) → count_before c j + drawn_by t j ≡ count_before c (j + t)
  unfolding drawn_by count_before
  drawn_by_lem zero j = let e : j + 0 ≡ j = omega arith in rw e (omega arith)
  drawn_by_lem (suc t) j = let e : j + suc t ≡ suc j + t = omega arith in rw e (omega (arith, drawn_by_lem t (suc j)))

  drawn_sum : drawn_by (tags c) 0 ≡ a.count
  unfolding count_before
  drawn_sum = sym (zero-add (drawn_by (tags c) 0)) ∙ drawn_by_lem (tags c) 0 ∙ ap (count_before c) (zero-add (tags c)) ∙ sym (done c a).counted

  module _ (j n : ℕ) (h : j < tags c) (more : List ℕ) (r : Reads path (outcome c).lines n (count_before c j + length (drawn_at c j)) (lines_of c more)) where
    abbrev Goal : List ℕ → Type 0
    Goal js = Reads path (outcome c).lines (length (drawn_at c j) + n) (count_before c j) (lines_of c js)

    own_tag : path_at c j ≡ path → Goal (j ∷ more)
    unfolding lines_of
    own_tag e =
        let p = place c a j h in
        own_drawn path (outcome c).lines n (tag_word j) (lines_of c more) p.rest (count_before c j) (drawn_at c j) ((done c a).sound j h).lines
        (p.is ∙ (unfold records_at in ap (λ (k : ℕ). records_of k (tag_word j) (length (drawn_at c j)) (drawn_at c j) ++ p.rest) e)) r

    other_tag : (path_at c j ≡ path → ⊥) → Goal more
    unfolding records_at
    other_tag ne =
        let p = place c a j h in
        other_drawn path (outcome c).lines n (tag_word j) (lines_of c more) p.rest (path_at c j) ne (count_before c j) (drawn_at c j) ((done c a).sound j h).lines p.is r

    empty_tag : eqb (type_of c j) 0 ≡ true → Goal more
    empty_tag e = none_drawn path (outcome c).lines n (count_before c j) (drawn_at c j) (lines_of c more) (nothing_drawn j h e) r

    -- by its type and its path
    by_kind : (none own : Bool) → eqb (type_of c j) 0 ≡ none → eqb (path_at c j) path ≡ own → Goal (cond (not none && own) (j ∷ more) more)
    by_kind true own e f = empty_tag e
    by_kind false true e f = own_tag (eqb→eq (path_at c j) path (subst T (sym f) tt))
    by_kind false false e f = other_tag (λ k. false≢true (sym f ∙ eq-eqb (path_at c j) path k))

  reads : (t j : ℕ) → j + t ≤ tags c → Reads path (outcome c).lines (drawn_by t j) (count_before c j) (lines_of c (segments_from c path t j))
  unfolding drawn_by segments_from lines_of Reads count_before
  reads zero j h = refl
  reads (suc t) j h = by_kind j (drawn_by t (suc j)) (omega arith) (segments_from c path t (suc j)) (reads t (suc j) (omega arith)) (eqb (type_of c j) 0) (eqb (path_at c j) path) refl refl

-- ---- outline by outline
module _ (c : Call) (a : Accepted c) where
  unfoldable groups : List Outline → List (List Event)
  groups [] = []
  groups (o ∷ os) = lines_of c (o.first ∷ o.behind) ∷ groups os

  lines_append : (is js : List ℕ) → lines_of c (is ++ js) ≡ lines_of c is ++ lines_of c js
  unfolding lines_of
  lines_append [] js = refl
  lines_append (i ∷ is) js = ap (λ (es : List Event). drawn_at c i ++ es) (lines_append is js) ∙ sym (append_assoc (drawn_at c i) (lines_of c is) (lines_of c js))

  grouped : (os : List Outline) → lines_of c (tags_of os) ≡ all (groups os)
  unfolding tags_of groups all lines_of
  grouped [] = refl
  grouped (o ∷ os) = lines_append (o.first ∷ o.behind) (tags_of os) ∙ ap (λ (es : List Event). lines_of c (o.first ∷ o.behind) ++ es) (grouped os)

  each_loop : (os : List Outline) → EachOutline (ClosedFill c) os → Each (groups os)
  unfolding EachOutline groups Each
  each_loop [] h = tt
  each_loop (o ∷ os) h =
      let k = one_chain c a o.first o.behind h.0.run h.0.closed in
      (record { from = k.0; chain = k.2 }, each_loop os h.1)

-- ---- the records of the path, in the list that the call left
own_records : (c : Call) (a : Accepted c) (path : ℕ) → Reads path (list_of c a) (count (list_of c a)) 0 (lines_of c (segments_from c path (tags c) 0))
unfolding count_before
own_records c a path =
    let n : drawn_by c a path (tags c) 0 ≡ a.count = drawn_sum c a path in
    let read = among path (outcome c).lines a.count (drawn_by c a path (tags c) 0) 0 _ (omega (arith, n)) (reads c a path (tags c) 0 (omega arith)) in
    moved path (list_of c a) _ _ 0 0 _ (n ∙ sym (records c a)) refl read

by_record : (own : Bool) (next : List Event → Type 0) (u v z w : ℕ) (ls : List Line) → ((es : List Event) → next es → ls ≡ rounded es)
    → (es : List Event) → ReadBy own next u v z w es → pick own (record { from = point_of u v; to = point_of z w } ∷ ls) ls ≡ rounded es
unfolding rounded
by_record false next u v z w ls h es r = h es r
by_record true next u v z w ls h [] r = absurd r
by_record true next u v z w ls h (line p q ∷ es) r = rw (r.0, r.1, r.2, r.3, h es r.4)
by_record true next u v z w ls h (no_count ∷ es) r = absurd r
by_record true next u v z w ls h (no_join ∷ es) r = absurd r

read_rounded : (path : ℕ) (ws : List ℕ) (n i : ℕ) (es : List Event) → Reads path ws n i es → rounded_from path ws n i ≡ rounded es
unfolding Reads rounded_from rounded
read_rounded path ws zero i es r = rw r
read_rounded path ws (suc n) i es r =
    by_record (eqb (path_of ws i) path) (Reads path ws n (suc i)) (word ws i 2) (word ws i 3) (word ws i 4) (word ws i 5) (rounded_from path ws n (suc i)) (read_rounded path ws n (suc i)) es r

-- ---- the theorem: the lines that are cut of a path are those that its segments draw, in order, and no others
pub lines_are : (c : Call) (a : Accepted c) (path : ℕ) → rounded_lines path (list_of c a) ≡ rounded (lines_of c (segments_from c path (tags c) 0))
unfolding rounded_lines
lines_are c a path = read_rounded path (list_of c a) (count (list_of c a)) 0 _ (own_records c a path)

by_taken : (r : Range) (own : Bool) (next : List Event → Type 0) (u v z w : ℕ) → (T own → Taken r u v × Taken r z w) → ((es : List Event) → next es → AllTaken r es)
    → (es : List Event) → ReadBy own next u v z w es → AllTaken r es
unfolding AllTaken
by_taken r false next u v z w g h es k = h es k
by_taken r true next u v z w g h [] k = absurd k
by_taken r true next u v z w g h (line p q ∷ es) k =
    let b = g tt in
    let start = subst (λ (y : ℕ). Taken r (wx p) y) k.1 (subst (λ (x : ℕ). Taken r x v) k.0 b.0) in
    let end = subst (λ (y : ℕ). Taken r (wx q) y) k.3 (subst (λ (x : ℕ). Taken r x w) k.2 b.1) in
    (start, end, h es k.4)
by_taken r true next u v z w g h (no_count ∷ es) k = absurd k
by_taken r true next u v z w g h (no_join ∷ es) k = absurd k

read_taken : (r : Range) (path : ℕ) (ws : List ℕ) (n i : ℕ) (es : List Event)
    → ((j : ℕ) → i ≤ j → j < i + n → T (eqb (path_of ws j) path) → Taken r (word ws j 2) (word ws j 3) × Taken r (word ws j 4) (word ws j 5)) → Reads path ws n i es → AllTaken r es
unfolding Reads AllTaken
read_taken r path ws zero i es g k = subst (AllTaken r) (sym k) tt
read_taken r path ws (suc n) i es g k =
    by_taken r (eqb (path_of ws i) path) (Reads path ws n (suc i)) (word ws i 2) (word ws i 3) (word ws i 4) (word ws i 5) (g i (omega arith) (omega arith))
    (λ es. read_taken r path ws n (suc i) es (λ j a b. g j (omega arith) (omega arith))) es k

-- ---- the theorem: where a path was exported for a table, what its segments draw are lines of numbers that the table takes, so that nothing that is no number was taken for 0
pub lines_taken : (r : Range) (c : Call) (a : Accepted c) (path room : ℕ) → T (is_written (export_of r path room (list_of c a)).verdict) → AllTaken r (lines_of c (segments_from c path (tags c) 0))
lines_taken r c a path room w =
    read_taken r path (list_of c a) (count (list_of c a)) 0 _ (λ j g l. all_taken r path (list_of c a) room w j (omega (arith, l))) (own_records c a path)

-- ---- the theorem: each chain of the cut of a path whose outlines are closed, one behind the other, ends where it began
pub chains_close : (r : Range) (c : Call) (a : Accepted c) (path : ℕ) → ClosedInOrder c path → (room : ℕ) → T (is_written (export_of r path room (list_of c a)).verdict)
    → (cs : List Cut) × ((export_of r path room (list_of c a)).bytes ≡ file_text cs) × (rounded_lines path (list_of c a) ≡ chainLines cs) × AllClosed cs
chains_close r c a path f room w =
    export_closed r path room (list_of c a)
    (read_loops path (list_of c a) (count (list_of c a)) 0 (groups c a f.outlines) (each_loop c a f.outlines f.closed_fills)
    (subst (Reads path (list_of c a) (count (list_of c a)) 0) (ap (lines_of c) f.in_order ∙ grouped c a f.outlines) (own_records c a path))) w
