-- A scene that passes on a fresh scan, and whose call is accepted, is watertight subpath by subpath, and each segment belongs to one subpath. Assumes nothing.
use Prim.Native.Nat.{ℕ, zero, suc, ◌+◌, ◌*◌, ◌%◌, ◌<◌, ◌≤◌}
use Rattle.std.proofs.Math.Path.{◌≡◌, refl, sym, ap}
use Rattle.std.proofs.Common.{◌∙◌, subst}
use Rattle.std.specs.Prelude.{Bool, not, ◌&&◌, ◌||◌, length, Float, Ok}
use Rattle.std.proofs.Math.Bool.{true, false, cond}
use mathlib.Core.List.{List, [], ◌∷◌, ◌++◌, flatten, append-nil, append_assoc}
use native.Mathlib.Omega.{arith}
use Rattle.std.proofs.Math.Decide.{ℕ_discrete}
use Rattle.std.proofs.Math.Dec.{eqb}
use borrow.Author.Tests.{eqb-true, eqb-false, eq-eqb, ne_eqb}
use Rattle.records.specs.Record.{once}
use Rattle.spiral.specs.Util.{eq_of}
use Rattle.spiral.specs.Points.{FitsPoint, eq→same_point, apply_same, identity_same}
use Rattle.spiral.specs.declared.util.Vec2.{Vec2}
use Rattle.drawing.specs.Sheet.{Event}
use Rattle.curve.specs.Chain.{written}
use Rattle.scene.specs.Reading.{floats_at, flags_of}
use Rattle.scene.specs.declared.tags.PathTagData.{PathTagData}
use Rattle.scene.specs.Points.{point_fits}
use Rattle.flatten.specs.Tag.{is_stroke, events_by, events_at}
use Rattle.flatten.specs.Found.{head_parts}
use Rattle.flatten.specs.declared.tag.Head.{Head}
use Rattle.pattern.specs.Every.{Every, none, more}
use Rattle.profile.specs.Reads.{Given}
use Rattle.profile.specs.Rules.{head_of, has_segment, has_end, six_at, six_words, same_words, aligned_to, point_of, first_of, last_of, segments, open_at, beginning, leading, facts_at, broken70, broken73, broken74}
use Rattle.watertight.specs.Count.{starts_by, ends_by, is_at, bits_are}
use Rattle.watertight.specs.Balance.{open_ends, starts_append, ends_append}
use Rattle.watertight.specs.Fill.{Call, Accepted, tags, drawn_at, Each, lines_of, transform_words, read_events, written_by}
use Rattle.watertight.specs.Fill as fills
use Rattle.watertight.specs.FillLaws.{six_words_lem, fill_chain_of}
use Rattle.watertight.specs.Accepted.{done}
use Rattle.watertight.specs.Stored.{as_drawn, CountedBy}
use Rattle.outlines.specs.Placing.{FreshCall, Watertight}
use Rattle.laid_up.specs.Sheet.{scene_of, Passes, head_at, segments_to, open_to, subpaths_to, tags_to, all_segments, all_subpaths, all_tags}
use Rattle.laid_up.specs.Points.{not_seg, and_left, facts, its_parts, point_here, starts_here, ends_there, stays_there}

-- ---- lists

every_more : {A : Type 0} {P : A → Type 0} {xs : List A} {x : A} → Every P xs → P x → Every P (xs ++ (x ∷ []))
every_more none h = more h none
every_more (more k ks) h = more k (every_more ks h)

flatten_more : {A : Type 0} (xss : List (List A)) (xs : List A) → flatten (xss ++ (xs ∷ [])) ≡ flatten xss ++ xs
unfolding flatten
flatten_more [] xs = append-nil xs
flatten_more {A = A} (ys ∷ xss) xs = ap (λ (zs : List A). ys ++ zs) (flatten_more xss xs) ∙ sym (append_assoc ys (flatten xss) xs)

each_more : (P : ℕ → Type 0) (is : List ℕ) (i : ℕ) → Each P is → P i → Each P (is ++ (i ∷ []))
unfolding Each
each_more P [] i h k = (k, tt)
each_more P (j ∷ is) i h k = (h.0, each_more P is i h.1 k)

every_each : (P Q : ℕ → Type 0) → ((j : ℕ) → P j → Q j) → (is : List ℕ) → Each P is → Each Q is
unfolding Each
every_each P Q f [] h = tt
every_each P Q f (i ∷ is) h = (f i h.0, every_each P Q f is h.1)

first_of_lem : {A : Type 0} {P : A → Type 0} {x : A} {xs : List A} → Every P (x ∷ xs) → P x
first_of_lem (more h k) = h

rest_of : {A : Type 0} {P : A → Type 0} {x : A} {xs : List A} → Every P (x ∷ xs) → Every P xs
rest_of (more h k) = k

-- what holds of each, however it is counted
every_all : {A K : Type 0} {P : K → A → Type 0} (xs : List A) → ((k : K) → Every (P k) xs) → Every (λ x. (k : K) → P k x) xs
every_all [] h = none
every_all (x ∷ xs) h = more (λ k. first_of_lem (h k)) (every_all xs (λ k. rest_of (h k)))

both_every : {A : Type 0} {P Q R : A → Type 0} {xs : List A} → ((x : A) → P x → Q x → R x) → Every P xs → Every Q xs → Every R xs
both_every f none none = none
both_every f (more {x} h k) (more h' k') = more (f x h h') (both_every f k k')

-- ---- each segment belongs to one subpath

module _ (c : Call) where
  -- the tags of the finished subpaths in order, and those of the open one, are all the segments so far
  one_each : (i : ℕ) → flatten (subpaths_to c i) ++ open_to c i ≡ segments_to c i
  unfolding subpaths_to open_to segments_to flatten
  one_each zero = refl
  one_each (suc i) = go (one_each i) (has_segment (head_at c i)) (has_end (head_at c i))
    where
      go : flatten (subpaths_to c i) ++ open_to c i ≡ segments_to c i → (s e : Bool) → flatten (subpaths_to c i ++ cond (s && e) ((open_to c i ++ (i ∷ [])) ∷ []) []) ++ cond s (cond e [] (open_to c i ++ (i ∷ []))) (open_to c i) ≡ segments_to c i ++ cond s (i ∷ []) []
      go k false e = ap (λ (xss : List (List ℕ)). flatten xss ++ open_to c i) (append-nil (subpaths_to c i)) ∙ k ∙ sym (append-nil (segments_to c i))
      go k true true =
          append-nil _ ∙ flatten_more (subpaths_to c i) (open_to c i ++ (i ∷ []))
          ∙ sym (append_assoc (flatten (subpaths_to c i)) (open_to c i) (i ∷ [])) ∙ ap (λ (xs : List ℕ). xs ++ (i ∷ [])) k
      go k true false =
          ap (λ (xss : List (List ℕ)). flatten xss ++ (open_to c i ++ (i ∷ []))) (append-nil (subpaths_to c i))
          ∙ sym (append_assoc (flatten (subpaths_to c i)) (open_to c i) (i ∷ [])) ∙ ap (λ (xs : List ℕ). xs ++ (i ∷ [])) k

  -- where nothing is open, no tag is
  shut_none : (i : ℕ) → open_at (scene_of c) i ≡ false → open_to c i ≡ []
  unfolding open_at open_to
  shut_none zero e = refl
  shut_none (suc i) o = go (shut_none i) (has_segment (head_at c i)) (has_end (head_at c i)) o
    where
      go : (open_at (scene_of c) i ≡ false → open_to c i ≡ []) → (s e : Bool) → cond s (not e) (open_at (scene_of c) i) ≡ false → cond s (cond e [] (open_to c i ++ (i ∷ []))) (open_to c i) ≡ []
      go k false e h = k h
      go k true true h = refl
      go k true false h = let z : ◌≡◌ {A = ℕ} 0 1 = cc in absurd (omega arith)

-- ---- no subpath is left open

-- the last segment before tag n, where that leaves its subpath open
record LastOpen (g : Given) (n : ℕ) : Type 0 where
  at : ℕ
  before : at < n
  segment : has_segment (head_of g at) ≡ true
  no_end : has_end (head_of g at) ≡ false
  last : segments g n ≡ segments g (suc at)

pub begins_here : (g : Given) (i : ℕ) → open_at g i ≡ false → beginning g i ≡ i
unfolding beginning
begins_here g zero e = refl
begins_here g (suc i) e = rw e

last_open : (g : Given) (n : ℕ) → open_at g n ≡ true → LastOpen g n
unfolding open_at segments once
last_open g zero e = let z : ◌≡◌ {A = ℕ} 0 1 = cc in absurd (omega arith)
last_open g (suc n) o = go (last_open g n) (has_segment (head_of g n)) (has_end (head_of g n)) refl refl o
  where
    go : (open_at g n ≡ true → LastOpen g n) → (s e : Bool) → has_segment (head_of g n) ≡ s → has_end (head_of g n) ≡ e → cond s (not e) (open_at g n) ≡ true → LastOpen g (suc n)
    go r true true h k o = let z : ◌≡◌ {A = ℕ} 0 1 = cc in absurd (omega arith)
    go r true false h k o = record { at = n; before = omega arith; segment = h; no_end = k; last = refl }
    go r false e h k o =
        let b = r o in
        record { at = b.at; before = omega (arith, b.before); segment = b.segment; no_end = b.no_end; last = rw h (omega (arith, b.last)) }

-- ---- a scene that passes

same_list : (xs ys : List ℕ) → same_words xs ys ≡ true → xs ≡ ys
unfolding same_words
same_list [] [] e = refl
same_list [] (y ∷ ys) e = let z : ◌≡◌ {A = ℕ} 0 1 = cc in absurd (omega arith)
same_list (x ∷ xs) [] e = let z : ◌≡◌ {A = ℕ} 0 1 = cc in absurd (omega arith)
same_list (x ∷ xs) (y ∷ ys) e = go (same_list xs ys) (eqb x y) refl e
  where
    go : (same_words xs ys ≡ true → xs ≡ ys) → (b : Bool) → eqb x y ≡ b → b && same_words xs ys ≡ true → x ∷ xs ≡ y ∷ ys
    go r true h k = cc (eqb-true x y h, r k)
    go r false h k = let z : ◌≡◌ {A = ℕ} 0 1 = cc in absurd (omega arith)

and_both : (a b : Bool) → a && b ≡ true → (a ≡ true) × (b ≡ true)
and_both true b e = (refl, e)
and_both false b e = let z : ◌≡◌ {A = ℕ} 0 1 = cc in absurd (omega arith)

or_left : (a b : Bool) → a ≡ true → a || b ≡ true
or_left true b e = refl
or_left false b e = let z : ◌≡◌ {A = ℕ} 0 1 = cc in absurd (omega arith)

not_not : (b : Bool) → not b ≡ false → b ≡ true
not_not true e = refl
not_not false e = let z : ◌≡◌ {A = ℕ} 0 1 = cc in absurd (omega arith)

-- the first segment stays the first
unfoldable pub Leads : Given → ℕ → ℕ → Type 0
Leads g i j = (leading g j ≡ leading g i) × (eqb (segments g j) 0 ≡ false)

not_zero : (m n : ℕ) → eqb m 0 ≡ false → eqb (m + n) 0 ≡ false
not_zero m n e = ne_eqb (m + n) 0 (λ h. eqb-false m 0 e (omega arith))

lead_first : (g : Given) (i : ℕ) → has_segment (head_of g i) ≡ true → Leads g i (suc i)
unfolding Leads leading segments once
lead_first g i s = let n = one_more_lem (segments g i) in (rw (s, n), rw (s, n))
  where
    one_more_lem : (m : ℕ) → eqb (m + 1) 0 ≡ false
    one_more_lem m = ne_eqb (m + 1) 0 (λ e. omega arith)

lead_next : (g : Given) (i j : ℕ) → Leads g i j → Leads g i (suc j)
unfolding Leads leading segments
lead_next g i j r = let n = not_zero (segments g j) (once (has_segment (head_of g j))) r.1 in (rw n r.0, n)

pub leads : (g : Given) (i j : ℕ) → i < j → has_segment (head_of g i) ≡ true → Leads g i j
leads g i zero l s = absurd (omega arith)
leads g i (suc j) l s = elim (ℕ_discrete i j) [ yes e ↦ subst (λ (k : ℕ). Leads g i (suc k)) e (lead_first g i s) | no ne ↦ lead_next g i j (leads g i j (omega (arith, ne)) s) ]

module _ (c : Call) (f : FreshCall c) (p : Passes c) where
  abbrev g : Given
  g = scene_of c

  -- the sheet's transform: its six numbers
  sheet : List Float
  sheet = floats_at (six_words g (leading g (tags c))) 0

  module _ (i : ℕ) (l : i < tags c) (s : has_segment (head_at c i) ≡ true) where
    no_stroke : is_stroke (head_at c i) ≡ false
    unfolding broken70 facts_at
    no_stroke = and_left _ _ (facts c p i l).r70 (or_left _ _ s)

    aligned : floats_at (six_words g i) 0 ≡ sheet
    unfolding broken73 facts_at aligned_to sheet Leads
    aligned =
        let k = and_both _ _ (not_not _ (and_left _ _ (facts c p i l).r73 s)) in
        ap (λ (ws : List ℕ). floats_at ws 0) (same_list _ _ k.0 ∙ ap (six_words g) (sym (leads g i (tags c) l s).0))

    -- an end bit stands where the subpath began
    shuts : has_end (head_at c i) ≡ true → eq_of (last_of g i) (first_of g (beginning g i)) ≡ true
    unfolding broken74 facts_at
    shuts e = not_not _ (rw (s, e) at (facts c p i l).r74)

    goes_on_lem : has_end (head_at c i) ≡ false → segments g (tags c) ≡ segments g (suc i) → ⊥
    unfolding broken74 facts_at
    goes_on_lem e k =
        let r = rw (s, e, eq-eqb _ _ k) at (facts c p i l).r74 in
        let y : ◌≡◌ {A = ℕ} 0 1 = cc in omega arith

  all_shut : open_at g (tags c) ≡ false
  all_shut = go (open_at g (tags c)) refl
    where
      go : (b : Bool) → open_at g (tags c) ≡ b → b ≡ false
      go false e = refl
      go true e = let r = last_open g (tags c) e in absurd (goes_on_lem r.at r.before r.segment r.no_end r.last)

  -- each segment of the call belongs to exactly one of its subpaths: one behind the other, these are all its segments
  pub one_subpath_each : flatten (all_subpaths c) ≡ all_segments c
  one_subpath_each = sym (append-nil _) ∙ ap (λ (xs : List ℕ). flatten (all_subpaths c) ++ xs) (sym (shut_none c (tags c) all_shut)) ∙ one_each c (tags c)

  -- a tag of the call
  abbrev In : ℕ → Type 0
  In j = j < tags c

  -- ---- an accepted call

  module _ (a : Accepted c) where
    -- both read the same head
    same_head : (i : ℕ) → i < tags c → fills.head_of c i ≡ head_at c i
    same_head i l =
        let h = head_parts c.layout c.scene c.prefixes (length c.boxes) i (fills.head_of c i) ((done c a).sound i l).head in
        let k = its_parts c p i l in
        same (fills.head_of c i) (head_at c i) (cc (h.tag, k.tag)) h.flags k.flags
      where
        same : (h k : Head) → h.tag ≡ k.tag → flags_of c.scene c.layout.style_base h.tag.monoid.style_ix ≡ Ok h.flags
            → flags_of c.scene c.layout.style_base k.tag.monoid.style_ix ≡ Ok k.flags → h ≡ k
        same h k e x y =
            let z : Ok h.flags ≡ Ok k.flags = sym x ∙ ap (λ (t : PathTagData). flags_of c.scene c.layout.style_base t.monoid.style_ix) e ∙ y in
            let w : h.flags ≡ k.flags = cc in
            λ i. record { tag = e i; flags = w i }

    draws_nothing : (i : ℕ) → i < tags c → has_segment (head_at c i) ≡ false → drawn_at c i ≡ []
    unfolding events_at events_by
    draws_nothing i l s =
        let e : eqb ((fills.head_of c i).tag.tag_byte % 4) 0 ≡ true = ap (λ (h : Head). eqb (h.tag.tag_byte % 4) 0) (same_head i l) ∙ not_not _ s in
        let k = rw e at ((done c a).sound i l).events in
        cc k

    module _ (count : Vec2 → ℕ) where
      abbrev S : List Event → ℕ
      S es = starts_by count es

      abbrev E : List Event → ℕ
      E es = ends_by count es

      abbrev W : Vec2 → ℕ
      W q = count (written sheet q)

      point_same : (i k : ℕ) → i < tags c → fills.point_of c i k ≡ point_of c.layout c.scene (head_at c i) k
      unfolding fills.point_of point_of
      point_same i k l = rw (same_head i l)

      -- the lines of a segment lead from its first point to its last
      segment_even : (i : ℕ) → i < tags c → has_segment (head_at c i) ≡ true → S (drawn_at c i) + W (last_of g i) ≡ E (drawn_at c i) + W (first_of g i)
      unfolding six_at floats_at
      segment_even i l s =
          let d = (done c a).sound i l in
          let seg : eqb (fills.type_of c i) 0 ≡ false = ap (λ (h : Head). eqb (h.tag.tag_byte % 4) 0) (same_head i l) ∙ not_seg _ s in
          let fill : is_stroke (fills.head_of c i) ≡ false = ap is_stroke (same_head i l) ∙ no_stroke i l s in
          let six : floats_at (transform_words c i) 0 ≡ sheet = sym (six_words_lem c.scene _) ∙ ap (λ (h : Head). floats_at c.scene (c.layout.transform_base + h.tag.monoid.trans_ix * 6)) (same_head i l) ∙ aligned i l s in
          let kind : fills.type_of c i ≡ (head_at c i).tag.tag_byte % 4 = ap (λ (h : Head). h.tag.tag_byte % 4) (same_head i l) in
          let last : fills.last_of c i ≡ last_of g i = ap (fills.point_of c i) kind ∙ point_same i _ l in
          let k = open_ends count _ _ (drawn_at c i) d.lines (fill_chain_of c i (drawn_at c i) seg fill d.events) in
          carried _ _ _ _ _ _ six last (point_same i 0 l) k
        where
          carried : (z z' : List Float) (q q' r r' : Vec2) → z ≡ z' → q ≡ q' → r ≡ r' → S (drawn_at c i) + count (written z q) ≡ E (drawn_at c i) + count (written z r) → S (drawn_at c i) + count (written z' q') ≡ E (drawn_at c i) + count (written z' r')
          carried z z' q q' r r' e m n h = rw (e, m, n) at h

      abbrev Even : List ℕ → Type 0
      Even is = S (lines_of c is) ≡ E (lines_of c is)

      starts_both : (is js : List ℕ) → S (lines_of c (is ++ js)) ≡ S (lines_of c is) + S (lines_of c js)
      unfolding lines_of starts_by
      starts_both [] js = omega arith
      starts_both (i ∷ is) js = starts_append count (drawn_at c i) (lines_of c (is ++ js)) ∙ omega (arith, starts_both is js, starts_append count (drawn_at c i) (lines_of c is))

      ends_both : (is js : List ℕ) → E (lines_of c (is ++ js)) ≡ E (lines_of c is) + E (lines_of c js)
      unfolding lines_of ends_by
      ends_both [] js = omega arith
      ends_both (i ∷ is) js = ends_append count (drawn_at c i) (lines_of c (is ++ js)) ∙ omega (arith, ends_both is js, ends_append count (drawn_at c i) (lines_of c is))

      starts_more : (is : List ℕ) (i : ℕ) → S (lines_of c (is ++ (i ∷ []))) ≡ S (lines_of c is) + S (drawn_at c i)
      unfolding lines_of starts_by
      starts_more is i = starts_both is (i ∷ []) ∙ ap (λ (es : List Event). S (lines_of c is) + S es) (append-nil (drawn_at c i))

      ends_more : (is : List ℕ) (i : ℕ) → E (lines_of c (is ++ (i ∷ []))) ≡ E (lines_of c is) + E (drawn_at c i)
      unfolding lines_of ends_by
      ends_more is i = ends_both is (i ∷ []) ∙ ap (λ (es : List Event). E (lines_of c is) + E es) (append-nil (drawn_at c i))

      -- the lines of an open subpath lead from where it began to where the next segment begins
      OpenTo : ℕ → Type 0
      OpenTo i = open_at g i ≡ true → S (lines_of c (open_to c i)) + W (point_here c f p i) ≡ E (lines_of c (open_to c i)) + W (first_of g (beginning g i))

      -- so do those before segment i, where its subpath may begin with it
      before_segment : (i : ℕ) → i < tags c → has_segment (head_at c i) ≡ true → OpenTo i → S (lines_of c (open_to c i)) + W (first_of g i) ≡ E (lines_of c (open_to c i)) + W (first_of g (beginning g i))
      unfolding OpenTo lines_of starts_by ends_by
      before_segment i l s o = go (open_at g i) refl
        where
          go : (b : Bool) → open_at g i ≡ b → S (lines_of c (open_to c i)) + W (first_of g i) ≡ E (lines_of c (open_to c i)) + W (first_of g (beginning g i))
          go true e = ap (λ (q : Vec2). S (lines_of c (open_to c i)) + W q) (starts_here c f p i l s) ∙ o e
          go false e = rw (shut_none c i e, begins_here g i e)

      with_segment : (i : ℕ) → i < tags c → has_segment (head_at c i) ≡ true → OpenTo i
          → S (lines_of c (open_to c i ++ (i ∷ []))) + W (last_of g i) ≡ E (lines_of c (open_to c i ++ (i ∷ []))) + W (first_of g (beginning g i))
      with_segment i l s o = omega (arith, starts_more (open_to c i) i, ends_more (open_to c i) i, segment_even i l s, before_segment i l s o)

      open_next : (i : ℕ) → i < tags c → OpenTo i → OpenTo (suc i)
      unfolding OpenTo open_to open_at beginning
      open_next i l o = go (has_segment (head_at c i)) (has_end (head_at c i)) refl refl
        where
          go : (s e : Bool) → has_segment (head_at c i) ≡ s → has_end (head_at c i) ≡ e → cond s (not e) (open_at g i) ≡ true
              → S (lines_of c (cond s (cond e [] (open_to c i ++ (i ∷ []))) (open_to c i))) + W (point_here c f p (suc i))
              ≡ E (lines_of c (cond s (cond e [] (open_to c i ++ (i ∷ []))) (open_to c i))) + W (first_of g (cond (cond s (not e) (open_at g i)) (beginning g i) (suc i)))
          go true true h k n = let z : ◌≡◌ {A = ℕ} 0 1 = cc in absurd (omega arith)
          go true false h k n = ap (λ (q : Vec2). S (lines_of c (open_to c i ++ (i ∷ []))) + W q) (sym (ends_there c f p i l h k)) ∙ with_segment i l h o
          go false e h k n = rw n (ap (λ (q : Vec2). S (lines_of c (open_to c i)) + W q) (stays_there c f p i l h) ∙ o n)

      -- points that are equal as numbers are written as the same bits
      meet : (q r : Vec2) → FitsPoint q → FitsPoint r → eq_of q r ≡ true → written sheet q ≡ written sheet r
      meet q r u v e = identity_same _ _ (apply_same sheet q r (eq→same_point q r u v (rw e tt)))

      fits : (h : Head) (k : ℕ) → FitsPoint (point_of c.layout c.scene h k)
      unfolding point_of
      fits h k = point_fits _ c.scene _

      finished_even : (i : ℕ) → i < tags c → has_segment (head_at c i) ≡ true → has_end (head_at c i) ≡ true → OpenTo i → Even (open_to c i ++ (i ∷ []))
      finished_even i l s e o =
          let m : W (last_of g i) ≡ W (first_of g (beginning g i)) = ap count (meet _ _ (fits _ _) (fits _ _) (shuts i l s e)) in
          omega (arith, with_segment i l s o)

      record Upto (i : ℕ) : Type 0 where
        is_open : OpenTo i
        even : Every Even (subpaths_to c i)

      upto : (i : ℕ) → i ≤ tags c → Upto i
      unfolding subpaths_to OpenTo open_at
      upto zero l = record { is_open = λ e. (let z : ◌≡◌ {A = ℕ} 0 1 = cc in absurd (omega arith)); even = none }
      upto (suc i) l = record { is_open = open_next i l (upto i (omega arith)).is_open; even = go (upto i (omega arith)) (has_segment (head_at c i)) (has_end (head_at c i)) refl refl }
        where
          go : Upto i → (s e : Bool) → has_segment (head_at c i) ≡ s → has_end (head_at c i) ≡ e → Every Even (subpaths_to c i ++ cond (s && e) ((open_to c i ++ (i ∷ [])) ∷ []) [])
          go u true true h k = every_more u.even (finished_even i l h k u.is_open)
          go u true false h k = rw (append-nil (subpaths_to c i)) u.even
          go u false e h k = rw (append-nil (subpaths_to c i)) u.even

      each_even : Every Even (all_subpaths c)
      each_even = (upto (tags c) (omega arith)).even

      -- ---- all lines together

      flat_even : (xss : List (List ℕ)) → Every Even xss → Even (flatten xss)
      unfolding flatten lines_of starts_by ends_by
      flat_even [] none = refl
      flat_even (xs ∷ xss) (more k ks) = omega (arith, starts_both xs (flatten xss), ends_both xs (flatten xss), k, flat_even xss ks)

      -- tags with no segment add nothing
      same_starts : (i : ℕ) → i ≤ tags c → (S (lines_of c (tags_to i)) ≡ S (lines_of c (segments_to c i))) × (E (lines_of c (tags_to i)) ≡ E (lines_of c (segments_to c i)))
      unfolding tags_to segments_to starts_by ends_by
      same_starts zero l = (refl, refl)
      same_starts (suc i) l = go (same_starts i (omega arith)) (has_segment (head_at c i)) refl
        where
          go : (S (lines_of c (tags_to i)) ≡ S (lines_of c (segments_to c i))) × (E (lines_of c (tags_to i)) ≡ E (lines_of c (segments_to c i))) → (s : Bool) → has_segment (head_at c i) ≡ s
              → (S (lines_of c (tags_to i ++ (i ∷ []))) ≡ S (lines_of c (segments_to c i ++ cond s (i ∷ []) []))) × (E (lines_of c (tags_to i ++ (i ∷ []))) ≡ E (lines_of c (segments_to c i ++ cond s (i ∷ []) [])))
          go k true h = (omega (arith, k.0, starts_more (tags_to i) i, starts_more (segments_to c i) i), omega (arith, k.1, ends_more (tags_to i) i, ends_more (segments_to c i) i))
          go k false h =
              let d = draws_nothing i l h in
              let s : S (drawn_at c i) ≡ 0 = ap (λ (es : List Event). S es) d in
              let e : E (drawn_at c i) ≡ 0 = ap (λ (es : List Event). E es) d in
              rw (append-nil (segments_to c i)) (omega (arith, k.0, starts_more (tags_to i) i), omega (arith, k.1, ends_more (tags_to i) i))

      all_even : Even (all_tags c)
      all_even =
          let k = same_starts (tags c) (omega arith) in
          let h : Even (all_segments c) = subst Even one_subpath_each (flat_even (all_subpaths c) each_even) in
          k.0 ∙ h ∙ sym k.1

    -- ---- the theorems

    tags_in : (i : ℕ) → i ≤ tags c → Each In (open_to c i) × Every (Each In) (subpaths_to c i)
    unfolding open_to subpaths_to Each
    tags_in zero l = (tt, none)
    tags_in (suc i) l = go (tags_in i (omega arith)) (has_segment (head_at c i)) (has_end (head_at c i))
      where
        go : Each In (open_to c i) × Every (Each In) (subpaths_to c i) → (s e : Bool)
            → Each In (cond s (cond e [] (open_to c i ++ (i ∷ []))) (open_to c i)) × Every (Each In) (subpaths_to c i ++ cond (s && e) ((open_to c i ++ (i ∷ [])) ∷ []) [])
        go k true true = (tt, every_more k.1 (each_more In (open_to c i) i k.0 l))
        go k true false = (each_more In (open_to c i) i k.0 l, rw (append-nil (subpaths_to c i)) k.1)
        go k false e = (k.0, rw (append-nil (subpaths_to c i)) k.1)

    seal : (is : List ℕ) → Each In is → ((count : Vec2 → ℕ) → starts_by count (lines_of c is) ≡ ends_by count (lines_of c is)) → Watertight c is
    seal is within even =
        record {
          drawn = λ x y. even (is_at x y);
          in_records = λ x y.
              let k = as_drawn c a (bits_are x y) (is_at x y) is (each_is is within x y) in
              k.0 ∙ even (is_at x y) ∙ sym k.1;
        }
      where
        each_is : (is : List ℕ) → Each In is → (x y : ℕ) → Each (CountedBy c a (bits_are x y) (is_at x y)) is
        each_is is h x y = every_each In (CountedBy c a (bits_are x y) (is_at x y)) (λ j l. record { in_call = l; path = refl }) is h

    -- the lines of each subpath are watertight: demand 3, among what is drawn and in the records
    pub each_watertight : Every (Watertight c) (all_subpaths c)
    each_watertight = both_every seal (tags_in (tags c) (omega arith)).1 (every_all (all_subpaths c) each_even)

    -- so all lines of the call together balance
    pub all_watertight : (x y : ℕ) → starts_by (is_at x y) (lines_of c (all_tags c)) ≡ ends_by (is_at x y) (lines_of c (all_tags c))
    all_watertight x y = all_even (is_at x y)
