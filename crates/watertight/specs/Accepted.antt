-- What an accepted call did: each tag was read, all that it draws are lines, and their records stand in the lent words, one tag's behind the other's. Assumes nothing.
use Prim.Native.Nat.{ℕ, zero, suc, ◌+◌, ◌*◌, ◌%◌, ◌^◌, ◌<◌, ◌≤◌}
use Rattle.std.specs.Prelude.{◌≡◌, ◌⊎◌, Bool, ◌||◌, List, [], ◌∷◌, ◌++◌, take, drop, Ok, Option, Some, None}
use Rattle.std.proofs.Math.Path.{refl, ap}
use Rattle.std.proofs.Common.{sym, ◌∙◌, subst, lt→ltb, take_at, drop_at, drop-drop}
use Rattle.std.proofs.Math.Logic.{inl, inr}
use Rattle.std.proofs.Math.Bool.{true, false}
use native.Mathlib.Omega.{arith}
use Rattle.std.proofs.Math.Nat.{mod-eq_of_lt}
use Rattle.std.proofs.Math.Decide.{ℕ_discrete}
use Rattle.std.proofs.Math.Dec.{ltb}
use Rattle.std.proofs.Math.ListN.{length, length-append, length-set}
use Rattle.std.specs.Float.Ieee.Bits.{is_true}
use Rattle.refusals.specs.Laws.{number_some}
use Rattle.refusals.specs.declared.Refusal.{Refusal}
use Rattle.refusals.specs.declared.Refusal.TheVariants.{BadBase}
use Rattle.drawing.specs.Sheet.{Event, line, no_count, no_join}
use Rattle.drawing.specs.Stands.{records_of}
use Rattle.flatten.specs.Step.{tag_word, Stepped, step_of}
use Rattle.flatten.specs.Boxes.{changed_at}
use Rattle.flatten.specs.Call.{start_at, first_turn, start_of, State, taken, next, after, answer_for, answer_of, said, told_of, after_by, call_by}
use Rattle.flatten.specs.CallLaws.{moves, at_rest}
use Rattle.flatten.specs.declared.call.Told.{Told}
use Rattle.flatten.specs.declared.tag.Head.{Head}
use Rattle.watertight.specs.Balance.{AllLines}
use Rattle.watertight.specs.Fill.{Call, Accepted, outcome, tags, read_head, read_events, head_or, events_or, head_of, path_at, drawn_at, count_before}
use Rattle.watertight.specs.Steps.{not_going, Halts, Goes, turns}

-- ---- lists
-- behind W the words are as they were: R is stored there
laid : (W R ws : List ℕ) (a b : ℕ) → length W ≡ a → take a (W ++ drop a ws) ++ R ++ drop (a + b) (W ++ drop a ws) ≡ W ++ R ++ drop (a + b) ws
laid W R ws a b h =
    ap (λ (x : List ℕ). x ++ R ++ drop (a + b) (W ++ drop a ws)) (take_at W (drop a ws) a h)
    ∙ ap (λ (x : List ℕ). W ++ R ++ x) (sym (drop-drop b a (W ++ drop a ws)) ∙ ap (drop b) (drop_at W (drop a ws) a h) ∙ drop-drop b a ws)

length_records : (path tag : ℕ) (es : List Event) → AllLines es → length (records_of path tag (length es) es) ≡ length es * 6
unfolding records_of AllLines
length_records path tag [] h = refl
length_records path tag (line p q ∷ es) h = omega (arith, length_records path tag es h)
length_records path tag (no_count ∷ es) h = absurd h
length_records path tag (no_join ∷ es) h = absurd h

up_to : (P : ℕ → Type 0) (k : ℕ) → ((i : ℕ) → i < k → P i) → P k → (i : ℕ) → i < suc k → P i
up_to P k f p i h = elim (ℕ_discrete i k) [ yes e ↦ subst P (sym e) p | no ne ↦ f i (omega (arith, ne)) ]

-- the words of tag i's lines, and of those of all tags before it
unfoldable pub records_at : Call → ℕ → List ℕ
records_at c i = records_of (path_at c i) (tag_word i) (length (drawn_at c i)) (drawn_at c i)

unfoldable pub records_before : Call → ℕ → List ℕ
records_before c zero = []
records_before c (suc i) = records_before c i ++ records_at c i

module _ (c : Call) where
  -- ---- a tag

  -- tag i was read, and what it draws are lines
  pub record Sound (i : ℕ) : Type 0 where
    pub head : read_head c i ≡ Ok (head_of c i)
    pub events : read_events c i (head_of c i) ≡ Ok (drawn_at c i)
    pub lines : AllLines (drawn_at c i)

  head_is : (i : ℕ) (h : Head) → read_head c i ≡ Ok h → h ≡ head_of c i
  unfolding head_of head_or
  head_is i h e = rw e

  events_are : (i : ℕ) (h : Head) (es : List Event) → read_head c i ≡ Ok h → read_events c i h ≡ Ok es → es ≡ drawn_at c i
  unfolding drawn_at events_or
  events_are i h es e k = rw (e, k)

  pub length_before : (k : ℕ) → ((i : ℕ) → i < k → Sound i) → length (records_before c k) ≡ count_before c k * 6
  unfolding records_before count_before records_at
  length_before zero f = refl
  length_before (suc k) f =
      omega (arith, length-append (records_before c k) (records_at c k), length_before k (λ i h. f i (omega arith)), length_records (path_at c k) (tag_word k) (drawn_at c k) (f k (omega arith)).lines)

  -- ---- the tags one after the other

  -- all tags before k went well
  pub record Went (k : ℕ) (s : State) : Type 0 where
    pub left : s.turn.left + k ≡ tags c
    pub tag : s.turn.tag ≡ k
    pub boxes : length s.boxes ≡ length c.boxes
    pub count : s.turn.count ≡ count_before c k
    pub words : s.lines ≡ records_before c k ++ drop (count_before c k * 6) c.lines
    pub sound : (i : ℕ) → i < k → Sound i

  module _ (k : ℕ) (s : State) (w : Went k s) (o : Stepped) (g : Goes c.layout c.scene c.prefixes s.lines (length s.boxes) s.turn o) where
    read : read_head c k ≡ Ok g.head
    read = rw (w.boxes, w.tag) at g.is_head

    drew : read_events c k g.head ≡ Ok g.events
    drew = rw w.tag at g.is_events

    is_head : g.head ≡ head_of c k
    is_head = head_is k g.head read

    are_events : g.events ≡ drawn_at c k
    are_events = events_are k g.head g.events read drew

    sound_here : Sound k
    sound_here =
        record {
          head = subst (λ (h : Head). read_head c k ≡ Ok h) is_head read;
          events = subst (λ (h : Head). read_events c k h ≡ Ok (drawn_at c k)) is_head (subst (λ (es : List Event). read_events c k g.head ≡ Ok es) are_events drew);
          lines = subst AllLines are_events g.lines;
        }

    -- as many lines as events
    all : g.stands.more ≡ length (drawn_at c k)
    all = omega (arith, g.stands.count, g.count, ap length are_events)

    records : records_of g.head.tag.monoid.path_ix (tag_word s.turn.tag) g.stands.more g.events ≡ records_at c k
    unfolding records_at
    records = rw (all, are_events, is_head, w.tag)

    total : o.turn.count ≡ count_before c (suc k)
    unfolding count_before
    total = omega (arith, g.count, w.count, ap length are_events)

    words_then : o.lines ≡ records_before c (suc k) ++ drop (count_before c (suc k) * 6) c.lines
    unfolding records_before count_before
    words_then =
        let n = count_before c k in
        let m = length (drawn_at c k) in
        let from : s.turn.count * 6 ≡ n * 6 = omega (arith, w.count) in
        let to : o.turn.count * 6 ≡ n * 6 + m * 6 = omega (arith, w.count, g.count, ap length are_events) in
        let sum : (n + m) * 6 ≡ n * 6 + m * 6 = omega arith in
        g.stands.words ∙ rw (records, w.words, from, to, sum) (laid (records_before c k) (records_at c k) c.lines (n * 6) (m * 6) (length_before k w.sound))

    goes_on_lem : c.layout.n_wg < 2 ^ 32 → 0 < s.turn.left → Went (suc k) (taken s.boxes o)
    unfolding taken changed_at
    goes_on_lem u l =
        record {
          left = omega (arith, w.left, g.left);
          tag = g.tag ∙ ap (λ (i : ℕ). (i + 1) % 2 ^ 64) w.tag ∙ mod-eq_of_lt (omega (arith, w.left)) ∙ sum;
          boxes = length-set s.boxes _ _ ∙ w.boxes;
          count = total;
          words = words_then;
          sound = up_to Sound k w.sound sound_here;
        }
      where
        sum : k + 1 ≡ suc k
        sum = omega arith

  -- ---- from the first tag to the last
  abbrev Stands_at : ℕ → State → Type 0
  Stands_at k s = Went k s ⊎ Halts s.turn

  first : State
  first = record { turn = start_of c.layout (length c.scene); boxes = c.boxes; lines = c.lines }

  starts_at_lem : Stands_at 0 first
  unfolding first start_of first_turn count_before records_before
  starts_at_lem = go (ltb (length c.scene) c.layout.tag_base || ltb (length c.scene) c.layout.data_base)
    where
      go : (b : Bool) → Stands_at 0 (record { turn = start_at b c.layout; boxes = c.boxes; lines = c.lines })
      go true = inr (record { stop = not_going BadBase; left = refl })
      go false =
          inl (record {
            left = omega arith;
            tag = refl;
            boxes = refl;
            count = refl;
            words = refl;
            sound = λ (i : ℕ) (h : i < 0). absurd (omega arith);
          })

  module _ (u : c.layout.n_wg < 2 ^ 32) where
    then : (k : ℕ) (s : State) → k < tags c → Stands_at k s → Stands_at (suc k) (next c.layout c.scene c.prefixes s)
    unfolding taken
    then k s l (inl w) =
        let more : 0 < s.turn.left = omega (arith, w.left) in
        rw (moves c.layout c.scene c.prefixes s (is_true (ltb 0 s.turn.left) (lt→ltb 0 s.turn.left more)))
        (go (step_of c.layout c.scene c.prefixes s.lines (length s.boxes) s.turn) more (turns c.layout c.scene c.prefixes s.lines (length s.boxes) s.turn))
      where
        go : (o : Stepped) → 0 < s.turn.left → Goes c.layout c.scene c.prefixes s.lines (length s.boxes) s.turn o ⊎ Halts o.turn → Stands_at (suc k) (taken s.boxes o)
        go o more (inl g) = inl (goes_on_lem k s w o g u more)
        go o more (inr h) = inr h
    then k s l (inr h) =
        rw (at_rest c.layout c.scene c.prefixes s (ap (ltb 0) h.left)) (inr h)

    all_tags_lem : (k : ℕ) → k ≤ tags c → Stands_at k (after k c.layout c.scene c.prefixes first)
    unfolding after_by
    all_tags_lem zero l = starts_at_lem
    all_tags_lem (suc k) l = then k (after k c.layout c.scene c.prefixes first) l (all_tags_lem k (omega arith))

-- ---- an accepted call
lines_said : (s : Option Refusal) (tag count n : ℕ) → told_of (answer_for s tag count) ≡ said 0 0 n → (s ≡ None) × (n ≡ count)
unfolding told_of
lines_said None tag count n e = (refl, sym (ap (λ (t : Told). t.count) e))
lines_said (Some why) tag count n e = absurd (number_some why (ap (λ (t : Told). t.number) e))

-- what it leaves: each of its tags is sound, and its lines are the records of all tags in turn, and behind them the words as lent
pub record Done (c : Call) (count : ℕ) : Type 0 where
  pub sound : (i : ℕ) → i < tags c → Sound c i
  pub counted : count ≡ count_before c (tags c)
  pub lines : (outcome c).lines ≡ records_before c (tags c) ++ drop (count * 6) c.lines

done_at : (c : Call) (n : ℕ) (s : State) → Stands_at c (tags c) s → told_of (answer_of s.turn) ≡ said 0 0 n
    → ((i : ℕ) → i < tags c → Sound c i) × (n ≡ count_before c (tags c)) × (s.lines ≡ records_before c (tags c) ++ drop (n * 6) c.lines)
unfolding answer_of
done_at c n s (inl w) e =
    let l = lines_said s.turn.stop s.turn.tag s.turn.count n e in
    let k : n ≡ count_before c (tags c) = l.1 ∙ w.count in
    (w.sound, k, rw k w.words)
done_at c n s (inr h) e = absurd (h.stop (lines_said s.turn.stop s.turn.tag s.turn.count n e).0)

pub done : (c : Call) (a : Accepted c) → Done c a.count
unfolding call_by first
done c a =
    let d = done_at c a.count _ (all_tags_lem c a.u32 (tags c) (omega arith)) a.answer in
    record { sound = d.0; counted = d.1; lines = d.2 }
