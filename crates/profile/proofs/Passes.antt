-- What the proofs about the two passes cite. Assumes nothing.
use Prim.Native.Nat.{ℕ, zero, suc, ◌+◌, ◌^◌, ◌<◌, ◌≤◌}
use mathlib.Core.Path.{◌≡◌, refl, sym, ap, ◌∙◌, subst}
use mathlib.Core.Bool.{Bool, true, false, not, cond}
use native.Mathlib.Omega.{arith}
use native.Mathlib.Decide.{ℕ_discrete}
use lib.Dec.{eqb}
use borrow.Author.Tests.{not-true}
use Rattle.std.specs.Prelude.{Result, Ok, Err, IsOk, Option, Some, None}
use Rattle.records.specs.Record.{once}
use Rattle.refusals.specs.Refusals.{Read}
use Rattle.refusals.specs.declared.Refusal.{Refusal}
use Rattle.flatten.specs.declared.tag.Head.{Head}
use Rattle.profile.specs.Reads.{Given, tags, read_head, read_at}
use Rattle.profile.specs.Rules.{head_of, has_segment, has_end, ends, six_words, first_of, segments, subpaths, open_at, beginning, leading, facts_at, rule_of, rule_at, broken70, broken71, broken72, broken73, broken74, broken75}
use Rattle.profile.specs.Verdict.{Verdict, passed, unread, against, first, unread_or, unread_at, against_or, against_at, rules_of}
use Rattle.profile.specs.Trail.{Small, InReach, piece_of, entered_of, behind_of, plain_facts, segment_facts, stepped, step_by, step_of, no_trail}
use Rattle.profile.specs.Walk.{AllRead, ReadBy, TrailAt}
use Rattle.profile.specs.Parts.{read_head_is, head_read_lem, in_reach}
use Rattle.profile.specs.Passed.{AllFine, one_tells, read_silent, fine_silent, all_fine}
use Rattle.profile.specs.declared.rules.Rule.{Rule}
use Rattle.profile.specs.declared.trail.Piece.{Piece}
use Rattle.profile.specs.declared.trail.Trail.{Trail}
use Rattle.profile.specs.declared.sheet.Failed.{Failed}

-- ---- the first pass

pub none_read : (g : Given) → AllRead g 0
none_read g i h = absurd (omega arith)

module _ (g : Given) (i : ℕ) (h : Head) where
  pub one_read : AllRead g i → read_at g i ≡ Ok h → AllRead g (suc i)
  one_read all e j l =
      elim (ℕ_discrete j i) [
        | yes k ↦ subst (λ (j : ℕ). read_at g j ≡ Ok (head_of g j)) (sym k) (e ∙ ap Ok (read_head_is g i h e))
        | no n ↦ all j (omega (arith, n))
      ]

pub one_counted : (g : Given) (i n m : ℕ) (h : Head) → n ≡ segments g i → read_at g i ≡ Ok h → m ≡ n + once (has_segment h) → m ≡ segments g (suc i)
unfolding segments
one_counted g i n m h e k s = s ∙ rw (e, read_head_is g i h k)

at_most : (b : Bool) → once b ≤ 1
unfolding once
at_most true = omega arith
at_most false = omega arith

segments_few : (g : Given) (i : ℕ) → (segments g i ≤ i) × (subpaths g i ≤ i)
unfolding segments subpaths
segments_few g zero = (omega arith, omega arith)
segments_few g (suc i) =
    let k = segments_few g i in
    (omega (arith, k.0, at_most (has_segment (head_of g i))), omega (arith, k.1, at_most (ends (head_of g i))))

pub counted_few : (g : Given) (i n : ℕ) → n ≡ segments g i → i < 2 ^ 40 → n < 2 ^ 40
counted_few g i n e l = omega (arith, e, (segments_few g i).0)

pub stops_unread : (g : Given) (i : ℕ) (why : Refusal) → AllRead g i → i < tags g → read_at g i ≡ Err why → (v : Verdict) → first (unread_at g) 0 (tags g) v ≡ unread why i
unfolding unread_or
stops_unread g i why all l e v = one_tells (unread_at g) v (unread why i) 0 (tags g) i (omega arith) (omega arith) (read_silent g i all) (λ w. rw e)

-- the tag reached is behind the last one
pub reached : (g : Given) (i n : ℕ) (m : ℕ) → m ≡ segments g i → AllRead g i → i ≡ n → (m ≡ segments g n) × AllRead g n
reached g i n m e all k = subst (λ (n : ℕ). (m ≡ segments g n) × AllRead g n) k (e, all)

-- the head that was read is read again
pub reads_again : (g : Given) (i : ℕ) (h : Head) → read_at g i ≡ Ok (head_of g i) → read_head g i ≡ Ok h → h ≡ head_of g i
reads_again g i h e k = let z = head_read_lem g i (head_of g i) e in cc

pub reads_now : (g : Given) (i : ℕ) (r : Read Head) → read_at g i ≡ Ok (head_of g i) → r ≡ read_head g i → IsOk r
reads_now g i r e k = rw (k ∙ head_read_lem g i (head_of g i) e) refl

pub segment_reached : (g : Given) (i : ℕ) (h : Head) → read_at g i ≡ Ok (head_of g i) → h ≡ head_of g i → has_segment h ≡ true → InReach g.layout g.scene h
segment_reached g i h e k s = rw k (in_reach g i (head_of g i) e (not-true _ (rw k at s)))

-- ---- the second pass

pub none_fine : (g : Given) → AllFine g 0
none_fine g i h = absurd (omega arith)

pub one_fine : (g : Given) (i : ℕ) → AllFine g i → rule_at g i ≡ None → AllFine g (suc i)
one_fine g i all e j l = elim (ℕ_discrete j i) [ yes k ↦ subst (λ (j : ℕ). rule_at g j ≡ None) (sym k) e | no n ↦ all j (omega (arith, n)) ]

pub stops_against : (g : Given) (i : ℕ) (rule : Rule) → AllFine g i → i < tags g → rule_at g i ≡ Some rule → against rule i ≡ rules_of g
unfolding rules_of against_or
stops_against g i rule all l e = sym (one_tells (against_at g) _ (against rule i) 0 (tags g) i (omega arith) (omega arith) (fine_silent g i all) (λ w. rw e))

-- ---- the trail

pub no_trail_at : (g : Given) → TrailAt g 0 no_trail
unfolding no_trail segments subpaths open_at
no_trail_at g = record { counted = refl; finished = refl; unfinished = refl; begun = λ e. (let z : ◌≡◌ {A = ℕ} 0 1 = cc in absurd (omega arith)); words = λ n. absurd (n refl) }

pub trail_small : (g : Given) (i : ℕ) (t : Trail) → TrailAt g i t → i < 2 ^ 40 → Small t
trail_small g i t k l = record { segments = omega (arith, k.counted, (segments_few g i).0); subpaths = omega (arith, k.finished, (segments_few g i).1) }

-- where nothing is open a subpath begins here, and where no segment was the sheet's first is here
begins_here : (g : Given) (i : ℕ) → open_at g i ≡ false → beginning g i ≡ i
unfolding beginning
begins_here g zero e = refl
begins_here g (suc i) e = rw e

leads_here : (g : Given) (i : ℕ) → eqb (segments g i) 0 ≡ true → leading g i ≡ i
unfolding leading
leads_here g zero e = refl
leads_here g (suc i) e = rw e

not_both : (b : Bool) → b ≡ false → b ≡ true → ⊥
not_both b e f = let z : ◌≡◌ {A = Bool} false true = sym e ∙ f in let y : ◌≡◌ {A = ℕ} 0 1 = cc in omega arith

-- one tag more: of a segment, and of another
more_segments : (g : Given) (i : ℕ) → has_segment (head_of g i) ≡ true → segments g (suc i) ≡ segments g i + 1
unfolding segments once
more_segments g i s = rw s

no_more_segments : (g : Given) (i : ℕ) → has_segment (head_of g i) ≡ false → (segments g (suc i) ≡ segments g i) × (subpaths g (suc i) ≡ subpaths g i)
unfolding segments subpaths once
no_more_segments g i s = (rw s (omega arith), rw s (omega arith))

more_subpaths : (g : Given) (i : ℕ) → has_segment (head_of g i) ≡ true → subpaths g (suc i) ≡ subpaths g i + once (has_end (head_of g i))
unfolding subpaths
more_subpaths g i s = rw s

open_then : (g : Given) (i : ℕ) (b : Bool) → has_segment (head_of g i) ≡ b → open_at g (suc i) ≡ cond b (not (has_end (head_of g i))) (open_at g i)
unfolding open_at
open_then g i b s = rw s

begins_on : (g : Given) (i : ℕ) → open_at g (suc i) ≡ true → beginning g (suc i) ≡ beginning g i
unfolding beginning
begins_on g i e = rw e

leads_on : (g : Given) (i : ℕ) → (eqb (segments g (suc i)) 0 ≡ true → ⊥) → leading g (suc i) ≡ leading g i
unfolding leading
leads_on g i n = go (eqb (segments g (suc i)) 0) n
  where
    go : (b : Bool) → (b ≡ true → ⊥) → cond b (suc i) (leading g i) ≡ leading g i
    go true n = absurd (n refl)
    go false n = refl

module _ (g : Given) (i : ℕ) (t : Trail) (k : TrailAt g i t) where
  abbrev piece : Piece
  piece = piece_of g.layout g.scene (head_of g i)

  start_is : (entered_of t piece).start ≡ first_of g (beginning g i)
  unfolding entered_of piece_of
  start_is = ap (λ (b : Bool). cond b t.start (first_of g i)) k.unfinished ∙ go (open_at g i) refl
    where
      go : (b : Bool) → open_at g i ≡ b → cond b t.start (first_of g i) ≡ first_of g (beginning g i)
      go true e = k.begun e
      go false e = ap (first_of g) (sym (begins_here g i e))

  words_are : (entered_of t piece).words ≡ six_words g (leading g i)
  unfolding entered_of piece_of
  words_are = ap (λ (n : ℕ). cond (eqb n 0) (six_words g i) t.words) k.counted ∙ go (eqb (segments g i) 0) refl
    where
      go : (b : Bool) → eqb (segments g i) 0 ≡ b → cond b (six_words g i) t.words ≡ six_words g (leading g i)
      go true e = ap (six_words g) (sym (leads_here g i e))
      go false e = k.words (not_both _ e)

  counts_kept : ((entered_of t piece).segments ≡ segments g i) × ((entered_of t piece).subpaths ≡ subpaths g i)
  unfolding entered_of
  counts_kept = (k.counted, k.finished)

  -- no segment stands behind the last of all
  last_is : has_segment (head_of g i) ≡ true → (total : ℕ) → total ≡ segments g (tags g) → eqb total ((entered_of t piece).segments + 1) ≡ (facts_at g i).last
  unfolding facts_at
  last_is s total all =
      ap (λ (n : ℕ). eqb n ((entered_of t piece).segments + 1)) all ∙ ap (eqb (segments g (tags g))) (ap (λ (n : ℕ). n + 1) counts_kept.0 ∙ sym (more_segments g i s))

  segment_rule : has_segment (head_of g i) ≡ true → (total : ℕ) → total ≡ segments g (tags g) → rule_of (segment_facts (head_of g i) piece (entered_of t piece) total) ≡ rule_at g i
  unfolding segment_facts facts_at piece_of
  segment_rule s total all = rw (s, start_is, words_are, last_is s total all, counts_kept.0)

  segment_behind : has_segment (head_of g i) ≡ true → (e : Bool) → has_end (head_of g i) ≡ e → TrailAt g (suc i) (behind_of (entered_of t piece) e)
  unfolding behind_of once
  segment_behind s true e =
      record {
        counted = ap (λ (n : ℕ). n + 1) counts_kept.0 ∙ sym (more_segments g i s);
        finished = ap (λ (n : ℕ). n + 1) counts_kept.1 ∙ sym (more_subpaths g i s ∙ rw e);
        unfinished = sym (open_then g i true s ∙ ap not e);
        begun = λ f. start_is ∙ ap (first_of g) (sym (begins_on g i f));
        words = λ n. words_are ∙ ap (six_words g) (sym (leads_on g i n));
      }
  segment_behind s false e =
      record {
        counted = ap (λ (n : ℕ). n + 1) counts_kept.0 ∙ sym (more_segments g i s);
        finished = counts_kept.1 ∙ sym (more_subpaths g i s ∙ rw e (omega arith));
        unfinished = sym (open_then g i true s ∙ ap not e);
        begun = λ f. start_is ∙ ap (first_of g) (sym (begins_on g i f));
        words = λ n. words_are ∙ ap (six_words g) (sym (leads_on g i n));
      }

  plain_rule : has_segment (head_of g i) ≡ false → rule_of (plain_facts (head_of g i)) ≡ rule_at g i
  unfolding plain_facts facts_at rule_of broken70 broken71 broken72 broken73 broken74 broken75
  plain_rule s = rw s

  plain_behind : has_segment (head_of g i) ≡ false → TrailAt g (suc i) t
  plain_behind s =
      let n = no_more_segments g i s in
      let same = open_then g i false s in
      record {
        counted = k.counted ∙ sym n.0;
        finished = k.finished ∙ sym n.1;
        unfinished = k.unfinished ∙ sym same;
        begun = λ f. k.begun (sym same ∙ f) ∙ ap (first_of g) (sym (begins_on g i f));
        words = λ m. k.words (λ f. m (ap (λ (x : ℕ). eqb x 0) n.0 ∙ f)) ∙ ap (six_words g) (sym (leads_on g i m));
      }

  -- a step: the first rule that tag i breaks, or the trail behind it
  step_says : (total : ℕ) → total ≡ segments g (tags g) → (b : Bool) → has_segment (head_of g i) ≡ b
      → (next : Trail) × (step_by b g.layout g.scene (head_of g i) t total ≡ stepped (rule_at g i) next) × TrailAt g (suc i) next
  unfolding step_by
  step_says total all true s =
      let next = behind_of (entered_of t piece) (has_end (head_of g i)) in
      (next, ap (λ (r : Option Rule). stepped r next) (segment_rule s total all), segment_behind s (has_end (head_of g i)) refl)
  step_says total all false s = (t, ap (λ (r : Option Rule). stepped r t) (plain_rule s), plain_behind s)

  went_on : (r : Option Rule) (next u : Trail) → stepped r next ≡ Ok u → (r ≡ None) × (next ≡ u)
  unfolding stepped
  went_on None next u e = (refl, cc)
  went_on (Some rule) next u e = let z : ◌≡◌ {A = ℕ} 0 1 = cc in absurd (omega arith)

  broke : (r : Option Rule) (next : Trail) (rule : Rule) → stepped r next ≡ Err rule → r ≡ Some rule
  unfolding stepped
  broke None next rule e = let z : ◌≡◌ {A = ℕ} 0 1 = cc in absurd (omega arith)
  broke (Some other) next rule e = cc

  pub step_on : (total : ℕ) → total ≡ segments g (tags g) → (u : Trail) → step_of g.layout g.scene (head_of g i) t total ≡ Ok u → (rule_at g i ≡ None) × TrailAt g (suc i) u
  step_on total all u e =
      let k = step_says total all _ refl in
      let w = went_on (rule_at g i) k.0 u (sym k.1 ∙ e) in
      (w.0, subst (TrailAt g (suc i)) w.1 k.2)

  pub step_breaks : (total : ℕ) → total ≡ segments g (tags g) → (rule : Rule) → step_of g.layout g.scene (head_of g i) t total ≡ Err rule → rule_at g i ≡ Some rule
  step_breaks total all rule e =
      let k = step_says total all _ refl in
      broke (rule_at g i) k.0 rule (sym k.1 ∙ e)

pub at_end : (g : Given) (i : ℕ) (t : Trail) → TrailAt g i t → AllFine g i → i ≡ tags g → passed t.segments t.subpaths ≡ rules_of g
at_end g i t k all e = let z = subst (λ (n : ℕ). TrailAt g n t × AllFine g n) e (k, all) in ap (λ (n : ℕ). passed n t.subpaths) z.0.counted ∙ ap (passed (segments g (tags g))) z.0.finished ∙ sym (all_fine g z.1)

-- ---- what the first pass answered

pub by_all : (g : Given) (r : Result ℕ Failed) (total : ℕ) → ReadBy g r → r ≡ Ok total → (total ≡ segments g (tags g)) × AllRead g (tags g)
unfolding ReadBy
by_all g r total k e = subst (ReadBy g) e k

pub by_refused : (g : Given) (r : Result ℕ Failed) (f : Failed) → ReadBy g r → r ≡ Err f → (v : Verdict) → first (unread_at g) 0 (tags g) v ≡ Err f
unfolding ReadBy
by_refused g r f k e = subst (ReadBy g) e k
