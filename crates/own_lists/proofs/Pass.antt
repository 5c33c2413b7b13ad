-- The shop's own fills pass the check: the theorem. What it speaks of is defined in Fills.antt. Assumes nothing.
use Prim.Native.Nat.{ℕ, zero, suc, ◌+◌, ◌≤◌, ◌<◌}
use Rattle.std.specs.Prelude.{Result, Ok, ◌≡◌, ◌⊎◌, Bool, length, drop}
use Rattle.std.proofs.Math.Path.{refl, sym, ap}
use Rattle.std.proofs.Common.{◌∙◌, inl, inr, ⊎_elim, length-append, length-take-le}
use mathlib.Core.List.{List, [], ◌∷◌, ◌++◌}
use native.Mathlib.Omega.{arith}
use Rattle.records.specs.Record.{place_of, count, is_point, tally_of}
use Rattle.records.specs.RecordLaws.{tally_behind, tally_among}
use Rattle.checker.specs.Verdict.{Answers, Balanced}
use Rattle.checker.specs.Only.{check_only}
use Rattle.checker.specs.declared.CheckError.{CheckError}
use Rattle.checker.specs.declared.Verdict.{Verdict}
use Rattle.checker.specs.declared.Verdict.TheVariants.{Sound}
use Rattle.watertight.specs.Count.{one_where}
use Rattle.watertight.specs.Fill.{Call, Accepted, outcome, tags, path_at, drawn_at, Filled, Each, count_before, records_from, stored_by}
use Rattle.watertight.specs.Accepted.{records_before, length_before, done}
use Rattle.watertight.specs.Stored.{CountedBy, as_drawn}
use Rattle.watertight.specs.Watertight.{watertight_by}
use Rattle.own_lists.specs.Fills.{list_of, Outline, ClosedFill, EachOutline, tags_of, times, OnlyClosedFills}
use Rattle.own_lists.specs.Sums.{sum_to, sum_over, Below, once_each}

module _ (c : Call) (a : Accepted c) where
  -- ---- the list has as many records as lines
  room : place_of a.count ≤ length (outcome c).lines
  room =
      let d = done c a in
      let n = length_before c (tags c) d.sound in
      omega (arith, ap length d.lines, length-append (records_before c (tags c)) (drop (place_of a.count) c.lines), n, d.counted)

  long : length (list_of c a) ≡ place_of a.count
  long = length-take-le (place_of a.count) (outcome c).lines room

  pub records : count (list_of c a) ≡ a.count
  records = omega (arith, long)

  module _ (is : ℕ → ℕ → ℕ → Bool) where
    -- ---- tag by tag

    -- what tag i adds
    abbrev part : ℕ → ℕ → ℕ
    part at i = tally_of is at (records_from c i) (length (drawn_at c i))

    by_tags : (at k : ℕ) → tally_of is at (outcome c).lines (count_before c k) ≡ sum_to (part at) k
    unfolding tally_of count_before sum_to
    by_tags at zero = refl
    by_tags at (suc k) =
        tally_behind is at (outcome c).lines (count_before c k) (length (drawn_at c k)) ∙ ap (λ (s : ℕ). s + part at k) (by_tags at k)

    stored_sum : (at : ℕ) (js : List ℕ) → stored_by c is at js ≡ sum_over (part at) js
    unfolding stored_by sum_over
    stored_sum at [] = refl
    stored_sum at (j ∷ js) = ap (λ (s : ℕ). part at j + s) (stored_sum at js)

    sum_append : (at : ℕ) (is js : List ℕ) → sum_over (part at) (is ++ js) ≡ sum_over (part at) is + sum_over (part at) js
    unfolding sum_over
    sum_append at [] js = omega arith
    sum_append at (i ∷ is) js = omega (arith, sum_append at is js)

    -- ---- an outline
    counted : (z : List ℕ) (path : ℕ) (js : List ℕ) → Each (Filled c z) js → Each (λ j. path_at c j ≡ path) js → Each (CountedBy c a is (one_where is path)) js
    unfolding Each
    counted z path [] f e = tt
    counted z path (j ∷ js) f e = (record { in_call = f.0.in_call; path = ap (one_where is) e.0 }, counted z path js f.1 e.1)

    outline_even : (o : Outline) → ClosedFill c o → sum_over (part 2) (o.first ∷ o.behind) ≡ sum_over (part 4) (o.first ∷ o.behind)
    unfolding Each
    outline_even o f =
        let i = o.first in
        let js = o.behind in
        let all = counted f.run.z (path_at c i) (i ∷ js) f.run.filled (refl, f.one_path) in
        let k = as_drawn c a is (one_where is (path_at c i)) (i ∷ js) all in
        sym (stored_sum 2 (i ∷ js)) ∙ k.0 ∙ watertight_by c a i js f.run f.closed (one_where is (path_at c i)) ∙ sym k.1 ∙ stored_sum 4 (i ∷ js)

    all_even : (os : List Outline) → EachOutline (ClosedFill c) os → sum_over (part 2) (tags_of os) ≡ sum_over (part 4) (tags_of os)
    unfolding EachOutline tags_of sum_over
    all_even [] h = refl
    all_even (o ∷ os) h =
        omega (arith, outline_even o h.0, all_even os h.1, sum_append 2 o.behind (tags_of os), sum_append 4 o.behind (tags_of os))

  -- ---- each tag is one of the call's
  filled_below : (z : List ℕ) (js ks : List ℕ) → Each (Filled c z) js → Below (tags c) ks → Below (tags c) (js ++ ks)
  unfolding Each Below
  filled_below z [] ks f h = h
  filled_below z (j ∷ js) ks f h = (f.0.in_call, filled_below z js ks f.1 h)

  all_below_lem : (os : List Outline) → EachOutline (ClosedFill c) os → Below (tags c) (tags_of os)
  unfolding EachOutline tags_of Below
  all_below_lem [] h = tt
  all_below_lem (o ∷ os) h = filled_below h.0.run.z (o.first ∷ o.behind) (tags_of os) h.0.run.filled (all_below_lem os h.1)

  -- ---- the whole list
  adds_nothing : (is : ℕ → ℕ → ℕ → Bool) (at i : ℕ) → drawn_at c i ≡ [] → part is at i ≡ 0
  unfolding tally_of
  adds_nothing is at i e = rw e refl

  module _ (is : ℕ → ℕ → ℕ → Bool) (os : List Outline) (closed : EachOutline (ClosedFill c) os) where
    -- a tag draws nothing, or nothing that is counted, or belongs to one outline, once
    abbrev Told : ℕ → Type 0
    Told at = (i : ℕ) → i < tags c → (drawn_at c i ≡ []) ⊎ ((part is at i ≡ 0) ⊎ (times i (tags_of os) ≡ 1))

    tally_is : (at : ℕ) → at < 5 → Told at → tally_of is at (list_of c a) (count (list_of c a)) ≡ sum_over (part is at) (tags_of os)
    tally_is at l h =
        ap (tally_of is at (list_of c a)) records
        ∙ tally_among is at (outcome c).lines a.count a.count (omega arith) l
        ∙ ap (tally_of is at (outcome c).lines) (done c a).counted
        ∙ by_tags is at (tags c)
        ∙ once_each (part is at) (tags c) (tags_of os) (all_below_lem os closed) (λ i m. ⊎_elim (λ e. inl (adds_nothing is at i e)) (λ e. e) (h i m))

    pub fills_even : Told 2 → Told 4 → tally_of is 2 (list_of c a) (count (list_of c a)) ≡ tally_of is 4 (list_of c a) (count (list_of c a))
    fills_even h k = tally_is 2 (omega arith) h ∙ all_even is os closed ∙ sym (tally_is 4 (omega arith) k)

-- ---- the theorem
module _ (c : Call) (f : OnlyClosedFills c) where
  abbrev ws : List ℕ
  ws = list_of c f.accepted

  pub fills_balance : Balanced ws
  fills_balance path x y =
      let told : (at i : ℕ) → i < tags c → (drawn_at c i ≡ []) ⊎ ((part c f.accepted (is_point path x y) at i ≡ 0) ⊎ (times i (tags_of f.outlines) ≡ 1)) = λ at i m. ⊎_elim inl (λ e. inr (inr e)) (f.nothing_else i m) in
      fills_even c f.accepted (is_point path x y) f.outlines f.closed_fills (told 2) (told 4)

  -- an accepted call that draws closed fills and nothing else, at most 2,000 lines, all coordinates finite: the check says yes
  pub own_fills_pass : Answers ws (Ok Sound)
  unfolding Answers
  own_fills_pass =
      (record { few = omega (arith, records c f.accepted, f.few); whole = omega (arith, long c f.accepted) }, record { finite = f.finite; balanced = fills_balance })

  -- and nothing else
  pub own_fills_only : (v : Result Verdict CheckError) → Answers ws v → v ≡ Ok Sound
  own_fills_only v h = check_only ws v (Ok Sound) h own_fills_pass
