-- The triangle's call draws a closed fill and nothing else, so what `own_lists` asks is met, and its list passes the check. Assumes nothing.
use Rattle.std.specs.Prelude.{Ok, ℕ, zero, suc, ◌+◌, ◌≤◌, ◌<◌, ◌≡◌, refl, List, [], ◌∷◌, eqb, length, take}
use Rattle.std.proofs.Common.{sym, ap, subst, arith, lit<, ne_eqb}
use Rattle.std.specs.Float.Ieee.{of_bits}
use Rattle.records.specs.Record.{once, is_bad, bad_at}
use Rattle.checker.specs.Verdict.{Finite, Answers}
use Rattle.checker.specs.declared.Verdict.TheVariants.{Sound}
use Rattle.scene.specs.Words.{word_at}
use Rattle.scene.specs.Tags.{tag_sums, plus, byte_at, sums_below, word_sums, tag_data, prefix_at, with_prefix, tag_in, tag_of, sums_before, prefixes, filled, scan_of}
use Rattle.scene.specs.Reading.{flags_of}
use Rattle.flatten.specs.Tag.{boxed, head_at}
use Rattle.flatten.specs.Call.{Outcome}
use Rattle.watertight.specs.Fill.{head_or, head_of, path_at, drawn_at, Each}
use Rattle.own_lists.specs.Fills.{list_of, EachOutline, tags_of, times, OnlyClosedFills}
use Rattle.own_lists.specs.Sums.{sum_over, Below}
use Rattle.own_lists.specs.Enough.{nothing_more}
use Rattle.own_lists.proofs.Pass.{own_fills_pass}
use Rattle.examples.specs.Table.{its_call, drawn, as_many}
use Rattle.examples.specs.Triangle.{its_outcome, its_acceptance, its_run, its_end}

its_path : Each (λ j. path_at its_call j ≡ path_at its_call 2) (3 ∷ 4 ∷ [])
unfolding its_call Each head_of head_or head_at boxed tag_of tag_in with_prefix tag_data prefix_at sums_below word_sums sums_before prefixes filled scan_of plus tag_sums byte_at word_at flags_of
its_path = (refl, (refl, tt))

past : (a i : ℕ) → a < i → once (eqb a i) ≡ 0
unfolding once
past a i h = rw (ne_eqb a i (λ e. omega arith)) refl

-- no tag twice
once_each : (i : ℕ) → times i (2 ∷ 3 ∷ 4 ∷ []) ≤ 1
unfolding times once
once_each zero = omega arith
once_each (suc zero) = omega arith
once_each (suc (suc zero)) = omega arith
once_each (suc (suc (suc zero))) = omega arith
once_each (suc (suc (suc (suc zero)))) = omega arith
once_each (suc (suc (suc (suc (suc i))))) =
    let j = suc (suc (suc (suc (suc i)))) in
    omega (arith, past 2 j (omega arith), past 3 j (omega arith), past 4 j (omega arith))

its_lines : sum_over (λ i. length (drawn_at its_call i)) (2 ∷ 3 ∷ 4 ∷ []) ≡ 3
unfolding sum_over
its_lines = ap (λ (ns : List ℕ). sum_all ns) as_many
  where
    sum_all : List ℕ → ℕ
    sum_all [] = 0
    sum_all (n ∷ ns) = n + sum_all ns

in_call : Below 256 (2 ∷ 3 ∷ 4 ∷ [])
unfolding Below
in_call = (lit< tt, (lit< tt, (lit< tt, tt)))

drawn_finite : Finite (take 18 drawn.lines)
unfolding bad_at is_bad of_bits
drawn_finite zero l = refl
drawn_finite (suc zero) l = refl
drawn_finite (suc (suc zero)) l = refl
drawn_finite (suc (suc (suc k))) l = absurd (omega arith)

its_finite : Finite (list_of its_call its_acceptance)
unfolding its_acceptance
its_finite = subst Finite (sym (ap (λ (o : Outcome). take 18 o.lines) its_outcome)) drawn_finite

pub its_fills : OnlyClosedFills its_call
unfolding EachOutline tags_of its_call its_acceptance
its_fills =
    record {
      accepted = its_acceptance;
      outlines = record { first = 2; behind = 3 ∷ 4 ∷ [] } ∷ [];
      closed_fills = (record { run = its_run; closed = its_end; one_path = its_path }, tt);
      nothing_else = nothing_more its_call its_acceptance (2 ∷ 3 ∷ 4 ∷ []) in_call once_each its_lines;
      few = lit< tt;
      finite = its_finite;
    }

pub its_list_passes : Answers (list_of its_call its_acceptance) (Ok Sound)
unfolding its_fills
its_list_passes = own_fills_pass its_call its_fills
