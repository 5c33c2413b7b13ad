-- The triangle, lent a box and room, is an accepted call that draws, and its three lines are a closed run: so the hypotheses of
-- the theorems of `watertight` are met, and the theorems hold of its three records. Assumes nothing.
use Rattle.std.specs.Prelude.{ℕ, ◌≡◌, refl, [], ◌∷◌}
use Rattle.std.proofs.Common.{ap, lit<}
use Rattle.std.specs.Float.Ieee.{of_int, eq, round, neg}
use Rattle.spiral.specs.Util.{eq_of}
use Rattle.scene.specs.Words.{word_at}
use Rattle.scene.specs.Tags.{tag_sums, plus, byte_at, sums_below, word_sums, tag_data, prefix_at, with_prefix, tag_in, tag_of, sums_before, prefixes, filled, scan_of}
use Rattle.scene.specs.Reading.{i16_of, i16_point, point_words, point_at, flags_of}
use Rattle.flatten.specs.Tag.{boxed, head_at}
use Rattle.flatten.specs.Call.{Outcome}
use Rattle.watertight.specs.Count.{starts, ends}
use Rattle.watertight.specs.Fill.{outcome, Accepted, head_or, head_of, point_of, Each, Follows, Run, final, Closed, lines_of, stored}
use Rattle.watertight.specs.Watertight.{watertight, watertight_stored}
use Rattle.examples.specs.Table.{its_call, drawn, as_drawn}

-- ---- it is accepted, and stores three records and their box

pub its_outcome : outcome its_call ≡ drawn
unfolding its_call
its_outcome = as_drawn

unfoldable pub its_acceptance : Accepted its_call
unfolding its_call
its_acceptance = record { u32 = lit< tt; count = 3; answer = ap (λ (o : Outcome). o.answer) its_outcome }

-- ---- tags 2, 3 and 4 are its lines, a closed run

pub its_run : Run its_call 2 (3 ∷ 4 ∷ [])
unfolding its_call Each Follows head_of head_or head_at boxed tag_of tag_in with_prefix tag_data prefix_at sums_below word_sums sums_before prefixes filled scan_of plus tag_sums byte_at word_at flags_of point_of point_at i16_point i16_of point_words eq_of of_int eq round neg
its_run =
    record {
      z = 0x3f800000 ∷ 0 ∷ 0 ∷ 0x3f800000 ∷ 0 ∷ 0 ∷ [];
      filled = (
        record { in_call = lit< tt; segment = refl; no_stroke = refl; transform = refl },
        (
          record { in_call = lit< tt; segment = refl; no_stroke = refl; transform = refl },
          (record { in_call = lit< tt; segment = refl; no_stroke = refl; transform = refl }, tt),
        ),
      );
      follows = (tt, (tt, tt));
    }

pub its_end : Closed its_call 2 (3 ∷ 4 ∷ [])
unfolding its_call final head_of head_or head_at boxed tag_of tag_in with_prefix tag_data prefix_at sums_below word_sums sums_before prefixes filled scan_of plus tag_sums byte_at word_at flags_of point_of point_at i16_point i16_of point_words eq_of of_int eq round neg
its_end = tt

-- ---- the theorems, applied

pub its_balance : (x y : ℕ) → starts x y (lines_of its_call (2 ∷ 3 ∷ 4 ∷ [])) ≡ ends x y (lines_of its_call (2 ∷ 3 ∷ 4 ∷ []))
its_balance = watertight its_call its_acceptance 2 (3 ∷ 4 ∷ []) its_run its_end

pub its_balance_stored : (x y : ℕ) → stored its_call 2 x y (2 ∷ 3 ∷ 4 ∷ []) ≡ stored its_call 4 x y (2 ∷ 3 ∷ 4 ∷ [])
its_balance_stored = watertight_stored its_call its_acceptance 2 (3 ∷ 4 ∷ []) its_run its_end
