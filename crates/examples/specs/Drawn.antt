-- The triangle drawn by commands, with one refused among them, and flattened: it meets what the theorems of `outlines` ask, so that they hold of it. Assumes nothing.
use Rattle.std.specs.Prelude.{ℕ, zero, suc, ◌+◌, ◌<◌, ◌≡◌, refl, true, false, replicate, get_or}
use Rattle.std.proofs.Common.{ap, arith, lit<}
use mathlib.Core.List.{List, [], ◌∷◌, ◌++◌, flatten}
use Rattle.std.specs.Float.Ieee.{of_bits, of_int, to_bits, to_signed, to_unsigned, round, neg, add, sub, mul, div, lt, le, eq, is_nan}
use Rattle.numbers.specs.Words.{sign_of, signed, abs_of}
use Rattle.numbers.specs.Select.{before, max_of, clamp_of}
use Rattle.numbers.specs.Whole.{whole_of, floor_of, ceil_of}
use Rattle.roots.specs.Root.{sqrt_of, two_thirds_of, hypot_of}
use Rattle.trig.specs.Trig as trig
use Rattle.refusals.specs.Refusals.{number_of, end_of}
use Rattle.spiral.specs.Util.{add_of, sub_of, mul_of, dot_of, length_of, length_squared_of, mix_of, angle_of, has_nan, eq_of, identity_of, apply_of}
use Rattle.spiral.specs.Euler.{fitted_error, error_ratio, long_chord, from_points_derivs, from_angles}
use Rattle.scene.specs.Words.{word_at}
use Rattle.scene.specs.Tags.{tag_sums, plus, byte_at, sums_below, word_sums, tag_data, prefix_at, with_prefix, tag_in, tag_of, sums_before, prefixes, filled, scan_of}
use Rattle.scene.specs.Reading.{f32_point, point_words, point_at, line_cubic, point_count, raised, cubic_of, reaches, segment_of, floats_at, transform_of, all_finite, flags_of}
use Rattle.scene.specs.Fresh.{byte_of, sums_to}
use Rattle.drawing.specs.Sheet.{lower_of, higher_of, empty_box, box_with, has_room, stored, draw_on, draw, draw_all}
use Rattle.drawing.specs.Cubic.{cubic_point, cubic_deriv, cubic_at}
use Rattle.curve.specs.Fit.{is_short, first_tip, tip_at, params_of, multiplier_of, integrand_of, robust_of, n_frac_of, fit_of}
use Rattle.curve.specs.Curve.{line_of, lines_of, range_of, range_end, tip_of, is_near, accepted, walk, is_point, side_events, device_side, euler_events}
use Rattle.segment.specs.Segment.{fill_events, shape_events}
use Rattle.flatten.specs.Boxes.{fresh_box, has_extent, marked_of, merged_of, changed_of, changed_at}
use Rattle.flatten.specs.Tag.{boxed, head_at, finite_only, shape_at, events_by, events_at}
use Rattle.flatten.specs.Step.{drawn_of, change_of, turn_of, refused_at, step_from_by, step_by}
use Rattle.flatten.specs.Call.{first_turn, start_of, taken, answer_of, told_of, Outcome, after_by, call_by, onward_by}
use Rattle.pattern.specs.Every.{Every}
use Rattle.pattern.specs.Commands as commands
use Rattle.pattern.specs.Meaning as meaning
use Rattle.pattern.specs.declared.pen.Spot.{Spot}
use Rattle.watertight.specs.Fill.{Call, outcome, Accepted}
use Rattle.outlines.specs.Placing.{left, Finished, FreshCall, FillAt, Placed, piece, decoded, pieces_from, pieces, tags_from, outlines, Watertight}
use Rattle.outlines.specs.Decode.{decodes}
use Rattle.outlines.specs.Lines.{drawn_watertight}
use Rattle.examples.specs.Table.{drawn}

-- ---- the commands

abbrev at : ℕ → ℕ → Spot
at x y = record { x = x; y = y }

-- from (0, 0) to (3, 0) and to (0, 6); an end, which closes it; and a line with no move before it, which is refused
abbrev pub its_commands : List commands.Command
its_commands =
    commands.move (at 0 0)
    ∷ commands.draw (commands.line (at 0x40400000 0))
    ∷ commands.draw (commands.line (at 0 0x40c00000))
    ∷ commands.end
    ∷ commands.draw (commands.line (at 0 0))
    ∷ []

-- with exact room
abbrev its_tags : List ℕ
its_tags = replicate 3 0

abbrev its_points : List ℕ
its_points = replicate 8 0

unfoldable pub its_left : commands.Outcome
its_left = left its_tags its_points its_commands

-- refused with 20, and three tags and eight words are written
pub is_left : (commands.number_of its_left.answer ≡ 20) × (its_left.tags ≡ 0x09 ∷ 0x09 ∷ 0x0d ∷ []) × (its_left.points ≡ 0 ∷ 0 ∷ 0x40400000 ∷ 0 ∷ 0 ∷ 0x40c00000 ∷ 0 ∷ 0 ∷ [])
unfolding its_left commands.same commands.words_of commands.floats_of commands.spots commands.target commands.tag_of commands.finishing commands.start_of commands.ink_of commands.place_of commands.ended commands.fits commands.number_of commands.written commands.inked commands.may_draw commands.named commands.command_of meaning.after eq_of eq of_bits round all_finite
is_left = (refl, refl, refl)

pub its_end : Finished its_left
unfolding its_left commands.same commands.words_of commands.floats_of commands.spots commands.target commands.tag_of commands.finishing commands.start_of commands.ink_of commands.place_of commands.ended commands.fits commands.number_of commands.written commands.inked commands.may_draw commands.named commands.command_of meaning.after eq_of eq of_bits round all_finite
its_end = refl

-- ---- the call: a transform tag and a style tag in front, a path tag behind

abbrev its_scene : List ℕ
its_scene =
    0x09094020 ∷ 0x0000100d ∷ (replicate 62 0
    ++ 0 ∷ 0 ∷ 0x40400000 ∷ 0 ∷ 0 ∷ 0x40c00000 ∷ 0 ∷ 0 ∷ 0x3f800000 ∷ 0 ∷ 0 ∷ 0x3f800000 ∷ 0 ∷ 0 ∷ 0 ∷ 0 ∷ [])

unfoldable pub its_call : Call
its_call =
    record {
      layout = record { n_wg = 1; tag_base = 0; data_base = 64; transform_base = 72; style_base = 78 };
      scene = its_scene;
      prefixes = (scan_of its_scene 0 (replicate 256 0)).words;
      boxes = fresh_box ∷ [];
      lines = replicate 18 0;
    }

-- it is accepted, and stores the lines and the box of the triangle
pub its_outcome : outcome its_call ≡ drawn
unfolding its_call flatten of_bits of_int to_bits to_signed to_unsigned round neg add sub mul div lt le eq is_nan sign_of signed abs_of before max_of clamp_of whole_of floor_of ceil_of sqrt_of two_thirds_of hypot_of trig.bounded_of trig.sin_near trig.cos_near trig.reduced_of trig.curve_of trig.wave_of trig.sin_of trig.cos_of trig.angle_of trig.atan2_of add_of sub_of mul_of dot_of length_of length_squared_of mix_of angle_of has_nan eq_of identity_of apply_of fitted_error error_ratio long_chord from_points_derivs from_angles word_at tag_sums plus byte_at sums_below word_sums tag_data prefix_at with_prefix tag_in tag_of sums_before prefixes filled scan_of f32_point point_words point_at line_cubic point_count raised cubic_of reaches segment_of floats_at transform_of all_finite flags_of lower_of higher_of empty_box box_with has_room stored draw_on draw draw_all cubic_point cubic_deriv cubic_at is_short first_tip tip_at params_of multiplier_of integrand_of robust_of n_frac_of fit_of line_of lines_of range_of range_end tip_of is_near accepted walk is_point side_events device_side euler_events fill_events shape_events fresh_box has_extent marked_of merged_of changed_of changed_at boxed head_at finite_only shape_at events_by events_at drawn_of change_of turn_of refused_at step_from_by step_by first_turn start_of taken onward_by after_by answer_of number_of end_of told_of call_by
its_outcome = refl

pub its_acceptance : Accepted its_call
unfolding its_call
its_acceptance = record { u32 = lit< tt; count = 3; answer = ap (λ (o : Outcome). o.answer) its_outcome }

-- ---- what the theorems ask

pub is_placed : Placed its_call 2 its_left
unfolding its_call its_left byte_of byte_at sums_to plus tag_sums commands.same commands.words_of commands.floats_of commands.spots commands.target commands.tag_of commands.finishing commands.start_of commands.ink_of commands.place_of commands.ended commands.fits commands.number_of commands.written commands.inked commands.may_draw commands.named commands.command_of meaning.after eq_of eq of_bits round all_finite
is_placed = record { here = record { byte = bytes; its_data = refl }; few = lit< tt }
  where
    bytes : (j : ℕ) → j < 3 → byte_of its_scene (2 + j) ≡ get_or (0x09 ∷ 0x09 ∷ 0x0d ∷ []) j 0
    bytes zero h = refl
    bytes (suc zero) h = refl
    bytes (suc (suc zero)) h = refl
    bytes (suc (suc (suc j))) h = absurd (omega arith)

unfoldable pub is_fresh : FreshCall its_call
unfolding its_call
is_fresh = record { lent = replicate 256 0; scanned = refl }

pub is_filled : FillAt its_call 2
unfolding its_call byte_of byte_at sums_to plus tag_sums flags_of word_at
is_filled = record { flags = 0; read = refl; no_stroke = refl }

-- ---- the theorems, applied

pub its_outline : Every (Watertight its_call) ((2 ∷ 3 ∷ 4 ∷ []) ∷ [])
unfolding its_left its_call outlines tags_from meaning.meant meaning.accepted meaning.kept meaning.finished meaning.finished_by meaning.closing meaning.end_of meaning.goes_on commands.same commands.words_of commands.floats_of commands.spots commands.target commands.tag_of commands.finishing commands.start_of commands.ink_of commands.place_of commands.ended commands.fits commands.number_of commands.written commands.inked commands.may_draw commands.named commands.command_of meaning.after eq_of eq of_bits round all_finite
its_outline = drawn_watertight its_tags its_points its_commands its_end its_call 2 is_placed its_acceptance is_fresh is_filled (omega arith)

-- three lines, the last of which closes it and ends the subpath
pub its_pieces : decoded its_call 2 3
    ≡ piece (at 0 0 ∷ at 0x40400000 0 ∷ []) false ∷ piece (at 0x40400000 0 ∷ at 0 0x40c00000 ∷ []) false ∷ piece (at 0 0x40c00000 ∷ at 0 0 ∷ []) true ∷ []
unfolding is_fresh its_left its_call pieces pieces_from meaning.meant meaning.accepted meaning.kept meaning.finished meaning.finished_by meaning.closing meaning.end_of meaning.goes_on commands.same commands.words_of commands.floats_of commands.spots commands.target commands.tag_of commands.finishing commands.start_of commands.ink_of commands.place_of commands.ended commands.fits commands.number_of commands.written commands.inked commands.may_draw commands.named commands.command_of meaning.after eq_of eq of_bits round all_finite
its_pieces = decodes its_tags its_points its_commands its_end its_call 2 is_placed is_fresh (record { words = omega arith; prefixes = omega arith })
