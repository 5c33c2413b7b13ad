-- Two segments at a right angle with a bevel join. With a width of 2 they meet every condition. With a width of 2 ^ -23 they meet all but one: side + coincides at the join,
-- side - does not, and a gap is left. Assumes nothing.
use Rattle.std.specs.Prelude.{ℕ, zero, suc, ◌^◌, ◌<◌, ◌≤◌, ◌≡◌, refl, true, false, replicate}
use mathlib.Core.List.{[], ◌∷◌, ◌++◌, flatten}
use Rattle.std.proofs.Common.{arith}
use Rattle.std.proofs.Math.Dec.{lit<}
use Rattle.std.specs.Float.Ieee.{of_bits, of_int, to_bits, to_signed, to_unsigned, round, neg, add, sub, mul, div, lt, le, eq, is_nan}
use Rattle.numbers.specs.Words.{sign_of, signed, abs_of, half_units, half_fields, half_of}
use Rattle.numbers.specs.Select.{before, max_of, clamp_of}
use Rattle.numbers.specs.Whole.{whole_of, floor_of, ceil_of}
use Rattle.roots.specs.Root.{sqrt_of, hypot_of}
use Rattle.trig.specs.Trig as trig
use Rattle.spiral.specs.Util.{add_of, sub_of, mul_of, div_of, neg_of, dot_of, length_of, length_squared_of, mix_of, normalize_of, angle_of, has_nan, eq_of, identity_of, apply_of}
use Rattle.spiral.specs.Euler.{fitted_error, error_ratio, long_chord, from_points_derivs, from_angles}
use Rattle.scene.specs.Words.{word_at}
use Rattle.scene.specs.Tags.{tag_sums, plus, byte_at, sums_below, tag_data, prefix_at, with_prefix, tag_in, tag_of}
use Rattle.scene.specs.Reading.{i16_of, i16_point, point_words, point_at, line_cubic, point_count, raised, reaches, segment_of, floats_at, transform_of, all_finite, flags_of, width_of}
use Rattle.scene.specs.Reading as scene
use Rattle.drawing.specs.Sheet.{lower_of, higher_of, empty_box, box_with, has_room, draw_on, draw, draw_all}
use Rattle.drawing.specs.Sheet as sheet
use Rattle.drawing.specs.Cubic.{cubic_point, cubic_deriv, cubic_at, first_long, start_tangent, end_tangent}
use Rattle.drawing.specs.Cap.{cap_events, cap_by, square_cap}
use Rattle.drawing.specs.Join.{cross, corners_of, bevel_events, join_by, join_events}
use Rattle.curve.specs.Fit.{is_short, first_tip, tip_at, params_of, multiplier_of, integrand_of, robust_of, n_frac_of, fit_of, place_of}
use Rattle.curve.specs.Curve.{line_of, range_of, range_end, tip_of, is_near, walk, is_point, side_events, local_side, euler_events}
use Rattle.curve.specs.Curve as curve
use Rattle.segment.specs.Segment.{quarter, steady_of, tangents_of, edges_of, sides_events, end_events, stroke_events, start_cap_events, neighbor_of, shape_events}
use Rattle.flatten.specs.Boxes.{fresh_box, has_extent, marked_of, merged_of, changed_of, changed_at}
use Rattle.flatten.specs.Tag.{boxed, head_at, finite_only, neighbor_at, stroke_by, stroke_at, shape_at, events_by, events_at}
use Rattle.flatten.specs.Step.{drawn_of, change_of, turn_of, refused_at, step_from_by, step_by}
use Rattle.flatten.specs.Call.{first_turn, start_of, taken, onward_by, after_by, answer_of, said, told_of, call_by}
use Rattle.records.specs.Record.{key, once}
use Rattle.watertight.specs.Count.{starts_by, ends_by}
use Rattle.watertight.specs.Fill.{Call, Accepted, outcome, head_or, head_of, events_or, drawn_at}
use Rattle.watertight.specs.Fill as watertight
use Rattle.strokes.specs.Number.{starts, ends}
use Rattle.strokes.specs.Stroke.{half_width, join_corners, stroke_cubic, Style, Stroked, ends_subpath, run, HasWidth, OpenStroke, plus_coincides, minus_coincides}
use Rattle.strokes.proofs.Tight.{strokes_watertight}

-- from (-4, 1) to (-1, 1) and on to (-1, 4), with butt caps and a bevel join, under the identity
unfoldable pub corner : ℕ → Call
corner width =
    record {
      layout = record { n_wg = 1; tag_base = 0; data_base = 0x40; transform_base = 0x45; style_base = 0x4b };
      scene =
          0x01014020 ∷ 0x00001006 ∷ replicate 62 0
          ++ 0x0001fffc ∷ 0x0001ffff ∷ 0x0004ffff ∷ 0x0001fffc ∷ 0x0001fffd
          ∷ 0x3f800000 ∷ 0 ∷ 0 ∷ 0x3f800000 ∷ 0 ∷ 0
          ∷ 0x80000000 ∷ width ∷ [];
      prefixes = 0 ∷ 0 ∷ 0 ∷ 0 ∷ 0 ∷ 1 ∷ 2 ∷ 2 ∷ [];
      boxes = fresh_box ∷ [];
      lines = replicate 48 0;
    }

unfoldable pub corner_style : ℕ → Style
corner_style w = record { flags = 0x80000000; width = w }

-- the two widths
abbrev pub two : ℕ
two = 0x40000000

abbrev narrow : ℕ
narrow = 0x34000000

-- ---- what antt computes

record Computed : Type 0 where
  -- both widths are above 0
  two_wide : HasWidth (corner_style two)
  narrow_wide : HasWidth (corner_style narrow)
  -- both calls are accepted: a bevel join of two lines with the one, and none with the other
  two_lines : (outcome (corner two)).answer ≡ said 0 0 8
  narrow_lines : (outcome (corner narrow)).answer ≡ said 0 0 6
  -- the sides of the join
  two_sides : plus_coincides (corner two) (corner_style two) 2 ≡ minus_coincides (corner two) (corner_style two) 2
  narrow_plus : plus_coincides (corner narrow) (corner_style narrow) 2 ≡ true
  narrow_minus : minus_coincides (corner narrow) (corner_style narrow) 2 ≡ false
  -- a line ends at (-1 + 2 ^ -24, 1), and none starts there
  narrow_starts : starts 0xbf7fffff 0x3f800000 (watertight.lines_of (corner narrow) (run 2 3)) ≡ 0
  narrow_ends : ends 0xbf7fffff 0x3f800000 (watertight.lines_of (corner narrow) (run 2 3)) ≡ 1

computed : Computed
unfolding flatten of_bits of_int to_bits to_signed to_unsigned round neg add sub mul div lt le eq is_nan sign_of signed abs_of half_units half_fields half_of before max_of clamp_of whole_of floor_of ceil_of sqrt_of hypot_of trig.bounded_of trig.sin_near trig.cos_near trig.reduced_of trig.curve_of trig.wave_of trig.sin_of trig.cos_of trig.angle_of trig.atan2_of add_of sub_of mul_of dot_of length_of length_squared_of mix_of angle_of has_nan eq_of identity_of apply_of fitted_error error_ratio long_chord from_points_derivs from_angles word_at tag_sums plus byte_at sums_below tag_data prefix_at with_prefix tag_in tag_of i16_of i16_point point_words point_at line_cubic point_count raised scene.cubic_of reaches segment_of floats_at transform_of flags_of lower_of higher_of empty_box box_with has_room sheet.stored draw_on draw draw_all cubic_point cubic_deriv cubic_at is_short first_tip tip_at params_of multiplier_of integrand_of robust_of n_frac_of fit_of line_of curve.lines_of range_of range_end tip_of is_near curve.accepted walk is_point side_events euler_events shape_events fresh_box has_extent marked_of merged_of changed_of changed_at boxed head_at finite_only all_finite shape_at events_by events_at drawn_of change_of turn_of refused_at step_from_by step_by first_turn start_of taken onward_by after_by answer_of told_of call_by start_tangent end_tangent first_long neighbor_at stroke_by stroke_at width_of local_side sides_events end_events stroke_events start_cap_events edges_of tangents_of steady_of quarter neighbor_of normalize_of div_of neg_of cap_events cap_by square_cap join_events join_by bevel_events corners_of cross watertight.lines_of drawn_at events_or head_of head_or run starts_by ends_by key once corner corner_style stroke_cubic half_width join_corners place_of
computed =
    record {
      two_wide = refl;
      narrow_wide = refl;
      two_lines = refl;
      narrow_lines = refl;
      two_sides = refl;
      narrow_plus = refl;
      narrow_minus = refl;
      narrow_starts = refl;
      narrow_ends = refl;
    }

-- ---- the conditions hold at any width above 0

-- of the tags from 2 to 4, and from 2 to 3
three : (P : ℕ → Type 0) → P 2 → P 3 → P 4 → (k : ℕ) → 2 ≤ k → k ≤ 4 → P k
three P a b c zero g l = absurd (omega arith)
three P a b c (suc zero) g l = absurd (omega arith)
three P a b c (suc (suc zero)) g l = a
three P a b c (suc (suc (suc zero))) g l = b
three P a b c (suc (suc (suc (suc zero)))) g l = c
three P a b c (suc (suc (suc (suc (suc k))))) g l = absurd (omega arith)

both : (P : ℕ → Type 0) → P 2 → P 3 → (k : ℕ) → 2 ≤ k → k < 4 → P k
both P a b zero g l = absurd (omega arith)
both P a b (suc zero) g l = absurd (omega arith)
both P a b (suc (suc zero)) g l = a
both P a b (suc (suc (suc zero))) g l = b
both P a b (suc (suc (suc (suc k)))) g l = absurd (omega arith)

one : (P : ℕ → Type 0) → P 2 → (k : ℕ) → 2 ≤ k → suc k < 4 → P k
one P a zero g l = absurd (omega arith)
one P a (suc zero) g l = absurd (omega arith)
one P a (suc (suc zero)) g l = a
one P a (suc (suc (suc k))) g l = absurd (omega arith)

pub corner_stroke : (w : ℕ) → HasWidth (corner_style w) → OpenStroke (corner w) 2 2
unfolding flatten of_bits of_int to_bits to_signed to_unsigned round neg add sub mul div lt le eq is_nan sign_of signed abs_of half_units half_fields half_of before max_of clamp_of whole_of floor_of ceil_of sqrt_of hypot_of trig.bounded_of trig.sin_near trig.cos_near trig.reduced_of trig.curve_of trig.wave_of trig.sin_of trig.cos_of trig.angle_of trig.atan2_of add_of sub_of mul_of dot_of length_of length_squared_of mix_of angle_of has_nan eq_of identity_of apply_of fitted_error error_ratio long_chord from_points_derivs from_angles word_at tag_sums plus byte_at sums_below tag_data prefix_at with_prefix tag_in tag_of i16_of i16_point point_words point_at line_cubic point_count raised scene.cubic_of reaches segment_of floats_at transform_of flags_of lower_of higher_of empty_box box_with has_room sheet.stored draw_on draw draw_all cubic_point cubic_deriv cubic_at is_short first_tip tip_at params_of multiplier_of integrand_of robust_of n_frac_of fit_of line_of curve.lines_of range_of range_end tip_of is_near curve.accepted walk is_point side_events euler_events shape_events fresh_box has_extent marked_of merged_of changed_of changed_at boxed head_at finite_only all_finite shape_at events_by events_at drawn_of change_of turn_of refused_at step_from_by step_by first_turn start_of taken onward_by after_by answer_of told_of call_by start_tangent end_tangent first_long neighbor_at stroke_by stroke_at width_of local_side sides_events end_events stroke_events start_cap_events edges_of tangents_of steady_of quarter neighbor_of normalize_of div_of neg_of cap_events cap_by square_cap join_events join_by bevel_events corners_of cross watertight.lines_of drawn_at events_or head_of head_or run starts_by ends_by key once corner corner_style stroke_cubic half_width join_corners place_of watertight.point_of
corner_stroke w h =
    record {
      style = corner_style w;
      z = 0x3f800000 ∷ 0 ∷ 0 ∷ 0x3f800000 ∷ 0 ∷ 0 ∷ [];
      some = lit< tt;
      stroke = refl;
      wide = h;
      stroked =
          three (Stroked (corner w) (corner_style w) (0x3f800000 ∷ 0 ∷ 0 ∷ 0x3f800000 ∷ 0 ∷ 0 ∷ []))
          (record { in_call = lit< tt; segment = refl; flags = refl; width = refl; transform = refl })
          (record { in_call = lit< tt; segment = refl; flags = refl; width = refl; transform = refl })
          (record { in_call = lit< tt; segment = refl; flags = refl; width = refl; transform = refl });
      goes_on_lem = both (λ k. ends_subpath (corner w) k ≡ false) refl refl;
      follows = one (λ k. watertight.Meets (corner w) k (suc k)) tt;
      marker = (refl, refl);
      starts_at_lem = tt;
      along = tt;
    }

-- ---- a width of 2: the theorem holds of it
pub corner_accepted : Accepted (corner two)
corner_accepted = record { u32 = u; count = 8; answer = computed.two_lines }
  where
    u : (corner two).layout.n_wg < 2 ^ 32
    u = unfold corner in lit< tt

pub corner_watertight : (x y : ℕ) → starts x y (watertight.lines_of (corner two) (run 2 3)) ≡ ends x y (watertight.lines_of (corner two) (run 2 3))
unfolding corner_stroke
corner_watertight =
    strokes_watertight (corner two) corner_accepted 2 2 (corner_stroke two computed.two_wide) (λ e. one (λ k. plus_coincides (corner two) (corner_style two) k ≡ minus_coincides (corner two) (corner_style two) k) computed.two_sides)

-- ---- a width of 2 ^ -23: every condition but the last, and the lines do not balance
pub gap_accepted : Accepted (corner narrow)
gap_accepted = record { u32 = u; count = 6; answer = computed.narrow_lines }
  where
    u : (corner narrow).layout.n_wg < 2 ^ 32
    u = unfold corner in lit< tt

pub gap_stroke : OpenStroke (corner narrow) 2 2
gap_stroke = corner_stroke narrow computed.narrow_wide

pub gap_sides : (plus_coincides (corner narrow) (corner_style narrow) 2 ≡ true) × (minus_coincides (corner narrow) (corner_style narrow) 2 ≡ false)
gap_sides = (computed.narrow_plus, computed.narrow_minus)

pub gap_open : ((x y : ℕ) → starts x y (watertight.lines_of (corner narrow) (run 2 3)) ≡ ends x y (watertight.lines_of (corner narrow) (run 2 3))) → ⊥
gap_open h = omega (arith, h 0xbf7fffff 0x3f800000, computed.narrow_starts, computed.narrow_ends)
