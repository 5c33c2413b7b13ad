-- Twelve examples measured on the source, in one table, which antt computes from the definitions. Assumes nothing.
use Rattle.std.specs.Prelude.{ℕ, ◌+◌, ◌*◌, ◌≡◌, refl, length, replicate, ℤ, pos, negsuc, Float, Ok, Err}
use mathlib.Core.List.{List, [], ◌∷◌, ◌++◌, map, flatten}
use Rattle.std.specs.Float.Ieee.{of_bits, of_int, to_bits, to_signed, to_unsigned, round, neg, add, sub, mul, div, lt, le, eq, is_nan}
use Rattle.laws.specs.Binary32.{dec, whole}
use Rattle.numbers.specs.Words.{sign_of, signed, abs_of, half_units, half_fields, half_of}
use Rattle.numbers.specs.Select.{before, max_of, clamp_of}
use Rattle.numbers.specs.Whole.{whole_of, floor_of, ceil_of}
use Rattle.roots.specs.Root.{sqrt_of, two_thirds_of, hypot_of}
use Rattle.trig.specs.Trig as trig
use Rattle.refusals.specs.Refusals.{number_of, end_of, Read}
use Rattle.spiral.specs.Util.{new_of, add_of, sub_of, mul_of, dot_of, length_of, length_squared_of, mix_of, angle_of, has_nan, eq_of, identity_of, apply_of}
use Rattle.spiral.specs.Euler.{fitted_error, error_ratio, long_chord, from_points_derivs, from_angles}
use Rattle.spiral.specs.declared.util.Vec2.{Vec2}
use Rattle.scene.specs.Words.{word_at}
use Rattle.scene.specs.Tags.{tag_sums, plus, byte_at, sums_below, word_sums, tag_data, prefix_at, with_prefix, tag_in, tag_of, sums_before, prefixes, filled, scan_of}
use Rattle.scene.specs.Reading.{i16_of, i16_point, point_words, point_at, line_cubic, point_count, raised, cubic_of, reaches, segment_of, floats_at, transform_of, all_finite, flags_of}
use Rattle.scene.specs.declared.tags.PathTagData.{PathTagData}
use Rattle.drawing.specs.Sheet.{IntBbox, lower_of, higher_of, empty_box, box_with, has_room, stored, draw_on, draw, draw_all}
use Rattle.drawing.specs.Cubic.{cubic_point, cubic_deriv, cubic_at}
use Rattle.curve.specs.Fit.{is_short, first_tip, tip_at, params_of, multiplier_of, integrand_of, robust_of, n_frac_of, fit_of}
use Rattle.curve.specs.Curve.{line_of, lines_of, range_of, range_end, tip_of, is_near, accepted, walk, is_point, side_events, device_side, euler_events}
use Rattle.segment.specs.Segment.{fill_events, shape_events}
use Rattle.flatten.specs.Boxes.{fresh_box, has_extent, marked_of, merged_of, changed_of, changed_at}
use Rattle.flatten.specs.Tag.{boxed, head_at, finite_only, shape_at, events_by, events_at}
use Rattle.flatten.specs.Step.{drawn_of, change_of, turn_of, refused_at, step_from_by, step_by}
use Rattle.flatten.specs.Call.{first_turn, start_of, taken, answer_of, said, told_of, Outcome, outcome, call_of, after_by, call_by, onward_by}
use Rattle.flatten.specs.Whose.{aside, set_aside}
use Rattle.flatten.specs.declared.boxes.PathBox.{PathBox}
use Rattle.flatten.specs.declared.call.Layout.{Layout}
use Rattle.watertight.specs.Fill.{Call, events_or, drawn_at}

-- ---- a row: what the definitions give, and what was measured

pub data Value : Type 0 where
  int : ℤ → Value
  float : Float → Value

pub record Row : Type 0 where
  pub given : List Value
  pub measured : List Value

abbrev nat : ℕ → Value
nat n = int (pos n)

abbrev point : Vec2 → List Value
point p = float p.x ∷ float p.y ∷ []

-- a box's first four fields, its flags and its transform index
abbrev box_fields : PathBox → List Value
box_fields b = int b.x0 ∷ int b.y0 ∷ int b.x1 ∷ int b.y1 ∷ nat b.draw_flags ∷ nat b.trans_ix ∷ []

-- the refusal's number or 0, the tag in turn, and the count of lines
abbrev told : Outcome → List Value
told o = nat o.answer.number ∷ nat o.answer.tag ∷ nat o.answer.count ∷ []

-- ---- the triangle, by its first tag: a transform, then a style, two lines, a line that ends the subpath, and a path

abbrev pub scene_from : ℕ → List ℕ
scene_from first =
    (0x01014000 + first) ∷ 0x00001005 ∷ (replicate 62 0
    ++ 0x00000000 ∷ 0x00000003 ∷ 0x00060000 ∷ 0x00000000 ∷ 0x3f800000 ∷ 0 ∷ 0 ∷ 0x3f800000 ∷ 0 ∷ 0 ∷ 0 ∷ 0 ∷ [])

-- the prefixes of a fresh scan
abbrev pub scanned : ℕ → List ℕ
scanned first = (scan_of (scene_from first) 0 (replicate 4096 0)).words

-- a tag's data offset
abbrev offset : Read PathTagData → List Value
offset (Ok d) = nat d.monoid.pathseg_offset ∷ []
offset (Err why) = []

abbrev pub bases : Layout
bases = record { n_wg = 1; tag_base = 0; data_base = 0x40; transform_base = 0x44; style_base = 0x4a }

-- its call, with boxes and with room for so many lines
abbrev pub triangle : ℕ → List PathBox → ℕ → Outcome
triangle first boxes room = call_of bases (scene_from first) (scanned first) boxes (replicate (room * 6) 0)

-- (0, 0) to (3, 0), to (0, 6), and back, with three second words
abbrev pub three_lines : ℕ → ℕ → ℕ → List ℕ
three_lines i j k =
    0 ∷ i ∷ 0x00000000 ∷ 0x00000000 ∷ 0x40400000 ∷ 0x00000000
    ∷ 0 ∷ j ∷ 0x40400000 ∷ 0x00000000 ∷ 0x00000000 ∷ 0x40c00000
    ∷ 0 ∷ k ∷ 0x00000000 ∷ 0x40c00000 ∷ 0x00000000 ∷ 0x00000000
    ∷ []

-- a fresh box, but that 7 and 9 stand behind
abbrev marked_box : PathBox
marked_box = record { x0 = fresh_box.x0; y0 = fresh_box.y0; x1 = fresh_box.x1; y1 = fresh_box.y1; draw_flags = 7; trans_ix = 9 }

-- no workgroups and an empty scene
abbrev nothing : ℕ → Outcome
nothing base =
    call_of (record { n_wg = 0; tag_base = 0; data_base = base; transform_base = 0; style_base = 0 }) [] [] [] []

abbrev box_at : Float → IntBbox
box_at v = box_with empty_box (new_of v v)

-- ---- the table; the second word of a record is set aside

abbrev row : List Value → List Value → Row
row g m = record { given = g; measured = m }

unfoldable pub table : List Row
table =
    row (flatten (map (λ ix. offset (tag_of (scene_from 0x20) 0 (scanned 0x20) ix)) (2 ∷ 3 ∷ 4 ∷ []))) (nat 0 ∷ nat 1 ∷ nat 2 ∷ [])
    ∷ row (let o = triangle 0x20 (marked_box ∷ []) 2 in told o ++ flatten (map box_fields o.boxes)) (nat 6 ∷ nat 4 ∷ nat 2 ∷ nat 0 ∷ nat 0 ∷ nat 3 ∷ nat 6 ∷ nat 7 ∷ nat 9 ∷ [])
    ∷ row (let o = triangle 0x20 [] 3 in told o ++ map nat (set_aside o).lines) (nat 4 ∷ nat 5 ∷ nat 3 ∷ map nat (three_lines 0 0 0))
    ∷ row (told (triangle 0x00 (fresh_box ∷ []) 3)) (nat 2 ∷ nat 2 ∷ nat 0 ∷ [])
    ∷ row (told (nothing 0)) (nat 0 ∷ nat 0 ∷ nat 0 ∷ [])
    ∷ row (told (nothing 1)) (nat 1 ∷ nat 0 ∷ nat 0 ∷ [])
    ∷ row (point (i16_point (0xffff8000 ∷ []) 0)) (float (neg (whole 32768)) ∷ float (neg (whole 1)) ∷ [])
    ∷ row (int (box_at (neg (dec 5 1))).x0 ∷ int (box_at (neg (dec 5 1))).x1 ∷ []) (int (negsuc 0) ∷ nat 0 ∷ [])
    ∷ row (int (box_at (whole 2147483648)).x1 ∷ []) (nat 2147483647 ∷ [])
    ∷ row (float (hypot_of (whole 3) (whole 4)) ∷ []) (float (whole 5) ∷ [])
    ∷ row (float (two_thirds_of (whole 8)) ∷ []) (float (whole 4) ∷ [])
    ∷ row (float (half_of 0x4400) ∷ []) (float (whole 4) ∷ [])
    ∷ []

-- ---- an accepted call that draws

-- the triangle with a box and room, drawn: three lines, which tags 2, 3 and 4 drew, and their box
abbrev pub drawn : Outcome
drawn = outcome (said 0 0 3) (record { x0 = pos 0; y0 = pos 0; x1 = pos 3; y1 = pos 6; draw_flags = 0; trans_ix = 0 } ∷ []) (three_lines 2 3 4)

-- the same call, as demand 3 speaks of it
unfoldable pub its_call : Call
its_call = record { layout = bases; scene = scene_from 0x20; prefixes = scanned 0x20; boxes = fresh_box ∷ []; lines = replicate 18 0 }

computed : (map (λ r. r.given) table ≡ map (λ r. r.measured) table) × (triangle 0x20 (fresh_box ∷ []) 3 ≡ drawn)
    × (map (λ i. length (drawn_at its_call i)) (2 ∷ 3 ∷ 4 ∷ []) ≡ 1 ∷ 1 ∷ 1 ∷ [])
unfolding its_call drawn_at events_or table aside flatten of_bits of_int to_bits to_signed to_unsigned round neg add sub mul div lt le eq is_nan sign_of signed abs_of half_units half_fields half_of before max_of clamp_of whole_of floor_of ceil_of sqrt_of two_thirds_of hypot_of trig.bounded_of trig.sin_near trig.cos_near trig.reduced_of trig.curve_of trig.wave_of trig.sin_of trig.cos_of trig.angle_of trig.atan2_of add_of sub_of mul_of dot_of length_of length_squared_of mix_of angle_of has_nan eq_of identity_of apply_of fitted_error error_ratio long_chord from_points_derivs from_angles word_at tag_sums plus byte_at sums_below word_sums tag_data prefix_at with_prefix tag_in tag_of sums_before prefixes filled scan_of i16_of i16_point point_words point_at line_cubic point_count raised cubic_of reaches segment_of floats_at transform_of all_finite flags_of lower_of higher_of empty_box box_with has_room stored draw_on draw draw_all cubic_point cubic_deriv cubic_at is_short first_tip tip_at params_of multiplier_of integrand_of robust_of n_frac_of fit_of line_of lines_of range_of range_end tip_of is_near accepted walk is_point side_events device_side euler_events fill_events shape_events fresh_box has_extent marked_of merged_of changed_of changed_at boxed head_at finite_only shape_at events_by events_at drawn_of change_of turn_of refused_at step_from_by step_by first_turn start_of taken onward_by after_by answer_of number_of end_of told_of call_by
computed = (refl, refl, refl)

-- ---- the theorems

pub as_measured : map (λ r. r.given) table ≡ map (λ r. r.measured) table
as_measured = computed.0

pub as_drawn : triangle 0x20 (fresh_box ∷ []) 3 ≡ drawn
as_drawn = computed.1

-- each of its tags draws one line
pub as_many : map (λ i. length (drawn_at its_call i)) (2 ∷ 3 ∷ 4 ∷ []) ≡ 1 ∷ 1 ∷ 1 ∷ []
as_many = computed.2
