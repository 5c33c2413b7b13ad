-- The whole way, computed: a drawing's text becomes its file for the knife table, of which the theorem of `whole_way` holds, and two refusals that leave the bytes alone. Assumes nothing.
use Rattle.std.specs.Prelude.{ℕ, ◌≡◌, refl, false, replicate, pos, Ok}
use Rattle.std.proofs.Common.{ap, subst, ◌∙◌}
use mathlib.Core.List.{List, [], ◌∷◌, ◌++◌, flatten}
use Rattle.std.specs.Float.Ieee.{of_bits, of_int, to_bits, to_signed, to_unsigned, round, neg, add, sub, mul, div, lt, le, eq, is_nan}
use Rattle.numbers.specs.Words.{sign_of, signed, abs_of}
use Rattle.numbers.specs.Select.{before, max_of, clamp_of}
use Rattle.numbers.specs.Whole.{whole_of, floor_of, ceil_of}
use Rattle.roots.specs.Root.{sqrt_of, two_thirds_of, hypot_of}
use Rattle.trig.specs.Trig as trig
use Rattle.refusals.specs.Refusals.{number_of, end_of}
use Rattle.records.specs.Record.{once}
use Rattle.spiral.specs.Util.{add_of, sub_of, mul_of, dot_of, length_of, length_squared_of, mix_of, angle_of, has_nan, eq_of, identity_of, apply_of}
use Rattle.spiral.specs.Euler.{fitted_error, error_ratio, long_chord, from_points_derivs, from_angles}
use Rattle.scene.specs.Words.{word_at}
use Rattle.scene.specs.Tags.{tag_sums, plus, byte_at, sums_below, word_sums, tag_data, prefix_at, with_prefix, tag_in, tag_of, sums_before, filled, scan_of}
use Rattle.scene.specs.Tags as tag
use Rattle.scene.specs.Reading.{f32_point, point_words, point_at, line_cubic, point_count, raised, cubic_of, reaches, segment_of, floats_at, transform_of, all_finite, flags_of}
use Rattle.drawing.specs.Sheet.{lower_of, higher_of, empty_box, box_with, has_room, stored, draw_on, draw, draw_all}
use Rattle.drawing.specs.Cubic.{cubic_point, cubic_deriv, cubic_at}
use Rattle.curve.specs.Fit.{is_short, first_tip, tip_at, params_of, multiplier_of, integrand_of, robust_of, n_frac_of, fit_of}
use Rattle.curve.specs.Curve.{line_of, lines_of, range_of, range_end, tip_of, is_near, accepted, walk, is_point, side_events, device_side, euler_events}
use Rattle.segment.specs.Segment.{fill_events, shape_events}
use Rattle.flatten.specs.Boxes.{fresh_box, has_extent, marked_of, merged_of, changed_of, changed_at}
use Rattle.flatten.specs.Tag.{boxed, head_at, finite_only, shape_at, events_by, events_at}
use Rattle.flatten.specs.Step.{drawn_of, change_of, turn_of, refused_at, step_from_by, step_by}
use Rattle.flatten.specs.Call.{first_turn, start_of, taken, answer_of, told_of, after_by, call_by, onward_by}
use Rattle.pattern.specs.Commands as commands
use Rattle.pattern.specs.Meaning as meaning
use Rattle.svg.specs.Language.{symbols, Item, letter, number, close, dec, close_path, commands_at, Means}
use Rattle.svg.specs.Language.{Command as Svg, draw as command}
use Rattle.svg.specs.Decimal.{decimal_of}
use Rattle.svg.specs.Machine.{begun, runs}
use Rattle.svg.specs.Fold.{answer, run}
use Rattle.svg.specs.Exactly.{accepted_is_text}
use Rattle.svg.specs.Unique.{one_meaning}
use Rattle.svg.specs.Meaning as svg
use Rattle.svg.specs.Import as import
use Rattle.svg.specs.declared.steps.Kind.TheVariants.{Move, Line}
use Rattle.svg.specs.Machine.{Accepted}
use Rattle.outlines.specs.Flattened.{cubic_from, drawn_by, drawn_along, flattened}
use Rattle.profile.specs.Reads.{rest_by, read_at}
use Rattle.profile.specs.Rules as rules
use Rattle.profile.specs.Verdict as profile
use Rattle.hpgl.specs.Text.{digits, decimal, numeral, signed_of}
use Rattle.hpgl.specs.Form as form
use Rattle.hpgl.specs.Rounding as rounding
use Rattle.hpgl.specs.Export as export
use Rattle.closed_cuts.specs.Closed.{rounded}
use Rattle.hpgl.specs.declared.Point.{Point}
use Rattle.hpgl.specs.declared.Table.TheVariants.{New}
use Rattle.cut.specs.Sheet.{six_of, tag_bytes, tag_word, packed, groups, tag_words, sheet_of, layout_by, size_of, size_told, fits, lay_of}
use Rattle.cut.specs.Stages.{refused, export_stage, flatten_stage, profile_stage, scan_stage, laid_by, sheet_stage, Gone, cut_of}
use Rattle.svg.specs.declared.hand.Six.{Six}
use Rattle.cut.specs.declared.Stage.TheVariants.{Profile, Export}
use Rattle.whole_way.specs.Promise.{cut_lines, Promise}
use Rattle.whole_way.specs.Stages.{refused_leaves}
use Rattle.whole_way.proofs.WholeWay.{whole_way}

-- ---- what goes in

-- a triangle, M0 0L3 0L0 6Z
abbrev pub text : List ℕ
text = 77 ∷ 48 ∷ 32 ∷ 48 ∷ 76 ∷ 51 ∷ 32 ∷ 48 ∷ 76 ∷ 48 ∷ 32 ∷ 54 ∷ 90 ∷ []

-- the transform that moves nothing
abbrev pub unit : Six
unit = record { a = 0x3f800000; b = 0; c = 0; d = 0x3f800000; e = 0; f = 0 }

-- one that shears
abbrev pub shear : Six
shear = record { a = 0x3f800000; b = 0; c = 0x3f000000; d = 0x3f800000; e = 0; f = 0 }

-- for the new table, with exact room for all but the file, and lent so many bytes of 255
abbrev pub way : Six → ℕ → Gone
way z room = cut_of text (six_of z) New (replicate 3 0) (replicate 8 0) (replicate 80 0) (replicate 256 0) (replicate 18 0) (replicate room 255)

-- the file, IN;PU0,0;PD3,0;PD0,6;PD0,0;
abbrev pub file : List ℕ
file = 73 ∷ 78 ∷ 59 ∷ 80 ∷ 85 ∷ 48 ∷ 44 ∷ 48 ∷ 59 ∷ 80 ∷ 68 ∷ 51 ∷ 44 ∷ 48 ∷ 59 ∷ 80 ∷ 68 ∷ 48 ∷ 44 ∷ 54 ∷ 59 ∷ 80 ∷ 68 ∷ 48 ∷ 44 ∷ 48 ∷ 59 ∷ []

-- ---- computed

-- the file with the three bytes behind it as lent; with a byte too few; with a shear
computed : ((way unit 30).behind.answer ≡ Ok 27) × ((way unit 30).behind.bytes ≡ file ++ replicate 3 255)
    × ((way unit 26).behind.answer ≡ refused Export 31 2) × ((way shear 30).behind.answer ≡ refused Profile 73 2)
unfolding cut_of sheet_stage laid_by scan_stage profile_stage flatten_stage export_stage size_of size_told fits lay_of layout_by sheet_of tag_words groups packed tag_word tag_bytes import.report_of import.import_of import.import_from svg.all_of symbols runs to_bits decimal_of commands.same commands.words_of commands.floats_of commands.spots commands.target commands.tag_of commands.finishing commands.start_of commands.ink_of commands.place_of commands.ended commands.fits commands.number_of commands.written commands.inked commands.may_draw commands.named commands.command_of profile.first profile.unread_or profile.against_or profile.started_by profile.rules_of profile.profile_of profile.number_of profile.told_of rest_by read_at once rules.head_or rules.head_of rules.six_at rules.same_words rules.is_zero rules.straight rules.aligned_to rules.point_of rules.segments rules.subpaths rules.open_at rules.beginning rules.leading rules.facts_at rules.broken70 rules.broken71 rules.broken72 rules.broken73 rules.broken74 rules.broken75 rules.unless rules.rule_of export.cut_report export.look_of export.answer_of export.export_of export.export_from export.put_line export.put export.goes_on form.command form.range_of numeral decimal digits rounding.point_of rounding.rounded_of rounding.is_good rounding.is_within signed_of flatten of_bits of_int to_signed to_unsigned round neg add sub mul div lt le eq is_nan sign_of signed abs_of before max_of clamp_of whole_of floor_of ceil_of sqrt_of two_thirds_of hypot_of trig.bounded_of trig.sin_near trig.cos_near trig.reduced_of trig.curve_of trig.wave_of trig.sin_of trig.cos_of trig.angle_of trig.atan2_of add_of sub_of mul_of dot_of length_of length_squared_of mix_of angle_of has_nan eq_of identity_of apply_of fitted_error error_ratio long_chord from_points_derivs from_angles word_at tag_sums plus byte_at sums_below word_sums tag_data prefix_at with_prefix tag_in tag_of sums_before tag.prefixes filled scan_of f32_point point_words point_at line_cubic point_count raised cubic_of reaches segment_of floats_at transform_of all_finite flags_of lower_of higher_of empty_box box_with has_room stored draw_on draw draw_all cubic_point cubic_deriv cubic_at is_short first_tip tip_at params_of multiplier_of integrand_of robust_of n_frac_of fit_of line_of lines_of range_of range_end tip_of is_near accepted walk is_point side_events device_side euler_events fill_events shape_events fresh_box has_extent marked_of merged_of changed_of changed_at boxed head_at finite_only shape_at events_by events_at drawn_of change_of turn_of refused_at step_from_by step_by first_turn start_of taken onward_by after_by answer_of number_of end_of told_of call_by profile.fault_number
computed = (refl, refl, refl, refl)

-- the text is accepted, and its file has 27 bytes
pub its_answer : (way unit 30).behind.answer ≡ Ok 27
its_answer = computed.0

-- byte for byte, and what was lent behind it is untouched
pub its_file : (way unit 30).behind.bytes ≡ file ++ replicate 3 255
its_file = computed.1

-- ---- the theorem, applied

-- all that is promised of a file that was written holds of this one
pub its_promise : Promise text (six_of unit) New (replicate 30 255) (file ++ replicate 3 255) 27
its_promise =
    subst (λ (bytes : List ℕ). Promise text (six_of unit) New (replicate 30 255) bytes 27) its_file
    (whole_way text unit New (replicate 3 0) (replicate 8 0) (replicate 80 0) (replicate 256 0) (replicate 18 0) (replicate 30 255) 27 its_answer)

-- the commands that the text spells
abbrev pub spelled : List Svg
spelled =
    command Move (dec false 0 0 ∷ dec false 0 0 ∷ [])
    ∷ command Line (dec false 3 0 ∷ dec false 0 0 ∷ [])
    ∷ command Line (dec false 0 0 ∷ dec false 6 0 ∷ [])
    ∷ close_path
    ∷ []

abbrev items : List Item
items =
    letter Move ∷ number (dec false 0 0) ∷ number (dec false 0 0)
    ∷ letter Line ∷ number (dec false 3 0) ∷ number (dec false 0 0)
    ∷ letter Line ∷ number (dec false 0 0) ∷ number (dec false 6 0)
    ∷ close
    ∷ []

is_read : run 0 begun (symbols text) ≡ answer items Accepted
unfolding run symbols
is_read = refl

pub its_meaning : Means text spelled
unfolding commands_at
its_meaning = record { items = items; text = accepted_is_text text items is_read; commands = refl }

-- they are the ones that the promise is about
pub its_commands : its_promise.commands ≡ spelled
its_commands = one_meaning text its_promise.commands spelled its_promise.means its_meaning

-- its three sides, in plotter units
abbrev at : ℕ → ℕ → Point
at x y = record { x = pos x; y = pos y }

abbrev pub three : List form.Line
three = record { from = at 0 0; to = at 3 0 } ∷ record { from = at 3 0; to = at 0 6 } ∷ record { from = at 0 6; to = at 0 0 } ∷ []

flat : cut_lines (six_of unit) spelled ≡ three
unfolding rounded flattened drawn_along drawn_by cubic_from svg.meaning svg.drawn_from meaning.meant meaning.goes_on meaning.finished meaning.finished_by meaning.closing meaning.end_of commands.same commands.target to_bits decimal_of rounding.point_of rounding.rounded_of signed_of flatten of_bits of_int to_signed to_unsigned round neg add sub mul div lt le eq is_nan sign_of signed abs_of before max_of clamp_of whole_of floor_of ceil_of sqrt_of two_thirds_of hypot_of trig.bounded_of trig.sin_near trig.cos_near trig.reduced_of trig.curve_of trig.wave_of trig.sin_of trig.cos_of trig.angle_of trig.atan2_of add_of sub_of mul_of dot_of length_of length_squared_of mix_of angle_of has_nan eq_of identity_of apply_of fitted_error error_ratio long_chord from_points_derivs from_angles line_cubic floats_at cubic_point cubic_deriv cubic_at is_short first_tip tip_at params_of multiplier_of integrand_of robust_of n_frac_of fit_of line_of lines_of range_of range_end tip_of is_near accepted walk is_point side_events device_side euler_events fill_events
flat = refl

-- the knife draws these three lines, in the drawing's order, and no other
pub its_lines : form.lines_of its_promise.chains ≡ three
its_lines = its_promise.lines ∙ ap (cut_lines (six_of unit)) its_commands ∙ flat

-- ---- refused

-- with room for 26 bytes: 31 at its third line, and no part of a file is written
pub no_room_lem : ((way unit 26).behind.answer ≡ refused Export 31 2) × ((way unit 26).behind.bytes ≡ replicate 26 255)
no_room_lem = (
  computed.2,
  refused_leaves text (six_of unit) New (replicate 3 0) (replicate 8 0) (replicate 80 0) (replicate 256 0) (replicate 18 0) (replicate 26 255) Export 31 2 computed.2,
)

-- with a shear: 73 at its first segment, and nothing is written
pub sheared : ((way shear 30).behind.answer ≡ refused Profile 73 2) × ((way shear 30).behind.bytes ≡ replicate 30 255)
sheared = (
  computed.3,
  refused_leaves text (six_of shear) New (replicate 3 0) (replicate 8 0) (replicate 80 0) (replicate 256 0) (replicate 18 0) (replicate 30 255) Profile 73 2 computed.3,
)
