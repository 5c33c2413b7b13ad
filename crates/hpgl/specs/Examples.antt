-- Worked examples, by computation. Assumes nothing.
use Rattle.std.specs.Prelude.{◌≡◌, refl, true, false, List, [], ◌∷◌, ℕ, pos, negsuc}
use Rattle.std.specs.Float.{binary32}
use Rattle.std.specs.Float.Ieee.{of_bits}
use Rattle.hpgl.specs.Rounding.{rounded_of, is_within, is_good, point_of}
use Rattle.hpgl.specs.Export.{exported, written, refused, no_room, put, goes_on, put_line, export_from, export_of}
use Rattle.hpgl.specs.Text.{digits, decimal, numeral, signed_of}
use Rattle.hpgl.specs.Form.{range_of, Line, command}
use Rattle.hpgl.specs.Reading.{byte_of, value_of, kept, num_step, up_from, down_from, whole, first_of, second_of, move_of, complete, malformed, too_far, full, answer, after, run, read_of}
use Rattle.hpgl.specs.declared.Table.TheVariants.{Old, New}

-- -32767 in bytes
least : numeral (negsuc 32766) ≡ 45 ∷ 51 ∷ 50 ∷ 55 ∷ 54 ∷ 55 ∷ []
unfolding numeral decimal digits
least = refl

-- IN; alone
alone : read_of (range_of Old) 0 (73 ∷ 78 ∷ 59 ∷ []) ≡ answer [] complete
unfolding read_of run after move_of
alone = refl

-- IN
short : read_of (range_of Old) 0 (73 ∷ 78 ∷ []) ≡ answer [] (malformed 2)
unfolding read_of run after move_of
short = refl

-- IN;PD
no_start : read_of (range_of Old) 0 (73 ∷ 78 ∷ 59 ∷ 80 ∷ 68 ∷ []) ≡ answer [] (malformed 4)
unfolding read_of run after move_of up_from down_from
no_start = refl

-- IN;PU-0
minus_zero_lem : read_of (range_of Old) 0 (73 ∷ 78 ∷ 59 ∷ 80 ∷ 85 ∷ 45 ∷ 48 ∷ []) ≡ answer [] (malformed 6)
unfolding read_of run after move_of up_from down_from first_of num_step kept byte_of
minus_zero_lem = refl

-- IN;PU01
leading_zero : read_of (range_of Old) 0 (73 ∷ 78 ∷ 59 ∷ 80 ∷ 85 ∷ 48 ∷ 49 ∷ []) ≡ answer [] (malformed 6)
unfolding read_of run after move_of up_from down_from first_of num_step kept byte_of
leading_zero = refl

-- IN;PU1,1;PU
two_starts : read_of (range_of Old) 0 (73 ∷ 78 ∷ 59 ∷ 80 ∷ 85 ∷ 49 ∷ 44 ∷ 49 ∷ 59 ∷ 80 ∷ 85 ∷ []) ≡ answer [] (malformed 10)
unfolding read_of run after move_of up_from down_from first_of second_of whole num_step kept byte_of value_of range_of
two_starts = refl

-- IN;PU32768x: the reader stops at the number's start, whatever stands behind
too_far_lem : read_of (range_of Old) 0 (73 ∷ 78 ∷ 59 ∷ 80 ∷ 85 ∷ 51 ∷ 50 ∷ 55 ∷ 54 ∷ 56 ∷ 120 ∷ []) ≡ answer [] (too_far 5)
unfolding read_of run after move_of up_from down_from first_of second_of whole num_step kept byte_of value_of range_of
too_far_lem = refl

-- IN;PU32768,0;PD-8388608,0; by the reader set to the new table
abbrev afar : Line
afar = record { from = record { x = pos 32768; y = pos 0 }; to = record { x = negsuc 8388607; y = pos 0 } }

far : read_of (range_of New) 1 (73 ∷ 78 ∷ 59 ∷ 80 ∷ 85 ∷ 51 ∷ 50 ∷ 55 ∷ 54 ∷ 56 ∷ 44 ∷ 48 ∷ 59 ∷ 80 ∷ 68 ∷ 45 ∷ 56 ∷ 51 ∷ 56 ∷ 56 ∷ 54 ∷ 48 ∷ 56 ∷ 44 ∷ 48 ∷ 59 ∷ []) ≡ answer (afar ∷ []) complete
unfolding read_of run after move_of up_from down_from first_of second_of whole num_step kept byte_of value_of range_of
far = refl

-- IN;PU8388608
too_far_new : read_of (range_of New) 0 (73 ∷ 78 ∷ 59 ∷ 80 ∷ 85 ∷ 56 ∷ 51 ∷ 56 ∷ 56 ∷ 54 ∷ 48 ∷ 56 ∷ []) ≡ answer [] (too_far 5)
unfolding read_of run after move_of up_from down_from first_of second_of whole num_step kept byte_of value_of range_of
too_far_new = refl

-- IN;PU1,1;PD2,-3; with room for no line and for one
no_room_lem : read_of (range_of Old) 0 (73 ∷ 78 ∷ 59 ∷ 80 ∷ 85 ∷ 49 ∷ 44 ∷ 49 ∷ 59 ∷ 80 ∷ 68 ∷ 50 ∷ 44 ∷ 45 ∷ 51 ∷ 59 ∷ []) ≡ answer [] (full 9)
unfolding read_of run after move_of up_from down_from first_of second_of whole num_step kept byte_of value_of range_of
no_room_lem = refl

abbrev slope : Line
slope = record { from = record { x = pos 1; y = pos 1 }; to = record { x = pos 2; y = negsuc 2 } }

one_line : read_of (range_of Old) 1 (73 ∷ 78 ∷ 59 ∷ 80 ∷ 85 ∷ 49 ∷ 44 ∷ 49 ∷ 59 ∷ 80 ∷ 68 ∷ 50 ∷ 44 ∷ 45 ∷ 51 ∷ 59 ∷ []) ≡ answer (slope ∷ []) complete
unfolding read_of run after move_of up_from down_from first_of second_of whole num_step kept byte_of value_of range_of
one_line = refl

-- ---- the export: path 7 of three records, from (0.5, 1.5) to (2.5, -0.5) and on to (1, 1), with a record of another path between: ties to even, and no sign of a zero
abbrev words : List ℕ
words = 7 ∷ 0 ∷ 0x3f000000 ∷ 0x3fc00000 ∷ 0x40200000 ∷ 0xbf000000 ∷ 8 ∷ 0 ∷ 0x7fc00000 ∷ 0 ∷ 0 ∷ 0 ∷ 7 ∷ 9 ∷ 0x40200000 ∷ 0xbf000000 ∷ 0x3f800000 ∷ 0x3f800000 ∷ 7 ∷ []

-- IN;PU0,2;PD2,0;PD1,1;
cut : export_of (range_of New) 7 100 words ≡ exported (73 ∷ 78 ∷ 59 ∷ 80 ∷ 85 ∷ 48 ∷ 44 ∷ 50 ∷ 59 ∷ 80 ∷ 68 ∷ 50 ∷ 44 ∷ 48 ∷ 59 ∷ 80 ∷ 68 ∷ 49 ∷ 44 ∷ 49 ∷ 59 ∷ []) written
unfolding export_of export_from put_line put goes_on command numeral decimal digits point_of rounded_of signed_of is_good is_within range_of of_bits
cut = refl

-- one byte short: the last command is left out, at record 2
cut_short : export_of (range_of New) 7 20 words ≡ exported (73 ∷ 78 ∷ 59 ∷ 80 ∷ 85 ∷ 48 ∷ 44 ∷ 50 ∷ 59 ∷ 80 ∷ 68 ∷ 50 ∷ 44 ∷ 48 ∷ 59 ∷ []) (no_room 2)
unfolding export_of export_from put_line put goes_on command numeral decimal digits point_of rounded_of signed_of is_good is_within range_of of_bits
cut_short = refl

-- a NaN in path 8
cut_nan : export_of (range_of New) 8 100 words ≡ exported (73 ∷ 78 ∷ 59 ∷ []) (refused 1)
unfolding export_of export_from put_line put goes_on command numeral decimal digits point_of rounded_of signed_of is_good is_within range_of of_bits
cut_nan = refl

-- 8388607.5 rounds to 8388608, which the new table has below zero only
half_above : is_good (range_of New) (of_bits binary32 0x4affffff) ≡ false
unfolding is_good is_within rounded_of signed_of range_of of_bits
half_above = refl

half_below : is_good (range_of New) (of_bits binary32 0xcaffffff) ≡ true
unfolding is_good is_within rounded_of signed_of range_of of_bits
half_below = refl
