-- Examples of the language and of decimals, computed. Assumes nothing.
use Rattle.std.specs.Prelude.{◌≡◌, refl, true, false, List, [], ◌∷◌, ℕ, Err}
use Rattle.std.specs.Float.{binary32}
use Rattle.std.specs.Float.Ieee.{to_bits, round, of_bits}
use Rattle.pattern.specs.Meaning.{fresh_pen}
use Rattle.svg.specs.declared.steps.Fault.TheVariants.{NotInLanguage, TooLong}
use Rattle.svg.specs.Fold.{Going}
use Rattle.svg.specs.Machine.{Verdict, Accepted, Refused}
use Rattle.svg.specs.Language.{symbols}
use Rattle.svg.specs.Machine.{begun}
use Rattle.svg.specs.Fold.{verdict_from}
use Rattle.svg.specs.Decimal.{decimal_of}
use Rattle.pattern.specs.Commands.{line, move, end, command_of, number_of, may_draw, named, inked, fits, written, ink_of, place_of, finishing, start_of, spots, words_of, floats_of}
use Rattle.pattern.specs.Commands.{draw as line-to}
use Rattle.pattern.specs.declared.pen.Open.TheVariants.{Moved}
use Rattle.scene.specs.Reading.{all_finite}
use Rattle.svg.specs.declared.steps.Kind.TheVariants.{Move, Line}
use Rattle.pattern.specs.declared.pen.Fault.TheVariants.{NoRoom}
use Rattle.svg.specs.declared.reader.Refusal.TheVariants.{Faulty, Undrawn}
use Rattle.svg.specs.Language.{dec, draw, close_path}
use Rattle.svg.specs.Machine.{runs}
use Rattle.svg.specs.Meaning.{meaning, drawn_from, all_of}
use Rattle.svg.specs.Import.{import_from, import_of}
use Rattle.svg.specs.Hands.{spot}

abbrev verdict : List ℕ → Verdict
verdict bs = verdict_from 0 (Going begun) (symbols bs)

-- 'M1 2,'
comma_last : verdict (77 ∷ 49 ∷ 32 ∷ 50 ∷ 44 ∷ []) ≡ Refused NotInLanguage 5
unfolding symbols verdict_from
comma_last = refl

-- 'M1,,2'
two_commas : verdict (77 ∷ 49 ∷ 44 ∷ 44 ∷ 50 ∷ []) ≡ Refused NotInLanguage 3
unfolding symbols verdict_from
two_commas = refl

-- 'Z'
only_z : verdict (90 ∷ []) ≡ Refused NotInLanguage 0
unfolding symbols verdict_from
only_z = refl

-- 'M'
only_m : verdict (77 ∷ []) ≡ Refused NotInLanguage 1
unfolding symbols verdict_from
only_m = refl

-- 'M0 0L1 2.'
point_last : verdict (77 ∷ 48 ∷ 32 ∷ 48 ∷ 76 ∷ 49 ∷ 32 ∷ 50 ∷ 46 ∷ []) ≡ Refused NotInLanguage 9
unfolding symbols verdict_from
point_last = refl

-- 'M-1234567890 0'
ten_digits : verdict (77 ∷ 45 ∷ 49 ∷ 50 ∷ 51 ∷ 52 ∷ 53 ∷ 54 ∷ 55 ∷ 56 ∷ 57 ∷ 48 ∷ 32 ∷ 48 ∷ []) ≡ Refused TooLong 1
unfolding symbols verdict_from
ten_digits = refl

-- 'M1.1234567890'
ten_behind : verdict (77 ∷ 49 ∷ 32 ∷ 46 ∷ 49 ∷ 50 ∷ 51 ∷ 52 ∷ 53 ∷ 54 ∷ 55 ∷ 56 ∷ 57 ∷ 48 ∷ []) ≡ Refused TooLong 3
unfolding symbols verdict_from
ten_behind = refl

-- ''
empty : verdict ([]) ≡ Accepted
unfolding symbols verdict_from
empty = refl

-- ' \t\n'
white : verdict (32 ∷ 9 ∷ 10 ∷ []) ≡ Accepted
unfolding symbols verdict_from
white = refl

-- 'M1.5.5'
two_numbers : verdict (77 ∷ 49 ∷ 46 ∷ 53 ∷ 46 ∷ 53 ∷ []) ≡ Accepted
unfolding symbols verdict_from
two_numbers = refl

-- 'M12'
one_number : verdict (77 ∷ 49 ∷ 50 ∷ []) ≡ Refused NotInLanguage 3
unfolding symbols verdict_from
one_number = refl

-- 'M0 0ZZ'
zz : verdict (77 ∷ 48 ∷ 32 ∷ 48 ∷ 90 ∷ 90 ∷ []) ≡ Accepted
unfolding symbols verdict_from
zz = refl

-- 'M0 0z'
small_z : verdict (77 ∷ 48 ∷ 32 ∷ 48 ∷ 122 ∷ []) ≡ Refused NotInLanguage 4
unfolding symbols verdict_from
small_z = refl

-- 'M1 2 3 4 5'
repeated : verdict (77 ∷ 49 ∷ 32 ∷ 50 ∷ 32 ∷ 51 ∷ 32 ∷ 52 ∷ 32 ∷ 53 ∷ []) ≡ Refused NotInLanguage 10
unfolding symbols verdict_from
repeated = refl

-- 'M123456789.123456789-0'
nine : verdict (77 ∷ 49 ∷ 50 ∷ 51 ∷ 52 ∷ 53 ∷ 54 ∷ 55 ∷ 56 ∷ 57 ∷ 46 ∷ 49 ∷ 50 ∷ 51 ∷ 52 ∷ 53 ∷ 54 ∷ 55 ∷ 56 ∷ 57 ∷ 45 ∷ 48 ∷ []) ≡ Accepted
unfolding symbols verdict_from
nine = refl

-- 1 / 10 ^ 1
tenth : to_bits binary32 (decimal_of false 1 1) ≡ 0x3dcccccd
unfolding to_bits decimal_of round
tenth = refl

-- -0 / 10 ^ 3
minus_zero_lem : to_bits binary32 (decimal_of true 0 3) ≡ 0x80000000
unfolding to_bits decimal_of round
minus_zero_lem = refl

-- 16777217 / 10 ^ 0
tie_down : to_bits binary32 (decimal_of false 16777217 0) ≡ 0x4b800000
unfolding to_bits decimal_of round
tie_down = refl

-- 16777219 / 10 ^ 0
tie_up : to_bits binary32 (decimal_of false 16777219 0) ≡ 0x4b800002
unfolding to_bits decimal_of round
tie_up = refl

-- 167772165 / 10 ^ 1
tie_behind : to_bits binary32 (decimal_of false 167772165 1) ≡ 0x4b800000
unfolding to_bits decimal_of round
tie_behind = refl

-- -999999999999999999 / 10 ^ 9
largest : to_bits binary32 (decimal_of true 999999999999999999 9) ≡ 0xce6e6b28
unfolding to_bits decimal_of round
largest = refl

-- 1 / 10 ^ 9
least : to_bits binary32 (decimal_of false 1 9) ≡ 0x3089705f
unfolding to_bits decimal_of round
least = refl

-- 'M1 2 3 4ZL5 6': the pair behind M's is a line, and behind Z the line starts at M's point
behind_z : meaning (draw Move (dec false 1 0 ∷ dec false 2 0 ∷ []) ∷ draw Line (dec false 3 0 ∷ dec false 4 0 ∷ []) ∷ close_path ∷ draw Line (dec false 5 0 ∷ dec false 6 0 ∷ []) ∷ [])
    ≡ move (spot 0x3f80_0000 0x4000_0000) ∷ line-to (line (spot 0x4040_0000 0x4080_0000)) ∷ end ∷ move (spot 0x3f80_0000 0x4000_0000) ∷ line-to (line (spot 0x40a0_0000 0x40c0_0000)) ∷ end ∷ []
unfolding meaning drawn_from to_bits decimal_of round
behind_z = refl

-- 'M0 0L1 2.': M is drawn, and the line is not
point_last_drawn : import_of (77 ∷ 48 ∷ 32 ∷ 48 ∷ 76 ∷ 49 ∷ 32 ∷ 50 ∷ 46 ∷ []) fresh_pen [] []
    ≡ record { ending = Err (Faulty NotInLanguage 9); pen = record { place = record { opened = Moved; first = spot 0 0; last = spot 0 0 }; tags = 0; points = 0 }; tags = []; points = [] }
unfolding import_of import_from all_of symbols runs command_of number_of may_draw named inked fits written ink_of place_of finishing words_of floats_of all_finite to_bits of_bits decimal_of round
point_last_drawn = refl

-- 'M0 0L1 1' with no room for the line: 21 behind its last number, at the length
no_room_lem : (import_of (77 ∷ 48 ∷ 32 ∷ 48 ∷ 76 ∷ 49 ∷ 32 ∷ 49 ∷ []) fresh_pen [] []).ending ≡ Err (Undrawn NoRoom 8)
unfolding import_of import_from all_of symbols runs command_of number_of may_draw named inked fits written ink_of place_of finishing start_of spots words_of floats_of all_finite to_bits of_bits decimal_of round
no_room_lem = refl
