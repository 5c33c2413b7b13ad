-- The form of a sheet, in the scope paper's words: eight-digit lowercase hex words, one a line. Definitions only.
use Rattle.std.specs.Prelude.{ℕ, zero, suc, ◌+◌, ◌-◌, ◌*◌, cond, List, [], ◌∷◌, ◌++◌, eqb, leb, ltb, length, get_or, replicate, Option, Some, None}
use Rattle.std.specs.Option.{option_and_then, option_map}
use Rattle.flatlist.specs.declared.input.Sheet.{Sheet}

-- ---- the words of a text

-- the value of a byte from '0' to '9' or from 'a' to 'f'
unfoldable pub digit_of : ℕ → Option ℕ
digit_of b = cond (ltb b 48) None (cond (leb b 57) (Some (b - 48)) (cond (ltb b 97) None (cond (leb b 102) (Some (b - 97 + 10)) None)))

-- words, where no line is none
abbrev pub Words : Type 0
Words = Option (List ℕ)

-- the words of one line
abbrev pub one_word : Option ℕ → Words
one_word = option_map (λ w. w ∷ [])

-- words and then those that follow
unfoldable pub behind : List ℕ → Words → Words
behind ws (Some vs) = Some (ws ++ vs)
behind ws None = None

-- n digits of a word are still to come, and w is the number of those before. A line end stands behind each word; the last may lack it.
unfoldable pub words_from : ℕ → ℕ → List ℕ → Words
words_from zero w [] = Some (w ∷ [])
words_from (suc n) w [] = cond (eqb n 7) (Some []) None
words_from zero w (b ∷ bs) = cond (eqb b 10) (behind (w ∷ []) (words_from 8 0 bs)) None
words_from (suc n) w (b ∷ bs) = option_and_then (λ d. words_from n (w * 16 + d) bs) (digit_of b)

-- ---- a sheet

abbrev pub good_sheet : List ℕ → ℕ → Option Sheet
good_sheet ws n = Some (record { count = n; words = ws })

-- six words and at most 1,024 of the scene, with zeros behind
unfoldable pub placed : Words → Option Sheet
placed (Some ws) = cond (leb (length ws) 1030) (good_sheet (ws ++ replicate (1030 - length ws) 0) (length ws)) None
placed None = None

-- not with fewer than six words, nor with a box count over 16
unfoldable pub judged_by : Sheet → Option Sheet
judged_by s = cond (ltb s.count 6) None (cond (ltb 16 (get_or s.words 5 0)) None (Some s))

unfoldable pub judged : Option Sheet → Option Sheet
judged = option_and_then judged_by

unfoldable pub sheet_of : List ℕ → Option Sheet
sheet_of text = judged (placed (words_from 8 0 text))
