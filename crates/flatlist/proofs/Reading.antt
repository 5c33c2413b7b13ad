-- Where the readers of a word and of a sheet stand, and what each way through a turn makes of it. Assumes nothing.
use Prim.Native.Nat.{ℕ, zero, suc, ◌+◌, ◌-◌, ◌*◌, ◌^◌, ◌≤◌, ◌<◌, min}
use mathlib.Core.Path.{◌≡◌, refl, sym, ap, ap₂, ◌∙◌}
use mathlib.Core.Bool.{Bool, true, false, cond}
use mathlib.Core.List.{List, [], ◌∷◌, ◌++◌, append_assoc, append-nil}
use native.Mathlib.Nat.{pow-suc, pow-le-pow_right}
use native.Mathlib.Numerals.{add-one}
use native.Mathlib.Omega.{arith}
use borrow.Author.Tests.{le-leb, lt-leb, eq-eqb, ne_eqb, leb-true}
use lib.Dec.{eqb, leb, ltb}
use lib.ListN.{length, length-append, get_or, set, take, drop, drop_of_length-le, replicate}
use lib.Seq.{drop-cons, get_or-take, length-take-le, set-append_seam}
use Rattle.std.specs.Prelude.{Option, Some, None}
use Rattle.std.specs.Option.{option_and_then}
use Rattle.flatlist.specs.Form.{digit_of, Words, one_word, behind, words_from, good_sheet, placed}

-- ---- words behind others

behind_none_before : (r : Words) → behind [] r ≡ r
unfolding behind
behind_none_before (Some ws) = refl
behind_none_before None = refl

behind_behind : (ws vs : List ℕ) (r : Words) → behind ws (behind vs r) ≡ behind (ws ++ vs) r
unfolding behind
behind_behind ws vs (Some us) = ap Some (sym (append_assoc ws vs us))
behind_behind ws vs None = refl

none_behind : (ws : List ℕ) → placed (behind ws None) ≡ None
unfolding behind placed
none_behind ws = refl

too_many : (ws : List ℕ) (w : ℕ) (r : Words) → 1030 ≤ length ws → placed (behind ws (behind (w ∷ []) r)) ≡ None
unfolding behind placed
too_many ws w (Some vs) h =
    let more : 1030 < length (ws ++ w ∷ vs) = omega (arith, length-append ws (w ∷ vs)) in
    simp (lt-leb (length (ws ++ w ∷ vs)) 1030 more)
too_many ws w None h = refl

fit : (ws : List ℕ) (n : ℕ) → length ws ≡ n → n ≤ 1030 → good_sheet (ws ++ replicate (1030 - n) 0) n ≡ placed (Some ws)
unfolding placed
fit ws n e h =
    let few : length ws ≤ 1030 = omega arith in
    simp (le-leb (length ws) 1030 few) (ap (λ (k : ℕ). good_sheet (ws ++ replicate (1030 - k) 0) k) (sym e))

stored : {words : List ℕ} (ws : List ℕ) (w : ℕ) {n : ℕ} → length ws ≡ n → words ≡ ws ++ replicate (1030 - n) 0 → n < 1030
    → set words n w ≡ (ws ++ w ∷ []) ++ replicate (1030 - (n + 1)) 0
stored ws w {n} e r h =
    let k : 1030 - n ≡ suc (1030 - (n + 1)) = omega arith in
    ap₂ (λ (l : List ℕ) (m : ℕ). set l m w) (r ∙ ap (λ (m : ℕ). ws ++ replicate m 0) k) (sym e)
    ∙ set-append_seam ws 0 (replicate (1030 - (n + 1)) 0) w
    ∙ sym (append_assoc ws (w ∷ []) (replicate (1030 - (n + 1)) 0))

-- ---- one byte

digit_in : (n w b d : ℕ) (bs : List ℕ) → digit_of b ≡ Some d → words_from (suc n) w (b ∷ bs) ≡ words_from n (w * 16 + d) bs
unfolding words_from
digit_in n w b d bs h = rw h

no_digit : (n w b : ℕ) (bs : List ℕ) → digit_of b ≡ None → words_from (suc n) w (b ∷ bs) ≡ None
unfolding words_from
no_digit n w b bs h = rw h

pub digit_small : (b d : ℕ) → digit_of b ≡ Some d → d ≤ 15
unfolding digit_of
digit_small b d = go (ltb b 48) (leb b 57) refl (ltb b 97) (leb b 102) refl
  where
    same : (x : ℕ) → ◌≡◌ {A = Option ℕ} (Some x) (Some d) → x ≡ d
    same x h = cc

    none : ◌≡◌ {A = Option ℕ} None (Some d) → ⊥
    none h = let z : ◌≡◌ {A = ℕ} 0 1 = cc in omega arith

    go : (p q : Bool) → leb b 57 ≡ q → (r s : Bool) → leb b 102 ≡ s → cond p None (cond q (Some (b - 48)) (cond r None (cond s (Some (b - 97 + 10)) None))) ≡ Some d → d ≤ 15
    go true q e r s f h = absurd (none h)
    go false true e r s f h = omega (arith, same _ h, leb-true b 57 e)
    go false false e true s f h = absurd (none h)
    go false false e false true f h = omega (arith, same _ h, leb-true b 102 f)
    go false false e false false f h = absurd (none h)

line_end_lem : (w b : ℕ) (bs : List ℕ) → b ≡ 10 → words_from zero w (b ∷ bs) ≡ behind (w ∷ []) (words_from 8 0 bs)
unfolding words_from
line_end_lem w b bs h = simp (eq-eqb b 10 h)

no_line_end : (w b : ℕ) (bs : List ℕ) → (b ≡ 10 → ⊥) → words_from zero w (b ∷ bs) ≡ None
unfolding words_from
no_line_end w b bs h = simp (ne_eqb b 10 h)

-- ---- one line

-- a line with too few digits has no word
pub short : (n w : ℕ) (bs : List ℕ) → length bs < n → n < 8 + length bs → words_from n w bs ≡ None
unfolding words_from
short zero w bs h k = absurd (omega arith)
short (suc n) w [] h k = let few : eqb n 7 ≡ false = ne_eqb n 7 (λ e. omega (arith, e)) in rw few refl
short (suc n) w (b ∷ bs) h k = go (digit_of b) (λ d. short n (w * 16 + d) bs (omega arith) (omega arith))
  where
    go : (o : Option ℕ) → ((d : ℕ) → words_from n (w * 16 + d) bs ≡ None) → option_and_then (λ d. words_from n (w * 16 + d) bs) o ≡ None
    go (Some d) f = f d
    go None f = refl

-- i digits of the line are read, and word is their number
pub record Reads (line : List ℕ) (word i : ℕ) : Type 0 where
  pub small : word < 16 ^ i
  pub same : words_from 8 0 line ≡ words_from (8 - i) word (drop i line)

next : (line : List ℕ) (i : ℕ) → i < length line → drop i line ≡ get_or line i 0 ∷ drop (i + 1) line
next line i h = drop-cons line i 0 h ∙ ap (λ (k : ℕ). get_or line i 0 ∷ drop k line) (sym (add-one i))

module _ {line digits : List ℕ} {word i : ℕ} (s : Reads line word i) (k : 8 ≤ length line) (e : digits ≡ take 8 line) where
  eight : length digits ≡ 8
  eight = ap length e ∙ length-take-le 8 line k

  module _ (h : i < length digits) where
    byte : get_or digits i 0 ≡ get_or line i 0
    byte = ap (λ (l : List ℕ). get_or l i 0) e ∙ get_or-take 8 line i 0 (omega (arith, eight))

    goes : words_from 8 0 line ≡ words_from (suc (7 - i)) word (get_or digits i 0 ∷ drop (i + 1) line)
    goes =
        let p : 8 - i ≡ suc (7 - i) = omega (arith, eight) in
        let q : i < length line = omega (arith, eight) in
        s.same ∙ rw (p, byte, next line i q) refl

    pub fits : word * 16 + 16 ≤ 2 ^ 32
    fits =
        let few : i ≤ 7 = omega (arith, eight) in
        let most : 16 ^ i ≤ 16 ^ 7 = pow-le-pow_right (omega arith) few in
        omega (arith, s.small, most)

    pub digit_turn : {d : ℕ} → digit_of (get_or digits i 0) ≡ Some d → Reads line (word * 16 + d) (i + 1)
    digit_turn {d} f =
        let small : d ≤ 15 = digit_small (get_or digits i 0) d f in
        let p : 16 ^ (i + 1) ≡ 16 ^ i * 16 = ap (λ (x : ℕ). 16 ^ x) (add-one i) ∙ pow-suc 16 i in
        let q : 8 - (i + 1) ≡ 7 - i = omega (arith, eight) in
        record {
          small = omega (arith, p, small, s.small);
          same = goes ∙ digit_in (7 - i) word (get_or digits i 0) d (drop (i + 1) line) f ∙ rw q refl;
        }

    pub bad_digit : digit_of (get_or digits i 0) ≡ None → words_from 8 0 line ≡ None
    bad_digit f = goes ∙ no_digit (7 - i) word (get_or digits i 0) (drop (i + 1) line) f

  module _ (h : i ≡ length digits) where
    whole : {bs : List ℕ} → drop 8 line ≡ bs → words_from 8 0 line ≡ words_from zero word bs
    whole p = let q : i ≡ 8 = h ∙ eight in s.same ∙ rw (q, p) refl

    pub bad_line_end : 8 < length line → (get_or line 8 0 ≡ 10 → ⊥) → words_from 8 0 line ≡ None
    bad_line_end l f = whole (next line 8 l) ∙ no_line_end word (get_or line 8 0) (drop 9 line) f

    pub end_missing : length line ≤ 8 → words_from 8 0 line ≡ Some (word ∷ [])
    unfolding words_from
    end_missing l = whole (drop_of_length-le line l)

    pub line_ended : 8 < length line → length line ≤ 9 → get_or line 8 0 ≡ 10 → words_from 8 0 line ≡ Some (word ∷ [])
    unfolding words_from behind
    line_ended l m f =
        let p : drop 9 line ≡ [] = drop_of_length-le line m in
        whole (next line 8 l) ∙ rw (p, f) refl

-- ---- all lines

-- what the words of a line make with those of the text behind it
abbrev after : List ℕ → Words → Words
after rest = option_and_then (λ ws. behind ws (words_from 8 0 rest))

-- n digits to come and a line end are all that a word is read from
cut : (n w : ℕ) (line rest : List ℕ) → n < 8 + length line → length line ≤ suc n → (length line < suc n → rest ≡ []) → words_from n w (line ++ rest) ≡ after rest (words_from n w line)
unfolding words_from behind
cut zero w [] rest h k f = rw (f (omega arith)) refl
cut zero w (b ∷ []) rest h k f = go (eqb b 10)
  where
    go : (t : Bool) → cond t (behind (w ∷ []) (words_from 8 0 rest)) None ≡ after rest (cond t (behind (w ∷ []) (words_from 8 0 [])) None)
    go true = refl
    go false = refl
cut zero w (b ∷ c ∷ line) rest h k f = absurd (omega arith)
cut (suc n) w [] rest h k f =
    let few : eqb n 7 ≡ false = ne_eqb n 7 (λ e. omega (arith, e)) in
    rw (f (omega arith), few) refl
cut (suc n) w (b ∷ line) rest h k f = go (digit_of b) (λ d. cut n (w * 16 + d) line rest (omega arith) (omega arith) (λ l. f (omega (arith, l))))
  where
    go : (o : Option ℕ) → ((d : ℕ) → words_from n (w * 16 + d) (line ++ rest) ≡ after rest (words_from n (w * 16 + d) line))
        → option_and_then (λ d. words_from n (w * 16 + d) (line ++ rest)) o ≡ after rest (option_and_then (λ d. words_from n (w * 16 + d) line) o)
    go (Some d) f = f d
    go None f = refl

none_left : (bs : List ℕ) → length bs ≡ 0 → bs ≡ []
none_left [] h = refl
none_left (b ∷ bs) h = absurd (omega (arith, h))

-- the words of count lines stand before, with zeros behind, and the bytes of rest are left, in lines of a size
pub record So (text words : List ℕ) (count : ℕ) (rest : List ℕ) (size : ℕ) : Type 0 where
  pub nine : size ≡ 9
  pub ws : List ℕ
  pub many : length ws ≡ count
  pub few : count ≤ 1030
  pub room : words ≡ ws ++ replicate (1030 - count) 0
  pub same : words_from 8 0 text ≡ behind ws (words_from 8 0 rest)

pub start : (text : List ℕ) → So text (replicate 1030 0) 0 text 9
start text =
    record {
      nine = refl;
      ws = [];
      many = refl;
      few = omega arith;
      room = refl;
      same = sym (behind_none_before (words_from 8 0 text));
    }

module _ {text words rest : List ℕ} {count size : ℕ} (s : So text words count rest size) where
  -- the next line, and what is left behind it
  module _ (line left : List ℕ) (p : rest ≡ line ++ left) (m : length line ≡ min size (length rest)) (h : 0 < length rest) where
    all_left : length rest ≡ length line + length left
    all_left = ap length p ∙ length-append line left

    goes_on : (o : Option ℕ) → words_from 8 0 line ≡ one_word o → words_from 8 0 text ≡ behind s.ws (after left (one_word o))
    goes_on o e =
        let last : length line < 9 → left ≡ [] = λ l. none_left left (omega (arith, s.nine, m, all_left, l)) in
        s.same ∙ ap (behind s.ws) (ap (words_from 8 0) p ∙ cut 8 0 line left (omega (arith, s.nine, m, h)) (omega (arith, s.nine, m)) last ∙ rw e refl)

    pub bad_line : words_from 8 0 line ≡ one_word None → placed (words_from 8 0 text) ≡ None
    bad_line e = ap placed (goes_on None e) ∙ none_behind s.ws

    module _ {w : ℕ} (e : words_from 8 0 line ≡ one_word (Some w)) where
      pub no_room : 1030 ≤ count → placed (words_from 8 0 text) ≡ None
      no_room l = ap placed (goes_on (Some w) e) ∙ too_many s.ws w (words_from 8 0 left) (omega (arith, s.many))

      pub line_turn : {size′ : ℕ} → size′ ≡ size → count < 1030 → So text (set words count w) (count + 1) left size′
      line_turn z l =
          record {
            nine = z ∙ s.nine;
            ws = s.ws ++ w ∷ [];
            many = omega (arith, length-append s.ws (w ∷ []), s.many);
            few = omega arith;
            room = stored s.ws w s.many s.room l;
            same = goes_on (Some w) e ∙ behind_behind s.ws (w ∷ []) (words_from 8 0 left);
          }

  pub at_end : length rest ≡ 0 → good_sheet words count ≡ placed (words_from 8 0 text)
  unfolding words_from behind
  at_end h =
      let e : rest ≡ [] = none_left rest h in
      ap (λ (l : List ℕ). good_sheet l count) s.room
      ∙ fit s.ws count s.many s.few
      ∙ ap (λ (l : List ℕ). placed (Some l)) (sym (append-nil s.ws))
      ∙ sym (ap placed (s.same ∙ rw e refl))
