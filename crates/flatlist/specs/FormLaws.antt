-- What holds of a sheet: how many words and boxes a good one has, and that 9,271 bytes of a text are enough to tell. Assumes nothing.
use Rattle.std.specs.Prelude.{ℕ, zero, suc, ◌+◌, ◌-◌, ◌*◌, ◌≤◌, ◌<◌, ◌≡◌, refl, Bool, true, false, cond, List, [], ◌∷◌, ◌++◌, eqb, leb, ltb, length, get_or, take, replicate, Option, Some, None}
use Rattle.std.proofs.Common.{sym, ap, ◌∙◌, subst, arith, ltb-false, leb-true, leb-false, eqb-true, take_all, length-take-le, length-append}
use Rattle.std.proofs.lemmas.Bool.{lt-leb}
use lib.ListN.{length-replicate}
use Rattle.std.specs.Option.{option_and_then}
use Rattle.flatlist.specs.Form.{digit_of, Words, behind, words_from, good_sheet, placed, judged_by, judged, sheet_of}
use Rattle.flatlist.specs.declared.input.Sheet.{Sheet}

-- ---- a good sheet has its six words, at most 1,024 behind them, and at most 16 boxes

none_some : (s : Sheet) → ◌≡◌ {A = Option Sheet} None (Some s) → ⊥
none_some s h = let z : ◌≡◌ {A = ℕ} 0 1 = cc in omega arith

abbrev Placed : Sheet → Type 0
Placed s = (s.count ≤ 1030) × (length s.words ≡ 1030)

placed_few : (r : Words) (s : Sheet) → placed r ≡ Some s → Placed s
unfolding placed
placed_few None s h = absurd (none_some s h)
placed_few (Some ws) s h = go (leb (length ws) 1030) refl h
  where
    same : (t : Sheet) → ◌≡◌ {A = Option Sheet} (Some t) (Some s) → t ≡ s
    same t h = cc

    go : (b : Bool) → leb (length ws) 1030 ≡ b → cond b (good_sheet (ws ++ replicate (1030 - length ws) 0) (length ws)) None ≡ Some s → Placed s
    go true e h =
        let few = leb-true (length ws) 1030 e in
        let zeros : List ℕ = replicate (1030 - length ws) 0 in
        let zero : ℕ = 0 in
        subst Placed (same _ h) (few, omega (arith, length-append ws zeros, length-replicate (1030 - length ws) zero))
    go false e h = absurd (none_some s h)

judged_good : (t s : Sheet) → judged_by t ≡ Some s → (t ≡ s) × (6 ≤ t.count) × (get_or t.words 5 0 ≤ 16)
unfolding judged_by
judged_good t s = go (ltb t.count 6) (ltb 16 (get_or t.words 5 0)) refl refl
  where
    go : (a b : Bool) → ltb t.count 6 ≡ a → ltb 16 (get_or t.words 5 0) ≡ b → cond a None (cond b None (Some t)) ≡ Some s
        → (t ≡ s) × (6 ≤ t.count) × (get_or t.words 5 0 ≤ 16)
    go true b e f h = absurd (none_some s h)
    go false true e f h = absurd (none_some s h)
    go false false e f h = (cc, ltb-false t.count 6 e, ltb-false 16 (get_or t.words 5 0) f)

abbrev pub Good : Sheet → Type 0
Good s = (6 ≤ s.count) × Placed s × (get_or s.words 5 0 ≤ 16)

pub good_count : (text : List ℕ) (s : Sheet) → sheet_of text ≡ Some s → Good s
unfolding sheet_of judged
good_count text s = go (placed (words_from 8 0 text)) refl
  where
    go : (r : Option Sheet) → placed (words_from 8 0 text) ≡ r → option_and_then judged_by r ≡ Some s → Good s
    go None e h = absurd (none_some s h)
    go (Some t) e h =
        let k = judged_good t s h in
        subst Good k.0 (k.1, placed_few (words_from 8 0 text) t e, k.2)

-- ---- a word takes nine bytes at most, and its line end is one of them

abbrev Spans : ℕ → List ℕ → Words → Type 0
Spans n bs (Some ws) = length bs + 8 ≤ 9 * length ws + n
Spans n bs None = Unit {0}

spans : (n w : ℕ) (bs : List ℕ) → n ≤ 8 → Spans n bs (words_from n w bs)
unfolding words_from behind
spans zero w [] h = omega arith
spans (suc n) w [] h = go (eqb n 7) refl
  where
    go : (t : Bool) → eqb n 7 ≡ t → Spans (suc n) [] (cond t (Some []) None)
    go true e = omega (arith, eqb-true n 7 e)
    go false e = tt
spans zero w (b ∷ bs) h = go (eqb b 10) (words_from 8 0 bs) (spans 8 0 bs (omega arith))
  where
    go : (t : Bool) (r : Words) → Spans 8 bs r → Spans zero (b ∷ bs) (cond t (behind (w ∷ []) r) None)
    go true (Some ws) k = omega arith
    go true None k = tt
    go false r k = tt
spans (suc n) w (b ∷ bs) h = go (digit_of b) (λ d. spans n (w * 16 + d) bs (omega arith))
  where
    one : (r : Words) → Spans n bs r → Spans (suc n) (b ∷ bs) r
    one (Some ws) k = omega arith
    one None k = tt

    go : (o : Option ℕ) → ((d : ℕ) → Spans n bs (words_from n (w * 16 + d) bs)) → Spans (suc n) (b ∷ bs) (option_and_then (λ d. words_from n (w * 16 + d) bs) o)
    go (Some d) k = one (words_from n (w * 16 + d) bs) (k d)
    go None k = tt

pub too_long : (text : List ℕ) → 9270 < length text → sheet_of text ≡ None
unfolding sheet_of judged placed
too_long text h = ap judged (go (words_from 8 0 text) (spans 8 0 text (omega arith)))
  where
    go : (r : Words) → Spans 8 text r → placed r ≡ None
    go (Some ws) k = let more : 1030 < length ws = omega arith in simp (lt-leb (length ws) 1030 more)
    go None k = refl

-- so what stands behind the first 9,271 bytes is never needed
pub enough : (text : List ℕ) → sheet_of (take 9271 text) ≡ sheet_of text
enough text = go (leb (length text) 9271) refl
  where
    go : (t : Bool) → leb (length text) 9271 ≡ t → sheet_of (take 9271 text) ≡ sheet_of text
    go true e = ap sheet_of (take_all 9271 text (leb-true (length text) 9271 e))
    go false e =
        let long : 9271 < length text = leb-false (length text) 9271 e in
        too_long (take 9271 text) (omega (arith, length-take-le 9271 text (omega arith))) ∙ sym (too_long text (omega arith))
