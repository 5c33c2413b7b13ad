-- The appended line brings in no bad number. Assumes nothing.
use Rattle.std.specs.Prelude.{ℕ, ◌%◌, ◌<◌, ◌≡◌, refl, Bool, true, false, ◌||◌, cond, List, ◌++◌, eqb, ltb, length}
use Rattle.std.proofs.Common.{sym, ap, ◌∙◌, arith, length-append, ltb-true, ltb-false}
use Rattle.records.specs.Record.{count, word, key, is_bad, bad_at}
use Rattle.records.specs.Numbers.{bad_bits}
use Rattle.checker.specs.Verdict.{Finite}
use Rattle.mender.specs.Mend.{Gap, line_of}
use Rattle.mender.specs.MendLaws.{inside, behind, one_more_lem, end_found, start_found}

pub line_whole : (ws : List ℕ) (p x y z w : ℕ) → length ws % 6 ≡ 0 → length (ws ++ line_of p x y z w) % 6 ≡ 0
line_whole ws p x y z w h = let e = length-append ws (line_of p x y z w) in omega arith

bad_key : (w : ℕ) → is_bad w ≡ false → is_bad (key w) ≡ false
unfolding key
bad_key w h = by (eqb w 2147483648)
  where
    by : (b : Bool) → is_bad (cond b 0 w) ≡ false
    by true = sym (bad_bits 0)
    by false = h

four : (a b c d : Bool) → (a || (b || (c || d))) ≡ false → (a ≡ false) × (b ≡ false) × (c ≡ false) × (d ≡ false)
four false false false false h = (refl, refl, refl, refl)
four true b c d h = let z : ◌≡◌ {A = ℕ} 0 1 = cc in absurd (omega arith)
four false true c d h = let z : ◌≡◌ {A = ℕ} 0 1 = cc in absurd (omega arith)
four false false true d h = let z : ◌≡◌ {A = ℕ} 0 1 = cc in absurd (omega arith)
four false false false true h = let z : ◌≡◌ {A = ℕ} 0 1 = cc in absurd (omega arith)

good_words : (ws : List ℕ) (k : ℕ) → bad_at ws k ≡ false → (is_bad (word ws k 2) ≡ false) × (is_bad (word ws k 3) ≡ false) × (is_bad (word ws k 4) ≡ false) × (is_bad (word ws k 5) ≡ false)
unfolding bad_at
good_words ws k h = four _ _ _ _ h

good_key : (v : ℕ) {x : ℕ} → key v ≡ x → is_bad v ≡ false → is_bad x ≡ false
good_key v e h = rw e at (bad_key v h)

record_kept : (ws ls : List ℕ) (k : ℕ) → length ws % 6 ≡ 0 → k < count ws → bad_at (ws ++ ls) k ≡ bad_at ws k
unfolding bad_at
record_kept ws ls k h l =
    let e2 = inside ws ls h k 2 l (omega arith) in
    let e3 = inside ws ls h k 3 l (omega arith) in
    let e4 = inside ws ls h k 4 l (omega arith) in
    let e5 = inside ws ls h k 5 l (omega arith) in
    rw (e2, e3, e4, e5)

record_new : (ws : List ℕ) (p x y z w : ℕ) → length ws % 6 ≡ 0 → is_bad x ≡ false → is_bad y ≡ false → is_bad z ≡ false → is_bad w ≡ false → bad_at (ws ++ line_of p x y z w) (count ws) ≡ false
unfolding bad_at
record_new ws p x y z w h bx by bz bw =
    let l = line_of p x y z w in
    rw (behind ws l h 2, behind ws l h 3, behind ws l h 4, behind ws l h 5, bx, by, bz, bw)

pub line_finite : (ws : List ℕ) (p x y z w : ℕ) → length ws % 6 ≡ 0 → Gap ws p x y z w → Finite ws → Finite (ws ++ line_of p x y z w)
line_finite ws p x y z w h g f k l = by (ltb k (count ws)) refl
  where
    by : (b : Bool) → ltb k (count ws) ≡ b → bad_at (ws ++ line_of p x y z w) k ≡ false
    by true t = record_kept ws (line_of p x y z w) k h (ltb-true _ _ t) ∙ f k (ltb-true _ _ t)
    by false t =
        let e = end_found ws p x y z w g in
        let s = start_found ws p x y z w g in
        let eg = good_words ws e.k (f e.k e.within) in
        let sg = good_words ws s.k (f s.k s.within) in
        let m = one_more_lem ws (line_of p x y z w) h refl in
        let i : k ≡ count ws = omega (arith, ltb-false k (count ws) t) in
        ap (λ (j : ℕ). bad_at (ws ++ line_of p x y z w) j) i
        ∙ record_new ws p x y z w h (good_key (word ws e.k 4) e.first eg.2) (good_key (word ws e.k 5) e.second eg.3) (good_key (word ws s.k 2) s.first sg.0) (good_key (word ws s.k 3) s.second sg.1)
