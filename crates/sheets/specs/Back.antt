-- There and back: to i16 of what was moved to f32 gives the old tags and words; and an f32 sheet goes back exactly when each counted coordinate does. Assumes nothing.
use Rattle.std.specs.Prelude.{ℕ, zero, suc, ◌+◌, ◌-◌, ◌*◌, ◌/◌, ◌%◌, ◌^◌, ◌<◌, ◌≤◌, ◌≡◌, refl, ◌↔◌, Bool, true, false, not, ◌||◌, cond, List, [], ◌∷◌, ◌++◌, map, T, leb, ltb, eqb, ℤ, pos, negsuc, length, take, get_or, Float}
use Rattle.std.proofs.Common.{sym, ap, ◌∙◌, subst, arith, le→leb, lt→ltb, length-append, get_or-take, take_at, length-take-le, leb-true, le-leb, ltb-true, ltb-false, lt-ltb, le-ltb, eq-eqb}
use Rattle.std.proofs.lemmas.List.{length-map}
use Rattle.std.specs.Float.{binary32, nan, inf, fin}
use Rattle.std.specs.Float.Ieee.{of_bits, to_bits, of_int, neg, to_signed, in_signed, in_float, is_nan}
use Rattle.std.specs.Int.Signed.{mag}
use Rattle.std.specs.Float.Ieee.Bits.{is_true, of_bits-fits, to_bits-of_bits}
use Rattle.std.specs.Float.Ieee.Casts.{to_signed_in}
use Rattle.std.specs.Float.Ieee.Back.{positive_back, negative_back, Float-back_signed}
use Rattle.laws.specs.Neg.{round_neg}
use Rattle.scene.specs.Reading.{i16_of}
use Rattle.scene.specs.Points.{i16_exact}
use Rattle.sheets.specs.Moving.{counts, is_old, is_new, new_tag, old_tag, total, x_word, y_word, new_points, goes_back, half, half_word, old_points, Answer, moved, lead, unless, all, room, to_f32, to_i16}
use Rattle.sheets.specs.Turned.{MovedByte, moved_byte}

-- ---- tests over a list

lead_cons : (good : ℕ → Bool) (x : ℕ) (xs : List ℕ) (t : Bool) → good x ≡ t → leb (suc (length xs)) (cond t (suc (lead good xs)) 0) ≡ true → (good x ≡ true) × (all good xs ≡ true)
lead_cons good x xs true g e = let h : suc (length xs) ≤ suc (lead good xs) = leb-true _ _ e in (g, le-leb (length xs) (lead good xs) (omega arith))
lead_cons good x xs false g e = let h : suc (length xs) ≤ 0 = leb-true _ _ e in absurd (omega arith)

pub all_cons : (good : ℕ → Bool) (x : ℕ) (xs : List ℕ) → all good (x ∷ xs) ≡ true → (good x ≡ true) × (all good xs ≡ true)
unfolding lead
all_cons good x xs e = lead_cons good x xs (good x) refl e

pub cons_all : (good : ℕ → Bool) (x : ℕ) (xs : List ℕ) → good x ≡ true → all good xs ≡ true → all good (x ∷ xs) ≡ true
unfolding lead
cons_all good x xs g e = let h : length xs ≤ lead good xs = leb-true _ _ e in rw g (le-leb (suc (length xs)) (suc (lead good xs)) (omega arith))

-- ---- tags

counts_same : (b b' : ℕ) → MovedByte b b' → counts b' ≡ counts b
counts_same b b' m = rw (m.kind, m.end)

new_by : (b b' : ℕ) → MovedByte b b' → (t : Bool) → eqb (counts b) 0 ≡ t → t || eqb (b' / 8 % 2) 1 ≡ true
new_by b b' m true e = refl
new_by b b' m false e = eq-eqb _ _ (m.turned e).1

is_new_lem : (b : ℕ) → is_old b ≡ true → is_new (new_tag b) ≡ true
unfolding is_new
is_new_lem b h =
    let m = moved_byte b h in
    rw (counts_same b (new_tag b) m) (new_by b (new_tag b) m (eqb (counts b) 0) refl)

back_by : (b : ℕ) (t : Bool) → eqb (counts b) 0 ≡ t → cond t (cond t b (b + 8)) (cond t b (b + 8) - 8) ≡ b
back_by b true e = refl
back_by b false e = omega arith

tag_back : (b : ℕ) → is_old b ≡ true → old_tag (new_tag b) ≡ b
unfolding old_tag new_tag
tag_back b h =
    let k : counts (cond (eqb (counts b) 0) b (b + 8)) ≡ counts b = counts_same b (new_tag b) (moved_byte b h) in
    ap (λ (n : ℕ). cond (eqb n 0) (new_tag b) (new_tag b - 8)) k ∙ back_by b (eqb (counts b) 0) refl

new_tags : (tags : List ℕ) → all is_old tags ≡ true → (all is_new (map new_tag tags) ≡ true) × (total (map new_tag tags) ≡ total tags) × (map old_tag (map new_tag tags) ≡ tags)
unfolding total lead
new_tags [] h = (refl, refl, refl)
new_tags (b ∷ tags) h =
    let k = all_cons is_old b tags h in
    let r = new_tags tags k.1 in (
      cons_all is_new (new_tag b) (map new_tag tags) (is_new_lem b k.0) r.0,
      (let c = counts_same b (new_tag b) (moved_byte b k.0) in let e = r.1 in omega arith),
      rw (tag_back b k.0, r.2),
    )

-- ---- points

negative : (a : ℕ) → neg (of_int binary32 (pos (suc a))) ≡ of_int binary32 (negsuc a)
unfolding of_int
negative a = sym (round_neg binary32 false (suc a) 1)

-- each of the 65,536 halves goes back to itself
pub i16_back : (h : ℕ) → h < 0x10000 → (in_signed binary32 15 (i16_of h) ≡ true) × (half (to_signed 15 (i16_of h)) ≡ h)
unfolding i16_of half in_float
i16_back h l = go (ltb h 0x8000) refl
  where
    go : (t : Bool) → ltb h 0x8000 ≡ t → (in_signed binary32 15 (cond t (of_int binary32 (pos h)) (neg (of_int binary32 (pos (0x10000 - h))))) ≡ true) × (half (to_signed 15 (cond t (of_int binary32 (pos h)) (neg (of_int binary32 (pos (0x10000 - h)))))) ≡ h)
    go true e =
        let small : h < 0x8000 = ltb-true _ _ e in
        let b = positive_back binary32 15 h (le→leb h (2 ^ 24) (omega arith)) small in
        (is_true _ b.0, ap half b.1)
    go false e =
        let large : 0x8000 ≤ h = ltb-false _ _ e in
        let k : ℕ = 0xffff - h in
        let is : 0x10000 - h ≡ suc (0xffff - h) = omega arith in
        let n : neg (of_int binary32 (pos (0x10000 - h))) ≡ of_int binary32 (negsuc (0xffff - h)) = ap (λ (a : ℕ). neg (of_int binary32 (pos a))) is ∙ negative (0xffff - h) in
        let b = negative_back binary32 15 (0xffff - h) (lt→ltb (0xffff - h) (2 ^ 24) (omega arith)) (omega arith) in
        (ap (in_signed binary32 15) n ∙ is_true _ b.0, ap (λ (x : Float). half (to_signed 15 x)) n ∙ ap half b.1 ∙ (let e : 0xffff - (0xffff - h) ≡ h = omega arith in e))

pub half_back : (h : ℕ) → h < 0x10000 → (goes_back (to_bits binary32 (i16_of h)) ≡ true) × (half_word (to_bits binary32 (i16_of h)) ≡ h)
unfolding goes_back
half_back h l = (ap (in_signed binary32 15) (i16_exact h) ∙ (i16_back h l).0, ap (λ (x : Float). half (to_signed 15 x)) (i16_exact h) ∙ (i16_back h l).1)

-- the words are u32
unfoldable pub AllU32 : List ℕ → Type 0
AllU32 [] = Unit {0}
AllU32 (w ∷ ws) = (w < 2 ^ 32) × AllU32 ws

pub new_length : (ws : List ℕ) → length (new_points ws) ≡ length ws * 2
unfolding new_points
new_length [] = refl
new_length (w ∷ ws) = omega (arith, new_length ws)

points_back : (ws : List ℕ) → AllU32 ws → (all goes_back (new_points ws) ≡ true) × (old_points (new_points ws) ≡ ws)
unfolding AllU32 new_points old_points lead
points_back [] u = (refl, refl)
points_back (w ∷ ws) u =
    let r = points_back ws u.1 in
    let small = u.0 in
    let x = half_back (w % 0x10000) (omega arith) in
    let y = half_back (w / 0x10000) (omega arith) in
    let is : w % 0x10000 + 0x10000 * (w / 0x10000) ≡ w = omega arith in (
      cons_all goes_back (x_word w) (y_word w ∷ new_points ws) x.0 (cons_all goes_back (y_word w) (new_points ws) y.0 r.0),
      rw (x.1, y.1, is, r.1),
    )

-- ---- there and back

-- what was moved was of the old kind, had its words, and found room
pub record Accepted (tags points : List ℕ) (tagRoom pointRoom : ℕ) (ts ws : List ℕ) : Type 0 where
  pub kinds : all is_old tags ≡ true
  pub there : total tags ≤ length points
  pub are_tags : ts ≡ map new_tag tags
  pub are_words : ws ≡ new_points (take (total tags) points)

unless_says : (t : Bool) (number at : ℕ) (r : Answer) (ts ws : List ℕ) → unless t number at r ≡ moved ts ws → (t ≡ true) × (r ≡ moved ts ws)
unfolding unless
unless_says true number at r ts ws e = (refl, e)
unless_says false number at r ts ws e = let z : ◌≡◌ {A = ℕ} 0 1 = cc in absurd (omega arith)

pub accepted : (tags points : List ℕ) (tagRoom pointRoom : ℕ) (ts ws : List ℕ) → to_f32 tags points tagRoom pointRoom ≡ moved ts ws → Accepted tags points tagRoom pointRoom ts ws
unfolding to_f32
accepted tags points tagRoom pointRoom ts ws e =
    let a = unless_says _ _ _ _ ts ws e in
    let b = unless_says _ _ _ _ ts ws a.1 in
    let c = unless_says _ _ _ _ ts ws b.1 in
    let d = c.1 in
    record { kinds = a.0; there = leb-true _ _ b.0; are_tags = cc; are_words = cc }

-- to i16 of what was moved to f32, whatever stands behind it, gives the old tags and the old words that they count
pub there_and_back : (tags points : List ℕ) (tagRoom pointRoom : ℕ) (ts ws behind : List ℕ) (tagRoom' pointRoom' : ℕ) → AllU32 (take (total tags) points)
    → to_f32 tags points tagRoom pointRoom ≡ moved ts ws → room (length tags) (total tags) tagRoom' pointRoom' ≡ true
    → to_i16 ts (ws ++ behind) tagRoom' pointRoom' ≡ moved tags (take (total tags) points)
unfolding to_i16 unless
there_and_back tags points tagRoom pointRoom ts ws behind tagRoom' pointRoom' u e fits =
    let a = accepted tags points tagRoom pointRoom ts ws e in
    let old = take (total tags) points in
    let t = new_tags tags a.kinds in
    let p = points_back old u in
    let size : length old ≡ total tags = length-take-le (total tags) points a.there in
    let long : length (new_points old) ≡ 2 * total tags = omega (arith, new_length old, size) in
    let cut : take (2 * total tags) (new_points old ++ behind) ≡ new_points old = take_at (new_points old) behind (2 * total tags) long in
    let words : leb (2 * total tags) (length (new_points old ++ behind)) ≡ true = (let l : 2 * total tags ≤ length (new_points old ++ behind) = rw (length-append, long) (omega arith) in le-leb _ _ l) in
    let many : length (map new_tag tags) ≡ length tags = length-map tags new_tag in
    rw (a.are_tags, a.are_words, t.0, t.1, words, cut, p.0, many, fits, t.2, p.1)

-- ---- when an f32 sheet goes back

pub all_says : (good : ℕ → Bool) (xs : List ℕ) → all good xs ≡ true → (i : ℕ) → i < length xs → good (get_or xs i 0) ≡ true
all_says good [] e i h = absurd (omega arith)
all_says good (x ∷ xs) e zero h = (all_cons good x xs e).0
all_says good (x ∷ xs) e (suc i) h = all_says good xs (all_cons good x xs e).1 i (omega arith)

says_all : (good : ℕ → Bool) (xs : List ℕ) → ((i : ℕ) → i < length xs → good (get_or xs i 0) ≡ true) → all good xs ≡ true
unfolding lead
says_all good [] f = refl
says_all good (x ∷ xs) f = cons_all good x xs (f 0 (omega arith)) (says_all good xs (λ i h. f (suc i) (omega arith)))

-- it was moved
pub record Went (r : Answer) : Type 0 where
  pub tags : List ℕ
  pub words : List ℕ
  pub is : r ≡ moved tags words

-- what went back was of the new kind, had its words, and each of these went back
pub record WentBack (tags points : List ℕ) (ts ws : List ℕ) : Type 0 where
  pub kinds : all is_new tags ≡ true
  pub there : 2 * total tags ≤ length points
  pub whole : all goes_back (take (2 * total tags) points) ≡ true
  pub are_tags : ts ≡ map old_tag tags
  pub are_words : ws ≡ old_points (take (2 * total tags) points)

pub went_back : (tags points : List ℕ) (tagRoom pointRoom : ℕ) (ts ws : List ℕ) → to_i16 tags points tagRoom pointRoom ≡ moved ts ws → WentBack tags points ts ws
unfolding to_i16
went_back tags points tagRoom pointRoom ts ws e =
    let a = unless_says _ _ _ _ ts ws e in
    let b = unless_says _ _ _ _ ts ws a.1 in
    let c = unless_says _ _ _ _ ts ws b.1 in
    let d = unless_says _ _ _ _ ts ws c.1 in
    let is = d.1 in
    record { kinds = a.0; there = leb-true _ _ b.0; whole = c.0; are_tags = cc; are_words = cc }

-- given an f32 sheet, its words and room, the way back succeeds exactly when each counted coordinate goes back
pub back_exactly : (tags points : List ℕ) (tagRoom pointRoom : ℕ) → all is_new tags ≡ true → 2 * total tags ≤ length points → room (length tags) (total tags) tagRoom pointRoom ≡ true
    → Went (to_i16 tags points tagRoom pointRoom) ↔ ((i : ℕ) → i < 2 * total tags → goes_back (get_or points i 0) ≡ true)
unfolding to_i16 unless
back_exactly tags points tagRoom pointRoom kinds there fits =
    let old = take (2 * total tags) points in
    let size : length old ≡ 2 * total tags = length-take-le (2 * total tags) points there in (
      λ w. (λ i h.
          let in-old : i < length old = omega arith in
          let good = (went_back tags points tagRoom pointRoom w.tags w.words w.is).whole in
          rw (get_or-take (2 * total tags) points i 0 h) at (all_says goes_back old good i in-old)),
      λ f.
          let good : all goes_back old ≡ true = says_all goes_back old (λ i h. ap goes_back (get_or-take (2 * total tags) points i 0 (omega arith)) ∙ f i (omega arith)) in
          let words : leb (2 * total tags) (length points) ≡ true = le-leb _ _ there in
          record { tags = map old_tag tags; words = old_points old; is = rw (kinds, words, good, fits) },
    )

-- ---- which coordinates go back

of_half : (z : ℤ) → mag z < 2 ^ 15 → (half z < 0x10000) × (i16_of (half z) ≡ of_int binary32 z)
unfolding half i16_of
of_half (pos n) h = (omega arith, (let l : n < 0x8000 = omega arith in rw (lt-ltb _ _ l)))
of_half (negsuc n) h =
    let l : 0x8000 ≤ 0xffff - n = omega arith in
    let is : 0x10000 - (0xffff - n) ≡ suc n = omega arith in
    (omega arith, rw (le-ltb _ _ l, is) (negative n))

pub T_of : (b : Bool) → b ≡ true → T b
T_of b e = subst T (sym e) tt

-- one that goes back is the f32 of its 16 bits
pub goes_back_is : (w : ℕ) → goes_back w ≡ true → (half_word w < 0x10000) × (i16_of (half_word w) ≡ of_bits binary32 w)
unfolding goes_back
goes_back_is w e =
    let x = of_bits binary32 w in
    let k = of_half (to_signed 15 x) (to_signed_in 15 x) in
    (k.0, k.1 ∙ (Float-back_signed binary32 15 x (of_bits-fits binary32 w) (T_of (in_signed binary32 15 x) e)).1)

not_nan : (x : Float) → in_signed binary32 15 x ≡ true → T (not (is_nan x))
unfolding in_signed is_nan
not_nan nan e = let z : ◌≡◌ {A = ℕ} 0 1 = cc in absurd (omega arith)
not_nan (inf s) e = tt
not_nan (fin s m d) e = tt

-- its word is that of its 16 bits
pub word_again : (w : ℕ) → w < 2 ^ 32 → goes_back w ≡ true → to_bits binary32 (i16_of (half_word w)) ≡ w
unfolding goes_back
word_again w l e = ap (to_bits binary32) (goes_back_is w e).1 ∙ to_bits-of_bits binary32 w l (not_nan (of_bits binary32 w) e)

-- whatever is the f32 of an i16 goes back
pub is_goes_back : (w h : ℕ) → h < 0x10000 → of_bits binary32 w ≡ i16_of h → goes_back w ≡ true
unfolding goes_back
is_goes_back w h l e = ap (in_signed binary32 15) e ∙ (i16_back h l).0
