-- Laws of the sums and of the scan. Assumes nothing.
use Rattle.std.proofs.Common.{◌≡◌, ℕ, zero, suc, ◌+◌, ◌-◌, ◌*◌, ◌/◌, ◌%◌, ◌^◌, ◌<◌, ◌≤◌, min, List, [], ◌∷◌, ◌++◌, length, get_or, drop, set, sym, refl, ap, ◌∙◌, append_assoc, mul-le-mul, add-one, arith, length-append, length-drop, get_or-drop, drop-drop, take_at, le-leb, Ok, Err}
use lib.Seq.{sets, sets-eq, drop-append-add}
use Rattle.scene.specs.Tags.{less, word_sums, plus, sums_below, sums_before, prefixes, four_words, scan_told, scan_of, filled}
use Rattle.scene.specs.declared.tags.PathMonoid.{PathMonoid}
use Rattle.refusals.specs.declared.Refusal.TheVariants.{BadBase}
use borrow.Author.Tests.{lt-leb}

-- a tag has at most eight data words
pub few : (tag : ℕ) → (tag % 4 + tag / 4 % 2) * (1 + tag / 8 % 2) ≤ 8
few tag =
    let count : tag % 4 + tag / 4 % 2 ≤ 4 = omega arith in
    let size : 1 + tag / 8 % 2 ≤ 2 = omega arith in
    mul-le-mul count size

-- the number that n added to wraps back to a
pub less_is : {r a n : ℕ} → r < 2 ^ 32 → n ≤ 2 ^ 32 → (r + n) % 2 ^ 32 ≡ a → r ≡ less a n
less_is {r} {a} {n} fits small wraps = omega arith

-- ---- the scan

-- after i turns: the first i prefixes, then the lent words; and the sums of the next prefix
pub record Filling (scene : List ℕ) (base : ℕ) (lent words : List ℕ) (s : PathMonoid) (i : ℕ) : Type 0 where
  pub stored : words ≡ prefixes (drop base scene) i ++ drop (i * 4) lent
  pub next : s ≡ sums_before (drop base scene) i
  pub room : i * 4 ≤ length lent

length_prefixes : (tags : List ℕ) (n : ℕ) → length (prefixes tags n) ≡ n * 4
unfolding prefixes
length_prefixes tags zero = refl
length_prefixes tags (suc n) = rw (length-append, length_prefixes tags n) (omega arith)

pub begin : (scene : List ℕ) (base : ℕ) (lent : List ℕ) {s : PathMonoid} → s ≡ sums_below 0 0 → Filling scene base lent lent s 0
unfolding prefixes sums_before sums_below
begin scene base lent e = record { stored = refl; next = e; room = omega arith }

behind : (tags lent : List ℕ) (i : ℕ) → drop (i * 4 + 4) (prefixes tags i ++ drop (i * 4) lent) ≡ drop (suc i * 4) lent
behind tags lent i =
    let more : i * 4 + 4 ≡ suc i * 4 = omega arith in
    ap (λ (k : ℕ). drop (k + 4) (prefixes tags i ++ drop (i * 4) lent)) (sym (length_prefixes tags i))
    ∙ drop-append-add (prefixes tags i) (drop (i * 4) lent) 4
    ∙ drop-drop 4 (i * 4) lent
    ∙ ap (λ (k : ℕ). drop k lent) more

-- four of the lent words behind the first i prefixes become the next prefix
grown : (tags lent : List ℕ) (i : ℕ) → i * 4 + 4 ≤ length lent
    → sets (prefixes tags i ++ drop (i * 4) lent) (i * 4) (four_words (sums_before tags i)) ≡ prefixes tags (suc i) ++ drop (suc i * 4) lent
unfolding prefixes
grown tags lent i h =
    let words = prefixes tags i ++ drop (i * 4) lent in
    let len = length_prefixes tags i in
    let fits : i * 4 + 4 ≤ length words = rw (length-append, len, length-drop) (omega arith) in
    sets-eq (four_words (sums_before tags i)) words (i * 4) fits
    ∙ rw (take_at (prefixes tags i) (drop (i * 4) lent) (i * 4) len, behind tags lent i, append_assoc)

pub turn : {scene lent words words' : List ℕ} {base i : ℕ} {s s' t : PathMonoid}
    → Filling scene base lent words s i → i * 4 + 4 ≤ length lent → words' ≡ sets words (i * 4) (four_words s)
    → t ≡ word_sums (get_or scene (base + i) 0) → s' ≡ plus s t → Filling scene base lent words' s' (i + 1)
unfolding sums_before
turn {scene} {lent} {base = base} {i} f h put word sum =
    record {
      stored = put ∙ rw (f.stored, f.next, add-one i) (grown (drop base scene) lent i h);
      next = sum ∙ rw (word, f.next, add-one i, get_or-drop);
      room = omega arith;
    }

pub past : (scene : List ℕ) (base : ℕ) (lent : List ℕ) → length scene < base → scan_told (Err BadBase) lent ≡ scan_of scene base lent
unfolding scan_told scan_of
past scene base lent h = rw (lt-leb _ _ h)

pub done : {scene lent words : List ℕ} {base n : ℕ} {s : PathMonoid} → Filling scene base lent words s n → base ≤ length scene
    → n ≡ min (length scene - base) (length lent / 4) → scan_told (Ok n) words ≡ scan_of scene base lent
unfolding scan_told scan_of filled
done f h e = rw (le-leb _ _ h, ← e, f.stored)
