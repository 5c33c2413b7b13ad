-- With a fresh scan, a tag is its byte and the sums over the tags before it. Assumes nothing.
use Rattle.std.specs.Prelude.{◌≡◌, ℕ, zero, suc, ◌+◌, ◌-◌, ◌*◌, ◌/◌, ◌%◌, ◌^◌, ◌<◌, ◌≤◌, min, Bool, true, false, cond, List, length, drop, ◌==◌, nat_eq, nat_lt, slice_index, slice_index_or, Ok, Err}
use Rattle.std.proofs.Math.Path.{refl, ap}
use Rattle.std.proofs.Common.{sym, ◌∙◌, length-drop, get_or-append-add, get_or-drop}
use native.Mathlib.Omega.{arith}
use Rattle.std.proofs.Math.Decide.{ℕ_discrete}
use Rattle.std.proofs.Math.ListN.{length-append, get_or-append}
use borrow.Author.Tests.{lt-ltb, le-leb, ltb-true}
use Rattle.refusals.specs.declared.Refusal.TheVariants as refusal
use Rattle.scene.specs.Words.{word_at}
use Rattle.scene.specs.Tags.{sums, tag_sums, plus, byte_at, tag_data, sums_below, word_sums, sums_before, four_words, prefixes, prefix_at, with_prefix, tag_in, tag_of, scan_of, filled}
use Rattle.scene.specs.Fresh.{byte_of, sums_to, Fresh}
use Rattle.scene.specs.declared.tags.PathMonoid.{PathMonoid}
use Rattle.scene.specs.declared.tags.PathTagData.{PathTagData}

-- ---- the scan's prefixes

length_prefixes : (ts : List ℕ) (n : ℕ) → length (prefixes ts n) ≡ n * 4
unfolding prefixes
length_prefixes ts zero = refl
length_prefixes ts (suc n) = rw (length-append, length_prefixes ts n) (omega arith)

prefix_word : (ts : List ℕ) (n i j : ℕ) → i < n → j < 4 → slice_index (prefixes ts n) (i * 4 + j) ≡ slice_index (four_words (sums_before ts i)) j
unfolding prefixes
prefix_word ts zero i j h l = absurd (omega arith)
prefix_word ts (suc n) i j h l =
    elim (ℕ_discrete i n) [
      | yes e ↦
          let at : i * 4 + j ≡ length (prefixes ts n) + j = omega (arith, length_prefixes ts n) in
          rw at (get_or-append-add (prefixes ts n) (four_words (sums_before ts n)) j 0) ∙ ap (λ (k : ℕ). slice_index (four_words (sums_before ts k)) j) (sym e)
      | no ne ↦
          get_or-append (prefixes ts n) (four_words (sums_before ts n)) 0 (i * 4 + j) (omega (arith, length_prefixes ts n, ne)) ∙ prefix_word ts n i j (omega (arith, ne)) l
    ]

module _ (scene : List ℕ) (base : ℕ) (lent : List ℕ) where
  scanned_length : base ≤ length scene → length (scan_of scene base lent).words ≡ length lent
  unfolding scan_of filled
  scanned_length h =
      let n = min (length scene - base) (length lent / 4) in
      rw (le-leb _ _ h, length-append, length_prefixes, length-drop) (omega arith)

  scanned_word : (i j : ℕ) → base + i < length scene → i < length lent / 4 → j < 4
      → slice_index (scan_of scene base lent).words (i * 4 + j) ≡ slice_index (four_words (sums_before (drop base scene) i)) j
  unfolding scan_of filled
  scanned_word i j h k l =
      let n = min (length scene - base) (length lent / 4) in
      let b : base ≤ length scene = omega arith in
      let within : i < n = omega arith in
      rw (le-leb _ _ b)
      (get_or-append (prefixes (drop base scene) n) (drop (n * 4) lent) 0 (i * 4 + j) (omega (arith, length_prefixes (drop base scene) n)) ∙ prefix_word (drop base scene) n i j within l)

  pub fresh_prefix : (i : ℕ) → base + i < length scene → i < length lent / 4 → prefix_at (scan_of scene base lent).words i ≡ prefix_at (four_words (sums_before (drop base scene) i)) 0
  unfolding prefix_at
  fresh_prefix i h k =
      let size = scanned_length (omega arith) in
      let inside : i < length (scan_of scene base lent).words / 4 = rw size k in
      let none : i * 4 ≡ i * 4 + 0 = omega arith in
      let first : slice_index_or (scan_of scene base lent).words (i * 4) 0 ≡ (sums_before (drop base scene) i).path_ix =
      ap (λ (m : ℕ). slice_index (scan_of scene base lent).words m) none ∙ scanned_word i 0 h k (omega arith) in
      rw (lt-ltb _ _ inside, first, scanned_word i 1 h k (omega arith), scanned_word i 2 h k (omega arith), scanned_word i 3 h k (omega arith))

-- ---- a tag

-- the sums over the words before and over the tags of its own; a zero byte skips the prefix
unfoldable pub placed : Bool → PathMonoid → PathMonoid → PathMonoid
placed true before below = below
placed false before below = plus before below

unfoldable pub sums_at : List ℕ → ℕ → PathMonoid
sums_at tags i = placed (byte_of tags i == 0) (sums_before tags (i / 4)) (sums_below (slice_index tags (i / 4)) (i % 4))

with_is : (byte : ℕ) (below before : PathMonoid) (t : Bool) (lent : List ℕ) (i : ℕ) → (t ≡ false → prefix_at lent i ≡ prefix_at (four_words before) 0)
    → with_prefix byte below t (prefix_at lent i) ≡ Ok (tag_data byte (placed t before below))
unfolding with_prefix placed prefix_at
with_is byte below before true lent i f = refl
with_is byte below before false lent i f = ap (with_prefix byte below false) (f refl)

missing : (byte : ℕ) (below : PathMonoid) (lent : List ℕ) (i : ℕ) → nat_lt i (length lent / 4) ≡ false → with_prefix byte below false (prefix_at lent i) ≡ Err refusal.NoPrefix
unfolding with_prefix prefix_at
missing byte below lent i e = rw e

-- a prefix that is there is one of as many as are lent
prefix_there : (byte : ℕ) (below : PathMonoid) (lent : List ℕ) (i : ℕ) (d : PathTagData) (t : Bool) → nat_lt i (length lent / 4) ≡ t
    → with_prefix byte below false (prefix_at lent i) ≡ Ok d → i < length lent / 4
prefix_there byte below lent i d true b e = ltb-true _ _ b
prefix_there byte below lent i d false b e = let k = missing byte below lent i b in let z : ◌≡◌ {A = ℕ} 0 1 = cc in absurd (omega arith)

module _ (scene : List ℕ) (base : ℕ) (lent : List ℕ) (i : ℕ) where
  abbrev its_words : List ℕ
  its_words = drop base scene

  abbrev its_word : ℕ
  its_word = slice_index scene (base + i / 4)

  -- its word is inside
  abbrev pub Inside : Type 0
  Inside = base + i / 4 < length scene

  same_word_lem : slice_index_or its_words (i / 4) 0 ≡ its_word
  same_word_lem = get_or-drop base scene (i / 4) 0

  tag_is : Inside → ((byte_of its_words i == 0) ≡ false → prefix_at lent (i / 4) ≡ prefix_at (four_words (sums_before its_words (i / 4))) 0)
      → tag_of scene base lent i ≡ Ok (tag_data (byte_of its_words i) (sums_at its_words i))
  unfolding tag_of word_at tag_in sums_at byte_of
  tag_is h f =
      rw (lt-ltb _ _ h, ← same_word_lem)
      (with_is (byte_at (slice_index its_words (i / 4)) (i % 4)) (sums_below (slice_index its_words (i / 4)) (i % 4)) (sums_before its_words (i / 4)) (byte_at (slice_index its_words (i / 4)) (i % 4) == 0) lent (i / 4) f)

  -- what a tag that was read says of its word and its prefix
  record Seen : Type 0 where
    inside : Inside
    prefix : nat_eq (byte_at its_word (i % 4)) 0 ≡ false → i / 4 < length lent / 4

  seen_prefix : (byte : ℕ) (below : PathMonoid) (t : Bool) (d : PathTagData) → with_prefix byte below t (prefix_at lent (i / 4)) ≡ Ok d → t ≡ false → i / 4 < length lent / 4
  seen_prefix byte below true d e f = let z : ◌≡◌ {A = ℕ} 0 1 = cc in absurd (omega arith)
  seen_prefix byte below false d e f = prefix_there byte below lent (i / 4) d (nat_lt (i / 4) (length lent / 4)) refl e

  seen_by : (t : Bool) → nat_lt (base + i / 4) (length scene) ≡ t → (d : PathTagData)
      → tag_in (cond t (Ok its_word) (Err refusal.Outside)) (i % 4) (prefix_at lent (i / 4)) ≡ Ok d → Seen
  unfolding tag_in
  seen_by true b d e =
      record { inside = ltb-true _ _ b; prefix = seen_prefix (byte_at its_word (i % 4)) (sums_below its_word (i % 4)) (byte_at its_word (i % 4) == 0) d e }
  seen_by false b d e = let z : ◌≡◌ {A = ℕ} 0 1 = cc in absurd (omega arith)

  seen : (d : PathTagData) → tag_of scene base lent i ≡ Ok d → Seen
  unfolding tag_of word_at
  seen d e = seen_by (nat_lt (base + i / 4) (length scene)) refl d e

-- ---- sums over tags one by one

plus_assoc : (a b t : PathMonoid) → plus (plus a b) t ≡ plus a (plus b t)
unfolding plus
plus_assoc a b t =
    four (turn a.path_ix b.path_ix t.path_ix) (turn a.trans_ix b.trans_ix t.trans_ix)
    (turn a.style_ix b.style_ix t.style_ix) (turn a.pathseg_offset b.pathseg_offset t.pathseg_offset)
  where
    turn : (x y z : ℕ) → ((x + y) % 2 ^ 32 + z) % 2 ^ 32 ≡ (x + (y + z) % 2 ^ 32) % 2 ^ 32
    turn x y z = omega arith

    four : {p p' t t' s s' w w' : ℕ} → p ≡ p' → t ≡ t' → s ≡ s' → w ≡ w' → sums p t s w ≡ sums p' t' s' w'
    four e f g h = cc

plus_none : (a b : PathMonoid) → plus (plus a b) (sums 0 0 0 0) ≡ plus a b
unfolding plus
plus_none a b = cc (again (a.path_ix + b.path_ix), again (a.trans_ix + b.trans_ix), again (a.style_ix + b.style_ix), again (a.pathseg_offset + b.pathseg_offset))
  where
    again : (x : ℕ) → (x % 2 ^ 32 + 0) % 2 ^ 32 ≡ x % 2 ^ 32
    again x = omega arith

-- the tag behind: of the same word, or the first of the next
next_tag : (tags : List ℕ) (i : ℕ)
    → plus (sums_before tags (i / 4)) (plus (sums_below (slice_index tags (i / 4)) (i % 4)) (tag_sums (byte_of tags i)))
    ≡ plus (sums_before tags (suc i / 4)) (sums_below (slice_index tags (suc i / 4)) (suc i % 4))
unfolding byte_of sums_below sums_before word_sums
next_tag tags i =
    elim (ℕ_discrete (i % 4) 3) [
      | yes e ↦
          let word : suc i / 4 ≡ suc (i / 4) = omega arith in
          let place : suc i % 4 ≡ 0 = omega arith in
          rw (word, place, e) (sym (plus_none (sums_before tags (i / 4)) (word_sums (slice_index tags (i / 4)))))
      | no ne ↦
          let word : suc i / 4 ≡ i / 4 = omega (arith, ne) in
          let place : suc i % 4 ≡ suc (i % 4) = omega (arith, ne) in
          rw (word, place)
    ]

-- they are those over the words before and over the tags before in its own word
pub sums_to_lem : (tags : List ℕ) (i : ℕ) → sums_to tags i ≡ plus (sums_before tags (i / 4)) (sums_below (slice_index tags (i / 4)) (i % 4))
unfolding sums_to plus sums_before sums_below
sums_to_lem tags zero = refl
sums_to_lem tags (suc i) =
    ap (λ (s : PathMonoid). plus s (tag_sums (byte_of tags i))) (sums_to_lem tags i)
    ∙ plus_assoc (sums_before tags (i / 4)) (sums_below (slice_index tags (i / 4)) (i % 4)) (tag_sums (byte_of tags i))
    ∙ next_tag tags i

-- a tag that has a byte is its byte and the sums over the tags before it
pub sums_at_lem : (tags : List ℕ) (i : ℕ) → (byte_of tags i == 0) ≡ false → sums_at tags i ≡ sums_to tags i
unfolding sums_at placed
sums_at_lem tags i e = rw e (sym (sums_to_lem tags i))

-- ---- a fresh scan

module _ (scene : List ℕ) (base : ℕ) (before : List ℕ) (fresh : Fresh scene base before) (i : ℕ) where
  here : Inside scene base before i → i / 4 < length fresh.lent / 4 → prefix_at before (i / 4) ≡ prefix_at (four_words (sums_before (drop base scene) (i / 4))) 0
  here h l = ap (λ (p : List ℕ). prefix_at p (i / 4)) fresh.scanned ∙ fresh_prefix scene base fresh.lent (i / 4) h l

  -- where its word is inside and prefixes enough are lent, a tag is read
  pub roomy_tag : Inside scene base before i → i / 4 < length fresh.lent / 4 → tag_of scene base before i ≡ Ok (tag_data (byte_of (drop base scene) i) (sums_at (drop base scene) i))
  roomy_tag h l = tag_is scene base before i h (λ b. here h l)

  -- and a tag that was read is its byte and the sums before it
  pub fresh_tag : (d : PathTagData) → tag_of scene base before i ≡ Ok d → Inside scene base before i × (d ≡ tag_data (byte_of (drop base scene) i) (sums_at (drop base scene) i))
  unfolding byte_of
  fresh_tag d e =
      let s = seen scene base before i d e in
      let size : length before ≡ length fresh.lent = ap length fresh.scanned ∙ scanned_length scene base fresh.lent (omega (arith, s.inside)) in
      let byte = same_word_lem scene base before i in
      let k = tag_is scene base before i s.inside (λ b. here s.inside (rw size at (s.prefix (rw byte at b)))) in
      (s.inside, cc)
