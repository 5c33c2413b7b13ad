-- Tag by tag: a moved call's tag is the old one's, with the sums before it but for the data, which is doubled. Assumes nothing.
use Rattle.std.specs.Prelude.{ℕ, ◌+◌, ◌*◌, ◌/◌, ◌%◌, ◌^◌, ◌<◌, ◌≤◌, ◌≡◌, Bool, eqb, get_or}
use Rattle.std.proofs.Common.{sym, subst, arith}
use Rattle.std.proofs.Math.Bool.{true, false}
use Rattle.scene.specs.Tags.{byte_at, tag_data, sums_below, sums_before}
use Rattle.scene.specs.declared.tags.PathMonoid.{PathMonoid}
use Rattle.scene.specs.declared.tags.PathTagData.{PathTagData}
use Rattle.watertight.specs.Fill.{Call, tags}
use Rattle.same_lines.specs.Conditions.{words_of, byte_of, counted, Few, TagsMoved}
use Rattle.sheets.specs.Turned.{MovedByte, moved_byte}
use Rattle.same_lines.specs.Sums.{Doubled, moved_below, moved_before, moved_at}
use Rattle.scene.specs.Fresh.{byte_of as byteIn}
use Rattle.scene.specs.FreshLaws.{placed, sums_at}

abbrev word_of : Call → ℕ → ℕ
word_of c i = get_or (words_of c) (i / 4) 0

-- the byte at a place of a word of tags
pub byte_at_lem : (c : Call) (k j : ℕ) → j < 4 → byte_of c (k * 4 + j) ≡ byte_at (get_or (words_of c) k 0) j
unfolding byteIn
byte_at_lem c k j h =
    let d : (k * 4 + j) / 4 ≡ k = omega arith in
    let m : (k * 4 + j) % 4 ≡ j = omega arith in
    rw (d, m)

weaken : {m n : ℕ} {a b : PathMonoid} → m ≤ n → Doubled m a b → Doubled n a b
weaken h d = record { path = d.path; transform = d.transform; style = d.style; words = d.words; small = omega (arith, d.small) }

-- a tag with its sums, and the same tag moved
pub record Paired (t t' : PathTagData) : Type 0 where
  pub byte : MovedByte t.tag_byte t'.tag_byte
  pub path : t'.monoid.path_ix ≡ t.monoid.path_ix
  pub transform : t'.monoid.trans_ix ≡ t.monoid.trans_ix
  pub style : t'.monoid.style_ix ≡ t.monoid.style_ix
  pub offset : t'.monoid.pathseg_offset ≡ 2 * t.monoid.pathseg_offset

data_pair : (b b' m : ℕ) (s s' : PathMonoid) → MovedByte b b' → Doubled m s s' → Paired (tag_data b s) (tag_data b' s')
unfolding tag_data
data_pair b b' m s s' mb d =
    record { byte = mb; path = d.path; transform = rw d.transform; style = rw d.style; offset = d.words }

module _ (old new : Call) (m : TagsMoved old new) (few : Few old) where
  pub byte_pair : (i : ℕ) → i < tags old → MovedByte (byte_of old i) (byte_of new i)
  byte_pair i h = subst (MovedByte (byte_of old i)) (sym (m.byte i h)) (moved_byte (byte_of old i) (m.old_kind i h))

  word_pair : (k j : ℕ) → k < old.layout.n_wg * 64 → j < 4 → MovedByte (byte_at (get_or (words_of old) k 0) j) (byte_at (get_or (words_of new) k 0) j)
  word_pair k j h l = rw (byte_at_lem old k j l, byte_at_lem new k j l) at (byte_pair (k * 4 + j) (omega arith))

  -- before a word
  pub before_pair : (i : ℕ) → i ≤ old.layout.n_wg * 64 → Doubled (16 * i) (sums_before (words_of old) i) (sums_before (words_of new) i)
  before_pair i h = moved_before (words_of old) (words_of new) i (omega (arith, few)) (λ k j l. word_pair k j (omega arith))

  at_word : (i : ℕ) → i < tags old → (j : ℕ) → j < i % 4 → MovedByte (byte_at (word_of old i) j) (byte_at (word_of new i) j)
  at_word i h j l = word_pair (i / 4) j (omega arith) (omega arith)

  placed_pair : (i : ℕ) → i < tags old → (t : Bool) → Doubled (2 ^ 30) (placed t (sums_before (words_of old) (i / 4)) (sums_below (word_of old i) (i % 4))) (placed t (sums_before (words_of new) (i / 4)) (sums_below (word_of new i) (i % 4)))
  unfolding placed
  placed_pair i h true = weaken (omega arith) (moved_below (word_of old i) (word_of new i) (i % 4) (omega arith) (at_word i h))
  placed_pair i h false =
      weaken (omega (arith, few)) (moved_at (word_of old i) (word_of new i) (i / 4) (i % 4) (omega (arith, few)) (before_pair (i / 4) (omega arith)) (omega arith) (at_word i h))

  pub sums_pair : (i : ℕ) → i < tags old → Doubled (2 ^ 30) (sums_at (words_of old) i) (sums_at (words_of new) i)
  unfolding sums_at
  sums_pair i h = rw (byte_pair i h).zero_too (placed_pair i h (eqb (byte_of old i) 0))

  pub tag_pair : (i : ℕ) → i < tags old → Paired (tag_data (byte_of old i) (sums_at (words_of old) i)) (tag_data (byte_of new i) (sums_at (words_of new) i))
  tag_pair i h = data_pair (byte_of old i) (byte_of new i) (2 ^ 30) (sums_at (words_of old) i) (sums_at (words_of new) i) (byte_pair i h) (sums_pair i h)

  -- the counted words are few, and twice as many afterwards
  pub counted_pair : counted old ≤ 2 ^ 30
  unfolding counted
  counted_pair = omega (arith, few, (before_pair (old.layout.n_wg * 64) (omega arith)).small)
