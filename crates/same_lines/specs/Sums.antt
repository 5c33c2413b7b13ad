-- The sums of a moved sheet's tags are those of the old one, but for the data, which is doubled. Assumes nothing.
use Rattle.std.specs.Prelude.{ℕ, zero, suc, ◌+◌, ◌*◌, ◌/◌, ◌%◌, ◌^◌, ◌<◌, ◌≤◌, ◌≡◌, refl, Bool, true, false, List, eqb, get_or}
use Rattle.std.proofs.Common.{ap, arith, eqb-true}
use Rattle.scene.specs.Tags.{sums, tag_sums, plus, byte_at, sums_below, word_sums, sums_before}
use Rattle.scene.specs.declared.tags.PathMonoid.{PathMonoid}
use Rattle.sheets.specs.Moving.{counts}
use Rattle.sheets.specs.Turned.{MovedByte}

-- ---- sums

-- b is a but for the data, which is doubled, and at most m in a
pub record Doubled (m : ℕ) (a b : PathMonoid) : Type 0 where
  pub path : b.path_ix ≡ a.path_ix
  pub transform : b.trans_ix ≡ a.trans_ix
  pub style : b.style_ix ≡ a.style_ix
  pub words : b.pathseg_offset ≡ 2 * a.pathseg_offset
  pub small : a.pathseg_offset ≤ m

nothing : (m : ℕ) → Doubled m (sums 0 0 0 0) (sums 0 0 0 0)
nothing m = record { path = refl; transform = refl; style = refl; words = refl; small = omega arith }

more : {m n k : ℕ} {a a' b b' : PathMonoid} → m + n ≤ k → k < 2 ^ 31 → Doubled m a a' → Doubled n b b' → Doubled k (plus a b) (plus a' b')
unfolding plus
more h l p q =
    record {
      path = rw (p.path, q.path);
      transform = rw (p.transform, q.transform);
      style = rw (p.style, q.style);
      words = omega (arith, p.words, q.words, p.small, q.small);
      small = omega (arith, p.small, q.small);
    }

words_by_lem : (b b' : ℕ) → MovedByte b b' → (t : Bool) → eqb (counts b) 0 ≡ t → (b' % 4 + b' / 4 % 2) * (1 + b' / 8 % 2) ≡ 2 * ((b % 4 + b / 4 % 2) * (1 + b / 8 % 2))
words_by_lem b b' m true e =
    let z : b % 4 + b / 4 % 2 ≡ 0 = eqb-true (counts b) 0 e in
    rw (m.kind, m.end, z) (omega arith)
words_by_lem b b' m false e =
    let k = m.turned e in
    rw (m.kind, m.end, k.0, k.1) (omega arith)

small_by : (b b' : ℕ) → MovedByte b b' → (t : Bool) → eqb (counts b) 0 ≡ t → (b % 4 + b / 4 % 2) * (1 + b / 8 % 2) ≤ 4
small_by b b' m true e =
    let z : b % 4 + b / 4 % 2 ≡ 0 = eqb-true (counts b) 0 e in
    rw z (omega arith)
small_by b b' m false e =
    let k = m.turned e in
    rw k.0 (omega arith)

moved_tag : (b b' : ℕ) → MovedByte b b' → Doubled 4 (tag_sums b) (tag_sums b')
unfolding tag_sums
moved_tag b b' m =
    record {
      path = m.path;
      transform = m.transform;
      style = ap (λ (x : ℕ). x * 2) m.style;
      words = words_by_lem b b' m (eqb (counts b) 0) refl;
      small = small_by b b' m (eqb (counts b) 0) refl;
    }

-- before a place of a word
pub moved_below : (w w' place : ℕ) → place ≤ 4 → ((j : ℕ) → j < place → MovedByte (byte_at w j) (byte_at w' j)) → Doubled (4 * place) (sums_below w place) (sums_below w' place)
unfolding sums_below
moved_below w w' zero h f = nothing (4 * 0)
moved_below w w' (suc place) h f =
    more {m = 4 * place} {n = 4} (omega arith) (omega arith) (moved_below w w' place (omega arith) (λ j l. f j (omega arith))) (moved_tag (byte_at w place) (byte_at w' place) (f place (omega arith)))

-- before a word
pub moved_before : (ts ts' : List ℕ) (i : ℕ) → 16 * i < 2 ^ 31 → ((k j : ℕ) → k < i → j < 4 → MovedByte (byte_at (get_or ts k 0) j) (byte_at (get_or ts' k 0) j)) → Doubled (16 * i) (sums_before ts i) (sums_before ts' i)
unfolding sums_before word_sums
moved_before ts ts' zero h f = nothing (16 * 0)
moved_before ts ts' (suc i) h f =
    more {m = 16 * i} {n = 16} (omega arith) h (moved_before ts ts' i (omega arith) (λ k j l. f k j (omega arith))) (moved_below (get_or ts i 0) (get_or ts' i 0) 4 (omega arith) (λ j. f i j (omega arith)))

-- at a tag: before its word and in it
pub moved_at : {a a' : PathMonoid} (w w' i place : ℕ) → 16 * i + 4 * place < 2 ^ 31 → Doubled (16 * i) a a' → place ≤ 4 → ((j : ℕ) → j < place → MovedByte (byte_at w j) (byte_at w' j))
    → Doubled (16 * i + 4 * place) (plus a (sums_below w place)) (plus a' (sums_below w' place))
moved_at w w' i place h d l f = more {m = 16 * i} {n = 4 * place} (omega arith) h d (moved_below w w' place l f)
