-- Laws of the words that a segment's points take. Assumes nothing.
use Rattle.std.proofs.Common.{◌≡◌, ℕ, ◌+◌, ◌-◌, ◌*◌, ◌^◌, ◌<◌, ◌≤◌, Bool, true, false, ◌&&◌, ltb, leb, List, length, mul-le-mul_right, arith, le-ltb, lt-ltb, leb-true}
use Rattle.scene.specs.Reading.{point_words, point_count, reaches}

-- where all points of a segment lie inside, so does point j
pub room : (kind j : ℕ) (w : Bool) (at n : ℕ) → j < point_count kind → at + point_count kind * point_words w ≤ n → at + (j + 1) * point_words w ≤ n
room kind j w at n h all =
    let below : j + 1 ≤ point_count kind = omega arith in
    omega (arith, mul-le-mul_right (point_words w) below)

module _ (kind : ℕ) (w : Bool) (offset : ℕ) (scene : List ℕ) (base : ℕ) {count before : ℕ} (k : count ≡ point_count kind) (b : before ≡ (count - 1) * point_words w) where
  pub beyond : 0xffffffff < offset + before → false ≡ reaches kind w offset scene base
  unfolding reaches
  beyond h = let far : 2 ^ 32 ≤ offset + (point_count kind - 1) * point_words w = rw (← k, ← b) (omega arith) in rw (le-ltb _ _ far)

  pub within : {words : ℕ} → words ≡ count * point_words w → offset + before ≤ 0xffffffff → leb (base + offset + words) (length scene) ≡ reaches kind w offset scene base
  unfolding reaches
  within e h = let near : offset + (point_count kind - 1) * point_words w < 2 ^ 32 = rw (← k, ← b) (omega arith) in rw (lt-ltb _ _ near, e, k)

second : (a : Bool) (m n : ℕ) → a && leb m n ≡ true → m ≤ n
second true m n h = leb-true m n h
second false m n h = let z : ◌≡◌ {A = ℕ} 0 1 = cc in omega arith

pub inside : (kind : ℕ) (w : Bool) (offset : ℕ) (scene : List ℕ) (base : ℕ)
    → reaches kind w offset scene base ≡ true → base + offset + point_count kind * point_words w ≤ length scene
unfolding reaches
inside kind w offset scene base h =
    second (ltb (offset + (point_count kind - 1) * point_words w) (2 ^ 32)) (base + offset + point_count kind * point_words w) (length scene) h
