-- What the proofs of the leaves cite: what a match found, the six words, one event at the nib. Assumes nothing.
use Prim.Native.Nat.{ℕ, suc, ◌+◌, ◌*◌, ◌/◌, ◌<◌, ◌≤◌}
use mathlib.Core.Path.{◌≡◌, refl}
use Rattle.std.specs.Prelude.{Ok, Err}
use mathlib.Core.Bool.{Bool, true, false, ◌&&◌}
use mathlib.Core.List.{List, [], ◌∷◌}
use native.Mathlib.Numerals.{add-one}
use native.Mathlib.Omega.{arith}
use lib.Dec.{ltb}
use lib.ListN.{length, set}
use lib.Ieee.{binary32, to_bits}
use lib.Seq.{sets}
use borrow.Author.Tests.{lt-ltb, le-ltb}
use Rattle.refusals.specs.declared.LineEnd.TheVariants.{Start, End}
use Rattle.refusals.specs.declared.Refusal.TheVariants.{NotNumber, NoRoom, NoJoin, NoCount}
use Rattle.spiral.specs.declared.util.Vec2.{Vec2}
use Rattle.spiral.specs.Util.{has_nan}
use Rattle.drawing.specs.Sheet.{line, no_count, no_join, record_of, has_room}
use Rattle.drawing.specs.Page.{Reach, reach_with, stop_of, inked, ink_on, ink_event, ink_all, Drew}
use Rattle.drawing.specs.PageLaws.{drew}
use Rattle.drawing.specs.declared.line.Nib.{Nib}
use Rattle.drawing.specs.declared.line.Stopped.{Stopped}

-- ---- the six words of a line, stored one after another
next : (n k : ℕ) → n + suc k ≡ suc (n + k)
next n k = omega arith

pub six_words_lem : (ws : List ℕ) (at path tag : ℕ) (p q : Vec2) {a b c d : ℕ} → a ≡ to_bits binary32 p.x → b ≡ to_bits binary32 p.y → c ≡ to_bits binary32 q.x → d ≡ to_bits binary32 q.y → set (set (set (set (set (set ws at path) (at + 1) tag) (at + 2) a) (at + 3) b) (at + 4) c) (at + 5) d ≡ sets ws at (record_of path tag p q)
six_words_lem ws at path tag p q e f g h = rw (e, f, g, h, next at 4, next at 3, next at 2, next at 1, add-one at)

-- ---- one event
and_right : (a b : Bool) → b ≡ false → a && b ≡ false
and_right true b h = h
and_right false b h = refl

pub last_count : (ws : List ℕ) (n : ℕ) → 4294967295 ≤ n → has_room ws n ≡ false
unfolding has_room
last_count ws n h = rw (le-ltb n 4294967295 h)

pub no_room_lem : (ws : List ℕ) (n : ℕ) → length ws / 6 ≤ n → has_room ws n ≡ false
unfolding has_room
no_room_lem ws n h = and_right (ltb n 4294967295) (ltb n (length ws / 6)) (le-ltb n (length ws / 6) h)

pub room : (ws : List ℕ) (n : ℕ) → n < 4294967295 → n < length ws / 6 → has_room ws n ≡ true
unfolding has_room
room ws n h k = rw (lt-ltb n 4294967295 h, lt-ltb n (length ws / 6) k)

module _ {ws : List ℕ} {nib : Nib} {p q : Vec2} where
  pub nan_first : has_nan p ≡ true → {s : Stopped} → s ≡ stop_of nib (NotNumber Start) → Drew ws (Ok nib) (line p q ∷ []) ws (Err s)
  unfolding ink_all ink_event ink_on inked stop_of
  nan_first h e = drew (rw (h, e))

  pub nan_second : has_nan p ≡ false → has_nan q ≡ true → {s : Stopped} → s ≡ stop_of nib (NotNumber End) → Drew ws (Ok nib) (line p q ∷ []) ws (Err s)
  unfolding ink_all ink_event ink_on inked stop_of
  nan_second h i e = drew (rw (h, i, e))

  pub full : has_nan p ≡ false → has_nan q ≡ false → has_room ws nib.count ≡ false → {s : Stopped} → s ≡ stop_of nib NoRoom → Drew ws (Ok nib) (line p q ∷ []) ws (Err s)
  unfolding ink_all ink_event ink_on inked stop_of
  full h i k e = drew (rw (h, i, k, e))

  pub goes_on_lem : {ws' : List ℕ} {b : Reach} → has_nan p ≡ false → has_nan q ≡ false → has_room ws nib.count ≡ true → ws' ≡ sets ws (nib.count * 6) (record_of nib.path nib.tag p q) → b ≡ reach_with (reach_with nib.reach p) q
      → Drew ws (Ok nib) (line p q ∷ []) ws' (Ok (record { count = nib.count + 1; tag = nib.tag; path = nib.path; reach = b }))
  unfolding ink_all ink_event ink_on inked
  goes_on_lem h i k w e = drew (rw (h, i, k, w, e))

module _ (ws : List ℕ) {nib : Nib} {s : Stopped} where
  pub count_stops : s ≡ stop_of nib NoCount → Drew ws (Ok nib) (no_count ∷ []) ws (Err s)
  unfolding ink_all ink_event ink_on stop_of
  count_stops e = drew (rw e)

  pub join_stops : s ≡ stop_of nib NoJoin → Drew ws (Ok nib) (no_join ∷ []) ws (Err s)
  unfolding ink_all ink_event ink_on stop_of
  join_stops e = drew (rw e)
