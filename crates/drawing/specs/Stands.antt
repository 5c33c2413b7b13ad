-- What a drawing leaves in the lent words: the lines stored before stand, the records of its first lines follow, as many as the count has grown by, and every word behind them is as it was. Assumes nothing.
use Prim.Native.Nat.{ℕ, zero, suc, ◌+◌, ◌*◌, ◌/◌, ◌<◌, ◌≤◌}
use Rattle.std.specs.Prelude.{◌≡◌, refl, Bool, true, false, ◌&&◌, ltb, length, Ok, Err}
use Rattle.std.proofs.Math.Path.{ap}
use Rattle.std.proofs.Common.{sym, ◌∙◌, subst, arith, ltb-true, length-append, take-append-drop, take_at, drop_at, drop-drop, length-take-le}
use mathlib.Core.List.{List, [], ◌∷◌, ◌++◌, append-nil, append_assoc}
use Rattle.std.proofs.Math.ListN.{take, drop}
use Rattle.std.proofs.lemmas.List.Edits.{sets, sets-eq}
use Rattle.refusals.specs.declared.LineEnd.TheVariants.{Start, End}
use Rattle.refusals.specs.declared.Refusal.TheVariants.{NotNumber, NoRoom, NoJoin, NoCount}
use Rattle.spiral.specs.declared.util.Vec2.{Vec2}
use Rattle.spiral.specs.Util.{has_nan}
use Rattle.drawing.specs.Sheet.{Event, line, no_count, no_join, Drawn, halt, Sheet, sheet, record_of, pen_behind, has_room, stored, draw_on, draw, draw_all, count_of, is_stopped}
use Rattle.drawing.specs.SheetLaws.{absorbs}
use Rattle.drawing.specs.declared.line.Pen.{Pen}

-- the tag that draws; after a stop none does
unfoldable pub pen_tag : Drawn → ℕ
pen_tag (Ok pen) = pen.tag
pen_tag (Err s) = 0

-- the words of the first k events, where these are lines
unfoldable pub records_of : ℕ → ℕ → ℕ → List Event → List ℕ
records_of path tag zero es = []
records_of path tag (suc k) [] = []
records_of path tag (suc k) (line p q ∷ es) = record_of path tag p q ++ records_of path tag k es
records_of path tag (suc k) (no_count ∷ es) = []
records_of path tag (suc k) (no_join ∷ es) = []

pub record Stands (path tag : ℕ) (es : List Event) (ws : List ℕ) (n : ℕ) (ws' : List ℕ) (n' : ℕ) : Type 0 where
  pub more : ℕ
  pub count : n' ≡ n + more
  pub whole : length (records_of path tag more es) ≡ more * 6
  pub words : ws' ≡ take (n * 6) ws ++ records_of path tag more es ++ drop (n' * 6) ws

-- ---- nothing is stored
none : (path tag : ℕ) (es : List Event) (ws : List ℕ) (n : ℕ) → Stands path tag es ws n ws n
unfolding records_of
none path tag es ws n =
    record {
      more = 0;
      count = omega arith;
      whole = refl;
      words = sym (ap (λ (r : List ℕ). r ++ drop (n * 6) ws) (append-nil (take (n * 6) ws)) ∙ take-append-drop (n * 6) ws);
    }

-- ---- one line is stored, and then others
room_for : (a b : Bool) → a && b ≡ true → b ≡ true
room_for true b h = h
room_for false b h = let z : ◌≡◌ {A = ℕ} 0 1 = cc in absurd (omega arith)

fits_in : (ws : List ℕ) (n : ℕ) → has_room ws n ≡ true → n * 6 + 6 ≤ length ws
unfolding has_room
fits_in ws n h =
    let r : n < length ws / 6 = ltb-true n (length ws / 6) (room_for (ltb n 4294967295) (ltb n (length ws / 6)) h) in
    omega arith

module _ (path tag : ℕ) (p q : Vec2) (es : List Event) (ws : List ℕ) (n : ℕ) (room : n * 6 + 6 ≤ length ws) where
  head : length (take (n * 6) ws ++ record_of path tag p q) ≡ n * 6 + 6
  head = length-append (take (n * 6) ws) (record_of path tag p q) ∙ ap (λ (k : ℕ). k + 6) (length-take-le (n * 6) ws (omega arith))

  after : sets ws (n * 6) (record_of path tag p q) ≡ (take (n * 6) ws ++ record_of path tag p q) ++ drop (n * 6 + 6) ws
  after = sets-eq (record_of path tag p q) ws (n * 6) room

  front : take ((n + 1) * 6) (sets ws (n * 6) (record_of path tag p q)) ≡ take (n * 6) ws ++ record_of path tag p q
  front = ap (take ((n + 1) * 6)) after ∙ take_at (take (n * 6) ws ++ record_of path tag p q) (drop (n * 6 + 6) ws) ((n + 1) * 6) (head ∙ ends)
    where
      ends : n * 6 + 6 ≡ (n + 1) * 6
      ends = omega arith

  behind : (k : ℕ) → drop (n * 6 + 6 + k) (sets ws (n * 6) (record_of path tag p q)) ≡ drop (n * 6 + 6 + k) ws
  behind k =
      sym (drop-drop k (n * 6 + 6) (sets ws (n * 6) (record_of path tag p q)))
      ∙ ap (drop k) (ap (drop (n * 6 + 6)) after ∙ drop_at (take (n * 6) ws ++ record_of path tag p q) (drop (n * 6 + 6) ws) (n * 6 + 6) head)
      ∙ drop-drop k (n * 6 + 6) ws

  one_more_lem : {ws' : List ℕ} {n' : ℕ} → Stands path tag es (sets ws (n * 6) (record_of path tag p q)) (n + 1) ws' n' → Stands path tag (line p q ∷ es) ws n ws' n'
  unfolding records_of
  one_more_lem {ws'} {n'} s =
      let r = records_of path tag s.more es in
      let e : n' * 6 ≡ n * 6 + 6 + s.more * 6 = omega (arith, s.count) in
      record {
        more = suc s.more;
        count = omega (arith, s.count);
        whole = omega (arith, s.whole);
        words =
            s.words
            ∙ ap (λ (x : List ℕ). x ++ r ++ drop (n' * 6) (sets ws (n * 6) (record_of path tag p q))) front
            ∙ ap (λ (x : List ℕ). take (n * 6) ws ++ record_of path tag p q ++ r ++ x) (rw e (behind (s.more * 6)))
            ∙ ap (λ (x : List ℕ). x ++ drop (n' * 6) ws) (append_assoc (take (n * 6) ws) (record_of path tag p q) r);
      }

-- ---- every drawing
abbrev Leaves : ℕ → ℕ → List Event → List ℕ → ℕ → Sheet → Type 0
Leaves path tag es ws n s = Stands path tag es ws n s.words (count_of s.drawn)

stop_leaves : (path tag : ℕ) (e : Event) (es : List Event) (ws : List ℕ) (d : Drawn) → is_stopped d ≡ true → Leaves path tag (e ∷ es) ws (count_of d) (draw_all path (sheet ws d) es)
stop_leaves path tag e es ws d h = subst (Leaves path tag (e ∷ es) ws (count_of d)) (absorbs path ws d es h) (none path tag (e ∷ es) ws (count_of d))

line_leaves : (path : ℕ) (p q : Vec2) (es : List Event) (ws : List ℕ) (pen : Pen) (s t u : Bool) → has_room ws pen.count ≡ u → ((ws : List ℕ) (d : Drawn) → Leaves path (pen_tag d) es ws (count_of d) (draw_all path (sheet ws d) es)) → Leaves path pen.tag (line p q ∷ es) ws pen.count (draw_all path (stored s t u path ws pen p q) es)
unfolding stored is_stopped pen_tag
line_leaves path p q es ws pen true t u h rest = stop_leaves path pen.tag (line p q) es ws (halt (NotNumber Start) pen.count) refl
line_leaves path p q es ws pen false true u h rest = stop_leaves path pen.tag (line p q) es ws (halt (NotNumber End) pen.count) refl
line_leaves path p q es ws pen false false false h rest = stop_leaves path pen.tag (line p q) es ws (halt NoRoom pen.count) refl
line_leaves path p q es ws pen false false true h rest = one_more_lem path pen.tag p q es ws pen.count (fits_in ws pen.count h) (rest (sets ws (pen.count * 6) (record_of path pen.tag p q)) (Ok (pen_behind pen p q)))

pub stands : (path : ℕ) (es : List Event) (ws : List ℕ) (d : Drawn) → Stands path (pen_tag d) es ws (count_of d) (draw_all path (sheet ws d) es).words (count_of (draw_all path (sheet ws d) es).drawn)
unfolding draw_all draw draw_on is_stopped pen_tag
stands path [] ws d = none path (pen_tag d) [] ws (count_of d)
stands path (line p q ∷ es) ws (Ok pen) = line_leaves path p q es ws pen (has_nan p) (has_nan q) (has_room ws pen.count) refl (stands path es)
stands path (no_count ∷ es) ws (Ok pen) = stop_leaves path pen.tag no_count es ws (halt NoCount pen.count) refl
stands path (no_join ∷ es) ws (Ok pen) = stop_leaves path pen.tag no_join es ws (halt NoJoin pen.count) refl
stands path (e ∷ es) ws (Err s) = stop_leaves path 0 e es ws (Err s) refl
