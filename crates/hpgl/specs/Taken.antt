-- What the export accepted of a path are numbers that, rounded, are in range: none of them is a NaN or an infinity, which `rounded_of` would take for 0. Assumes nothing.
use Rattle.std.specs.Prelude.{Bool, true, false, ◌&&◌, leb, ltb, eqb, length}
use Rattle.std.proofs.Common.{sym, arith, eqb→eq}
use Rattle.std.proofs.Math.Path.{subst}
use mathlib.Core.List.{List, [], ◌∷◌}
use Prim.Native.Nat.{ℕ, zero, suc, ◌+◌, ◌-◌, ◌≤◌, ◌<◌}
use Rattle.std.proofs.Math.Decide.{ℕ_discrete}
use Rattle.std.proofs.Math.Dec.{T}
use Rattle.std.specs.Float.{binary32}
use Rattle.std.specs.Float.Ieee.{of_bits}
use Rattle.std.specs.Float.Ieee.Fits.{and_l, and_r}
use Rattle.records.specs.Record.{count, word, path_of}
use Rattle.hpgl.specs.Text.{pick}
use Rattle.hpgl.specs.Form.{Pen, up, down, command, Range}
use Rattle.hpgl.specs.Numbers.{on}
use Rattle.hpgl.specs.Rounding.{is_good, Taken, point_of}
use Rattle.hpgl.specs.Export.{Last, refused, no_room, Exported, exported, put, goes_on, put_line, export_from, export_of}
use Rattle.hpgl.specs.RoundTrip.{is_written}
use Rattle.std.specs.Prelude.{None, Some}

-- ---- one line

put_taken : (r : Range) (k : Pen) (x y room i : ℕ) (rest : ℕ → Exported) → T (is_written (put r k x y room i rest).verdict) → (m : ℕ) × T (is_written (rest m).verdict) × Taken r x y
unfolding put
put_taken r k x y room i rest =
    let n = length (command k (point_of x y) []) in
    let P : Exported → Type 0 = λ e. T (is_written e.verdict) → (m : ℕ) × T (is_written (rest m).verdict) × Taken r x y in
    let c = exported (command k (point_of x y) (rest (room - n)).bytes) (rest (room - n)).verdict in
    on P (is_good r (of_bits binary32 x) && is_good r (of_bits binary32 y)) (pick (leb n room) c (exported [] (no_room i))) (exported [] (refused i))
    (λ g. on P (leb n room) c (exported [] (no_room i)) (λ l w. (room - n, w, g)) (λ l w. absurd w))
    (λ g w. absurd w)

line_taken : (r : Range) (joined : Bool) (x y z w room i : ℕ) (rest : ℕ → Exported) → (T joined → Taken r x y) → T (is_written (put_line r joined x y z w room i rest).verdict)
    → (m : ℕ) × T (is_written (rest m).verdict) × Taken r x y × Taken r z w
unfolding put_line
line_taken r true x y z w room i rest h t = let d = put_taken r down z w room i rest t in (d.0, d.1, h tt, d.2)
line_taken r false x y z w room i rest h t =
    let u = put_taken r up x y room i (λ m. put r down z w m i rest) t in
    let d = put_taken r down z w u.0 i rest u.1 in
    (d.0, d.1, u.2, d.2)

-- ---- record by record

abbrev LastTaken : Range → Last → Type 0
LastTaken r None = Unit {0}
LastTaken r (Some (x, y)) = Taken r x y

goes_on_taken : (r : Range) (last : Last) (x y : ℕ) → LastTaken r last → T (goes_on last x y) → Taken r x y
unfolding goes_on
goes_on_taken r None x y h t = absurd t
goes_on_taken r (Some (a, b)) x y h t =
    subst (λ (k : ℕ). Taken r x k) (eqb→eq b y (and_r (eqb a x) (eqb b y) t)) (subst (λ (k : ℕ). Taken r k b) (eqb→eq a x (and_l (eqb a x) (eqb b y) t)) h)

module _ (r : Range) (path : ℕ) (ws : List ℕ) where
  -- both ends of record i
  abbrev Both : ℕ → Type 0
  Both i = Taken r (word ws i 2) (word ws i 3) × Taken r (word ws i 4) (word ws i 5)

  -- behind record i
  record Behind (own : Bool) (n i : ℕ) : Type 0 where
    here : T own → Both i
    room : ℕ
    last : Last
    taken : LastTaken r last
    follows : T (is_written (export_from r path ws room last n (suc i)).verdict)

  abbrev rest : ℕ → ℕ → ℕ → Exported
  rest n i m = export_from r path ws m (Some (word ws i 4, word ws i 5)) n (suc i)

  behind : (own : Bool) (n i room : ℕ) (last : Last) → LastTaken r last
      → T (is_written (pick own (put_line r (goes_on last (word ws i 2) (word ws i 3)) (word ws i 2) (word ws i 3) (word ws i 4) (word ws i 5) room i (rest n i)) (export_from r path ws room last n (suc i))).verdict)
      → Behind own n i
  behind false n i room last h t = record { here = λ e. absurd e; room = room; last = last; taken = h; follows = t }
  behind true n i room last h t =
      let k = line_taken r (goes_on last (word ws i 2) (word ws i 3)) (word ws i 2) (word ws i 3) (word ws i 4) (word ws i 5) room i (rest n i) (goes_on_taken r last (word ws i 2) (word ws i 3) h) t in
      record { here = λ e. (k.2, k.3); room = k.0; last = Some (word ws i 4, word ws i 5); taken = k.3; follows = k.1 }

  from_taken : (n i room : ℕ) (last : Last) → LastTaken r last → T (is_written (export_from r path ws room last n i).verdict) → (j : ℕ) → i ≤ j → j < i + n → T (eqb (path_of ws j) path) → Both j
  unfolding export_from
  from_taken zero i room last h t j a b own = absurd (omega arith)
  from_taken (suc n) i room last h t j a b own =
      let k = behind (eqb (path_of ws i) path) n i room last h t in
      elim (ℕ_discrete i j) [
        | yes e ↦ subst Both e (k.here (subst (λ (m : ℕ). T (eqb (path_of ws m) path)) (sym e) own))
        | no ne ↦ from_taken n (suc i) k.room k.last k.taken k.follows j (omega (arith, ne)) (omega arith) own
      ]

  -- where the export accepts, both ends of each record of the path are numbers that, rounded, are in range
  pub all_taken : (room : ℕ) → T (is_written (export_of r path room ws).verdict) → (j : ℕ) → j < count ws → T (eqb (path_of ws j) path) → Both j
  unfolding export_of
  all_taken room t j l own =
      let body = export_from r path ws (room - 3) None (count ws) 0 in
      let P : Exported → Type 0 = λ e. T (is_written e.verdict) → T (is_written body.verdict) in
      let w = on P (ltb room 3) (exported [] (no_room 0)) (exported (73 ∷ 78 ∷ 59 ∷ body.bytes) body.verdict) (λ h w. absurd w) (λ h w. w) t in
      from_taken (count ws) 0 (room - 3) None tt w j (omega arith) (omega (arith, l)) own
