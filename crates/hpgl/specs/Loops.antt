-- Where the lines of a path are loops, one behind the other, each chain of its cut ends where it began. Assumes nothing.
use Prim.Native.Nat.{ℕ, zero, suc, ◌-◌}
use Rattle.std.specs.Prelude.{◌≡◌, refl, ◌⊎◌, Bool, ◌&&◌, T, ltb, eqb}
use Rattle.std.proofs.Math.Path.{sym, ap}
use Rattle.std.proofs.Common.{◌∙◌, subst, inl, inr, eqb→eq}
use Rattle.std.proofs.Math.Bool.{true, false}
use mathlib.Core.List.{List, [], ◌∷◌}
use Rattle.std.proofs.Math.Dec.{eqb_refl}
use Rattle.std.specs.Float.Ieee.Fits.{and_l, and_r, and_i}
use Rattle.records.specs.Record.{count, word, path_of}
use Rattle.hpgl.specs.Text.{pick}
use Rattle.hpgl.specs.Form.{Line, Chain, up, down, command, downs, chains_text, file_text, along, lines_of, end_of, AllClosed, Range}
use Rattle.hpgl.specs.Numbers.{on}
use Rattle.hpgl.specs.Rounding.{point_of}
use Rattle.hpgl.specs.Export.{Exported, exported, no_room, put, goes_on, put_line, export_from, export_of, rounded_from, rounded_lines}
use Rattle.hpgl.specs.RoundTrip.{is_written, put_says, line_of}
use Rattle.hpgl.specs.declared.Point.{Point}
use Rattle.std.specs.Prelude.{None, Some}

-- ---- loops among records

-- a line of the path goes on with the loop, or begins another one where the loop is closed
abbrev pub Turn : Bool → (ℕ → ℕ → ℕ → ℕ → Type 0) → ℕ → ℕ → ℕ → ℕ → ℕ → ℕ → ℕ → ℕ → Type 0
Turn false next u v z w a b x y = next a b x y
Turn true next u v z w a b x y = ((x ≡ u) × (y ≡ v) × next a b z w) ⊎ ((x ≡ a) × (y ≡ b) × next u v z w)

-- n records from record i on, behind a line that ended at the words x and y, in a loop that began at a and b
unfoldable pub Within : ℕ → List ℕ → ℕ → ℕ → ℕ → ℕ → ℕ → ℕ → Type 0
Within path ws zero i a b x y = (x ≡ a) × (y ≡ b)
Within path ws (suc n) i a b x y =
    Turn (eqb (path_of ws i) path) (Within path ws n (suc i)) (word ws i 2) (word ws i 3) (word ws i 4) (word ws i 5) a b x y

abbrev pub First : Bool → Type 0 → Type 0 → Type 0
First false other own = other
First true other own = own

-- n records from record i on, before the path's first line
unfoldable pub Loops : ℕ → List ℕ → ℕ → ℕ → Type 0
Loops path ws zero i = Unit {0}
Loops path ws (suc n) i =
    First (eqb (path_of ws i) path) (Loops path ws n (suc i)) (Within path ws n (suc i) (word ws i 2) (word ws i 3) (word ws i 4) (word ws i 5))

-- ---- what is written of them

-- behind a line that ended at x and y: PDs back to where the loop began, and closed chains
record Back (a b x y : ℕ) (bs : List ℕ) (ls : List Line) : Type 0 where
  points : List Point
  chains : List Chain
  bytes : bs ≡ downs points (chains_text chains)
  lines : ls ≡ along (point_of x y) points (lines_of chains)
  back : end_of (point_of x y) points ≡ point_of a b
  closed : AllClosed chains

record Shut (bs : List ℕ) (ls : List Line) : Type 0 where
  chains : List Chain
  bytes : bs ≡ chains_text chains
  lines : ls ≡ lines_of chains
  closed : AllClosed chains

same_point_lem : {x y u v : ℕ} → x ≡ u → y ≡ v → point_of x y ≡ point_of u v
same_point_lem {x} {y} {u} {v} e f = ap (λ (k : ℕ). point_of k y) e ∙ ap (point_of u) f

module _ (r : Range) (u v z w i : ℕ) (rest : ℕ → Exported) (tail : List Line) (next : ℕ → ℕ → ℕ → ℕ → Type 0)
    (holds : (a b : ℕ) → next a b z w → (m : ℕ) → T (is_written (rest m).verdict) → Back a b z w (rest m).bytes tail) where
  -- a chain that begins with this line
  opens : next u v z w → (room : ℕ) → T (is_written (put_line r false u v z w room i rest).verdict) → Shut (put_line r false u v z w room i rest).bytes (line_of u v z w ∷ tail)
  unfolding put_line chains_text lines_of downs along AllClosed end_of
  opens h room t =
      let behind : ℕ → Exported = λ m. put r down z w m i rest in
      let p = put_says r up u v room i behind t in
      let d = put_says r down z w p.room i rest p.follows in
      let k = holds u v h d.room d.follows in
      record {
        chains = record { start = point_of u v; first = point_of z w; more = k.points } ∷ k.chains;
        bytes = p.bytes ∙ ap (command up (point_of u v)) (d.bytes ∙ ap (command down (point_of z w)) k.bytes);
        lines = ap (λ (ls : List Line). line_of u v z w ∷ ls) k.lines;
        closed = (k.back, k.closed);
      }

  -- the line goes on from where the last one ended
  joins : (a b x y : ℕ) → x ≡ u → y ≡ v → next a b z w → (room : ℕ) → T (is_written (put r down z w room i rest).verdict) → Back a b x y (put r down z w room i rest).bytes (line_of u v z w ∷ tail)
  unfolding downs along end_of
  joins a b x y e f h room t =
      let d = put_says r down z w room i rest t in
      let k = holds a b h d.room d.follows in
      record {
        points = point_of z w ∷ k.points;
        chains = k.chains;
        bytes = d.bytes ∙ ap (command down (point_of z w)) k.bytes;
        lines =
            ap (λ (ls : List Line). line_of u v z w ∷ ls) k.lines
            ∙ ap (λ (q : Point). record { from = q; to = point_of z w } ∷ along (point_of z w) k.points (lines_of k.chains)) (sym (same_point_lem e f));
        back = k.back;
        closed = k.closed;
      }

  turns : (a b x y : ℕ) → Turn true next u v z w a b x y → (t : Bool) → (T t → (x ≡ u) × (y ≡ v)) → (x ≡ u → y ≡ v → T t) → (room : ℕ)
      → T (is_written (put_line r t u v z w room i rest).verdict) → Back a b x y (put_line r t u v z w room i rest).bytes (line_of u v z w ∷ tail)
  turns a b x y (inl h) true e g room t = unfold put_line in joins a b x y h.0 h.1 h.2 room t
  turns a b x y (inr h) true e g room t = unfold put_line in
      let k = joins u v x y (e tt).0 (e tt).1 h.2 room t in
      record { points = k.points; chains = k.chains; bytes = k.bytes; lines = k.lines; back = k.back ∙ sym (same_point_lem (e tt).0 (e tt).1) ∙ same_point_lem h.0 h.1; closed = k.closed }
  turns a b x y (inl h) false e g room t = absurd (g h.0 h.1)
  turns a b x y (inr h) false e g room t = unfold downs in unfold along in unfold end_of in
      let k = opens h.2 room t in
      record { points = []; chains = k.chains; bytes = k.bytes; lines = k.lines; back = same_point_lem h.0 h.1; closed = k.closed }

-- ---- record by record
module _ (r : Range) (path : ℕ) (ws : List ℕ) (n i : ℕ) where
  abbrev u : ℕ
  u = word ws i 2

  abbrev v : ℕ
  v = word ws i 3

  abbrev z : ℕ
  z = word ws i 4

  abbrev w : ℕ
  w = word ws i 5

  abbrev rest : ℕ → Exported
  rest m = export_from r path ws m (Some (z, w)) n (suc i)

  abbrev tail : List Line
  tail = rounded_from path ws n (suc i)

  abbrev Holds : ℕ → ℕ → ℕ → ℕ → Type 0
  Holds a b x y = Within path ws n (suc i) a b x y → (room : ℕ) → T (is_written (export_from r path ws room (Some (x, y)) n (suc i)).verdict) → Back a b x y (export_from r path ws room (Some (x, y)) n (suc i)).bytes tail

  module _ (holds : (a b x y : ℕ) → Holds a b x y) where
    one_more_lem : (a b x y room : ℕ) (own : Bool) → Turn own (Within path ws n (suc i)) u v z w a b x y
        → T (is_written (pick own (put_line r (eqb x u && eqb y v) u v z w room i rest) (export_from r path ws room (Some (x, y)) n (suc i))).verdict)
        → Back a b x y (pick own (put_line r (eqb x u && eqb y v) u v z w room i rest) (export_from r path ws room (Some (x, y)) n (suc i))).bytes (pick own (line_of u v z w ∷ tail) tail)
    one_more_lem a b x y room false h t = holds a b x y h room t
    one_more_lem a b x y room true h t =
        turns r u v z w i rest tail (Within path ws n (suc i)) (λ a b k m. holds a b z w k m) a b x y h (eqb x u && eqb y v)
        (λ e. (eqb→eq x u (and_l (eqb x u) (eqb y v) e), eqb→eq y v (and_r (eqb x u) (eqb y v) e)))
        (λ e f. and_i (eqb x u) (eqb y v) (subst (λ (k : ℕ). T (eqb x k)) e (eqb_refl x)) (subst (λ (k : ℕ). T (eqb y k)) f (eqb_refl y))) room t

    first_line : (room : ℕ) (own : Bool) → First own (Loops path ws n (suc i)) (Within path ws n (suc i) u v z w)
        → ((room : ℕ) → Loops path ws n (suc i) → T (is_written (export_from r path ws room None n (suc i)).verdict) → Shut (export_from r path ws room None n (suc i)).bytes tail)
        → T (is_written (pick own (put_line r false u v z w room i rest) (export_from r path ws room None n (suc i))).verdict)
        → Shut (pick own (put_line r false u v z w room i rest) (export_from r path ws room None n (suc i))).bytes (pick own (line_of u v z w ∷ tail) tail)
    first_line room false h before t = before room h t
    first_line room true h before t = opens r u v z w i rest tail (Within path ws n (suc i)) (λ a b k m. holds a b z w k m) h room t

within_closed : (r : Range) (path : ℕ) (ws : List ℕ) (n i a b x y : ℕ) → Within path ws n i a b x y → (room : ℕ) → T (is_written (export_from r path ws room (Some (x, y)) n i).verdict) → Back a b x y (export_from r path ws room (Some (x, y)) n i).bytes (rounded_from path ws n i)
unfolding export_from rounded_from Within goes_on downs chains_text along lines_of end_of AllClosed
within_closed r path ws zero i a b x y h room t = record { points = []; chains = []; bytes = refl; lines = refl; back = same_point_lem h.0 h.1; closed = tt }
within_closed r path ws (suc n) i a b x y h room t = one_more_lem r path ws n i (within_closed r path ws n (suc i)) a b x y room (eqb (path_of ws i) path) h t

loops_closed : (r : Range) (path : ℕ) (ws : List ℕ) (n i room : ℕ) → Loops path ws n i → T (is_written (export_from r path ws room None n i).verdict) → Shut (export_from r path ws room None n i).bytes (rounded_from path ws n i)
unfolding export_from rounded_from Loops goes_on chains_text lines_of AllClosed
loops_closed r path ws zero i room h t = record { chains = []; bytes = refl; lines = refl; closed = tt }
loops_closed r path ws (suc n) i room h t = first_line r path ws n i (within_closed r path ws n (suc i)) room (eqb (path_of ws i) path) h (loops_closed r path ws n (suc i)) t

-- ---- the whole file
pub export_closed : (r : Range) (path room : ℕ) (ws : List ℕ) → Loops path ws (count ws) 0 → T (is_written (export_of r path room ws).verdict) → (cs : List Chain) × ((export_of r path room ws).bytes ≡ file_text cs) × (rounded_lines path ws ≡ lines_of cs) × AllClosed cs
unfolding export_of file_text rounded_lines
export_closed r path room ws l =
    let body = export_from r path ws (room - 3) None (count ws) 0 in
    let P : Exported → Type 0 = λ e. T (is_written e.verdict) → (cs : List Chain) × (e.bytes ≡ 73 ∷ 78 ∷ 59 ∷ chains_text cs) × (rounded_lines path ws ≡ lines_of cs) × AllClosed cs in
    on P (ltb room 3) (exported [] (no_room 0)) (exported (73 ∷ 78 ∷ 59 ∷ body.bytes) body.verdict) (λ h w. absurd w)
    (λ h w. let c : Shut body.bytes (rounded_lines path ws) = loops_closed r path ws (count ws) 0 (room - 3) l w in
    (c.chains, ap (λ (t : List ℕ). 73 ∷ 78 ∷ 59 ∷ t) c.bytes, c.lines, c.closed))
