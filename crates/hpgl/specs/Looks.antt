-- What a look promises of the export behind it: where it finds room for the whole file, the export writes exactly that file, and the table's reader takes it. Assumes nothing.
use Rattle.std.specs.Prelude.{◌≡◌, Bool, ◌&&◌, T, leb, ltb, eqb, drop}
use Rattle.std.proofs.Math.Path.{sym, ap}
use Rattle.std.proofs.Common.{◌∙◌}
use Rattle.std.proofs.Math.Bool.{true, false}
use mathlib.Core.List.{List, [], ◌∷◌, ◌++◌}
use Prim.Native.Nat.{ℕ, zero, suc, ◌+◌, ◌-◌, ◌≤◌}
use Rattle.std.proofs.Math.Nat.{zero-add}
use native.Mathlib.Omega.{arith}
use Rattle.std.proofs.Math.Dec.{leb→le, nltb→le}
use Rattle.std.proofs.Math.ListN.{length, length-append}
use Rattle.std.proofs.Math.Seq.{sets-eq}
use Rattle.std.specs.Float.Ieee.{binary32, of_bits}
use Rattle.records.specs.Record.{count, word, path_of}
use Rattle.hpgl.specs.Text.{pick}
use Rattle.hpgl.specs.Form.{Pen, up, down, command, Range, range_of}
use Rattle.hpgl.specs.Ranges.{most_new}
use Rattle.hpgl.specs.Reading.{complete, answer, read_of}
use Rattle.hpgl.specs.Numbers.{on}
use Rattle.hpgl.specs.Rounding.{is_good, point_of}
use Rattle.hpgl.specs.Export.{Last, Verdict, written, refused, no_room, Exported, exported, put, goes_on, put_line, export_from, export_of, rounded_lines, outcome, answer_of, finish, cut_of, look_of}
use Rattle.hpgl.specs.ExportLaws.{command_more}
use Rattle.hpgl.specs.RoundTrip.{is_written, round_trip}
use Rattle.hpgl.specs.Tables.{export_same}
use Rattle.hpgl.specs.declared.Table.{Table}
use Rattle.hpgl.specs.declared.Table.TheVariants.{New}
use Rattle.std.specs.Prelude.{None, Some, Ok}

-- ---- what stands has room
module _ (g : Range) where
  put_room : (p : Pen) (x y room i : ℕ) (rest : ℕ → Exported) → ((m : ℕ) → length (rest m).bytes ≤ m) → length (put g p x y room i rest).bytes ≤ room
  unfolding put
  put_room p x y room i rest fit =
      let c = command p (point_of x y) in
      let n = length (c []) in
      let P : Exported → Type 0 = λ e. length e.bytes ≤ room in
      let all = exported (c (rest (room - n)).bytes) (rest (room - n)).verdict in
      on P (is_good g (of_bits binary32 x) && is_good g (of_bits binary32 y)) (pick (leb n room) all (exported [] (no_room i))) (exported [] (refused i))
      (λ b. on P (leb n room) all (exported [] (no_room i))
      (λ l. omega (arith, ap length (command_more p (point_of x y) (rest (room - n)).bytes), length-append (c []) (rest (room - n)).bytes, fit (room - n), leb→le n room l))
      (λ l. omega arith))
      (λ b. omega arith)

  line_room : (b : Bool) (x y z w room i : ℕ) (rest : ℕ → Exported) → ((m : ℕ) → length (rest m).bytes ≤ m) → length (put_line g b x y z w room i rest).bytes ≤ room
  unfolding put_line
  line_room true x y z w room i rest fit = put_room down z w room i rest fit
  line_room false x y z w room i rest fit = put_room up x y room i (λ m. put g down z w m i rest) (λ m. put_room down z w m i rest fit)

  from_room : (path : ℕ) (ws : List ℕ) (n room : ℕ) (last : Last) (i : ℕ) → length (export_from g path ws room last n i).bytes ≤ room
  unfolding export_from
  from_room path ws zero room last i = omega arith
  from_room path ws (suc n) room last i =
      let x = word ws i 2 in
      let y = word ws i 3 in
      let z = word ws i 4 in
      let w = word ws i 5 in
      let rest : ℕ → Exported = λ m. export_from g path ws m (Some (z, w)) n (suc i) in
      on (λ e. length e.bytes ≤ room) (eqb (path_of ws i) path) (put_line g (goes_on last x y) x y z w room i rest) (export_from g path ws room last n (suc i))
      (λ t. line_room (goes_on last x y) x y z w room i rest (λ m. from_room path ws n m (Some (z, w)) (suc i)))
      (λ t. from_room path ws n room last (suc i))

  pub stands_in_room : (path room : ℕ) (ws : List ℕ) → length (export_of g path room ws).bytes ≤ room
  unfolding export_of
  stands_in_room path room ws =
      let e = export_from g path ws (room - 3) None (count ws) 0 in
      on (λ e. length e.bytes ≤ room) (ltb room 3) (exported [] (no_room 0)) (exported (73 ∷ 78 ∷ 59 ∷ e.bytes) e.verdict)
      (λ t. omega arith) (λ t. omega (arith, from_room path ws (count ws) (room - 3) None 0, nltb→le room 3 t))

-- ---- a look that finds room for the whole file
whole_written : (v : Verdict) (m n : ℕ) → answer_of v m ≡ Ok n → T (is_written v) × (n ≡ m)
unfolding answer_of
whole_written written m n e = (tt, cc)
whole_written (refused i) m n e = absurd (let z : ◌≡◌ {A = ℕ} 0 1 = cc in let b : ⊥ = omega arith in b)
whole_written (no_room i) m n e = absurd (let z : ◌≡◌ {A = ℕ} 0 1 = cc in let b : ⊥ = omega arith in b)

module _ (table : Table) (path : ℕ) (ws : List ℕ) (n : ℕ) where
  -- the whole file is written, of that length
  module _ (room : ℕ) (h : look_of table path room ws ≡ Ok n) where
    pub look_written : T (is_written (export_of (range_of table) path room ws).verdict)
    unfolding look_of
    look_written = let e = export_of (range_of table) path room ws in (whole_written e.verdict (0 + length e.bytes) n h).0

    pub look_length : n ≡ length (export_of (range_of table) path room ws).bytes
    unfolding look_of
    look_length = let e = export_of (range_of table) path room ws in (whole_written e.verdict (0 + length e.bytes) n h).1 ∙ zero-add (length e.bytes)

    -- the table's reader gives the rounded lines of the path
    pub look_reads : (lines : ℕ) → length (rounded_lines path ws) ≤ lines → read_of (range_of table) lines (export_of (range_of table) path room ws).bytes ≡ answer (rounded_lines path ws) complete
    look_reads = round_trip (range_of table) path room ws look_written

  -- the export accepts, and writes that file before the bytes that it leaves
  pub look_cuts : (bs : List ℕ) → look_of table path (length bs) ws ≡ Ok n → cut_of path ws bs ≡ outcome (Ok n) ((export_of (range_of table) path (length bs) ws).bytes ++ drop n bs)
  unfolding cut_of finish look_of
  look_cuts bs h =
      let e = export_of (range_of table) path (length bs) ws in
      let to : 0 + length e.bytes ≡ n = zero-add (length e.bytes) ∙ sym (look_length (length bs) h) in
      let fits : 0 + length e.bytes ≤ length bs = omega (arith, stands_in_room (range_of table) path (length bs) ws) in
      ap (finish 0 bs) (export_same (range_of table) (range_of New) (most_new table) path (length bs) ws (look_written (length bs) h))
      ∙ rw (h, sets-eq e.bytes bs 0 fits, to)
