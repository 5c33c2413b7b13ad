-- A longer table: a list that the export accepted for the shorter one comes out byte for byte the same, and both readers give its lines. Assumes nothing.
use Rattle.std.specs.Prelude.{◌≡◌, Bool, ◌&&◌, ℤ, pos, negsuc, leb, ltb, eqb, Float}
use Rattle.std.proofs.Math.Path.{refl, ap}
use Rattle.std.proofs.Common.{sym, ◌∙◌, subst, le_trans, leb→le}
use Rattle.std.proofs.Math.Bool.{true, false}
use mathlib.Core.List.{List, [], ◌∷◌}
use Prim.Native.Nat.{ℕ, zero, suc, ◌-◌, ◌≤◌}
use Rattle.std.proofs.Math.Dec.{T, le→leb}
use Rattle.std.proofs.Math.ListN.{length}
use Rattle.std.specs.Float.Ieee.{nan, binary32, of_bits}
use Rattle.std.specs.Float.{inf, fin}
use Rattle.std.specs.Float.Ieee.Fits.{and_l, and_r}
use Rattle.records.specs.Record.{count, word, path_of}
use Rattle.hpgl.specs.Text.{pick}
use Rattle.hpgl.specs.Form.{Pen, up, down, command, Range, most, range_of}
use Rattle.hpgl.specs.Ranges.{most_new}
use Rattle.hpgl.specs.Reading.{complete, answer, read_of}
use Rattle.hpgl.specs.Numbers.{on}
use Rattle.hpgl.specs.Rounding.{is_within, is_good, rounded_of, point_of}
use Rattle.hpgl.specs.Export.{Last, refused, no_room, Exported, exported, put, goes_on, put_line, export_from, export_of, rounded_lines}
use Rattle.hpgl.specs.RoundTrip.{is_written, round_trip}
use Rattle.hpgl.specs.declared.Table.{Table}
use Rattle.hpgl.specs.declared.Table.TheVariants.{Old, New}
use Rattle.std.specs.Prelude.{None, Some}

picks : {A : Type 0} (t : Bool) (a b : A) → T t → pick t a b ≡ a
picks true a b h = refl
picks false a b h = absurd h

both : (a b : Bool) → T a → T b → T (a && b)
both true b g h = h
both false b g h = absurd g

pick_same : (b : Bool) (x y x' y' : Exported) → (T (is_written x.verdict) → x' ≡ x) → (T (is_written y.verdict) → y' ≡ y) → T (is_written (pick b x y).verdict) → pick b x' y' ≡ pick b x y
pick_same true x y x' y' f g t = f t
pick_same false x y x' y' f g t = g t

module _ (r w : Range) (wide : (s : Bool) → most r s ≤ most w s) where
  within_wider : (z : ℤ) → T (is_within r z) → T (is_within w z)
  unfolding is_within
  within_wider (pos n) h = le→leb n w.above (le_trans (leb→le n r.above h) (wide false))
  within_wider (negsuc n) h = le→leb (suc n) w.below (le_trans (leb→le (suc n) r.below h) (wide true))

  good_wider : (x : Float) → T (is_good r x) → T (is_good w x)
  unfolding is_good
  good_wider nan h = h
  good_wider (inf s) h = h
  good_wider (fin s m e) h = within_wider (rounded_of (fin s m e)) h

  put_same : (k : Pen) (x y room i : ℕ) (rest more : ℕ → Exported) → ((m : ℕ) → T (is_written (rest m).verdict) → more m ≡ rest m) → T (is_written (put r k x y room i rest).verdict) → put w k x y room i more ≡ put r k x y room i rest
  unfolding put
  put_same k x y room i rest more same =
      let bs = command k (point_of x y) in
      let n = length (bs []) in
      let a = is_good r (of_bits binary32 x) in
      let b = is_good r (of_bits binary32 y) in
      let lost = exported [] (refused i) in
      let tight = exported [] (no_room i) in
      let c = exported (bs (rest (room - n)).bytes) (rest (room - n)).verdict in
      let d = exported (bs (more (room - n)).bytes) (more (room - n)).verdict in
      let good = is_good w (of_bits binary32 x) && is_good w (of_bits binary32 y) in
      let all = pick good (pick (leb n room) d tight) lost in
      let P : Exported → Type 0 = λ e. T (is_written e.verdict) → all ≡ e in
      on P (a && b) (pick (leb n room) c tight) lost
      (λ g. on P (leb n room) c tight
      (λ l t. picks good (pick (leb n room) d tight) lost (both (is_good w (of_bits binary32 x)) (is_good w (of_bits binary32 y)) (good_wider (of_bits binary32 x) (and_l a b g)) (good_wider (of_bits binary32 y) (and_r a b g)))
      ∙ picks (leb n room) d tight l
      ∙ ap (λ (e : Exported). exported (bs e.bytes) e.verdict) (same (room - n) t))
      (λ l t. absurd t))
      (λ g t. absurd t)

  line_same : (b : Bool) (x y z v room i : ℕ) (rest more : ℕ → Exported) → ((m : ℕ) → T (is_written (rest m).verdict) → more m ≡ rest m) → T (is_written (put_line r b x y z v room i rest).verdict) → put_line w b x y z v room i more ≡ put_line r b x y z v room i rest
  unfolding put_line
  line_same true x y z v room i rest more same t = put_same down z v room i rest more same t
  line_same false x y z v room i rest more same t =
      put_same up x y room i (λ m. put r down z v m i rest) (λ m. put w down z v m i more) (λ m. put_same down z v m i rest more same) t

  from_same : (path : ℕ) (ws : List ℕ) (n room : ℕ) (last : Last) (i : ℕ) → T (is_written (export_from r path ws room last n i).verdict) → export_from w path ws room last n i ≡ export_from r path ws room last n i
  unfolding export_from
  from_same path ws zero room last i t = refl
  from_same path ws (suc n) room last i t =
      let x = word ws i 2 in
      let y = word ws i 3 in
      let z = word ws i 4 in
      let v = word ws i 5 in
      let b = goes_on last x y in
      let rest : ℕ → Exported = λ m. export_from r path ws m (Some (z, v)) n (suc i) in
      let more : ℕ → Exported = λ m. export_from w path ws m (Some (z, v)) n (suc i) in
      pick_same (eqb (path_of ws i) path) (put_line r b x y z v room i rest) (export_from r path ws room last n (suc i)) (put_line w b x y z v room i more) (export_from w path ws room last n (suc i))
      (line_same b x y z v room i rest more (λ m. from_same path ws n m (Some (z, v)) (suc i)))
      (from_same path ws n room last (suc i)) t

  pub export_same : (path room : ℕ) (ws : List ℕ) → T (is_written (export_of r path room ws).verdict) → export_of w path room ws ≡ export_of r path room ws
  unfolding export_of
  export_same path room ws t =
      let f : Range → Exported = λ k. export_from k path ws (room - 3) None (count ws) 0 in
      let full : Exported → Exported = λ e. exported (73 ∷ 78 ∷ 59 ∷ e.bytes) e.verdict in
      pick_same (ltb room 3) (exported [] (no_room 0)) (full (f r)) (exported [] (no_room 0)) (full (f w)) (λ h. refl)
      (λ h. ap full (from_same path ws (count ws) (room - 3) None 0 h)) t

-- what the export accepted with the old limit comes out byte for byte the same
pub old_same : (path room : ℕ) (ws : List ℕ) → T (is_written (export_of (range_of Old) path room ws).verdict) → export_of (range_of New) path room ws ≡ export_of (range_of Old) path room ws
old_same = export_same (range_of Old) (range_of New) (most_new Old)

-- and the reader set to either table takes that file, and gives the same lines
pub either_reads : (table : Table) (path room : ℕ) (ws : List ℕ) → T (is_written (export_of (range_of Old) path room ws).verdict) → (lines : ℕ) → length (rounded_lines path ws) ≤ lines → read_of (range_of table) lines (export_of (range_of New) path room ws).bytes ≡ answer (rounded_lines path ws) complete
either_reads Old path room ws t lines h =
    ap (λ (e : Exported). read_of (range_of Old) lines e.bytes) (old_same path room ws t) ∙ round_trip (range_of Old) path room ws t lines h
either_reads New path room ws t lines h =
    round_trip (range_of New) path room ws (subst (λ (e : Exported). T (is_written e.verdict)) (sym (old_same path room ws t)) t) lines h
