-- No second number satisfies the contract of a function of the C interface, nor second contents of the lists that it may write. Assumes nothing.
use Rattle.std.specs.Prelude.{Result, ℕ, ◌≡◌, List, length, ℤ, Float}
use Rattle.std.proofs.Common.{◌∙◌, sym, ap}
use Rattle.laws.specs.Only.{Only, determined}
use Rattle.maths.specs.Numbers.{half_of}
use Rattle.maths.specs.Roots.{sqrt_of, hypot_of, cbrt_of, two_thirds_of}
use Rattle.maths.specs.Trig.{sin_of, cos_of, atan2_of, asin_of, acos_of}
use Rattle.scene.specs.Tags.{scan_of}
use Rattle.flatten.specs.declared.boxes.PathBox.{PathBox}
use Rattle.flatten.specs.declared.call.Layout.{Layout}
use Rattle.flatten.specs.Call.{call_of}
use Rattle.pattern.specs.Commands.{Command, move, draw, end, line, quad, cubic}
use Rattle.hpgl.specs.Export.{cut_of}
use Rattle.hpgl.specs.Reading.{reading_of}
use Rattle.exports.specs.Call.{reported, reported_of}
use Rattle.exports.specs.Scan.{scanned, scanned_of}
use Rattle.cut.specs.Stages.{Gone}
use Rattle.exports.specs.Whole.{whole, whole_of}
use Rattle.exports.specs.Cut.{table_of, written, written_of, lines_read, lines_read_of}
use Rattle.checker.specs.Verdict.{told_of}
use Rattle.checker.specs.Only.{check_only}
use Rattle.mender.specs.Report.{Outcome, Lent as MendLent, told_of as mendTold}
use Rattle.mender.specs.Only.{mend_only}
use Rattle.checker.specs.declared.CheckError.{CheckError}
use Rattle.checker.specs.declared.Verdict.{Verdict}
use Rattle.exports.specs.Mend.{MendedBy}
use Rattle.exports.specs.Check.{two_of, Checked}
use Rattle.sheets.specs.Moving.{to_f32, to_i16}
use Rattle.sheets.specs.Written.{stored}
use Rattle.exports.specs.Convert.{moved, moved_of}
use Rattle.profile.specs.Reads.{Given}
use Rattle.profile.specs.Verdict.{profile_of}
use Rattle.exports.specs.Profile.{profiled, profiled_of}
use Rattle.exports.specs.Pen.{spot_of, penned, penned_by}
use Rattle.exports.specs.Import.{imported, imported_by}

pub hinth_flatten_only : (layout : Layout) (scene prefixes : List ℕ) (ps : List PathBox) (ws os : List ℕ)
    → Only (λ (r : ℕ × (List PathBox × (List ℕ × List ℕ))). reported r.0 r.1.0 r.1.1.0 r.1.1.1 ≡ reported_of (call_of layout scene prefixes ps ws) os)
hinth_flatten_only layout scene prefixes ps ws os r s p q = let e = p ∙ sym q in λ i. ((e i).number, ((e i).boxes, ((e i).lines, (e i).out)))

pub hinth_scan_only : (scene : List ℕ) (base : ℕ) (lent os : List ℕ)
    → Only (λ (r : ℕ × (List ℕ × List ℕ)). scanned r.0 r.1.0 r.1.1 ≡ scanned_of (scan_of scene base lent) os)
hinth_scan_only scene base lent os r s p q = let e = p ∙ sym q in λ i. ((e i).number, ((e i).prefixes, (e i).out))

pub hinth_sqrt_only : (x : Float) → Only (λ (r : Float). r ≡ sqrt_of x)
hinth_sqrt_only x = determined (sqrt_of x)

pub hinth_cbrt_only : (x : Float) → Only (λ (r : Float). r ≡ cbrt_of x)
hinth_cbrt_only x = determined (cbrt_of x)

pub hinth_two_thirds_only : (x : Float) → Only (λ (r : Float). r ≡ two_thirds_of x)
hinth_two_thirds_only x = determined (two_thirds_of x)

pub hinth_sin_only : (x : Float) → Only (λ (r : Float). r ≡ sin_of x)
hinth_sin_only x = determined (sin_of x)

pub hinth_cos_only : (x : Float) → Only (λ (r : Float). r ≡ cos_of x)
hinth_cos_only x = determined (cos_of x)

pub hinth_asin_only : (x : Float) → Only (λ (r : Float). r ≡ asin_of x)
hinth_asin_only x = determined (asin_of x)

pub hinth_acos_only : (x : Float) → Only (λ (r : Float). r ≡ acos_of x)
hinth_acos_only x = determined (acos_of x)

pub hinth_hypot_only : (x y : Float) → Only (λ (r : Float). r ≡ hypot_of x y)
hinth_hypot_only x y = determined (hypot_of x y)

pub hinth_atan2_only : (y x : Float) → Only (λ (r : Float). r ≡ atan2_of y x)
hinth_atan2_only y x = determined (atan2_of y x)

pub hinth_half_only : (word : ℕ) → Only (λ (r : Float). r ≡ half_of word)
hinth_half_only word = determined (half_of word)

pub hinth_check_only : (list os : List ℕ) → Only (λ (r : ℕ × List ℕ). Checked list os r.0 r.1)
hinth_check_only list os r s p q =
    let v = check_only list p.verdict q.verdict p.answers q.answers in
    let number = p.returned ∙ ap (λ (v : Result Verdict CheckError). (told_of v).number) v ∙ sym q.returned in
    let out = p.written ∙ ap (λ (v : Result Verdict CheckError). two_of (told_of v).verdict (told_of v).«record» os) v ∙ sym q.written in
    λ i. (number i, out i)

pub hinth_to_f32_only : (tags points ts ws os : List ℕ)
    → Only (λ (r : ℕ × (List ℕ × (List ℕ × List ℕ))). moved r.0 r.1.0 r.1.1.0 r.1.1.1 ≡ moved_of (stored (to_f32 tags points (length ts) (length ws)) ts ws) os)
hinth_to_f32_only tags points ts ws os r s p q = let e = p ∙ sym q in λ i. ((e i).number, ((e i).tags, ((e i).points, (e i).out)))

pub hinth_to_i16_only : (tags points ts ws os : List ℕ)
    → Only (λ (r : ℕ × (List ℕ × (List ℕ × List ℕ))). moved r.0 r.1.0 r.1.1.0 r.1.1.1 ≡ moved_of (stored (to_i16 tags points (length ts) (length ws)) ts ws) os)
hinth_to_i16_only tags points ts ws os r s p q = let e = p ∙ sym q in λ i. ((e i).number, ((e i).tags, ((e i).points, (e i).out)))

pub hinth_profile_only : (g : Given) (os : List ℕ) → Only (λ (r : ℕ × List ℕ). profiled r.0 r.1 ≡ profiled_of (profile_of g) os)
hinth_profile_only g os r s p q = let e = p ∙ sym q in λ i. ((e i).number, (e i).out)

-- a command of the pen, with the four that it may write
abbrev pub Lent : Type 0
Lent = ℕ × (List ℕ × (List ℕ × List ℕ))

command_only : (ws : List ℕ) (command : Command) (tags points : List ℕ) → Only (λ (r : Lent). penned r.0 r.1.0 r.1.1.0 r.1.1.1 ≡ penned_by ws command tags points)
command_only ws command tags points r s p q = let e = p ∙ sym q in λ i. ((e i).number, ((e i).pen, ((e i).tags, (e i).points)))

module _ (ws tags points : List ℕ) where
  abbrev pub Pens : Command → Lent → Type 0
  Pens command r = penned r.0 r.1.0 r.1.1.0 r.1.1.1 ≡ penned_by ws command tags points

  pub hinth_move_only : (x y : Float) → Only (Pens (move (spot_of x y)))
  hinth_move_only x y = command_only ws (move (spot_of x y)) tags points

  pub hinth_line_only : (x y : Float) → Only (Pens (draw (line (spot_of x y))))
  hinth_line_only x y = command_only ws (draw (line (spot_of x y))) tags points

  pub hinth_quad_only : (x1 y1 x y : Float) → Only (Pens (draw (quad (spot_of x1 y1) (spot_of x y))))
  hinth_quad_only x1 y1 x y = command_only ws (draw (quad (spot_of x1 y1) (spot_of x y))) tags points

  pub hinth_cubic_only : (x1 y1 x2 y2 x y : Float) → Only (Pens (draw (cubic (spot_of x1 y1) (spot_of x2 y2) (spot_of x y))))
  hinth_cubic_only x1 y1 x2 y2 x y = command_only ws (draw (cubic (spot_of x1 y1) (spot_of x2 y2) (spot_of x y))) tags points

  pub hinth_end_only : Only (Pens end)
  hinth_end_only = command_only ws end tags points

pub hinth_import_only : (ws bs tags points os : List ℕ)
    → Only (λ (r : ℕ × (List ℕ × (List ℕ × (List ℕ × List ℕ)))). imported r.0 r.1.0 r.1.1.0 r.1.1.1.0 r.1.1.1.1 ≡ imported_by ws bs tags points os)
hinth_import_only ws bs tags points os r s p q = let e = p ∙ sym q in λ i. ((e i).number, ((e i).pen, ((e i).tags, ((e i).points, (e i).out))))

pub hinth_cut_only : (path : ℕ) (ws bs os : List ℕ)
    → Only (λ (r : ℕ × (List ℕ × List ℕ)). written r.0 r.1.0 r.1.1 ≡ written_of (cut_of path ws bs) os)
hinth_cut_only path ws bs os r s p q = let e = p ∙ sym q in λ i. ((e i).number, ((e i).bytes, (e i).out))

pub hinth_read_cut_only : (table : ℕ) (file : List ℕ) (zs : List ℤ) (os : List ℕ)
    → Only (λ (r : ℕ × (List ℤ × List ℕ)). lines_read r.0 r.1.0 r.1.1 ≡ lines_read_of (reading_of (table_of table) file zs) os)
hinth_read_cut_only table file zs os r s p q = let e = p ∙ sym q in λ i. ((e i).number, ((e i).numbers, (e i).out))

pub hinth_mend_only : (list : List ℕ) (within : ℕ) (before : MendLent) (os : List ℕ) → Only (λ (r : ℕ × (MendLent × List ℕ)). MendedBy list within before os r.0 r.1.0 r.1.1)
hinth_mend_only list within before os r s p q =
    let e = mend_only list within before (p.outcome, r.1.0) (q.outcome, s.1.0) p.mends q.mends in
    let number = p.returned ∙ ap (λ (o : Outcome × MendLent). (mendTold o.0).number) e ∙ sym q.returned in
    let out = p.written ∙ ap (λ (o : Outcome × MendLent). two_of (mendTold o.0).first (mendTold o.0).second os) e ∙ sym q.written in
    λ i. (number i, ((e i).1, out i))

pub hinth_cut_text_only : (g : Gone) (os : List ℕ)
    → Only (λ (r : ℕ × (List ℕ × (List ℕ × (List ℕ × (List ℕ × (List ℕ × (List ℕ × List ℕ))))))).
    whole r.0 r.1.0 r.1.1.0 r.1.1.1.0 r.1.1.1.1.0 r.1.1.1.1.1.0 r.1.1.1.1.1.1.0 r.1.1.1.1.1.1.1 ≡ whole_of g os)
hinth_cut_text_only g os r s p q =
    let e = p ∙ sym q in
    λ i. ((e i).number, ((e i).tags, ((e i).points, ((e i).scene, ((e i).prefixes, ((e i).lines, ((e i).bytes, (e i).out)))))))
