-- The answer of an import where the pen is too short, and where the text was read. Assumes nothing.
use Prim.Native.Nat.{ℕ, ◌<◌}
use mathlib.Core.Path.{◌≡◌, ap, ◌∙◌}
use mathlib.Core.List.{List, ◌++◌}
use lib.ListN.{length, drop}
use lib.Seq.{sets}
use borrow.Author.Tests.{lt-ltb, le-ltb}
use Rattle.pattern.specs.Commands.{number_of}
use Rattle.pattern.specs.declared.pen.Pen.{Pen}
use Rattle.std.specs.Prelude.{Err}
use Rattle.std.specs.Array.{IsFirstChunk}
use Rattle.pattern.specs.declared.pen.Fault.TheVariants.{NoRoom}
use Rattle.svg.specs.Import.{Ending, Told, told, report_of, import_of}
use Rattle.svg.specs.declared.reader.Report.{Report}
use Rattle.exports.specs.Pen.{pen_read, pen_words}
use Rattle.exports.specs.Scan.{first_of}
use Rattle.exports.proofs.Pens.{first_and_rest, first_long, first_read, put_front}
use Rattle.exports.specs.Import.{imported, imported_of, imported_by}

module _ (ws bs tags points os : List ℕ) where
  pub no_pen : (r : ℕ) (os' : List ℕ) → length ws < 7 → r ≡ number_of (Err NoRoom) → os' ≡ first_of 0 os → imported r ws tags points os' ≡ imported_by ws bs tags points os
  unfolding imported_by
  no_pen r os' h e f = rw (lt-ltb (length ws) 7 h, e, f)

  module _ (answer : Ending) (us us' : List ℕ) (given pen : Pen) (tags' points' : List ℕ) (s : IsFirstChunk ws us 7) (e : given ≡ pen_read us) (f : told answer pen tags' points' ≡ import_of bs given tags points) (p : us' ≡ pen_words pen) where
    pub was_read : (a : Ending) (t : Report) (os' : List ℕ) → answer ≡ a → t ≡ report_of a → os' ≡ first_of t.at os → imported t.number (us' ++ drop 7 ws) tags' points' os' ≡ imported_by ws bs tags points os
    unfolding imported_by imported_of
    was_read a t os' q g r =
        let o : told a pen tags' points' ≡ import_of bs (pen_read ws) tags points = rw (q, e ∙ first_read ws us s) at f in
        let w : us' ++ drop 7 ws ≡ sets ws 0 (pen_words pen) =
        ap (λ (us : List ℕ). us ++ drop 7 ws) p ∙ put_front us (drop 7 ws) pen (first_long ws us s) ∙ ap (λ (ws : List ℕ). sets ws 0 (pen_words pen)) (first_and_rest ws us s) in
        rw (le-ltb (length ws) 7 s.enough, w, r, g) (ap (λ (x : Told). imported_of x ws os) o)
