-- How a number goes on with a byte, and where it ends. Assumes nothing.
use Rattle.std.specs.Prelude.{Ok, Err, ◌≡◌, ℤ, get_or, drop}
use Rattle.std.proofs.Math.Path.{sym, ap}
use Rattle.std.proofs.Common.{◌∙◌, subst, add-one, drop-cons}
use mathlib.Core.List.{List}
use Prim.Native.Nat.{ℕ, suc, ◌+◌, ◌<◌}
use native.Mathlib.Omega.{arith}
use Rattle.std.proofs.Math.Dec.{eqb}
use Rattle.std.proofs.Math.ListN.{length}
use Rattle.hpgl.specs.Form.{range_of, Within}
use Rattle.hpgl.specs.Reading.{byte_of, num_step}
use Rattle.hpgl.specs.Numbers.{NumSays, view, num_says}
use Rattle.hpgl.specs.declared.Table.{Table}
use Rattle.hpgl.specs.declared.reading.Num.{Num}
use Rattle.hpgl.specs.declared.reading.Num.TheVariants.{None}
use Rattle.hpgl.specs.declared.reading.NumStep.{NumStep}
use Rattle.hpgl.specs.declared.reading.NumStep.TheVariants.{Goes, Done, Wrong, Beyond}
use Rattle.hpgl.specs.declared.reading.Fault.TheVariants as fault_is
use Rattle.hpgl.specs.ReadingLaws.{num_next, num_run, Numbered, Counting}

-- ---- a number's bytes
module _ (table : Table) (file : List ℕ) (start e : ℕ) (n : Num) (at : ℕ) (inv : Counting table file start e n at) (h : at < length file) (q : NumStep) (s : q ≡ num_step (range_of table) (eqb (get_or file at 0) e) n (byte_of (get_or file at 0))) where
  byte : num_next table start (λ m. num_run table start e m (suc at) (drop (suc at) file)) at q ≡ num_run table start e None start (drop start file)
  unfolding num_run
  byte = ap (num_next table start (λ m. num_run table start e m (suc at) (drop (suc at) file)) at) s ∙ ap (num_run table start e n at) (sym (drop-cons file at 0 h)) ∙ inv.same

  abbrev Here : NumStep → Type 0
  Here = NumSays (range_of table) (eqb (get_or file at 0) e) n (get_or file at 0)

  -- what the step says of the number
  here : Here q
  here = subst Here (sym s) (num_says (range_of table) (eqb (get_or file at 0) e) n (get_or file at 0) (byte_of (get_or file at 0)) (view (get_or file at 0)) inv.good)

  pub number_on : (m : Num) → q ≡ Goes m → Counting table file start e m (at + 1)
  number_on m g =
      record {
        same = rw (add-one at) (rw g at byte);
        behind = omega (arith, inv.behind);
        inside = omega arith;
        good = (subst Here g here).1;
      }

  pub number_within : (z : ℤ) → q ≡ Done z → Within (range_of table) z
  number_within z g = (subst Here g here).2

  pub number_done : (z : ℤ) → q ≡ Done z → Numbered table file start e (Ok (z, at))
  number_done z g = record { is = rw g at byte; inside = (inv.behind, h, number_within z g) }

  pub number_wrong : q ≡ Wrong → Numbered table file start e (Err (fault_is.Wrong at))
  number_wrong g = record { is = rw g at byte; inside = tt }

  pub number_beyond : q ≡ Beyond → Numbered table file start e (Err (fault_is.Beyond start))
  number_beyond g = record { is = rw g at byte; inside = tt }
