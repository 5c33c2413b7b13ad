-- Closed fills are watertight: the theorems. What they speak of is defined in Fill.antt and Count.antt. Assumes nothing.
use Rattle.std.specs.Prelude.{ℕ, ◌+◌, ◌≤◌, ◌≡◌, refl, false, List, [], ◌∷◌, length}
use Rattle.std.proofs.Common.{sym, ◌∙◌, subst}
use Rattle.spiral.specs.declared.util.Vec2.{Vec2}
use Rattle.curve.specs.Chain.{Chain}
use Rattle.scene.specs.Reading.{floats_at}
use Rattle.watertight.specs.Balance.{AllLines}
use Rattle.watertight.specs.Count.{starts_by, ends_by, bits_are, is_at, starts, ends}
use Rattle.watertight.specs.Fill.{Call, Accepted, drawn_at, first_of, last_of, written_by, Filled, Each, Run, final, Closed, lines_of, stored}
use Rattle.watertight.specs.FillLaws.{fill_few, fill_chain_of}
use Rattle.watertight.specs.Runs.{Leads, run_lines, closed_chain, open_run, closed_run}
use Rattle.watertight.specs.Accepted.{done}
use Rattle.watertight.specs.Stored.{as_drawn}

-- ---- each segment is a chain
leads : (c : Call) → Accepted c → (z : List ℕ) (i : ℕ) → Filled c z i → Leads c (floats_at z 0) i
leads c a z i f =
    let s = (done c a).sound i f.in_call in
    record {
      lines = s.lines;
      chain =
          subst (λ (z : List ℕ). Chain false (written_by z (first_of c i)) (written_by z (last_of c i)) (drawn_at c i)) f.transform
          (fill_chain_of c i (drawn_at c i) f.segment f.no_stroke s.events);
    }

each : (P Q : ℕ → Type 0) → ((i : ℕ) → P i → Q i) → (is : List ℕ) → Each P is → Each Q is
unfolding Each
each P Q f [] h = tt
each P Q f (i ∷ is) h = (f i h.0, each P Q f is h.1)

-- ---- the theorems

-- whatever is counted of device points, the starts of the lines of a closed run of an accepted call have it as often as their ends
pub watertight_by : (c : Call) → Accepted c → (i : ℕ) (js : List ℕ) → Run c i js → Closed c i js
    → (f : Vec2 → ℕ) → starts_by f (lines_of c (i ∷ js)) ≡ ends_by f (lines_of c (i ∷ js))
watertight_by c a i js r = closed_run c (floats_at r.z 0) i js (each _ _ (leads c a r.z) (i ∷ js) r.filled) r.follows

-- in the lines of a closed run of an accepted call every device point, by its bits, is a start exactly as often as it is an end
pub watertight : (c : Call) → Accepted c → (i : ℕ) (js : List ℕ) → Run c i js → Closed c i js
    → (x y : ℕ) → starts x y (lines_of c (i ∷ js)) ≡ ends x y (lines_of c (i ∷ js))
watertight c a i js r closed x y = watertight_by c a i js r closed (is_at x y)

-- the lines of a closed run of an accepted call are one chain, back to where it starts
pub one_chain : (c : Call) → Accepted c → (i : ℕ) (js : List ℕ) → Run c i js → Closed c i js → (p : Vec2) × AllLines (lines_of c (i ∷ js)) × Chain false p p (lines_of c (i ∷ js))
one_chain c a i js r closed =
    let all = each _ _ (leads c a r.z) (i ∷ js) r.filled in
    (written_by r.z (first_of c i), run_lines c (floats_at r.z 0) (i ∷ js) all, closed_chain c (floats_at r.z 0) i js all r.follows closed)

-- no segment of a run draws over 6,553,600 lines
pub few : (c : Call) → Accepted c → (i : ℕ) (js : List ℕ) → Run c i js → Each (λ k. length (drawn_at c k) ≤ 6553600) (i ∷ js)
few c a i js r =
    each _ _ (λ k f. fill_few c k (drawn_at c k) f.segment f.no_stroke ((done c a).sound k f.in_call).events) (i ∷ js) r.filled

-- as they stand in the lent words after the call, the records of a closed run have each point as a start, at place 2, exactly as often as an end, at place 4
pub watertight_stored : (c : Call) → Accepted c → (i : ℕ) (js : List ℕ) → Run c i js → Closed c i js
    → (x y : ℕ) → stored c 2 x y (i ∷ js) ≡ stored c 4 x y (i ∷ js)
watertight_stored c a i js r closed x y =
    let k = as_drawn c a (bits_are x y) (is_at x y) (i ∷ js) (each _ _ (λ k f. record { in_call = f.in_call; path = refl }) (i ∷ js) r.filled) in
    k.0 ∙ watertight c a i js r closed x y ∙ sym k.1

-- a run that is not closed stays open: its first point, as written, is once more a start and its last once more an end, and all others balance
pub stays_open : (c : Call) → Accepted c → (i : ℕ) (js : List ℕ) (r : Run c i js)
    → (x y : ℕ) → starts x y (lines_of c (i ∷ js)) + is_at x y (written_by r.z (last_of c (final i js)))
    ≡ ends x y (lines_of c (i ∷ js)) + is_at x y (written_by r.z (first_of c i))
stays_open c a i js r x y = open_run c (floats_at r.z 0) i js (each _ _ (leads c a r.z) (i ∷ js) r.filled) r.follows (is_at x y)
