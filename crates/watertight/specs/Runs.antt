-- A run of segments, each of which is a chain of lines, is one chain. Assumes nothing.
use Rattle.std.specs.Prelude.{ℕ, ◌+◌, ◌≡◌, T, Float}
use Rattle.std.proofs.Math.Path.{refl}
use Rattle.std.proofs.Common.{ap, subst, arith}
use Rattle.std.proofs.Math.Bool.{false}
use mathlib.Core.List.{List, [], ◌∷◌, ◌++◌}
use Rattle.spiral.specs.Util.{eq_of}
use Rattle.spiral.specs.Points.{FitsPoint, eq→same_point, apply_same, identity_same}
use Rattle.spiral.specs.declared.util.Vec2.{Vec2}
use Rattle.drawing.specs.Sheet.{Event, line, no_count, no_join}
use Rattle.curve.specs.Chain.{Chain, chain_append, written}
use Rattle.watertight.specs.Count.{starts_by, ends_by}
use Rattle.watertight.specs.Balance.{AllLines, open_ends}
use Rattle.watertight.specs.Fill.{Call, drawn_at, first_of, last_of, Each, Meets, Follows, final, Closed, lines_of}
use Rattle.watertight.specs.FillLaws.{points_fit}

-- points that are equal as numbers are written as the same bits
meet : (z : List Float) (p q : Vec2) → FitsPoint p → FitsPoint q → T (eq_of p q) → written z p ≡ written z q
meet z p q f g h = identity_same _ _ (apply_same z p q (eq→same_point p q f g h))

all_append : (xs ys : List Event) → AllLines xs → AllLines ys → AllLines (xs ++ ys)
unfolding AllLines
all_append [] ys h k = k
all_append (line p q ∷ xs) ys h k = all_append xs ys h k
all_append (no_count ∷ xs) ys h k = absurd h
all_append (no_join ∷ xs) ys h k = absurd h

module _ (c : Call) (z : List Float) where
  -- the lines of tag i lead from its first point to its last, as these are written
  pub record Leads (i : ℕ) : Type 0 where
    pub lines : AllLines (drawn_at c i)
    pub chain : Chain false (written z (first_of c i)) (written z (last_of c i)) (drawn_at c i)

  meets : (i j : ℕ) → Meets c i j → written z (last_of c i) ≡ written z (first_of c j)
  meets i j = meet z (last_of c i) (first_of c j) (points_fit c i _) (points_fit c j 0)

  pub run_lines : (is : List ℕ) → Each Leads is → AllLines (lines_of c is)
  unfolding Each lines_of AllLines
  run_lines [] h = tt
  run_lines (i ∷ is) h = all_append (drawn_at c i) (lines_of c is) h.0.lines (run_lines is h.1)

  run_chain : (i : ℕ) (js : List ℕ) → Each Leads (i ∷ js) → Follows c i js → Chain false (written z (first_of c i)) (written z (last_of c (final i js))) (lines_of c (i ∷ js))
  unfolding Each lines_of Follows Chain final
  run_chain i [] h m = chain_append false _ _ _ (drawn_at c i) [] h.0.chain refl
  run_chain i (j ∷ js) h m =
      chain_append false _ _ _ (drawn_at c i) (lines_of c (j ∷ js)) h.0.chain (rw (meets i j m.0) (run_chain j js h.1 m.1))

  -- where the last ends where the first began, the chain comes back
  pub closed_chain : (i : ℕ) (js : List ℕ) → Each Leads (i ∷ js) → Follows c i js → Closed c i js → Chain false (written z (first_of c i)) (written z (first_of c i)) (lines_of c (i ∷ js))
  closed_chain i js h m e = subst (λ (p : Vec2). Chain false (written z (first_of c i)) p (lines_of c (i ∷ js))) (meets (final i js) i e) (run_chain i js h m)

  -- each point is a start as often as an end, but that the first is once more a start and the last once more an end
  pub open_run : (i : ℕ) (js : List ℕ) → Each Leads (i ∷ js) → Follows c i js → (f : Vec2 → ℕ)
      → starts_by f (lines_of c (i ∷ js)) + f (written z (last_of c (final i js))) ≡ ends_by f (lines_of c (i ∷ js)) + f (written z (first_of c i))
  open_run i js h m f = open_ends f _ _ (lines_of c (i ∷ js)) (run_lines (i ∷ js) h) (run_chain i js h m)

  -- and these two are one where the last ends where the first began
  pub closed_run : (i : ℕ) (js : List ℕ) → Each Leads (i ∷ js) → Follows c i js → Closed c i js → (f : Vec2 → ℕ) → starts_by f (lines_of c (i ∷ js)) ≡ ends_by f (lines_of c (i ∷ js))
  closed_run i js h m e f =
      let back : f (written z (last_of c (final i js))) ≡ f (written z (first_of c i)) = ap f (meets (final i js) i e) in
      omega (arith, open_run i js h m f)
