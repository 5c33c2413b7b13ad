-- From a text to lines: an accepted call on what was imported is watertight for every subpath that the text means. Assumes nothing.
use Rattle.std.specs.Prelude.{ℕ, ◌+◌, ◌≤◌, ◌≡◌, false, Ok}
use Rattle.std.proofs.Math.Path.{refl, sym, ap, subst}
use Rattle.std.proofs.Common.{◌∙◌}
use mathlib.Core.List.{List, [], ◌∷◌, ◌++◌}
use Rattle.std.proofs.lemmas.Bool.{eqb-false}
use Rattle.pattern.specs.Commands.{Command, end, Ink, none, end_bit, behind, place_of, Answer, Outcome, outcome, number_of, written}
use Rattle.pattern.specs.Meaning.{Subpath, nothing, meant, fresh_pen, fresh, next, after}
use Rattle.pattern.specs.Encoded.{by_answer, zero_ok}
use Rattle.pattern.specs.Every.{Every}
use Rattle.pattern.specs.declared.pen.Place.{Place}
use Rattle.pattern.specs.declared.pen.Pen.{Pen}
use Rattle.svg.specs.Language.{Command as Svg}
use Rattle.svg.specs.Meaning.{origin, drawn_from, meaning}
use Rattle.svg.specs.Import.{Told, import_of}
use Rattle.svg.specs.Imports.{all_after, all_kept, Imported, accepted_text}
use Rattle.watertight.specs.Fill.{Call, Accepted}
use Rattle.watertight.specs.Fill as fills
use Rattle.outlines.specs.Placing.{left, Finished, FreshCall, FillAt, Placed, outlines, Watertight}
use Rattle.outlines.specs.Lines.{drawn_watertight}

-- ---- behind an end nothing is open

after_append : (cs ds : List Command) (o : Outcome) → after o (cs ++ ds) ≡ after (after o cs) ds
unfolding after
after_append [] ds o = refl
after_append (c ∷ cs) ds o = after_append cs ds (next o c)

opened_then : (pen : Pen) (then : Place) (ink : Ink) (tags points : List ℕ) → (written pen then ink tags points).pen.place.opened ≡ then.opened
unfolding written
opened_then pen then none tags points = refl
opened_then pen then end_bit tags points = refl
opened_then pen then (behind tag ws) tags points = refl

end_finishes : (o : Outcome) → number_of (next o end).answer ≡ 0 → Finished (next o end)
unfolding place_of
end_finishes o =
    by_answer o.pen end o.tags o.points (λ o'. number_of o'.answer ≡ 0 → Finished o') (λ answer e z. absurd (eqb-false (number_of answer) 0 e z))
    (λ m n f z. opened_then o.pen (place_of o.pen.place end) _ o.tags o.points)

-- behind the last command of a text nothing is open
pub meaning_finishes : (cs : List Svg) (o : Outcome) → number_of (after o (meaning cs)).answer ≡ 0 → Finished (after o (meaning cs))
unfolding meaning after
meaning_finishes cs o z =
    let e : after o (meaning cs) ≡ next (after o (drawn_from origin false cs)) end = after_append (drawn_from origin false cs) (end ∷ []) o in
    subst Finished (sym e) (end_finishes (after o (drawn_from origin false cs)) (ap (λ (x : Outcome). number_of x.answer) (sym e) ∙ z))

-- ---- the theorem

-- what an import with a fresh pen leaves
abbrev pub imported_by : List ℕ → List ℕ → List ℕ → Outcome
imported_by bs tags points = let t = import_of bs fresh_pen tags points in outcome (Ok tt) t.pen t.tags t.points

module _ (bs tags points : List ℕ) (read : (import_of bs fresh_pen tags points).ending ≡ Ok tt) where
  its : Imported fresh_pen tags points bs
  its = accepted_text fresh_pen tags points bs read

  -- the subpaths that the text means
  pub subpaths_of : List Subpath
  subpaths_of = meant nothing (meaning its.commands)

  ms : List Command
  ms = meaning its.commands

  number_zero : number_of (left tags points ms).answer ≡ 0
  unfolding ms number_of
  number_zero = ap (λ (x : Outcome). number_of x.answer) (sym (all_after ms (fresh tags points) refl its.none_refused)) ∙ its.none_refused

  left_is : imported_by bs tags points ≡ left tags points ms
  unfolding ms number_of
  left_is =
      let o = left tags points ms in
      ap (λ (t : Told). outcome (Ok tt) t.pen t.tags t.points) its.drawn ∙ ap (λ (a : Answer). outcome a o.pen o.tags o.points) (sym (zero_ok o.answer number_zero))

  module _ (c : Call) (at : ℕ) (placed : Placed c at (imported_by bs tags points)) (a : Accepted c) (f : FreshCall c) (fill : FillAt c at) (in_call : at + (imported_by bs tags points).pen.tags ≤ fills.tags c) where
    -- What was imported, put under one fill style and one transform: every subpath of an accepted call is watertight.
    pub imported_watertight : Every (Watertight c) (outlines at subpaths_of)
    unfolding ms subpaths_of number_of
    imported_watertight =
        let w = drawn_watertight tags points ms (meaning_finishes its.commands (fresh tags points) number_zero) c at (subst (λ (o : Outcome). Placed c at o) left_is placed) a f fill
        (subst (λ (o : Outcome). at + o.pen.tags ≤ fills.tags c) left_is in_call) in
        subst (λ (cs : List Command). Every (Watertight c) (outlines at (meant nothing cs))) (all_kept ms (fresh tags points) refl its.none_refused) w
