-- `cut::sheet::Source::write` meets its contract. Assumes nothing.
use Prim.Native.Nat.{ℕ, ◌^◌, ◌<◌, ◌≤◌}
use mathlib.Core.Path.{◌≡◌, refl, sym, ◌∙◌, subst}
use mathlib.Core.List.{List}
use native.Mathlib.Omega.{arith}
use lib.ListN.{length}
use Rattle.cut.specs.Sheet.{six_of, sheet_of, size_of}
use Rattle.svg.specs.declared.hand.Six.{Six}
use Rattle.cut.specs.SheetLaws.{length_sheet, Written, written_next, written_length, written_all}
use Rattle.cut.proofs.sheet.Source.write.Goals as goal

kept : (tags points : List ℕ) (six : Six) (size : ℕ) (scene₀ : List ℕ) → size ≡ size_of (length tags) (length points) → size ≤ length scene₀ → (scene : List ℕ) (k : ℕ)
    → Written (sheet_of tags points (six_of six)) scene₀ scene k × (k ≤ size) → length scene ≡ length scene₀
kept tags points six size scene₀ e l scene k i =
    let n = length_sheet tags points (six_of six) refl ∙ sym e in
    written_length (sheet_of tags points (six_of six)) scene₀ (omega (arith, n, l)) scene k (omega (arith, n, i.1)) i.0

pub loop-k-init : goal.loop-k-init
loop-k-init c = (refl, omega arith)

pub word-requires : goal.word-requires
word-requires c = (omega (arith, c.requires.1), subst (λ (n : ℕ). n < 2 ^ 31) c.requires.0 c.requires.1)

pub offset_bounds-scene-k : goal.offset_bounds-scene-k
offset_bounds-scene-k c = record { fits = omega (arith, c.requires.1) }

pub bounds-scene-k : goal.bounds-scene-k
bounds-scene-k c =
    let i = c.loop-k.invariant in
    omega (arith, c.requires.2, kept c.args.self.tags.now c.args.self.points.now c.args.self.six c.args.size c.args.scene.now c.requires.0 c.requires.2 _ _ i)

pub loop-k-smaller : goal.loop-k-smaller
loop-k-smaller c = omega arith

pub loop-k-preserved : goal.loop-k-preserved
loop-k-preserved c =
    let i = c.loop-k.invariant in
    let n = length_sheet c.args.self.tags.now c.args.self.points.now (six_of c.args.self.six) refl ∙ sym c.requires.0 in
    (written_next (sheet_of c.args.self.tags.now c.args.self.points.now (six_of c.args.self.six)) c.args.scene.now (omega (arith, n, c.requires.2)) _ _ _ (omega (arith, n)) c.word.ensures i.0, omega arith)

pub shape_of-scene : goal.shape_of-scene
shape_of-scene c =
    kept c.args.self.tags.now c.args.self.points.now c.args.self.six c.args.size c.args.scene.now c.requires.0 c.requires.2 _ _ c.loop-k.invariant

pub returns : goal.returns
returns c =
    let i = c.loop-k.invariant in
    let n = length_sheet c.args.self.tags.now c.args.self.points.now (six_of c.args.self.six) refl ∙ sym c.requires.0 in
    let all : c.loop-k.k ≡ c.args.size = omega (arith, i.1) in
    written_all (sheet_of c.args.self.tags.now c.args.self.points.now (six_of c.args.self.six)) c.args.scene.now (omega (arith, n, c.requires.2)) _ c.args.size n
    (subst (Written (sheet_of c.args.self.tags.now c.args.self.points.now (six_of c.args.self.six)) c.args.scene.now c.loop-k.scene) all i.0)
