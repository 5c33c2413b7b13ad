-- The bounds of a box: what a function takes or returns as an i32 is the whole number itself. Assumes nothing.
use Rattle.std.proofs.Common.{◌≡◌, ℕ, ◌<◌, ℤ, ap, sym, subst, refl, ◌∙◌, arith, Bool, true, false, w32, to_z, of_z}
use Rattle.std.specs.Prelude.{T, cond, ◌<ℤ◌}
use Rattle.std.specs.Int.{int_min, int_max}
use Rattle.std.specs.Int.Signed.{lt_z_yes}
use Rattle.std.proofs.lemmas.Int.{ints}
use Rattle.drawing.specs.Dried.{level}
use Rattle.drawing.specs.Sheet.{lower_of, higher_of}
use lib.Signed.{lt_z, mag}
use mir.ValLaws.{to_z-of_z}
use Rattle.flatten.specs.declared.boxes.PathBox.{PathBox}

pub back : (z : ℤ) → mag z < 2147483648 → to_z w32 (of_z w32 z) ≡ z
back z h = to_z-of_z w32 z (record { sfits = h })

-- a test of two numbers, as the code makes it
pub tested : (a b : ℤ) → mag a < 2147483648 → mag b < 2147483648 → lt_z (to_z w32 (of_z w32 a)) (to_z w32 (of_z w32 b)) ≡ lt_z a b
tested a b ha hb = ap (λ (z : ℤ). lt_z z (to_z w32 (of_z w32 b))) (back a ha) ∙ ap (lt_z a) (back b hb)

-- the lower of two numbers, and the higher one, by the library's words
pub is_lower : (a b : ℤ) → int_min a b ≡ lower_of a b
unfolding lower_of
is_lower a b = refl

pub is_higher : (a b : ℤ) → int_max a b ≡ higher_of a b
unfolding higher_of
is_higher a b = go (lt_z b a) (lt_z a b) refl refl
  where
    go : (s t : Bool) → lt_z b a ≡ s → lt_z a b ≡ t → cond s a b ≡ cond t b a
    go true true e f =
        let l : b <ℤ a = lt_z_yes (subst T (sym e) tt) in
        let m : a <ℤ b = lt_z_yes (subst T (sym f) tt) in
        absurd (omega (arith, ints))
    go true false e f = refl
    go false true e f = refl
    go false false e f = level b a e f

-- a bound of a path's box and one of what was drawn
pub bound : {r a b : ℤ} (pick : ℤ → ℤ → ℤ) → mag r < 2147483648 → mag a < 2147483648 → mag b < 2147483648 → r ≡ pick (to_z w32 (of_z w32 a)) (to_z w32 (of_z w32 b)) → to_z w32 (of_z w32 r) ≡ pick a b
bound {r} {a} {b} pick hr ha hb e = back r hr ∙ e ∙ ap (λ (z : ℤ). pick z (to_z w32 (of_z w32 b))) (back a ha) ∙ ap (pick a) (back b hb)

pub boxed : {a b c d a' b' c' d' : ℤ} {m n : ℕ} → a ≡ a' → b ≡ b' → c ≡ c' → d ≡ d'
    → ◌≡◌ {A = PathBox} (record { x0 = a; y0 = b; x1 = c; y1 = d; draw_flags = m; trans_ix = n }) (record { x0 = a'; y0 = b'; x1 = c'; y1 = d'; draw_flags = m; trans_ix = n })
boxed h i j k = cc
