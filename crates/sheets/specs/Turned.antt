-- What a tag says, moved: all but bit 0x08 stays, and that bit turns where the tag counts point words. Assumes nothing.
use Rattle.std.specs.Prelude.{ℕ, zero, suc, ◌+◌, ◌*◌, ◌/◌, ◌%◌, ◌≡◌, refl, Bool, true, false, ◌||◌, cond, eqb}
use Rattle.std.proofs.Common.{sym, ap, ◌∙◌, arith, eqb-true, ne_eqb}
use Rattle.std.proofs.Math.Nat.{add-mul-div_left, div-div-eq-div-mul, add-mul-mod_self_left, add-mod_right, add-mod}
use Rattle.std.proofs.lemmas.Bool.{eqb-false}
use Rattle.scene.specs.Tags.{bit, tag_sums}
use Rattle.sheets.specs.Moving.{counts, is_old, new_tag}

-- what a tag counts is what the scan adds, doubled where the points are f32
pub counts_are : (tag : ℕ) → (tag_sums tag).pathseg_offset ≡ counts tag * (1 + bit tag 0x08)
unfolding tag_sums
counts_are tag = refl

-- a tag b' is b moved: what it says but for bit 0x08 stays, and that bit turns where b counts
pub record MovedByte (b b' : ℕ) : Type 0 where
  pub kind : b' % 4 ≡ b % 4
  pub end : b' / 4 % 2 ≡ b / 4 % 2
  pub path : b' / 16 % 2 ≡ b / 16 % 2
  pub transform : b' / 32 % 2 ≡ b / 32 % 2
  pub style : b' / 64 % 2 ≡ b / 64 % 2
  pub zero_too : eqb b' 0 ≡ eqb b 0
  pub turned : eqb (counts b) 0 ≡ false → (b / 8 % 2 ≡ 0) × (b' / 8 % 2 ≡ 1)

same_byte : (b : ℕ) → eqb (counts b) 0 ≡ true → MovedByte b b
same_byte b e = record { kind = refl; end = refl; path = refl; transform = refl; style = refl; zero_too = refl; turned = λ f. absurd (omega (arith, eqb-true (counts b) 0 e, eqb-false (counts b) 0 f (eqb-true (counts b) 0 e))) }

not_zero : (b : ℕ) → eqb (counts b) 0 ≡ false → eqb (b + 8) 0 ≡ eqb b 0
not_zero zero f = let z : ◌≡◌ {A = ℕ} 0 1 = cc in absurd (omega arith)
not_zero (suc b) f = ne_eqb (suc b + 8) 0 (λ e. omega arith) ∙ sym (ne_eqb (suc b) 0 (λ e. omega arith))

half_odd : (q : ℕ) → q % 2 ≡ 0 → (q + 1) / 2 ≡ q / 2
half_odd q e = omega arith

more_byte : (b : ℕ) → eqb (counts b) 0 ≡ false → b / 8 % 2 ≡ 0 → MovedByte b (b + 8)
more_byte b f e =
    let by4 : (b + 8) / 4 ≡ b / 4 + 2 = omega (arith, add-mul-div_left b 2 {y = 4} (omega arith)) in
    let by8 : (b + 8) / 8 ≡ b / 8 + 1 = omega arith in
    let by16 : (b + 8) / 16 ≡ b / 16 = sym (div-div-eq-div-mul (b + 8) 8 2) ∙ ap (λ (x : ℕ). x / 2) by8 ∙ half_odd (b / 8) e ∙ div-div-eq-div-mul b 8 2 in
    let by32 : (b + 8) / 32 ≡ b / 32 = sym (div-div-eq-div-mul (b + 8) 16 2) ∙ ap (λ (x : ℕ). x / 2) by16 ∙ div-div-eq-div-mul b 16 2 in
    let by64 : (b + 8) / 64 ≡ b / 64 = sym (div-div-eq-div-mul (b + 8) 16 4) ∙ ap (λ (x : ℕ). x / 4) by16 ∙ div-div-eq-div-mul b 16 4 in
    record {
      kind = add-mul-mod_self_left b 4 2;
      end = ap (λ (x : ℕ). x % 2) by4 ∙ add-mod_right (b / 4) 2;
      path = ap (λ (x : ℕ). x % 2) by16;
      transform = ap (λ (x : ℕ). x % 2) by32;
      style = ap (λ (x : ℕ). x % 2) by64;
      zero_too = not_zero b f;
      turned = λ g. (e, ap (λ (x : ℕ). x % 2) by8 ∙ add-mod (b / 8) 1 2 ∙ ap (λ (x : ℕ). (x + 1) % 2) e);
    }

by_count : (b : ℕ) (t : Bool) → eqb (counts b) 0 ≡ t → t || eqb (b / 8 % 2) 0 ≡ true → MovedByte b (cond t b (b + 8))
by_count b true e h = same_byte b e
by_count b false e h = more_byte b e (eqb-true (b / 8 % 2) 0 h)

pub moved_byte : (b : ℕ) → is_old b ≡ true → MovedByte b (new_tag b)
unfolding is_old new_tag
moved_byte b h = by_count b (eqb (counts b) 0) refl h
