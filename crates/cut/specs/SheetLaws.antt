-- The words of the sheet, one by one, and a loop that writes them. Assumes nothing.
use Prim.Native.Nat.{ℕ, zero, suc, ◌+◌, ◌^◌, ◌<◌, ◌≤◌}
use Rattle.std.specs.Prelude.{◌≡◌, ◌⊎◌, Bool, true, false, cond, length, take, drop, set, Option, Some, None, Ok, Err}
use Rattle.std.proofs.Math.Path.{refl, sym, ap, subst}
use Rattle.std.proofs.Common.{◌∙◌, inl, inr, add-one, length-drop, take-suc, drop-cons, take_all, length-take-le}
use mathlib.Core.List.{List, [], ◌∷◌, ◌++◌, append_assoc}
use native.Mathlib.Omega.{arith}
use Rattle.std.proofs.Math.Decide.{ℕ_discrete, dec_lt}
use Rattle.std.proofs.Math.ListN.{get_or, length-append, get_or-append, get_or-eq_default}
use Rattle.std.proofs.lemmas.List.{set_at}
use Rattle.std.proofs.Math.Seq.{get_or-append_seam, get_or-append-add}
use borrow.Author.Tests.{lt-ltb, le-ltb, le-leb, lt-leb}
use Rattle.cut.specs.Sheet.{tag_bytes, tag_word, packed, groups, tag_words, fill_style, layout_of, sheet_of, size_of, small_size, size_told, fits, laid, lay_of}

-- ---- a tag

module _ (drawn : List ℕ) where
  pub drawn_byte : (i j : ℕ) → i ≡ j + 2 → j < length drawn → get_or (tag_bytes drawn) i 0 ≡ get_or drawn j 0
  unfolding tag_bytes
  drawn_byte i j e l = ap (λ (n : ℕ). get_or (0x20 ∷ 0x40 ∷ (drawn ++ (0x10 ∷ []))) n 0) (e ∙ two j) ∙ get_or-append drawn (0x10 ∷ []) 0 j l
    where
      two : (n : ℕ) → n + 2 ≡ suc (suc n)
      two n = omega arith

  pub path_byte : (i : ℕ) → i ≡ length drawn + 2 → get_or (tag_bytes drawn) i 0 ≡ 0x10
  unfolding tag_bytes
  path_byte i e = ap (λ (n : ℕ). get_or (0x20 ∷ 0x40 ∷ (drawn ++ (0x10 ∷ []))) n 0) (e ∙ two (length drawn)) ∙ get_or-append_seam drawn 0x10 [] 0
    where
      two : (n : ℕ) → n + 2 ≡ suc (suc n)
      two n = omega arith

  pub no_byte : (i : ℕ) → length drawn + 2 < i → get_or (tag_bytes drawn) i 0 ≡ 0
  unfolding tag_bytes
  no_byte i l = get_or-eq_default (0x20 ∷ 0x40 ∷ (drawn ++ (0x10 ∷ []))) 0 {n = i} (omega (arith, length-append drawn (0x10 ∷ [])))

  -- ---- a word of tags

  pub length_packed : (n : ℕ) → length (packed drawn n) ≡ n
  unfolding packed
  length_packed zero = refl
  length_packed (suc n) = length-append (packed drawn n) (tag_word drawn n ∷ []) ∙ omega (arith, length_packed n)

  pub packed_at : (n k : ℕ) → k < n → get_or (packed drawn n) k 0 ≡ tag_word drawn k
  unfolding packed
  packed_at zero k l = absurd (omega arith)
  packed_at (suc n) k l =
      let m = length_packed n in
      elim (ℕ_discrete k n) [
        | yes e ↦ ap (λ (i : ℕ). get_or (packed drawn n ++ (tag_word drawn n ∷ [])) i 0) (e ∙ sym m) ∙ get_or-append_seam (packed drawn n) (tag_word drawn n) [] 0 ∙ ap (tag_word drawn) (sym e)
        | no ne ↦ get_or-append (packed drawn n) (tag_word drawn n ∷ []) 0 k (omega (arith, m, ne)) ∙ packed_at n k (omega (arith, ne))
      ]

-- ---- a word of the sheet

module _ (drawn points six : List ℕ) where
  abbrev W : ℕ
  W = tag_words (length drawn)

  abbrev tail : List ℕ
  tail = points ++ (six ++ fill_style)

  -- behind the tags
  behind : (k : ℕ) → get_or (sheet_of drawn points six) (W + k) 0 ≡ get_or tail k 0
  unfolding sheet_of
  behind k =
      let m = length_packed drawn W in
      ap (λ (n : ℕ). get_or (packed drawn W ++ tail) (n + k) 0) (sym m) ∙ get_or-append-add (packed drawn W) tail k 0

  pub word_of_tags : (k : ℕ) → k < W → get_or (sheet_of drawn points six) k 0 ≡ tag_word drawn k
  unfolding sheet_of
  word_of_tags k l = get_or-append (packed drawn W) tail 0 k (omega (arith, length_packed drawn W)) ∙ packed_at drawn W k l

  pub word_of_points : (k j : ℕ) → k ≡ W + j → j < length points → get_or (sheet_of drawn points six) k 0 ≡ get_or points j 0
  word_of_points k j e l = ap (λ (n : ℕ). get_or (sheet_of drawn points six) n 0) e ∙ behind j ∙ get_or-append points (six ++ fill_style) 0 j l

  pub word_of_tail : (k i : ℕ) → k ≡ W + (length points + i) → get_or (sheet_of drawn points six) k 0 ≡ get_or (six ++ fill_style) i 0
  word_of_tail k i e = ap (λ (n : ℕ). get_or (sheet_of drawn points six) n 0) e ∙ behind (length points + i) ∙ get_or-append-add points (six ++ fill_style) i 0

  pub length_sheet : length six ≡ 6 → length (sheet_of drawn points six) ≡ size_of (length drawn) (length points)
  unfolding sheet_of size_of
  length_sheet e =
      omega (arith, length-append (packed drawn W) tail, length_packed drawn W, length-append points (six ++ fill_style), length-append six fill_style, e)

-- the style's two words are zero, and so is what stands behind them
pub zeros_behind : (six : List ℕ) (i : ℕ) → length six ≤ i → get_or (six ++ fill_style) i 0 ≡ 0
zeros_behind [] zero l = refl
zeros_behind [] (suc zero) l = refl
zeros_behind [] (suc (suc i)) l = refl
zeros_behind (x ∷ six) zero l = absurd (omega arith)
zeros_behind (x ∷ six) (suc i) l = zeros_behind six i (omega arith)

-- ---- written one after the other, in front of some words

abbrev pub Written : List ℕ → List ℕ → List ℕ → ℕ → Type 0
Written s ws₀ ws k = ws ≡ take k s ++ drop k ws₀

module _ (s ws₀ : List ℕ) (room : length s ≤ length ws₀) where
  pub written_next : (ws : List ℕ) (k r : ℕ) → k < length s → r ≡ get_or s k 0 → Written s ws₀ ws k → Written s ws₀ (set ws k r) (k + 1)
  written_next ws k r l e w =
      let one : take (suc k) s ≡ take k s ++ (get_or s k 0 ∷ []) = take-suc s k 0 l in
      let rest : drop k ws₀ ≡ get_or ws₀ k 0 ∷ drop (suc k) ws₀ = drop-cons ws₀ k 0 (omega arith) in
      ap (λ (xs : List ℕ). set xs k r) (w ∙ ap (λ (xs : List ℕ). take k s ++ xs) rest)
      ∙ set_at (take k s) (get_or ws₀ k 0) (drop (suc k) ws₀) r k (length-take-le k s (omega arith))
      ∙ ap (λ (x : ℕ). take k s ++ (x ∷ drop (suc k) ws₀)) e
      ∙ sym (append_assoc (take k s) (get_or s k 0 ∷ []) (drop (suc k) ws₀))
      ∙ ap (λ (xs : List ℕ). xs ++ drop (suc k) ws₀) (sym one)
      ∙ ap (λ (n : ℕ). take n s ++ drop n ws₀) (sym (add-one k))

  pub written_length : (ws : List ℕ) (k : ℕ) → k ≤ length s → Written s ws₀ ws k → length ws ≡ length ws₀
  written_length ws k l w =
      ap length w ∙ length-append (take k s) (drop k ws₀) ∙ omega (arith, length-take-le k s l, length-drop k ws₀)

  pub written_all : (ws : List ℕ) (k : ℕ) → length s ≡ k → Written s ws₀ ws k → ws ≡ s ++ drop k ws₀
  written_all ws k e w = w ∙ ap (λ (xs : List ℕ). xs ++ drop k ws₀) (take_all k s (omega (arith, e)))

-- ---- how large it is

some_same : (a b : ℕ) → Some a ≡ Some b → a ≡ b
some_same a b e = cc

not_some : (a : ℕ) → ◌≡◌ {A = Option ℕ} None (Some a) → ⊥
not_some a e = let z : ◌≡◌ {A = ℕ} 0 1 = cc in omega arith

module _ (n m : ℕ) where
  pub told_small : size_of n m < 2 ^ 31 → size_of n m ≡ size_told n m
  unfolding size_told
  told_small l = rw (lt-ltb (size_of n m) (2 ^ 31) l)

  pub told_large : 2 ^ 31 ≤ size_of n m → 0 ≡ size_told n m
  unfolding size_told
  told_large l = rw (le-ltb (size_of n m) (2 ^ 31) l)

  -- so many tags alone make it large
  pub many_tags : 2 ^ 33 ≤ n → 2 ^ 31 ≤ size_of n m
  unfolding size_of tag_words groups
  many_tags l = omega arith

  pub few_tags : size_of n m < 2 ^ 31 → n < 2 ^ 33
  unfolding size_of tag_words groups
  few_tags l = omega arith

  pub many_points : 2 ^ 31 ≤ m → 2 ^ 31 ≤ size_of n m
  unfolding size_of
  many_points l = omega arith

  -- what is told, where it is not 0
  pub told_is : (size : ℕ) → size ≡ size_told n m → (size ≡ 0 → ⊥) → (size ≡ size_of n m) × (size < 2 ^ 31)
  told_is size e ne =
      elim (dec_lt (size_of n m) (2 ^ 31)) [
        | yes l ↦ let is = e ∙ sym (told_small l) in (is, omega (arith, is, l))
        | no g ↦ absurd (ne (e ∙ sym (told_large (omega (arith, g)))))
      ]

  told_none : (size : ℕ) → size ≡ size_told n m → size ≡ 0 → 2 ^ 31 ≤ size_of n m
  unfolding size_of
  told_none size e z =
      elim (dec_lt (size_of n m) (2 ^ 31)) [
        | yes l ↦ let is = sym z ∙ e ∙ sym (told_small l) in absurd (omega (arith, is))
        | no g ↦ omega (arith, g)
      ]

  pub small_some : (size : ℕ) → small_size n m ≡ Some size → (size ≡ size_of n m) × (size < 2 ^ 31)
  unfolding small_size
  small_some size e =
      elim (dec_lt (size_of n m) (2 ^ 31)) [
        | yes l ↦ let is = some_same _ _ (sym (ap (λ (b : Bool). cond b (Some (size_of n m)) None) (lt-ltb _ _ l)) ∙ e) in (sym is, subst (λ (k : ℕ). k < 2 ^ 31) is l)
        | no g ↦ absurd (not_some size (sym (ap (λ (b : Bool). cond b (Some (size_of n m)) None) (le-ltb (size_of n m) (2 ^ 31) (omega (arith, g)))) ∙ e))
      ]

  pub small_none : small_size n m ≡ None → 2 ^ 31 ≤ size_of n m
  unfolding small_size
  small_none e =
      elim (dec_lt (size_of n m) (2 ^ 31)) [
        | yes l ↦ absurd (not_some (size_of n m) (sym e ∙ ap (λ (b : Bool). cond b (Some (size_of n m)) None) (lt-ltb _ _ l)))
        | no g ↦ omega (arith, g)
      ]

  none_fits : (room : ℕ) → 2 ^ 31 ≤ size_of n m → fits n m room ≡ false
  unfolding fits
  none_fits room h = rw (le-ltb (size_of n m) (2 ^ 31) h)

  no_room_lem : (room size : ℕ) → size ≡ size_of n m → size < 2 ^ 31 → room < size → fits n m room ≡ false
  unfolding fits
  no_room_lem room size e l h = rw (lt-ltb (size_of n m) (2 ^ 31) (omega (arith, e, l)), lt-leb (size_of n m) room (omega (arith, e, h)))

  no_room_told : (room size : ℕ) → size ≡ size_told n m → (size ≡ 0) ⊎ (room < size) → fits n m room ≡ false
  no_room_told room size e (inl z) = none_fits room (told_none size e z)
  no_room_told room size e (inr l) =
      let is = told_is size e (λ z. absurd (omega (arith, l, z))) in
      no_room_lem room size is.0 is.1 l

  has_room_lem : (room size : ℕ) → size ≡ size_of n m → size < 2 ^ 31 → size ≤ room → fits n m room ≡ true
  unfolding fits
  has_room_lem room size e l h = rw (lt-ltb (size_of n m) (2 ^ 31) (omega (arith, e, l)), le-leb (size_of n m) room (omega (arith, e, h)))

-- ---- the answer

module _ (drawn points six scene : List ℕ) (size : ℕ) where
  -- of a sheet that is not laid, by what is told: 0 where it has 2^31 words or more
  pub no_sheet_lem : size ≡ size_told (length drawn) (length points) → (size ≡ 0) ⊎ (length scene < size) → laid (Err size) scene ≡ lay_of drawn points six scene
  unfolding lay_of
  no_sheet_lem e h = rw (no_room_told (length drawn) (length points) (length scene) size e h, e)

  pub too_large : 2 ^ 31 ≤ size_of (length drawn) (length points) → laid (Err 0) scene ≡ lay_of drawn points six scene
  unfolding lay_of
  too_large h = rw (none_fits (length drawn) (length points) (length scene) h, told_large (length drawn) (length points) h)

  pub too_little_room : size ≡ size_of (length drawn) (length points) → size < 2 ^ 31 → length scene < size → laid (Err size) scene ≡ lay_of drawn points six scene
  unfolding lay_of
  too_little_room e l h = rw (no_room_lem (length drawn) (length points) (length scene) size e l h, e, told_small (length drawn) (length points) (omega (arith, e, l)))

  pub a_sheet : size ≡ size_of (length drawn) (length points) → size < 2 ^ 31 → size ≤ length scene
      → laid (Ok (layout_of (length drawn) (length points))) (sheet_of drawn points six ++ drop size scene) ≡ lay_of drawn points six scene
  unfolding lay_of
  a_sheet e l h = rw (has_room_lem (length drawn) (length points) (length scene) size e l h, e)
