-- What the smaller, the larger and the clamped of floats promise. Assumes nothing.
use Rattle.std.specs.Prelude.{◌≡◌, Bool, true, false, cond, not, ◌&&◌, ◌||◌, T, ◌⊎◌, refl, Float}
use Rattle.std.proofs.Common.{sym, ◌∙◌, subst, inl, inr}
use Rattle.std.specs.Float.Ieee.Bits.{is_false}
use Rattle.std.specs.Float.{nan, inf, fin, binary32}
use Rattle.std.specs.Float.Ieee.{is_nan, lt, le, eq, fits}
use Rattle.numbers.specs.Words.{sign_of}
use Rattle.laws.specs.Same.{either}
use Rattle.laws.specs.Nan.{nan_is, no_nan}
use Rattle.numbers.specs.Select.{before, min_of, max_of, clamp_of}
use Rattle.numbers.specs.Order.{Ordered, less, more, alike, ordered, le_self, not_lt→le, one_float, le_number_left, le_number_right}

-- ---- one NaN gives the other, two give a NaN
pub min_nan_left : (y : Float) → min_of nan y ≡ y
unfolding min_of is_nan
min_nan_left y = refl

pub max_nan_left : (y : Float) → max_of nan y ≡ y
unfolding max_of is_nan
max_nan_left y = refl

pub min_nan_right : (x : Float) → min_of x nan ≡ x
unfolding min_of is_nan
min_nan_right nan = refl
min_nan_right (inf s) = refl
min_nan_right (fin s m e) = refl

pub max_nan_right : (x : Float) → max_of x nan ≡ x
unfolding max_of is_nan
max_nan_right nan = refl
max_nan_right (inf s) = refl
max_nan_right (fin s m e) = refl

-- ---- the answer is one of the two
one_of : (n k b : Bool) (x y : Float) → (cond n y (cond k x (cond b x y)) ≡ x) ⊎ (cond n y (cond k x (cond b x y)) ≡ y)
one_of true k b x y = inr refl
one_of false true b x y = inl refl
one_of false false true x y = inl refl
one_of false false false x y = inr refl

pub min_either : (x y : Float) → (min_of x y ≡ x) ⊎ (min_of x y ≡ y)
unfolding min_of
min_either x y = one_of (is_nan x) (is_nan y) (before x y) x y

pub max_either : (x y : Float) → (max_of x y ≡ x) ⊎ (max_of x y ≡ y)
unfolding max_of
max_either x y = go (is_nan x) (is_nan y) (before x y)
  where
    go : (n k b : Bool) → (cond n y (cond k x (cond b y x)) ≡ x) ⊎ (cond n y (cond k x (cond b y x)) ≡ y)
    go n k true = one_of n k false x y
    go n k false = one_of n k true x y

-- ---- the order of the two does not matter
or_else : (a b c d : Bool) (x y : Float) → Ordered a b c d → (T c → sign_of x ≡ sign_of y → x ≡ y) → ((b || (d && sign_of y)) ≡ not (a || (c && sign_of x))) ⊎ (x ≡ y)
or_else true false false false x y less h = inl refl
or_else false true false false x y more h = inl refl
or_else false false true true x y alike h = go (sign_of x) (sign_of y) (h tt)
  where
    go : (s t : Bool) → (s ≡ t → x ≡ y) → (t ≡ not s) ⊎ (x ≡ y)
    go true true h = inr (h refl)
    go true false h = inl refl
    go false true h = inl refl
    go false false h = inr (h refl)
or_else false false false d x y never h = elim never [ ]
or_else false false true false x y never h = elim never [ ]
or_else false true false true x y never h = elim never [ ]
or_else false true true d x y never h = elim never [ ]
or_else true false false true x y never h = elim never [ ]
or_else true false true d x y never h = elim never [ ]
or_else true true c d x y never h = elim never [ ]

one_first : (x y : Float) → T (fits binary32 x) → T (fits binary32 y) → T (not (is_nan x)) → T (not (is_nan y)) → (before y x ≡ not (before x y)) ⊎ (x ≡ y)
unfolding before
one_first x y p q h k = or_else (lt x y) (lt y x) (eq x y) (eq y x) x y (ordered x y h k) (one_float binary32 x y p q)

other_way : (b c : Bool) (x y : Float) → (c ≡ not b) ⊎ (x ≡ y) → (cond b x y ≡ cond c y x) × (cond b y x ≡ cond c x y)
other_way true c x y (inl e) = (rw e, rw e)
other_way false c x y (inl e) = (rw e, rw e)
other_way true true x y (inr e) = (e, sym e)
other_way true false x y (inr e) = (refl, refl)
other_way false true x y (inr e) = (refl, refl)
other_way false false x y (inr e) = (sym e, e)

min_numbers : (x y : Float) → T (not (is_nan x)) → T (not (is_nan y)) → min_of x y ≡ cond (before x y) x y
unfolding min_of
min_numbers x y h k = rw (is_false (is_nan x) h, is_false (is_nan y) k)

max_numbers : (x y : Float) → T (not (is_nan x)) → T (not (is_nan y)) → max_of x y ≡ cond (before x y) y x
unfolding max_of
max_numbers x y h k = rw (is_false (is_nan x) h, is_false (is_nan y) k)

-- what holds where one is a NaN and where none is holds always
by_nan : (P : Float → Float → Type 0) → ((y : Float) → P nan y) → ((x : Float) → P x nan) → ((x y : Float) → T (not (is_nan x)) → T (not (is_nan y)) → P x y) → (x y : Float) → P x y
by_nan P l r n x y = elim (either (is_nan x)) [
  | inl h ↦ subst (λ (v : Float). P v y) (sym (nan_is x h)) (l y)
  | inr h ↦ elim (either (is_nan y)) [ inl k ↦ subst (λ (v : Float). P x v) (sym (nan_is y k)) (r x) | inr k ↦ n x y h k ]
]

pub min_comm : (x y : Float) → T (fits binary32 x) → T (fits binary32 y) → min_of x y ≡ min_of y x
min_comm =
    by_nan (λ (x y : Float). T (fits binary32 x) → T (fits binary32 y) → min_of x y ≡ min_of y x) (λ y p q. min_nan_left y ∙ sym (min_nan_right y)) (λ x p q. min_nan_right x ∙ sym (min_nan_left x))
    (λ x y h k p q. min_numbers x y h k ∙ (other_way (before x y) (before y x) x y (one_first x y p q h k)).0 ∙ sym (min_numbers y x k h))

pub max_comm : (x y : Float) → T (fits binary32 x) → T (fits binary32 y) → max_of x y ≡ max_of y x
max_comm =
    by_nan (λ (x y : Float). T (fits binary32 x) → T (fits binary32 y) → max_of x y ≡ max_of y x) (λ y p q. max_nan_left y ∙ sym (max_nan_right y)) (λ x p q. max_nan_right x ∙ sym (max_nan_left x))
    (λ x y h k p q. max_numbers x y h k ∙ (other_way (before x y) (before y x) x y (one_first x y p q h k)).1 ∙ sym (max_numbers y x k h))

-- ---- no number is above the larger or below the smaller
before→le : (x y : Float) → T (before x y) → T (le x y)
unfolding before le
before→le x y h = go (lt x y) (eq x y) (sign_of x) h
  where
    go : (a c s : Bool) → T (a || (c && s)) → T (a || c)
    go true c s h = tt
    go false true s h = tt
    go false false s h = h

not_before→le : (x y : Float) → T (not (is_nan x)) → T (not (is_nan y)) → T (not (before x y)) → T (le y x)
unfolding before
not_before→le x y h k n = not_lt→le x y h k (go (lt x y) (eq x y && sign_of x) n)
  where
    go : (a c : Bool) → T (not (a || c)) → T (not a)
    go true c n = n
    go false c n = tt

bounds : (b : Bool) (x y : Float) → T (not (is_nan x)) → T (not (is_nan y)) → (T b → T (le x y)) → (T (not b) → T (le y x)) → (T (le x (cond b y x)) × T (le y (cond b y x))) × (T (le (cond b x y) x) × T (le (cond b x y) y))
bounds true x y h k p q = ((p tt, le_self y k), (le_self x h, p tt))
bounds false x y h k p q = ((le_self x h, q tt), (q tt, le_self y k))

numbers : (x y : Float) → T (not (is_nan x)) → T (not (is_nan y)) → (T (le x (max_of x y)) × T (le y (max_of x y))) × (T (le (min_of x y) x) × T (le (min_of x y) y))
numbers x y h k = rw (max_numbers x y h k, min_numbers x y h k) (bounds (before x y) x y h k (before→le x y) (not_before→le x y h k))

pub max_left : (x y : Float) → T (not (is_nan x)) → T (le x (max_of x y))
max_left = by_nan (λ (x y : Float). T (not (is_nan x)) → T (le x (max_of x y))) (λ y h. absurd (no_nan h)) (λ x h. rw max_nan_right (le_self x h)) (λ x y h k g. (numbers x y h k).0.0)

pub max_right : (x y : Float) → T (not (is_nan y)) → T (le y (max_of x y))
max_right = by_nan (λ (x y : Float). T (not (is_nan y)) → T (le y (max_of x y))) (λ y h. rw max_nan_left (le_self y h)) (λ x h. absurd (no_nan h)) (λ x y h k g. (numbers x y h k).0.1)

pub min_left : (x y : Float) → T (not (is_nan x)) → T (le (min_of x y) x)
min_left = by_nan (λ (x y : Float). T (not (is_nan x)) → T (le (min_of x y) x)) (λ y h. absurd (no_nan h)) (λ x h. rw min_nan_right (le_self x h)) (λ x y h k g. (numbers x y h k).1.0)

pub min_right : (x y : Float) → T (not (is_nan y)) → T (le (min_of x y) y)
min_right = by_nan (λ (x y : Float). T (not (is_nan y)) → T (le (min_of x y) y)) (λ y h. rw min_nan_left (le_self y h)) (λ x h. absurd (no_nan h)) (λ x y h k g. (numbers x y h k).1.1)

-- ---- the clamped
pub clamp_nan : (lo hi : Float) → clamp_of nan lo hi ≡ nan
unfolding clamp_of lt
clamp_nan lo nan = refl
clamp_nan lo (inf s) = refl
clamp_nan lo (fin s m e) = refl

pub clamp_within : (x lo hi : Float) → T (not (is_nan x)) → T (le lo hi) → T (le lo (clamp_of x lo hi)) × T (le (clamp_of x lo hi) hi)
unfolding clamp_of
clamp_within x lo hi h l = go (lt x lo) (lt hi x) (not_lt→le x lo h (le_number_left lo hi l)) (not_lt→le hi x (le_number_right lo hi l) h)
  where
    go : (a b : Bool) → (T (not a) → T (le lo x)) → (T (not b) → T (le x hi)) → T (le lo (cond a lo (cond b hi x))) × T (le (cond a lo (cond b hi x)) hi)
    go true b p q = (le_self lo (le_number_left lo hi l), l)
    go false true p q = (l, le_self hi (le_number_right lo hi l))
    go false false p q = (p tt, q tt)
