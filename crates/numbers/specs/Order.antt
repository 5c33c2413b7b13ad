-- Of two floats that are no NaN, one is below the other, or they are equal. Equal ones with one sign are one float. Assumes nothing.
use Rattle.std.specs.Prelude.{◌≡◌, ℕ, zero, suc, ◌+◌, ◌*◌, Bool, true, false, not, ◌&&◌, ◌||◌, T, ◌⊎◌, ◌==◌, nat_lt, refl, Float}
use Rattle.std.proofs.Common.{sym, ◌∙◌, inl, inr, lt_irrefl, arith, ltb→lt, nltb→le, lt-ltb, le-ltb, eq-eqb, ne_eqb}
use Rattle.std.proofs.Math.Dec.{eqb-zero-suc, eqb-suc-zero}
use Rattle.std.specs.Float.{nan, inf, fin, Format}
use Rattle.std.specs.Float.Ieee.{up, down, below, level, lt, eq, le, is_nan, fits}
use Rattle.laws.specs.Same.{is_zero, either, null}
use Rattle.laws.specs.Own.{eq→same, fin_unique}
use Rattle.numbers.specs.Words.{sign_of}

-- the three ways that x < y, y < x, x == y and y == x can come out
pub data Ordered : Bool → Bool → Bool → Bool → Type 0 where
  less : Ordered true false false false
  more : Ordered false true false false
  alike : Ordered false false true true

swap : (a b c d : Bool) → Ordered a b c d → Ordered b a d c
swap true false false false less = more
swap false true false false more = less
swap false false true true alike = alike
swap false false false d never = elim never [ ]
swap false false true false never = elim never [ ]
swap false true false true never = elim never [ ]
swap false true true d never = elim never [ ]
swap true false false true never = elim never [ ]
swap true false true d never = elim never [ ]
swap true true c d never = elim never [ ]

-- among negatives, the larger size is below
turn : (a b c d : Bool) → Ordered a b c d → Ordered b a c d
turn true false false false less = more
turn false true false false more = less
turn false false true true alike = alike
turn false false false d never = elim never [ ]
turn false false true false never = elim never [ ]
turn false true false true never = elim never [ ]
turn false true true d never = elim never [ ]
turn true false false true never = elim never [ ]
turn true false true d never = elim never [ ]
turn true true c d never = elim never [ ]

sizes : (a b : ℕ) → Ordered (nat_lt a b) (nat_lt b a) (a == b && true) (b == a && true)
sizes a b = go (either (nat_lt a b)) (either (nat_lt b a))
  where
    go : T (nat_lt a b) ⊎ T (not (nat_lt a b)) → T (nat_lt b a) ⊎ T (not (nat_lt b a)) → Ordered (nat_lt a b) (nat_lt b a) (a == b && true) (b == a && true)
    go (inl h) k =
        let l = ltb→lt a b h in
        rw (lt-ltb a b l, le-ltb b a (omega arith), ne_eqb a b (λ e. lt_irrefl 0 (omega arith)), ne_eqb b a (λ e. lt_irrefl 0 (omega arith))) less
    go (inr h) (inl k) =
        let l = ltb→lt b a k in
        rw (le-ltb a b (omega arith), lt-ltb b a l, ne_eqb a b (λ e. lt_irrefl 0 (omega arith)), ne_eqb b a (λ e. lt_irrefl 0 (omega arith))) more
    go (inr h) (inr k) =
        let l = nltb→le a b h in
        let r = nltb→le b a k in
        rw (le-ltb a b l, le-ltb b a r, eq-eqb a b (omega arith), eq-eqb b a (omega arith)) alike

and_no : (b : Bool) → (b && false) ≡ false
and_no true = refl
and_no false = refl

opposite : (a b : ℕ) → Ordered (below true a false b) (below false b true a) (level true a false b) (level false b true a)
opposite zero zero = alike
opposite zero (suc b) = rw (lt-ltb 0 (0 + suc b) (omega arith), eqb-zero-suc b, eqb-suc-zero b) less
opposite (suc a) zero = rw (lt-ltb 0 (suc a + 0) (omega arith), eqb-suc-zero a, eqb-zero-suc a) less
opposite (suc a) (suc b) = rw (lt-ltb 0 (suc a + suc b) (omega arith), eqb-suc-zero a, eqb-suc-zero b, and_no (suc a == suc b), and_no (suc b == suc a)) less

signed_sizes : (s t : Bool) (a b : ℕ) → Ordered (below s a t b) (below t b s a) (level s a t b) (level t b s a)
signed_sizes false false a b = sizes a b
signed_sizes true true a b = turn (nat_lt a b) (nat_lt b a) (a == b && true) (b == a && true) (sizes a b)
signed_sizes true false a b = opposite a b
signed_sizes false true a b = swap _ _ _ _ (opposite b a)

pub ordered : (x y : Float) → T (not (is_nan x)) → T (not (is_nan y)) → Ordered (lt x y) (lt y x) (eq x y) (eq y x)
unfolding lt eq is_nan
ordered nan y h k = absurd h
ordered (inf s) nan h k = absurd k
ordered (fin s m e) nan h k = absurd k
ordered (inf true) (inf true) h k = alike
ordered (inf true) (inf false) h k = less
ordered (inf false) (inf true) h k = more
ordered (inf false) (inf false) h k = alike
ordered (inf true) (fin t n d) h k = less
ordered (inf false) (fin t n d) h k = more
ordered (fin s m e) (inf true) h k = more
ordered (fin s m e) (inf false) h k = less
ordered (fin s m e) (fin t n d) h k = signed_sizes s t (m * up e * down d) (n * up d * down e)

-- ---- so `<=` is total and reflexive
pub le_self : (x : Float) → T (not (is_nan x)) → T (le x x)
unfolding le
le_self x h = go (lt x x) (eq x x) (ordered x x h h)
  where
    go : (a c : Bool) → Ordered a a c c → T (a || c)
    go false true alike = tt
    go false false never = elim never [ ]
    go true c never = elim never [ ]

pub not_lt→le : (x y : Float) → T (not (is_nan x)) → T (not (is_nan y)) → T (not (lt x y)) → T (le y x)
unfolding le
not_lt→le x y h k n = go (lt x y) (lt y x) (eq x y) (eq y x) (ordered x y h k) n
  where
    go : (a b c d : Bool) → Ordered a b c d → T (not a) → T (b || d)
    go true false false false less n = absurd n
    go false true false false more n = tt
    go false false true true alike n = tt
    go false false false d never n = elim never [ ]
    go false false true false never n = elim never [ ]
    go false true false true never n = elim never [ ]
    go false true true d never n = elim never [ ]
    go true false false true never n = elim never [ ]
    go true false true d never n = elim never [ ]
    go true true c d never n = elim never [ ]

pub lt_once : (x y : Float) → T (not (is_nan x)) → T (not (is_nan y)) → lt x y ≡ true → lt y x ≡ false
lt_once x y h k e = go (lt x y) (lt y x) (eq x y) (eq y x) (ordered x y h k) e
  where
    go : (a b c d : Bool) → Ordered a b c d → a ≡ true → b ≡ false
    go true false false false less e = refl
    go false true false false more e = sym e
    go false false true true alike e = refl
    go false false false d never e = elim never [ ]
    go false false true false never e = elim never [ ]
    go false true false true never e = elim never [ ]
    go false true true d never e = elim never [ ]
    go true false false true never e = elim never [ ]
    go true false true d never e = elim never [ ]
    go true true c d never e = elim never [ ]

-- ---- equal and of one sign
zeros : (f : Format) (x y : Float) → T (fits f x) → T (fits f y) → T (is_zero x) → T (is_zero y) → sign_of x ≡ sign_of y → x ≡ y
unfolding sign_of
zeros f nan y p q z w s = absurd z
zeros f (inf u) y p q z w s = absurd z
zeros f (fin u (suc m) e) y p q z w s = absurd z
zeros f (fin u zero e) nan p q z w s = absurd w
zeros f (fin u zero e) (inf v) p q z w s = absurd w
zeros f (fin u zero e) (fin v (suc n) d) p q z w s = absurd w
zeros f (fin u zero e) (fin v zero d) p q z w s = fin_unique f u 0 e v 0 d p q s (null (up e) (down d) ∙ sym (null (up d) (down e)))

pub one_float : (f : Format) (x y : Float) → T (fits f x) → T (fits f y) → T (eq x y) → sign_of x ≡ sign_of y → x ≡ y
one_float f x y p q h s = elim (eq→same f x y p q h) [ inl e ↦ e | inr z ↦ zeros f x y p q z.0 z.1 s ]

-- ---- only numbers compare
pub le_number_left : (x y : Float) → T (le x y) → T (not (is_nan x))
unfolding le lt eq is_nan
le_number_left nan y h = absurd h
le_number_left (inf s) y h = tt
le_number_left (fin s m e) y h = tt

pub le_number_right : (x y : Float) → T (le x y) → T (not (is_nan y))
unfolding le lt eq is_nan
le_number_right nan nan h = h
le_number_right (inf s) nan h = h
le_number_right (fin s m e) nan h = h
le_number_right x (inf t) h = tt
le_number_right x (fin t n d) h = tt
