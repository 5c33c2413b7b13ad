-- What accepted commands mean are subpaths of numbers that end where they started. Assumes nothing.
use Rattle.std.specs.Prelude.{ℕ, ◌≡◌, refl, Bool, true, false, ◌&&◌, cond, List, [], ◌∷◌, ◌++◌, eqb, Float}
use Rattle.std.proofs.Common.{sym, ap, ◌∙◌, subst, append-nil, arith}
use Rattle.std.specs.Float.{nan, inf, fin, binary32}
use Rattle.std.specs.Float.Ieee.{of_bits, is_nan}
use Rattle.std.specs.Float.Ieee.Bits.{is_true}
use Rattle.std.specs.Float.Ieee.Scale.{finite}
use Rattle.laws.specs.Same.{same_refl}
use Rattle.spiral.specs.Util.{has_nan}
use Rattle.spiral.specs.Points.{same_point→eq}
use Rattle.scene.specs.Reading.{all_finite}
use Rattle.pattern.specs.Every.{Every, none, more}
use Rattle.pattern.specs.Commands.{point_of, same, words_of, floats_of, numbers, Segment, line, spots, target, Command, move, draw, end, number_of, Outcome, named}
use Rattle.pattern.specs.Meaning.{Subpath, subpath, end_of, closing, Unfinished, nothing, begun, finished_by, finished, goes_on, meant, all_spots, fresh, next, kept, accepted}
use Rattle.pattern.specs.Encoded.{both_true, spots_more, end_more, by_answer}
use Rattle.pattern.specs.declared.pen.Spot.{Spot}

every_append : {A : Type 0} {P : A → Type 0} {xs ys : List A} → Every P xs → Every P ys → Every P (xs ++ ys)
every_append none k = k
every_append (more p h) k = more p (every_append h k)

-- it has a segment, its coordinates are numbers, and it ends where it started, as numbers
pub record Closed (s : Subpath) : Type 0 where
  pub first : Segment
  pub others : List Segment
  pub segments : s.segments ≡ first ∷ others
  pub sound : numbers (words_of (s.start ∷ all_spots s.segments)) ≡ true
  pub shut : same (end_of s.start s.segments) s.start ≡ true

-- ---- numbers

pub numbers_append : (xs ys : List ℕ) → numbers xs ≡ true → numbers ys ≡ true → numbers (xs ++ ys) ≡ true
unfolding floats_of all_finite
numbers_append [] ys h k = k
numbers_append (x ∷ xs) ys h k =
    let b = both_true (finite (of_bits binary32 x)) (numbers xs) h in
    rw b.0 (numbers_append xs ys b.1 k)

pub numbers_parts : (xs ys : List ℕ) → numbers (xs ++ ys) ≡ true → (numbers xs ≡ true) × (numbers ys ≡ true)
unfolding floats_of all_finite
numbers_parts [] ys h = (refl, h)
numbers_parts (x ∷ xs) ys h =
    let b = both_true (finite (of_bits binary32 x)) (numbers (xs ++ ys)) h in
    let k = numbers_parts xs ys b.1 in
    (rw b.0 k.0, k.1)

finite_not_nan : (x : Float) → finite x ≡ true → is_nan x ≡ false
unfolding is_nan
finite_not_nan nan h = let z : ◌≡◌ {A = ℕ} 0 1 = cc in absurd (omega arith)
finite_not_nan (inf s) h = refl
finite_not_nan (fin s m e) h = refl

-- a point of numbers equals itself
pub same_self : (p : Spot) → numbers (words_of (p ∷ [])) ≡ true → same p p ≡ true
unfolding same words_of floats_of all_finite has_nan
same_self p h =
    let b = both_true (finite (of_bits binary32 p.x)) (finite (of_bits binary32 p.y) && true) h in
    let c = both_true (finite (of_bits binary32 p.y)) true b.1 in
    is_true _ (same_point→eq (point_of p) (point_of p) (rw (finite_not_nan _ b.0, finite_not_nan _ c.0) tt) (same_refl _, same_refl _))

-- ---- what is open, and what finishes it

pub record Sound (s : Subpath) : Type 0 where
  pub start : numbers (words_of (s.start ∷ [])) ≡ true
  pub all : numbers (words_of (s.start ∷ all_spots s.segments)) ≡ true

OpenSound : Unfinished → Type 0
OpenSound nothing = Unit {0}
OpenSound (begun s) = Sound s

-- one segment more
sound_more : (p : Spot) (gs : List Segment) (g : Segment) → Sound (subpath p gs) → numbers (words_of (spots g)) ≡ true → Sound (subpath p (gs ++ (g ∷ [])))
sound_more p gs g h k =
    record { start = h.start; all = ap numbers (spots_more p gs g) ∙ numbers_append (words_of (p ∷ all_spots gs)) (words_of (spots g)) h.all k }

closes : (p : Spot) (g : Segment) (gs : List Segment) → Sound (subpath p (g ∷ gs)) → (t : Bool) → same (end_of p (g ∷ gs)) p ≡ t
    → Closed (subpath p ((g ∷ gs) ++ cond t [] (line p ∷ [])))
unfolding spots target
closes p g gs h true e =
    let nil = append-nil (g ∷ gs) in
    record {
      first = g;
      others = gs ++ [];
      segments = refl;
      sound = subst (λ (hs : List Segment). numbers (words_of (p ∷ all_spots hs)) ≡ true) (sym nil) h.all;
      shut = subst (λ (hs : List Segment). same (end_of p hs) p ≡ true) (sym nil) e;
    }
closes p g gs h false e =
    record {
      first = g;
      others = gs ++ (line p ∷ []);
      segments = refl;
      sound = (sound_more p (g ∷ gs) (line p) h h.start).all;
      shut = ap (λ (q : Spot). same q p) (end_more p (g ∷ gs) (line p)) ∙ same_self p h.start;
    }

finished_closed : (u : Unfinished) → OpenSound u → Every Closed (finished u)
unfolding finished finished_by closing OpenSound
finished_closed nothing h = none
finished_closed (begun s) h = go s.start s.segments h
  where
    go : (p : Spot) (gs : List Segment) → Sound (subpath p gs) → Every Closed (finished_by p gs)
    go p [] h = none
    go p (g ∷ gs) h = more (closes p g gs h (same (end_of p (g ∷ gs)) p) refl) none

goes_on_lem : (u : Unfinished) (g : Segment) → OpenSound u → numbers (words_of (spots g)) ≡ true → OpenSound (goes_on u g)
unfolding goes_on OpenSound
goes_on_lem nothing g h k = tt
goes_on_lem (begun s) g h k = sound_more s.start s.segments g h k

abbrev Numbers : Command → Type 0
Numbers command = numbers (named command) ≡ true

meant_closed : (cs : List Command) (u : Unfinished) → OpenSound u → Every Numbers cs → Every Closed (meant u cs)
unfolding meant named OpenSound all_spots
meant_closed [] u h k = none
meant_closed (move p ∷ cs) u h (more n k) = every_append (finished_closed u h) (meant_closed cs (begun (subpath p [])) (record { start = n; all = n }) k)
meant_closed (draw g ∷ cs) u h (more n k) = meant_closed cs (goes_on u g) (goes_on_lem u g h n) k
meant_closed (end ∷ cs) u h (more n k) = every_append (finished_closed u h) (meant_closed cs nothing tt k)

-- ---- accepted commands name numbers

keeps : (t : Bool) (command : Command) (cs : List Command) → (t ≡ true → Numbers command) → Every Numbers cs → Every Numbers (kept t command cs)
unfolding kept
keeps true command cs h k = more (h refl) k
keeps false command cs h k = k

named_numbers : (o : Outcome) (command : Command) → eqb (number_of (next o command).answer) 0 ≡ true → Numbers command
named_numbers o command =
    by_answer o.pen command o.tags o.points (λ o'. eqb (number_of o'.answer) 0 ≡ true → Numbers command)
    (λ answer e f. let z : ◌≡◌ {A = ℕ} 0 1 = cc in absurd (omega arith)) (λ m n f e. n)

all_numbers : (cs : List Command) (o : Outcome) → Every Numbers (accepted o cs)
unfolding accepted
all_numbers [] o = none
all_numbers (command ∷ cs) o = keeps (eqb (number_of (next o command).answer) 0) command (accepted (next o command) cs) (named_numbers o command) (all_numbers cs (next o command))

-- so are the subpaths that they mean
pub all_closed : (tags points : List ℕ) (cs : List Command) → Every Closed (meant nothing (accepted (fresh tags points) cs))
unfolding OpenSound
all_closed tags points cs = meant_closed (accepted (fresh tags points) cs) nothing tt (all_numbers cs (fresh tags points))
