-- Lines that lead from a to b, in any order: each point is a start as often as an end, but that a is once more a start and b once more an end. Assumes nothing.
use Rattle.std.specs.Prelude.{ℕ, zero, suc, ◌+◌, ◌-◌, ◌*◌, ◌/◌, ◌^◌, ◌≡◌, refl, Bool, true, false, ◌&&◌, cond, List, [], ◌∷◌, ◌++◌, T, eqb, ℤ, Float}
use Rattle.std.proofs.Common.{sym, ap, ◌∙◌, inl, inr, arith}
use Rattle.std.proofs.Math.Nat.{zero-div}
use Rattle.std.specs.Float.{nan, inf, fin, binary32}
use Rattle.std.specs.Float.Ieee.{up, down, size, span, climb, to_bits}
use Rattle.laws.specs.Same.{Same, is_zero, null}
use Rattle.spiral.specs.Points.{SamePoint}
use Rattle.spiral.specs.declared.util.Vec2.{Vec2}
use Rattle.drawing.specs.Sheet.{Event, line, no_count, no_join}
use Rattle.curve.specs.Chain.{Chain}
use Rattle.records.specs.Record.{key, once}
use Rattle.watertight.specs.Count.{starts_by, ends_by}
use Rattle.watertight.specs.Balance.{AllLines, open_ends, starts_append, ends_append}
use Rattle.strokes.specs.Number.{is_at}

-- ---- points that are equal as numbers count as one
zero_word : (s : Bool) (e : ℤ) → key (to_bits binary32 (fin s zero e)) ≡ 0
unfolding to_bits size span climb key
zero_word s e =
    let h : 0 * up e * 2 ^ 149 / down e ≡ 0 = ap (λ (n : ℕ). n / down e) (null (up e) (2 ^ 149)) ∙ zero-div (down e) in
    ap (λ (n : ℕ). key (cond s 0x80000000 0 + (size n - 24) * 0x800000 + n / 2 ^ (size n - 24))) h ∙ go s
  where
    go : (s : Bool) → key (cond s 0x80000000 0 + (size 0 - 24) * 0x800000 + 0 / 2 ^ (size 0 - 24)) ≡ 0
    go true = refl
    go false = refl

is_zero_word : (x : Float) → T (is_zero x) → key (to_bits binary32 x) ≡ 0
is_zero_word nan z = absurd z
is_zero_word (inf s) z = absurd z
is_zero_word (fin s (suc m) e) z = absurd z
is_zero_word (fin s zero e) z = zero_word s e

pub same_word_lem : (x y : Float) → Same x y → key (to_bits binary32 x) ≡ key (to_bits binary32 y)
same_word_lem x y (inl p) = ap (λ (z : Float). key (to_bits binary32 z)) p
same_word_lem x y (inr z) = is_zero_word x z.0 ∙ sym (is_zero_word y z.1)

pub at_same : (x y : ℕ) (p q : Vec2) → SamePoint p q → is_at x y p ≡ is_at x y q
at_same x y p q s =
    ap (λ (w : ℕ). once (eqb w x && eqb (key (to_bits binary32 p.y)) y)) (same_word_lem p.x q.x s.0)
    ∙ ap (λ (w : ℕ). once (eqb (key (to_bits binary32 q.x)) x && eqb w y)) (same_word_lem p.y q.y s.1)

-- ---- lists
pub all_split : (xs ys : List Event) → AllLines (xs ++ ys) → AllLines xs × AllLines ys
unfolding AllLines
all_split [] ys h = (tt, h)
all_split (line p q ∷ xs) ys h = all_split xs ys h
all_split (no_count ∷ xs) ys h = absurd h
all_split (no_join ∷ xs) ys h = absurd h

-- ---- from a to b

-- a count that sees no sign of a zero
abbrev pub Blind : (Vec2 → ℕ) → Type 0
Blind at = (p q : Vec2) → SamePoint p q → at p ≡ at q

pub record Leads (a b : Vec2) (es : List Event) : Type 0 where
  pub is : (at : Vec2 → ℕ) → Blind at → starts_by at es + at b ≡ ends_by at es + at a

-- from a to b, and from c to d
pub record Pair (a b c d : Vec2) (es : List Event) : Type 0 where
  pub is : (at : Vec2 → ℕ) → Blind at → starts_by at es + at b + at d ≡ ends_by at es + at a + at c

-- nothing is drawn, and the two points are equal as numbers
pub none : (a b : Vec2) → SamePoint a b → Leads a b []
unfolding starts_by ends_by
none a b s = record { is = λ (at : Vec2 → ℕ) (blind : Blind at). omega (arith, blind a b s) }

pub then : (p q r : Vec2) (es : List Event) → Leads q r es → Leads p r (line p q ∷ es)
unfolding starts_by ends_by
then p q r es l = record { is = λ (at : Vec2 → ℕ) (blind : Blind at). omega (arith, l.is at blind) }

pub one : (p q : Vec2) → Leads p q (line p q ∷ [])
unfolding starts_by ends_by
one p q = record { is = λ (at : Vec2 → ℕ) (blind : Blind at). omega arith }

pub append : (a b c : Vec2) (xs ys : List Event) → Leads a b xs → Leads b c ys → Leads a c (xs ++ ys)
append a b c xs ys l m = record { is = λ (at : Vec2 → ℕ) (blind : Blind at). omega (arith, l.is at blind, m.is at blind, starts_append at xs ys, ends_append at xs ys) }

-- the ends may be given as other points that are equal as numbers
pub given : (a b c d : Vec2) (es : List Event) → SamePoint a c → SamePoint b d → Leads a b es → Leads c d es
given a b c d es s t l = record { is = λ (at : Vec2 → ℕ) (blind : Blind at). omega (arith, l.is at blind, blind a c s, blind b d t) }

-- a chain leads from its first point to its last, or back
pub chain_leads : (a b : Vec2) (es : List Event) → AllLines es → Chain false a b es → Leads a b es
chain_leads a b es l h = record { is = λ (at : Vec2 → ℕ) (blind : Blind at). open_ends at a b es l h }

pub chain_back : (a b : Vec2) (es : List Event) → AllLines es → Chain true a b es → Leads b a es
unfolding AllLines Chain starts_by ends_by
chain_back a b [] l h = record { is = λ (at : Vec2 → ℕ) (blind : Blind at). ap (λ (p : Vec2). 0 + at p) h }
chain_back a b (line p q ∷ es) l h =
    let k = chain_back p b es l h.1 in
    record { is = λ (at : Vec2 → ℕ) (blind : Blind at). omega (arith, k.is at blind, ap at h.0) }
chain_back a b (no_count ∷ es) l h = absurd l
chain_back a b (no_join ∷ es) l h = absurd l

-- ---- two at a time
module _ (a b c d : Vec2) (xs ys : List Event) where
  pub both : Leads a b xs → Leads c d ys → Pair a b c d (xs ++ ys)
  both l m = record { is = λ (at : Vec2 → ℕ) (blind : Blind at). omega (arith, l.is at blind, m.is at blind, starts_append at xs ys, ends_append at xs ys) }

  -- the first goes on, and the second came from there
  pub further : (e f : Vec2) → Pair a b c d xs → Pair b e f c ys → Pair a e f d (xs ++ ys)
  further e f l m = record { is = λ (at : Vec2 → ℕ) (blind : Blind at). omega (arith, l.is at blind, m.is at blind, starts_append at xs ys, ends_append at xs ys) }

  -- the first is led into the second
  pub closed_by : Pair a b c d xs → Leads b c ys → Leads a d (xs ++ ys)
  closed_by l m = record { is = λ (at : Vec2 → ℕ) (blind : Blind at). omega (arith, l.is at blind, m.is at blind, starts_append at xs ys, ends_append at xs ys) }

-- the order of the lines is free
pub reorder : (a b : Vec2) (xs ys us vs : List Event) → Leads a b ((xs ++ us) ++ (ys ++ vs)) → Leads a b ((xs ++ ys) ++ (us ++ vs))
reorder a b xs ys us vs l =
    record {
      is = λ (at : Vec2 → ℕ) (blind : Blind at). omega (
        arith,
        l.is at blind,
        starts_append at (xs ++ us) (ys ++ vs),
        starts_append at xs us,
        starts_append at ys vs,
        starts_append at (xs ++ ys) (us ++ vs),
        starts_append at xs ys,
        starts_append at us vs,
        ends_append at (xs ++ us) (ys ++ vs),
        ends_append at xs us,
        ends_append at ys vs,
        ends_append at (xs ++ ys) (us ++ vs),
        ends_append at xs ys,
        ends_append at us vs,
      );
    }

-- a way there, with what is left out, and a way back
pub balanced : (a b : Vec2) (xs ys us : List Event) → Leads a b (xs ++ us) → Leads b a ys → (at : Vec2 → ℕ) → Blind at → starts_by at ((xs ++ ys) ++ us) ≡ ends_by at ((xs ++ ys) ++ us)
balanced a b xs ys us l m at blind =
    omega (
      arith,
      l.is at blind,
      m.is at blind,
      starts_append at xs us,
      starts_append at (xs ++ ys) us,
      starts_append at xs ys,
      ends_append at xs us,
      ends_append at (xs ++ ys) us,
      ends_append at xs ys,
    )
