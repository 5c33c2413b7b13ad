-- A scene passes where its bases lie inside, all tags are read and none breaks a rule; and nowhere else. Assumes nothing.
use Rattle.std.specs.Prelude.{ℕ, zero, suc, ◌+◌, ◌<◌, ◌≤◌, ◌≡◌, refl, Bool, true, false, length, Ok, Err, Option, Some, None}
use Rattle.std.proofs.Common.{sym, ap, ◌∙◌, subst, arith}
use Rattle.std.proofs.Math.Decide.{ℕ_discrete}
use Rattle.refusals.specs.declared.Refusal.{Refusal}
use Rattle.refusals.specs.Refusals.{Read}
use Rattle.flatten.specs.Call.{start_of}
use Rattle.flatten.specs.declared.tag.Head.{Head}
use Rattle.profile.specs.Reads.{Given, tags, read_at}
use Rattle.profile.specs.Rules.{head_of, segments, subpaths, broken70, broken71, broken72, broken73, broken74, broken75, unless, rule_of, rule_at}
use Rattle.profile.specs.Verdict.{Verdict, passed, first, unread_or, unread_at, against_or, against_at, rules_of, started_by, profile_of}
use Rattle.profile.specs.Walk.{AllRead}
use Rattle.profile.specs.Parts.{read_head_is}
use Rattle.profile.specs.declared.rules.Rule.{Rule}
use Rattle.profile.specs.declared.rules.Facts.{Facts}
use Rattle.profile.specs.declared.sheet.Passed.{Passed}

-- the first n tags break no rule
abbrev pub AllFine : Given → ℕ → Type 0
AllFine g n = (i : ℕ) → i < n → rule_at g i ≡ None

-- ---- the first tag that tells something

-- where none does, nothing is told
pub none_tells : (f : ℕ → Verdict → Verdict) (v : Verdict) (i n : ℕ) → ((j : ℕ) → j < i + n → (w : Verdict) → f j w ≡ w) → first f i n v ≡ v
unfolding first
none_tells f v i zero k = refl
none_tells f v i (suc n) k = k i (omega arith) (first f (suc i) n v) ∙ none_tells f v (suc i) n (λ j l. k j (omega arith))

-- where none does before tag j, it is what tag j tells
pub one_tells : (f : ℕ → Verdict → Verdict) (v u : Verdict) (i n j : ℕ) → i ≤ j → j < i + n → ((k : ℕ) → k < j → (w : Verdict) → f k w ≡ w) → ((w : Verdict) → f j w ≡ u) → first f i n v ≡ u
unfolding first
one_tells f v u i zero j a l k t = absurd (omega arith)
one_tells f v u i (suc n) j a l k t =
    elim (ℕ_discrete i j) [
      | yes e ↦ ap (λ (m : ℕ). f m (first f (suc i) n v)) e ∙ t (first f (suc i) n v)
      | no ne ↦ k i (omega (arith, ne)) (first f (suc i) n v) ∙ one_tells f v u (suc i) n j (omega (arith, ne)) (omega arith) k t
    ]

pub read_silent : (g : Given) (n : ℕ) → AllRead g n → (j : ℕ) → j < n → (w : Verdict) → unread_at g j w ≡ w
unfolding unread_or
read_silent g n all j l w = rw (all j l)

pub fine_silent : (g : Given) (n : ℕ) → AllFine g n → (j : ℕ) → j < n → (w : Verdict) → against_at g j w ≡ w
unfolding against_or
fine_silent g n all j l w = rw (all j l)

pub all_read : (g : Given) → AllRead g (tags g) → (v : Verdict) → first (unread_at g) 0 (tags g) v ≡ v
all_read g all v = none_tells (unread_at g) v 0 (tags g) (λ j l. read_silent g (tags g) all j (omega arith))

pub all_fine : (g : Given) → AllFine g (tags g) → rules_of g ≡ passed (segments g (tags g)) (subpaths g (tags g))
unfolding rules_of
all_fine g all = none_tells (against_at g) _ 0 (tags g) (λ j l. fine_silent g (tags g) all j (omega arith))

-- ---- a scene that passes

pub record Sound (g : Given) : Type 0 where
  pub bases : (start_of g.layout (length g.scene)).stop ≡ None
  pub read : AllRead g (tags g)
  pub fine : AllFine g (tags g)

pub passes : (g : Given) → Sound g → profile_of g ≡ passed (segments g (tags g)) (subpaths g (tags g))
unfolding profile_of started_by
passes g s = rw s.bases (all_read g s.read (rules_of g) ∙ all_fine g s.fine)

-- what passes was told by no tag
silent_all : (f : ℕ → Verdict → Verdict) (P : ℕ → Type 0) (n m : ℕ) → ((j : ℕ) (w : Verdict) → f j w ≡ passed n m → P j × (w ≡ passed n m))
    → (v : Verdict) (i k : ℕ) → first f i k v ≡ passed n m → ((j : ℕ) → i ≤ j → j < i + k → P j) × (v ≡ passed n m)
unfolding first
silent_all f P n m one v i zero e = ((λ j a l. absurd (omega arith)), e)
silent_all f P n m one v i (suc k) e =
    let here = one i (first f (suc i) k v) e in
    let rest = silent_all f P n m one v (suc i) k here.1 in
    ((λ j a l. elim (ℕ_discrete i j) [ yes same ↦ subst P same here.0 | no ne ↦ rest.0 j (omega (arith, ne)) (omega arith) ]), rest.1)

read_one : (g : Given) (n m j : ℕ) (w : Verdict) → unread_at g j w ≡ passed n m → (read_at g j ≡ Ok (head_of g j)) × (w ≡ passed n m)
unfolding unread_or
read_one g n m j w = go (read_at g j) refl
  where
    go : (r : Read Head) → read_at g j ≡ r → unread_or r j w ≡ passed n m → (read_at g j ≡ Ok (head_of g j)) × (w ≡ passed n m)
    go (Ok h) e k = (e ∙ ap Ok (read_head_is g j h e), k)
    go (Err why) e k = let z : ◌≡◌ {A = ℕ} 0 1 = cc in absurd (omega arith)

fine_one : (g : Given) (n m j : ℕ) (w : Verdict) → against_at g j w ≡ passed n m → (rule_at g j ≡ None) × (w ≡ passed n m)
unfolding against_or
fine_one g n m j w = go (rule_at g j)
  where
    go : (f : Option Rule) → against_or f j w ≡ passed n m → (f ≡ None) × (w ≡ passed n m)
    go None k = (refl, k)
    go (Some rule) k = let z : ◌≡◌ {A = ℕ} 0 1 = cc in absurd (omega arith)

pub record PassedWith (g : Given) (n m : ℕ) : Type 0 where
  pub sound : Sound g
  pub segments : n ≡ segments g (tags g)
  pub subpaths : m ≡ subpaths g (tags g)

pub passed_says : (g : Given) (n m : ℕ) → profile_of g ≡ passed n m → PassedWith g n m
unfolding profile_of started_by rules_of
passed_says g n m = go (start_of g.layout (length g.scene)).stop refl
  where
    same : (p q : Passed) → ◌≡◌ {A = Verdict} (Ok p) (Ok q) → p ≡ q
    same p q e = cc

    go : (s : Option Refusal) → (start_of g.layout (length g.scene)).stop ≡ s → started_by s (first (unread_at g) 0 (tags g) (rules_of g)) ≡ passed n m → PassedWith g n m
    go (Some why) b e = let z : ◌≡◌ {A = ℕ} 0 1 = cc in absurd (omega arith)
    go None b e =
        let r = silent_all (unread_at g) (λ j. read_at g j ≡ Ok (head_of g j)) n m (read_one g n m) (rules_of g) 0 (tags g) e in
        let f = silent_all (against_at g) (λ j. rule_at g j ≡ None) n m (fine_one g n m) _ 0 (tags g) r.1 in
        record {
          sound = record { bases = b; read = λ j l. r.0 j (omega arith) (omega arith); fine = λ j l. f.0 j (omega arith) (omega arith) };
          segments = sym (ap (λ (p : Passed). p.segments) (same _ _ f.1));
          subpaths = sym (ap (λ (p : Passed). p.subpaths) (same _ _ f.1));
        }

-- ---- a tag that breaks no rule

pub record FineFacts (f : Facts) : Type 0 where
  pub r70 : broken70 f ≡ false
  pub r71 : broken71 f ≡ false
  pub r72 : broken72 f ≡ false
  pub r73 : broken73 f ≡ false
  pub r74 : broken74 f ≡ false
  pub r75 : broken75 f ≡ false

unless_fine : (b : Bool) (rule : Rule) (next : Option Rule) → unless b rule next ≡ None → (b ≡ false) × (next ≡ None)
unfolding unless
unless_fine false rule next e = (refl, e)
unless_fine true rule next e = let z : ◌≡◌ {A = ℕ} 0 1 = cc in absurd (omega arith)

pub fine_says : (f : Facts) → rule_of f ≡ None → FineFacts f
unfolding rule_of
fine_says f e =
    let a = unless_fine (broken70 f) _ _ e in
    let b = unless_fine (broken71 f) _ _ a.1 in
    let c = unless_fine (broken72 f) _ _ b.1 in
    let d = unless_fine (broken73 f) _ _ c.1 in
    let h = unless_fine (broken74 f) _ _ d.1 in
    let k = unless_fine (broken75 f) _ _ h.1 in
    record { r70 = a.0; r71 = b.0; r72 = c.0; r73 = d.0; r74 = h.0; r75 = k.0 }

pub fine_is : (f : Facts) → FineFacts f → rule_of f ≡ None
unfolding rule_of unless
fine_is f k = rw (k.r70, k.r71, k.r72, k.r73, k.r74, k.r75)
