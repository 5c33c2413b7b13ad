-- Every step keeps what holds of the reader's state. Assumes nothing.
use mathlib.Core.Path.{◌≡◌, refl}
use mathlib.Core.Bool.{Bool, true, false}
use Prim.Native.Nat.{ℕ, ◌+◌, ◌*◌, ◌≤◌, ◌<◌}
use native.Mathlib.Omega.{arith}
use borrow.Author.Tests.{ltb-true}
use lib.Dec.{ltb, eqb}
use Rattle.svg.specs.declared.steps.Kind.{Kind}
use Rattle.svg.specs.declared.steps.Kind.TheVariants.{Move, Line, Quad, Cubic}
use Rattle.svg.specs.declared.steps.Symbol.{Symbol}
use Rattle.svg.specs.declared.steps.Symbol.TheVariants.{White, Comma, Sign, Dot, Digit, Letter, Close, Other}
use Rattle.svg.specs.declared.steps.Place.{Place}
use Rattle.svg.specs.declared.steps.Place.TheVariants.{AtStart, AtLetter, AtSign, InWhole, AtPoint, InFraction, AtGap, AtComma, AtClose}
use Rattle.svg.specs.declared.steps.Num.{Num}
use Rattle.svg.specs.declared.steps.State.{State}
use Rattle.svg.specs.declared.steps.Fault.TheVariants.{TooLong}
use Rattle.svg.specs.declared.steps.Step.{Step}
use Rattle.svg.specs.declared.steps.Step.TheVariants.{Go, Lettered, Shut, Bad}
use Rattle.svg.specs.Language.{pick, by, arity}
use Rattle.svg.specs.Machine.{Held, Sound, num, st, digit_of, whole_digit, fraction_digit, first_letter, opening, move, moved, finished}
use Rattle.svg.specs.First.{arity_pos, next_lt}
use Rattle.svg.specs.Orderly.{digit_small}
use Rattle.svg.proofs.Places.{fresh}

abbrev pub SoundStep : Step → Type 0
SoundStep (Go s) = Sound s
SoundStep (Lettered s) = Sound s
SoundStep (Shut s) = Sound s
SoundStep (Bad c j) = Unit {0}

pub finished_sound : (s : State) → Sound s → Sound (finished s)
finished_sound s S = record { group = next_lt s.kind s.have S.group; held = S.held }

module _ (k : Kind) (h : ℕ) (m : Num) (d : ℕ) (g : h < arity k) (H : Held m) (l : d ≤ 9) where
  whole_way : (t : Bool) → ltb m.before 9 ≡ t → SoundStep (pick t (Go (st InWhole k h (num m.negative (m.n * 10 + d) (m.before + 1) m.behind m.from))) (Bad TooLong m.from))
  whole_way true e =
      let b = ltb-true m.before 9 e in
      record { group = g; held = record { before = omega arith; behind = H.behind; small = digit_small (m.before + m.behind) (m.before + 1 + m.behind) m.n d (omega arith) H.small l } }
  whole_way false e = tt

  whole_sound : SoundStep (whole_digit k h m d)
  whole_sound = whole_way (ltb m.before 9) refl

  fraction_way : (t : Bool) → ltb m.behind 9 ≡ t → SoundStep (pick t (Go (st InFraction k h (num m.negative (m.n * 10 + d) m.before (m.behind + 1) m.from))) (Bad TooLong m.from))
  fraction_way true e =
      let b = ltb-true m.behind 9 e in
      record { group = g; held = record { before = H.before; behind = omega arith; small = digit_small (m.before + m.behind) (m.before + (m.behind + 1)) m.n d (omega arith) H.small l } }
  fraction_way false e = tt

  fraction_sound : SoundStep (fraction_digit k h m d)
  fraction_sound = fraction_way (ltb m.behind 9) refl

by_sound : (w c : Step) (s : Bool → Step) (p : Step) (f : ℕ → Step) (l : Kind → Step) (z o : Step) (y : Symbol)
    → SoundStep w → SoundStep c → ((b : Bool) → SoundStep (s b)) → SoundStep p → ((d : ℕ) → d ≤ 9 → SoundStep (f d)) → ((k : Kind) → SoundStep (l k)) → SoundStep z → SoundStep o
    → digit_of y ≤ 9 → SoundStep (by w c s p f l z o y)
by_sound w c s p f l z o White W C S P F L Z O h = W
by_sound w c s p f l z o Comma W C S P F L Z O h = C
by_sound w c s p f l z o (Sign b) W C S P F L Z O h = S b
by_sound w c s p f l z o Dot W C S P F L Z O h = P
by_sound w c s p f l z o (Digit d) W C S P F L Z O h = F d h
by_sound w c s p f l z o (Letter k) W C S P F L Z O h = L k
by_sound w c s p f l z o Close W C S P F L Z O h = Z
by_sound w c s p f l z o Other W C S P F L Z O h = O

kept : (p : Place) (k : Kind) (h : ℕ) (m : Num) → h < arity k → Held m → Sound (st p k h m)
kept p k h m g H = record { group = g; held = H }

first_sound : (k : Kind) (h : ℕ) (m : Num) (i : ℕ) → Held m → (l : Kind) → SoundStep (first_letter k h m i l)
first_sound k h m i H Move = kept AtLetter Move 0 m (omega arith) H
first_sound k h m i H Line = tt
first_sound k h m i H Quad = tt
first_sound k h m i H Cubic = tt

pick_sound : (t : Bool) (a b : Step) → SoundStep a → SoundStep b → SoundStep (pick t a b)
pick_sound true a b A B = A
pick_sound false a b A B = B

opening_sound : (k : Kind) (h i : ℕ) → h < arity k → (w c : Step) (l : Kind → Step) (z : Step) (y : Symbol) → SoundStep w → SoundStep c → ((k : Kind) → SoundStep (l k)) → SoundStep z → digit_of y ≤ 9 → SoundStep (opening k h i w c l z y)
opening_sound k h i g w c l z y W C L Z d =
    by_sound w c _ _ _ l z _ y W C (λ s. kept AtSign k h (num s 0 0 0 i) g (fresh s i)) (kept AtPoint k h (num false 0 0 0 i) g (fresh false i)) (λ d e. whole_sound k h (num false 0 0 0 i) d g (fresh false i) e) L Z tt d

move_sound : (p : Place) (k : Kind) (h : ℕ) (m : Num) (i : ℕ) (y : Symbol) → h < arity k → Held m → digit_of y ≤ 9 → SoundStep (move p k h m i y)
move_sound AtStart k h m i y g H d = by_sound _ _ _ _ _ _ _ _ y (kept AtStart k h m g H) tt (λ s. tt) tt (λ d e. tt) (first_sound k h m i H) tt tt d
move_sound AtLetter k h m i y g H d = opening_sound k h i g _ _ _ _ y (kept AtLetter k h m g H) tt (λ l. tt) tt d
move_sound AtSign k h m i y g H d = by_sound _ _ _ _ _ _ _ _ y tt tt (λ s. tt) (kept AtPoint k h m g H) (λ d e. whole_sound k h m d g H e) (λ l. tt) tt tt d
move_sound InWhole k h m i y g H d = by_sound _ _ _ _ _ _ _ _ y tt tt (λ s. tt) (kept AtPoint k h m g H) (λ d e. whole_sound k h m d g H e) (λ l. tt) tt tt d
move_sound AtPoint k h m i y g H d = by_sound _ _ _ _ _ _ _ _ y tt tt (λ s. tt) tt (λ d e. fraction_sound k h m d g H e) (λ l. tt) tt tt d
move_sound InFraction k h m i y g H d = by_sound _ _ _ _ _ _ _ _ y tt tt (λ s. tt) tt (λ d e. fraction_sound k h m d g H e) (λ l. tt) tt tt d
move_sound AtGap k h m i y g H d =
    opening_sound k h i g _ _ _ _ y (kept AtGap k h m g H) (kept AtComma k h m g H) (λ l. pick_sound (eqb h 0) _ _ (kept AtLetter l 0 m (arity_pos l) H) tt) (pick_sound (eqb h 0) _ _ (kept AtClose k 0 m (arity_pos k) H) tt) d
move_sound AtComma k h m i y g H d = opening_sound k h i g _ _ _ _ y (kept AtComma k h m g H) tt (λ l. tt) tt d
move_sound AtClose k h m i y g H d = by_sound _ _ _ _ _ _ _ _ y (kept AtClose k h m g H) tt (λ s. tt) tt (λ d e. tt) (λ l. kept AtLetter l 0 m (arity_pos l) H) (kept AtClose k 0 m (arity_pos k) H) tt d

pub moved_sound : (s : State) (i : ℕ) (y : Symbol) → Sound s → digit_of y ≤ 9 → SoundStep (moved s i y)
moved_sound s i y S d = move_sound s.place s.kind s.have s.num i y S.group S.held d
