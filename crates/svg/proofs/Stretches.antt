-- Digits at a stretch come to what the table makes of them one by one. Assumes nothing.
use mathlib.Core.Path.{◌≡◌, refl, sym, ap, ◌∙◌, subst}
use mathlib.Core.Bool.{Bool, true, false}
use mathlib.Core.List.{List}
use Prim.Native.Nat.{ℕ, ◌+◌, ◌-◌, ◌*◌, ◌^◌, ◌≤◌, ◌<◌}
use native.Mathlib.Omega.{arith}
use borrow.Author.Tests.{lt-ltb, ltb-true, ltb-false, eqb-true}
use lib.Dec.{ltb}
use lib.ListN.{length, drop, get_or}
use Rattle.pattern.specs.declared.pen.Pen.{Pen}
use Rattle.svg.specs.declared.steps.Kind.{Kind}
use Rattle.svg.specs.declared.steps.Symbol.{Symbol}
use Rattle.svg.specs.declared.steps.Symbol.TheVariants.{Dot, Digit}
use Rattle.svg.specs.declared.steps.Place.{Place}
use Rattle.svg.specs.declared.steps.Place.TheVariants.{AtStart, AtLetter, AtSign, InWhole, AtPoint, InFraction, AtGap, AtComma, AtClose}
use Rattle.svg.specs.declared.steps.Num.{Num}
use Rattle.svg.specs.declared.steps.State.{State}
use Rattle.svg.specs.declared.steps.Step.{Step}
use Rattle.svg.specs.declared.steps.Step.TheVariants.{Go}
use Rattle.svg.specs.declared.hand.Hand.{Hand}
use Rattle.std.specs.Prelude.{Ok}
use Rattle.svg.specs.Language.{digit_byte, symbol_of, mark_of, symbols}
use Rattle.svg.specs.Machine.{num, st, moved, ended, whole_ends, fraction_ends, digit_of, Sound}
use Rattle.svg.specs.Walk.{walk, Left, left, act_by, read_into}
use Rattle.svg.specs.Stretch.{has_point, before_point, behind_point, in_whole, in_fraction, Grows, Onward, Digits}
use Rattle.svg.specs.Orderly.{digit_small}
use Rattle.svg.proofs.Reading.{pick_yes, pick_no, both, symbol_digit, digit_bounds}
use Rattle.svg.proofs.Places.{no_false}
use Rattle.svg.proofs.Sounds.{SoundStep, moved_sound}
use Rattle.svg.proofs.Walks.{unread, byte_digit}

-- ---- reading on

pub onward_none : {text : List ℕ} {s : State} {i : ℕ} → i ≤ length text → Sound s → Onward text s i s i
onward_none l S = record { on = omega arith; within = l; sound = S; same = λ h pen tags points. refl }

pub onward_then : {text : List ℕ} {s t u : State} {i j k : ℕ} → Onward text s i t j → Onward text t j u k → Onward text s i u k
onward_then a b =
    record {
      on = let x = a.on in let y = b.on in omega arith;
      within = b.within;
      sound = b.sound;
      same = λ h pen tags points. a.same h pen tags points ∙ b.same h pen tags points;
    }

module _ (text : List ℕ) (i : ℕ) (y : Symbol) (l : i < length text) (e : y ≡ symbol_of (get_or text i 0)) where
  -- a symbol that ends no number does what the table says
  symbol_read : (s : State) → ended s.place y ≡ false → (h : Hand) (pen : Pen) (tags points : List ℕ)
      → read_into i (left (Ok (walk s h)) pen tags points) (symbols (drop i text)) ≡ read_into (i + 1) (act_by h pen i (moved s i y) tags points) (symbols (drop (i + 1) text))
  unfolding read_into
  symbol_read s n h pen tags points =
      ap (λ ys. read_into i (left (Ok (walk s h)) pen tags points) ys) (unread text i y e l)
      ∙ ap (λ (o : Left). read_into (i + 1) o (symbols (drop (i + 1) text))) (pick_no _ _ _ n)

  onward_one : (s t : State) → Sound s → ended s.place y ≡ false → moved s i y ≡ Go t → Onward text s i t (i + 1)
  onward_one s t S n m =
      record {
        on = omega arith;
        within = omega arith;
        sound = subst SoundStep m (moved_sound s i y S (subst (λ (y : Symbol). digit_of y ≤ 9) (sym e) (byte_digit (get_or text i 0))));
        same = λ h pen tags points. symbol_read s n h pen tags points ∙ ap (λ (x : Step). read_into (i + 1) (act_by h pen i x tags points) (symbols (drop (i + 1) text))) m;
      }

  -- two places at which the symbol does the same
  onward_swap : (s t : State) → Sound t → ended s.place y ≡ false → ended t.place y ≡ false → moved s i y ≡ moved t i y → Onward text s i t i
  onward_swap s t S n o m =
      record {
        on = omega arith;
        within = omega arith;
        sound = S;
        same =
            λ h pen tags points.
            symbol_read s n h pen tags points
            ∙ ap (λ (x : Step). read_into (i + 1) (act_by h pen i x tags points) (symbols (drop (i + 1) text))) m
            ∙ sym (symbol_read t o h pen tags points);
      }

-- ---- digits

pub point_told : (text : List ℕ) (i : ℕ) → has_point text i ≡ true → (i < length text) × (get_or text i 0 ≡ 46)
point_told text i e = let a = both (ltb i (length text)) _ e in (ltb-true i (length text) a.0, eqb-true (get_or text i 0) 46 a.1)

pub grows_whole : (k : Kind) (h : ℕ) (m : Num) → Grows (in_whole k h m)
grows_whole k h m = record { quiet = λ n c d. refl; more = λ n c d i l. pick_yes _ _ _ (lt-ltb c 9 l) }

pub grows_fraction : (k : Kind) (h : ℕ) (m : Num) → Grows (in_fraction k h m)
grows_fraction k h m = record { quiet = λ n c d. refl; more = λ n c d i l. pick_yes _ _ _ (lt-ltb c 9 l) }

module _ {text : List ℕ} {i₀ n₀ c₀ i n c : ℕ} (D : Digits text i₀ n₀ c₀ i n c) (l : i < length text) (b : digit_byte (get_or text i 0) ≡ true) (few : c < 9) where
  abbrev digit : ℕ
  digit = get_or text i 0 - 48

  first_way : (t : Bool) → ltb i₀ i ≡ t → digit_byte (get_or text i₀ 0) ≡ true
  first_way true e = D.first (ltb-true i₀ i e)
  first_way false e = let g = ltb-false i₀ i e in let o = D.on in let same : i ≡ i₀ = omega arith in subst (λ (j : ℕ). digit_byte (get_or text j 0) ≡ true) same b

  small_more : n * 10 + digit < 10 ^ (c + 1 + 9)
  small_more = digit_small (c + 9) (c + 1 + 9) n digit (omega arith) D.small (let u = (digit_bounds (get_or text i 0) b).1 in omega arith)

  pub digits_more : Digits text i₀ n₀ c₀ (i + 1) (n * 10 + digit) (c + 1)
  digits_more =
      record {
        on = let o = D.on in omega arith;
        within = omega arith;
        few = omega arith;
        small = small_more;
        first = λ x. first_way (ltb i₀ i) refl;
        run =
            λ f G S.
            let a = D.run f G S in
            onward_then a (onward_one text i (Digit digit) l (symbol_digit (get_or text i 0) b) (f n c) (f (n * 10 + digit) (c + 1)) a.sound (G.quiet n c digit) (G.more n c digit i few));
      }

-- ---- on both sides of the point

dot_byte : (b : ℕ) → b ≡ 46 → Dot ≡ symbol_of b
unfolding symbol_of mark_of
dot_byte b e = sym (ap symbol_of e)

module _ {text : List ℕ} {s : State} {i : ℕ} (S : Sound s) where
  -- at a sign a symbol of the number does what it does in the digits, and so at a point
  as_whole : (p : Place) → before_point p ≡ true → (y : Symbol) → whole_ends y ≡ false → i < length text → y ≡ symbol_of (get_or text i 0)
      → Onward text (st p s.kind s.have s.num) i (in_whole s.kind s.have s.num s.num.n s.num.before) i
  as_whole AtStart b y w l e = absurd (no_false b)
  as_whole AtLetter b y w l e = absurd (no_false b)
  as_whole AtSign b y w l e = onward_swap text i y l e _ _ (record { group = S.group; held = S.held }) refl w refl
  as_whole InWhole b y w l e = onward_swap text i y l e _ _ (record { group = S.group; held = S.held }) w w refl
  as_whole AtPoint b y w l e = absurd (no_false b)
  as_whole InFraction b y w l e = absurd (no_false b)
  as_whole AtGap b y w l e = absurd (no_false b)
  as_whole AtComma b y w l e = absurd (no_false b)
  as_whole AtClose b y w l e = absurd (no_false b)

  as_fraction : (p : Place) → behind_point p ≡ true → (y : Symbol) → fraction_ends y ≡ false → i < length text → y ≡ symbol_of (get_or text i 0)
      → Onward text (st p s.kind s.have s.num) i (in_fraction s.kind s.have s.num s.num.n s.num.behind) i
  as_fraction AtStart b y w l e = absurd (no_false b)
  as_fraction AtLetter b y w l e = absurd (no_false b)
  as_fraction AtSign b y w l e = absurd (no_false b)
  as_fraction InWhole b y w l e = absurd (no_false b)
  as_fraction AtPoint b y w l e = onward_swap text i y l e _ _ (record { group = S.group; held = S.held }) refl w refl
  as_fraction InFraction b y w l e = onward_swap text i y l e _ _ (record { group = S.group; held = S.held }) w w refl
  as_fraction AtGap b y w l e = absurd (no_false b)
  as_fraction AtComma b y w l e = absurd (no_false b)
  as_fraction AtClose b y w l e = absurd (no_false b)

  pub fraction_ran : behind_point s.place ≡ true → {j n c : ℕ} → Digits text i s.num.n s.num.behind j n c → i < j → Onward text s i (in_fraction s.kind s.have s.num n c) j
  fraction_ran b D l =
      let a = as_fraction s.place b (Digit (get_or text i 0 - 48)) refl (let w = D.within in omega arith) (symbol_digit (get_or text i 0) (D.first l)) in
      onward_then a (D.run (in_fraction s.kind s.have s.num) (grows_fraction s.kind s.have s.num) a.sound)

  module _ (b : before_point s.place ≡ true) {j n c : ℕ} (D : Digits text i s.num.n s.num.before j n c) where
    ran : Onward text s i (in_whole s.kind s.have s.num s.num.n s.num.before) i → Onward text s i (in_whole s.kind s.have s.num n c) j
    ran a = onward_then a (D.run (in_whole s.kind s.have s.num) (grows_whole s.kind s.have s.num) a.sound)

    pub whole_ran : i < j → Onward text s i (in_whole s.kind s.have s.num n c) j
    whole_ran l = ran (as_whole s.place b (Digit (get_or text i 0 - 48)) refl (let w = D.within in omega arith) (symbol_digit (get_or text i 0) (D.first l)))

    -- up to a point, whether or not there are digits before it
    to_point : (t : Bool) → ltb i j ≡ t → j < length text → get_or text j 0 ≡ 46 → Onward text s i (in_whole s.kind s.have s.num n c) j
    to_point true e l d = whole_ran (ltb-true i j e)
    to_point false e l d =
        let o = D.on in
        let g = ltb-false i j e in
        let here : j ≡ i = omega arith in
        ran (as_whole s.place b Dot refl (omega arith) (dot_byte (get_or text i 0) (subst (λ (k : ℕ). get_or text k 0 ≡ 46) here d)))

    pub whole_point : j < length text → get_or text j 0 ≡ 46 → Onward text s i (st AtPoint s.kind s.have (num s.num.negative n c s.num.behind s.num.from)) (j + 1)
    whole_point l d = let a = to_point (ltb i j) refl l d in onward_then a (onward_one text j Dot l (dot_byte (get_or text j 0) d) _ _ a.sound refl refl)
