-- Every file that the reader accepts is of the form, with its numbers in range, and the lines read are those of its chains. Assumes nothing.
use Rattle.std.specs.Prelude.{◌≡◌, refl, ℤ, T, eqb}
use Rattle.std.proofs.Common.{sym, ◌∙◌, eqb→eq}
use Rattle.std.proofs.Math.Path.{ap, subst}
use mathlib.Core.List.{List, [], ◌∷◌, ◌++◌}
use Prim.Native.Nat.{ℕ, zero, suc}
use Rattle.hpgl.specs.Text.{pick, numeral}
use Rattle.hpgl.specs.Form.{Line, Chain, Pen, up, down, letter, command, file_text, lines_of, Range, Within, Inside, Fits}
use Rattle.hpgl.specs.declared.Point.{Point}
use Rattle.hpgl.specs.Reading.{byte_of, num_step, State, start1, start2, start3, free, pen, first, second, Move, go, bad, up_from, down_from, whole, first_of, second_of, move_of, Answer, after, run, read_of}
use Rattle.hpgl.specs.declared.reading.Num.{Num}
use Rattle.hpgl.specs.declared.reading.Num.TheVariants.{None}
use Rattle.hpgl.specs.declared.reading.NumStep.{NumStep}
use Rattle.hpgl.specs.declared.reading.NumStep.TheVariants.{Goes, Done, Wrong, Beyond}
use Rattle.hpgl.specs.declared.reading.Stand.{Stand}
use Rattle.hpgl.specs.declared.reading.Stand.TheVariants.{Fresh, Lifted, Drawn}
use Rattle.hpgl.specs.Numbers.{on, view, text_of, Good, NumSays, num_says}
use Rattle.hpgl.specs.Sound.{is_complete, Chains, Ends, Begun, up_fresh, up_drawn, down_lifted, down_drawn, Filed, no_chains, no_ends}

-- ---- what may follow where the pen stands: chains; before them, PDs; and behind a PU at least one
abbrev Rest : Range → Stand → List ℕ → List Line → Type 0
Rest r Fresh bs ls = Chains r bs ls
Rest r (Lifted q) bs ls = Begun r q bs ls
Rest r (Drawn q) bs ls = Ends r q bs ls

-- ---- what a state says of the bytes behind it: with those read of the command they are what may follow
abbrev opened : Pen → List ℕ → List ℕ
opened k bs = 80 ∷ letter k ∷ bs

Says : Range → State → List ℕ → List Line → Type 0
Says r start1 bs ls = Filed r bs ls
Says r start2 bs ls = Filed r (73 ∷ bs) ls
Says r start3 bs ls = Filed r (73 ∷ 78 ∷ bs) ls
Says r (free c) bs ls = Rest r c bs ls
Says r (pen c p) bs ls = Rest r c (80 ∷ bs) ls
Says r (first c k p q n) bs ls = Good r n → Rest r c (opened k (text_of n ++ bs)) ls
Says r (second c k p x q n) bs ls = Within r x → Good r n → Rest r c (opened k (numeral x ++ (44 ∷ (text_of n ++ bs)))) ls

-- what the rest of the file says carries over one byte
module _ (r : Range) (bs : List ℕ) (rest : ℕ → State → Answer) (holds : (room : ℕ) (s : State) → T (is_complete (rest room s).end) → Says r s bs (rest room s).lines) where
  abbrev Carries : State → List ℕ → ℕ → Move → Type 0
  Carries s t room m = T (is_complete (after rest room m).end) → Says r s t (after rest room m).lines

  literal : (s t : State) (b k at : ℕ) (room : ℕ) → ((ls : List Line) → Says r t bs ls → Says r s (k ∷ bs) ls) → Carries s (b ∷ bs) room (pick (eqb b k) (go t) (bad at))
  unfolding after
  literal s t b k at room f = on (Carries s (b ∷ bs) room) (eqb b k) (go t) (bad at)
      (λ e h. subst (λ (z : ℕ). Says r s (z ∷ bs) (rest room t).lines) (sym (eqb→eq b k e)) (f (rest room t).lines (holds room t h)))
      (λ e h. absurd h)

  whole_says : (at : ℕ) (c : Stand) (k : Pen) (p : ℕ) (t : Point) (room : ℕ) → Inside r t → T (is_complete (after rest room (whole at c k p t)).end) → Rest r c (command k t bs) (after rest room (whole at c k p t)).lines
  unfolding after whole Says
  whole_says at Fresh up p t room i h = up_fresh r t bs (rest room (free (Lifted t))).lines i (holds room (free (Lifted t)) h)
  whole_says at Fresh down p t room i h = absurd h
  whole_says at (Lifted q) up p t room i h = absurd h
  whole_says at (Lifted q) down p t zero i h = absurd h
  whole_says at (Lifted q) down p t (suc room) i h = down_lifted r q t bs (rest room (free (Drawn t))).lines i (holds room (free (Drawn t)) h)
  whole_says at (Drawn q) up p t room i h = up_drawn r q t bs (rest room (free (Lifted t))).lines i (holds room (free (Lifted t)) h)
  whole_says at (Drawn q) down p t zero i h = absurd h
  whole_says at (Drawn q) down p t (suc room) i h = down_drawn r q t bs (rest room (free (Drawn t))).lines i (holds room (free (Drawn t)) h)

  first_step : (at : ℕ) (c : Stand) (k : Pen) (p q : ℕ) (n : Num) (b room : ℕ) (y : NumStep) → NumSays r (eqb b 44) n b y → T (is_complete (after rest room (first_of at c k p q y)).end) → Rest r c (opened k (text_of n ++ (b ∷ bs))) (after rest room (first_of at c k p q y)).lines
  unfolding after first_of Says
  first_step at c k p q n b room (Goes m) v h = subst (λ (t : List ℕ). Rest r c (opened k t) (rest room (first c k p q m)).lines) (sym (v.0 bs)) (holds room (first c k p q m) h v.1)
  first_step at c k p q n b room (Done z) v h =
      let s = second c k p z (suc at) None in
      let e : numeral z ++ (44 ∷ bs) ≡ text_of n ++ (b ∷ bs) = ap (λ (t : List ℕ). t ++ (44 ∷ bs)) (sym v.1) ∙ ap (λ (a : ℕ). text_of n ++ (a ∷ bs)) (sym (eqb→eq b 44 v.0)) in
      subst (λ (t : List ℕ). Rest r c (opened k t) (rest room s).lines) e (unfold Good text_of in holds room s h v.2 tt)
  first_step at c k p q n b room Wrong v h = absurd h
  first_step at c k p q n b room Beyond v h = absurd h

  second_step : (at : ℕ) (c : Stand) (k : Pen) (p : ℕ) (x : ℤ) (q : ℕ) (n : Num) (b room : ℕ) (y : NumStep) → Within r x → NumSays r (eqb b 59) n b y → T (is_complete (after rest room (second_of at c k p x q y)).end) → Rest r c (opened k (numeral x ++ (44 ∷ (text_of n ++ (b ∷ bs))))) (after rest room (second_of at c k p x q y)).lines
  unfolding second_of
  second_step at c k p x q n b room (Goes m) w v h = unfold after Says in subst (λ (t : List ℕ). Rest r c (opened k (numeral x ++ (44 ∷ t))) (rest room (second c k p x q m)).lines) (sym (v.0 bs)) (holds room (second c k p x q m) h w v.1)
  second_step at c k p x q n b room (Done z) w v h =
      let t : Point = record { x = x; y = z } in
      let e : numeral z ++ (59 ∷ bs) ≡ text_of n ++ (b ∷ bs) = ap (λ (l : List ℕ). l ++ (59 ∷ bs)) (sym v.1) ∙ ap (λ (a : ℕ). text_of n ++ (a ∷ bs)) (sym (eqb→eq b 59 v.0)) in
      subst (λ (l : List ℕ). Rest r c (opened k (numeral x ++ (44 ∷ l))) (after rest room (whole at c k p t)).lines) e (unfold command in whole_says at c k p t room (record { x = w; y = v.2 }) h)
  second_step at c k p x q n b room Wrong w v h = unfold after in absurd h
  second_step at c k p x q n b room Beyond w v h = unfold after in absurd h

  up_says : (c : Stand) (p at room : ℕ) → Carries (pen c p) (85 ∷ bs) room (up_from c p at)
  unfolding after up_from Says Good text_of
  up_says Fresh p at room h = holds room (first Fresh up p (suc at) None) h tt
  up_says (Lifted q) p at room h = absurd h
  up_says (Drawn q) p at room h = holds room (first (Drawn q) up p (suc at) None) h tt

  down_says : (c : Stand) (p at room : ℕ) → Carries (pen c p) (68 ∷ bs) room (down_from c p at)
  unfolding after down_from Says Good text_of
  down_says Fresh p at room h = absurd h
  down_says (Lifted q) p at room h = holds room (first (Lifted q) down p (suc at) None) h tt
  down_says (Drawn q) p at room h = holds room (first (Drawn q) down p (suc at) None) h tt

  bad_says : (s : State) (t : List ℕ) (room at : ℕ) → Carries s t room (bad at)
  unfolding after
  bad_says s t room at h = absurd h

  carry : (at : ℕ) (s : State) (b room : ℕ) → Carries s (b ∷ bs) room (move_of r at s b)
  unfolding move_of
  carry at start1 b room = literal start1 start2 b 73 at room (unfold Says in (λ ls h. h))
  carry at start2 b room = literal start2 start3 b 78 at room (unfold Says in (λ ls h. h))
  carry at start3 b room = literal start3 (free Fresh) b 59 at room (unfold Says in (λ ls h. record { rest = bs; bytes = refl; chains = h }))
  carry at (free c) b room = literal (free c) (pen c at) b 80 at room (unfold Says in (λ ls h. h))
  carry at (pen c p) b room =
      let other = pick (eqb b 68) (down_from c p at) (bad at) in
      on (Carries (pen c p) (b ∷ bs) room) (eqb b 85) (up_from c p at) other
      (λ e. subst (λ (z : ℕ). Carries (pen c p) (z ∷ bs) room (up_from c p at)) (sym (eqb→eq b 85 e)) (up_says c p at room))
      (λ e. on (Carries (pen c p) (b ∷ bs) room) (eqb b 68) (down_from c p at) (bad at)
      (λ d. subst (λ (z : ℕ). Carries (pen c p) (z ∷ bs) room (down_from c p at)) (sym (eqb→eq b 68 d)) (down_says c p at room))
      (λ d. bad_says (pen c p) (b ∷ bs) room at))
  carry at (first c k p q n) b room = unfold Says in (λ h g. first_step at c k p q n b room (num_step r (eqb b 44) n (byte_of b)) (num_says r (eqb b 44) n b (byte_of b) (view b) g) h)
  carry at (second c k p x q n) b room = unfold Says in (λ h w g. second_step at c k p x q n b room (num_step r (eqb b 59) n (byte_of b)) w (num_says r (eqb b 59) n b (byte_of b) (view b) g) h)

sound : (r : Range) (bs : List ℕ) (room at : ℕ) (s : State) → T (is_complete (run r room at s bs).end) → Says r s bs (run r room at s bs).lines
unfolding run Says
sound r [] room at start1 h = absurd h
sound r [] room at start2 h = absurd h
sound r [] room at start3 h = absurd h
sound r [] room at (free Fresh) h = no_chains r
sound r [] room at (free (Lifted q)) h = absurd h
sound r [] room at (free (Drawn q)) h = no_ends r q
sound r [] room at (pen c p) h = absurd h
sound r [] room at (first c k p q n) h = absurd h
sound r [] room at (second c k p x q n) h = absurd h
sound r (b ∷ bs) room at s h = carry r bs (λ m t. run r m (suc at) t bs) (λ m t. sound r bs m (suc at) t) at s b room h

-- an accepted file is of the form: here are its chains, and its lines are theirs
pub accepted_form : (r : Range) (room : ℕ) (file : List ℕ) → T (is_complete (read_of r room file).end) → (cs : List Chain) × (file ≡ file_text cs) × ((read_of r room file).lines ≡ lines_of cs) × Fits r cs
unfolding read_of file_text Says
accepted_form r room file h =
    let f : Filed r file (run r room 0 start1 file).lines = sound r file room 0 start1 h in
    (f.chains.chains, f.bytes ∙ ap (λ (t : List ℕ). 73 ∷ 78 ∷ 59 ∷ t) f.chains.bytes, f.chains.lines, f.chains.fits)
