-- A file of the form, with room for its lines, is read up to its first number outside the range and refused there: no number is shortened. Assumes nothing.
use Rattle.std.specs.Prelude.{◌≡◌, Bool, not, ◌⊎◌, ℤ, pos, negsuc, T, leb, eqb}
use Rattle.std.proofs.Math.Path.{refl, ap}
use Rattle.std.proofs.Common.{sym, ◌∙◌, inl, inr, ⊎_elim, leb→le, length-append}
use Rattle.std.proofs.Math.Bool.{true, false}
use mathlib.Core.List.{List, [], ◌∷◌, ◌++◌, append_assoc}
use Prim.Native.Nat.{ℕ, zero, suc, ◌+◌, ◌-◌, ◌*◌, ◌/◌, ◌≤◌, ◌<◌}
use native.Mathlib.Omega.{arith}
use Rattle.std.proofs.Math.Dec.{nleb→lt}
use Rattle.std.proofs.Math.ListN.{length}
use Rattle.std.proofs.lemmas.Bool.{lt-leb}
use Rattle.laws.specs.Same.{either}
use Rattle.hpgl.specs.Text.{pick, decimal, numeral}
use Rattle.hpgl.specs.TextLaws.{decimal_small, decimal_more, Shape, one, more, shaped}
use Rattle.hpgl.specs.Form.{Line, Chain, Pen, up, down, letter, command, downs, chains_text, file_text, along, lines_of, Range, most, range_of, Within, Inside, AllInside, Fits}
use Rattle.hpgl.specs.Rounding.{is_within}
use Rattle.hpgl.specs.Reading.{digit, byte_of, kept, num_step, State, start1, start2, start3, free, pen, first, second, go, drew, outside, up_from, down_from, whole, first_of, second_of, move_of, too_far, Answer, answer, after, run, read_of, reading_of, tell, back_of, back_report}
use Rattle.hpgl.specs.Numbers.{on}
use Rattle.hpgl.specs.Accepts.{byte_digit, step_go, begin, num_of, reach, number, first_steps, second_steps, first_ends, opens, command_read, none_left, one_less}
use Rattle.hpgl.specs.Held.{held, behind, with_line, held_downs, held_chains, held_file}
use Rattle.hpgl.specs.Answers.{report}
use Rattle.hpgl.specs.declared.Point.{Point}
use Rattle.hpgl.specs.declared.Table.{Table}
use Rattle.hpgl.specs.declared.reading.Num.{Num}
use Rattle.hpgl.specs.declared.reading.Num.TheVariants.{None, Dashed, Some}
use Rattle.hpgl.specs.declared.reading.NumStep.TheVariants.{Goes, Beyond}
use Rattle.hpgl.specs.declared.reading.Stand.{Stand}
use Rattle.hpgl.specs.declared.reading.Stand.TheVariants.{Fresh, Lifted, Drawn}

drops : (r : Range) (s : Bool) (w : ℕ) → most r s < suc w → kept r s w ≡ Beyond
unfolding kept
drops r s w h = ap (λ (t : Bool). pick t (Goes (Some s w)) Beyond) (lt-leb (suc w) (most r s) h)

step_out : (r : Range) (room at : ℕ) (s : State) (q b : ℕ) (bs : List ℕ) → move_of r at s b ≡ outside q → run r room at s (b ∷ bs) ≡ answer [] (too_far q)
unfolding run after
step_out r room at s q b bs e = ap (after (λ m u. run r m (suc at) u bs) room) e

-- ---- a number outside the range: F n is the state that has read n of it, and q is where it starts
module _ (r : Range) (F : Num → State) (e : ℕ) (steps : (at : ℕ) (n : Num) (b : ℕ) (m : Num) → num_step r (eqb b e) n (byte_of b) ≡ Goes m → move_of r at (F n) b ≡ go (F m)) (q : ℕ) (leaves : (at : ℕ) (n : Num) (b : ℕ) → num_step r (eqb b e) n (byte_of b) ≡ Beyond → move_of r at (F n) b ≡ outside q) (room : ℕ) where
  lead_out : (s : Bool) (d w : ℕ) (ends : Bool) → d ≡ suc w → most r s < suc w → num_step r ends (begin s) (digit d) ≡ Beyond
  unfolding num_step
  lead_out true zero w ends g h = absurd (let z : ⊥ = omega arith in z)
  lead_out true (suc d) w ends g h = ap (kept r true) (let z : d ≡ w = omega arith in z) ∙ drops r true w h
  lead_out false zero w ends g h = absurd (let z : ⊥ = omega arith in z)
  lead_out false (suc d) w ends g h = ap (kept r false) (let z : d ≡ w = omega arith in z) ∙ drops r false w h

  follow_out : (s : Bool) (v d w : ℕ) (ends : Bool) → w ≡ v * 10 + 9 + d → most r s < suc w → num_step r ends (Some s v) (digit d) ≡ Beyond
  unfolding num_step
  follow_out s v d w ends g h = ap (kept r s) (sym g) ∙ drops r s w h

  over : (s : Bool) (n : ℕ) → Shape n → (w : ℕ) → n ≡ suc w → most r s < suc w → (at : ℕ) (ys : List ℕ) → run r room at (F (begin s)) (decimal n ++ ys) ≡ answer [] (too_far q)
  over s n (one d h) w g l at ys =
      ap (λ (t : List ℕ). run r room at (F (begin s)) (t ++ ys)) (decimal_small d h)
      ∙ step_out r room at (F (begin s)) q (48 + d) ys (leaves at (begin s) (48 + d) (ap (num_step r (eqb (48 + d) e) (begin s)) (byte_digit d h) ∙ lead_out s d w (eqb (48 + d) e) g l))
  over s n (more v d g h sh) w k l at ys =
      let u : v ≡ suc (v - 1) = omega arith in
      ap (λ (t : List ℕ). run r room at (F (begin s)) (t ++ ys)) (decimal_more v d g h)
      ∙ ap (run r room at (F (begin s))) (append_assoc (decimal v) ((48 + d) ∷ []) ys)
      ∙ elim (either (leb v (most r s))) [
        | inl m ↦ let i = reach r F e steps room s v sh (v - 1) u (let z : suc (v - 1) ≤ most r s = omega (arith, leb→le v (most r s) m) in z) at ((48 + d) ∷ ys) in
            i.1 ∙ step_out r room i.0 (F (Some s (v - 1))) q (48 + d) ys (leaves i.0 (Some s (v - 1)) (48 + d) (ap (num_step r (eqb (48 + d) e) (Some s (v - 1))) (byte_digit d h) ∙ follow_out s (v - 1) d w (eqb (48 + d) e) (omega arith) l))
        | inr m ↦ over s v sh (v - 1) u (let z : most r s < suc (v - 1) = omega (arith, nleb→lt v (most r s) m) in z) at ((48 + d) ∷ ys)
      ]

  number_over : (z : ℤ) → T (not (is_within r z)) → (at : ℕ) (ys : List ℕ) → run r room at (F None) (numeral z ++ ys) ≡ answer [] (too_far q)
  unfolding numeral is_within
  number_over (pos zero) h at ys = absurd (let g = nleb→lt 0 r.above h in let z : ⊥ = omega (arith, g) in z)
  number_over (pos (suc w)) h at ys = over false (suc w) (shaped (suc w)) w refl (nleb→lt (suc w) r.above h) at ys
  number_over (negsuc w) h at ys =
      step_go r room at (F None) (F Dashed) 45 (decimal (suc w) ++ ys) (steps at None 45 Dashed (unfold num_step byte_of in refl))
      ∙ over true (suc w) (shaped (suc w)) w refl (nleb→lt (suc w) r.below h) (suc at) ys

within : (r : Range) (z : ℤ) → T (is_within r z) → Within r z
unfolding is_within Within
within r (pos n) h = leb→le n r.above h
within r (negsuc n) h = leb→le (suc n) r.below h

command_long : (k : Pen) (t : Point) (ys : List ℕ) → length (command k t ys) ≡ length (command k t []) + length ys
unfolding command
command_long k t ys =
    let a = numeral t.x in
    let b = numeral t.y in
    omega (arith, length-append a (44 ∷ (b ++ (59 ∷ ys))), length-append b (59 ∷ ys), length-append a (44 ∷ (b ++ (59 ∷ []))), length-append b (59 ∷ []))

-- ---- a command
first_leaves : (r : Range) (c : Stand) (k : Pen) (p q at : ℕ) (n : Num) (b : ℕ) → num_step r (eqb b 44) n (byte_of b) ≡ Beyond → move_of r at (first c k p q n) b ≡ outside q
unfolding move_of first_of
first_leaves r c k p q at n b e = ap (first_of at c k p q) e

second_leaves : (r : Range) (c : Stand) (k : Pen) (p : ℕ) (x : ℤ) (q at : ℕ) (n : Num) (b : ℕ) → num_step r (eqb b 59) n (byte_of b) ≡ Beyond → move_of r at (second c k p x q n) b ≡ outside q
unfolding move_of second_of
second_leaves r c k p x q at n b e = ap (second_of at c k p x q) e

module _ (r : Range) (room : ℕ) (c : Stand) (k : Pen) (t : Point) (at : ℕ) (may : move_of r (suc at) (pen c at) (letter k) ≡ go (first c k at (suc (suc at)) None)) (ys : List ℕ) where
  from_here : Answer
  from_here = run r room at (free c) (command k t ys)

  opened : from_here ≡ run r room (suc (suc at)) (first c k at (suc (suc at)) None) (numeral t.x ++ (44 ∷ (numeral t.y ++ (59 ∷ ys))))
  unfolding from_here command
  opened =
      let bs = numeral t.x ++ (44 ∷ (numeral t.y ++ (59 ∷ ys))) in
      step_go r room at (free c) (pen c at) 80 (letter k ∷ bs) (opens r room c k at) ∙ step_go r room (suc at) (pen c at) (first c k at (suc (suc at)) None) (letter k) bs may

  x_over : T (not (is_within r t.x)) → from_here ≡ answer [] (too_far (at + 2))
  x_over h =
      let q = suc (suc at) in
      opened ∙ number_over r (first c k at q) 44 (first_steps r room c k at q) q (first_leaves r c k at q) room t.x h q (44 ∷ (numeral t.y ++ (59 ∷ ys)))
      ∙ ap (λ (n : ℕ). answer [] (too_far n)) (let z : q ≡ at + 2 = omega arith in z)

  y_over : T (is_within r t.x) → T (not (is_within r t.y)) → from_here ≡ answer [] (too_far (at + 2 + length (numeral t.x) + 1))
  y_over g h =
      let q = suc (suc at) in
      let bs = numeral t.y ++ (59 ∷ ys) in
      let x = number r (first c k at q) 44 (first_steps r room c k at q) room t.x (within r t.x g) q (44 ∷ bs) in
      let a = suc x.0 in
      opened ∙ x.1
      ∙ step_go r room x.0 (first c k at q (num_of t.x)) (second c k at t.x a None) 44 bs (first_ends r room c k at q x.0 t.x)
      ∙ number_over r (second c k at t.x a) 59 (second_steps r room c k at t.x a) a (second_leaves r c k at t.x a) room t.y h a (59 ∷ ys)
      ∙ ap (λ (n : ℕ). answer [] (too_far n)) (let z : a ≡ at + 2 + length (numeral t.x) + 1 = omega (arith, x.2, length-append (numeral t.x) (44 ∷ bs)) in z)

  -- what follows a command that is inside, from where it ends
  pub by_command : (A : Answer) → (Inside r t → (to : ℕ) → suc to ≡ behind at k t → after (λ m u. run r m (suc to) u ys) room (whole to c k at t) ≡ A) → run r room at (free c) (command k t ys) ≡ held r at t A
  unfolding held from_here
  by_command A rest =
      let P : Answer → Type 0 = λ a. run r room at (free c) (command k t ys) ≡ a in
      let y-past = answer [] (too_far (at + 2 + length (numeral t.x) + 1)) in
      on P (is_within r t.x) (pick (is_within r t.y) A y-past) (answer [] (too_far (at + 2)))
      (λ g. on P (is_within r t.y) A y-past
      (λ h. let i : Inside r t = record { x = within r t.x g; y = within r t.y h } in
      let e = command_read r room c k t i at may ys in
      e.1 ∙ rest i e.0 (omega (arith, e.2, command_long k t ys)))
      (λ h. y_over g h))
      (λ g. x_over g)

-- ---- the chains
module _ (r : Range) (ys : List ℕ) (ls : List Line) (A : ℕ → Answer) (rest : (room at : ℕ) (q : Point) → length ls ≤ room → run r room at (free (Drawn q)) ys ≡ A at) where
  draws_held : (c : Stand) (q p : Point) (ps : List Point) (room at : ℕ) → move_of r (suc at) (pen c at) 68 ≡ go (first c down at (suc (suc at)) None) → ((to : ℕ) → whole to c down at p ≡ drew (record { from = q; to = p }) at (free (Drawn p)))
      → run r room (behind at down p) (free (Drawn p)) (downs ps ys) ≡ held_downs r (behind at down p) p ps A → run r (suc room) at (free c) (downs (p ∷ ps) ys) ≡ held_downs r at q (p ∷ ps) A
  unfolding downs held_downs after
  draws_held c q p ps room at may w follows =
      let l : Line = record { from = q; to = p } in
      by_command r (suc room) c down p at may (downs ps ys) (with_line l (held_downs r (behind at down p) p ps A))
      (λ i to e. ap (after (λ m u. run r m (suc to) u (downs ps ys)) (suc room)) (w to) ∙ ap (with_line l) (ap (λ (a : ℕ). run r room a (free (Drawn p)) (downs ps ys)) e ∙ follows))

  downs_held : (ps : List Point) (q : Point) (room at : ℕ) → length (along q ps ls) ≤ room → run r room at (free (Drawn q)) (downs ps ys) ≡ held_downs r at q ps A
  unfolding along
  downs_held [] q room at h = unfold downs held_downs in rest room at q h
  downs_held (p ∷ ps) q zero at h = absurd (none_left (length (along p ps ls)) h)
  downs_held (p ∷ ps) q (suc room) at h =
      draws_held (Drawn q) q p ps room at (unfold move_of down_from in refl) (λ to. unfold whole in refl) (downs_held ps p room (behind at down p) (one_less (length (along p ps ls)) room h))

  chain_held : (p : Point) (ps : List Point) (q : Point) (room at : ℕ) → length (along q (p ∷ ps) ls) ≤ room → run r room at (free (Lifted q)) (downs (p ∷ ps) ys) ≡ held_downs r at q (p ∷ ps) A
  unfolding along
  chain_held p ps q zero at h = absurd (none_left (length (along p ps ls)) h)
  chain_held p ps q (suc room) at h =
      draws_held (Lifted q) q p ps room at (unfold move_of down_from in refl) (λ to. unfold whole in refl) (downs_held ps p room (behind at down p) (one_less (length (along p ps ls)) room h))

module _ (r : Range) where
  -- a PU, from where the pen may be lifted
  starts_held : (s : Stand) (c : Chain) (cs : List Chain) (room at : ℕ) → move_of r (suc at) (pen s at) 85 ≡ go (first s up at (suc (suc at)) None) → ((to : ℕ) → whole to s up at c.start ≡ go (free (Lifted c.start)))
      → ((m a : ℕ) (q : Point) → length (lines_of cs) ≤ m → run r m a (free (Drawn q)) (chains_text cs) ≡ held_chains r a cs) → length (lines_of (c ∷ cs)) ≤ room → run r room at (free s) (chains_text (c ∷ cs)) ≡ held_chains r at (c ∷ cs)
  unfolding chains_text lines_of held_chains after
  starts_held s c cs room at may w rest h =
      let text = downs (c.first ∷ c.more) (chains_text cs) in
      by_command r room s up c.start at may text (held_downs r (behind at up c.start) c.start (c.first ∷ c.more) (λ a. held_chains r a cs))
      (λ i to e. ap (after (λ m u. run r m (suc to) u text) room) (w to) ∙ ap (λ (a : ℕ). run r room a (free (Lifted c.start)) text) e
      ∙ chain_held r (chains_text cs) (lines_of cs) (λ a. held_chains r a cs) rest c.first c.more c.start room (behind at up c.start) h)

  drawn_held : (cs : List Chain) (room at : ℕ) (q : Point) → length (lines_of cs) ≤ room → run r room at (free (Drawn q)) (chains_text cs) ≡ held_chains r at cs
  drawn_held [] room at q h = unfold run chains_text held_chains in refl
  drawn_held (c ∷ cs) room at q h = starts_held (Drawn q) c cs room at (unfold move_of up_from in refl) (λ to. unfold whole in refl) (drawn_held cs) h

  fresh_held : (cs : List Chain) (room at : ℕ) → length (lines_of cs) ≤ room → run r room at (free Fresh) (chains_text cs) ≡ held_chains r at cs
  fresh_held [] room at h = unfold run chains_text held_chains in refl
  fresh_held (c ∷ cs) room at h = starts_held Fresh c cs room at (unfold move_of up_from in refl) (λ to. unfold whole in refl) (drawn_held cs) h

  -- the reader takes of a file of the form what the range has
  pub reads_held : (cs : List Chain) (room : ℕ) → length (lines_of cs) ≤ room → read_of r room (file_text cs) ≡ held_file r cs
  unfolding read_of file_text held_file
  reads_held cs room h =
      step_go r room 0 start1 start2 73 (78 ∷ 59 ∷ chains_text cs) (unfold move_of in refl)
      ∙ step_go r room 1 start2 start3 78 (59 ∷ chains_text cs) (unfold move_of in refl)
      ∙ step_go r room 2 start3 (free Fresh) 59 (chains_text cs) (unfold move_of in refl)
      ∙ fresh_held cs room 3 h

-- ---- in range, or a number outside
abbrev Or : Type 0 → Answer → Type 0
Or F a = F ⊎ ((p : ℕ) × (a.end ≡ too_far p))

held_or : (r : Range) (at : ℕ) (t : Point) (F : Type 0) (a : Answer) → Or F a → Or (Inside r t × F) (held r at t a)
unfolding held
held_or r at t F a d =
    let P : Answer → Type 0 = Or (Inside r t × F) in
    let y-past = answer [] (too_far (at + 2 + length (numeral t.x) + 1)) in
    on P (is_within r t.x) (pick (is_within r t.y) a y-past) (answer [] (too_far (at + 2)))
    (λ g. on P (is_within r t.y) a y-past
    (λ h. ⊎_elim (λ (f : F). inl (record { x = within r t.x g; y = within r t.y h }, f)) (λ p. inr p) d)
    (λ h. inr (at + 2 + length (numeral t.x) + 1, refl)))
    (λ g. inr (at + 2, refl))

downs_or : (r : Range) (F : Type 0) (A : ℕ → Answer) → ((a : ℕ) → Or F (A a)) → (ps : List Point) (at : ℕ) (q : Point) → Or (AllInside r ps × F) (held_downs r at q ps A)
unfolding held_downs AllInside
downs_or r F A d [] at q = ⊎_elim (λ (f : F). inl (tt, f)) (λ p. inr p) (d at)
downs_or r F A d (p ∷ ps) at q =
    ⊎_elim (λ (f : Inside r p × (AllInside r ps × F)). inl ((f.0, f.1.0), f.1.1)) (λ e. inr e)
    (held_or r at p (AllInside r ps × F) (with_line (record { from = q; to = p }) (held_downs r (behind at down p) p ps A)) (downs_or r F A d ps (behind at down p) p))

chains_or : (r : Range) (cs : List Chain) (at : ℕ) → Or (Fits r cs) (held_chains r at cs)
unfolding held_chains Fits
chains_or r [] at = inl tt
chains_or r (c ∷ cs) at =
    ⊎_elim (λ (f : Inside r c.start × (AllInside r (c.first ∷ c.more) × Fits r cs)). inl (f.0, f.1.0, f.1.1)) (λ e. inr e)
    (held_or r at c.start (AllInside r (c.first ∷ c.more) × Fits r cs) (held_downs r (behind at up c.start) c.start (c.first ∷ c.more) (λ a. held_chains r a cs))
    (downs_or r (Fits r cs) (λ a. held_chains r a cs) (chains_or r cs) (c.first ∷ c.more) (behind at up c.start) c.start))

-- a file of the form, with room, that has a number outside the range is refused for it
pub past_refused : (r : Range) (cs : List Chain) (room : ℕ) → length (lines_of cs) ≤ room → (Fits r cs → ⊥) → (p : ℕ) × ((read_of r room (file_text cs)).end ≡ too_far p)
unfolding held_file
past_refused r cs room h n =
    ⊎_elim (λ (f : Fits r cs). absurd (n f)) (λ (d : (p : ℕ) × ((held_chains r 3 cs).end ≡ too_far p)). (d.0, ap (λ (a : Answer). a.end) (reads_held r cs room h) ∙ d.1)) (chains_or r cs 3)

-- as the code tells it, in lent numbers: the lines before that number stand, and 32 is told with its position
pub reading_held : (table : Table) (cs : List Chain) (zs : List ℤ) → length (lines_of cs) ≤ length zs / 4 → reading_of table (file_text cs) zs ≡ tell 0 zs (held_file (range_of table) cs)
unfolding reading_of
reading_held table cs zs h = ap (tell 0 zs) (reads_held (range_of table) cs (length zs / 4) h)

pub past_told : (n p : ℕ) → back_report (back_of (too_far p) n) ≡ report 32 n p
unfolding back_report back_of
past_told n p = refl
