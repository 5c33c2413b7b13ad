-- Every state of the reader can still come to a whole file: here are the bytes that close it. Assumes nothing.
use Rattle.std.specs.Prelude.{◌≡◌, refl, true, List, [], ◌∷◌, ◌++◌, ℤ, T}
use Rattle.std.proofs.Common.{sym}
use Rattle.std.proofs.Math.Path.{subst}
use Prim.{Unit}
use Prim.Native.Nat.{ℕ, suc}
use Rattle.std.proofs.Math.IntN.{pos, negsuc}
use Rattle.hpgl.specs.Form.{Pen, up, down, range_of}
use Rattle.hpgl.specs.Reading.{byte_of, value_of, kept, num_step, State, start1, start2, start3, free, pen, first, second, up_from, down_from, whole, first_of, second_of, move_of, Answer, after, run}
use Rattle.hpgl.specs.Sound.{is_complete}
use Rattle.hpgl.specs.declared.Point.{Point}
use Rattle.hpgl.specs.declared.Table.{Table}
use Rattle.hpgl.specs.declared.Table.TheVariants.{Old, New}
use Rattle.hpgl.specs.declared.reading.Num.{Num}
use Rattle.hpgl.specs.declared.reading.Num.TheVariants.{None, Dashed, Naught, Some}
use Rattle.hpgl.specs.declared.reading.NumStep.TheVariants.{Goes}
use Rattle.hpgl.specs.declared.reading.Stand.{Stand}
use Rattle.hpgl.specs.declared.reading.Stand.TheVariants.{Fresh, Lifted, Drawn}

-- ---- the bytes

-- a digit where the number lacks one
abbrev num_tail : Num → List ℕ
num_tail None = 48 ∷ []
num_tail Dashed = 49 ∷ []
num_tail Naught = []
num_tail (Some s w) = []

-- 0,0; and PD0,0;
abbrev origin : List ℕ
origin = 48 ∷ 44 ∷ 48 ∷ 59 ∷ []

abbrev stroke : List ℕ
stroke = 80 ∷ 68 ∷ origin

-- a PU needs a PD
abbrev behind : Pen → List ℕ
behind up = stroke
behind down = []

abbrev pub closing : State → List ℕ
closing start1 = 73 ∷ 78 ∷ 59 ∷ []
closing start2 = 78 ∷ 59 ∷ []
closing start3 = 59 ∷ []
closing (free Fresh) = []
closing (free (Lifted q)) = stroke
closing (free (Drawn q)) = []
closing (pen Fresh p) = 85 ∷ (origin ++ stroke)
closing (pen (Lifted q) p) = 68 ∷ origin
closing (pen (Drawn q) p) = 68 ∷ origin
closing (first c k p q n) = num_tail n ++ (44 ∷ 48 ∷ 59 ∷ behind k)
closing (second c k p x q n) = num_tail n ++ (59 ∷ behind k)

-- the states that the reader comes to: a command is one that the pen may do
abbrev pub Allowed : Stand → Pen → Type 0
Allowed Fresh up = Unit {0}
Allowed Fresh down = ⊥
Allowed (Lifted q) up = ⊥
Allowed (Lifted q) down = Unit {0}
Allowed (Drawn q) up = Unit {0}
Allowed (Drawn q) down = Unit {0}

abbrev pub Able : State → Type 0
Able start1 = Unit {0}
Able start2 = Unit {0}
Able start3 = Unit {0}
Able (free c) = Unit {0}
Able (pen c p) = Unit {0}
Able (first c k p q n) = Allowed c k
Able (second c k p x q n) = Allowed c k

-- ---- they close it
abbrev Whole : Answer → Type 0
Whole a = T (is_complete a.end)

-- each table has -1
minus_one_lem : (table : Table) → kept (range_of table) true 0 ≡ Goes (Some true 0)
unfolding kept range_of
minus_one_lem Old = refl
minus_one_lem New = refl

module _ (table : Table) where
  -- a number and the byte behind it
  first_closes : (room at : ℕ) (c : Stand) (k : Pen) (p q : ℕ) (n : Num) (ys : List ℕ) → (z : ℤ) × (to : ℕ) × (run (range_of table) room at (first c k p q n) (num_tail n ++ (44 ∷ ys)) ≡ run (range_of table) room to (second c k p z to None) ys)
  unfolding run after move_of first_of num_step byte_of value_of
  first_closes room at c k p q None ys = (pos 0, suc (suc at), refl)
  first_closes room at c k p q Dashed ys = (negsuc 0, suc (suc at), rw (minus_one_lem table))
  first_closes room at c k p q Naught ys = (pos 0, suc at, refl)
  first_closes room at c k p q (Some s w) ys = (value_of s w, suc at, refl)

  second_closes : (room at : ℕ) (c : Stand) (k : Pen) (p : ℕ) (x : ℤ) (q : ℕ) (n : Num) (ys : List ℕ) → (t : Point) × (to : ℕ) × (run (range_of table) room at (second c k p x q n) (num_tail n ++ (59 ∷ ys)) ≡ after (λ m u. run (range_of table) m (suc to) u ys) room (whole to c k p t))
  unfolding run move_of second_of num_step byte_of value_of
  second_closes room at c k p x q None ys = (record { x = x; y = pos 0 }, suc at, unfold after in refl)
  second_closes room at c k p x q Dashed ys = (record { x = x; y = negsuc 0 }, suc at, unfold after in rw (minus_one_lem table))
  second_closes room at c k p x q Naught ys = (record { x = x; y = pos 0 }, at, refl)
  second_closes room at c k p x q (Some s w) ys = (record { x = x; y = value_of s w }, at, refl)

  whole_closes : (to : ℕ) (c : Stand) (k : Pen) (p : ℕ) (t : Point) → Allowed c k → Whole (after (λ m u. run (range_of table) m (suc to) u (behind k)) 1 (whole to c k p t))
  unfolding run after move_of down_from whole first_of second_of num_step byte_of kept value_of
  whole_closes to Fresh up p t a = tt
  whole_closes to Fresh down p t a = absurd a
  whole_closes to (Lifted q) up p t a = absurd a
  whole_closes to (Lifted q) down p t a = tt
  whole_closes to (Drawn q) up p t a = tt
  whole_closes to (Drawn q) down p t a = tt

  second_whole : (at : ℕ) (c : Stand) (k : Pen) (p : ℕ) (x : ℤ) (q : ℕ) (n : Num) → Allowed c k → Whole (run (range_of table) 1 at (second c k p x q n) (closing (second c k p x q n)))
  second_whole at c k p x q n a =
      let e = second_closes 1 at c k p x q n (behind k) in
      subst Whole (sym e.2) (whole_closes e.1 c k p e.0 a)

  pub closes : (s : State) → Able s → (at : ℕ) → Whole (run (range_of table) 1 at s (closing s))
  closes start1 a at = unfold run after move_of in tt
  closes start2 a at = unfold run after move_of in tt
  closes start3 a at = unfold run after move_of in tt
  closes (free Fresh) a at = unfold run in tt
  closes (free (Lifted q)) a at = unfold run after move_of down_from whole first_of second_of num_step byte_of kept in tt
  closes (free (Drawn q)) a at = unfold run in tt
  closes (pen Fresh p) a at = unfold run after move_of up_from down_from whole first_of second_of num_step byte_of kept in tt
  closes (pen (Lifted q) p) a at = unfold run after move_of down_from whole first_of second_of num_step byte_of kept in tt
  closes (pen (Drawn q) p) a at = unfold run after move_of down_from whole first_of second_of num_step byte_of kept in tt
  closes (first c k p q n) a at =
      let e = first_closes 1 at c k p q n (48 ∷ 59 ∷ behind k) in
      subst Whole (sym e.2) (second_whole e.1 c k p e.0 e.1 None a)
  closes (second c k p x q n) a at = second_whole at c k p x q n a
