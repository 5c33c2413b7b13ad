-- After an accepted call the records of its tags stand in the lent words, and count as their lines do. Assumes nothing.
use Prim.Native.Nat.{ℕ, zero, suc, ◌*◌, ◌<◌}
use Rattle.std.specs.Prelude.{◌≡◌, refl, Bool, length, drop}
use Rattle.std.proofs.Math.Path.{ap, subst}
use Rattle.std.proofs.Common.{◌∙◌, arith, drop_at}
use mathlib.Core.List.{List, [], ◌∷◌, ◌++◌, append-nil, append_assoc}
use Rattle.std.proofs.Math.Decide.{ℕ_discrete}
use Rattle.records.specs.Record.{tally_of}
use Rattle.spiral.specs.declared.util.Vec2.{Vec2}
use Rattle.flatten.specs.Step.{tag_word}
use Rattle.watertight.specs.Count.{starts_by, ends_by, one_where}
use Rattle.watertight.specs.Balance.{in_records, starts_append, ends_append}
use Rattle.watertight.specs.Fill.{Call, Accepted, outcome, tags, path_at, drawn_at, Each, lines_of, count_before, records_from, stored_by}
use Rattle.watertight.specs.Accepted.{records_at, records_before, length_before, done}

module _ (c : Call) (accepted : Accepted c) where
  -- the records of tag i, and what is behind them
  record From (i k : ℕ) : Type 0 where
    rest : List ℕ
    is : records_before c k ≡ records_before c i ++ (records_at c i ++ rest)

  from : (i k : ℕ) → i < k → From i k
  unfolding records_before
  from i zero h = absurd (omega arith)
  from i (suc k) h =
      elim (ℕ_discrete i k) [
        | yes e ↦ record { rest = []; is = rw (e, append-nil) }
        | no ne ↦
            let f = from i k (omega (arith, ne)) in
            record { rest = f.rest ++ records_at c k; is = ap (λ (ws : List ℕ). ws ++ records_at c k) f.is ∙ simp append_assoc }
      ]

  pub record Place (i : ℕ) : Type 0 where
    pub rest : List ℕ
    pub is : drop (count_before c i * 6) (outcome c).lines ≡ records_at c i ++ rest

  pub place : (i : ℕ) → i < tags c → Place i
  place i h =
      let d = done c accepted in
      let f = from i (tags c) h in
      let behind = f.rest ++ drop (accepted.count * 6) c.lines in
      let all : (outcome c).lines ≡ records_before c i ++ (records_at c i ++ behind) =
      d.lines ∙ ap (λ (ws : List ℕ). ws ++ drop (accepted.count * 6) c.lines) f.is ∙ simp append_assoc in
      record {
        rest = behind;
        is = ap (drop (count_before c i * 6)) all ∙ drop_at (records_before c i) (records_at c i ++ behind) (count_before c i * 6) (length_before c i (λ j l. d.sound j (omega arith)));
      }

  module _ (is : ℕ → ℕ → ℕ → Bool) where
    abbrev Counts : ℕ → (Vec2 → ℕ) → Type 0
    Counts i f =
        (tally_of is 2 (records_from c i) (length (drawn_at c i)) ≡ starts_by f (drawn_at c i))
        × (tally_of is 4 (records_from c i) (length (drawn_at c i)) ≡ ends_by f (drawn_at c i))

    pub one : (i : ℕ) → i < tags c → Counts i (one_where is (path_at c i))
    unfolding records_at
    one i h =
        let p = place i h in
        rw p.is (in_records is (path_at c i) (tag_word i) (drawn_at c i) p.rest ((done c accepted).sound i h).lines)

    module _ (f : Vec2 → ℕ) where
      -- a tag of the call, whose lines are counted by f
      pub record CountedBy (i : ℕ) : Type 0 where
        pub in_call : i < tags c
        pub path : one_where is (path_at c i) ≡ f

      pub as_drawn : (js : List ℕ) → Each CountedBy js → (stored_by c is 2 js ≡ starts_by f (lines_of c js)) × (stored_by c is 4 js ≡ ends_by f (lines_of c js))
      unfolding Each stored_by lines_of starts_by ends_by
      as_drawn [] h = (refl, refl)
      as_drawn (i ∷ js) h =
          let o : Counts i f = subst (Counts i) h.0.path (one i h.0.in_call) in
          let a = as_drawn js h.1 in (
            omega (arith, o.0, a.0, starts_append f (drawn_at c i) (lines_of c js)),
            omega (arith, o.1, a.1, ends_append f (drawn_at c i) (lines_of c js)),
          )
