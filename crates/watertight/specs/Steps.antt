-- What one tag does, where the call goes on behind it: it was read, and all that it draws are lines, which are stored. Assumes nothing.
use Prim.Native.Nat.{ℕ, ◌+◌, ◌-◌, ◌*◌, ◌%◌, ◌^◌}
use Rattle.std.specs.Prelude.{◌≡◌, ◌⊎◌, Bool, true, false, List, [], ◌∷◌, length, Ok, Err, Some, None}
use Rattle.std.proofs.Math.Path.{refl}
use Rattle.std.proofs.Common.{sym, ap, ◌∙◌, subst, inl, arith}
use Rattle.std.proofs.Math.Logic.{inr}
use Rattle.std.proofs.lemmas.List.Edits.{sets}
use Rattle.refusals.specs.Refusals.{Read}
use Rattle.refusals.specs.declared.Refusal.{Refusal}
use Rattle.refusals.specs.declared.LineEnd.TheVariants.{Start, End}
use Rattle.refusals.specs.declared.Refusal.TheVariants.{NotNumber, NoRoom, NoJoin, NoCount}
use Rattle.spiral.specs.declared.util.Vec2.{Vec2}
use Rattle.spiral.specs.Util.{has_nan}
use Rattle.drawing.specs.Sheet.{Event, line, no_count, no_join, Sheet, sheet, record_of, pen_behind, has_room, stored, draw_on, draw, draw_all, is_stopped, count_of, Drawn, halt}
use Rattle.drawing.specs.SheetLaws.{absorbs}
use Rattle.drawing.specs.Stands.{pen_tag, Stands, stands}
use Rattle.drawing.specs.declared.line.Pen.{Pen}
use Rattle.flatten.specs.Tag.{head_at, events_at}
use Rattle.flatten.specs.Step.{drawn_of, fresh_pen, turn_of, refused_at, Stepped, behind, tag_word, step_from_by, step_of, step_by}
use Rattle.flatten.specs.declared.call.Layout.{Layout}
use Rattle.flatten.specs.declared.call.Turn.{Turn}
use Rattle.flatten.specs.declared.tag.Head.{Head}
use Rattle.watertight.specs.Balance.{AllLines}

-- ---- what is drawn to the end
abbrev Whole : List Event → Pen → Pen → Type 0
Whole es pen pen' = AllLines es × (pen'.count ≡ pen.count + length es)

stopped : (path : ℕ) (es : List Event) (ws : List ℕ) (d : Drawn) (pen : Pen) → is_stopped d ≡ true → (draw_all path (sheet ws d) es).drawn ≡ Ok pen → ⊥
unfolding is_stopped
stopped path es ws d pen h e =
    let k : d ≡ Ok pen = ap (λ (s : Sheet). s.drawn) (absorbs path ws d es h) ∙ e in
    let z : ◌≡◌ {A = Bool} false true = sym (ap is_stopped k) ∙ h in
    let y : ◌≡◌ {A = ℕ} 0 1 = cc in omega arith

line_whole : (path : ℕ) (p q : Vec2) (es : List Event) (ws : List ℕ) (pen pen' : Pen) (s t u : Bool)
    → ((ws : List ℕ) (pen : Pen) → (draw_all path (sheet ws (Ok pen)) es).drawn ≡ Ok pen' → Whole es pen pen')
    → (draw_all path (stored s t u path ws pen p q) es).drawn ≡ Ok pen' → Whole (line p q ∷ es) pen pen'
unfolding stored is_stopped AllLines
line_whole path p q es ws pen pen' true t u rest e = absurd (stopped path es ws (halt (NotNumber Start) pen.count) pen' refl e)
line_whole path p q es ws pen pen' false true u rest e = absurd (stopped path es ws (halt (NotNumber End) pen.count) pen' refl e)
line_whole path p q es ws pen pen' false false false rest e = absurd (stopped path es ws (halt NoRoom pen.count) pen' refl e)
line_whole path p q es ws pen pen' false false true rest e =
    let w = rest (sets ws (pen.count * 6) (record_of path pen.tag p q)) (pen_behind pen p q) e in
    (w.0, omega (arith, w.1))

-- where the pen is on at the end, all were lines, and all are stored
whole : (path : ℕ) (es : List Event) (ws : List ℕ) (pen pen' : Pen) → (draw_all path (sheet ws (Ok pen)) es).drawn ≡ Ok pen' → Whole es pen pen'
unfolding draw_all draw draw_on AllLines is_stopped
whole path [] ws pen pen' e = (tt, let k : pen ≡ pen' = cc in omega (arith, ap (λ (p : Pen). p.count) k))
whole path (line p q ∷ es) ws pen pen' e = line_whole path p q es ws pen pen' (has_nan p) (has_nan q) (has_room ws pen.count) (λ ws pen. whole path es ws pen pen') e
whole path (no_count ∷ es) ws pen pen' e = absurd (stopped path es ws (halt NoCount pen.count) pen' refl e)
whole path (no_join ∷ es) ws pen pen' e = absurd (stopped path es ws (halt NoJoin pen.count) pen' refl e)

-- ---- one tag

pub not_going : (why : Refusal) → Some why ≡ None → ⊥
not_going why e = let z : ◌≡◌ {A = ℕ} 0 1 = cc in omega arith

pub record Halts (t : Turn) : Type 0 where
  pub stop : t.stop ≡ None → ⊥
  pub left : t.left ≡ 0

module _ (layout : Layout) (scene prefixes ws : List ℕ) (n : ℕ) (t : Turn) where
  -- the tag was read, and all that it draws are lines, which are stored
  pub record Goes (o : Stepped) : Type 0 where
    pub head : Head
    pub events : List Event
    pub is_head : head_at layout scene prefixes n t.tag ≡ Ok head
    pub is_events : events_at layout scene prefixes t.tag head ≡ Ok events
    pub lines : AllLines events
    pub stop : o.turn.stop ≡ None
    pub left : o.turn.left ≡ t.left - 1
    pub tag : o.turn.tag ≡ (t.tag + 1) % 2 ^ 64
    pub count : o.turn.count ≡ t.count + length events
    pub stands : Stands head.tag.monoid.path_ix (tag_word t.tag) events ws t.count o.lines o.turn.count

  abbrev Turns : Stepped → Type 0
  Turns o = Goes o ⊎ Halts o.turn

  drawn_turns : (h : Head) (es : List Event) → head_at layout scene prefixes n t.tag ≡ Ok h → events_at layout scene prefixes t.tag h ≡ Ok es
      → Turns (behind t h (drawn_of h.tag.monoid.path_ix (fresh_pen tag_word t) ws (Ok es)))
  unfolding drawn_of turn_of pen_tag
  drawn_turns h es e k = go s.drawn refl
    where
      path : ℕ
      path = h.tag.monoid.path_ix

      pen : Pen
      pen = fresh_pen tag_word t

      s : Sheet
      s = draw_all path (sheet ws (Ok pen)) es

      go : (d : Drawn) → s.drawn ≡ d → Turns (behind t h (sheet s.words d))
      go (Ok pen') is =
          let w = whole path es ws pen pen' is in
          inl (record {
            head = h;
            events = es;
            is_head = e;
            is_events = k;
            lines = w.0;
            stop = refl;
            left = refl;
            tag = refl;
            count = w.1;
            stands = subst (λ (d : Drawn). Stands path (tag_word t.tag) es ws t.count s.words (count_of d)) is (stands path es ws (Ok pen));
          })
      go (Err d) is = inr (record { stop = not_going d.why; left = refl })

  events_turns : (h : Head) → head_at layout scene prefixes n t.tag ≡ Ok h → (r : Read (List Event)) → events_at layout scene prefixes t.tag h ≡ r
      → Turns (behind t h (drawn_of h.tag.monoid.path_ix (fresh_pen tag_word t) ws r))
  unfolding drawn_of turn_of
  events_turns h e (Ok es) k = drawn_turns h es e k
  events_turns h e (Err why) k = inr (record { stop = not_going why; left = refl })

  head_turns : (r : Read Head) → head_at layout scene prefixes n t.tag ≡ r → Turns (step_from_by tag_word r layout scene prefixes ws t)
  unfolding step_from_by refused_at
  head_turns (Ok h) e = events_turns h e (events_at layout scene prefixes t.tag h) refl
  head_turns (Err why) e = inr (record { stop = not_going why; left = refl })

  pub turns : Turns (step_of layout scene prefixes ws n t)
  unfolding step_by
  turns = head_turns (head_at layout scene prefixes n t.tag) refl
