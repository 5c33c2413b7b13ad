-- Each side of a stroked segment leads from one end of the segment to the other: side + forward, side - back. Where the segment's four points are equal nothing is
-- drawn, and the two ends agree. Assumes nothing.
use Rattle.std.specs.Prelude.{ℕ, zero, suc, ◌-◌, ◌*◌, ◌<◌, ◌≡◌, refl, Bool, true, false, not, ◌&&◌, cond, List, [], ◌++◌, ltb, eqb, ℤ, Float}
use Rattle.std.proofs.Math.Path.{sym, ap, subst}
use Rattle.std.proofs.Common.{◌∙◌, inl, inr, arith, mul-pos, ltb-true, ne_eqb}
use Rattle.std.proofs.Math.Dec.{T}
use Rattle.std.specs.Float.{nan, inf, fin, binary32}
use Rattle.std.specs.Float.Ieee.{up, down, round, neg, sum, add, sub, mul, lt, le, eq}
use Rattle.std.specs.Float.Ieee.Fits.{down_pos, and_l, and_r}
use Rattle.laws.specs.Binary32.{whole}
use Rattle.laws.specs.Same.{Same, is_zero, null, same_trans, round_zero}
use Rattle.laws.proofs.Same.{add_zeros, mul_zero_fin}
use Rattle.spiral.specs.Util.{robust_epsilon, add_of, sub_of, mul_of, dot_of, length_squared_of, normalize_of, eq_of, apply_of}
use Rattle.spiral.specs.Points.{SamePoint, FitsPoint, eq→same_point, apply_same}
use Rattle.spiral.specs.declared.util.Vec2.{Vec2}
use Rattle.drawing.specs.Cubic.{point, first_long, start_tangent, end_tangent}
use Rattle.curve.specs.Curve.{is_point, local_side, euler_events}
use Rattle.curve.specs.Chain.{Chain, side_point, offset_chain}
use Rattle.segment.specs.Segment.{quarter, steady_of, tangents_of, edges_of, sides_events}
use Rattle.segment.specs.declared.Edges.{Edges}
use Rattle.watertight.specs.Balance.{AllLines}
use Rattle.strokes.specs.Leads.{Leads, Pair, none, chain_leads, chain_back, all_split, both}
use Rattle.strokes.specs.Alike.{neg_zero, same_sym, point_is, add_same, sub_same}
use Rattle.strokes.specs.Turned.{turned_normal, turned_long}

-- ---- an offset above 0
apart : (a b : ℕ) → ltb b a ≡ true → eqb a b ≡ false
apart a b h = let l : b < a = ltb-true b a h in ne_eqb a b (λ (e : a ≡ b). omega arith)

apart' : (a b : ℕ) → ltb b a ≡ true → eqb b a ≡ false
apart' a b h = let l : b < a = ltb-true b a h in ne_eqb b a (λ (e : b ≡ a). omega arith)

pub record Above (x : Float) : Type 0 where
  pub not_zero : eq x (whole 0) ≡ false
  pub forward : le (whole 0) x ≡ true
  pub neg_not_zero : eq (neg x) (whole 0) ≡ false
  pub neg_back : le (whole 0) (neg x) ≡ false

no : false ≡ true → ⊥
no h = let z : ◌≡◌ {A = ℕ} 0 1 = cc in omega arith

pub above : (x : Float) → lt (whole 0) x ≡ true → Above x
unfolding round lt le eq neg
above nan h = absurd (no h)
above (inf true) h = absurd (no h)
above (inf false) h = record { not_zero = refl; forward = refl; neg_not_zero = refl; neg_back = refl }
above (fin true m e) h = absurd (no h)
above (fin false m e) h =
    let a : eqb (m * up e * 1) (0 * down e) ≡ false = apart (m * up e * 1) (0 * down e) h in
    let b : eqb (0 * down e) (m * up e * 1) ≡ false = apart' (m * up e * 1) (0 * down e) h in
    record { not_zero = rw a refl; forward = rw h refl; neg_not_zero = rw a refl; neg_back = rw b refl }

-- ---- one side
module _ (ps : List Vec2) (z : List Float) (offset : Float) (start end : Vec2) (h : eq offset (whole 0) ≡ false) where
  point_draws : is_point ps ≡ true → euler_events ps z offset start end ≡ []
  unfolding euler_events local_side
  point_draws k = rw h (side_point (local_side ps z offset start end) k)

  pub side_forward : le (whole 0) offset ≡ true → (is_point ps ≡ true → SamePoint start end) → AllLines (euler_events ps z offset start end)
      → Leads (apply_of z start) (apply_of z end) (euler_events ps z offset start end)
  side_forward f s l = go (is_point ps) refl
    where
      go : (b : Bool) → is_point ps ≡ b → Leads (apply_of z start) (apply_of z end) (euler_events ps z offset start end)
      go true e = rw (point_draws e) (none _ _ (apply_same z start end (s e)))
      go false e =
          chain_leads _ _ _ l (subst (λ (b : Bool). Chain (not b) (apply_of z start) (apply_of z end) (euler_events ps z offset start end)) f (offset_chain ps z offset start end h e))

  pub side_back : le (whole 0) offset ≡ false → (is_point ps ≡ true → SamePoint end start) → AllLines (euler_events ps z offset start end)
      → Leads (apply_of z end) (apply_of z start) (euler_events ps z offset start end)
  side_back f s l = go (is_point ps) refl
    where
      go : (b : Bool) → is_point ps ≡ b → Leads (apply_of z end) (apply_of z start) (euler_events ps z offset start end)
      go true e = rw (point_draws e) (none _ _ (apply_same z end start (s e)))
      go false e =
          chain_back _ _ _ l (subst (λ (b : Bool). Chain (not b) (apply_of z start) (apply_of z end) (euler_events ps z offset start end)) f (offset_chain ps z offset start end h e))

-- ---- the difference of two equal numbers is a zero or a NaN, and so is what is worked out of it: it is not long
abbrev is_null : Float → Bool
is_null nan = true
is_null (inf s) = false
is_null (fin s zero e) = true
is_null (fin s (suc m) e) = false

zero_null : (x : Float) → T (is_zero x) → T (is_null x)
zero_null nan z = absurd z
zero_null (inf s) z = absurd z
zero_null (fin s zero e) z = tt
zero_null (fin s (suc m) e) z = absurd z

not_less : (a b : ℕ) → a ≡ b → ltb a b ≡ false
not_less a b h = go (ltb a b) refl
  where
    go : (t : Bool) → ltb a b ≡ t → t ≡ false
    go true e = absurd (let l : a < b = ltb-true a b e in omega arith)
    go false e = refl

cancelled : (s : Bool) (a c : ℕ) → 0 < c → T (is_null (sum binary32 s a (not s) a c))
unfolding sum
cancelled true a c C = rw (not_less a a refl) (go (a - a) (omega arith))
  where
    go : (d : ℕ) → d ≡ 0 → T (is_null (round binary32 false d c))
    go d e = rw (e, round_zero binary32 false c C) tt
cancelled false a c C = rw (not_less a a refl) (go (a - a) (omega arith))
  where
    go : (d : ℕ) → d ≡ 0 → T (is_null (round binary32 false d c))
    go d e = rw (e, round_zero binary32 false c C) tt

sub_self : (x : Float) → T (is_null (sub binary32 x x))
unfolding sub add neg
sub_self nan = tt
sub_self (inf true) = tt
sub_self (inf false) = tt
sub_self (fin s m e) = cancelled s (m * up e * down e) (down e * down e) (mul-pos (down_pos e) (down_pos e))

sub_null : (x y : Float) → Same x y → T (is_null (sub binary32 x y))
unfolding sub
sub_null x y (inl p) = subst (λ (w : Float). T (is_null (sub binary32 x w))) p (sub_self x)
sub_null x y (inr z) = zero_null (add binary32 x (neg y)) (add_zeros binary32 x (neg y) z.0 (neg_zero y z.1))

mul_null : (x y : Float) → T (is_null x) → T (is_null y) → T (is_null (mul binary32 x y))
mul_null nan y h k = unfold mul in tt
mul_null (inf s) y h k = absurd h
mul_null (fin s (suc m) e) y h k = absurd h
mul_null (fin s zero e) nan h k = unfold mul in tt
mul_null (fin s zero e) (inf t) h k = absurd k
mul_null (fin s zero e) (fin t (suc n) d) h k = absurd k
mul_null (fin s zero e) (fin t zero d) h k = zero_null (mul binary32 (fin s zero e) (fin t zero d)) (mul_zero_fin binary32 (fin s zero e) (fin t zero d) tt tt)

add_null : (x y : Float) → T (is_null x) → T (is_null y) → T (is_null (add binary32 x y))
add_null nan y h k = unfold add in tt
add_null (inf s) y h k = absurd h
add_null (fin s (suc m) e) y h k = absurd h
add_null (fin s zero e) nan h k = unfold add in tt
add_null (fin s zero e) (inf t) h k = absurd k
add_null (fin s zero e) (fin t (suc n) d) h k = absurd k
add_null (fin s zero e) (fin t zero d) h k = zero_null (add binary32 (fin s zero e) (fin t zero d)) (add_zeros binary32 (fin s zero e) (fin t zero d) tt tt)

under_none : (a b : ℕ) → b ≡ 0 → ltb a b ≡ false
under_none a b h = go (ltb a b) refl
  where
    go : (t : Bool) → ltb a b ≡ t → t ≡ false
    go true e = absurd (let l : a < b = ltb-true a b e in omega arith)
    go false e = refl

-- no number above 0 is below it
not_over : (m : ℕ) (e : ℤ) (x : Float) → T (is_null x) → lt (fin false m e) x ≡ false
unfolding lt
not_over m e nan h = refl
not_over m e (inf s) h = absurd h
not_over m e (fin true zero d) h = refl
not_over m e (fin false zero d) h = under_none (m * up e * down d) (0 * up d * down e) (null (up d) (down e))
not_over m e (fin s (suc n) d) h = absurd h

not_long : (p q : Vec2) → SamePoint p q → lt robust_epsilon (length_squared_of (sub_of p q)) ≡ false
unfolding length_squared_of dot_of sub_of round
not_long p q s =
    let a = sub_null p.x q.x s.0 in
    let b = sub_null p.y q.y s.1 in
    let x = sub binary32 p.x q.x in
    let y = sub binary32 p.y q.y in
    not_over _ _ (add binary32 (mul binary32 x x) (mul binary32 y y)) (add_null (mul binary32 x x) (mul binary32 y y) (mul_null x x a a) (mul_null y y b b))

-- ---- normals

-- as long as the offset, a quarter turned from a tangent
abbrev pub normal_of : Vec2 → Float → Vec2
normal_of v offset = mul_of (quarter (normalize_of (steady_of v))) offset

-- the four points of a segment are f32
pub record FitsAll (ps : List Vec2) : Type 0 where
  pub p0 : FitsPoint (point ps 0)
  pub p1 : FitsPoint (point ps 1)
  pub p2 : FitsPoint (point ps 2)
  pub p3 : FitsPoint (point ps 3)

point_same : (p q r : Vec2) → SamePoint p q → SamePoint p r → SamePoint q r
point_same p q r s t = (same_trans (same_sym s.0) t.0, same_trans (same_sym s.1) t.1)

pick_last : (s t : Bool) (a b c : Vec2) → s ≡ false → t ≡ false → cond s a (cond t b c) ≡ c
pick_last s t a b c h k = rw (h, k) refl

module _ (ps : List Vec2) (f : FitsAll ps) (h : is_point ps ≡ true) where
  all_same : SamePoint (point ps 0) (point ps 1) × SamePoint (point ps 0) (point ps 2) × SamePoint (point ps 0) (point ps 3)
  unfolding is_point
  all_same =
      let t : T (is_point ps) = subst T (sym h) tt in
      let a = and_l (eq_of (point ps 0) (point ps 1) && eq_of (point ps 0) (point ps 2)) (eq_of (point ps 0) (point ps 3)) t in (
        eq→same_point (point ps 0) (point ps 1) f.p0 f.p1 (and_l (eq_of (point ps 0) (point ps 1)) (eq_of (point ps 0) (point ps 2)) a),
        eq→same_point (point ps 0) (point ps 2) f.p0 f.p2 (and_r (eq_of (point ps 0) (point ps 1)) (eq_of (point ps 0) (point ps 2)) a),
        eq→same_point (point ps 0) (point ps 3) f.p0 f.p3 (and_r (eq_of (point ps 0) (point ps 1) && eq_of (point ps 0) (point ps 2)) (eq_of (point ps 0) (point ps 3)) t),
      )

  back : (p q : Vec2) → SamePoint p q → SamePoint q p
  back p q s = (same_sym s.0, same_sym s.1)

  -- both tangents are the chord
  pub one_tangent : start_tangent ps ≡ end_tangent ps
  unfolding start_tangent end_tangent first_long
  one_tangent =
      let s = all_same in
      let p0 = point ps 0 in
      let p1 = point ps 1 in
      let p2 = point ps 2 in
      let p3 = point ps 3 in
      pick_last _ _ (sub_of p1 p0) (sub_of p2 p0) (sub_of p3 p0) (not_long p1 p0 (back p0 p1 s.0)) (not_long p2 p0 (back p0 p2 s.1))
      ∙ sym (pick_last _ _ (sub_of p3 p2) (sub_of p3 p1) (sub_of p3 p0) (not_long p3 p2 (point_same p0 p3 p2 s.2 s.1)) (not_long p3 p1 (point_same p0 p3 p1 s.2 s.0)))

-- ---- both sides
module _ (ps : List Vec2) (next : Vec2) (offset : Float) where
  abbrev pub edges : Edges
  edges = edges_of (tangents_of ps next) offset

  pub start_normal : edges.n_start ≡ normal_of (start_tangent ps) offset
  unfolding edges_of tangents_of
  start_normal = ap (λ (v : Vec2). mul_of v offset) (turned_normal (steady_of (start_tangent ps)))

  pub end_normal : edges.n_prev ≡ normal_of (end_tangent ps) offset
  unfolding edges_of tangents_of
  end_normal = turned_long (normalize_of (steady_of (end_tangent ps))) offset

module _ (z : List Float) (ps : List Vec2) (next : Vec2) (offset : Float) (f : FitsAll ps) (half : lt (whole 0) offset ≡ true) where
  one_normal : is_point ps ≡ true → (edges ps next offset).n_start ≡ (edges ps next offset).n_prev
  one_normal h = start_normal ps next offset ∙ ap (λ (v : Vec2). normal_of v offset) (one_tangent ps f h) ∙ sym (end_normal ps next offset)

  by_edges : (m n : Vec2) → (is_point ps ≡ true → m ≡ n)
      → AllLines (euler_events ps z offset (add_of (point ps 0) m) (add_of (point ps 3) n) ++ euler_events ps z (neg offset) (sub_of (point ps 0) m) (sub_of (point ps 3) n))
      → Pair (apply_of z (add_of (point ps 0) m)) (apply_of z (add_of (point ps 3) n)) (apply_of z (sub_of (point ps 3) n)) (apply_of z (sub_of (point ps 0) m))
      (euler_events ps z offset (add_of (point ps 0) m) (add_of (point ps 3) n) ++ euler_events ps z (neg offset) (sub_of (point ps 0) m) (sub_of (point ps 3) n))
  by_edges m n e l =
      let p0 = point ps 0 in
      let p3 = point ps 3 in
      let a = above offset half in
      let s = all_split (euler_events ps z offset (add_of p0 m) (add_of p3 n)) (euler_events ps z (neg offset) (sub_of p0 m) (sub_of p3 n)) l in
      both _ _ _ _ (euler_events ps z offset (add_of p0 m) (add_of p3 n)) (euler_events ps z (neg offset) (sub_of p0 m) (sub_of p3 n))
      (side_forward ps z offset (add_of p0 m) (add_of p3 n) a.not_zero a.forward (λ h. add_same p0 p3 m n (all_same ps f h).2 (point_is m n (e h))) s.0)
      (side_back ps z (neg offset) (sub_of p0 m) (sub_of p3 n) a.neg_not_zero a.neg_back (λ h. sub_same p3 p0 n m (back ps f h p0 p3 (all_same ps f h).2) (point_is n m (sym (e h)))) s.1)

  -- side + from the segment's start to its end, side - from its end to its start
  pub sides_pair : AllLines (sides_events z ps offset (edges ps next offset))
      → Pair (apply_of z (add_of (point ps 0) (edges ps next offset).n_start)) (apply_of z (add_of (point ps 3) (edges ps next offset).n_prev))
      (apply_of z (sub_of (point ps 3) (edges ps next offset).n_prev)) (apply_of z (sub_of (point ps 0) (edges ps next offset).n_start))
      (sides_events z ps offset (edges ps next offset))
  unfolding sides_events
  sides_pair = by_edges (edges ps next offset).n_start (edges ps next offset).n_prev one_normal
