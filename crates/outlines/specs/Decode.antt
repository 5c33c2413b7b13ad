-- Decoding what commands wrote gives back the segments that they mean, in order and bit for bit. Assumes nothing.
use Prim.Native.Nat.{ℕ, zero, suc, ◌+◌, ◌%◌, ◌^◌, ◌<◌, ◌≤◌}
use Rattle.std.specs.Prelude.{◌≡◌, Bool, ◌&&◌, cond, eqb, take, Ok, is_ok}
use Rattle.std.proofs.Math.Path.{refl, ap}
use Rattle.std.proofs.Common.{sym, ◌∙◌, subst, length-take, length-drop, length-append, take_at, lt-ltb, le-leb}
use Rattle.std.proofs.Math.Bool.{true, false}
use mathlib.Core.List.{List, [], ◌∷◌, ◌++◌, append_assoc}
use native.Mathlib.Omega.{arith}
use Rattle.std.proofs.Math.ListN.{length, drop}
use Rattle.refusals.specs.Refusals.{Read}
use Rattle.scene.specs.Tags.{bit, tag_data}
use Rattle.scene.specs.Tags as tags
use Rattle.scene.specs.Reading.{wide, point_words, point_count, reaches, segment_of}
use Rattle.scene.specs.Fresh.{byte_of, sums_to}
use Rattle.scene.specs.FreshLaws.{sums_at_lem, roomy_tag}
use Rattle.scene.specs.declared.tags.PathMonoid.{PathMonoid}
use Rattle.scene.specs.declared.tags.PathTagData.{PathTagData}
use Rattle.pattern.specs.Commands.{words_of, Segment, line, quad, cubic, spots, target, tag_of, Command}
use Rattle.pattern.specs.Meaning.{Subpath, tags_of, points_of, segment_tags}
use Rattle.pattern.specs.Closed.{all_closed}
use Rattle.pattern.specs.Encoded.{Holds, encoded}
use Rattle.pattern.specs.declared.pen.Spot.{Spot}
use Rattle.watertight.specs.Fill.{Call}
use Rattle.outlines.specs.Placing.{left, subpaths, Finished, drawn_tags, tag_words, FreshCall, Here, Few, Placed, Lent, Piece, piece, spots_at, segment_by, decoded, pieces_from, pieces}
use Rattle.outlines.specs.Walk.{tag_byte, Drawn, Walk, Walks, Behind, walks, under_self}

-- ---- a byte

-- its type, f32 points, its end bit; and it is not zero
pub record ByteIs (byte kind : ℕ) (last : Bool) : Type 0 where
  pub type : byte % 4 ≡ kind
  pub f32 : wide byte ≡ true
  pub end : eqb (bit byte 0x04) 1 ≡ last
  pub some : eqb byte 0 ≡ false

pub byte_is_lem : (g : Segment) (last : Bool) → ByteIs (tag_byte g last) (length (spots g)) last
unfolding tag_byte tag_of spots
byte_is_lem (line p) true = record { type = refl; f32 = refl; end = refl; some = refl }
byte_is_lem (line p) false = record { type = refl; f32 = refl; end = refl; some = refl }
byte_is_lem (quad p q) true = record { type = refl; f32 = refl; end = refl; some = refl }
byte_is_lem (quad p q) false = record { type = refl; f32 = refl; end = refl; some = refl }
byte_is_lem (cubic p q r) true = record { type = refl; f32 = refl; end = refl; some = refl }
byte_is_lem (cubic p q r) false = record { type = refl; f32 = refl; end = refl; some = refl }

-- ---- points

spots_back : (ps : List Spot) (X : List ℕ) → take (length (words_of ps)) X ≡ words_of ps → spots_at (length ps) X ≡ ps
unfolding spots_at words_of
spots_back [] X e = refl
spots_back (p ∷ ps) [] e = let z : ◌≡◌ {A = ℕ} 0 1 = cc in absurd (omega arith)
spots_back (p ∷ ps) (x ∷ []) e = let z : ◌≡◌ {A = ℕ} 0 1 = cc in absurd (omega arith)
spots_back (p ∷ ps) (x ∷ y ∷ X) e =
    let a : x ≡ p.x = cc in
    let b : y ≡ p.y = cc in
    let more : take (length (words_of ps)) X ≡ words_of ps = cc in
    rw (a, b) (ap (λ (qs : List Spot). p ∷ qs) (spots_back ps X more))

-- words that were found lie inside
pub inside : (n d : ℕ) (scene ws : List ℕ) → take n (drop d scene) ≡ ws → length ws ≡ n → 0 < n → d + n ≤ length scene
inside n d scene ws e l h = omega (arith, ap length e, length-take n (drop d scene), length-drop d scene)

pub reach : (g : Segment) (offset : ℕ) (scene : List ℕ) (base : ℕ) → offset + length (words_of (record { x = 0; y = 0 } ∷ spots g)) < 2 ^ 31
    → base + offset + length (words_of (record { x = 0; y = 0 } ∷ spots g)) ≤ length scene → reaches (length (spots g)) true offset scene base ≡ true
unfolding reaches point_count point_words spots words_of
reach (line p) offset scene base h k = rw (lt-ltb (offset + 2) (2 ^ 32) (omega arith), le-leb (base + offset + 4) (length scene) k)
reach (quad p q) offset scene base h k = rw (lt-ltb (offset + 4) (2 ^ 32) (omega arith), le-leb (base + offset + 6) (length scene) k)
reach (cubic p q r) offset scene base h k = rw (lt-ltb (offset + 6) (2 ^ 32) (omega arith), le-leb (base + offset + 8) (length scene) k)

-- ---- one tag

abbrev pub read_tag : Call → ℕ → Read PathTagData
read_tag c i = tags.tag_of c.scene c.layout.tag_base c.prefixes i

-- it was read, and is its byte and the sums before it
abbrev pub Known : Call → ℕ → Type 0
Known c i = read_tag c i ≡ Ok (tag_data (byte_of (tag_words c) i) (sums_to (tag_words c) i))

module _ (c : Call) (p : Spot) (g : Segment) (last : Bool) where
  by_byte : (byte offset : ℕ) → ByteIs byte (length (spots g)) last → offset + length (words_of (p ∷ spots g)) < 2 ^ 31
      → take (length (words_of (p ∷ spots g))) (drop (c.layout.data_base + offset) c.scene) ≡ words_of (p ∷ spots g)
      → cond (wide byte && is_ok (segment_of byte false offset c.scene c.layout.data_base))
      (piece (spots_at (byte % 4 + 1) (drop (c.layout.data_base + offset) c.scene)) (eqb (bit byte 0x04) 1) ∷ []) []
      ≡ piece (p ∷ spots g) last ∷ []
  unfolding segment_of words_of
  by_byte byte offset b few e =
      let base = c.layout.data_base in
      let X = drop (base + offset) c.scene in
      let there : base + offset + length (words_of (p ∷ spots g)) ≤ length c.scene = inside _ (base + offset) c.scene (words_of (p ∷ spots g)) e refl (omega arith) in
      let sum : length (spots g) + 1 ≡ length (p ∷ spots g) = omega arith in
      rw (b.type, b.f32, b.end, reach g offset c.scene base few there, sum, spots_back (p ∷ spots g) X e)

  one : (at i : ℕ) → Drawn c at i p g last → Known c i → segment_by c (read_tag c i) ≡ piece (p ∷ spots g) last ∷ []
  unfolding segment_by tag_data
  one at i d k =
      ap (segment_by c) k
      ∙ by_byte (byte_of (tag_words c) i) (sums_to (tag_words c) i).pathseg_offset (subst (λ (b : ℕ). ByteIs b (length (spots g)) last) (sym d.byte) (byte_is_lem g last)) d.few d.words

-- ---- all of them

length_tags : (gs : List Segment) → length (segment_tags gs) ≡ length gs
unfolding segment_tags
length_tags [] = refl
length_tags (g ∷ []) = refl
length_tags (g ∷ h ∷ gs) = ap suc (length_tags (h ∷ gs))

pub size_of_lem : (s : Subpath) (ss : List Subpath) → length (tags_of (s ∷ ss)) ≡ length s.segments + length (tags_of ss)
unfolding tags_of
size_of_lem s ss = length-append (segment_tags s.segments) (tags_of ss) ∙ ap (λ (k : ℕ). k + length (tags_of ss)) (length_tags s.segments)

module _ (c : Call) (at n : ℕ) (known : (i : ℕ) → i < n → eqb (byte_of (tag_words c) i) 0 ≡ false → Known c i) where
  known_drawn : (i : ℕ) (p : Spot) (g : Segment) (last : Bool) → i < n → Drawn c at i p g last → Known c i
  known_drawn i p g last l d = known i l (subst (λ (b : ℕ). eqb b 0 ≡ false) (sym d.byte) (byte_is_lem g last).some)

  of_walk : (i : ℕ) (p : Spot) (gs : List Segment) → i + length gs ≤ n → Walk c at i p gs → decoded c i (length gs) ≡ pieces_from p gs
  unfolding Walk decoded pieces_from
  of_walk i p [] l w = refl
  of_walk i p (g ∷ []) l w = ap (λ (ks : List Piece). ks ++ []) (one c p g true at i w (known_drawn i p g true (omega arith) w))
  of_walk i p (g ∷ h ∷ gs) l w =
      ap (λ (ks : List Piece). ks ++ decoded c (suc i) (length (h ∷ gs))) (one c p g false at i w.0 (known_drawn i p g false (omega arith) w.0))
      ∙ ap (λ (ks : List Piece). piece (p ∷ spots g) false ∷ ks) (of_walk (suc i) (target g) (h ∷ gs) (omega arith) w.1)

  two_parts : (i m k : ℕ) → decoded c i (m + k) ≡ decoded c i m ++ decoded c (i + m) k
  unfolding decoded
  two_parts i zero k = ap (decoded c i) (zero_plus k) ∙ ap (λ (j : ℕ). decoded c j k) (plus_zero_lem i)
    where
      plus_zero_lem : (j : ℕ) → j ≡ j + 0
      plus_zero_lem j = omega arith

      zero_plus : (j : ℕ) → 0 + j ≡ j
      zero_plus j = omega arith
  two_parts i (suc m) k =
      ap (decoded c i) (suc_plus m k)
      ∙ ap (λ (ks : List Piece). segment_by c (read_tag c i) ++ ks) (two_parts (suc i) m k ∙ ap (λ (j : ℕ). decoded c (suc i) m ++ decoded c j k) (suc_plus' i m))
      ∙ sym (append_assoc (segment_by c (read_tag c i)) (decoded c (suc i) m) (decoded c (i + suc m) k))
    where
      suc_plus : (a b : ℕ) → suc a + b ≡ suc (a + b)
      suc_plus a b = omega arith

      suc_plus' : (a b : ℕ) → suc a + b ≡ a + suc b
      suc_plus' a b = omega arith

  of_walks : (i : ℕ) (ss : List Subpath) → i + length (tags_of ss) ≤ n → Walks c at i ss → decoded c i (length (tags_of ss)) ≡ pieces ss
  unfolding Walks tags_of pieces decoded
  of_walks i [] l w = refl
  of_walks i (s ∷ ss) l w =
      let size = size_of_lem s ss in
      ap (decoded c i) size
      ∙ two_parts i (length s.segments) (length (tags_of ss))
      ∙ ap (λ (ks : List Piece). ks ++ decoded c (i + length s.segments) (length (tags_of ss))) (of_walk i s.start s.segments (omega (arith, size)) w.0)
      ∙ ap (λ (ks : List Piece). pieces_from s.start s.segments ++ ks) (of_walks (i + length s.segments) ss (omega (arith, size)) w.1)

-- ---- the theorem

-- with a fresh scan that was lent enough, each tag that has a byte is known
known_fresh : (c : Call) (f : FreshCall c) (n : ℕ) → Lent c f n → (i : ℕ) → i < n → eqb (byte_of (tag_words c) i) 0 ≡ false → Known c i
known_fresh c f n l i h b =
    roomy_tag c.scene c.layout.tag_base c.prefixes f i (omega (arith, l.words)) (omega (arith, l.prefixes))
    ∙ ap (λ (s : PathMonoid). Ok (tag_data (byte_of (tag_words c) i) s)) (sums_at_lem (tag_words c) i b)

-- what the buffers hold is what the subpaths are encoded as
held : (W lent now : List ℕ) (n : ℕ) → Holds W lent now n → take n now ≡ W
held W lent now n h = ap (take n) h.words ∙ take_at W (drop (length W) lent) n (sym h.count)

module _ (tags points : List ℕ) (cs : List Command) (e : Finished (left tags points cs)) (c : Call) (at : ℕ) (p : Placed c at (left tags points cs)) where
  behind : Behind c at at (tags_of (subpaths tags points cs)) (points_of (subpaths tags points cs))
  behind =
      let k = encoded tags points cs e in
      let o = left tags points cs in
      let ts = held _ tags o.tags o.pen.tags k.its_tags in
      let ps = held _ points o.points o.pen.points k.its_points in
      record {
        here = subst (λ (ts : List ℕ). Here c at ts (points_of (subpaths tags points cs))) ts (subst (Here c at (drawn_tags o)) ps p.here);
        few = subst (Few c at) ps p.few;
        under = under_self c at;
      }

  -- each tag of them, with its points
  pub walked : Walks c at at (subpaths tags points cs)
  walked = walks c at at (subpaths tags points cs) (all_closed tags points cs) behind

  -- decoding them gives back the segments that the accepted commands mean, in order and bit for bit
  pub decodes : (f : FreshCall c) → Lent c f (at + (left tags points cs).pen.tags) → decoded c at (left tags points cs).pen.tags ≡ pieces (subpaths tags points cs)
  decodes f l =
      let o = left tags points cs in
      let count = (encoded tags points cs e).its_tags.count in
      ap (decoded c at) count
      ∙ of_walks c at (at + o.pen.tags) (known_fresh c f (at + o.pen.tags) l) at (subpaths tags points cs) (omega (arith, count)) walked
