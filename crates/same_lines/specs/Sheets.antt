-- What `to_f32` writes is what the theorem on flattening asks for. Assumes nothing.
use Prim.Native.Nat.{ℕ, zero, suc, ◌+◌, ◌*◌, ◌/◌, ◌%◌, ◌<◌, ◌≤◌}
use Rattle.std.specs.Prelude.{◌≡◌, refl, Bool, true, false, ◌||◌, List, [], ◌∷◌, ◌++◌, map, eqb, length, drop, take}
use Rattle.std.proofs.Common.{sym, ◌∙◌, length-append, get_or-drop, get_or-take, length-take-le, eqb-true}
use Rattle.std.proofs.Math.Path.{ap}
use native.Mathlib.Omega.{arith}
use Rattle.std.proofs.Math.Decide.{ℕ_discrete}
use Rattle.std.proofs.Math.ListN.{get_or, get_or-append, get_or-map}
use Rattle.std.proofs.lemmas.List.{get_or_at}
use Rattle.scene.specs.Tags.{tag_sums, plus, byte_at, sums_below, word_sums, sums_before}
use Rattle.watertight.specs.Fill.{Call, outcome, Accepted, tags}
use Rattle.sheets.specs.Moving.{counts, is_old, new_tag, total, x_word, y_word, new_points}
use Rattle.same_lines.specs.Conditions.{words_of, byte_of, bytes_to, counted, Scanned, Roomy, Few, ReadsCounted, Followed, SameLent, TagsMoved, PointsMoved, SameStyles, SameTransforms, SheetMoved}
use Rattle.same_lines.specs.Pairs.{byte_at_lem}
use Rattle.sheets.specs.Back as back
use Rattle.sheets.specs.Back.{new_length, all_says}
use Rattle.same_lines.specs.Flattens.{same_flattening}

-- ---- the bytes of a call's tags

length_bytes : (c : Call) (n : ℕ) → length (bytes_to c n) ≡ n
unfolding bytes_to
length_bytes c zero = refl
length_bytes c (suc n) = rw (length-append, length_bytes c n) (omega arith)

byte_is_lem : (c : Call) (n i : ℕ) → i < n → get_or (bytes_to c n) i 0 ≡ byte_of c i
unfolding bytes_to
byte_is_lem c zero i h = absurd (omega arith)
byte_is_lem c (suc n) i h =
    elim (ℕ_discrete i n) [
      | yes e ↦ get_or_at (bytes_to c n) (byte_of c n) [] 0 i (length_bytes c n ∙ sym e) ∙ ap (byte_of c) (sym e)
      | no ne ↦ get_or-append (bytes_to c n) (byte_of c n ∷ []) 0 i (omega (arith, length_bytes c n, ne)) ∙ byte_is_lem c n i (omega (arith, ne))
    ]

-- ---- the points that they count

total_append : (a b : List ℕ) → total (a ++ b) ≡ total a + total b
unfolding total
total_append [] b = omega arith
total_append (x ∷ a) b = omega (arith, total_append a b)

one_more_lem : (c : Call) (n : ℕ) → total (bytes_to c (suc n)) ≡ total (bytes_to c n) + counts (byte_of c n)
unfolding bytes_to total
one_more_lem c n = total_append (bytes_to c n) (byte_of c n ∷ []) ∙ (let e : total (bytes_to c n) + (counts (byte_of c n) + 0) ≡ total (bytes_to c n) + counts (byte_of c n) = omega arith in e)

tag_by : (b : ℕ) (t : Bool) → eqb (counts b) 0 ≡ t → t || eqb (b / 8 % 2) 0 ≡ true → (b % 4 + b / 4 % 2) * (1 + b / 8 % 2) ≡ counts b
tag_by b true e h = let z : b % 4 + b / 4 % 2 ≡ 0 = eqb-true (counts b) 0 e in rw z (omega arith)
tag_by b false e h = let z : b / 8 % 2 ≡ 0 = eqb-true _ _ h in rw z (omega arith)

tag_words_lem : (b : ℕ) → is_old b ≡ true → (tag_sums b).pathseg_offset ≡ counts b
unfolding is_old tag_sums
tag_words_lem b h = tag_by b (eqb (counts b) 0) refl h

word_words : (w : ℕ) → ((j : ℕ) → j < 4 → is_old (byte_at w j) ≡ true) → (word_sums w).pathseg_offset ≡ counts (byte_at w 0) + counts (byte_at w 1) + counts (byte_at w 2) + counts (byte_at w 3)
unfolding word_sums sums_below plus
word_words w f =
    let a : (tag_sums (byte_at w 0)).pathseg_offset ≡ counts (byte_at w 0) = tag_words_lem (byte_at w 0) (f 0 (omega arith)) in
    let b : (tag_sums (byte_at w 1)).pathseg_offset ≡ counts (byte_at w 1) = tag_words_lem (byte_at w 1) (f 1 (omega arith)) in
    let c : (tag_sums (byte_at w 2)).pathseg_offset ≡ counts (byte_at w 2) = tag_words_lem (byte_at w 2) (f 2 (omega arith)) in
    let d : (tag_sums (byte_at w 3)).pathseg_offset ≡ counts (byte_at w 3) = tag_words_lem (byte_at w 3) (f 3 (omega arith)) in
    rw (a, b, c, d) (omega arith)

module _ (c : Call) (few : Few c) (old : (i : ℕ) → i < tags c → is_old (byte_of c i) ≡ true) where
  -- the scan's sum over the words before word k
  words_before : (k : ℕ) → k ≤ c.layout.n_wg * 64 → ((sums_before (words_of c) k).pathseg_offset ≡ total (bytes_to c (k * 4))) × (total (bytes_to c (k * 4)) ≤ 16 * k)
  unfolding sums_before plus bytes_to total
  words_before zero h = (refl, omega arith)
  words_before (suc k) h =
      let r = words_before k (omega arith) in
      let w = get_or (words_of c) k 0 in
      let at0 : byte_of c (k * 4) ≡ byte_at w 0 = (let e : k * 4 ≡ k * 4 + 0 = omega arith in ap (byte_of c) e) ∙ byte_at_lem c k 0 (omega arith) in
      let at1 : byte_of c (suc (k * 4)) ≡ byte_at w 1 = (let e : suc (k * 4) ≡ k * 4 + 1 = omega arith in ap (byte_of c) e) ∙ byte_at_lem c k 1 (omega arith) in
      let at2 : byte_of c (suc (suc (k * 4))) ≡ byte_at w 2 = (let e : suc (suc (k * 4)) ≡ k * 4 + 2 = omega arith in ap (byte_of c) e) ∙ byte_at_lem c k 2 (omega arith) in
      let at3 : byte_of c (suc (suc (suc (k * 4)))) ≡ byte_at w 3 = (let e : suc (suc (suc (k * 4))) ≡ k * 4 + 3 = omega arith in ap (byte_of c) e) ∙ byte_at_lem c k 3 (omega arith) in
      let ws = word_words w (λ j l. ap is_old (sym (byte_at_lem c k j l)) ∙ old (k * 4 + j) (omega arith)) in
      let four : suc k * 4 ≡ suc (suc (suc (suc (k * 4)))) = omega arith in
      let sum : total (bytes_to c (suc k * 4)) ≡ total (bytes_to c (k * 4)) + (counts (byte_at w 0) + counts (byte_at w 1) + counts (byte_at w 2) + counts (byte_at w 3)) =
      ap (λ (m : ℕ). total (bytes_to c m)) four ∙ rw (one_more_lem c (suc (suc (suc (k * 4)))), one_more_lem c (suc (suc (k * 4))), one_more_lem c (suc (k * 4)), one_more_lem c (k * 4), at0, at1, at2, at3) (omega arith) in
      let small : counts (byte_at w 0) + counts (byte_at w 1) + counts (byte_at w 2) + counts (byte_at w 3) ≤ 16 = omega arith in
      (rw (ws, r.0, sum) (omega (arith, r.1, few)), rw sum (omega (arith, r.1)))

  pub counted_is : counted c ≡ total (bytes_to c (tags c))
  unfolding counted
  counted_is = (words_before (c.layout.n_wg * 64) (omega arith)).0 ∙ (let e : c.layout.n_wg * 64 * 4 ≡ tags c = omega arith in ap (λ (m : ℕ). total (bytes_to c m)) e)

-- ---- the points moved

new_at : (ws : List ℕ) (w : ℕ) → w < length ws → (get_or (new_points ws) (2 * w) 0 ≡ x_word (get_or ws w 0)) × (get_or (new_points ws) (2 * w + 1) 0 ≡ y_word (get_or ws w 0))
unfolding new_points
new_at [] w h = absurd (omega arith)
new_at (v ∷ ws) zero h = (refl, refl)
new_at (v ∷ ws) (suc w) h =
    let r = new_at ws w (omega arith) in
    let e : 2 * suc w ≡ suc (suc (2 * w)) = omega arith in
    let d : 2 * suc w + 1 ≡ suc (suc (2 * w + 1)) = omega arith in
    (ap (λ (k : ℕ). get_or (new_points (v ∷ ws)) k 0) e ∙ r.0, ap (λ (k : ℕ). get_or (new_points (v ∷ ws)) k 0) d ∙ r.1)

zero_tag : new_tag 0 ≡ 0
unfolding new_tag
zero_tag = refl

module _ (old new : Call) (few : Few old) (m : SheetMoved old new) where
  abbrev pts : List ℕ
  pts = drop old.layout.data_base old.scene

  abbrev bytes : List ℕ
  bytes = bytes_to old (tags old)

  taken : back.Accepted bytes pts m.tag_room m.point_room m.new_tags m.new_points_lem
  taken = back.accepted bytes pts m.tag_room m.point_room m.new_tags m.new_points_lem m.is_moved

  old_kinds : (i : ℕ) → i < tags old → is_old (byte_of old i) ≡ true
  old_kinds i h = ap is_old (sym (byte_is_lem old (tags old) i h)) ∙ all_says is_old bytes taken.kinds i (omega (arith, length_bytes old (tags old)))

  pub sheet_tags : TagsMoved old new
  sheet_tags =
      record {
        old_kind = old_kinds;
        there = m.tags_there;
        byte = λ i h.
            sym (byte_is_lem new (tags old) i h) ∙ ap (λ (l : List ℕ). get_or l i 0) (m.tags_are ∙ taken.are_tags)
            ∙ ap (get_or (map new_tag bytes) i) (sym zero_tag) ∙ get_or-map new_tag bytes i 0 ∙ ap new_tag (byte_is_lem old (tags old) i h);
      }

  count : counted old ≡ total bytes
  count = counted_is old few old_kinds

  abbrev some : List ℕ
  some = take (total bytes) pts

  some_length : length some ≡ total bytes
  some_length = length-take-le (total bytes) pts taken.there

  points_length : length m.new_points_lem ≡ 2 * total bytes
  points_length = ap length taken.are_words ∙ (let e : length (new_points some) ≡ 2 * total bytes = omega (arith, new_length some, some_length) in e)

  -- a word of the new scene behind its data base
  new_word : (j : ℕ) → j < 2 * total bytes → get_or new.scene (new.layout.data_base + j) 0 ≡ get_or (new_points some) j 0
  new_word j h =
      let d = new.layout.data_base in
      let l : j < length m.new_points_lem = omega (arith, points_length) in
      sym (get_or-drop d new.scene j 0) ∙ sym (get_or-take (length m.new_points_lem) (drop d new.scene) j 0 l) ∙ ap (λ (q : List ℕ). get_or q j 0) (m.points_are ∙ taken.are_words)

  old_word : (w : ℕ) → w < total bytes → get_or some w 0 ≡ get_or old.scene (old.layout.data_base + w) 0
  old_word w h = get_or-take (total bytes) pts w 0 h ∙ get_or-drop old.layout.data_base old.scene w 0

  pub sheet_points : PointsMoved old new
  sheet_points =
      record {
        there = omega (arith, m.points_there, points_length, count);
        x = λ w h.
            let l : w < total bytes = omega (arith, count) in
            new_word (2 * w) (omega arith) ∙ (new_at some w (omega (arith, some_length))).0 ∙ ap x_word (old_word w l);
        y = λ w h.
            let l : w < total bytes = omega (arith, count) in
            let at : new.layout.data_base + 2 * w + 1 ≡ new.layout.data_base + (2 * w + 1) = omega arith in
            ap (λ (k : ℕ). get_or new.scene k 0) at ∙ new_word (2 * w + 1) (omega arith) ∙ (new_at some w (omega (arith, some_length))).1 ∙ ap y_word (old_word w l);
      }

-- Document 02's sentence: an old call of at most 2^28 tags, accepted with a fresh scan, that reads no point word beyond those its tags count, with each stroked segment
-- without an end bit directly followed by a segment among its tags; and a new call, freshly scanned, whose scene has the moved sheet, with the same boxes and lines lent and the
-- same style and transform words read: the same answer, the same boxes, the same lines.
pub moved_sheet_flattens : (old new : Call) → Accepted old → Scanned old → Roomy new → Few old → ReadsCounted old → Followed old
    → SheetMoved old new → SameLent old new → SameStyles old new → SameTransforms old new → outcome new ≡ outcome old
moved_sheet_flattens old new a f r few reads followed s lent styles transforms =
    same_flattening old new a f r few reads followed (record { lent = lent; tags = sheet_tags old new few s; points = sheet_points old new few s; styles = styles; transforms = transforms })
