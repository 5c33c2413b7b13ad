-- What the code knows behind some tags, and what one tag does to it. Definitions only.
use Rattle.std.specs.Prelude.{ℕ, ◌+◌, ◌%◌, ◌^◌, ◌<◌, ◌≤◌, ◌≡◌, Bool, true, false, cond, List, eqb, leb, length, replicate, Result, Ok, Err, is_ok, Option, Some, None}
use Rattle.spiral.specs.Util.{eq_of}
use Rattle.scene.specs.Reading.{wide, origin, segment_of}
use Rattle.flatten.specs.Tag.{is_path, is_stroke}
use Rattle.flatten.specs.declared.call.Layout.{Layout}
use Rattle.flatten.specs.declared.tag.Head.{Head}
use Rattle.profile.specs.Rules.{has_segment, has_end, is_even_odd, transform_from, six_at, aligned_to, point_of, rule_of}
use Rattle.profile.specs.declared.rules.Rule.{Rule}
use Rattle.profile.specs.declared.rules.Facts.{Facts}
use Rattle.profile.specs.declared.trail.Piece.{Piece}
use Rattle.profile.specs.declared.trail.Trail.{Trail}

-- counts that do not wrap
pub record Small (t : Trail) : Type 0 where
  pub segments : t.segments < 2 ^ 40
  pub subpaths : t.subpaths < 2 ^ 40

-- a segment whose transform and points were found
pub record InReach (layout : Layout) (scene : List ℕ) (h : Head) : Type 0 where
  pub segment : eqb (h.tag.tag_byte % 4) 0 ≡ false
  pub words : transform_from layout h + 6 ≤ length scene
  pub points : is_ok (segment_of h.tag.tag_byte false h.tag.monoid.pathseg_offset scene layout.data_base) ≡ true

unfoldable pub piece_of : Layout → List ℕ → Head → Piece
piece_of layout scene h =
    record {
      words = six_at scene (transform_from layout h);
      first = point_of layout scene h 0;
      last = point_of layout scene h (h.tag.tag_byte % 4);
    }

unfoldable pub entered_of : Trail → Piece → Trail
entered_of t p =
    record {
      segments = t.segments;
      subpaths = t.subpaths;
      unfinished = t.unfinished;
      start = cond t.unfinished t.start p.first;
      words = cond (eqb t.segments 0) p.words t.words;
    }

unfoldable pub behind_of : Trail → Bool → Trail
behind_of t true = record { segments = t.segments + 1; subpaths = t.subpaths + 1; unfinished = false; start = t.start; words = t.words }
behind_of t false = record { segments = t.segments + 1; subpaths = t.subpaths; unfinished = true; start = t.start; words = t.words }

unfoldable pub plain_facts : Head → Facts
plain_facts h =
    record {
      segment = false;
      path = is_path h;
      end = has_end h;
      stroke = is_stroke h;
      even_odd = is_even_odd h;
      wide = false;
      aligned = false;
      shut = false;
      last = false;
      many = false;
    }

unfoldable pub segment_facts : Head → Piece → Trail → ℕ → Facts
segment_facts h p t total =
    record {
      segment = true;
      path = is_path h;
      end = has_end h;
      stroke = is_stroke h;
      even_odd = is_even_odd h;
      wide = wide h.tag.tag_byte;
      aligned = aligned_to p.words t.words;
      shut = eq_of p.last t.start;
      last = eqb total (t.segments + 1);
      many = leb 4096 t.segments;
    }

-- the rule that a tag breaks, or the trail behind it
abbrev pub Stepped : Type 0
Stepped = Result Trail Rule

unfoldable pub stepped : Option Rule → Trail → Stepped
stepped None t = Ok t
stepped (Some rule) t = Err rule

unfoldable pub step_by : Bool → Layout → List ℕ → Head → Trail → ℕ → Stepped
step_by true layout scene h t total =
    let piece = piece_of layout scene h in
    let within = entered_of t piece in
    stepped (rule_of (segment_facts h piece within total)) (behind_of within (has_end h))
step_by false layout scene h t total = stepped (rule_of (plain_facts h)) t

abbrev pub step_of : Layout → List ℕ → Head → Trail → ℕ → Stepped
step_of layout scene h t total = step_by (has_segment h) layout scene h t total

-- before the first tag
unfoldable pub no_trail : Trail
no_trail = record { segments = 0; subpaths = 0; unfinished = false; start = origin; words = replicate 6 0 }
