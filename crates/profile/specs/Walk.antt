-- What the two passes over the tags know: that all reads were found, and the trail behind some tags. Definitions only.
use Rattle.std.specs.Prelude.{ℕ, ◌<◌, ◌≡◌, true, eqb, Result, Ok, Err}
use Rattle.profile.specs.Reads.{Given, tags, read_at}
use Rattle.profile.specs.Rules.{head_of, six_words, first_of, segments, subpaths, open_at, beginning, leading}
use Rattle.profile.specs.Verdict.{Verdict, unread_at, first}
use Rattle.profile.specs.declared.sheet.Failed.{Failed}
use Rattle.profile.specs.declared.trail.Trail.{Trail}

-- the first n tags were read
abbrev pub AllRead : Given → ℕ → Type 0
AllRead g n = (i : ℕ) → i < n → read_at g i ≡ Ok (head_of g i)

-- what the first pass found
unfoldable pub ReadBy : Given → Result ℕ Failed → Type 0
ReadBy g (Ok total) = (total ≡ segments g (tags g)) × AllRead g (tags g)
ReadBy g (Err f) = (v : Verdict) → first (unread_at g) 0 (tags g) v ≡ Err f

-- where the second pass stands before tag i
pub record TrailAt (g : Given) (i : ℕ) (t : Trail) : Type 0 where
  pub counted : t.segments ≡ segments g i
  pub finished : t.subpaths ≡ subpaths g i
  pub unfinished : t.unfinished ≡ open_at g i
  pub begun : open_at g i ≡ true → t.start ≡ first_of g (beginning g i)
  pub words : (eqb (segments g i) 0 ≡ true → ⊥) → t.words ≡ six_words g (leading g i)
