-- A call whose scene passes the profile, and the subpaths that its tags make. Definitions only.
use Rattle.std.specs.Prelude.{ℕ, zero, suc, ◌≡◌, cond, List, [], ◌∷◌, ◌++◌}
use Rattle.flatten.specs.declared.tag.Head.{Head}
use Rattle.profile.specs.Reads.{Given, given}
use Rattle.profile.specs.Rules.{head_of, has_segment, has_end, ends}
use Rattle.profile.specs.Verdict.{passed, profile_of}
use Rattle.watertight.specs.Fill.{Call, tags}

-- what the call is given, as the profile takes it
abbrev pub scene_of : Call → Given
scene_of c = given c.layout c.scene c.prefixes

pub record Passes (c : Call) : Type 0 where
  pub segments : ℕ
  pub subpaths : ℕ
  pub answer : profile_of (scene_of c) ≡ passed segments subpaths

abbrev pub head_at : Call → ℕ → Head
head_at c i = head_of (scene_of c) i

-- the tags before tag i that have a segment
unfoldable pub segments_to : Call → ℕ → List ℕ
segments_to c zero = []
segments_to c (suc i) = segments_to c i ++ cond (has_segment (head_at c i)) (i ∷ []) []

-- those of them that a segment's end bit has not finished yet
unfoldable pub open_to : Call → ℕ → List ℕ
open_to c zero = []
open_to c (suc i) = cond (has_segment (head_at c i)) (cond (has_end (head_at c i)) [] (open_to c i ++ (i ∷ []))) (open_to c i)

-- the subpaths that were finished, each by its tags
unfoldable pub subpaths_to : Call → ℕ → List (List ℕ)
subpaths_to c zero = []
subpaths_to c (suc i) = subpaths_to c i ++ cond (ends (head_at c i)) ((open_to c i ++ (i ∷ [])) ∷ []) []

-- all tags before tag i
unfoldable pub tags_to : ℕ → List ℕ
tags_to zero = []
tags_to (suc i) = tags_to i ++ (i ∷ [])

-- of the whole call
abbrev pub all_segments : Call → List ℕ
all_segments c = segments_to c (tags c)

abbrev pub all_subpaths : Call → List (List ℕ)
all_subpaths c = subpaths_to c (tags c)

abbrev pub all_tags : Call → List ℕ
all_tags c = tags_to (tags c)
