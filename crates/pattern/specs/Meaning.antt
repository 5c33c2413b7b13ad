-- What commands mean, the subpaths that they finish, and how subpaths are encoded as tag bytes and point words. Definitions only.
use Rattle.std.specs.Prelude.{ℕ, ◌+◌, Bool, true, false, cond, List, [], ◌∷◌, ◌++◌, eqb, Ok}
use Rattle.pattern.specs.Commands.{same, words_of, Segment, line, spots, target, tag_of, Command, move, draw, end, number_of, Outcome, outcome, command_of}
use Rattle.pattern.specs.declared.pen.Spot.{Spot}
use Rattle.pattern.specs.declared.pen.Open.TheVariants.{Nothing}
use Rattle.pattern.specs.declared.pen.Pen.{Pen}

-- ---- subpaths

-- where it starts, and its segments in order
pub record Subpath : Type 0 where
  pub start : Spot
  pub segments : List Segment

abbrev pub subpath : Spot → List Segment → Subpath
subpath p gs = record { start = p; segments = gs }

-- where segments that start at a point end
unfoldable pub end_of : Spot → List Segment → Spot
end_of p [] = p
end_of p (g ∷ gs) = end_of (target g) gs

-- where it ends elsewhere than it started, a line to its start
unfoldable pub closing : Spot → List Segment → List Segment
closing p gs = cond (same (end_of p gs) p) [] (line p ∷ [])

-- ---- what commands mean

-- a subpath that is not finished
pub data Unfinished : Type 0 where
  nothing : Unfinished
  begun : Subpath → Unfinished

-- finished, with its closing line; a move with no segment behind it is no subpath
unfoldable pub finished_by : Spot → List Segment → List Subpath
finished_by p [] = []
finished_by p (g ∷ gs) = subpath p ((g ∷ gs) ++ closing p (g ∷ gs)) ∷ []

unfoldable pub finished : Unfinished → List Subpath
finished nothing = []
finished (begun s) = finished_by s.start s.segments

unfoldable pub goes_on : Unfinished → Segment → Unfinished
goes_on nothing g = nothing
goes_on (begun s) g = begun (subpath s.start (s.segments ++ (g ∷ [])))

-- a move and an end finish what is open
unfoldable pub meant : Unfinished → List Command → List Subpath
meant u [] = []
meant u (move p ∷ cs) = finished u ++ meant (begun (subpath p [])) cs
meant u (draw g ∷ cs) = meant (goes_on u g) cs
meant u (end ∷ cs) = finished u ++ meant nothing cs

-- ---- how subpaths are encoded

-- a tag for each segment; that of the last has the end bit
unfoldable pub segment_tags : List Segment → List ℕ
segment_tags [] = []
segment_tags (g ∷ []) = (tag_of g + 0x04) ∷ []
segment_tags (g ∷ h ∷ gs) = tag_of g ∷ segment_tags (h ∷ gs)

-- the points behind the start
unfoldable pub all_spots : List Segment → List Spot
all_spots [] = []
all_spots (g ∷ gs) = spots g ++ all_spots gs

unfoldable pub tags_of : List Subpath → List ℕ
tags_of [] = []
tags_of (s ∷ ss) = segment_tags s.segments ++ tags_of ss

-- each point once, the start in front
unfoldable pub points_of : List Subpath → List ℕ
points_of [] = []
points_of (s ∷ ss) = words_of (s.start ∷ all_spots s.segments) ++ points_of ss

-- ---- commands one after the other

-- a pen with which nothing was drawn, and the lent buffers
abbrev pub fresh_pen : Pen
fresh_pen =
    record { place = record { opened = Nothing; first = record { x = 0; y = 0 }; last = record { x = 0; y = 0 } }; tags = 0; points = 0 }

abbrev pub fresh : List ℕ → List ℕ → Outcome
fresh tags points = outcome (Ok tt) fresh_pen tags points

abbrev pub next : Outcome → Command → Outcome
next o command = command_of o.pen command o.tags o.points

unfoldable pub after : Outcome → List Command → Outcome
after o [] = o
after o (command ∷ cs) = after (next o command) cs

-- those that were accepted
unfoldable pub kept : Bool → Command → List Command → List Command
kept true command cs = command ∷ cs
kept false command cs = cs

unfoldable pub accepted : Outcome → List Command → List Command
accepted o [] = []
accepted o (command ∷ cs) = kept (eqb (number_of (next o command).answer) 0) command (accepted (next o command) cs)
