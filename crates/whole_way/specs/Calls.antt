-- The call of flattening that the whole way makes. Definitions only.
use Rattle.std.specs.Prelude.{ℕ, List, [], ◌∷◌, ◌++◌, length, drop}
use Rattle.scene.specs.Tags.{scan_of}
use Rattle.flatten.specs.Boxes.{fresh_box}
use Rattle.cut.specs.Sheet.{layout_of, sheet_of, size_of}
use Rattle.watertight.specs.Fill.{Call}

-- the lent words with the sheet in front
unfoldable pub scene_of : List ℕ → List ℕ → List ℕ → List ℕ → List ℕ
scene_of drawn points six scene = sheet_of drawn points six ++ drop (size_of (length drawn) (length points)) scene

-- the sheet of what was drawn, its fresh scan, one box
unfoldable pub sheet_call : List ℕ → List ℕ → List ℕ → List ℕ → List ℕ → List ℕ → Call
sheet_call drawn points six scene prefixes lines =
    record {
      layout = layout_of (length drawn) (length points);
      scene = scene_of drawn points six scene;
      prefixes = (scan_of (scene_of drawn points six scene) 0 prefixes).words;
      boxes = fresh_box ∷ [];
      lines = lines;
    }
