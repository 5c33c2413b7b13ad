-- What a file of the form gives with a range: its lines up to the first number outside, and where that number starts. Definitions only.
use Rattle.std.specs.Prelude.{List, [], ◌∷◌, ℕ, ◌+◌, length}
use Rattle.hpgl.specs.Text.{pick, numeral}
use Rattle.hpgl.specs.Form.{Line, Chain, Pen, up, down, command, Range}
use Rattle.hpgl.specs.Rounding.{is_within}
use Rattle.hpgl.specs.Reading.{complete, too_far, Answer, answer}
use Rattle.hpgl.specs.declared.Point.{Point}

-- a command whose P is at a position: x starts behind two bytes, y behind x and a comma; with both in range, what follows
unfoldable pub held : Range → ℕ → Point → Answer → Answer
held r at p rest =
    pick (is_within r p.x)
    (pick (is_within r p.y) rest (answer [] (too_far (at + 2 + length (numeral p.x) + 1))))
    (answer [] (too_far (at + 2)))

abbrev pub behind : ℕ → Pen → Point → ℕ
behind at k p = at + length (command k p [])

abbrev pub with_line : Line → Answer → Answer
with_line l a = answer (l ∷ a.lines) a.end

-- a PD to each point, the pen being at q
unfoldable pub held_downs : Range → ℕ → Point → List Point → (ℕ → Answer) → Answer
held_downs r at q [] rest = rest at
held_downs r at q (p ∷ ps) rest = held r at p (with_line (record { from = q; to = p }) (held_downs r (behind at down p) p ps rest))

unfoldable pub held_chains : Range → ℕ → List Chain → Answer
held_chains r at [] = answer [] complete
held_chains r at (c ∷ cs) = held r at c.start (held_downs r (behind at up c.start) c.start (c.first ∷ c.more) (λ a. held_chains r a cs))

-- behind `IN;`
unfoldable pub held_file : Range → List Chain → Answer
held_file r cs = held_chains r 3 cs
