-- The whole way as C sees it: a text and numbers in, a number out, and the lists that are lent to be written. Definitions only.
use Rattle.std.specs.Prelude.{ℕ, List, Float}
use Rattle.std.specs.Float.{binary32}
use Rattle.std.specs.Float.Ieee.{to_bits}
use Rattle.cut.specs.Stages.{report_of, Gone}
use Rattle.svg.specs.declared.hand.Six.{Six}
use Rattle.exports.specs.Convert.{three_of}

-- the words of six numbers
abbrev pub six_by : Float → Float → Float → Float → Float → Float → Six
six_by a b c d e f = record { a = to_bits binary32 a; b = to_bits binary32 b; c = to_bits binary32 c; d = to_bits binary32 d; e = to_bits binary32 e; f = to_bits binary32 f }

-- the number returned, and the lists
pub record Whole : Type 0 where
  pub number : ℕ
  pub tags : List ℕ
  pub points : List ℕ
  pub scene : List ℕ
  pub prefixes : List ℕ
  pub lines : List ℕ
  pub bytes : List ℕ
  pub out : List ℕ

abbrev pub whole : ℕ → List ℕ → List ℕ → List ℕ → List ℕ → List ℕ → List ℕ → List ℕ → Whole
whole number tags points scene prefixes lines bytes out =
    record { number = number; tags = tags; points = points; scene = scene; prefixes = prefixes; lines = lines; bytes = bytes; out = out }

-- out: how many bytes the file has, and the stage and the place of a refusal
unfoldable pub whole_of : Gone → List ℕ → Whole
whole_of g out =
    let r = report_of g.behind.answer in
    whole r.number g.tags g.points g.behind.scene g.behind.prefixes g.behind.lines g.behind.bytes (three_of r.bytes r.stage r.at out)
