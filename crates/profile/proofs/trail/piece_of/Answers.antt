-- `profile::trail::piece_of` meets its contract. Assumes nothing.
use Rattle.std.proofs.Common.{sym, ◌∙◌}
use Rattle.profile.proofs.Laws.{piece_is}
use Rattle.profile.proofs.trail.piece_of.Goals as goal

pub returns : goal.returns
returns c = piece_is _ _ _ c.requires _ _ _ _ (sym c.read_points.ensures ∙ c.unwrap-points.ensures) c.six_words-words.ensures
