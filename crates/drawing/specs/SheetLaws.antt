-- A stopped sheet. Assumes nothing.
use Rattle.std.specs.Prelude.{ℕ, ◌≡◌, refl, true, List, [], ◌∷◌, Ok, Err}
use Rattle.std.proofs.Common.{arith}
use Rattle.drawing.specs.Sheet.{Event, Drawn, sheet, draw, draw_all, is_stopped}

pub absorbs : (path : ℕ) (ws : List ℕ) (d : Drawn) (es : List Event) → is_stopped d ≡ true → sheet ws d ≡ draw_all path (sheet ws d) es
unfolding draw_all draw is_stopped
absorbs path ws d [] h = refl
absorbs path ws (Ok pen) (e ∷ es) h = let z : ◌≡◌ {A = ℕ} 0 1 = cc in absurd (omega arith)
absorbs path ws (Err s) (e ∷ es) h = absorbs path ws (Err s) es h
