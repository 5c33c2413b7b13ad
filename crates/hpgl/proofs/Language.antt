-- The reader accepts exactly the files of the form with numbers in range and room for their lines. Assumes nothing.
use Rattle.std.specs.Prelude.{List, ℕ, ◌≤◌, T, length}
use Rattle.std.proofs.Common.{sym, ap, ◌∙◌, subst}
use Rattle.hpgl.specs.Form.{Line, Range}
use Rattle.hpgl.specs.Reading.{Answer, read_of}
use Rattle.hpgl.specs.Sound.{is_complete}
use Rattle.hpgl.proofs.Sound.{accepted_form}
use Rattle.hpgl.specs.Accepts.{form_accepted}
use Rattle.hpgl.specs.Language.{lines_fit, Formed}

pub accepts_exactly : (r : Range) (room : ℕ) (file : List ℕ) → (T (is_complete (read_of r room file).end) → Formed r room file) × (Formed r room file → T (is_complete (read_of r room file).end))
accepts_exactly r room file = (
  λ h. let f = accepted_form r room file h in record { chains = f.0; bytes = f.1; fits = f.3; space = subst (λ (ls : List Line). length ls ≤ room) f.2 (lines_fit r room file) },
  λ f. subst (λ (a : Answer). T (is_complete a.end)) (sym (ap (read_of r room) f.bytes ∙ form_accepted r f.chains f.fits room f.space)) tt,
)
