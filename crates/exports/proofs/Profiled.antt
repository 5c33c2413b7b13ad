-- What was told of the profile, written to `out`, is its report. Assumes nothing.
use Prim.Native.Nat.{ℕ}
use mathlib.Core.Path.{◌≡◌, ap, ◌∙◌}
use mathlib.Core.List.{List}
use Rattle.profile.specs.Verdict.{Verdict, told_of}
use Rattle.profile.specs.declared.sheet.Told.{Told}
use Rattle.exports.specs.Convert.{three_of}
use Rattle.exports.specs.Profile.{profiled, profiled_of}

pub reported : (v w : Verdict) (t : Told) (os : List ℕ) {os' : List ℕ} → v ≡ w → t ≡ told_of v → os' ≡ three_of t.tag t.segments t.subpaths os → profiled t.number os' ≡ profiled_of w os
unfolding profiled_of
reported v w t os e told k =
    ap (profiled t.number) k ∙ ap (λ (u : Told). profiled u.number (three_of u.tag u.segments u.subpaths os)) told ∙ ap (λ (v : Verdict). profiled_of v os) e
