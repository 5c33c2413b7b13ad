-- `flatten::call::report` meets its contract. Assumes nothing.
use Rattle.std.proofs.Common.{◌≡◌, ℕ, ◌<◌, ◌≤◌, List, [], ◌∷◌, length, set, refl, ap, ◌∙◌, arith}
use Rattle.flatten.specs.Call.{report_of}
use Rattle.flatten.specs.declared.call.Told.{Told}
use Rattle.flatten.proofs.call.report.Goals as goal

-- what stands in the lent words, by how many there are
untouched : (ws : List ℕ) (t : Told) → length ws < 2 → ws ≡ report_of t ws
unfolding report_of
untouched [] t h = refl
untouched (a ∷ []) t h = refl
untouched (a ∷ b ∷ ws) t h = absurd (omega arith)

two_words : (ws : List ℕ) (t : Told) → 2 ≤ length ws → length (set (set ws 0 t.tag) 1 t.count) < 3 → set (set ws 0 t.tag) 1 t.count ≡ report_of t ws
unfolding report_of
two_words [] t h k = absurd (omega arith)
two_words (a ∷ []) t h k = absurd (omega arith)
two_words (a ∷ b ∷ []) t h k = refl
two_words (a ∷ b ∷ c ∷ ws) t h k = absurd (omega arith)

three_words : (ws : List ℕ) (t : Told) → 3 ≤ length (set (set ws 0 t.tag) 1 t.count) → set (set (set ws 0 t.tag) 1 t.count) 2 t.end ≡ report_of t ws
unfolding report_of
three_words [] t h = absurd (omega arith)
three_words (a ∷ []) t h = absurd (omega arith)
three_words (a ∷ b ∷ []) t h = absurd (omega arith)
three_words (a ∷ b ∷ c ∷ ws) t h = refl

-- what was told is what the definition tells
said : (ws us : List ℕ) (t u : Told) → t ≡ u → us ≡ report_of t ws → (t.number ≡ u.number) × (us ≡ report_of u ws)
said ws us t u e h = (ap (λ (x : Told). x.number) e, h ∙ ap (λ (x : Told). report_of x ws) e)

pub returns-then-out-lt2 : goal.returns-then-out-lt2
returns-then-out-lt2 c =
    let t = c.from-told in
    let ws = c.args.out.now in
    said ws ws t.result _ t.ensures (untouched ws t.result c.if-out-lt2.true)

pub returns-then-out-lt3 : goal.returns-then-out-lt3
returns-then-out-lt3 c =
    let t = c.from-told in
    let ws = c.args.out.now in
    said ws _ t.result _ t.ensures (two_words ws t.result c.if-out-lt2.false c.if-out-lt3.true)

pub returns : goal.returns
returns c =
    let t = c.from-told in
    let ws = c.args.out.now in
    said ws _ t.result _ t.ensures (three_words ws t.result c.if-out-lt3.false)
