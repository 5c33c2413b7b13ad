-- What the loops over the paths lean on. Assumes nothing.
use Prim.Native.Nat.{ℕ, ◌+◌, ◌*◌, ◌≤◌, ◌<◌}
use mathlib.Core.Path.{◌≡◌, refl, ap, ◌∙◌}
use mathlib.Core.List.{List}
use native.Mathlib.Numerals.{add-one}
use native.Mathlib.Omega.{arith}
use lib.ListN.{length}
use lib.Seq.{sets, length-sets}
use Rattle.records.specs.Record.{count}
use Rattle.mender.specs.declared.list.Plan.{Plan}
use Rattle.mender.specs.Report.{said_at, appended_at, report_to, lines_to, report_of, lines_of, Counted, lent, written_to, written}
use Rattle.mender.specs.ReportLaws.{said_short, line_short, report_more, lines_more, report_up, lines_up, sets_behind}

-- the paths and lines of the first k of n records
pub record Planned (ws : List ℕ) (t n paths lines k : ℕ) : Type 0 where
  pub within : k ≤ n
  pub few_paths : paths ≤ k
  pub few_lines : lines ≤ k
  pub of_paths : paths * 6 ≡ length (report_to ws t k)
  pub of_lines : lines * 6 ≡ length (lines_to ws t k)

pub none_planned : (ws : List ℕ) (t n : ℕ) → Planned ws t n 0 0 0
unfolding report_to lines_to
none_planned ws t n = record { within = omega arith; few_paths = omega arith; few_lines = omega arith; of_paths = refl; of_lines = refl }

pub plan_more : {ws : List ℕ} {t n paths lines k : ℕ} (a b : ℕ) → Planned ws t n paths lines k → k < n → a * 6 ≡ length (said_at ws t k) → b * 6 ≡ length (appended_at ws t k) → Planned ws t n (paths + a) (lines + b) (k + 1)
plan_more {ws} {t} {n} {paths} {lines} {k} a b h l e f =
    let r = report_more ws t k in
    let s = lines_more ws t k in
    let u = said_short ws t k in
    let v = line_short ws t k in
    record {
      within = omega arith;
      few_paths = omega (arith, h.few_paths);
      few_lines = omega (arith, h.few_lines);
      of_paths = omega (arith, h.of_paths);
      of_lines = omega (arith, h.of_lines);
    }

-- what is said of the first k records is written
pub record Wrote (ws : List ℕ) (t n : ℕ) (room₀ report₀ room report : List ℕ) (done : Plan) (k : ℕ) : Type 0 where
  pub within : k ≤ n
  pub of_paths : done.paths * 6 ≡ length (report_to ws t k)
  pub of_lines : done.lines * 6 ≡ length (lines_to ws t k)
  pub on_room : room ≡ sets room₀ 0 (lines_to ws t k)
  pub on_report : report ≡ sets report₀ 0 (report_to ws t k)

pub none_wrote : (ws : List ℕ) (t n : ℕ) (room report : List ℕ) → Wrote ws t n room report room report (record { paths = 0; lines = 0 }) 0
unfolding report_to lines_to
none_wrote ws t n room report = record { within = omega arith; of_paths = refl; of_lines = refl; on_room = refl; on_report = refl }

module _ {ws : List ℕ} {t : ℕ} {room₀ report₀ room report : List ℕ} {done : Plan} {k : ℕ} (h : Wrote ws t (count ws) room₀ report₀ room report done k) where
  pub same_room : length room ≡ length room₀
  same_room = ap length h.on_room ∙ length-sets room₀ 0 (lines_to ws t k)

  pub same_report : length report ≡ length report₀
  same_report = ap length h.on_report ∙ length-sets report₀ 0 (report_to ws t k)

  pub wrote_room : k < count ws → (length (lines_of ws t) ≤ length room₀) × (length (report_of ws t) ≤ length report₀)
      → (done.lines * 6 + length (appended_at ws t k) ≤ length room) × (done.paths * 6 + length (said_at ws t k) ≤ length report)
  wrote_room l r =
      let a = lines_more ws t k in
      let b = lines_up ws t (k + 1) (omega arith) in
      let c = report_more ws t k in
      let d = report_up ws t (k + 1) (omega arith) in
      (omega (arith, same_room, h.of_lines, r.0), omega (arith, same_report, h.of_paths, r.1))

  pub wrote_more : {room' report' : List ℕ} {done' : Plan} → k < count ws
      → (room' ≡ sets room (done.lines * 6) (appended_at ws t k)) × (report' ≡ sets report (done.paths * 6) (said_at ws t k)) × (done'.lines * 6 ≡ done.lines * 6 + length (appended_at ws t k)) × (done'.paths * 6 ≡ done.paths * 6 + length (said_at ws t k))
      → Wrote ws t (count ws) room₀ report₀ room' report' done' (k + 1)
  unfolding lines_to report_to
  wrote_more l r =
      record {
        within = omega arith;
        of_paths = let c = report_more ws t k in omega (arith, h.of_paths, r.3);
        of_lines = let a = lines_more ws t k in omega (arith, h.of_lines, r.2);
        on_room = r.0 ∙ rw (h.of_lines, h.on_room, add-one k) (sets_behind room₀ (lines_to ws t k) (appended_at ws t k));
        on_report = r.1 ∙ rw (h.of_paths, h.on_report, add-one k) (sets_behind report₀ (report_to ws t k) (said_at ws t k));
      }

  pub all_wrote : count ws ≤ k → lent room report ≡ written ws t (lent room₀ report₀)
  unfolding written_to
  all_wrote l =
      let w = h.within in
      let e : k ≡ count ws = omega arith in
      rw (← e) (rw (h.on_room, h.on_report) refl)
