-- A drawing that can be printed is small enough: a buffer of `max_line` bytes has room for every line of its report, and one of
-- `max_report` bytes for all of them.
use mathlib.Core.Path.{◌≡◌, ap}
use mathlib.Core.Bool.{true}
use mathlib.Core.List.{List, [], ◌∷◌}
use Prim.Native.Nat.{ℕ, ◌+◌, ◌≤◌, ◌<◌}
use native.Mathlib.Omega.{arith}
use lib.ListN.{length}
use lib.IntN.{ℤ}
use Rattle.plan.specs.Limits.{max_levels, max_vertices}
use Rattle.plan.specs.Plan.{PlanData}
use Rattle.plan.specs.Checks.{every}
use Rattle.ints.proofs.Tests.{conj-at}
use Rattle.report.specs.Refusal13.{is_pass, is_run_of_plan, is_drawing}
use Rattle.passes.specs.Drawing.{Drawing}
use Rattle.passes.specs.Words.{drawing_within}
use Rattle.report_lines.specs.inner.Stored.{drawing_from, Stored, LineRoom, ReportRoom, max_line, max_report}
use Rattle.report_lines.proofs.ByNumber.{HasPart, same_lines}
use Rattle.report_lines.proofs.Printable.{Printable}
use Rattle.report_lines.proofs.Lengths.{line-short, report-short}

module _ {p : PlanData} {spacing : ℕ} {sizes : List ℕ} {preliminary finals : List ℤ} {passes levels counts vertices : List ℕ} {positions : List ℤ}
    (h : HasPart p spacing sizes (length preliminary)) (s : Stored preliminary finals passes levels counts vertices positions)
    (e : Printable p (drawing_from preliminary finals passes levels counts vertices positions)) where
  few_levels : length sizes ≤ max_levels
  few_levels = omega (arith, ap length h.of_sizes, e.levels)

  few_vertices : length preliminary ≤ max_vertices
  few_vertices = omega (arith, h.of_vertices, e.vertices)

  pub line-room : {o : List ℕ} (n : ℕ) → n < length preliminary + length passes + 2 → max_line ≤ length o → LineRoom spacing sizes preliminary finals passes levels counts vertices positions n o
  line-room {o} n l m =
      let d = drawing_from preliminary finals passes levels counts vertices positions in
      record {
        few = few_levels;
        in_limit = few_vertices;
        stored = s;
        line = l;
        room = rw (← same_lines h d) (omega (arith, line-short e n));
      }

  pub report-room : {o : List ℕ} → max_report ≤ length o → ReportRoom spacing sizes preliminary finals passes levels counts vertices positions o
  report-room {o} m =
      let d = drawing_from preliminary finals passes levels counts vertices positions in
      record {
        few = few_levels;
        in_limit = few_vertices;
        stored = s;
        room = rw (← same_lines h d) (omega (arith, report-short e));
      }

-- Of a drawing that is not refused, `Stored` asks for no more than lengths.
pub drawing-within : (p : PlanData) (d : Drawing) → is_drawing p d ≡ true → drawing_within d ≡ true
unfolding is_drawing
drawing-within p d e = conj-at (drawing_within d) (every is_pass d.placings ∷ every (is_run_of_plan p) d.placings ∷ []) e 0
