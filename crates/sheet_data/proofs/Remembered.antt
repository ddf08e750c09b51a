-- What the lines of a drawing in remembered numbers ask for is there: the drawing is not refused, and the numbers m are its plan's own.
use mathlib.Core.Path.{◌≡◌, sym}
use mathlib.Core.Bool.{true}
use mathlib.Core.List.{List}
use Prim.Native.Nat.{ℕ, ◌≤◌, ◌<◌}
use native.Mathlib.Omega.{arith}
use lib.ListN.{length, take}
use Rattle.ints.specs.Lists.{concat}
use Rattle.plan.specs.declared.data.Plan.{Plan}
use Rattle.plan_renumber.specs.Renumber.{own_numbers}
use Rattle.plan_renumber.proofs.Own.{Own, own}
use Rattle.text_write.specs.inner.Written.{Fronts}
use Rattle.passes.proofs.Sound.{sound}
use Rattle.report.specs.Lines.{report_lines}
use Rattle.report.specs.Numbers.{in_numbers}
use Rattle.report.specs.declared.data.Drawing.{Drawing as Arrays}
use Rattle.report.specs.declared.data.Counts.{Counts}
use Rattle.report_lines.specs.inner.Stored.{line_of, max_line, max_report}
use Rattle.report_numbers.specs.inner.Rooms.{line_by, report_by, LineRoomBy, ReportRoomBy}
use Rattle.report_numbers.proofs.Rooms.{line-room-by, line-by, report-room-by, report-by}
use Rattle.sheet_data.specs.inner.Parts.{plan_with, drawing_with, Holds, lines_of}
use Rattle.sheet_data.proofs.Cuts.{PlanArrays, DrawingArrays}
use Rattle.sheet_data.proofs.Rooms.{plan-ok, prints, preliminary-long, passes-long, has_part, stored}

module _ (p : Plan) (d : Arrays) (c : Counts) (h : Holds p d c) (a : PlanArrays p) (b : DrawingArrays d) (m : List ℕ) (t : own_numbers (plan_with p c) m ≡ true) where
  its_own : Own (plan_with p c) m
  its_own = own (plan_with p c) m (sound (plan_with p c) (plan-ok p d c h)).total t

  pub line-asked-by : {o : List ℕ} (n : ℕ) → n < lines_of c → max_line ≤ length o
      → LineRoomBy m p.spacing (take p.levels p.sizes) (take c.vertices d.preliminary) (take c.vertices d.finals) (take c.placings d.passes)
      (take c.placings d.levels) (take c.placings d.counts) d.vertices d.positions n o
  line-asked-by n l k =
      line-room-by its_own (has_part p d c h a b) (stored p d c h a b) (prints p d c h) n (omega (arith, preliminary-long p d c h a b, passes-long p d c h a b)) k

  pub line-fronts-by : {o out : List ℕ} {r : ℕ} (n : ℕ)
      → Fronts (line_by m p.spacing (take p.levels p.sizes) (take c.vertices d.preliminary) (take c.vertices d.finals) (take c.placings d.passes)
      (take c.placings d.levels) (take c.placings d.counts) d.vertices d.positions n) o r out
      → Fronts (line_of (plan_with p c) (in_numbers m (drawing_with d c)) n) o r out
  line-fronts-by n f = rw (← line-by its_own (has_part p d c h a b) (stored p d c h a b) (prints p d c h) n) f

  pub report-asked-by : {o : List ℕ} → max_report ≤ length o
      → ReportRoomBy m p.spacing (take p.levels p.sizes) (take c.vertices d.preliminary) (take c.vertices d.finals) (take c.placings d.passes)
      (take c.placings d.levels) (take c.placings d.counts) d.vertices d.positions o
  report-asked-by k = report-room-by its_own (has_part p d c h a b) (stored p d c h a b) (prints p d c h) k

  pub report-same-by : concat (report_lines (plan_with p c) (in_numbers m (drawing_with d c)))
      ≡ report_by m p.spacing (take p.levels p.sizes) (take c.vertices d.preliminary) (take c.vertices d.finals) (take c.placings d.passes)
      (take c.placings d.levels) (take c.placings d.counts) d.vertices d.positions
  report-same-by = sym (report-by its_own (has_part p d c h a b) (stored p d c h a b) (prints p d c h))
