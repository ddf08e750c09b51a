-- A plan with the numbers m of its vertices in a text, and its report in those numbers.
use Rattle.std.specs.Prelude.{◌≡◌, true, List, ℕ}
use Rattle.ints.specs.Lists.{concat}
use Rattle.plan.specs.Plan.{PlanData}
use Rattle.plan.specs.Acceptable.{acceptable}
use Rattle.plan_renumber.specs.Renumber.{own_numbers}
use Rattle.passes.specs.Drawing.{drawing_of}
use Rattle.report.specs.Lines.{report_lines}
use Rattle.report.specs.Numbers.{in_numbers}

-- The plan passes the checks, and the numbers are its own.
pub record Remembers (p : PlanData) (m : List ℕ) : Type 0 where
  pub ok : acceptable p ≡ true
  pub own : own_numbers p m ≡ true

abbrev pub report_numbered : PlanData → List ℕ → List ℕ
report_numbered p m = concat (report_lines p (in_numbers m (drawing_of p)))
