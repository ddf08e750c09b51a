-- The report of a drawing that lies in lists, and room for it; and for that in remembered numbers m.
use Rattle.std.specs.Prelude.{List, ℕ, ◌≤◌, length, ℤ}
use Rattle.ints.specs.Lists.{concat}
use Rattle.report.specs.Lines.{report_lines}
use Rattle.report_numbers.specs.inner.Rooms.{ReportRoomBy}
use Rattle.report_lines.specs.inner.Stored.{plan_part, drawing_from, ReportRoom, max_report}

-- All lines, of a plan with this spacing and these levels.
abbrev pub report_in : ℕ → List ℕ → List ℤ → List ℤ → List ℕ → List ℕ → List ℕ → List ℕ → List ℤ → List ℕ
report_in spacing sizes preliminary finals passes levels boxes vertices positions =
    concat (report_lines (plan_part spacing sizes (length preliminary)) (drawing_from preliminary finals passes levels boxes vertices positions))

-- A buffer of `max_report` bytes has room for them.
abbrev pub FitsRoom : ℕ → List ℕ → List ℤ → List ℤ → List ℕ → List ℕ → List ℕ → List ℕ → List ℤ → Type 0
FitsRoom spacing sizes preliminary finals passes levels boxes vertices positions =
    (o : List ℕ) → max_report ≤ length o → ReportRoom spacing sizes preliminary finals passes levels boxes vertices positions o

abbrev pub FitsRoomBy : List ℕ → ℕ → List ℕ → List ℤ → List ℤ → List ℕ → List ℕ → List ℕ → List ℕ → List ℤ → Type 0
FitsRoomBy m spacing sizes preliminary finals passes levels boxes vertices positions =
    (o : List ℕ) → max_report ≤ length o → ReportRoomBy m spacing sizes preliminary finals passes levels boxes vertices positions o
