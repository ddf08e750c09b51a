-- What the lines of a drawing in numbers m ask for: of the lists that `in_numbers` wrote, and of a drawing that can be printed and own
-- numbers of its plan. Assumes nothing.
use mathlib.Core.Path.{◌≡◌, sym, ◌∙◌, ap}
use mathlib.Core.List.{List}
use Prim.Native.Nat.{ℕ, ◌+◌, ◌≤◌, ◌<◌}
use native.Mathlib.Omega.{arith}
use lib.ListN.{length}
use lib.IntN.{ℤ}
use Rattle.ints.specs.Lists.{concat}
use Rattle.plan.specs.Plan.{PlanData, vertex_count}
use Rattle.plan_renumber.proofs.Own.{Own}
use Rattle.passes.specs.Drawing.{Drawing}
use Rattle.passes.specs.Words.{max_listed}
use Rattle.report.specs.Lines.{report_lines}
use Rattle.report.specs.Numbers.{in_numbers}
use Rattle.report.proofs.Numbers.{positions-long}
use Rattle.report_lines.specs.inner.Stored.{drawing_from, Stored, line_of, report_line_of, report_of, LineRoom, ReportRoom, max_line, max_report}
use Rattle.report_lines.proofs.ByNumber.{HasPart, same_lines}
use Rattle.report_lines.proofs.Lengths.{line-short, report-short}
use Rattle.report_lines.proofs.Listed.{placings-count, few-placings}
use Rattle.report_lines.proofs.Printable.{Printable, printable-by, boxes-below}
use Rattle.report_numbers.specs.inner.Words.{Takes, Numberable, Numbered}
use Rattle.report_numbers.specs.inner.Rooms.{line_by, report_by, HasNumbers, LineRoomBy, ReportRoomBy}

-- ---- as the program meets them
module _ {m sizes : List ℕ} {preliminary finals : List ℤ} {passes levels counts vertices : List ℕ} {positions : List ℤ}
    (h : HasNumbers m sizes preliminary finals passes levels counts vertices positions) where
  takes : (xs out : List ℤ) → length xs ≡ length m → length out ≡ length m → Takes m xs out
  takes xs out f g = record { once = h.once; of_positions = f; long = g }

  pub numberable : (starts ends : List ℤ) (names : List ℕ) → length starts ≡ length m → length ends ≡ length m → length names ≡ max_listed
      → Numberable m counts preliminary finals vertices starts ends names
  numberable starts ends names f g k =
      let s = h.stored in
      record {
        first = takes preliminary starts h.of_preliminary f;
        last = takes finals ends (s.of_finals ∙ h.of_preliminary) g;
        few = omega (arith, s.of_counts, placings-count passes levels counts vertices positions s.of_levels s.of_counts, few-placings (drawing_from preliminary finals passes levels counts vertices positions) s.within);
        of_vertices = s.of_vertices;
        to_names = omega (arith, s.few);
        boxes = h.boxes;
      }

  module _ {starts ends : List ℤ} {names : List ℕ} (w : Numbered m counts preliminary finals vertices starts ends names) where
    drawing-is : drawing_from starts ends passes levels counts names positions ≡ in_numbers m (drawing_from preliminary finals passes levels counts vertices positions)
    drawing-is = w.drawing passes levels positions h.stored

    as_long : length starts ≡ length m
    as_long = ap (λ (d : Drawing). length d.preliminary) drawing-is ∙ positions-long m preliminary

    pub line-is : (spacing n : ℕ) → report_line_of spacing sizes starts ends passes levels counts names positions n ≡ line_by m spacing sizes preliminary finals passes levels counts vertices positions n
    line-is spacing n = rw (drawing-is, as_long)

    pub report-is : (spacing : ℕ) → report_of spacing sizes starts ends passes levels counts names positions ≡ report_by m spacing sizes preliminary finals passes levels counts vertices positions
    report-is spacing = rw (drawing-is, as_long)

module _ {m : List ℕ} {spacing : ℕ} {sizes : List ℕ} {preliminary finals : List ℤ} {passes levels counts vertices : List ℕ} {positions : List ℤ} {o : List ℕ}
    {starts ends : List ℤ} {names : List ℕ} (w : Numbered m counts preliminary finals vertices starts ends names) where
  pub line-asked : {n : ℕ} → LineRoomBy m spacing sizes preliminary finals passes levels counts vertices positions n o → LineRoom spacing sizes starts ends passes levels counts names positions n o
  line-asked {n} h = record {
    few = h.numbered.few;
    in_limit = omega (arith, as_long h.numbered w, h.numbered.in_limit);
    stored = w.stored passes levels positions h.numbered.stored;
    line = omega (arith, as_long h.numbered w, h.line);
    room = rw (line-is h.numbered w spacing n) h.room;
  }

  pub report-asked : ReportRoomBy m spacing sizes preliminary finals passes levels counts vertices positions o → ReportRoom spacing sizes starts ends passes levels counts names positions o
  report-asked h = record {
    few = h.numbered.few;
    in_limit = omega (arith, as_long h.numbered w, h.numbered.in_limit);
    stored = w.stored passes levels positions h.numbered.stored;
    room = rw (report-is h.numbered w spacing) h.room;
  }

-- ---- of a drawing that can be printed and own numbers of its plan
module _ {p : PlanData} {spacing : ℕ} {sizes : List ℕ} {preliminary finals : List ℤ} {passes levels counts vertices : List ℕ} {positions : List ℤ} {m : List ℕ}
    (own : Own p m) (h : HasPart p spacing sizes (length preliminary)) (s : Stored preliminary finals passes levels counts vertices positions)
    (e : Printable p (drawing_from preliminary finals passes levels counts vertices positions)) where
  many : vertex_count p ≡ length m
  many = sym own.once.long

  has-numbers : HasNumbers m sizes preliminary finals passes levels counts vertices positions
  has-numbers = record {
    once = rw many at own.once;
    few = omega (arith, ap length h.of_sizes, e.levels);
    in_limit = omega (arith, many, e.vertices);
    of_preliminary = sym h.of_vertices ∙ many;
    stored = s;
    boxes = rw many at (boxes-below {p = p} s e);
  }

  part_by : HasPart p spacing sizes (length m)
  part_by = record { of_spacing = h.of_spacing; of_sizes = h.of_sizes; of_vertices = many }

  -- its lines are those of the plan's report
  pub line-by : (n : ℕ) → line_by m spacing sizes preliminary finals passes levels counts vertices positions n
      ≡ line_of p (in_numbers m (drawing_from preliminary finals passes levels counts vertices positions)) n
  line-by n = rw (same_lines part_by (in_numbers m (drawing_from preliminary finals passes levels counts vertices positions)))

  pub report-by : report_by m spacing sizes preliminary finals passes levels counts vertices positions
      ≡ concat (report_lines p (in_numbers m (drawing_from preliminary finals passes levels counts vertices positions)))
  report-by = rw (same_lines part_by (in_numbers m (drawing_from preliminary finals passes levels counts vertices positions)))

  pub line-room-by : {o : List ℕ} (n : ℕ) → n < length preliminary + length passes + 2 → max_line ≤ length o
      → LineRoomBy m spacing sizes preliminary finals passes levels counts vertices positions n o
  line-room-by n l k = record {
    numbered = has-numbers;
    line = omega (arith, h.of_vertices, many);
    room = rw (line-by n) (omega (arith, line-short (printable-by own.once e) n));
  }

  pub report-room-by : {o : List ℕ} → max_report ≤ length o → ReportRoomBy m spacing sizes preliminary finals passes levels counts vertices positions o
  report-room-by k = record { numbered = has-numbers; room = rw report-by (omega (arith, report-short (printable-by own.once e))) }
