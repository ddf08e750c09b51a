-- What draw leaves: the drawing of the definitions, with every promised property; every line and every mark, and all; drawn again it
-- stays as it is. `PlanArrays` says that the plan's arrays are as long as a stored plan's are.
use mathlib.Core.Path.{◌≡◌, refl, ◌∙◌}
use mathlib.Core.Bool.{Bool, true, false, cond}
use mathlib.Core.List.{List, [], ◌∷◌, ◌++◌}
use Prim.Native.Nat.{ℕ, ◌*◌, ◌≤◌, ◌<◌}
use native.Mathlib.Omega.{arith}
use borrow.Author.Tests.{lt-ltb, le-ltb, not-false}
use lib.Dec.{eqb}
use lib.ListN.{length}
use lib.Ieee.{Float}
use Rattle.ints.specs.Refusals.{Test, first_refusal, none_refuses}
use Rattle.ints.proofs.Refusals.{none-at}
use Rattle.ints.proofs.Tests.{◌and◌}
use Rattle.text.proofs.Words.{never}
use Rattle.passes.specs.Drawing.{drawing_of}
use Rattle.passes.specs.Demand3.{Demand3}
use Rattle.marks.specs.Marks.{mark_of}
use Rattle.report.specs.Arrays.{arrays_of}
use Rattle.sheet_data.proofs.Cuts.{PlanArrays}
use Rattle.sheet_data.proofs.Rooms.{numbers_long}
use Rattle.sheet_data.proofs.ReadBack.{read_back, demand3-of, drawing-holds}
use Rattle.sheet.specs.declared.types.Sheet.{Sheet}
use Rattle.sheet.specs.Sheet.{is_empty, vertices_in, segments_in, plan_in, drawing_in, remembered_in, drawn_sheet}
use Rattle.ints.specs.Refusals.{Verdict, gives, refuses}
use Rattle.sheet.specs.Tests.{holds_plan, holds_numbers, lines_in, test7_line, marks_in, test7_mark, test14, line_of, report_of, numbers_of}
use Rattle.sheet.specs.Calls.{draw_tests, draw, line, report, mark, marks}
use Rattle.sheet.specs.inner.Refusals.{counts_in}
use Rattle.sheet.proofs.WhenRefused.{can_show, show_tests, shows-given, draw-given, line-given, report-given, mark-given, marks-given}

pub drawn-same : (s : Sheet) → (draw s).result ≡ gives tt → (draw s).sheet ≡ drawn_sheet s (drawing_of (plan_in s))
unfolding draw
drawn-same s = by (eqb (first_refusal (draw_tests s)) 0)
  where
    by : (t : Bool) → ◌≡◌ {A = Verdict Unit} (cond t (gives tt) (refuses (first_refusal (draw_tests s)))) (gives tt) → cond t (drawn_sheet s (drawing_of (plan_in s))) s ≡ drawn_sheet s (drawing_of (plan_in s))
    by true e = refl
    by false e = never (cc)

module _ (s : Sheet) (a : PlanArrays s.plan) (h : (draw s).result ≡ gives tt) where
  holds : holds_plan s ≡ true
  holds = not-false (holds_plan s) (none-at (draw_tests s) ((draw-given s).0 h) 1)

  own : holds_numbers s ≡ true
  own = not-false (holds_numbers s) (none-at (draw_tests s) ((draw-given s).0 h) 2)

  pub drawn-plan : plan_in (draw s).sheet ≡ plan_in s
  unfolding drawn_sheet
  drawn-plan = rw (drawn-same s h)

  pub drawn-remembered : remembered_in (draw s).sheet ≡ remembered_in s
  unfolding drawn_sheet
  drawn-remembered = rw (drawn-same s h)

  pub drawn-drawing : drawing_in (draw s).sheet ≡ drawing_of (plan_in s)
  unfolding drawn_sheet
  drawn-drawing = rw (drawn-same s h) (read_back s.plan a (vertices_in s.header.stage) (segments_in s.header.stage) holds)

  pub drawn-demand3 : Demand3 (plan_in (draw s).sheet) (drawing_in (draw s).sheet)
  unfolding drawn_sheet
  drawn-demand3 = rw (drawn-same s h) (demand3-of s.plan a (vertices_in s.header.stage) (segments_in s.header.stage) holds)

  pub drawn-shows : can_show (draw s).sheet ≡ true
  unfolding drawn_sheet
  drawn-shows = rw (drawn-same s h) (holds and own and drawing-holds s.plan a (vertices_in s.header.stage) (segments_in s.header.stage) holds)

  drawn-passes : (more : List Test) → none_refuses more ≡ true → none_refuses (show_tests (draw s).sheet ++ more) ≡ true
  drawn-passes more h = shows-given (draw s).sheet more ∙ (drawn-shows and h)

  -- A line whose number is below the count is refused only for a short buffer, and a mark never.
  pub drawn-line : (n : ℕ) (b : List ℕ) → n < lines_in (draw s).sheet → length (line_of (draw s).sheet n) ≤ length b
      → (line (draw s).sheet n b).result ≡ gives (length (line_of (draw s).sheet n))
  unfolding none_refuses
  drawn-line n b l m =
      let t = (draw s).sheet in
      (line-given t n b).1 (drawn-passes (test7_line t n ∷ test14 (line_of t n) b ∷ []) (rw (lt-ltb n (lines_in t) l, le-ltb (length b) (length (line_of t n)) m)))

  pub drawn-report : (b : List ℕ) → length (report_of (draw s).sheet) ≤ length b → (report (draw s).sheet b).result ≡ gives (length (report_of (draw s).sheet))
  unfolding none_refuses
  drawn-report b m =
      let t = (draw s).sheet in
      (report-given t b).1 (drawn-passes (test14 (report_of t) b ∷ []) (rw (le-ltb (length b) (length (report_of t)) m)))

  pub drawn-mark : (n : ℕ) → n < marks_in (draw s).sheet → mark (draw s).sheet n ≡ gives (mark_of (plan_in (draw s).sheet) (drawing_in (draw s).sheet).final n)
  unfolding none_refuses
  drawn-mark n l =
      let t = (draw s).sheet in
      (mark-given t n).1 (drawn-passes (test7_mark t n ∷ []) (rw (lt-ltb n (marks_in t) l)))

  pub drawn-count : marks_in (draw s).sheet ≡ marks_in s
  unfolding drawn_sheet
  drawn-count = rw (drawn-same s h)

  -- Five numbers a mark, and all marks where the buffer is as long.
  pub drawn-numbers : length (numbers_of (draw s).sheet) ≡ 5 * marks_in (draw s).sheet
  unfolding drawn_sheet numbers_of
  drawn-numbers = rw (drawn-same s h) (numbers_long s.plan (counts_in (drawn_sheet s (drawing_of (plan_in s))).header.stage) holds a (arrays_of (drawing_of (plan_in s))))

  pub drawn-marks : (b : List Float) → 5 * marks_in (draw s).sheet ≤ length b → (marks (draw s).sheet b).result ≡ gives (marks_in (draw s).sheet)
  unfolding none_refuses
  drawn-marks b m =
      let t = (draw s).sheet in
      (marks-given t b).1 (drawn-passes (test14 (numbers_of t) b ∷ []) (rw (le-ltb (length b) (length (numbers_of t)) (omega (arith, drawn-numbers)))))

-- Drawing twice is drawing once.
pub draw-again : (s : Sheet) → draw (draw s).sheet ≡ draw s
unfolding draw first_refusal drawn_sheet
draw-again s = by (is_empty s.header.stage) (holds_plan s) (holds_numbers s) refl refl refl
  where
    by : (e p m : Bool) → is_empty s.header.stage ≡ e → holds_plan s ≡ p → holds_numbers s ≡ m → draw (draw s).sheet ≡ draw s
    by true p m h k l = rw (h, h)
    by false true true h k l = rw (h, k, l, k, l)
    by false true false h k l = rw (h, k, l, h, k, l)
    by false false m h k l = rw (h, k, h, k)

-- What draw leaves depends on the plan and its counts, and on what the sheet remembers of its loading, alone, whatever else was handed in.
pub draw-same : (s t : Sheet) → s.plan ≡ t.plan → vertices_in s.header.stage ≡ vertices_in t.header.stage → segments_in s.header.stage ≡ segments_in t.header.stage
    → s.header.tangled ≡ t.header.tangled → s.remembered ≡ t.remembered → (draw s).result ≡ gives tt → (draw t).result ≡ gives tt → (draw s).sheet ≡ (draw t).sheet
unfolding drawn_sheet
draw-same s t p v e w m f g = rw (drawn-same s f, drawn-same t g, p, v, e, w, m)
