-- A text loaded by either way and drawn: the plan, its drawing with every promised property, and the report.
use mathlib.Core.Path.{◌≡◌, ◌∙◌, ap}
use mathlib.Core.Bool.{Bool, true, false}
use mathlib.Core.List.{List}
use Prim.Native.Nat.{ℕ, ◌≤◌}
use native.Mathlib.Omega.{arith}
use lib.ListN.{length, replicate, length-replicate}
use Rattle.ints.specs.Lists.{over, concat}
use Rattle.ints.proofs.Lists.{over-long}
use Rattle.plan.specs.Limits.{max_levels, max_vertices, max_segments}
use Rattle.plan.specs.Plan.{PlanData, vertex_count, numbers}
use Rattle.plan.specs.Acceptable.{acceptable}
use Rattle.plan.proofs.Sound.{sound}
use Rattle.plan_renumber.specs.Renumber.{own_numbers}
use Rattle.plan_renumber.proofs.Own.{own-test, own-numbers}
use Rattle.plan_untangle.specs.Order.{order, untangled}
use Rattle.plan_untangle.proofs.Untangled.{untangled-own}
use Rattle.text.specs.Reading.{accepted, reading, tangled_reading}
use Rattle.text.proofs.RoundTrip.{read-acceptable}
use Rattle.text_read.specs.Answer.{plan_of}
use Rattle.text_untangle.proofs.ArrayLaws.{untangled-ok}
use Rattle.passes.specs.Drawing.{Drawing, drawing_of}
use Rattle.passes.specs.Demand3.{Demand3}
use Rattle.report.specs.Lines.{report_lines}
use Rattle.report.specs.Numbers.{in_numbers}
use Rattle.report_lines.proofs.Printable.{printable, stays_by}
use Rattle.report_validity.proofs.Drawn.{drawn-valid}
use Rattle.sheet_data.proofs.Cuts.{PlanArrays}
use Rattle.sheet_data.proofs.ReadBack.{preliminary-long, final-long}
use Rattle.sheet.specs.declared.types.Sheet.{Sheet}
use Rattle.sheet.specs.Sheet.{plan_in, drawing_in, loaded_sheet}
use Rattle.sheet.specs.Tests.{report_of}
use Rattle.sheet.specs.Calls.{load, load_tangled, draw}
use Rattle.sheet.proofs.Loaded.{just-draws, just-plan, just-numbers, leaves-read, leaves-untangled}
use Rattle.sheet.proofs.Drawn.{drawn-plan, drawn-drawing, drawn-remembered, drawn-demand3}

-- ---- a sheet just loaded
filled : {A : Type 0} (xs : List A) (n : ℕ) (z : A) → length xs ≤ n → length (over xs (replicate n z)) ≡ n
filled xs n z h = over-long xs (replicate n z) (omega (arith, length-replicate n z)) ∙ length-replicate n z

same-report : {p q : PlanData} {m n : List ℕ} {d e : Drawing} → p ≡ q → m ≡ n → d ≡ e
    → concat (report_lines p (in_numbers m d)) ≡ concat (report_lines q (in_numbers n e))
same-report f g h = rw (f, g, h)

-- of an acceptable plan with its own numbers, and drawn
module _ (tangled : Bool) (m : List ℕ) (p : PlanData) (a : acceptable p ≡ true) (o : own_numbers p m ≡ true) where
  abbrev sheet : Sheet
  sheet = loaded_sheet tangled m p

  arrays : PlanArrays sheet.plan
  unfolding loaded_sheet plan_of
  arrays =
      let l = (sound p a).limits in
      record {
        sizes = filled p.sizes max_levels 0 (omega (arith, l.levels_high, l.sizes_long));
        vias = filled p.vias max_vertices false l.vertices;
        halves = filled p.halves max_vertices 0 (omega (arith, l.vertices, l.halves_long));
        uppers = filled p.uppers max_segments 0 l.segments;
        lowers = filled p.lowers max_segments 0 (omega (arith, l.segments, l.ends_long));
        ratings = filled p.ratings max_segments 0 (omega (arith, l.segments, l.ratings_long));
      }

  -- demand 3 is judged on the plan that was stored
  pub record Drawn : Type 0 where
    pub plan : plan_in (draw sheet).sheet ≡ p
    pub drawing : drawing_in (draw sheet).sheet ≡ drawing_of p
    pub demand3 : Demand3 p (drawing_of p)
    pub report : report_of (draw sheet).sheet ≡ concat (report_lines p (in_numbers m (drawing_of p)))

  pub drawn : Drawn
  unfolding report_of
  drawn =
      let g = just-draws tangled m p a o in
      let plan : plan_in (draw sheet).sheet ≡ p = drawn-plan sheet arrays g ∙ just-plan tangled m p a o in
      let drawing : drawing_in (draw sheet).sheet ≡ drawing_of p = drawn-drawing sheet arrays g ∙ ap drawing_of (just-plan tangled m p a o) in
      record {
        plan = plan;
        drawing = drawing;
        demand3 = rw (plan, drawing) at (drawn-demand3 sheet arrays g);
        report = same-report plan (drawn-remembered sheet arrays g ∙ just-numbers tangled m p a o) drawing;
      }

-- ---- by the first way its report is document 01's
module _ (s : Sheet) (text : List ℕ) (p : PlanData) (e : reading text ≡ accepted p) where
  as_read : Drawn false (numbers 0 (vertex_count p)) p (read-acceptable text p e) (own-test p (numbers 0 (vertex_count p)) (own-numbers p))
  as_read = drawn false (numbers 0 (vertex_count p)) p (read-acceptable text p e) (own-test p (numbers 0 (vertex_count p)) (own-numbers p))

  pub as-read-report : report_of (draw (load s text).sheet).sheet ≡ concat (report_lines p (drawing_of p))
  as-read-report =
      let a = read-acceptable text p e in
      let d = drawing_of p in
      rw (leaves-read s text p e, as_read.report, stays_by p d (printable p d a (drawn-valid p a)) (preliminary-long p a) (final-long p a))

-- ---- by the second: "Drawing, optimum and list are judged on the rearranged plan", and the report has the numbers of the text
module _ (s : Sheet) (text : List ℕ) (p : PlanData) (e : tangled_reading text ≡ accepted p) where
  pub record Untangled : Type 0 where
    pub plan : plan_in (draw (load_tangled s text).sheet).sheet ≡ untangled p
    pub drawing : drawing_in (draw (load_tangled s text).sheet).sheet ≡ drawing_of (untangled p)
    pub demand3 : Demand3 (untangled p) (drawing_of (untangled p))
    pub report : report_of (draw (load_tangled s text).sheet).sheet ≡ concat (report_lines (untangled p) (in_numbers (order p) (drawing_of (untangled p))))

  pub drawn-untangled : Untangled
  drawn-untangled =
      let d = drawn true (order p) (untangled p) (untangled-ok text p e) (untangled-own p) in
      let l = leaves-untangled s text p e in
      record { plan = rw l d.plan; drawing = rw l d.drawing; demand3 = d.demand3; report = rw l d.report }
