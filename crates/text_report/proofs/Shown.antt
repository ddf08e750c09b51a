-- What the report of a plan that passes the checks asks for: the arrays that its draw leaves have it.
use mathlib.Core.Path.{◌≡◌, refl, sym, ◌∙◌, ap}
use mathlib.Core.Bool.{true}
use mathlib.Core.List.{List, map}
use Prim.Native.Nat.{ℕ, ◌-◌, ◌≤◌}
use native.Mathlib.Omega.{arith}
use lib.ListN.{length, take, drop, replicate, length-append, length-replicate, length-map}
use lib.Seq.{take_at, length-take-le}
use lib.IntN.{ℤ, pos}
use Rattle.ints.specs.Lists.{sum, concat, over}
use Rattle.plan.specs.Plan.{PlanData, vertex_count}
use Rattle.plan.specs.Acceptable.{acceptable}
use Rattle.plan.proofs.Sound.{sound}
use Rattle.plan_renumber.specs.Renumber.{own_numbers}
use Rattle.plan_renumber.proofs.Own.{Own, own}
use Rattle.plan_untangle.specs.Order.{order, untangled}
use Rattle.plan_untangle.proofs.Untangled.{untangled-own}
use Rattle.passes.specs.Drawing.{BoxAt, Placing, Drawing, drawing_of}
use Rattle.passes.specs.Words.{boxes_listed, max_listed}
use Rattle.passes.specs.Stored.{padded}
use Rattle.demand3.proofs.Theorem.{demand3}
use Rattle.report.specs.Lines.{report_lines}
use Rattle.report.specs.Numbers.{in_numbers}
use Rattle.report_validity.proofs.Drawn.{drawn-valid}
use Rattle.report_lines.specs.inner.Stored.{plan_part, drawing_from, Stored, ReportRoom, max_report}
use Rattle.report_lines.proofs.Listed.{few-placings, few-boxes}
use Rattle.report_lines.proofs.ByNumber.{HasPart, same_lines}
use Rattle.report_lines.proofs.Printable.{Printable, printable}
use Rattle.report_lines.proofs.Rooms.{report-room}
use Rattle.report_numbers.specs.inner.Rooms.{report_by, ReportRoomBy}
use Rattle.report_numbers.proofs.Rooms.{report-room-by, report-by}
use Rattle.pass_list.proofs.Decoded.{decoded}
use Rattle.pass_draw.specs.inner.Made.{Made}
use Rattle.sheet_data.proofs.ReadBack.{boxes-sum, preliminary-long, final-long}
use Rattle.text_report.specs.inner.Numbered.{Remembers, report_numbered}

-- ---- a plan that was rearranged, and the numbers of its vertices at the front of an array
pub record NumbersFront (p : PlanData) (v : ℕ) (ns : List ℕ) : Type 0 where
  pub front : take v ns ≡ order p
  pub reach : v ≤ length ns

module _ (p : PlanData) (ok : acceptable (untangled p) ≡ true) where
  pub numbers-front : {v : ℕ} {ns : List ℕ} (o : List ℕ) → vertex_count (untangled p) ≡ v → ns ≡ over (order p) o → NumbersFront p v ns
  numbers-front {v} o e f =
      let l : length (order p) ≡ v = (own (untangled p) (order p) (sound (untangled p) ok).limits.sizes_sum (untangled-own p)).once.long ∙ e in
      record { front = rw f (take_at (order p) (drop (length (order p)) o) v l); reach = omega (arith, ap length f, length-append (order p) (drop (length (order p)) o)) }

  pub remembers : {q : PlanData} → untangled p ≡ q → Remembers q (order p)
  remembers e = let r : Remembers (untangled p) (order p) = record { ok = ok; own = untangled-own p } in rw e at r

module _ (p : PlanData) (ok : acceptable p ≡ true) where
  placings-few : length (drawing_of p).placings ≤ max_listed
  placings-few = few-placings (drawing_of p) (demand3 p ok).within

  boxes-few : length (boxes_listed (drawing_of p).placings) ≤ max_listed
  boxes-few = few-boxes (drawing_of p) (demand3 p ok).within

  -- how long the arrays of the list are
  padded-long : {A : Type 0} (z : A) (xs ys : List A) → length xs ≤ max_listed → ys ≡ padded max_listed z xs → length ys ≡ max_listed
  padded-long z xs ys h e = rw e (simp (length-append, length-replicate) (omega arith))

  of-placings : {A : Type 0} (f : Placing → A) (z : A) (ys : List A) → ys ≡ padded max_listed z (map f (drawing_of p).placings) → length ys ≡ max_listed
  of-placings f z ys e = padded-long z (map f (drawing_of p).placings) ys (omega (arith, length-map (drawing_of p).placings f, placings-few)) e

  of-boxes : {A : Type 0} (f : BoxAt → A) (z : A) (ys : List A) → ys ≡ padded max_listed z (map f (boxes_listed (drawing_of p).placings)) → length ys ≡ max_listed
  of-boxes f z ys e = padded-long z (map f (boxes_listed (drawing_of p).placings)) ys (omega (arith, length-map (boxes_listed (drawing_of p).placings) f, boxes-few)) e

  module _ {n : ℕ} {preliminary finals : List ℤ} {passes levels counts vertices : List ℕ} {positions : List ℤ} (m : Made p n preliminary finals passes levels counts vertices positions) where
    pub in-passes : n ≤ length passes
    in-passes = omega (arith, m.placings, placings-few, of-placings (λ (q : Placing). q.pass) 0 passes m.list.of_passes)

    pub in-levels : n ≤ length levels
    in-levels = omega (arith, m.placings, placings-few, of-placings (λ (q : Placing). q.level) 0 levels m.list.of_levels)

    pub in-counts : n ≤ length counts
    in-counts = omega (arith, m.placings, placings-few, of-placings (λ (q : Placing). length q.boxes) 0 counts m.list.of_counts)

    vertices-long : length vertices ≡ max_listed
    vertices-long = of-boxes (λ (b : BoxAt). b.vertex) 0 vertices m.list.of_vertices

    positions-long : length positions ≡ max_listed
    positions-long = of-boxes (λ (b : BoxAt). b.position) (pos 0) positions m.list.of_positions

    -- the drawing that lies in them, and how many boxes its placings have
    drawing-is : drawing_from preliminary finals (take n passes) (take n levels) (take n counts) vertices positions ≡ drawing_of p
    drawing-is = rw (m.started, m.ended, m.placings, decoded m.list)

    boxes-are : sum (take n counts) ≡ length (boxes_listed (drawing_of p).placings)
    boxes-are =
        let qs = (drawing_of p).placings in
        let f : Placing → ℕ = λ q. length q.boxes in
        rw m.list.of_counts (ap sum (take_at (map f qs) (replicate (max_listed - length (map f qs)) 0) n (length-map qs f ∙ sym m.placings)) ∙ boxes-sum qs)

    has_part : HasPart p p.spacing p.sizes (length preliminary)
    has_part = record { of_spacing = refl; of_sizes = refl; of_vertices = sym (ap length m.started ∙ preliminary-long p ok) }

    in-lists : Stored preliminary finals (take n passes) (take n levels) (take n counts) vertices positions
    in-lists =
        let l = length-take-le n passes in-passes in
        record {
          of_finals = ap length m.ended ∙ final-long p ok ∙ has_part.of_vertices;
          of_levels = length-take-le n levels in-levels ∙ sym l;
          of_counts = length-take-le n counts in-counts ∙ sym l;
          few = omega (arith, boxes-are, boxes-few);
          of_vertices = omega (arith, boxes-are, boxes-few, vertices-long);
          of_positions = omega (arith, boxes-are, boxes-few, positions-long);
          within = rw drawing-is (demand3 p ok).within;
        }

    prints : Printable p (drawing_from preliminary finals (take n passes) (take n levels) (take n counts) vertices positions)
    prints = rw drawing-is (printable p (drawing_of p) ok (drawn-valid p ok))

    pub report-asked : {o : List ℕ} → max_report ≤ length o → ReportRoom p.spacing p.sizes preliminary finals (take n passes) (take n levels) (take n counts) vertices positions o
    report-asked h = report-room has_part in-lists prints h

    pub report-is : concat (report_lines p (drawing_of p))
        ≡ concat (report_lines (plan_part p.spacing p.sizes (length preliminary)) (drawing_from preliminary finals (take n passes) (take n levels) (take n counts) vertices positions))
    report-is = rw drawing-is (ap concat (same_lines has_part (drawing_of p)))

    -- in numbers that are its own
    module _ (ns : List ℕ) (t : own_numbers p ns ≡ true) where
      its_own : Own p ns
      its_own = own p ns (sound p ok).limits.sizes_sum t

      pub report-asked-by : {o : List ℕ} → max_report ≤ length o
          → ReportRoomBy ns p.spacing p.sizes preliminary finals (take n passes) (take n levels) (take n counts) vertices positions o
      report-asked-by h = report-room-by its_own has_part in-lists prints h

      pub report-is-by : report_numbered p ns ≡ report_by ns p.spacing p.sizes preliminary finals (take n passes) (take n levels) (take n counts) vertices positions
      report-is-by = ap (λ (d : Drawing). concat (report_lines p (in_numbers ns d))) (sym drawing-is) ∙ sym (report-by its_own has_part in-lists prints)
