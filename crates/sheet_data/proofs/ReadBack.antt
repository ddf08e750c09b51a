-- The drawing that the definitions make of a stored plan, read back from its arrays, is that drawing: so demand 3 holds of it, and it
-- is not refused.
use mathlib.Core.Path.{◌≡◌, refl, sym, ◌∙◌, ap}
use mathlib.Core.Bool.{true}
use mathlib.Core.List.{List, [], ◌∷◌, map}
use Prim.Native.Nat.{ℕ, ◌+◌, ◌-◌}
use native.Mathlib.Omega.{arith}
use borrow.Author.Tests.{le-leb}
use lib.ListN.{length, take, replicate, length-append, length-map}
use lib.Seq.{take_at, length-take-le}
use lib.IntN.{ℤ, pos}
use Rattle.ints.specs.Lists.{sum}
use Rattle.plan.specs.Limits.{max_vertices}
use Rattle.plan.specs.Plan.{PlanData, vertex_count}
use Rattle.plan.specs.Stored.{plan_data}
use Rattle.plan.specs.Acceptable.{acceptable}
use Rattle.plan.specs.declared.data.Plan.{Plan}
use Rattle.ints.proofs.Tests.{◌and◌}
use Rattle.report.specs.Refusal13.{is_stored_plan, is_drawing_in}
use Rattle.text_write.specs.inner.Stored.{StoredPlan}
use Rattle.report_validity.proofs.Stored.{stored_of}
use Rattle.preliminary.specs.Positions.{preliminary}
use Rattle.passes.specs.State.{Step}
use Rattle.passes.specs.Drawing.{Placing, Drawing, trace_of, drawing_of}
use Rattle.passes.specs.Words.{replay, run_of, boxes_listed, max_listed, finished}
use Rattle.passes.specs.Demand3.{Demand3}
use Rattle.passes.proofs.Put.{length-put}
use Rattle.passes.proofs.Kept.{kept}
use Rattle.demand3.proofs.Theorem.{demand3}
use Rattle.pass_list.proofs.Decoded.{decoded}
use Rattle.report_lines.proofs.Listed.{few-placings, few-boxes}
use Rattle.report_validity.proofs.Drawn.{drawn-valid}
use Rattle.report.specs.Arrays.{drawing_from, arrays_of}
use Rattle.sheet_data.proofs.Cuts.{PlanArrays}

-- ---- any drawing
arrays-read : (d : Drawing) (v : ℕ) → length d.preliminary ≡ v → length d.final ≡ v → drawing_from (arrays_of d) v (length d.placings) ≡ d
unfolding arrays_of
arrays-read d v a b = rw (
  take_at d.preliminary (replicate (max_vertices - length d.preliminary) (pos 0)) v a,
  take_at d.final (replicate (max_vertices - length d.final) (pos 0)) v b,
  decoded {list = d.placings} (record { of_passes = refl; of_levels = refl; of_counts = refl; of_vertices = refl; of_positions = refl }),
)

counts-read : (d : Drawing) → take (length d.placings) (arrays_of d).counts ≡ map (λ (q : Placing). length q.boxes) d.placings
unfolding arrays_of
counts-read d =
    let f : Placing → ℕ = λ q. length q.boxes in
    take_at (map f d.placings) (replicate (max_listed - length (map f d.placings)) 0) (length d.placings) (length-map d.placings f)

pub boxes-sum : (qs : List Placing) → sum (map (λ (q : Placing). length q.boxes) qs) ≡ length (boxes_listed qs)
unfolding sum boxes_listed
boxes-sum [] = refl
boxes-sum (q ∷ qs) = ap (λ n. length q.boxes + n) (boxes-sum qs) ∙ sym (length-append q.boxes (boxes_listed qs))

-- ---- that of an acceptable plan
replay-long : (p : PlanData) (ss : List Step) (xs : List ℤ) → length (replay p ss xs) ≡ length xs
unfolding replay
replay-long p [] xs = refl
replay-long p (s ∷ ss) xs = replay-long p ss _ ∙ length-put (run_of p s).boxes s.positions xs

module _ (p : PlanData) (ok : acceptable p ≡ true) where
  pub preliminary-long : length (drawing_of p).preliminary ≡ vertex_count p
  preliminary-long = ap length (demand3 p ok).started ∙ (kept p ok).long

  pub final-long : length (drawing_of p).final ≡ vertex_count p
  unfolding finished
  final-long = ap length (demand3 p ok).ended ∙ replay-long p (trace_of p) (preliminary p) ∙ (kept p ok).long

-- ---- that of a stored plan
module _ (p : Plan) (a : PlanArrays p) (v e : ℕ) (h : is_stored_plan p v e ≡ true) where
  stored : StoredPlan p v e
  stored = stored_of p v e h

  vertices_are : vertex_count (plan_data p v e) ≡ v
  vertices_are = length-take-le v p.vias (omega (arith, stored.vertices, a.vias))

  pub preliminary-of : length (drawing_of (plan_data p v e)).preliminary ≡ v
  preliminary-of = preliminary-long (plan_data p v e) stored.plan ∙ vertices_are

  pub final-of : length (drawing_of (plan_data p v e)).final ≡ v
  final-of = final-long (plan_data p v e) stored.plan ∙ vertices_are

  pub read_back : drawing_from (arrays_of (drawing_of (plan_data p v e))) v (length (drawing_of (plan_data p v e)).placings) ≡ drawing_of (plan_data p v e)
  read_back = arrays-read (drawing_of (plan_data p v e)) v preliminary-of final-of

  pub demand3-of : Demand3 (plan_data p v e) (drawing_from (arrays_of (drawing_of (plan_data p v e))) v (length (drawing_of (plan_data p v e)).placings))
  demand3-of = rw read_back (demand3 (plan_data p v e) stored.plan)

  pub drawing-holds : is_drawing_in p (arrays_of (drawing_of (plan_data p v e))) v e (length (drawing_of (plan_data p v e)).placings) ≡ true
  unfolding is_drawing_in
  drawing-holds =
      let d = drawing_of (plan_data p v e) in
      let w = (demand3 (plan_data p v e) stored.plan).within in
      le-leb (length d.placings) max_listed (few-placings d w)
      and le-leb (sum (take (length d.placings) (arrays_of d).counts)) max_listed (rw (counts-read d) (omega (arith, boxes-sum d.placings, few-boxes d w)))
      and rw read_back (drawn-valid (plan_data p v e) stored.plan)
