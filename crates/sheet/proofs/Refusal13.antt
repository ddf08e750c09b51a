-- 13 of the plan in document 01's words: it refuses exactly if the plan, "with the stage's vertex and segment counts, is that of no
-- text that passes checks 1 to 6". `PlanArrays` says that the plan's arrays are as long as a stored plan's are.
use mathlib.Core.Path.{◌≡◌, refl, sym, ◌∙◌, ap}
use mathlib.Core.Bool.{true, not, true≢false}
use mathlib.Core.List.{List}
use mathlib.Core.Logic.{◌↔◌}
use Prim.Native.Nat.{ℕ}
use native.Mathlib.Omega.{arith}
use borrow.Author.Tests.{not-true}
use lib.ListN.{length}
use lib.Seq.{length-take-le}
use Rattle.ints.proofs.Tests.{test}
use Rattle.plan.specs.Plan.{PlanData, vertex_count}
use Rattle.plan.specs.Acceptable.{acceptable}
use Rattle.plan.proofs.Sound.{sound}
use Rattle.text.specs.Reading.{accepted, reading}
use Rattle.text.specs.Writing.{text_of}
use Rattle.text.proofs.RoundTrip.{read-written, read-acceptable}
use Rattle.report_validity.proofs.Limits.{stored_is}
use Rattle.report_validity.proofs.Stored.{stored_of}
use Rattle.sheet_data.proofs.Cuts.{PlanArrays}
use Rattle.sheet.specs.declared.types.Sheet.{Sheet}
use Rattle.sheet.specs.Sheet.{vertices_in, segments_in, plan_in}
use Rattle.sheet.specs.Tests.{holds_plan, test13_plan}

-- The plan, with the stage's counts, is that of a text that passes checks 1 to 6.
pub record PlanOf (s : Sheet) (text : List ℕ) : Type 0 where
  pub plan : PlanData
  pub read : reading text ≡ accepted plan
  pub holds : plan_in s ≡ plan
  pub vertices : vertices_in s.header.stage ≡ vertex_count plan
  pub segments : segments_in s.header.stage ≡ length plan.uppers

module _ (s : Sheet) where
  of-holds : (text : List ℕ) → PlanOf s text → holds_plan s ≡ true
  of-holds text o =
      let a = read-acceptable text o.plan o.read in
      let l = (sound o.plan a).limits in
      stored_is s.plan (vertices_in s.header.stage) (segments_in s.header.stage) (omega (arith, l.vertices, o.vertices))
      (omega (arith, l.segments, o.segments))
      ∙ ap acceptable o.holds ∙ a

  holds_of : PlanArrays s.plan → holds_plan s ≡ true → PlanOf s (text_of (plan_in s))
  holds_of a h =
      let t = stored_of s.plan (vertices_in s.header.stage) (segments_in s.header.stage) h in
      record {
        plan = plan_in s;
        read = read-written (plan_in s) t.plan;
        holds = refl;
        vertices = sym (length-take-le (vertices_in s.header.stage) s.plan.vias (omega (arith, t.vertices, a.vias)));
        segments = sym (length-take-le (segments_in s.header.stage) s.plan.uppers (omega (arith, t.segments, a.uppers)));
      }

  pub plan-13 : PlanArrays s.plan → ((test13_plan s).refuses ≡ true) ↔ ((text : List ℕ) → PlanOf s text → ⊥)
  plan-13 a = (
    λ e text o. true≢false (sym (of-holds text o) ∙ not-true (holds_plan s) e),
    λ f. test (holds_plan s) (λ h. absurd (f (text_of (plan_in s)) (holds_of a h))) (λ h. ap not h),
  )
