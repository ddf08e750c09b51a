-- A stored plan is that of a text exactly if its counts fit the arrays and its data pass the checks. Assumes nothing.
use mathlib.Core.Path.{◌≡◌, sym, ◌∙◌}
use mathlib.Core.Bool.{true}
use mathlib.Core.List.{[], ◌∷◌}
use Prim.Native.Nat.{ℕ}
use lib.Dec.{leb}
use borrow.Author.Tests.{leb-true}
use Rattle.ints.proofs.Tests.{conj-at}
use Rattle.plan.specs.Limits.{max_vertices, max_segments}
use Rattle.plan.specs.Stored.{plan_data}
use Rattle.plan.specs.Acceptable.{acceptable}
use Rattle.plan.specs.declared.data.Plan.{Plan}
use Rattle.plan.proofs.Sound.{sound}
use Rattle.report.specs.Refusal13.{is_plan_of_text, is_stored_plan}
use Rattle.report.proofs.PlanOfText.{plan-of-text}
use Rattle.text_write.specs.inner.Stored.{StoredPlan}
use Rattle.report_validity.proofs.Limits.{stored_is}

pub stored_of : (p : Plan) (v e : ℕ) → is_stored_plan p v e ≡ true → StoredPlan p v e
unfolding is_stored_plan
stored_of p v e h =
    let test = conj-at (leb v max_vertices) (leb e max_segments ∷ is_plan_of_text (plan_data p v e) ∷ []) h in
    let a : acceptable (plan_data p v e) ≡ true = sym (plan-of-text (plan_data p v e)) ∙ test 2 in
    record {
      levels = (sound (plan_data p v e) a).limits.levels_high;
      vertices = leb-true v max_vertices (test 0);
      segments = leb-true e max_segments (test 1);
      plan = a;
    }

pub stored-holds : {p : Plan} {v e : ℕ} → StoredPlan p v e → is_stored_plan p v e ≡ true
stored-holds {p} {v} {e} s = stored_is p v e s.vertices s.segments ∙ s.plan
