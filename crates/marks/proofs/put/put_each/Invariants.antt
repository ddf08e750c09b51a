use Rattle.plan.specs.Plan.{PlanData}
use Rattle.marks.specs.inner.Asked.{DataAt}
use Rattle.marks.proofs.All.{Left}
use Rattle.marks.proofs.put.put_each.Given as goal

-- the first n marks stand in the slice, and the others are left
abbrev pub invariant-loop-n : goal.invariant-loop-n
invariant-loop-n l = (p : PlanData) → DataAt p l.heights l.vias l.halves l.uppers l.lowers → Left p l.finals l.n l.fn.out l.out
