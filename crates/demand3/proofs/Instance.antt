-- Case 1 is an acceptable plan, so the theorem speaks of it.
use mathlib.Core.Path.{◌≡◌, refl}
use mathlib.Core.Bool.{true}
use Rattle.plan.specs.Acceptable.{acceptable}
use Rattle.plan.proofs.Open.{plan_open}
use Rattle.plan.proofs.Case1.{case1}
use Rattle.passes.specs.Drawing.{drawing_of}
use Rattle.passes.specs.Demand3.{Demand3}
use Rattle.demand3.proofs.Theorem.{demand3}

case1-acceptable : acceptable case1 ≡ true
unfolding plan_open
case1-acceptable = refl

pub case1-holds : Demand3 case1 (drawing_of case1)
case1-holds = demand3 case1 case1-acceptable
