-- What crate preliminary proves is what the passes ask of the preliminary positions.
use mathlib.Core.Path.{◌≡◌}
use mathlib.Core.Bool.{true}
use Rattle.plan.specs.Plan.{PlanData}
use Rattle.plan.specs.Acceptable.{acceptable}
use Rattle.preliminary.proofs.Positions.{preliminary-length, preliminary-clear, preliminary-upright, preliminary-size}
use Rattle.plan.proofs.All.{member}
use Rattle.passes.proofs.Preliminary.{Preliminary}

pub kept : (p : PlanData) → acceptable p ≡ true → Preliminary p
kept p ok = record {
  long = preliminary-length p ok;
  apart = λ s m. preliminary-clear p ok s (member m);
  upright = λ s m. preliminary-upright p ok s (member m);
  small = λ v h. preliminary-size p ok v;
}
