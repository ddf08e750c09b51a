use Rattle.std.proofs.Common.{◌≡◌, ℕ, ◌<◌, get_or}
use Rattle.plan_checks.specs.inner.Heights.{level_height}
use Rattle.plan_checks.proofs.levels.raise.Given as goal

abbrev pub invariant-loop-v : goal.invariant-loop-v
invariant-loop-v l = (w : ℕ) → w < l.v → get_or l.out w 0 ≡ level_height l.spacing (get_or l.level w 0)
