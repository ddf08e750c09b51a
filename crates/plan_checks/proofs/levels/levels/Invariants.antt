use Rattle.std.proofs.Common.{◌≤◌, length}
use Rattle.plan.proofs.LevelLaws.{WrittenTo}
use Rattle.plan_checks.proofs.levels.levels.Given as goal

abbrev pub invariant-loop-i : goal.invariant-loop-i
invariant-loop-i l = record {
  within : l.from ≤ length l.level;
  written : WrittenTo l.sizes l.level l.from l.i;
}
