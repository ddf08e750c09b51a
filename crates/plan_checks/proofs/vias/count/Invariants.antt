use Rattle.std.proofs.Common.{◌≡◌, length}
use Rattle.plan.specs.Limits.{max_vertices}
use Rattle.plan.proofs.CountLaws.{Counting}
use Rattle.plan_checks.proofs.vias.count.Given as goal

abbrev pub invariant-loop-v : goal.invariant-loop-v
invariant-loop-v l = record {
  long : length l.counts ≡ max_vertices;
  counting : Counting l.ends l.counts l.v-index;
}
