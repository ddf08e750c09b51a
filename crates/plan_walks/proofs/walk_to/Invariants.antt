use Rattle.std.proofs.Common.{◌≡◌, ◌≤◌}
use Rattle.plan_walks.proofs.WalkLaws.{walk_at}
use Rattle.plan_walks.proofs.walk_to.Given as goal

abbrev pub invariant-loop-i : goal.invariant-loop-i
invariant-loop-i l = record {
  few : l.taken ≤ l.i;
  same : walk_at l.vias l.uppers l.lowers l.end l.i l.taken l.last ≡ walk_at l.vias l.uppers l.lowers l.end l.from 0 0;
}
