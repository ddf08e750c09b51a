use Rattle.std.proofs.Common.{◌≡◌, ◌-◌, length, take}
use Rattle.plan.specs.Plan.{numbers}
use Rattle.pass_list.proofs.entries.list_vertices.Given as goal

abbrev pub invariant-loop-i : goal.invariant-loop-i
invariant-loop-i l = record { many : length l.v-items ≡ l.end - l.start; written : take l.i l.v-items ≡ numbers l.from l.i }
