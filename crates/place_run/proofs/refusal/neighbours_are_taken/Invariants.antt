use Rattle.std.proofs.Common.{◌≡◌, ◌+◌, drop, length}
use Rattle.ints.specs.Lists.{sum}
use Rattle.place_run.proofs.RefusalLaws.{taken_parts}
use Rattle.place_run.proofs.refusal.neighbours_are_taken.Given as goal

abbrev pub invariant-loop-count : goal.invariant-loop-count
invariant-loop-count l = record {
  rest : l.from + sum (drop l.count-index l.counts) ≡ length l.neighbours;
  taken : taken_parts (drop l.count-index l.counts) (drop l.from l.neighbours) ≡ taken_parts l.counts l.neighbours;
}
