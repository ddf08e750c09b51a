use Rattle.std.proofs.Common.{◌≡◌, ◌+◌, ◌-◌, ◌++◌, length, take, drop}
use Rattle.ints.specs.Lists.{sum}
use Rattle.run_columns.specs.inner.Offsets.{offsets_from}
use Rattle.run_columns.proofs.offsets.fill_offsets.Given as goal

abbrev pub invariant-loop-i : goal.invariant-loop-i
invariant-loop-i l = record {
  sums : l.offset + sum (drop l.i l.steps) ≡ sum l.steps;
  filled : take l.i l.offsets ++ offsets_from l.offset (drop l.i l.steps) (length l.fn.offsets - l.i) ≡ offsets_from 0 l.steps (length l.fn.offsets);
}
