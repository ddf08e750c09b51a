use Rattle.std.proofs.Common.{◌≡◌, ◌++◌, take, drop}
use Rattle.run_columns.specs.inner.Offsets.{plus_offsets}
use Rattle.run_columns.proofs.offsets.plus_offsets.Given as goal

abbrev pub invariant-loop-i : goal.invariant-loop-i
invariant-loop-i l = record {
  rest : drop l.i l.z ≡ drop l.i l.fn.z;
  put : take l.i l.z ++ plus_offsets (drop l.i l.offsets) (drop l.i l.z) ≡ plus_offsets l.offsets l.fn.z;
}
