use Rattle.std.proofs.Common.{◌≡◌, drop}
use Rattle.run_columns.specs.inner.Offsets.{less_near}
use Rattle.run_columns.specs.inner.Sums.{ratings_between}
use Rattle.run_columns.proofs.CountLaws.{Counting}
use Rattle.run_columns.proofs.counts.count_half.Given as goal

abbrev pub invariant-loop-i : goal.invariant-loop-i
invariant-loop-i l = record {
  counting : Counting l.left l.z l.counts (less_near l.offsets l.counts l.near) (ratings_between l.sums) l.m l.back l.far l.upto l.beyond l.b l.f l.at l.i;
  rest : drop l.at (less_near l.offsets l.counts l.near) ≡ less_near (drop l.i l.offsets) (drop l.i l.counts) (drop l.at l.near);
}
