use Rattle.std.proofs.Common.{◌≤◌, ◌<◌, ◌-◌, ◌+◌, ◌*◌, length, get_or}
use Rattle.run_halves.proofs.middle.first_reaching.Given as goal

abbrev pub invariant-loop-lo : goal.invariant-loop-lo
invariant-loop-lo l = record {
  order : l.lo ≤ l.hi;
  end : l.hi + 1 < length l.sums;
  below : 2 * (get_or l.sums l.lo 0 - get_or l.sums 0 0) < l.t;
  reached : l.t ≤ 2 * (get_or l.sums (l.hi + 1) 0 - get_or l.sums 0 0);
}

abbrev pub decreases-loop-lo : goal.decreases-loop-lo
decreases-loop-lo l = l.hi - l.lo
