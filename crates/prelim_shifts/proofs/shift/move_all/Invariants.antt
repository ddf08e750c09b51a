-- what is left to move is the same at every turn, and not yet moved
use Rattle.std.proofs.Common.{◌≡◌, ◌-◌, length}
use Rattle.prelim_classes.specs.inner.Links.{chain}
use Rattle.prelim_shifts.specs.inner.Counts.{moved_at}
use Rattle.prelim_shifts.proofs.MoveLaws.{AheadSized}
use Rattle.prelim_shifts.proofs.shift.move_all.Given as goal

abbrev pub invariant-loop-v : goal.invariant-loop-v
invariant-loop-v l = record {
  sized : AheadSized l.v 134217728 l.xs;
  moved : moved_at l.d (chain l.link l.v) l.xs ≡ moved_at l.d (chain l.link l.first) l.initial.xs;
}

abbrev pub decreases-loop-v : goal.decreases-loop-v
decreases-loop-v l = length l.link - l.v
