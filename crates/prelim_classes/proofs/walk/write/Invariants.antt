-- What is left to write is the same at every turn.
use Rattle.std.proofs.Common.{◌≡◌, ◌-◌, length, set, fold}
use Rattle.prelim_classes.specs.inner.Links.{chain}
use Rattle.prelim_classes.proofs.walk.write.Given as goal

abbrev pub invariant-loop-v : goal.invariant-loop-v
invariant-loop-v g l = fold (λ xs v. set xs v l.x) l.out (chain l.next l.v) ≡ fold (λ xs v. set xs v l.x) l.initial.out (chain l.next l.top)

abbrev pub decreases-loop-v : goal.decreases-loop-v
decreases-loop-v g l = length l.next - l.v
