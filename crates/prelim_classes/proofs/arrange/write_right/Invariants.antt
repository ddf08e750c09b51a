-- What is left to write is the same at every turn.
use Rattle.std.proofs.Common.{◌≡◌, ◌-◌, drop, take}
use Rattle.std.proofs.lemmas.List.Edits.{sets}
use Rattle.prelim_classes.specs.inner.Arranged.{followers}
use Rattle.prelim_classes.proofs.arrange.write_right.Given as goal

abbrev pub invariant-loop-i : goal.invariant-loop-i
invariant-loop-i l =
    sets l.right l.i (drop (l.i - l.from) (followers (take (l.to - l.from) (drop l.from l.order))))
    ≡ sets l.initial.right l.from (followers (take (l.to - l.from) (drop l.from l.order)))
