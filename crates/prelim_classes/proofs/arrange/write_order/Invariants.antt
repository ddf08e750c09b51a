-- What is left to write is the same at every turn.
use Rattle.std.proofs.Common.{◌≡◌, ◌+◌, drop}
use Rattle.std.proofs.lemmas.List.Edits.{sets}
use Rattle.prelim_classes.specs.inner.Arranged.{level_by}
use Rattle.prelim_classes.proofs.arrange.write_order.Given as goal

abbrev pub invariant-loop-j : goal.invariant-loop-j
invariant-loop-j l = sets l.order (l.v + l.j) (drop l.j (level_by l.reversed l.v l.n)) ≡ sets l.initial.order l.v (level_by l.reversed l.v l.n)
