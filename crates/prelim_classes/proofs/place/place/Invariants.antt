-- By `ToPlace`, at each turn the strands from there on are left.
use Rattle.prelim_classes.specs.inner.Walks.{placing, Placeable}
use Rattle.prelim_classes.proofs.PlaceLaws.{ToPlace}
use Rattle.prelim_classes.proofs.place.place.Given as goal

abbrev pub invariant-loop-v : goal.invariant-loop-v
invariant-loop-v l =
    Placeable l.gap l.halves l.next l.top l.sibling l.at l.begun
    × ToPlace l.gap l.halves l.next l.top l.sibling l.order l.v-index (placing l.initial.at l.initial.begun) (placing l.at l.begun)
