-- by `Linking`, at each turn the places from i on are linked
use Rattle.prelim_classes.proofs.ChainLaws.{Linking}
use Rattle.prelim_shifts.specs.inner.Shifts.{gap_key, keys_by}
use Rattle.prelim_shifts.proofs.keys.link_pairs.Given as goal

abbrev pub invariant-loop-i : goal.invariant-loop-i
invariant-loop-i l = Linking (keys_by (gap_key l.classes) l.order l.right) l.head l.link l.i
