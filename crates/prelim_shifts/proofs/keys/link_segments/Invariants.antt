-- by `Linking`, at each turn the places from i on are linked
use Rattle.prelim_classes.proofs.ChainLaws.{Linking}
use Rattle.prelim_shifts.specs.inner.Shifts.{offset_key, keys_by}
use Rattle.prelim_shifts.proofs.keys.link_segments.Given as goal

abbrev pub invariant-loop-i : goal.invariant-loop-i
invariant-loop-i l = Linking (keys_by (offset_key l.classes) l.uppers l.lowers) l.head l.link l.i
