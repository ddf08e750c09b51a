-- What is written so far is the lines before line n.
use Rattle.std.proofs.Common.{take}
use Rattle.ints.specs.Lists.{concat}
use Rattle.plan.specs.Plan.{data_of}
use Rattle.text.specs.Writing.{lines_of}
use Rattle.text_write.specs.inner.Written.{Wrote}
use Rattle.text_write.proofs.lines.text.Given as goal

abbrev pub invariant-loop-n : goal.invariant-loop-n
invariant-loop-n l =
    Wrote (concat (take l.n (lines_of (data_of l.levels l.gap l.spacing l.sizes l.vias l.halves l.uppers l.lowers l.ratings)))) l.fn.out 0 l.at l.out
