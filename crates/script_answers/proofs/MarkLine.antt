-- The line that the program writes of an exact mark is that of the mark in whole numbers. Assumes nothing.
use mathlib.Core.Path.{◌≡◌}
use Rattle.marks.specs.declared.types.Mark.{Mark}
use Rattle.marks.specs.Marks.{WholeMark}
use Rattle.marks.specs.Exact.{ExactMark}
use Rattle.marks.proofs.Exact.{Fits}
use Rattle.script_marks.proofs.Back.{mark-back}
use Rattle.script_answers.specs.Answers.{mark, line_of}
use Rattle.script_answers.specs.inner.MarkLine.{mark_line_in}

pub mark-line : (w : WholeMark) (m : Mark) → Fits w → ExactMark w m → mark_line_in m ≡ line_of (mark w)
unfolding mark_line_in line_of
mark-line w m f e = rw (mark-back w m f e)
