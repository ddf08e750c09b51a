-- The first positions are written and the words of the others are left.
use Rattle.std.proofs.Common.{drop}
use Rattle.report_lines.proofs.Partly.{Partly}
use Rattle.script_answers.specs.Answers.{position_words}
use Rattle.script_answers.proofs.words.put_positions.Given as goal

abbrev pub invariant-loop-x : goal.invariant-loop-x
invariant-loop-x l = Partly (position_words l.xs) (position_words (drop l.x-index l.xs)) l.initial.out l.from l.at l.out
