-- A turn writes one position.
use mathlib.Core.List.{◌++◌}
use Prim.Native.Nat.{◌+◌}
use native.Mathlib.Omega.{arith}
use mir.Syntax.{w64}
use mir.Val.{SFits}
use borrow.Author.Rules.{rules}
use lib.ListN.{get_or, drop}
use lib.IntN.{pos}
use Rattle.ints.proofs.Laws.{back}
use Rattle.text.specs.Bytes.{bytes}
use Rattle.text.specs.Decimal.{signed}
use Rattle.report_lines.proofs.Partly.{next-room, next-written, all-written}
use Rattle.script_answers.specs.Answers.{position_words}
use Rattle.script_answers.proofs.ByCase.{words-next, words-end}
use Rattle.script_answers.proofs.words.put_positions.Goals as goal

pub put_position-at-requires : goal.put_position-at-requires
put_position-at-requires c =
    let xs = c.args.xs.now in let l = c.loop-x in let i = l.x-index in let x = get_or xs i (pos 0) in
    let fits : SFits w64 x = search rules in
    simp (back fits) (next-room (bytes " " ++ signed x) (position_words (drop (i + 1) xs)) (words-next xs i (omega arith)) l.invariant c.requires)

pub loop-x-preserved : goal.loop-x-preserved
loop-x-preserved c =
    let xs = c.args.xs.now in let l = c.loop-x in let i = l.x-index in let x = get_or xs i (pos 0) in
    let fits : SFits w64 x = search rules in
    next-written (bytes " " ++ signed x) (position_words (drop (i + 1) xs)) (words-next xs i (omega arith)) l.invariant
    (simp (back fits) at c.put_position-at.ensures)

pub returns : goal.returns
returns c = all-written (words-end c.args.xs.now c.loop-x.x-index (omega arith)) c.loop-x.invariant
