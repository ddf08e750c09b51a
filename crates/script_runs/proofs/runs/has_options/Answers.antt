-- Every word begins with nothing, so that all words are counted.
use native.Mathlib.Omega.{arith}
use Prim.Native.Nat.{◌≤◌}
use borrow.Author.Tests.{le-leb}
use borrow.Author.Rules.{rules}
use Rattle.script_words.specs.Parts.{words}
use Rattle.script_runs.specs.Runs.{times, has_options}
use Rattle.script_runs.proofs.NameLaws.{times-all}
use Rattle.script_runs.proofs.runs.has_options.Goals as goal

pub returns-then-answer-le1 : goal.returns-then-answer-le1
unfolding has_options
returns-then-answer-le1 c =
    let ws = words c.args.given.now in
    let l : c.times-left.result ≤ 1 = search rules in
    let r : c.times-right.result ≤ 1 = search rules in
    let w : c.times-ratings.result ≤ 1 = search rules in
    rw (
      le-leb (times "left=" ws) 1 (omega (arith, c.times-left.ensures, l)),
      le-leb (times "right=" ws) 1 (omega (arith, c.times-right.ensures, r)),
      le-leb (times "ratings=" ws) 1 (omega (arith, c.times-ratings.ensures, w)),
      le-leb (times "answer=" ws) 1 (omega (arith, c.times-answer.ensures, c.if-answer-le1.true)),
    )
    (rw (c.times.ensures, c.times-left.ensures, c.times-right.ensures, c.times-ratings.ensures, c.times-answer.ensures, times-all ws))
