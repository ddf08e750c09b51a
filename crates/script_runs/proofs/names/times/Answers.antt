-- A turn counts a word that begins with the name.
use mathlib.Core.Path.{◌≡◌, ap}
use mathlib.Core.List.{[]}
use Prim.Native.Nat.{◌+◌, ◌≤◌}
use native.Mathlib.Omega.{arith}
use lib.ListN.{length}
use Rattle.text.specs.Parser.{word}
use Rattle.text_scan.proofs.Lines.{has, has-not}
use Rattle.script_words.specs.inner.Ends.{between}
use Rattle.script_runs.specs.Names.{value_before}
use Rattle.script_runs.proofs.NameLaws.{times-last, times-on}
use Rattle.script_runs.proofs.names.times.Goals as goal
use Rattle.script_runs.proofs.names.times.Goals.{then-word_at, else-word_at}

pub returns-then-to-given : goal.returns-then-to-given
returns-then-to-given c =
    let a = c.args in let l = c.loop-n in let e = c.end_of-to in
    let n : c.if-word_at.n ≡ l.n + length (value_before (word a.name.now (between l.from e.result a.given.now)) []) =
    elim c.if-word_at.branch [
      | then-word_at w ↦ omega (arith, w.n-is, ap (λ g. length (value_before g [])) (has c.word_at.ensures w.if-word_at.true))
      | else-word_at w ↦ omega (arith, w.n-is, ap (λ g. length (value_before g [])) (has-not c.word_at.ensures w.if-word_at.false))
    ] in
    omega (arith, n, l.invariant.2, times-last a.name.now a.given.now l.from e.result e.ensures c.if-to-given.true)

pub loop-n-preserved : goal.loop-n-preserved
loop-n-preserved c =
    let a = c.args in let l = c.loop-n in let e = c.end_of-to in
    let n : c.if-word_at.n ≡ l.n + length (value_before (word a.name.now (between l.from e.result a.given.now)) []) =
    elim c.if-word_at.branch [
      | then-word_at w ↦ omega (arith, w.n-is, ap (λ g. length (value_before g [])) (has c.word_at.ensures w.if-word_at.true))
      | else-word_at w ↦ omega (arith, w.n-is, ap (λ g. length (value_before g [])) (has-not c.word_at.ensures w.if-word_at.false))
    ] in
    let few : c.if-word_at.n ≤ l.n + 1 = elim c.if-word_at.branch [ then-word_at w ↦ omega arith | else-word_at w ↦ omega arith ] in
    (omega arith, omega (arith, few, e.ensures.onward), omega (arith, n, l.invariant.2, times-on a.name.now a.given.now l.from e.result e.ensures c.if-to-given.false))
