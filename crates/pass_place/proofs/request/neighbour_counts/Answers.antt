use Rattle.std.proofs.Common.{arith, ◌∙◌, ℕ, ◌+◌, ◌-◌, get_or}
use Rattle.pass_tables.proofs.LevelLaws.{entry-filled, entries-end}
use Rattle.pass_place.proofs.request.neighbour_counts.Goals as goal

pub loop-i-preserved : goal.loop-i-preserved
loop-i-preserved c = let a = c.args in let l = c.loop-i in
    let f : ℕ → ℕ = λ j. get_or a.first.now (a.from + j + 1) 0 - get_or a.first.now (a.from + j) 0 in
    entry-filled f l.counts l.i a.n c.from.result (omega arith) (omega arith) c.from.ensures ∙ l.invariant

pub returns : goal.returns
returns c = let a = c.args in let l = c.loop-i in
    let f : ℕ → ℕ = λ j. get_or a.first.now (a.from + j + 1) 0 - get_or a.first.now (a.from + j) 0 in
    entries-end f l.counts l.i a.n (omega arith) ∙ l.invariant
