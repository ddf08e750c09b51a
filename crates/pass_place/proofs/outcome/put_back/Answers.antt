use Rattle.std.proofs.Common.{rules, arith, ◌≡◌, ◌∙◌, sym, ◌+◌, ◌-◌, length, get_or, drop, pos, w64, to_z, of_z}
use Rattle.pass_place.proofs.OutcomeLaws.{put-none, put_on}
use Rattle.pass_place.proofs.outcome.put_back.Goals as goal

pub loop-i-preserved : goal.loop-i-preserved
loop-i-preserved c =
    let a = c.args in
    let l = c.loop-i in
    let n = length a.placed.now in
    let b : to_z w64 (of_z w64 (get_or a.placed.now l.i (pos 0))) ≡ get_or a.placed.now l.i (pos 0) = search rules in
    rw b (sym (put_on a.from (n - l.i) (n - (l.i + 1)) l.i a.placed.now l.at (omega (arith, c.loop-i-test.true)) (omega (arith, c.loop-i-test.true)))) ∙ l.invariant

pub returns : goal.returns
returns c =
    let a = c.args in
    let l = c.loop-i in
    sym (put-none (a.from + l.i) (length a.placed.now - l.i) (drop l.i a.placed.now) l.at (omega (arith, c.loop-i-test.false))) ∙ l.invariant
