use Rattle.std.proofs.Common.{rules, ◌≡◌, ◌+◌, ◌-◌, ◌≤◌, min, length, get_or, replicate, arith}
use Rattle.plan.proofs.LevelLaws.{levels-on, levels-end, wrote-long}
use Rattle.plan_checks.proofs.levels.levels.Goals as goal

pub loop-i-preserved : goal.loop-i-preserved
loop-i-preserved c =
    let l = c.loop-i in
    let to = c.min-to.result in
    let e : to ≡ min (l.from + get_or c.args.sizes.now l.i 0) (length l.level) = search rules in
    let low : l.from ≤ to = omega arith in
    let high : to ≤ length l.level = omega arith in
    let now : c.fill.new.self ≡ replicate (to - l.from) (l.i + 1) = search rules in
    let on = levels-on _ _ _ _ l.invariant.written l.invariant.within to c.loop-i-test.true e in
    rw now (record { within = omega (arith, wrote-long l.level l.from to (l.i + 1) low high); written = on })

pub returns : goal.returns
returns c =
    let l = c.loop-i in
    let now : c.fill-2.new.self ≡ replicate (length l.level - l.from) (length c.args.sizes.now + 1) = search rules in
    let end : length c.args.sizes.now ≡ l.i = omega arith in
    rw (now, end) (levels-end _ _ _ _ l.invariant.written l.invariant.within (omega arith))
