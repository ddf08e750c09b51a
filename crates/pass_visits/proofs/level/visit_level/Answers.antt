-- `pass_visits::level::visit_level` meets its contract: at every turn the runs before `from` are visited and those from there on come next.
use Rattle.std.proofs.Common.{arith, ◌-◌, sym, ◌∙◌, ap, subst}
use Rattle.pass_tables.proofs.RunLaws.{next as next-via}
use Rattle.pass_visits.specs.inner.Visits.{Work, worked}
use Rattle.pass_visits.proofs.Midway.{Midway, level-inside, midway_start, visiting, midway-next, midway_end}
use Rattle.pass_visits.proofs.level.visit_level.Goals as goal

-- src/level.rt:31:5
pub loop-from-init : goal.loop-from-init
loop-from-init g c x t = let a = c.args in let e = c.requires.0 in
    subst (λ (k : Work). Midway a.q a.start k x) (sym e ∙ ap (λ (k : Work). worked k a.at.now a.apart.now a.marks.now) e) (midway_start t)

-- src/level.rt:32:13
pub run_end-end-requires : goal.run_end-end-requires
run_end-end-requires g c = (c.loop-from-test.true, (level-inside c.requires.1.is).0)

-- src/level.rt:33:9
pub visit-requires : goal.visit-requires
visit-requires g c = let x = c.requires.1 in let l = c.loop-from in (
  ap (λ (k : Work). worked k l.at l.apart l.marks) c.requires.0,
  record { it = _; is = visiting x.is (l.invariant x.it x.is) c.loop-from-test.true c.run_end-end.result c.run_end-end.ensures },
)

-- src/level.rt:36:16
pub overflow_add-from : goal.overflow_add-from
overflow_add-from g c = let i = level-inside c.requires.1.is in let a = c.args in let l = c.loop-from in
    let n = next-via a.vias.now l.from (a.to - l.from) in
    omega (arith, i.0, i.1, c.loop-from-test.true, c.run_end-end.ensures, n.high)

-- src/level.rt:31:5
pub loop-from-smaller : goal.loop-from-smaller
loop-from-smaller g c = let a = c.args in let l = c.loop-from in
    let n = next-via a.vias.now l.from (a.to - l.from) in
    omega (arith, c.loop-from-test.true, c.run_end-end.ensures, n.low)

-- src/level.rt:31:5
pub loop-from-preserved : goal.loop-from-preserved
loop-from-preserved g c x t =
    let m = c.loop-from.invariant x t in
    let h = c.loop-from-test.true in
    let end = c.run_end-end.result in
    let e = c.run_end-end.ensures in
    midway-next t m h end e (c.visit.ensures _ (visiting t m h end e))

-- src/level.rt:10:1
pub returns : goal.returns
returns g c x t = midway_end t (c.loop-from.invariant x t) (omega arith)
