-- `pass_visits::visit::is_due`, test by test.
use Rattle.std.proofs.Common.{arith, rules, ◌∙◌}
use Rattle.pass_visits.proofs.DueLaws.{order, due-first, due-last, due-never, due-in-third, due-if-ready, may-ask}
use Rattle.pass_visits.proofs.visit.is_due.Goals as goal
use Rattle.pass_visits.proofs.visit.is_due.Goals.{then-from-start-via-then-from-start, then-from-start-via-else-from-start+then-end-to}

pub returns-then-from-start : goal.returns-then-from-start
returns-then-from-start c m x =
    elim c.then-from-start.branch [ then-from-start-via-then-from-start w ↦ due-first x.is w.if-from-start.true | then-from-start-via-else-from-start+then-end-to w ↦ due-last x.is w.if-end-to.true ]

-- after the first test the run is bounded
pub overflow_sub-from : goal.overflow_sub-from
overflow_sub-from c = let o = order c.requires.is.is in omega (arith, o.low)

pub bounds-marks-from : goal.bounds-marks-from
bounds-marks-from c = let v = c.requires.is.is in let o = order v in omega (arith, o.boxes, o.high, o.vertices, v.held.long)

pub returns-then-not-marks-from : goal.returns-then-not-marks-from
returns-then-not-marks-from c m x = let o = order x.is in due-never x.is (omega (arith, o.low)) (omega (arith, o.high)) (search rules)

pub is_ready-requires : goal.is_ready-requires
is_ready-requires c = let v = c.requires.is.is in let o = order v in may-ask v (omega (arith, o.low)) (omega (arith, o.high)) c.if-not-marks-from.false c.if-q-eq3.false

pub returns-then-q-eq3 : goal.returns-then-q-eq3
returns-then-q-eq3 c m x = let o = order x.is in due-in-third x.is (omega (arith, o.low)) (omega (arith, o.high)) c.if-not-marks-from.false c.if-q-eq3.true

pub returns-else-q-eq3 : goal.returns-else-q-eq3
returns-else-q-eq3 c m x = let o = order x.is in c.is_ready.ensures ∙ due-if-ready x.is (omega (arith, o.low)) (omega (arith, o.high)) c.if-not-marks-from.false c.if-q-eq3.false
