-- `pass_visits::visit::visit` meets its contract: the state stays if the run is not due; else it is that after the run's placing, and the marks follow.
use Rattle.std.proofs.Common.{arith, sym, ap, subst, not, length}
use Rattle.pass_visits.specs.inner.Visits.{Work, worked, Visiting, Visited}
use Rattle.pass_visits.proofs.DueLaws.{order}
use Rattle.pass_visits.proofs.VisitLaws.{asking, visit-skipped, placing, visit-placed}
use Rattle.pass_visits.proofs.visit.visit.Goals as goal

-- src/visit.rt:69:9
pub returns-then-not-is_due : goal.returns-then-not-is_due
returns-then-not-is_due g c x t = let a = c.args in
    let e = c.requires.0 in
    let v = subst (λ (k : Work). Visiting a.q a.start a.from a.end a.to k x) (sym e) t in
    subst (λ (k : Work). Visited a.q (worked k a.at.now a.apart.now a.marks.now) x) e
    (visit-skipped v (c.is_due.ensures x (asking v)) (ap not c.if-not-is_due.true))

-- src/visit.rt:71:5
pub place_one-requires : goal.place_one-requires
place_one-requires g c = let a = c.args in
    let s = c.requires.1 in
    let v = subst (λ (k : Work). Visiting a.q a.start a.from a.end a.to k s.it) (sym c.requires.0) s.is in
    record { it = s.it; is = placing v (c.is_due.ensures s.it (asking v)) (ap not c.if-not-is_due.false) }

-- src/visit.rt:72:5
pub settle-requires : goal.settle-requires
settle-requires g c =
    let v = c.requires.1.is in
    let o = order v in omega (arith, o.boxes, o.high, o.vertices, v.held.long, ap (λ (k : Work). length k.marks) c.requires.0)

-- src/visit.rt:47:1
pub returns : goal.returns
returns g c x t = let a = c.args in
    let e = c.requires.0 in
    let v = subst (λ (k : Work). Visiting a.q a.start a.from a.end a.to k x) (sym e) t in
    let d = c.is_due.ensures x (asking v) in
    let n = ap not c.if-not-is_due.false in
    let p = c.place_one.ensures x (placing v d n) in
    subst (λ (k : Work). Visited a.q (worked k c.place_one.new.at c.place_one.new.apart c.settle.new.marks) x) e
    (visit-placed v d n _ _ _ p.places p.distances c.settle.ensures)
