use Rattle.std.proofs.Common.{rules, ◌≡◌, sym, ◌∙◌, IsTrue, ◌↔◌, EachIndex, true, false, get_or}
use borrow.Author.Tests.{ne_eqb}
use Rattle.plan.specs.Acceptable.{half_holds}
use Rattle.report_validity.proofs.AllHold.{halves-apart, halves_is}
use Rattle.report_validity.proofs.decision.halves_hold.Goals as goal

pub returns-then-vias-halves : goal.returns-then-vias-halves
returns-then-vias-halves c =
    let vias = c.args.vias.now in
    let halves = c.args.halves.now in
    let e : IsTrue c.all.result ↔ EachIndex vias (λ k. half_holds (get_or vias k false) (get_or halves k 0) ≡ true) = search rules in
    halves_is vias halves c.if-vias-halves.true c.all.result e

pub returns-else-vias-halves : goal.returns-else-vias-halves
returns-else-vias-halves c = ne_eqb _ _ c.if-vias-halves.false ∙ sym (halves-apart _ _ c.if-vias-halves.false)
