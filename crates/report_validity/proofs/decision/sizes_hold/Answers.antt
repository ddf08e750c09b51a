use Rattle.std.proofs.Common.{rules, ◌≡◌, IsTrue, ◌↔◌, EachIndex, true, get_or}
use Rattle.plan.specs.Limits.{within, max_on_level}
use Rattle.report_validity.proofs.AllHold.{every_is}
use Rattle.report_validity.proofs.decision.sizes_hold.Goals as goal

pub returns : goal.returns
returns c =
    let e : IsTrue c.all.result ↔ EachIndex c.args.sizes.now (λ k. within 1 max_on_level (get_or c.args.sizes.now k 0) ≡ true) = search rules in
    every_is (within 1 max_on_level) c.args.sizes.now c.all.result e
