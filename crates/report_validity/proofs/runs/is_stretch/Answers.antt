use Rattle.std.proofs.Common.{rules, ◌≡◌, ◌+◌, IsTrue, ◌↔◌, EachIndex, get_or}
use Rattle.report_validity.proofs.Walks.{stretch_is}
use Rattle.report_validity.proofs.runs.is_stretch.Goals as goal

pub returns : goal.returns
returns c =
    let bs = c.args.boxes.now in
    let e : IsTrue c.all.result ↔ EachIndex bs (λ k. get_or bs k 0 ≡ c.args.first + k) = search rules in
    stretch_is bs c.args.first c.all.result e
