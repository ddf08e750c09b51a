use Rattle.std.proofs.Common.{ℕ, not, sym, ◌∙◌, ap, arith}
use Rattle.plan.specs.inner.Graph.{Below}
use Rattle.plan.specs.declared.walk.Walk.{Walk}
use Rattle.plan.proofs.Crossings.{check6-walk}
use Rattle.plan_walks.proofs.WalkLaws.{graph, walk-whole}
use Rattle.plan_walks.proofs.check_inner.Goals as goal

-- every upper end is a vertex, so the walk goes over all segments
pub returns : goal.returns
returns c =
    let vias = c.args.vias.now in
    let uppers = c.args.uppers.now in
    let lowers = c.args.lowers.now in
    let end : ℕ = 4294967296 in
    let all : Below end uppers = λ i h. omega (arith, c.requires.upper i h, c.requires.vertices) in
    λ sizes c3 c4.
    ap (λ (w : Walk). not w.crossed) (c.walk_to-walk.ensures ∙ walk-whole sizes vias uppers lowers end all) ∙ sym (check6-walk (graph sizes vias uppers lowers) c3 c4)
