use Rattle.std.proofs.Common.{◌≡◌, ℕ, ◌-◌, suc, sym, ◌∙◌, ap, arith, length, take}
use Rattle.ints.specs.Lists.{sum}
use Rattle.plan.specs.Walk.{walk}
use Rattle.plan_walks.specs.inner.Walks.{after, ahead}
use Rattle.plan_walks.proofs.WalkLaws.{graph, leaving, walk_at, walk-level}
use Rattle.plan_walks.proofs.walk_from.Goals as goal

-- the segments that leave level l stand from where those of the levels above it end, up to the first whose upper end stands below it
pub returns : goal.returns
returns c =
    let l = c.args.l in
    let sizes = c.args.sizes.now in
    let vias = c.args.vias.now in
    let uppers = c.args.uppers.now in
    let lowers = c.args.lowers.now in
    let at = walk_at vias uppers lowers in
    let again : suc (l - 1) ≡ l = omega (arith, c.requires.0) in
    let end : c.total-end.result ≡ sum (take (suc (l - 1)) sizes) = c.total-end.ensures ∙ ap (λ (n : ℕ). sum (take n sizes)) (sym again) in
    let from : c.count_before-from.result ≡ leaving sizes vias uppers lowers (l - 1) =
    c.count_before-from.ensures lowers c.requires.3.ends ∙ ap (λ (n : ℕ). length (ahead n (after uppers lowers 0))) c.total-start.ensures in
    λ c4. c.walk_to.ensures ∙ ap (λ (e : ℕ). at e c.count_before-from.result 0 0) end
    ∙ ap (λ (i : ℕ). at (sum (take (suc (l - 1)) sizes)) i 0 0) from ∙ walk-level sizes vias uppers lowers (l - 1) (omega (arith, c.requires.0, c.requires.1)) c4
    ∙ ap (walk (graph sizes vias uppers lowers)) again
