use Rattle.std.proofs.Common.{◌≡◌, ℕ, ◌+◌, ◌-◌, ◌∙◌, subst, ap, arith, length}
use Rattle.std.proofs.Math.ListN.{length-replicate}
use Rattle.prelim_classes.proofs.InnerLaws.{LinksFrom, links-start, links-on}
use Rattle.prelim_classes.proofs.inner.link_vias.Goals as goal

pub loop-i-init : goal.loop-i-init
loop-i-init c = links-start _ _ _ _ c.requires.1

pub loop-i-preserved : goal.loop-i-preserved
loop-i-preserved c =
    let a = c.args in
    let l = c.loop-i in
    let i = l.i - 1 in
    let e : l.i ≡ i + 1 = omega arith in
    let w = subst (λ (x : ℕ). LinksFrom a.vias.now a.from.now a.to.now l.link x) e l.invariant in
    links-on _ _ _ _ i (l.auto.link ∙ ap length c.requires.1 ∙ length-replicate (length a.vias.now) 2048) (omega arith) (omega (arith, c.requires.0.ends)) (c.requires.0.upper i (omega arith)) w c.link_inner.new.link c.link_inner.ensures
