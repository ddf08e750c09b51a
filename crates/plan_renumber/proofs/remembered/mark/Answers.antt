use Rattle.std.proofs.Common.{◌+◌, ℕ, true, set, sym, ◌∙◌, ap, subst}
use Rattle.std.proofs.lemmas.Bool.{false≢true}
use Rattle.plan_renumber.specs.inner.Own.{is_new, Marked}
use Rattle.plan_renumber.proofs.Marks.{mark_on, mark-fails}
use Rattle.plan_renumber.proofs.remembered.mark.Goals as goal

pub returns-then-not-is_new : goal.returns-then-not-is_new
returns-then-not-is_new c = record {
  new = λ e. absurd (false≢true e);
  fails = λ e. mark-fails _ _ _ _ c.loop-i.invariant c.loop-i-test.true c.requires.levels
      (ap (is_new c.args.level.now c.loop-i.seen _) (sym c.from-v.ensures) ∙ sym c.is_new.ensures ∙ c.if-not-is_new.true);
}

pub loop-i-preserved : goal.loop-i-preserved
loop-i-preserved c =
    let new = ap (is_new c.args.level.now c.loop-i.seen _) (sym c.from-v.ensures) ∙ sym c.is_new.ensures ∙ c.if-not-is_new.false in
    subst (λ (v : ℕ). Marked c.args.level.now c.args.numbers.now (set c.loop-i.seen v true) (c.loop-i.i + 1)) (sym c.from-v.ensures)
    (mark_on _ _ _ _ c.loop-i.invariant c.loop-i-test.true c.requires.levels new)
