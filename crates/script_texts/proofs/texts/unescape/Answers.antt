-- A turn reads a byte and puts it; at the end no text is left.
use mathlib.Core.Path.{refl, sym, ◌∙◌, ap}
use native.Mathlib.Omega.{arith}
use borrow.Author.Tests.{not-true, not-false}
use lib.ListN.{length, take}
use Rattle.script_texts.specs.Texts.{unescaped}
use Rattle.script_texts.specs.inner.Units.{cut}
use Rattle.script_texts.proofs.TextLaws.{stands-none, stands-byte, joined, cut-none, cut-more, cut_all, text-end}
use Rattle.script_texts.proofs.texts.unescape.Goals as goal

pub loop-at-init : goal.loop-at-init
loop-at-init c = let a = c.args in (omega arith, omega arith, refl, cut-none (length a.out.now) (unescaped a.text.now))

pub loop-at-smaller : goal.loop-at-smaller
loop-at-smaller c = omega (arith, c.unit_at-u.ensures.onward (not-false _ c.if-not-u.false))

pub loop-at-preserved : goal.loop-at-preserved
loop-at-preserved c =
    let l = c.loop-at in
    let m = length c.args.out.now in
    let p = c.put-n in (
      c.unit_at-u.ensures.inside,
      omega (arith, p.ensures.inside, l.invariant.2),
      p.auto.out ∙ l.invariant.2,
      cut-more _ l.n p.result l.out p.new.out _ m l.invariant.2 p.ensures
          ∙ ap (λ o. cut m (joined (take l.n l.out) o)) (sym (stands-byte c.unit_at-u.ensures (not-false _ c.if-not-u.false))) ∙ l.invariant.3,
    )

pub returns-then-not-u : goal.returns-then-not-u
returns-then-not-u c =
    let m = length c.args.out.now in
    let l = c.loop-at in
    let e = stands-none c.unit_at-u.ensures (not-true _ c.if-not-u.true) in
    record { holds = ap (λ o. cut m (joined (take l.n l.out) o)) (sym e) ∙ l.invariant.3; inside = omega arith }

pub returns : goal.returns
returns c =
    let a = c.args in
    let m = length a.out.now in
    let l = c.loop-at in
    record {
      holds = sym (cut_all m l.n l.out l.invariant.1) ∙ ap (λ o. cut m (joined (take l.n l.out) o))
          (sym (text-end a.text.now l.at c.loop-at-test.false)) ∙ l.invariant.3;
      inside = l.invariant.1;
    }
