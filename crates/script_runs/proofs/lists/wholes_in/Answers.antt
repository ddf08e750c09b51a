-- A turn puts one number.
use mathlib.Core.Path.{refl, sym, ◌∙◌, ap}
use mathlib.Core.List.{map}
use native.Mathlib.Omega.{arith}
use lib.ListN.{length, take}
use lib.Seq.{take-nil}
use Rattle.script_words.specs.Numbers.{number_in, whole_of}
use Rattle.script_words.specs.inner.Ends.{between}
use Rattle.script_words.specs.inner.Puts.{Puts}
use Rattle.script_runs.specs.Lists.{wholes_in}
use Rattle.script_runs.proofs.ListLaws.{items-none, items-some, fill_on, fill-last}
use Rattle.script_runs.proofs.lists.wholes_in.Goals as goal

pub returns-then-is_empty : goal.returns-then-is_empty
unfolding wholes_in
returns-then-is_empty c =
    let a = c.args in
    record { holds = sym (rw (items-none a.word.now (sym c.is_empty.ensures ∙ c.if-is_empty.true)) (take-nil (length a.out.now))); inside = omega arith }

pub loop-from-init : goal.loop-from-init
unfolding wholes_in
loop-from-init c =
    let a = c.args in
    let e = sym c.is_empty.ensures ∙ c.if-is_empty.false in
    (omega arith, omega arith, refl, ap (λ ws. take (length a.out.now) (map (λ v. whole_of (number_in v)) ws)) (sym (items-some a.word.now e)))

pub returns-then-to-word : goal.returns-then-to-word
returns-then-to-word c =
    let l = c.loop-from in let p = c.put-n in
    let put : Puts (whole_of (number_in (between l.from c.end_of-to.result c.args.word.now))) l.n l.out p.result p.new.out =
    rw (c.whole.ensures ∙ ap whole_of c.number.ensures) at p.ensures in
    record {
      holds = fill-last c.args.word.now l.from _ c.end_of-to.ensures (λ v. whole_of (number_in v)) l.n p.result (length c.args.out.now)
          l.out p.new.out l.invariant.2 put c.if-to-word.true ∙ l.invariant.3;
      inside = omega (arith, p.ensures.inside, l.invariant.2);
    }

pub loop-from-preserved : goal.loop-from-preserved
loop-from-preserved c =
    let l = c.loop-from in let p = c.put-n in
    let put : Puts (whole_of (number_in (between l.from c.end_of-to.result c.args.word.now))) l.n l.out p.result p.new.out =
    rw (c.whole.ensures ∙ ap whole_of c.number.ensures) at p.ensures in (
      omega arith,
      omega (arith, p.ensures.inside, l.invariant.2),
      p.auto.out ∙ l.invariant.2,
      fill_on c.args.word.now l.from _ c.end_of-to.ensures (λ v. whole_of (number_in v)) l.n p.result (length c.args.out.now)
          l.out p.new.out l.invariant.2 put c.if-to-word.false ∙ l.invariant.3,
    )
