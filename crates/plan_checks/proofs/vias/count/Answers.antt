use Rattle.std.proofs.Common.{ℕ, ◌<◌, List, length, get_or, sym, ◌∙◌, ap, subst, arith, length-set}
use Rattle.std.proofs.Math.ListN.{length-replicate}
use Rattle.plan.specs.Limits.{max_vertices}
use Rattle.plan.proofs.CountLaws.{Counting, count-start, count-on, count-end, count_small}
use Rattle.plan_checks.proofs.vias.count.Goals as goal

pub loop-v-init : goal.loop-v-init
loop-v-init c =
    let e = c.requires.2 in
    record {
      long = ap length e ∙ length-replicate {A = ℕ} max_vertices 0;
      counting = subst (λ (ns : List ℕ). Counting c.args.ends.now ns 0) (sym e) (count-start max_vertices c.args.ends.now);
    }

pub overflow_add-counts : goal.overflow_add-counts
overflow_add-counts c =
    let l = c.loop-v in
    let v = get_or c.args.ends.now l.v-index 0 in
    let h : v < length l.counts = omega (arith, c.requires.0 l.v-index c.loop-v-test.true, l.invariant.long) in
    omega (arith, count_small _ _ _ l.invariant.counting v h, c.requires.1)

pub loop-v-preserved : goal.loop-v-preserved
loop-v-preserved c =
    let l = c.loop-v in
    let v = get_or c.args.ends.now l.v-index 0 in
    let h : v < length l.counts = omega (arith, c.requires.0 l.v-index c.loop-v-test.true, l.invariant.long) in
    record { long = simp length-set l.invariant.long; counting = count-on _ _ _ l.invariant.counting c.loop-v-test.true h }

pub returns : goal.returns
returns c =
    let l = c.loop-v in
    record { long = l.invariant.long; each = λ v h. count-end _ _ _ l.invariant.counting (omega arith) v (omega (arith, l.invariant.long)) }
