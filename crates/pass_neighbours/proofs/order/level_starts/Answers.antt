use Rattle.std.proofs.Common.{◌≡◌, ℕ, ◌+◌, suc, get_or, take, arith, ap, sym, length-set}
use Rattle.ints.specs.Lists.{sum}
use Rattle.ints.proofs.Lists.{take_more}
use Rattle.pass_neighbours.proofs.OrderLaws.{sum-front, sum-none, starts_more, starts_first}
use Rattle.pass_neighbours.proofs.order.level_starts.Goals as goal

pub loop-i-init : goal.loop-i-init
loop-i-init c = record {
  starts_so_far = starts_first c.args.lengths.now c.args.starts.now (omega arith);
  from_is = sym (sum-none c.args.lengths.now);
}

pub overflow_add-from : goal.overflow_add-from
overflow_add-from c = omega (arith, take_more c.args.lengths.now c.loop-i.i, sum-front c.args.lengths.now (suc c.loop-i.i), c.loop-i.invariant.from_is, c.requires.1)

pub loop-i-preserved : goal.loop-i-preserved
loop-i-preserved c = let l = c.loop-i in let ns = c.args.lengths.now in
    let e : l.i + 1 ≡ suc l.i = omega arith in
    let f : l.from + get_or ns l.i 0 ≡ sum (take (l.i + 1) ns) = omega (arith, l.invariant.from_is, take_more ns l.i, ap (λ (n : ℕ). sum (take n ns)) e) in record {
      starts_so_far = starts_more ns l.starts l.i (l.from + get_or ns l.i 0) (omega (arith, length-set c.args.starts.now 0 0)) f l.invariant.starts_so_far;
      from_is = f;
    }
