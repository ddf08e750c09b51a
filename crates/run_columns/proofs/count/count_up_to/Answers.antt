use Rattle.std.proofs.Common.{rules, arith, sym, pos, get_or}
use Rattle.std.proofs.lemmas.List.Sorted.{IsPartitionPoint-from_clause}
use Rattle.std.specs.List.Sorted.{IsPartitionedBy}
use Rattle.std.specs.Int.Signed.{le_z}
use Rattle.ints.proofs.Laws.{le-true, le-false, make-le-true}
use Rattle.run.proofs.Sorted.{sorted, count-is}
use Rattle.run_columns.proofs.Beside.{sorted-mono}
use Rattle.run_columns.proofs.count.count_up_to.Goals as goal

pub returns : goal.returns
returns c = let m = c.args.m in let ns = c.args.near.now in let r = sorted ns c.requires in let k = c.partition_point.result in
    let parted : IsPartitionedBy (λ x. le_z x m) ns = λ i j d h l e. make-le-true (get_or ns i d) m (omega (arith, sorted-mono d ns i j h l r, le-true (get_or ns j d) m e)) in
    let point = IsPartitionPoint-from_clause (λ x. le_z x m) _ _ c.partition_point.ensures.partitioned parted (λ a r q k. search rules) in
    sym (count-is m (pos 0) ns k c.partition_point.ensures.bound r
    (λ i h. le-true (get_or ns i (pos 0)) m (point.0 i (pos 0) (omega arith) h))
    (λ h. le-false (get_or ns k (pos 0)) m (point.1 k (pos 0) (omega arith) h)))
