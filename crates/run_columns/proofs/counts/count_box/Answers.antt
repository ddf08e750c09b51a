-- Neighbours less the offset that are at most m are those that are at most m plus the offset, and up to the nearest positions on both
-- sides nothing of that changes.
use Rattle.std.proofs.Common.{arith, ◌≡◌, sym, ◌-◌, ◌≤◌, length, take, pos, ◌+ℤ◌}
use Rattle.ints.specs.Lists.{sum as total}
use Rattle.ints.proofs.Laws.{back, back', sum}
use Rattle.run.specs.inner.Coordinates.{count_up_to}
use Rattle.run.proofs.Sorted.{count-bound}
use Rattle.run_columns.specs.inner.Counts.{Around}
use Rattle.run_columns.specs.inner.Sums.{ratings_between}
use Rattle.run_columns.proofs.ColumnLaws.{sum-cut}
use Rattle.run_columns.proofs.SumLaws.{as_many, first-ratings, all-ratings}
use Rattle.run_columns.proofs.Beside.{box-counted}
use Rattle.run_columns.proofs.counts.count_box.Goals as goal

pub rated-requires : goal.rated-requires
rated-requires c = let q = c.requires.6 in let n = c.count_up_to-n.result in
    let h : n ≤ length c.args.near.now = rw c.count_up_to-n.ensures (count-bound _ c.args.near.now) in
    (omega (arith, q.long), omega (arith, q.long), omega (arith, first-ratings q n h))

pub rated-requires-2 : goal.rated-requires-2
rated-requires-2 c = let q = c.requires.6 in let n = c.count_up_to-n.result in
    let h : n ≤ length c.args.near.now = rw c.count_up_to-n.ensures (count-bound _ c.args.near.now) in
    (omega (arith, q.long), omega (arith, q.long), omega (arith, first-ratings q n h, all-ratings q, sum-cut n (ratings_between c.args.sums.now)))

pub back_to_near-requires : goal.back_to_near-requires
back_to_near-requires c = let at = c.plus-at.result in (
  c.requires.1,
  rw c.count_up_to-n.ensures (count-bound _ c.args.near.now),
  simp (back' at c.plus-at.type_inv) (rw (simp (back c.ranges.m) at c.plus-at.ensures) (omega (arith, c.requires.2, c.requires.4, sum c.args.m (pos c.args.offset)))),
)

pub returns : goal.returns
returns c = let a = c.args in let q = c.requires.6 in let n = c.count_up_to-n.result in let at = c.plus-at.result in
    let same = back' at c.plus-at.type_inv in let p = simp (back c.ranges.m) at c.plus-at.ensures in
    let got : n ≡ count_up_to (a.m +ℤ pos a.offset) a.near.now = rw p at (simp same at c.count_up_to-n.ensures) in
    let h : n ≤ length a.near.now = rw got (count-bound _ a.near.now) in let r = ratings_between a.sums.now in
    let u : c.rated.result ≡ total (take n r) = omega (arith, c.rated.ensures, first-ratings q n h) in
    let v : c.rated-2.result ≡ total r - total (take n r) = omega (arith, c.rated-2.ensures, first-ratings q n h, all-ratings q) in
    let b = rw p at (simp same at c.back_to_near.ensures) in let f = rw p at (simp same at c.far_to_near.ensures) in
    let o : Around a.back a.far c.back_to-b.result c.far_to-f.result = record { left = c.back_to-b.ensures.0; right = c.far_to-f.ensures.0; some = c.far_to-f.ensures.1 } in
    let x = back c.ranges.z in let y = back c.ranges.m in
    rw (u, v) (box-counted a.left a.z a.m a.back a.far _ _ o (simp (x, y) at c.back_to-b.ensures).1 (simp (x, y) at c.far_to-f.ensures).2 a.offset a.near.now r _ _ _
    (sym (as_many q)) c.requires.0 got (record { left = b.0; right = f.0; some = f.1 }) b.1 f.2 (sym (simp (x, y) at c.if-not-is_counted.ensures)))
