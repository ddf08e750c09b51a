-- Before what is still to be searched the test fails, at its end it holds, and each test takes away half of it and the places beside the
-- middle at which the test has the same outcome.
use Rattle.std.proofs.Common.{rules, arith, ◌≡◌, ◌+◌, ◌-◌, ◌/◌, get_or, pos, ◌+ℤ◌, w64, to_z, of_z}
use Rattle.ints.proofs.Laws.{back'}
use Rattle.run_columns.specs.inner.Offsets.{less_near}
use Rattle.run_columns.specs.inner.Sums.{ratings_between}
use Rattle.run_halves.specs.inner.Meet.{first_after, Tests}
use Rattle.run_halves.proofs.Bisect.{searching-left, searching-right, searching-end}
use Rattle.run_halves.proofs.meet.meeting_place.Goals as goal

pub loop-w-preserved-then-t : goal.loop-w-preserved-then-t
loop-w-preserved-then-t c = let a = c.args in let l = c.loop-w in let r = c.more_up_to-t.result in
    let b : to_z w64 (of_z w64 (get_or a.z.now a.k (pos 0))) ≡ get_or a.z.now a.k (pos 0) = search rules in
    let p : c.plus.result ≡ first_after a.k a.z.now +ℤ pos (l.lo + l.w / 2) = simp b at c.plus.ensures in
    let t : Tests a.k a.n a.z.now a.counts.now (less_near a.offsets.now a.counts.now a.near.now) (ratings_between a.sums.now) (first_after a.k a.z.now +ℤ pos (l.lo + l.w / 2)) (l.w / 2) (l.w - l.w / 2) r.more r.back r.far =
    rw p at (simp (back' c.plus.result c.plus.type_inv) at c.more_up_to-t.ensures) in
    searching-left a.k a.n a.z.now a.counts.now (less_near a.offsets.now a.counts.now a.near.now) (ratings_between a.sums.now) l.lo l.w (l.w / 2) _ _ (omega (arith, c.loop-w-test.true)) l.invariant (rw c.if-t.true at t)

pub loop-w-preserved : goal.loop-w-preserved
loop-w-preserved c = let a = c.args in let l = c.loop-w in let r = c.more_up_to-t.result in
    let b : to_z w64 (of_z w64 (get_or a.z.now a.k (pos 0))) ≡ get_or a.z.now a.k (pos 0) = search rules in
    let p : c.plus.result ≡ first_after a.k a.z.now +ℤ pos (l.lo + l.w / 2) = simp b at c.plus.ensures in
    let t : Tests a.k a.n a.z.now a.counts.now (less_near a.offsets.now a.counts.now a.near.now) (ratings_between a.sums.now) (first_after a.k a.z.now +ℤ pos (l.lo + l.w / 2)) (l.w / 2) (l.w - l.w / 2) r.more r.back r.far =
    rw p at (simp (back' c.plus.result c.plus.type_inv) at c.more_up_to-t.ensures) in
    searching-right a.k a.n a.z.now a.counts.now (less_near a.offsets.now a.counts.now a.near.now) (ratings_between a.sums.now) l.lo l.w (l.w / 2) _ _ (omega (arith, c.loop-w-test.true)) l.invariant (rw c.if-t.false at t)

pub returns : goal.returns
returns c = let a = c.args in let l = c.loop-w in let w : l.w ≡ 0 = omega (arith, c.loop-w-test.false) in
    let b : to_z w64 (of_z w64 (get_or a.z.now a.k (pos 0))) ≡ get_or a.z.now a.k (pos 0) = search rules in
    rw (back' c.plus-2.result c.plus-2.type_inv) (rw (simp b at c.plus-2.ensures) (searching-end a.k a.n a.z.now a.counts.now (less_near a.offsets.now a.counts.now a.near.now) (ratings_between a.sums.now) l.lo (rw w at l.invariant)))
