-- The halves' columns are those of a cut.
use Rattle.std.proofs.Common.{arith, ◌≡◌, ◌∙◌, true, false, List, ℕ, ◌+◌, ◌*◌, ◌≤◌, length, take, drop, length-take, length-drop, ℤ}
use Rattle.ints.proofs.Laws.{back}
use Rattle.ints.specs.Ratings.{max_rating}
use Rattle.ints.specs.Reach.{reach}
use Rattle.run_columns.specs.inner.Columns.{max_size}
use Rattle.run_columns.specs.inner.Counts.{HalfCounts}
use Rattle.run_columns.specs.inner.Offsets.{less_near, OffsetsOf}
use Rattle.run_columns.specs.inner.Sums.{ratings_between}
use Rattle.run_columns.proofs.CountLaws.{beside-more, around-more}
use Rattle.run_columns.proofs.Sized.{sized-take, sized-drop}
use Rattle.run_columns.proofs.OffsetLaws.{offsets-take, offsets-drop, near-take, near-drop, length-near}
use Rattle.run_columns.proofs.SumLaws.{between-take, between-drop, sums-take, sums-drop}
use Rattle.run_columns.proofs.Fill.{rest_is}
use Rattle.run_halves.specs.inner.Meet.{Cut, more}
use Rattle.run_halves.proofs.Cut.{cut-within, cut_left, cut_right}
use Rattle.run_halves.proofs.meet.more_up_to.Goals as goal

-- the neighbours of each half less their offsets, and what was counted of them
module _ {k n : ℕ} {z : List ℤ} {os cs : List ℕ} {ns : List ℤ} (q : Cut k n z cs ns) (o : OffsetsOf os z) where
  first-near : take n (less_near os cs ns) ≡ less_near (take k os) (take k cs) (take n ns)
  first-near = rw q.before (near-take k os cs ns (o.boxes ∙ q.columns.boxes) q.columns.neighbours)

  second-near : drop n (less_near os cs ns) ≡ less_near (drop k os) (drop k cs) (drop n ns)
  second-near = rw q.before (near-drop k os cs ns (o.boxes ∙ q.columns.boxes) q.columns.neighbours)

  module _ (ws : List ℕ) {m : ℤ} {back far u v b f u' v' b' f' : ℕ} (l : HalfCounts true (take k z) (take k cs) (less_near (take k os) (take k cs) (take n ns)) (take n ws) m back far u v b f)
      (r : HalfCounts false (drop k z) (drop k cs) (less_near (drop k os) (drop k cs) (drop n ns)) (drop n ws) m b f u' v' b' f') where
    first : HalfCounts true (take k z) (take k cs) (take n (less_near os cs ns)) (take n ws) m back far u v b f
    first = rw first-near l

    second : HalfCounts false (drop k z) (drop k cs) (drop n (less_near os cs ns)) (drop n ws) m b f u' v' b' f'
    second = rw second-near r

    sizes : u + v + (u' + v') ≤ max_rating * length ns
    sizes = omega (arith, first.sizes, second.sizes, length-take n (less_near os cs ns), length-drop n (less_near os cs ns), length-near os cs ns (o.boxes ∙ q.columns.boxes) q.columns.neighbours, cut-within q)

pub slice_bounds-count_half-end-4 : goal.slice_bounds-count_half-end-4
slice_bounds-count_half-end-4 c = omega (arith, length-take c.args.n c.args.near.now, cut-within c.requires.0)

pub overflow_add-n : goal.overflow_add-n
overflow_add-n c = omega (arith, cut-within c.requires.0, c.requires.6.few)

pub slice_bounds-count_half-end-5 : goal.slice_bounds-count_half-end-5
slice_bounds-count_half-end-5 c = omega (arith, length-take (c.args.n + 1) c.args.sums.now, cut-within c.requires.0, c.requires.6.long)

pub count_half-l-requires : goal.count_half-l-requires
count_half-l-requires c = let a = c.args in let q = c.requires in (
  cut_left q.0,
  offsets-take a.k a.offsets.now a.z.now q.1,
  sized-take max_size a.k a.z.now q.2,
  sized-take reach a.n a.near.now q.3,
  simp (back c.ranges.m) q.4,
  q.5,
  sums-take a.n (cut-within q.0) q.6,
)

pub offset_bounds-near-n : goal.offset_bounds-near-n
offset_bounds-near-n c = omega (arith, cut-within c.requires.0, c.requires.6.few)

pub slice_bounds-count_half-count-4 : goal.slice_bounds-count_half-count-4
slice_bounds-count_half-count-4 c = cut-within c.requires.0

pub slice_bounds-count_half-start-4 : goal.slice_bounds-count_half-start-4
slice_bounds-count_half-start-4 c = omega (arith, cut-within c.requires.0)

pub offset_bounds-sums-n : goal.offset_bounds-sums-n
offset_bounds-sums-n c = omega (arith, cut-within c.requires.0, c.requires.6.few)

pub slice_bounds-count_half-count-5 : goal.slice_bounds-count_half-count-5
slice_bounds-count_half-count-5 c = omega (arith, cut-within c.requires.0, c.requires.6.long)

pub slice_bounds-count_half-start-5 : goal.slice_bounds-count_half-start-5
slice_bounds-count_half-start-5 c = omega (arith, cut-within c.requires.0, c.requires.6.long)

pub count_half-r-requires : goal.count_half-r-requires
count_half-r-requires c = let a = c.args in let q = c.requires in simp (rest_is, back c.ranges.m) (
  cut_right q.0,
  offsets-drop a.k a.offsets.now a.z.now q.1,
  sized-drop max_size a.k a.z.now q.2,
  sized-drop reach a.n a.near.now q.3,
  q.4,
  c.count_half-l.ensures.around.some,
  sums-drop a.n (cut-within q.0) q.6,
)

pub overflow_add-result : goal.overflow_add-result
overflow_add-result c = let q = c.requires in let b = back c.ranges.m in omega (arith, sizes q.0 q.1 (ratings_between c.args.sums.now) (simp (b, between-take) at c.count_half-l.ensures) (simp (b, rest_is, between-drop) at c.count_half-r.ensures), q.6.few)

pub overflow_add-result-2 : goal.overflow_add-result-2
overflow_add-result-2 c = let q = c.requires in let b = back c.ranges.m in omega (arith, sizes q.0 q.1 (ratings_between c.args.sums.now) (simp (b, between-take) at c.count_half-l.ensures) (simp (b, rest_is, between-drop) at c.count_half-r.ensures), q.6.few)

pub returns : goal.returns
unfolding more
returns c = let q = c.requires in let b = back c.ranges.m in let ws = ratings_between c.args.sums.now in
    let k = simp (b, between-take) at c.count_half-l.ensures in let h = simp (b, rest_is, between-drop) at c.count_half-r.ensures in
    let l = first q.0 q.1 ws k h in let r = second q.0 q.1 ws k h in record {
      around = around-more l.around r.around;
      tests = λ x p. let o = beside-more c.args.m x r.around p in rw (← l.ups x o, ← l.beyonds x o, ← r.ups x p, ← r.beyonds x p);
    }
