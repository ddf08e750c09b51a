-- What is counted of the first i boxes, which have `at` neighbours, and what the rest holds make up the whole.
use Rattle.std.proofs.Common.{arith, ◌≡◌, refl, sym, ◌∙◌, true, Bool, List, map, ℕ, ◌+◌, ◌-◌, ◌*◌, ◌≤◌, ◌<◌, length, take, drop, get_or, ℤ, pos, length-drop}
use Rattle.ints.proofs.Laws.{back, fit-make}
use Rattle.run.specs.Run.{leads_of, nondecreasing}
use Rattle.run.specs.inner.Coordinates.{less}
use Rattle.ints.specs.Ratings.{max_rating}
use Rattle.ints.specs.Reach.{reach}
use Rattle.run_columns.specs.inner.Counts.{BoxCounts}
use Rattle.run_columns.specs.inner.Columns.{Columns}
use Rattle.run_columns.specs.inner.Offsets.{less_near, OffsetsOf, Near}
use Rattle.run_columns.specs.inner.Sums.{ratings_between, SumsOf}
use Rattle.run_columns.proofs.ColumnLaws.{First}
use Rattle.run_columns.proofs.CountLaws.{Counting, counting-start, next-first, next-sizes, counting-next, counting-end}
use Rattle.run_columns.proofs.Sized.{sized-take, sized-drop}
use Rattle.run_columns.proofs.OffsetLaws.{near-part, near-rest, length-near, nondecreasing-less, columns-less}
use Rattle.run_columns.proofs.SumLaws.{between-take, between-drop, sums-take, sums-drop}
use Rattle.run_columns.proofs.counts.count_half.Goals as goal

same-part : (a c : ℕ) (ns : List ℤ) → take (a + c - a) (drop a ns) ≡ take c (drop a ns)
same-part a c ns = let e : a + c - a ≡ c = omega arith in rw e

same-sums : (a c : ℕ) (ss : List ℕ) → take (a + c + 1 - a) (drop a ss) ≡ take (c + 1) (drop a ss)
same-sums a c ss = let e : a + c + 1 - a ≡ c + 1 = omega arith in rw e

part-ratings : (a c : ℕ) (ss : List ℕ) → ratings_between (take (a + c + 1 - a) (drop a ss)) ≡ take c (drop a (ratings_between ss))
part-ratings a c ss = rw (same-sums a c ss, between-take c (drop a ss), between-drop a ss)

-- the box at i
module _ {left : Bool} {z : List ℤ} {os cs : List ℕ} {ns : List ℤ} {ss : List ℕ} {m : ℤ} {back far u v b f a i : ℕ} (h : i < length z) (q : Columns z cs ns) (o : OffsetsOf os z) (s : SumsOf ss ns)
    (k : Counting left z cs (less_near os cs ns) (ratings_between ss) m back far u v b f a i) (e : drop a (less_near os cs ns) ≡ less_near (drop i os) (drop i cs) (drop a ns)) where
  next : First (get_or cs i 0) (drop (i + 1) z) (drop (i + 1) cs) (drop a (less_near os cs ns))
  next = next-first left z cs (less_near os cs ns) (ratings_between ss) m back far u v b f a i h k

  fits : a + get_or cs i 0 ≤ length ns
  fits = omega (arith, next.fits, length-drop a (less_near os cs ns), k.within, length-near os cs ns (o.boxes ∙ q.boxes) q.neighbours)

  rest_fits : get_or cs i 0 ≤ length (drop a ns)
  rest_fits = omega (arith, fits, length-drop a ns)

  part_is : take (get_or cs i 0) (drop a (less_near os cs ns)) ≡ map (less (get_or os i 0)) (take (get_or cs i 0) (drop a ns))
  part_is = near-part os cs ns (less_near os cs ns) a i (omega (arith, h, o.boxes)) (omega (arith, h, q.boxes)) rest_fits e

  rest-is : drop (a + get_or cs i 0) (less_near os cs ns) ≡ less_near (drop (i + 1) os) (drop (i + 1) cs) (drop (a + get_or cs i 0) ns)
  rest-is = near-rest os cs ns (less_near os cs ns) a i (omega (arith, h, o.boxes)) (omega (arith, h, q.boxes)) rest_fits e

  part-ordered : nondecreasing (take (a + get_or cs i 0 - a) (drop a ns)) ≡ true
  part-ordered = let ps = take (get_or cs i 0) (drop a ns) in rw same-part (sym (nondecreasing-less (get_or os i 0) ps) ∙ rw part_is at next.order)

  part-near : Near ns → Near (take (a + get_or cs i 0 - a) (drop a ns))
  part-near n = rw same-part (sized-take reach (get_or cs i 0) (drop a ns) (sized-drop reach a ns n))

  part-sums : SumsOf (take (a + get_or cs i 0 + 1 - a) (drop a ss)) (take (a + get_or cs i 0 - a) (drop a ns))
  part-sums = rw (same-part, same-sums) (sums-take (get_or cs i 0) rest_fits (sums-drop a (omega (arith, fits)) s))

  -- and what was counted of it
  module _ {u' v' b' f' : ℕ} (t : BoxCounts left (get_or z i (pos 0)) (leads_of (map (less (get_or os i 0)) (take (a + get_or cs i 0 - a) (drop a ns))) (ratings_between (take (a + get_or cs i 0 + 1 - a) (drop a ss)))) m b f u' v' b' f') where
    counted : BoxCounts left (get_or z i (pos 0)) (leads_of (take (get_or cs i 0) (drop a (less_near os cs ns))) (take (get_or cs i 0) (drop a (ratings_between ss)))) m b f u' v' b' f'
    counted = rw part_is (simp (same-part, part-ratings) at t)

    sizes : u + v + (u' + v') ≤ max_rating * length ns
    sizes = omega (arith, fits, next-sizes left z cs (less_near os cs ns) (ratings_between ss) m back far u v b f a i h k u' v' b' f' counted s.rated)

    counts-on : Counting left z cs (less_near os cs ns) (ratings_between ss) m back far (u + u') (v + v') b' f' (a + get_or cs i 0) (i + 1)
    counts-on = counting-next left z cs (less_near os cs ns) (ratings_between ss) m back far u v b f a i h k u' v' b' f' counted s.rated

pub loop-i-init : goal.loop-i-init
loop-i-init c = let a = c.args in record {
  counting = simp (back c.ranges.m) (counting-start a.left a.z.now a.counts.now (less_near a.offsets.now a.counts.now a.near.now) (ratings_between a.sums.now) a.m a.back a.far c.requires.5
      (columns-less a.offsets.now a.z.now a.counts.now a.near.now c.requires.1.boxes c.requires.0));
  rest = refl;
}

pub overflow_add-to : goal.overflow_add-to
overflow_add-to c = let l = c.loop-i.invariant in omega (arith, fits c.loop-i-test.true c.requires.0 c.requires.1 c.requires.6 l.counting l.rest, c.requires.6.few)

pub offset_bounds-near-at : goal.offset_bounds-near-at
offset_bounds-near-at c = let l = c.loop-i.invariant in omega (arith, fits c.loop-i-test.true c.requires.0 c.requires.1 c.requires.6 l.counting l.rest, c.requires.6.few)

pub slice_bounds-count_box-end : goal.slice_bounds-count_box-end
slice_bounds-count_box-end c = let l = c.loop-i.invariant in omega (arith, fits c.loop-i-test.true c.requires.0 c.requires.1 c.requires.6 l.counting l.rest)

pub overflow_add-to-in-loop-i : goal.overflow_add-to-in-loop-i
overflow_add-to-in-loop-i c = let l = c.loop-i.invariant in omega (arith, fits c.loop-i-test.true c.requires.0 c.requires.1 c.requires.6 l.counting l.rest, c.requires.6.few)

pub offset_bounds-sums-at : goal.offset_bounds-sums-at
offset_bounds-sums-at c = let l = c.loop-i.invariant in omega (arith, fits c.loop-i-test.true c.requires.0 c.requires.1 c.requires.6 l.counting l.rest, c.requires.6.few)

pub slice_bounds-count_box-end-in-loop-i : goal.slice_bounds-count_box-end-in-loop-i
slice_bounds-count_box-end-in-loop-i c = let l = c.loop-i.invariant in omega (arith, fits c.loop-i-test.true c.requires.0 c.requires.1 c.requires.6 l.counting l.rest, c.requires.6.long)

pub count_box-box_counts-requires : goal.count_box-box_counts-requires
count_box-box_counts-requires c = let l = c.loop-i in let k = l.invariant in let h = c.loop-i-test.true in let q = c.requires in let x = get_or c.args.z.now l.i (pos 0) in let y = q.2 l.i h in (
  part-ordered h q.0 q.1 q.6 k.counting k.rest,
  part-near h q.0 q.1 q.6 k.counting k.rest q.3,
  q.1.small l.i,
  simp (back (fit-make x (omega (arith, y)))) y,
  simp (back c.ranges.m) q.4,
  k.counting.around.some,
  part-sums h q.0 q.1 q.6 k.counting k.rest,
)

pub overflow_add-upto : goal.overflow_add-upto
overflow_add-upto c = let l = c.loop-i in let k = l.invariant in let h = c.loop-i-test.true in let q = c.requires in let x = get_or c.args.z.now l.i (pos 0) in let y = q.2 l.i h in
    omega (arith, sizes h q.0 q.1 q.6 k.counting k.rest (simp (back (fit-make x (omega (arith, y)))) at c.count_box-box_counts.ensures), q.6.few)

pub overflow_add-beyond : goal.overflow_add-beyond
overflow_add-beyond c = let l = c.loop-i in let k = l.invariant in let h = c.loop-i-test.true in let q = c.requires in let x = get_or c.args.z.now l.i (pos 0) in let y = q.2 l.i h in
    omega (arith, sizes h q.0 q.1 q.6 k.counting k.rest (simp (back (fit-make x (omega (arith, y)))) at c.count_box-box_counts.ensures), q.6.few)

pub loop-i-preserved : goal.loop-i-preserved
loop-i-preserved c = let l = c.loop-i in let k = l.invariant in let h = c.loop-i-test.true in let q = c.requires in let x = get_or c.args.z.now l.i (pos 0) in let y = q.2 l.i h in record {
  counting = counts-on h q.0 q.1 q.6 k.counting k.rest (simp (back (fit-make x (omega (arith, y)))) at c.count_box-box_counts.ensures);
  rest = rest-is h q.0 q.1 q.6 k.counting k.rest;
}

pub returns : goal.returns
returns c = let a = c.args in let l = c.loop-i in
    counting-end a.left a.z.now a.counts.now (less_near a.offsets.now a.counts.now a.near.now) (ratings_between a.sums.now) a.m a.back a.far l.upto l.beyond l.b l.f l.at l.i c.loop-i-test.false (simp (back c.ranges.m) at l.invariant.counting)
