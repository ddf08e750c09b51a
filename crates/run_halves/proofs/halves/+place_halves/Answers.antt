-- No box, one box, or two halves, each shorter, whose placings are joined as the definition joins them.
use Rattle.std.proofs.Common.{◌≡◌, refl, ℕ, ◌+◌, ◌-◌, ◌/◌, ◌≤◌, ◌++◌, length, drop, arith, length-take, length-drop, length-append, ℤ, pos, w64, to_z, of_z}
use lib.ListN.{get_or}
use Rattle.ints.specs.Ints.{size}
use Rattle.ints.specs.Reach.{reach}
use Rattle.ints.proofs.Laws.{back, back', fit-make}
use Rattle.run_columns.proofs.ColumnLaws.{sum-cut}
use Rattle.run_columns.proofs.Fill.{rest_is, second-part, both-parts}
use Rattle.run_halves.proofs.ByHalves.{Halved}
use Rattle.run_halves.proofs.Given.{given-none, given-one, given-left, given-right, given-join, given-more}
use Rattle.run_halves.proofs.halves.+place_halves.Goals as goal
use Rattle.run_halves.proofs.halves.+place_halves.Goals.{After-total-n, After-place_halves, After-place_halves-2}

-- what is read of a position within reach
read : (z : ℤ) → size z ≤ reach → to_z w64 (of_z w64 z) ≡ z
read z h = back (fit-make z (omega arith))

-- the cut
halved : (t : ℕ) (c : After-total-n t) → Halved (length c.args.old.now / 2) c.total-n.result c.args.old.now c.args.counts.now
halved t c = record { many = omega (arith, c.if-r-eq1.false, c.if-r-eq0.false); half = refl; before = c.total-n.ensures }

within : (t : ℕ) (c : After-total-n t) → c.total-n.result ≤ length c.args.near.now
within t c = omega (arith, c.total-n.ensures, sum-cut (length c.args.old.now / 2) c.args.counts.now, c.requires.columns.neighbours)

first-long : (t : ℕ) (c : After-place_halves t) → length c.place_halves.new.z ≡ length c.args.old.now / 2
first-long t c = omega (arith, c.place_halves.auto.z, length-take (length c.args.old.now / 2) c.args.z.now, c.requires.answer)

second-long : (t : ℕ) (c : After-place_halves-2 t) → length c.place_halves-2.new.z ≡ length c.args.old.now - length c.args.old.now / 2
second-long t c = let k = length c.args.old.now / 2 in let l = c.place_halves.new.z in let e : length l ≡ k = omega (arith, c.place_halves.auto.z, length-take k c.args.z.now, c.requires.answer) in
    omega (arith, simp (second-part k c.args.z.now l l e) at c.place_halves-2.auto.z, length-drop k c.args.z.now, c.requires.answer)

-- src/halves.rt:106:9
pub returns-then-r-eq0 : goal.returns-then-r-eq0
returns-then-r-eq0 t c = given-none _ _ _ _ _ _ _ _ c.requires c.if-r-eq0.true

-- src/halves.rt:111:9
pub returns-then-r-eq1 : goal.returns-then-r-eq1
returns-then-r-eq1 t c =
    let g = c.requires in
    let one = c.if-r-eq1.true in
    let near : size (get_or c.args.old.now 0 (pos 0)) ≤ reach = g.olds 0 (omega arith) in
    let e = simp (read (get_or c.args.old.now 0 (pos 0)) near) at c.place_one.ensures in
    simp (back' c.place_one.result c.place_one.type_inv) (given-one _ _ _ _ _ _ _ _ g c.place_one.result one e)

-- src/halves.rt:114:9
pub total-n-requires : goal.total-n-requires
total-n-requires t c = omega (arith, sum-cut (length c.args.old.now / 2) c.args.counts.now, c.requires.columns.neighbours)

-- src/halves.rt:121:9
pub slice_bounds-place_halves-end-4 : goal.slice_bounds-place_halves-end-4
slice_bounds-place_halves-end-4 t c = omega (arith, length-take c.total-n.result c.args.near.now, within t (goal.at.slice_bounds-place_halves-end-4 t c).After-total-n)

-- src/halves.rt:122:17
pub overflow_add-n : goal.overflow_add-n
overflow_add-n t c = omega (arith, within t (goal.at.overflow_add-n t c).After-total-n, c.requires.sums.few)

-- src/halves.rt:122:9
pub slice_bounds-place_halves-end-5 : goal.slice_bounds-place_halves-end-5
slice_bounds-place_halves-end-5 t c = omega (arith, length-take (c.total-n.result + 1) c.args.sums.now, within t (goal.at.slice_bounds-place_halves-end-5 t c).After-total-n, c.requires.sums.long)

-- src/halves.rt:115:5
pub place_halves-requires : goal.place_halves-requires
place_halves-requires t c =
    let h = halved t (goal.at.place_halves-requires t c).After-total-n in (
      omega (arith, c.decreases, length-take (length c.args.old.now / 2) c.args.old.now, h.many),
      given-left _ _ _ _ _ _ _ _ c.requires _ _ h,
    )

-- src/halves.rt:131:9
pub offset_bounds-near-n : goal.offset_bounds-near-n
offset_bounds-near-n t c = omega (arith, within t (goal.at.offset_bounds-near-n t c).After-total-n)

-- src/halves.rt:131:9
pub slice_bounds-place_halves-count-4 : goal.slice_bounds-place_halves-count-4
slice_bounds-place_halves-count-4 t c = within t (goal.at.slice_bounds-place_halves-count-4 t c).After-total-n

-- src/halves.rt:131:9
pub slice_bounds-place_halves-start-4 : goal.slice_bounds-place_halves-start-4
slice_bounds-place_halves-start-4 t c = omega (arith, within t (goal.at.slice_bounds-place_halves-start-4 t c).After-total-n)

-- src/halves.rt:132:9
pub offset_bounds-sums-n : goal.offset_bounds-sums-n
offset_bounds-sums-n t c = omega (arith, within t (goal.at.offset_bounds-sums-n t c).After-total-n, c.requires.sums.long)

-- src/halves.rt:132:9
pub slice_bounds-place_halves-count-5 : goal.slice_bounds-place_halves-count-5
slice_bounds-place_halves-count-5 t c = omega (arith, within t (goal.at.slice_bounds-place_halves-count-5 t c).After-total-n, c.requires.sums.long)

-- src/halves.rt:132:9
pub slice_bounds-place_halves-start-5 : goal.slice_bounds-place_halves-start-5
slice_bounds-place_halves-start-5 t c = omega (arith, within t (goal.at.slice_bounds-place_halves-start-5 t c).After-total-n, c.requires.sums.long)

-- src/halves.rt:125:5
pub place_halves-requires-2 : goal.place_halves-requires-2
place_halves-requires-2 t c =
    let p = goal.at.place_halves-requires-2 t c in
    let h = halved t p.After-total-n in
    let k = length c.args.old.now / 2 in
    let l = c.place_halves.new.z in (
      omega (arith, c.decreases, length-take (length c.args.old.now - k) (drop k c.args.old.now), length-drop k c.args.old.now, h.many),
      simp rest_is (given-right _ _ _ _ _ _ _ _ c.requires k c.total-n.result h (drop k (l ++ drop k c.args.z.now))
          (omega (arith, length-drop k (l ++ drop k c.args.z.now), length-append l (drop k c.args.z.now), first-long t p.After-place_halves, length-drop k c.args.z.now, c.requires.answer))),
    )

-- src/halves.rt:135:5
pub join-requires-clause-small : goal.join-requires-clause-small
join-requires-clause-small t c =
    let p = goal.at.join-requires-clause-small t c in
    let first = first-long t p.After-place_halves in
    rw (both-parts (length c.args.old.now / 2) c.args.z.now c.place_halves.new.z c.place_halves-2.new.z first)
    (given-join _ _ _ _ _ _ _ _ c.requires (length c.args.old.now / 2) c.total-n.result (halved t p.After-total-n) c.place_halves.new.z c.place_halves-2.new.z first (second-long t p.After-place_halves-2) c.place_halves.ensures (simp rest_is at c.place_halves-2.ensures)).1

-- src/halves.rt:90:1
pub returns : goal.returns
returns t c =
    let p = goal.at.returns t c in
    let first = first-long t p.After-place_halves in
    given-more _ _ _ _ _ _ _ _ c.requires (length c.args.old.now / 2) c.total-n.result (halved t p.After-total-n) c.place_halves.new.z c.place_halves-2.new.z first (second-long t p.After-place_halves-2) c.place_halves.ensures (simp rest_is at c.place_halves-2.ensures)
    _ (rw (both-parts (length c.args.old.now / 2) c.args.z.now c.place_halves.new.z c.place_halves-2.new.z first) at c.join.ensures)
