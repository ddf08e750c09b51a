-- The two functions that place strands and their left siblings meet their contracts: with each strand begun, twice the
-- vertices not yet begun and the members still to ask fall, and the definition has depth enough.
use Rattle.std.proofs.Common.{◌≡◌, ℕ, ◌+◌, max, length, List, sym, subst, ap, arith}
use mathlib.Core.Bool.{Bool}
use lib.ListN.{get_or}
use Rattle.plan.specs.inner.Distances.{distance_by}
use Rattle.preliminary.specs.Classes.{give}
use Rattle.preliminary.specs.Place.{mark_all}
use Rattle.prelim_classes.specs.inner.Links.{chain}
use Rattle.prelim_classes.specs.inner.Walks.{placing, unbegun, Placeable}
use Rattle.prelim_classes.proofs.PlaceLaws.{still, begin-falls, begun-placeable, strand-kept, strand-placed, strand-placed-already, siblings-placed-none, member-long, siblings-placed-without, siblings-placed-with}
use Rattle.prelim_classes.proofs.place.+place_siblings_place_strand.Goals as goal

pub place_siblings-returns-then-w-next-clause-siblings_placed :
    goal.place_siblings-returns-then-w-next-clause-siblings_placed
place_siblings-returns-then-w-next-clause-siblings_placed t c =
    let a = c.args in
    siblings-placed-none _ _ _ _ _ _ _ c.requires a.w a.most c.if-w-next.true

pub place_siblings-place_siblings-requires : goal.place_siblings-place_siblings-requires
place_siblings-place_siblings-requires t c =
    let a = c.args in
    let p = c.requires in
    (omega (arith, c.decreases, member-long _ _ _ _ _ _ _ p a.w c.if-w-next.false, ap (λ (x : ℕ). length (chain a.next.now x)) c.from-below.ensures), p)

pub place_siblings-returns-then-u-next-clause-siblings_placed :
    goal.place_siblings-returns-then-u-next-clause-siblings_placed
place_siblings-returns-then-u-next-clause-siblings_placed t c =
    let a = c.args in
    siblings-placed-without _ _ _ _ _ _ _ c.requires a.w c.if-w-next.false a.most c.place_siblings.result (placing c.place_siblings.new.at c.place_siblings.new.begun) (rw c.from-u.ensures at c.if-u-next.true) (rw c.from-below.ensures at c.place_siblings.ensures.siblings_placed)

pub place_siblings-place_strand-requires : goal.place_siblings-place_strand-requires
place_siblings-place_strand-requires t c =
    let a = c.args in
    let p = c.requires in
    (omega (arith, c.decreases, member-long _ _ _ _ _ _ _ p a.w c.if-w-next.false), (p, c.if-u-next.false))

pub place_siblings-place_siblings-requires-2 : goal.place_siblings-place_siblings-requires-2
place_siblings-place_siblings-requires-2 t c =
    let a = c.args in
    let p = c.requires in
    let k = c.place_strand.ensures.strand_kept in (
      omega (arith, c.decreases, member-long _ _ _ _ _ _ _ p a.w c.if-w-next.false, ap (λ (x : ℕ). length (chain a.next.now x)) c.from-below.ensures, k.fewer),
      still _ _ _ _ _ _ _ p _ _ c.place_strand.auto.at c.place_strand.auto.begun k.uniform (k.low 512000 p.low),
    )

pub place_siblings-returns-clause-siblings_placed :
    goal.place_siblings-returns-clause-siblings_placed
place_siblings-returns-clause-siblings_placed t c =
    let a = c.args in
    let asked : c.max-asked.result ≡ max a.most (get_or c.place_strand.new.at (get_or a.sibling.now a.w 0) 0 + distance_by a.gap a.halves.now (get_or a.sibling.now a.w 0) a.w) = rw (c.distance.ensures, c.from-u.ensures) at c.max-asked.ensures in
    siblings-placed-with _ _ _ _ _ _ _ c.requires a.w c.if-w-next.false a.most _ c.place_strand.new.at c.place_strand.new.begun _ (rw c.from-u.ensures at c.if-u-next.false) c.place_strand.ensures.strand_kept.fewer (rw c.from-u.ensures at c.place_strand.ensures.strand_placed) (rw (asked, c.from-below.ensures) at c.place_siblings-2.ensures.siblings_placed)

pub place_strand-returns-then-begun-v-clause-strand_placed :
    goal.place_strand-returns-then-begun-v-clause-strand_placed
place_strand-returns-then-begun-v-clause-strand_placed t c =
    let a = c.args in
    strand-placed-already _ _ _ _ _ _ _ c.requires.placeable a.v c.if-begun-v.true

pub place_strand-place_siblings-most-requires : goal.place_strand-place_siblings-most-requires
place_strand-place_siblings-most-requires t c =
    let a = c.args in
    let p = c.requires.placeable in
    let f = c.from-first.ensures in
    let b : c.mark.new.begun ≡ mark_all (chain a.next.now (get_or a.top.now a.v 0)) a.begun.now = rw f at c.mark.ensures in
    let less = begin-falls _ _ _ _ _ _ _ p a.v c.requires.v_in_bounds c.if-begun-v.false in (
      omega (arith, less, c.decreases, ap unbegun b, ap (λ (x : ℕ). length (chain a.next.now x)) f),
      subst (λ (x : List Bool). Placeable a.gap a.halves.now a.next.now a.top.now a.sibling.now a.at.now x) (sym b)
          (begun-placeable _ _ _ _ _ _ _ p a.v c.requires.v_in_bounds c.if-begun-v.false),
    )

pub place_strand-returns-clause-strand_kept : goal.place_strand-returns-clause-strand_kept
place_strand-returns-clause-strand_kept t c =
    let a = c.args in
    let f = c.from-first.ensures in
    let b : c.mark.new.begun ≡ mark_all (chain a.next.now (get_or a.top.now a.v 0)) a.begun.now = rw f at c.mark.ensures in
    let g : c.give.new.out ≡ give c.place_siblings-most.result (chain a.next.now (get_or a.top.now a.v 0)) c.place_siblings-most.new.at = rw f at c.give.ensures in
    let kept = rw b at c.place_siblings-most.ensures.siblings_kept in
    rw g (strand-kept _ _ _ _ _ _ _ c.requires.placeable a.v c.requires.v_in_bounds c.if-begun-v.false c.place_siblings-most.new.at c.place_siblings-most.new.begun c.place_siblings-most.result kept)

pub place_strand-returns-clause-strand_placed : goal.place_strand-returns-clause-strand_placed
place_strand-returns-clause-strand_placed t c =
    let a = c.args in
    let f = c.from-first.ensures in
    let b : c.mark.new.begun ≡ mark_all (chain a.next.now (get_or a.top.now a.v 0)) a.begun.now = rw f at c.mark.ensures in
    let g : c.give.new.out ≡ give c.place_siblings-most.result (chain a.next.now (get_or a.top.now a.v 0)) c.place_siblings-most.new.at = rw f at c.give.ensures in
    let placed = rw (f, b) at c.place_siblings-most.ensures.siblings_placed in
    rw g (strand-placed _ _ _ _ _ _ _ c.requires.placeable a.v c.requires.v_in_bounds c.if-begun-v.false c.place_siblings-most.new.at c.place_siblings-most.new.begun c.place_siblings-most.result placed)
