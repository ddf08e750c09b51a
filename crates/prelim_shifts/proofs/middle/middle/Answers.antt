use Rattle.std.proofs.Common.{arith, ◌≡◌, ◌∙◌, ◌+◌, ◌/◌, ◌<◌, sym, length, pos, ◌+ℤ◌}
use Rattle.ints.specs.Ints.{gap}
use Rattle.ints.proofs.Laws.{sum, back, back', of-nat, fit-sum}
use borrow.Author.Tests.{eqb-true, eqb-false}
use Rattle.prelim_shifts.proofs.MiddleLaws.{middle-is, middle-none, base-sized, below-base, to-top, reach-small, below_next}
use Rattle.prelim_shifts.proofs.middle.middle.Goals as goal

pub returns-then-is_empty : goal.returns-then-is_empty
returns-then-is_empty c = sym (middle-none c.args.xs.now (eqb-true _ 0 (sym c.is_empty.ensures ∙ c.if-is_empty.true)))

pub loop-low-init : goal.loop-low-init
unfolding gap
loop-low-init c =
    let xs = c.args.xs.now in
    let base = c.least-base.result in
    let top = c.greatest.result in
    let b = back' base c.least-base.type_inv in
    let e : c.abs_diff-high.result ≡ gap base top = simp (b, back' top c.greatest.type_inv) at c.abs_diff-high.ensures in
    let some : 0 < length xs = omega (arith, eqb-false _ 0 (sym c.is_empty.ensures ∙ c.if-is_empty.false)) in
    let q = c.least-base.ensures (pos 0) in
    let h = c.greatest.ensures.0 in
    let s = c.greatest.ensures.1 268435456 c.requires in
    simp (b, e) (record {
      order = omega arith;
      far = omega (arith, reach-small xs base top 268435456 c.requires some q h s);
      near = base-sized xs base top 268435456 c.requires some q h;
      few = omega (arith, below-base xs base top 268435456 c.requires some q h, c.div_ceil-enough.ensures);
      many = omega (arith, to-top xs base top 268435456 c.requires some q h, c.div_ceil-enough.ensures);
    })

pub loop-low-preserved-then-count_to-enough : goal.loop-low-preserved-then-count_to-enough
loop-low-preserved-then-count_to-enough c =
    let xs = c.args.xs.now in
    let l = c.loop-low in
    let m = (l.low + l.high) / 2 in
    let base = c.least-base.result in
    let b = back' base c.least-base.type_inv in
    let i = simp b at l.invariant in
    let f = of-nat m (omega (arith, i.far, i.order)) in
    let e = simp (b, f, back (fit-sum base (pos m) (omega (arith, i.near, i.far, i.order)))) at c.count_to.ensures in
    simp b (record {
      order = omega arith;
      far = i.far;
      near = i.near;
      few = omega (arith, e, c.if-count_to-enough.true, below_next (base +ℤ pos m) (base +ℤ pos (m + 1)) xs (omega (arith, sum base (pos m), sum base (pos (m + 1)))));
      many = i.many;
    })

pub returns : goal.returns
returns c =
    let xs = c.args.xs.now in
    let l = c.loop-low in
    let base = c.least-base.result in
    let b = back' base c.least-base.type_inv in
    let i = simp b at l.invariant in
    let f = of-nat l.low (omega (arith, i.far, i.order)) in
    let e : l.high ≡ l.low = omega (arith, i.order) in
    let k : c.div_ceil-enough.result ≡ (length xs + 1) / 2 = omega (arith, c.div_ceil-enough.ensures) in
    simp (b, f, back (fit-sum base (pos l.low) (omega (arith, i.near, i.far, e)))) (sym (middle-is (base +ℤ pos l.low) xs c.div_ceil-enough.result k i.few (rw e at i.many)))
