use Rattle.std.proofs.Common.{arith, ◌∙◌, sym, get_or, pos, ◌+ℤ◌}
use Rattle.ints.proofs.Laws.{back, fit-make, fit-sum}
use Rattle.prelim_shifts.proofs.MoveLaws.{ahead-set, moved_on, moved-end}
use Rattle.prelim_shifts.proofs.shift.move_all.Goals as goal

pub loop-v-preserved : goal.loop-v-preserved
loop-v-preserved c =
    let a = c.args in
    let l = c.loop-v in
    let x = get_or l.xs l.v (pos 0) in
    let small = l.invariant.sized.each l.v (omega arith) in
    let r = c.requires.0.rises l.v (omega arith) (omega arith) in
    let d = back c.ranges.d in
    simp (c.from-v.ensures, d, back (fit-make x (omega (arith, small))), back (fit-sum x a.d (omega (arith, small, c.requires.3)))) (record {
      sized = ahead-set l.v (get_or a.link.now l.v 0) 134217728 (x +ℤ a.d) l.xs r l.invariant.sized;
      moved = sym (moved_on a.link.now c.requires.0 a.d l.v l.xs (omega arith)) ∙ (simp d at l.invariant.moved);
    })

pub returns : goal.returns
returns c =
    let a = c.args in
    let l = c.loop-v in
    sym (moved-end a.link.now c.requires.0 a.d l.v l.xs (omega arith)) ∙ (simp (back c.ranges.d) at l.invariant.moved)
