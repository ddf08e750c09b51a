use Rattle.std.proofs.Common.{arith, ◌∙◌, ◌+◌, ◌≤◌, ℕ, ℤ, ◌-ℤ◌, pos, refl, get_or}
use mir.Syntax.{w64}
use mir.Val.{SFits}
use Rattle.ints.specs.Ints.{size}
use Rattle.ints.proofs.Laws.{back, back', dif, fit-make, fit-dif}
use Rattle.prelim_shifts.proofs.collect.slack.Goals as goal

fits : (x y : ℤ) (n : ℕ) → size x ≤ 134217728 → size y ≤ 134217728 → n ≤ 1048576 → SFits w64 ((x -ℤ y) -ℤ pos n)
fits x y n h k m = fit-dif (x -ℤ y) (pos n) (omega (arith, dif x y))

pub overflow_sub-result-2 : goal.overflow_sub-result-2
overflow_sub-result-2 c =
    let x = get_or c.args.xs.now c.args.w (pos 0) in
    let y = get_or c.args.xs.now c.args.v (pos 0) in
    let h = c.requires.4.each c.args.w in
    let k = c.requires.4.each c.args.v in
    let n = c.from.result + c.args.gap + c.from-2.result in
    let far : n ≤ 1048576 = omega (arith, c.requires.0, c.from.ensures, c.from-2.ensures, c.type_inv.halves c.args.v, c.type_inv.halves c.args.w) in
    let apart = back' c.from-3.result c.from-3.type_inv ∙ c.from-3.ensures in
    simp (back (fit-make x (omega (arith, h))), back (fit-make y (omega (arith, k))), back (fit-dif x y (omega (arith, h, k))), apart) (fits x y n h k far)

pub returns : goal.returns
returns c =
    let x = get_or c.args.xs.now c.args.w (pos 0) in
    let y = get_or c.args.xs.now c.args.v (pos 0) in
    let h = c.requires.4.each c.args.w in
    let k = c.requires.4.each c.args.v in
    let n = c.from.result + c.args.gap + c.from-2.result in
    let far : n ≤ 1048576 = omega (arith, c.requires.0, c.from.ensures, c.from-2.ensures, c.type_inv.halves c.args.v, c.type_inv.halves c.args.w) in
    let apart = back' c.from-3.result c.from-3.type_inv ∙ c.from-3.ensures in
    simp (back (fit-make x (omega (arith, h))), back (fit-make y (omega (arith, k))), back (fit-dif x y (omega (arith, h, k))), apart) (back (fits x y n h k far) ∙ rw (c.from.ensures, c.from-2.ensures) refl)
