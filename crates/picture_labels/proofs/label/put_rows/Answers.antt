use mathlib.Core.Path.{◌≡◌, ◌∙◌, ap}
use Prim.Native.Nat.{◌+◌, ◌*◌, ◌-◌}
use native.Mathlib.Omega.{arith}
use mir.Syntax.{w64}
use mir.Val.{to_z, of_z}
use lib.ListN.{take, drop}
use Rattle.ints.proofs.Laws.{back}
use Rattle.report_lines.proofs.Partly.{next-room, next-written, all-written}
use Rattle.picture_rows.specs.Rows.{row, rows}
use Rattle.picture_rows.proofs.RowLaws.{no_rows, row_inside, rows_end}
use Rattle.picture_labels.specs.Label.{element_of, letters, elements}
use Rattle.picture_labels.proofs.LabelLaws.{elements-next, elements-none}
use Rattle.picture_labels.proofs.label.put_rows.Goals as goal

pub returns-then-name-start : goal.returns-then-name-start
returns-then-name-start c =
    let a = c.args in let l = c.loop-count in
    rw (back c.ranges.x) at (all-written (elements-none _ a.y a.size (a.first + 2 * l.count) (rows_end a.cols (3 - l.count) a.name.now l.start c.if-name-start.true)) l.invariant.1)

pub put_row-at-requires : goal.put_row-at-requires
put_row-at-requires c =
    let a = c.args in let l = c.loop-count in let r = c.first_row-r.result in let n = a.name.now in
    let k = a.first + 2 * l.count in let left = 3 - l.count in
    rw (back c.ranges.x) (
      c.requires.0,
      c.requires.1,
      next-room (element_of a.x a.y a.size k (letters (row (take (l.start + r.end - l.start) (drop l.start n)) r.cut)))
          (elements a.x a.y a.size (k + 2) (rows a.cols (left - 1) (drop (l.start + r.next) n)))
          (elements-next a.x a.y a.size k a.cols left n l.start c.first_row-r.ensures) (rw (back c.ranges.x) at l.invariant.1) c.requires.4,
    )

pub loop-count-preserved : goal.loop-count-preserved
loop-count-preserved c =
    let a = c.args in let l = c.loop-count in let r = c.first_row-r.result in let n = a.name.now in let x = to_z w64 (of_z w64 a.x) in
    let k = a.first + 2 * l.count in let left = 3 - l.count in
    let e : a.first + 2 * (l.count + 1) ≡ k + 2 = omega arith in
    let f : 3 - (l.count + 1) ≡ left - 1 = omega arith in (
      (row_inside a.cols left n l.start c.first_row-r.ensures (omega arith)).2,
      rw (e, f) (next-written (element_of x a.y a.size k (letters (row (take (l.start + r.end - l.start) (drop l.start n)) r.cut)))
          (elements x a.y a.size (k + 2) (rows a.cols (left - 1) (drop (l.start + r.next) n)))
          (elements-next x a.y a.size k a.cols left n l.start c.first_row-r.ensures) l.invariant.1 c.put_row-at.ensures),
    )

pub returns : goal.returns
returns c =
    let a = c.args in let l = c.loop-count in
    let z : 3 - l.count ≡ 0 = omega arith in
    rw (back c.ranges.x) at (all-written (elements-none _ a.y a.size (a.first + 2 * l.count)
    (ap (λ m. rows a.cols m (drop l.start a.name.now)) z ∙ no_rows a.cols (drop l.start a.name.now))) l.invariant.1)
