use Rattle.std.proofs.Common.{◌≡◌, sym, ◌∙◌, cond, eqb, length}
use borrow.Author.Tests.{eq-eqb, ne_eqb}
use Rattle.picture_rows.proofs.RowLaws.{row-whole, row-part}
use Rattle.picture_rows.proofs.rows.first_row.Goals as goal
use Rattle.picture_rows.proofs.rows.first_row.Goals.{then-left-eq1, else-left-eq1}

pub returns-then-is_whole : goal.returns-then-is_whole
returns-then-is_whole c =
    let a = c.args in let e = c.longest-end in
    row-whole a.cols a.left a.name.now c.requires.1 c.requires.0 e.result e.ensures.0 (sym c.is_whole.ensures ∙ c.if-is_whole.true)

pub returns : goal.returns
returns c =
    let a = c.args in let e = c.longest-end in let word = c.end_of-word.result in
    let room : c.if-left-eq1.room ≡ cond (eqb a.left 1) (length a.name.now) word = elim c.if-left-eq1.branch [
      | then-left-eq1 w ↦ w.room-is ∙ rw (eq-eqb a.left 1 w.if-left-eq1.true)
      | else-left-eq1 w ↦ w.room-is ∙ rw (ne_eqb a.left 1 w.if-left-eq1.false)
    ] in
    row-part a.cols a.left a.name.now c.requires.1 c.requires.0 e.result e.ensures.0 word c.cut_end.result c.if-left-eq1.room
    (sym c.is_whole.ensures ∙ c.if-is_whole.false) c.end_of-word.ensures room c.cut_end.ensures.0 c.cut_end.ensures.1
