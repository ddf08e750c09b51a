-- By what reading the text found.
use Rattle.std.proofs.Common.{rules, ◌≡◌, ap, Err}
use Rattle.std.proofs.lemmas.Result.{err_from_is_err_and}
use Rattle.text_marks.proofs.Texts.{refused-read}
use Rattle.picture_text.specs.Text.{picture_in}
use Rattle.picture_text.proofs.TextLaws.{leaves, refused-so}
use Rattle.picture_text.proofs.whole.picture_text.Goals as goal

pub returns-in_err-r : goal.returns-in_err-r
returns-in_err-r c =
    let a = c.args in
    let r = c.in_err-r.field-0.0 in
    let p = err_from_is_err_and c.from_residual.result c.from_residual.ensures.1 in
    let w : c.read_into-r.result.verdict ≡ Err r = search rules in
    let e = refused-read a.text.now _ r w c.read_into-r.ensures.refuses in
    rw (p.1, p.2) (leaves (ap (λ g. picture_in g a.names.now a.out.now) e) (refused-so r a.names.now a.out.now))
