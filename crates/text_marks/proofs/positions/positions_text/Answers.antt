-- By what reading the text found.
use Rattle.std.proofs.Common.{rules, ◌≡◌, ap, Err}
use Rattle.sheet_fit.proofs.FitLaws.{writes}
use Rattle.text_marks.specs.Positions.{positions_of}
use Rattle.text_marks.proofs.Texts.{positions-not, refused-read}
use Rattle.text_marks.proofs.positions.positions_text.Goals as goal

pub returns-in_err-r : goal.returns-in_err-r
returns-in_err-r c =
    let r = c.in_err-r.field-0.0 in
    let b = c.args.out.now in
    let e : c.from_residual.result ≡ Err r = search rules in
    rw e (writes (ap (λ g. positions_of g b) (refused-read c.args.text.now _ r c.in_err-r.was c.read_into-r.ensures.refuses)) (positions-not r b))
