-- What the load refuses, or the whole text of the sheet that it left.
use Rattle.std.proofs.Common.{rules, ◌≡◌, refl, Err}
use Rattle.sheet_fit.proofs.FitLaws.{writes}
use Rattle.sheet_text.proofs.BackLaws.{back-accepted, back-refused}
use Rattle.sheet_text.proofs.back.text_back.Goals as goal

pub returns-in_err-loaded : goal.returns-in_err-loaded
returns-in_err-loaded c =
    let e : c.from_residual.result ≡ Err c.in_err-loaded.field-0.0 = search rules in
    let l = rw c.empty.ensures at c.load_tangled-loaded.ensures in
    rw e (writes (back-refused c.args.text.now c.args.out.now l _ c.in_err-loaded.was) (record { answered = refl; left = refl }))

pub returns : goal.returns
returns c =
    let l = rw c.empty.ensures at c.load_tangled-loaded.ensures in
    writes (back-accepted c.args.text.now c.args.out.now l c.in_ok-loaded.was) c.whole_text.ensures
