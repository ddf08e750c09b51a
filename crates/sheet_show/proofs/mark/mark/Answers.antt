-- Refused or not by 11 to 13; what is given is exact.
use Rattle.std.proofs.Common.{rules, ◌≡◌, refl, sym, ap, ◌∙◌, Ok, Err}
use Rattle.ints.specs.Refusals.{refused_by}
use Rattle.ints.proofs.Refusals.{has-number}
use Rattle.sheet.proofs.Exactly.{gives-mark}
use Rattle.sheet_show.proofs.ShowLaws.{holds, mark-refused, mark-shown}
use Rattle.sheet_show.proofs.mark.mark.Goals as goal

pub returns-in_err-check_show : goal.returns-in_err-check_show
returns-in_err-check_show c =
    let x = c.in_err-check_show.field-0.0 in
    let e : c.from_residual.result ≡ Err x = search rules in
    let v : c.check_show.result ≡ Err x = search rules in
    rw e (gives-mark c.args.sheet c.args.n (sym (mark-refused c.args.sheet _ (ap refused_by (sym v) ∙ c.check_show.ensures) (has-number _) c.args.n)))

pub mark_of-requires : goal.mark_of-requires
mark_of-requires c =
    let v : c.check_show.result ≡ Ok c.in_ok-check_show.field-0 = search rules in
    rw c.counts_in.ensures (holds c.args.sheet _ c.check_show.ensures (ap refused_by v))

pub returns : goal.returns
returns c =
    let v : c.check_show.result ≡ Ok c.in_ok-check_show.field-0 = search rules in
    gives-mark c.args.sheet c.args.n
    (rw c.counts_in.ensures at c.mark_of.ensures ∙ sym (mark-shown c.args.sheet _ c.check_show.ensures (ap refused_by v) c.args.n))
