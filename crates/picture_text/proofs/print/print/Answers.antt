-- By what was answered; no picture is refused 14.
use mathlib.Core.Path.{refl}
use Rattle.picture_text.proofs.PrintLaws.{prints}
use Rattle.picture_text.proofs.print.print.Goals as goal

pub returns-in-Ok : goal.returns-in-Ok
returns-in-Ok c =
    let a = c.args in
    prints a.text.now a.names.now a.out.now c.requires _ _ _ _ c.in-Ok.ensures (refl, refl)

pub returns-in-Err-Refused : goal.returns-in-Err-Refused
returns-in-Err-Refused c =
    let a = c.args in let e = c.in-Err-Refused in
    prints a.text.now a.names.now a.out.now c.requires _ _ _ _ (rw e.field-0-is at e.ensures) (rw c.number.ensures at c.refuse.ensures)

pub returns-in-Err-Names : goal.returns-in-Err-Names
returns-in-Err-Names c =
    let a = c.args in let e = c.in-Err-Names in
    prints a.text.now a.names.now a.out.now c.requires _ _ _ _ (rw e.field-0-is at e.ensures) c.refuse_names.ensures
