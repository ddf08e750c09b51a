-- By what reading the text answered.
use Rattle.std.proofs.Common.{refl}
use Rattle.sheet.proofs.Leaves.{leaves}
use Rattle.sheet_load.proofs.LoadLaws.{tangled-accepted, tangled-refused}
use Rattle.sheet_load.proofs.tangled.load_tangled.Goals as goal

pub returns-in-Ok : goal.returns-in-Ok
returns-in-Ok c = leaves _ (tangled-accepted c.args.sheet c.args.text.now _ c.in-Ok.ensures) (rw c.empty.ensures)

pub returns-in-Err : goal.returns-in-Err
returns-in-Err c = leaves _ (tangled-refused c.args.sheet c.args.text.now _ c.in-Err.ensures) refl
