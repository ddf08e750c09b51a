-- By what reading the text answered.
use Rattle.std.proofs.Common.{refl}
use Rattle.text_write.proofs.AgainLaws.{read-accepted}
use Rattle.sheet.proofs.Leaves.{leaves}
use Rattle.sheet_load.proofs.LoadLaws.{load-accepted, load-refused}
use Rattle.sheet_load.proofs.load.load.Goals as goal

pub own-requires : goal.own-requires
own-requires c = (read-accepted c.args.text.now _ c.in-Ok.ensures).stored.vertices

pub returns-in-Ok : goal.returns-in-Ok
returns-in-Ok c = leaves _ (load-accepted c.args.sheet c.args.text.now _ c.in-Ok.ensures) (rw (c.empty.ensures, c.own.ensures))

pub returns-in-Err : goal.returns-in-Err
returns-in-Err c = leaves _ (load-refused c.args.sheet c.args.text.now _ c.in-Err.ensures) refl
