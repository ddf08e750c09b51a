use Rattle.picture_names.proofs.NameLaws.{too_long, not-too-long}
use Rattle.picture_names.proofs.index.index_names.Goals as goal

pub returns-then-names-gt65536 : goal.returns-then-names-gt65536
returns-then-names-gt65536 c = let a = c.args in too_long a.vias.now a.names.now a.starts.now a.ends.now c.if-names-gt65536.true

pub returns : goal.returns
returns c =
    let a = c.args in not-too-long a.vias.now a.names.now c.if-names-gt65536.false c.index_lines.ensures
