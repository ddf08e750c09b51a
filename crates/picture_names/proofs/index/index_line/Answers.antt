use native.Mathlib.Omega.{arith}
use borrow.Author.Tests.{not-false}
use Rattle.picture_names.proofs.NameLaws.{unfree-takes, free-takes}
use Rattle.picture_names.proofs.index.index_line.Goals as goal

pub returns-then-not-is_free : goal.returns-then-not-is_free
returns-then-not-is_free c =
    let a = c.args in
    unfree-takes a.vias.now a.names.now a.from a.to a.starts.now a.ends.now c.read_line-l.ensures c.is_free.ensures
    (not-false _ c.if-not-l.false) (c.if-not-is_free.true)

pub returns : goal.returns
returns c =
    let a = c.args in
    free-takes a.vias.now a.names.now a.from a.to a.starts.now a.ends.now c.read_line-l.ensures c.is_free.ensures
    (not-false _ c.if-not-l.false) (c.if-not-is_free.false)
    (omega (arith, c.requires)) (omega (arith, c.requires)) (omega (arith, c.requires)) (omega (arith, c.requires))
