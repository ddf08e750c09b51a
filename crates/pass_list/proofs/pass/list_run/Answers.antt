-- `pass_list::pass::list_run`: the list is as before, or has one placing more.
use Rattle.std.proofs.Common.{arith, length}
use Rattle.pass_list.proofs.ListLaws.{stored_more, room}
use Rattle.pass_list.proofs.pass.list_run.Goals as goal

pub list_placing-requires : goal.list_placing-requires
list_placing-requires c =
    let a = c.args in
    let h = c.requires in
    (h.0, room a.placed a.q a.l a.from a.end a.at.now h.4 c.if-not-placed.false (omega arith) (length a.at.now) h.2 h.3)

pub returns : goal.returns
returns c list s = let a = c.args in stored_more a.placed a.q a.l a.from a.end a.at.now s c.if-not-placed.false (omega arith) (c.list_placing.ensures list s)
