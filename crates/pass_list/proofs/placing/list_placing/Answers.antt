-- `pass_list::placing::list_placing`: what it writes is the next entry of each array.
use Rattle.std.proofs.Common.{sym}
use Rattle.pass_list.proofs.Added.{listing-more}
use Rattle.pass_list.proofs.placing.list_placing.Goals as goal

pub returns : goal.returns
returns c list s =
    let a = c.args in
    let r = c.requires.1 in
    let v = c.list_vertices.ensures in
    let y = c.list_positions.ensures in
    listing-more a.q a.l a.from a.end a.at.now a.n a.b _ _ (sym s.placings) (sym s.boxes) r.order r.placings r.boxes s.lists v.0 v.1 y.0 y.1
