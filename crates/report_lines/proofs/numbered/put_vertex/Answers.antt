use lib.IntN.{pos}
use lib.ListN.{get_or}
use Rattle.ints.proofs.Reach.{within-at}
use Rattle.report_lines.proofs.Boxes.{read_back}
use Rattle.report_lines.proofs.numbered.put_vertex.Goals as goal

pub put_at-requires : goal.put_at-requires
put_at-requires c =
    let h = within-at c.args.preliminary.now c.args.v c.requires.positions.of_preliminary in
    let k = within-at c.args.finals.now c.args.v c.requires.positions.of_finals in
    rw (read_back (get_or c.args.preliminary.now c.args.v (pos 0)) h, read_back (get_or c.args.finals.now c.args.v (pos 0)) k) (h, k, c.requires.room)
