use Rattle.std.proofs.Common.{drop}
use Rattle.report_numbers.proofs.Numbered.{numbered-front}
use Rattle.report_numbers.proofs.arrays.in_numbers.Goals as goal

-- positions stand by number, and the vertices that are counted as boxes are named
pub returns : goal.returns
returns c = let a = c.args in
    numbered-front a.m.now a.counts.now a.preliminary.now a.finals.now a.vertices.now a.starts.now a.ends.now a.names.now c.requires
    c.positions_by.new.out c.positions_by-2.new.out c.gather.new.out (drop c.total-n.result a.names.now) c.total-n.result
    c.positions_by.ensures c.positions_by-2.ensures c.total-n.ensures c.gather.ensures
