use Rattle.std.proofs.Common.{rules}
use Rattle.std.proofs.lemmas.List.{length-take-le}
use Rattle.report_numbers.proofs.Rooms.{numberable, line-asked, line-is}
use Rattle.report_numbers.proofs.lines.put_line_by.Goals as goal

pub in_numbers-requires : goal.in_numbers-requires
in_numbers-requires c = let h = c.requires.numbered in
    numberable h _ _ _ (length-take-le _ _ h.in_limit) (length-take-le _ _ h.in_limit) (search rules)

pub put_report_line-requires : goal.put_report_line-requires
put_report_line-requires c = line-asked c.in_numbers.ensures c.requires

pub returns : goal.returns
returns c = rw (line-is c.requires.numbered c.in_numbers.ensures c.args.spacing c.args.n) at c.put_report_line.ensures
