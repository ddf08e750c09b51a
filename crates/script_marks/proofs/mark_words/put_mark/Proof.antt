-- `script_marks::mark_words::put_mark` meets its contract: each arm writes the words of its case.
use Rattle.std.proofs.Common.{rules}
use Rattle.script_marks.proofs.mark_words.put_mark.Statement.{statement}
use Rattle.script_marks.proofs.mark_words.put_mark.Tie as tie

put-box-requires : tie.Need-put_box-requires
put-box-requires c κs = rw c.in-Box.is at c.requires

put-bend-requires : tie.Need-put_bend-requires
put-bend-requires c κs = rw c.in-Bend.is at c.requires

put-line-requires : tie.Need-put_line-requires
put-line-requires c κs = rw c.in-Line.is at c.requires

returns : tie.Need-returns-in-Box
returns c = rw c.in-Box.is c.put_box.ensures

returns-2 : tie.Need-returns-in-Bend
returns-2 c = rw c.in-Bend.is c.put_bend.ensures

returns-3 : tie.Need-returns-in-Line
returns-3 c = rw c.in-Line.is c.put_line.ensures

pub put_mark_spec : {M : Type 1} → statement M
put_mark_spec =
    tie.close
    (tie.spec (λ c. search rules) put-box-requires (λ c. search rules) put-bend-requires (λ c. search rules) put-line-requires (λ c. search rules) returns (λ c. search rules) returns-2 (λ c. search rules) returns-3)
