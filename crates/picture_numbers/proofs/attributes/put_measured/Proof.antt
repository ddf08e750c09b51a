-- `picture_numbers::attributes::put_measured` meets its contract: the word, and the number after it.
use borrow.Author.Rules.{rules}
use Rattle.text_write.proofs.Written.{and_then, room-first, room-then}
use Rattle.picture_numbers.specs.Thousandths.{amount}
use Rattle.picture_numbers.proofs.attributes.put_measured.Statement.{statement}
use Rattle.picture_numbers.proofs.attributes.put_measured.Tie as tie

put-word-requires : tie.Need-put_word-next-requires
put-word-requires c κs =
    let s = c in
    let a = s.args in
    room-first a.word.now (amount a.n) a.out.now a.at s.requires

put-amount-requires : tie.Need-put_amount-requires
put-amount-requires c κs =
    let c1 = c in
    let s = c1 in
    let a = s.args in
    room-then (amount a.n) c1.put_word-next.ensures s.requires

returns : tie.Need-returns
returns c =
    and_then c.put_word-next.ensures c.put_amount.ensures

pub put_measured_spec : {M : Type 1} → statement M
put_measured_spec =
    tie.close
    (tie.spec put-word-requires put-amount-requires (λ c. search rules) returns)
