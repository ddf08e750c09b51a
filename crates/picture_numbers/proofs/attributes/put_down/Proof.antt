-- `picture_numbers::attributes::put_down` meets its contract: the word, and 1000 times the number after it.
use borrow.Author.Rules.{rules}
use Rattle.text_write.proofs.Written.{and_then, room-first, room-then}
use Rattle.picture_numbers.specs.Thousandths.{down}
use Rattle.picture_numbers.proofs.attributes.put_down.Statement.{statement}
use Rattle.picture_numbers.proofs.attributes.put_down.Tie as tie

put-word-requires : tie.Need-put_word-next-requires
put-word-requires c κs =
    let s = c in
    let a = s.args in
    room-first a.word.now (down a.n) a.out.now a.at s.requires.1

put-amount-requires : tie.Need-put_amount-requires
unfolding down
put-amount-requires c κs =
    let c1 = c in
    let s = c1 in
    let a = s.args in
    room-then (down a.n) c1.put_word-next.ensures s.requires.1

returns : tie.Need-returns
unfolding down
returns c =
    and_then c.put_word-next.ensures c.put_amount.ensures

pub put_down_spec : {M : Type 1} → statement M
put_down_spec =
    tie.close
    (tie.spec put-word-requires (λ c. search rules) put-amount-requires (λ c. search rules) returns)
