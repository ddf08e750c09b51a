-- `picture_numbers::attributes::put_across` meets its contract: the word, and 500 times the number after it.
use mathlib.Core.Path.{◌≡◌}
use native.Mathlib.Omega.{arith}
use lib.IntN.{pos, ◌*ℤ◌}
use mir.Syntax.{w64}
use mir.Val.{to_z, of_z}
use borrow.Author.Rules.{rules}
use Rattle.ints.proofs.Laws.{back}
use Rattle.text_write.proofs.Written.{and_then, room-first, room-then}
use Rattle.picture_numbers.specs.Thousandths.{across}
use Rattle.picture_numbers.proofs.Times.{small, fits}
use Rattle.picture_numbers.proofs.attributes.put_across.Statement.{statement}
use Rattle.picture_numbers.proofs.attributes.put_across.Tie as tie

b-n : (c : tie.Start) → to_z w64 (of_z w64 c.args.n) ≡ c.args.n
b-n c = back c.ranges.n

b-times : (c : tie.Start) → to_z w64 (of_z w64 (pos 500 *ℤ c.args.n)) ≡ pos 500 *ℤ c.args.n
b-times c = back (fits c.args.n c.requires.0)

ruleset backs = (b-n, b-times)

put-word-requires : tie.Need-put_word-next-requires
put-word-requires c κs =
    let s = c in
    let a = s.args in
    room-first a.word.now (across a.n) a.out.now a.at s.requires.1

mul-put-thousandths : tie.Need-overflow_mul-n
mul-put-thousandths c =
    let s = c in
    let a = s.args in
    simp backs (fits a.n s.requires.0)

put-thousandths-requires : tie.Need-put_thousandths-requires
unfolding across
put-thousandths-requires c κs =
    let c1 = c in
    let s = c1 in
    let a = s.args in
    simp backs (omega (arith, small a.n s.requires.0), room-then (across a.n) c1.put_word-next.ensures s.requires.1)

returns : tie.Need-returns
unfolding across
returns c =
    and_then c.put_word-next.ensures (simp backs at c.put_thousandths.ensures)

pub put_across_spec : {M : Type 1} → statement M
put_across_spec =
    tie.close
    (tie.spec put-word-requires mul-put-thousandths put-thousandths-requires (λ c. search rules) returns)
