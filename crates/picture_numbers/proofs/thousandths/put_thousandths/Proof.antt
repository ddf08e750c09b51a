-- `picture_numbers::thousandths::put_thousandths` meets its contract: a minus sign before negatives, and how far the number is from 0.
use mathlib.Core.Path.{◌≡◌}
use native.Mathlib.Omega.{arith}
use lib.IntN.{pos, ◌-ℤ◌, nat_abs}
use mir.Syntax.{w64}
use mir.Val.{SFits, to_z, of_z}
use borrow.Author.Rules.{rules}
use Rattle.ints.proofs.Laws.{ints, back, fit-dif, dif, apart, cast-make}
use Rattle.text.specs.Bytes.{bytes}
use Rattle.text_write.proofs.Written.{and_then, room-first, room-then, same_size}
use Rattle.picture_numbers.specs.Thousandths.{amount}
use Rattle.picture_numbers.proofs.ByCase.{below-0, from-0}
use Rattle.picture_numbers.proofs.thousandths.put_thousandths.Statement.{statement}
use Rattle.picture_numbers.proofs.thousandths.put_thousandths.Tie as tie

b-n : (c : tie.Start) → to_z w64 (of_z w64 c.args.n) ≡ c.args.n
b-n c = back c.ranges.n

neg-fits : (c : tie.Start) → SFits w64 (pos 0 -ℤ c.args.n)
neg-fits c = fit-dif (pos 0) c.args.n (omega (arith, c.requires.0))

b-neg : (c : tie.Start) → to_z w64 (of_z w64 (pos 0 -ℤ c.args.n)) ≡ pos 0 -ℤ c.args.n
b-neg c = back (neg-fits c)

ruleset backs = (b-n, b-neg)

put-word-requires : tie.Need-put_word-next-requires
put-word-requires c κs =
    let c1 = c in
    let s = c1 in
    let a = s.args in
    let n = a.n in
    room-first (bytes "-") (amount (nat_abs n)) a.out.now a.at (rw (below-0 n (simp backs at c1.if-n-lt0.true)) at s.requires.1)

sub-put-amount : tie.Need-overflow_sub-n
sub-put-amount c = simp backs (neg-fits c.before.before.before.before.before.before.before.before.before)

cast-put-amount : tie.Need-overflow_cast-n
cast-put-amount c =
    let c1 = c in
    let s = c1 in
    let a = s.args in
    let n = a.n in
    let h = simp backs at c1.if-n-lt0.true in
    simp backs (cast-make (pos 0 -ℤ n) (omega (arith, ints, dif (pos 0) n, apart (pos 0 -ℤ n), apart n)))

put-amount-requires : tie.Need-put_amount-requires
put-amount-requires c κs =
    let c1 = c in
    let c2 = c1 in
    let s = c2 in
    let a = s.args in
    let n = a.n in
    simp (b-n, b-neg, same_size) (room-then (amount (nat_abs n)) c1.put_word-next.ensures (rw (below-0 n (simp backs at c2.if-n-lt0.true)) at s.requires.1))

returns : tie.Need-returns-then-n-lt0
returns c =
    let c1 = c in
    let c2 = c1 in
    let c3 = c2 in
    let s = c3 in
    let a = s.args in
    let n = a.n in
    rw (below-0 n (simp backs at c3.if-n-lt0.true)) (and_then c2.put_word-next.ensures (simp (b-n, b-neg, same_size) at c1.put_amount.ensures))

cast-put-amount-2 : tie.Need-overflow_cast-n-2
cast-put-amount-2 c =
    let c1 = c in
    let s = c1 in
    let a = s.args in
    let n = a.n in
    let h = simp backs at c1.if-n-lt0.false in
    simp backs (cast-make n (omega (arith, ints, apart n)))

put-amount-requires-2 : tie.Need-put_amount-requires-2
put-amount-requires-2 c κs =
    let c1 = c in
    let s = c1 in
    let a = s.args in
    let n = a.n in simp backs (rw (from-0 n (simp backs at c1.if-n-lt0.false)) at s.requires.1)

returns-2 : tie.Need-returns
returns-2 c =
    let c1 = c in
    let c2 = c1 in
    let s = c2 in
    let a = s.args in
    let n = a.n in rw (from-0 n (simp backs at c2.if-n-lt0.false)) (simp backs at c1.put_amount-2.ensures)

pub put_thousandths_spec : {M : Type 1} → statement M
put_thousandths_spec =
    tie.close
    (tie.spec put-word-requires sub-put-amount cast-put-amount put-amount-requires (λ c. search rules) returns cast-put-amount-2 put-amount-requires-2 (λ c. search rules) returns-2)
