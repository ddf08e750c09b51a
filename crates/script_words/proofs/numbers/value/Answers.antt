-- `script_words::numbers::value` meets its contract: the value of all digits is that of the digits from the index on, after the value so far; it never falls.
use Rattle.std.proofs.Common.{◌≡◌, ◌+◌, ◌-◌, ◌*◌, ◌<◌, ◌^◌, arith, sym, ◌∙◌, ap, get_or, length, drop}
use borrow.Author.Tests.{ltb-true, ltb-false}
use Rattle.script_words.specs.Numbers.{value_from, whole_if}
use Rattle.script_words.proofs.NumberLaws.{digits-on, digit_at, value_grows, value_on, value-end, whole-small, whole-large}
use Rattle.script_words.proofs.numbers.value.Goals as goal

pub digit-d-requires : goal.digit-d-requires
digit-d-requires c = let l = c.loop-b in digit_at c.args.word.now l.b-index (omega arith) l.invariant.1

pub returns-then-not-fits : goal.returns-then-not-fits
returns-then-not-fits c =
    let w = c.args.word.now in
    let l = c.loop-b in
    let v = l.n * 10 + (get_or w l.b-index 0 - 48) in
    let q = ltb-false (l.n * 10 + c.digit-d.result) (2 ^ 64) (sym c.fits.ensures ∙ c.if-not-fits.true) in
    let e : value_from 0 w ≡ value_from v (drop (l.b-index + 1) w) = sym l.invariant.2 ∙ value_on l.n w l.b-index (omega arith) in
    sym (whole-large (value_from 0 w) (omega (arith, c.digit-d.ensures.0, e, value_grows v (drop (l.b-index + 1) w))))

pub loop-b-preserved : goal.loop-b-preserved
loop-b-preserved c =
    let w = c.args.word.now in
    let l = c.loop-b in
    let k : l.b-index < length w = omega arith in (
      ltb-true _ (2 ^ 64) (sym c.fits.ensures ∙ c.if-not-fits.false),
      sym (digits-on w l.b-index k (digit_at w l.b-index k l.invariant.1)) ∙ l.invariant.1,
      rw c.digit-d.ensures.0 (sym (value_on l.n w l.b-index k) ∙ l.invariant.2),
    )

pub returns : goal.returns
returns c =
    let w = c.args.word.now in
    let l = c.loop-b in
    let e : l.n ≡ value_from 0 w = sym (value-end l.n w l.b-index (omega arith)) ∙ l.invariant.2 in
    sym (ap whole_if (sym e) ∙ whole-small l.n l.invariant.0)
