-- `text_scan::scanners::more_digits` meets its contract: at a byte that is no digit, or after four, what was read is what all of them give.
use Rattle.std.proofs.Common.{◌≡◌, ◌+◌, ◌-◌, true, false, sym, ◌∙◌, arith, drop}
use Rattle.text.specs.Parser.{is_digit}
use Rattle.text.proofs.Numbers.{digit-high, digit-within, cap-go, digits-none, digits-stop, digits-go}
use Rattle.text_scan.proofs.scanners.more_digits.Goals as goal

pub returns-then-not-is_digit : goal.returns-then-not-is_digit
returns-then-not-is_digit c =
    let a = c.args in let l = c.loop-at in
    let d : is_digit c.byte_at-b.result ≡ false = sym c.is_digit.ensures ∙ c.if-not-is_digit.true in
    record { gives = l.invariant.same ∙ digits-stop a.text.now (a.from + 4 - l.at) l.value l.at _ c.byte_at-b.ensures d; inside = l.invariant.inside; onward = omega arith }

pub loop-at-preserved : goal.loop-at-preserved
loop-at-preserved c =
    let a = c.args in let l = c.loop-at in
    let b = c.byte_at-b.result in
    let n = a.from + 4 - l.at in
    let d : is_digit b ≡ true = sym c.is_digit.ensures ∙ c.if-not-is_digit.false in
    let up = digit-high b d in
    let h = digit-within a.text.now l.at b c.byte_at-b.ensures d in
    let w : c.from.result ≡ b - 48 = c.from.ensures in
    let m : n - 1 ≡ a.from + 4 - (l.at + 1) = omega arith in
    record {
      inside = omega arith;
      below = rw (w, ← m) (cap-go n l.value (b - 48) (omega arith) (omega arith) l.invariant.below (omega arith));
      same = l.invariant.same ∙ digits-go a.text.now n l.value l.at b (omega arith) c.byte_at-b.ensures d ∙ rw (w, m);
    }

pub returns : goal.returns
returns c =
    let a = c.args in let l = c.loop-at in
    let e : l.at ≡ a.from + 4 = omega arith in
    record { gives = l.invariant.same ∙ digits-none (drop l.at a.text.now) (a.from + 4 - l.at) l.value (omega arith) ∙ rw e; inside = omega arith; onward = omega arith }
