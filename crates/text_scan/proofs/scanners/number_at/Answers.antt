-- `text_scan::scanners::number_at` meets its contract: by the cases of `number`: no digit, 0, or a first digit and at most four more.
use mathlib.Core.Path.{◌≡◌, sym, ◌∙◌}
use mathlib.Core.Bool.{true, false}
use native.Mathlib.Omega.{arith}
use Rattle.text.specs.Parser.{is_digit}
use Rattle.text.proofs.Numbers.{digit-within, number-none, number-zero, number_more}
use Rattle.text.proofs.Words.{never}
use Rattle.text_scan.proofs.scanners.number_at.Goals as goal

pub returns-then-not-is_digit : goal.returns-then-not-is_digit
returns-then-not-is_digit c =
    let a = c.args in
    let d : is_digit c.byte_at-b.result ≡ false = sym c.is_digit.ensures ∙ c.if-not-is_digit.true in
    record { gives = number-none a.text.now a.at _ c.byte_at-b.ensures d; inside = c.requires; onward = never }

pub returns-then-b-eq-ZERO : goal.returns-then-b-eq-ZERO
returns-then-b-eq-ZERO c =
    let a = c.args in
    let d : is_digit c.byte_at-b.result ≡ true = sym c.is_digit.ensures ∙ c.if-not-is_digit.false in
    let h = digit-within a.text.now a.at c.byte_at-b.result c.byte_at-b.ensures d in
    record { gives = number-zero a.text.now a.at _ c.byte_at-b.ensures d c.if-b-eq-ZERO.true; inside = omega arith; onward = λ e. omega arith }

pub returns : goal.returns
returns c =
    let a = c.args in
    let d : is_digit c.byte_at-b.result ≡ true = sym c.is_digit.ensures ∙ c.if-not-is_digit.false in
    let m = c.more_digits.ensures in
    record { gives = number_more a.text.now a.at _ c.byte_at-b.ensures d c.if-b-eq-ZERO.false ∙ rw (← c.from.ensures) m.gives; inside = m.inside; onward = λ e. omega arith }
