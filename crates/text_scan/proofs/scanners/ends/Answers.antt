-- `text_scan::scanners::ends` meets its contract: by whether the word stands there and whether the text ends after it.
use Rattle.std.proofs.Common.{◌+◌, arith, length}
use native.Mathlib.Decide.{ℕ_discrete}
use borrow.Author.Tests.{eq-eqb, ne_eqb}
use Rattle.text_scan.proofs.Lines.{end_is, end_more, has}
use Rattle.text_scan.proofs.scanners.ends.Goals as goal

pub returns : goal.returns
returns c =
    let a = c.args in
    let t = c.if-not-word_at.false in
    let e = has c.word_at.ensures t in
    let h = c.word_at.ensures.inside t in
    elim (ℕ_discrete (a.at + 6) (length a.text.now)) [ yes q ↦ rw (eq-eqb _ _ q) (end_is a.text.now a.at e q) | no q ↦ rw (ne_eqb _ _ q) (end_more a.text.now a.at e (omega arith)) ]
