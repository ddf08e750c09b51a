-- `text_scan::scanners::number_then` meets its contract: by the cases of `number_then`: no number, no word after it, or both.
use mathlib.Core.Path.{◌≡◌, ◌∙◌}
use mathlib.Core.Bool.{true, false}
use native.Mathlib.Omega.{arith}
use lib.ListN.{drop}
use borrow.Author.Tests.{not-true, not-false}
use Rattle.text_scan.proofs.Lines.{has, has-not, found, found-not, then-none, then-not, then_found}
use Rattle.text.proofs.Words.{never}
use Rattle.text_scan.proofs.scanners.number_then.Goals as goal

pub returns-then-not-n : goal.returns-then-not-n
returns-then-not-n c =
    let a = c.args in let n = c.number_at-n in
    let e : n.result.found ≡ false = (not-true _ c.if-not-n.true) in
    record { gives = then-none a.word.now (drop a.at a.text.now) (found-not n.ensures e) ∙ rw e; inside = n.ensures.inside; onward = n.ensures.onward }

pub returns-then-not-word_at : goal.returns-then-not-word_at
returns-then-not-word_at c =
    let a = c.args in let n = c.number_at-n in
    let e : n.result.found ≡ true = (not-false _ c.if-not-n.false) in
    record { gives = then-not a.word.now (drop a.at a.text.now) _ _ (found n.ensures e) (has-not c.word_at.ensures c.if-not-word_at.true); inside = c.requires; onward = never }

pub returns : goal.returns
returns c =
    let a = c.args in let n = c.number_at-n in
    let e : n.result.found ≡ true = (not-false _ c.if-not-n.false) in
    let f = c.if-not-word_at.false in
    let up = n.ensures.onward e in
    record { gives = then_found a.word.now (drop a.at a.text.now) _ _ _ (found n.ensures e) (has c.word_at.ensures f); inside = c.word_at.ensures.inside f; onward = λ q. omega arith }
