-- `text_scan::scanners::rating_at` meets its contract: no space, no number after it, or both.
use mathlib.Core.Path.{◌≡◌, ◌∙◌}
use mathlib.Core.Bool.{true}
use native.Mathlib.Omega.{arith}
use lib.ListN.{drop}
use Rattle.text_scan.proofs.Lines.{has, has-not, found, found-not, rating-none, rating-not, rating-found}
use Rattle.text_scan.proofs.scanners.rating_at.Goals as goal

pub returns-then-not-word_at : goal.returns-then-not-word_at
returns-then-not-word_at c =
    let a = c.args in
    record { gives = rating-none (drop a.at a.text.now) (has-not c.word_at.ensures c.if-not-word_at.true); inside = c.requires; onward = omega arith }

pub returns-then-w : goal.returns-then-w
returns-then-w c =
    let a = c.args in
    let n = c.number_at-w in
    let space = has c.word_at.ensures c.if-not-word_at.false in
    let f : n.result.found ≡ true = c.if-w.true in
    record {
      gives = rating-found (drop a.at a.text.now) _ space n.result.value _ (found n.ensures f) ∙ rw f;
      inside = n.ensures.inside;
      onward = omega (arith, n.ensures.onward f);
    }

pub returns-else-w : goal.returns-else-w
returns-else-w c =
    let a = c.args in
    let space = has c.word_at.ensures c.if-not-word_at.false in
    record { gives = rating-not (drop a.at a.text.now) _ space (found-not c.number_at-w.ensures c.if-w.false); inside = c.requires; onward = omega arith }
