-- `text_scan::scanners::box_at` meets its contract: by the cases of `box`.
use native.Mathlib.Omega.{arith}
use lib.ListN.{drop}
use Rattle.text_scan.proofs.Lines.{has, has-not, box-none, box-gives}
use Rattle.text.proofs.Words.{never}
use Rattle.text_scan.proofs.scanners.box_at.Goals as goal

pub returns-then-not-word_at : goal.returns-then-not-word_at
returns-then-not-word_at c =
    let a = c.args in
    record { gives = box-none (drop a.at a.text.now) (has-not c.word_at.ensures c.if-not-word_at.true); inside = c.requires; onward = never }

pub returns : goal.returns
returns c =
    let a = c.args in let n = c.number_then-n in
    record {
      gives = box-gives (drop a.at a.text.now) n.result.found n.result.value _ _ (has c.word_at.ensures c.if-not-word_at.false) n.ensures.gives;
      inside = n.ensures.inside;
      onward = λ e. omega (arith, n.ensures.onward e);
    }
