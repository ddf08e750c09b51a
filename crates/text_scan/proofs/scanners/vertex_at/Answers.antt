-- `text_scan::scanners::vertex_at` meets its contract: a box, or else a via, or neither.
use mathlib.Core.Path.{◌∙◌}
use native.Mathlib.Omega.{arith}
use lib.ListN.{drop}
use Rattle.text_scan.proofs.Lines.{has, has-not, found-not, via-none, via-found, vertex-via}
use Rattle.text.proofs.Words.{never}
use Rattle.text_scan.proofs.scanners.vertex_at.Goals as goal

pub returns-then-word_at : goal.returns-then-word_at
returns-then-word_at c =
    let a = c.args in let s = drop a.at a.text.now in
    record {
      gives = vertex-via s (found-not c.box_at-b.ensures c.if-b.false) ∙ via-found s _ (has c.word_at.ensures c.if-word_at.true);
      inside = c.word_at.ensures.inside c.if-word_at.true;
      onward = λ e. omega arith;
    }

pub returns : goal.returns
returns c =
    let a = c.args in let s = drop a.at a.text.now in
    record {
      gives = vertex-via s (found-not c.box_at-b.ensures c.if-b.false) ∙ via-none s (has-not c.word_at.ensures c.if-word_at.false);
      inside = c.requires;
      onward = never;
    }
