-- `text_scan::scanners::segment_at` meets its contract: by the cases of `segment_line`.
use mathlib.Core.Path.{◌≡◌}
use mathlib.Core.Bool.{true}
use native.Mathlib.Omega.{arith}
use lib.ListN.{drop}
use Rattle.text_scan.specs.inner.Scanned.{rating_if}
use borrow.Author.Tests.{not-true, not-false}
use Rattle.text_scan.proofs.Lines.{has, has-not, found, found-not, segment-none, segment-not, segment-no-lower, segment-open, segment-found}
use Rattle.text.proofs.Words.{never}
use Rattle.text_scan.proofs.scanners.segment_at.Goals as goal

pub returns-then-not-word_at : goal.returns-then-not-word_at
returns-then-not-word_at c =
    let a = c.args in
    record { gives = segment-none (drop a.at a.text.now) (has-not c.word_at.ensures c.if-not-word_at.true); inside = c.requires; onward = never }

pub returns-then-not-a : goal.returns-then-not-a
returns-then-not-a c =
    let a = c.args in
    let opens = has c.word_at.ensures c.if-not-word_at.false in
    record { gives = segment-not (drop a.at a.text.now) _ opens (found-not c.number_then-a.ensures (not-true _ c.if-not-a.true)); inside = c.requires; onward = never }

pub returns-then-not-b : goal.returns-then-not-b
returns-then-not-b c =
    let a = c.args in
    let opens = has c.word_at.ensures c.if-not-word_at.false in
    let upper = found c.number_then-a.ensures (not-false _ c.if-not-a.false) in
    record { gives = segment-no-lower (drop a.at a.text.now) _ opens _ _ upper (found-not c.number_at-b.ensures (not-true _ c.if-not-b.true)); inside = c.requires; onward = never }

pub returns-then-not-word_at-2 : goal.returns-then-not-word_at-2
returns-then-not-word_at-2 c =
    let a = c.args in
    let w = c.rating_at-w in
    let opens = has c.word_at.ensures c.if-not-word_at.false in
    let upper = found c.number_then-a.ensures (not-false _ c.if-not-a.false) in
    let lower = found c.number_at-b.ensures (not-false _ c.if-not-b.false) in
    record {
      gives = segment-open (drop a.at a.text.now) _ opens _ _ upper _ _ _ _ lower w.ensures.gives (has-not c.word_at-2.ensures c.if-not-word_at-2.true);
      inside = c.requires;
      onward = never;
    }

pub returns : goal.returns
returns c =
    let a = c.args in
    let w = c.rating_at-w in
    let n = c.number_then-a in
    let m = c.number_at-b in
    let opens = has c.word_at.ensures c.if-not-word_at.false in
    let f : n.result.found ≡ true = (not-false _ c.if-not-a.false) in
    let g : m.result.found ≡ true = (not-false _ c.if-not-b.false) in
    let h = c.if-not-word_at-2.false in
    record {
      gives = segment-found (drop a.at a.text.now) _ opens n.result.value _ (found n.ensures f) m.result.value (rating_if w.result.found w.result.value) _ _ (found m.ensures g) w.ensures.gives _ (has c.word_at-2.ensures h);
      inside = c.word_at-2.ensures.inside h;
      onward = λ e. omega (arith, w.ensures.onward, m.ensures.onward g, n.ensures.onward f);
    }
