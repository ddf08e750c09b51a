-- `text_scan::scanners::header_at` meets its contract: by the cases of `plan_line`.
use mathlib.Core.Path.{◌≡◌}
use mathlib.Core.Bool.{true}
use native.Mathlib.Omega.{arith}
use lib.ListN.{drop}
use borrow.Author.Tests.{not-true, not-false}
use Rattle.text_scan.proofs.Lines.{has, has-not, found, found-not, plan-none, plan-no-levels, plan-no-gap, plan-gives}
use Rattle.text.proofs.Words.{never}
use Rattle.text_scan.proofs.scanners.header_at.Goals as goal

pub returns-then-not-word_at : goal.returns-then-not-word_at
returns-then-not-word_at c =
    let a = c.args in
    record { gives = plan-none (drop a.at a.text.now) (has-not c.word_at.ensures c.if-not-word_at.true); inside = c.requires; onward = never }

pub returns-then-not-k : goal.returns-then-not-k
returns-then-not-k c =
    let a = c.args in
    record {
      gives = plan-no-levels (drop a.at a.text.now) _ (has c.word_at.ensures c.if-not-word_at.false) (found-not c.number_then-k.ensures (not-true _ c.if-not-k.true));
      inside = c.requires;
      onward = never;
    }

pub returns-then-not-g : goal.returns-then-not-g
returns-then-not-g c =
    let a = c.args in let k = c.number_then-k in
    record {
      gives = plan-no-gap (drop a.at a.text.now) _ (has c.word_at.ensures c.if-not-word_at.false) _ _ (found k.ensures (not-false _ c.if-not-k.false)) (found-not c.number_then-g.ensures (not-true _ c.if-not-g.true));
      inside = c.requires;
      onward = never;
    }

pub returns : goal.returns
returns c =
    let a = c.args in let k = c.number_then-k in let g = c.number_then-g in let s = c.number_then-s in
    let e : k.result.found ≡ true = (not-false _ c.if-not-k.false) in
    let f : g.result.found ≡ true = (not-false _ c.if-not-g.false) in
    record {
      gives = plan-gives (drop a.at a.text.now) _ (has c.word_at.ensures c.if-not-word_at.false) s.result.found k.result.value g.result.value s.result.value _ _ _ (found k.ensures e) (found g.ensures f) s.ensures.gives;
      inside = s.ensures.inside;
      onward = λ q. omega (arith, s.ensures.onward q, g.ensures.onward f, k.ensures.onward e);
    }
