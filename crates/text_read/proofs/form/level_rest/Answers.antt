-- `text_read::form::level_rest` meets its contract: by the cases of `level_rest`: no vertex, no end of the line, or a line.
use mathlib.Core.Path.{◌≡◌, sym, ◌∙◌}
use mathlib.Core.Bool.{true, false}
use Prim.Native.Nat.{◌+◌}
use native.Mathlib.Omega.{arith}
use lib.ListN.{length, drop}
use Rattle.text_read.proofs.Levels.{rest-none, rest-open, rest-found, level-row}
use Rattle.text_scan.proofs.Lines.{has, has-not}
use Rattle.text_read.proofs.form.level_rest.Goals as goal

pub returns-then-row-eq0 : goal.returns-then-row-eq0
returns-then-row-eq0 c =
    let a = c.args in let v = c.vertices-row in
    let z : length v.ensures.vertices ≡ 0 = sym v.ensures.counted ∙ c.if-row-eq0.true in
    level-row a.text.now a.from a.first v.result a.vias.now a.halves.now _ _ v.ensures false _ v.result.next c.row_fits-fit.ensures
    (rest-none (length a.text.now) (drop a.from a.text.now) _ v.ensures.vertices v.ensures.gives z) v.ensures.inside (omega arith)

pub returns-then-not-word_at : goal.returns-then-not-word_at
returns-then-not-word_at c =
    let a = c.args in let v = c.vertices-row in
    level-row a.text.now a.from a.first v.result a.vias.now a.halves.now _ _ v.ensures false _ v.result.next c.row_fits-fit.ensures
    (rest-open (length a.text.now) (drop a.from a.text.now) _ v.ensures.vertices v.ensures.gives (has-not c.word_at.ensures c.if-not-word_at.true)) v.ensures.inside (omega arith)

pub returns : goal.returns
returns c =
    let a = c.args in let v = c.vertices-row in
    let t = c.if-not-word_at.false in
    level-row a.text.now a.from a.first v.result a.vias.now a.halves.now _ _ v.ensures true _ (v.result.next + 2) c.row_fits-fit.ensures
    (rest-found (length a.text.now) (drop a.from a.text.now) _ v.ensures.vertices _ v.ensures.gives (λ z. c.if-row-eq0.false (v.ensures.counted ∙ z)) (has c.word_at.ensures t)) (c.word_at.ensures.inside t) (omega arith)
