use Rattle.std.proofs.Common.{◌+◌, ◌-◌, ◌≤◌, length, sym, ◌∙◌, arith}
use borrow.Author.Tests.{eqb-true, eqb-false}
use Rattle.report_validity.proofs.Walks.{next-within}
use Rattle.report_validity.proofs.Whole.{whole-within}
use Rattle.report_validity.proofs.RunTests.{no-boxes, no-level, past-levels, not-whole, whole_is}
use Rattle.report_validity.proofs.runs.is_run.Goals as goal

pub returns-then-is_empty : goal.returns-then-is_empty
returns-then-is_empty c = λ p o. sym (no-boxes o c.args.level c.args.boxes.now (eqb-true _ _ (sym c.is_empty.ensures ∙ c.if-is_empty.true)))

pub returns-then-level-eq0 : goal.returns-then-level-eq0
returns-then-level-eq0 c = λ p o. sym (no-level o c.args.level c.args.boxes.now c.if-level-eq0.true)

pub returns-then-sizes-level : goal.returns-then-sizes-level
returns-then-sizes-level c = λ p o. sym (past-levels o c.args.level c.args.boxes.now c.if-sizes-level.true)

pub overflow_add-to : goal.overflow_add-to
overflow_add-to c = omega (arith, next-within c.args.sizes.now (c.args.level - 1) _ _ _ (omega arith) c.vertices_before-start.ensures c.from.ensures c.requires.total, c.requires.few)

pub is_whole-requires : goal.is_whole-requires
is_whole-requires c = next-within c.args.sizes.now (c.args.level - 1) _ _ _ (omega arith) c.vertices_before-start.ensures c.from.ensures c.requires.total

pub returns-then-not-is_whole : goal.returns-then-not-is_whole
returns-then-not-is_whole c =
    let start = c.vertices_before-start in
    let first = c.from-first in
    λ p o. sym (not-whole o c.args.level c.args.boxes.now start.result (start.result + c.from.result) first.result start.ensures (omega (arith, c.from.ensures)) first.ensures
    (sym c.is_whole.ensures ∙ c.if-not-is_whole.true))

pub is_stretch-requires : goal.is_stretch-requires
is_stretch-requires c =
    let start = c.vertices_before-start.result in
    omega (
      arith,
      whole-within c.args.vias.now start (start + c.from.result) c.from-first.result (length c.args.boxes.now) (sym c.is_whole.ensures ∙ c.if-not-is_whole.false),
      next-within c.args.sizes.now (c.args.level - 1) _ _ _ (omega arith) c.vertices_before-start.ensures c.from.ensures c.requires.total,
      c.requires.few,
    )

pub returns : goal.returns
returns c =
    let start = c.vertices_before-start in
    let first = c.from-first in
    let n : 1 ≤ length c.args.boxes.now = omega (arith, eqb-false _ _ (sym c.is_empty.ensures ∙ c.if-is_empty.false)) in
    λ p o. c.is_stretch.ensures
    ∙ whole_is o c.args.level c.args.boxes.now start.result (start.result + c.from.result) first.result start.ensures (omega (arith, c.from.ensures)) first.ensures
    (omega arith) (omega arith) n (sym c.is_whole.ensures ∙ c.if-not-is_whole.false)
