use Rattle.std.proofs.Common.{sym, ◌∙◌}
use Rattle.report_validity.proofs.Limits.{stored-levels, stored-vertices, stored-segments, stored_is}
use Rattle.report_validity.proofs.decision.is_plan_of_text.Goals as goal

pub returns-then-k-gt-MAX_LEVELS : goal.returns-then-k-gt-MAX_LEVELS
returns-then-k-gt-MAX_LEVELS c = sym (stored-levels _ _ _ c.if-k-gt-MAX_LEVELS.true)

pub returns-then-vertices-gt-MAX_VERTICES : goal.returns-then-vertices-gt-MAX_VERTICES
returns-then-vertices-gt-MAX_VERTICES c = sym (stored-vertices _ _ _ c.if-vertices-gt-MAX_VERTICES.true)

pub returns-then-segments-gt-MAX_SEGMENTS : goal.returns-then-segments-gt-MAX_SEGMENTS
returns-then-segments-gt-MAX_SEGMENTS c = sym (stored-segments _ _ _ c.if-segments-gt-MAX_SEGMENTS.true)

pub returns : goal.returns
returns c = c.is_acceptable.ensures ∙ sym (stored_is c.args.plan c.args.vertices c.args.segments c.if-vertices-gt-MAX_VERTICES.false c.if-segments-gt-MAX_SEGMENTS.false)
