-- By the stage.
use Rattle.std.proofs.Common.{inl, inr}
use Rattle.ints.specs.Refusals.{first_refusal}
use Rattle.sheet.specs.inner.Refusals.{plan_refusal, draw_refusal}
use Rattle.sheet.proofs.refusals.check_draw.Goals as goal

pub returns-in-Empty : goal.returns-in-Empty
unfolding draw_refusal first_refusal
returns-in-Empty c = rw c.in-Empty.is

pub returns-in-Loaded : goal.returns-in-Loaded
unfolding draw_refusal plan_refusal first_refusal
returns-in-Loaded c = elim c.in-Loaded.is [
  | inl w ↦ rw (c.check_plan.ensures, c.counts_in.ensures, w.2)
  | inr w ↦ rw (c.check_plan.ensures, c.counts_in.ensures, w.3)
]
