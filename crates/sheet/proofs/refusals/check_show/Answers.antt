-- By the stage.
use Rattle.ints.specs.Refusals.{first_refusal}
use Rattle.sheet.specs.inner.Refusals.{data_refusal, show_refusal}
use Rattle.sheet.proofs.refusals.check_show.Goals as goal

pub returns-in-Empty : goal.returns-in-Empty
unfolding show_refusal first_refusal
returns-in-Empty c = rw c.in-Empty.is

pub returns-in-Loaded : goal.returns-in-Loaded
unfolding show_refusal first_refusal
returns-in-Loaded c = rw c.in-Loaded.is

pub returns-in-Drawn : goal.returns-in-Drawn
unfolding show_refusal data_refusal first_refusal
returns-in-Drawn c = rw (c.check_data.ensures, c.counts_in.ensures, c.in-Drawn.is)
