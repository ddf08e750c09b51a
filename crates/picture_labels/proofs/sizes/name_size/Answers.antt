use Rattle.picture_labels.specs.Label.{name_size}
use Rattle.picture_labels.proofs.sizes.name_size.Goals as goal

pub returns : goal.returns
unfolding name_size
returns c = rw (← c.asked.ensures.0) c.min.ensures
