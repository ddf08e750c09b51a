use Rattle.picture_labels.specs.Label.{number_size}
use Rattle.picture_labels.proofs.sizes.number_size.Goals as goal

pub returns : goal.returns
unfolding number_size
returns c = rw (← c.digits.ensures.0) c.min.ensures
