use Rattle.picture_view.specs.View.{style}
use Rattle.picture_view.proofs.head.put_style.Goals as goal

pub put_word-requires : goal.put_word-requires
unfolding style
put_word-requires c = c.requires

pub returns : goal.returns
unfolding style
returns c = c.put_word.ensures
