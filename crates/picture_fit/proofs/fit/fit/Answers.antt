use Rattle.picture_fit.proofs.FitLaws.{fits_not, fits}
use Rattle.picture_fit.proofs.fit.fit.Goals as goal

pub returns-then-out-text : goal.returns-then-out-text
returns-then-out-text c = fits_not c.args.text.now c.args.out.now c.if-out-text.true

pub returns : goal.returns
returns c = fits c.if-out-text.false c.put_word.ensures
