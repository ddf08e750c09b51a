use mathlib.Core.Path.{refl}
use Rattle.ints.proofs.Laws.{back}
use Rattle.marks.specs.Half.{point5, half_of, whole_of}
use Rattle.marks.proofs.Exact.{point-exact}
use Rattle.marks.proofs.types.Point.new.Goals as goal

pub returns : goal.returns
unfolding half_of whole_of point5
returns c =
    simp (back c.ranges.x) (record { is = refl; exact = point-exact c.args.x c.args.y c.requires.0 c.requires.1 })
