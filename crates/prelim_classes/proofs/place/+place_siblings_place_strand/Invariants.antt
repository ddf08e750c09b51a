-- The measures of placing: with each strand begun, twice the vertices not yet begun and the members still to ask fall.
use Rattle.std.proofs.Common.{◌+◌, ◌*◌, length}
use Rattle.prelim_classes.specs.inner.Links.{chain}
use Rattle.prelim_classes.specs.inner.Walks.{unbegun}
use Rattle.prelim_classes.proofs.place.+place_siblings_place_strand.Given as goal

abbrev pub decreases-place_siblings : goal.decreases-place_siblings
decreases-place_siblings l = 2 * unbegun l.begun.now + length (chain l.next.now l.w)

abbrev pub decreases-place_strand : goal.decreases-place_strand
decreases-place_strand l = 2 * unbegun l.begun.now
