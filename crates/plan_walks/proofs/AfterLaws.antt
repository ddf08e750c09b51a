-- Laws of lists of segments, as a loop over the segments meets them: the first i are behind. Assumes nothing.
use Prim.Native.Nat.{ℕ, ◌+◌, ◌<◌, ◌≤◌}
use mathlib.Core.Path.{◌≡◌}
use mathlib.Core.List.{List, [], ◌∷◌}
use native.Mathlib.Omega.{arith}
use native.Mathlib.Numerals.{add-one}
use lib.ListN.{length, get_or, drop_of_length-le}
use lib.Seq.{drop-cons}
use Rattle.plan.specs.Segments.{segments_from}
use Rattle.plan.specs.inner.Graph.{segment}
use Rattle.plan_walks.specs.inner.Walks.{after}

module _ («as» bs : List ℕ) (i : ℕ) where
  pub after-all : length «as» ≤ i → after «as» bs i ≡ []
  unfolding segments_from
  after-all h = rw (drop_of_length-le «as» h)

  pub after_one : i < length «as» → length «as» ≡ length bs → after «as» bs i ≡ segment (get_or «as» i 0) (get_or bs i 0) ∷ after «as» bs (i + 1)
  unfolding segments_from
  after_one h e = let k : i < length bs = omega arith in rw (add-one, drop-cons «as» i 0 h, drop-cons bs i 0 k)
