-- The lists of a plan numbered anew, from what the program left of each. Assumes nothing.
use Prim.Native.Nat.{ℕ}
use mathlib.Core.Path.{◌≡◌, sym}
use mathlib.Core.Bool.{Bool, false}
use mathlib.Core.List.{List, map}
use lib.ListN.{get_or}
use Rattle.plan.specs.Plan.{PlanData}
use Rattle.plan.specs.Segments.{segments_of, rated_of}
use Rattle.plan_renumber.specs.Renumber.{moved_segments, renumbered}
use Rattle.plan_renumber.specs.inner.Words.{Moved, Lists}

module _ (m : List ℕ) (vias : List Bool) (halves uppers lowers ratings : List ℕ) where
  pub lists-anew : (vias' : List Bool) (halves' uppers' lowers' ratings' : List ℕ) → vias' ≡ map (λ v. get_or vias v false) m → halves' ≡ map (λ v. get_or halves v 0) m
      → Moved m uppers lowers ratings uppers' lowers' ratings' → (p : PlanData) → Lists p vias halves uppers lowers ratings → Lists (renumbered p m) vias' halves' uppers' lowers' ratings'
  unfolding renumbered moved_segments segments_of rated_of
  lists-anew vias' halves' uppers' lowers' ratings' v h s p l = record {
    vias_are = rw l.vias_are (sym v);
    halves_are = rw l.halves_are (sym h);
    uppers_are = rw (l.uppers_are, l.lowers_are, l.ratings_are) (sym s.upper);
    lowers_are = rw (l.uppers_are, l.lowers_are, l.ratings_are) (sym s.lower);
    ratings_are = rw (l.uppers_are, l.lowers_are, l.ratings_are) (sym s.rating);
  }
