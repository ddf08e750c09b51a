-- What untangling a plan's arrays asks and leaves.
use Rattle.std.specs.Prelude.{◌≡◌, Bool, List, ℕ, length}
use Rattle.plan.specs.Plan.{PlanData}
use Rattle.plan_renumber.specs.inner.Words.{EachRated, Lists}
use Rattle.plan_untangle.specs.Order.{order, untangled}
use Rattle.plan_untangle.specs.inner.Ordering.{Tables}

-- A half-width and a number for each vertex, a rating for each segment.
pub record Widths (vias : List Bool) (halves uppers ratings numbers : List ℕ) : Type 0 where
  pub halves_long : length halves ≡ length vias
  pub numbers_long : length numbers ≡ length vias
  pub rated : EachRated uppers ratings

-- Room for tables, keys and kinds besides.
pub record Rooms (vias : List Bool) (halves uppers ratings numbers turn upper places codes keys : List ℕ) (flags : List Bool) : Type 0 where
  pub tables : Tables vias numbers turn upper places codes
  pub halves_long : length halves ≡ length vias
  pub rated : EachRated uppers ratings
  pub keys_long : length keys ≡ length uppers
  pub flags_long : length flags ≡ length vias

-- Arrays that hold the untangled plan, and the number in the text of each of its vertices.
pub record Untangles (p : PlanData) (numbers : List ℕ) (vias : List Bool) (halves uppers lowers ratings : List ℕ) : Type 0 where
  pub numbers_are : numbers ≡ order p
  pub lists : Lists (untangled p) vias halves uppers lowers ratings
