-- A tangled plan's data at the front of arrays, and what untangling them and reading them leaves.
use Rattle.std.specs.Prelude.{◌≡◌, Bool, List, ℕ, ◌≤◌, length, take, Result, Ok, Err}
use Rattle.ints.specs.Lists.{over}
use Rattle.ints.specs.Refusals.{number_of}
use Rattle.ints.specs.declared.refusal.Refusal.{Refusal}
use Rattle.plan.specs.Plan.{PlanData}
use Rattle.plan_untangle.specs.Order.{order, untangled}
use Rattle.plan_untangle.specs.inner.Ordering.{Tangled}
use Rattle.text.specs.Reading.{accepted, refused, tangled_reading}
use Rattle.text_read.specs.inner.Filled.{Kept}
use Rattle.text_read.specs.inner.Taken.{InFronts}
use Rattle.text_read.specs.declared.form.Scanned.{Scanned}

-- The fronts of the arrays are the lists of p, which passes all checks but 6, and there is room for its numbers.
pub record TangledIn (p : PlanData) (r : Scanned) (sizes : List ℕ) (vias : List Bool) (halves uppers lowers ratings numbers : List ℕ) : Type 0 where
  pub lists : Tangled p (take r.levels sizes) (take r.vertices vias) (take r.segments uppers) (take r.segments lowers)
  pub halves_are : p.halves ≡ take r.vertices halves
  pub ratings_are : p.ratings ≡ take r.segments ratings
  pub sizes_reach : r.levels ≤ length sizes
  pub vias_reach : r.vertices ≤ length vias
  pub halves_reach : r.vertices ≤ length halves
  pub uppers_reach : r.segments ≤ length uppers
  pub lowers_reach : r.segments ≤ length lowers
  pub ratings_reach : r.segments ≤ length ratings
  pub numbers_reach : r.vertices ≤ length numbers

-- There is such a plan.
pub record SomeTangledIn (r : Scanned) (sizes : List ℕ) (vias : List Bool) (halves uppers lowers ratings numbers : List ℕ) : Type 0 where
  pub plan : PlanData
  pub fronts : TangledIn plan r sizes vias halves uppers lowers ratings numbers

-- A list of n elements was written over the front of an array.
pub record Front {A : Type 0} (xs : List A) (n : ℕ) (o o' : List A) : Type 0 where
  pub long : n ≡ length xs
  pub written : o' ≡ over xs o

-- The lists of the untangled plan, and the number in the text of each of its vertices, were.
pub record UntangledIn (p : PlanData) (r : Scanned) (vias : List Bool) (halves uppers lowers ratings numbers : List ℕ)
    (vias' : List Bool) (halves' uppers' lowers' ratings' numbers' : List ℕ) : Type 0 where
  pub vias-put : Front (untangled p).vias r.vertices vias vias'
  pub halves-put : Front (untangled p).halves r.vertices halves halves'
  pub uppers-put : Front (untangled p).uppers r.segments uppers uppers'
  pub lowers-put : Front (untangled p).lowers r.segments lowers lowers'
  pub ratings-put : Front (untangled p).ratings r.segments ratings ratings'
  pub numbers-put : Front (order p) r.vertices numbers numbers'

-- The text is accepted, and the data of its untangled plan are in the arrays.
pub record AcceptsTangled (s : List ℕ) (r : Scanned) (sizes : List ℕ) (vias : List Bool) (halves uppers lowers ratings numbers : List ℕ)
    (sizes' : List ℕ) (vias' : List Bool) (halves' uppers' lowers' ratings' numbers' : List ℕ) : Type 0 where
  pub plan : PlanData
  pub reads : tangled_reading s ≡ accepted plan
  pub kept : Kept (untangled plan) r sizes vias halves uppers lowers ratings sizes' vias' halves' uppers' lowers' ratings'
  pub numbered : numbers' ≡ over (order plan) numbers
  pub fronts : InFronts (untangled plan) r sizes' vias' halves' uppers' lowers' ratings'

-- Refused by the first of checks 1 to 5 that fails, or accepted.
abbrev pub FindsTangled : List ℕ → Result Scanned Refusal → (sizes : List ℕ) (vias : List Bool) (halves uppers lowers ratings numbers : List ℕ)
    (sizes' : List ℕ) (vias' : List Bool) (halves' uppers' lowers' ratings' numbers' : List ℕ) → Type 0
FindsTangled s (Ok f) sizes vias halves uppers lowers ratings numbers sizes' vias' halves' uppers' lowers' ratings' numbers' =
    AcceptsTangled s f sizes vias halves uppers lowers ratings numbers sizes' vias' halves' uppers' lowers' ratings' numbers'
FindsTangled s (Err x) sizes vias halves uppers lowers ratings numbers sizes' vias' halves' uppers' lowers' ratings' numbers' =
    tangled_reading s ≡ refused (number_of x)
