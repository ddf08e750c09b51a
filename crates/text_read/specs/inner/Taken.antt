-- What reading a text into lent arrays asks and leaves.
use Rattle.std.specs.Prelude.{◌≡◌, Bool, cond, not, ◌&&◌, List, ℕ, ◌≤◌, eqb, length, take}
use Rattle.ints.specs.Refusals.{refused_by}
use Rattle.plan.specs.Plan.{PlanData}
use Rattle.plan.specs.Limits.{max_levels, max_vertices, max_segments}
use Rattle.plan.specs.inner.Held.{HoldsPlan}
use Rattle.text.specs.Reading.{accepted, refused, reading, tangled_reading}
use Rattle.text_read.specs.inner.Filled.{Kept}
use Rattle.text_read.specs.declared.form.Scanned.{Scanned}
use Rattle.text_read.specs.declared.Found.{Found}

-- The arrays have room for what the limits allow, and no more.
pub record Arrays (sizes : List ℕ) (vias : List Bool) (halves uppers lowers ratings : List ℕ) : Type 0 where
  pub sizes_long : length sizes ≡ max_levels
  pub vias_long : length vias ≡ max_vertices
  pub halves_long : length halves ≡ max_vertices
  pub uppers_long : length uppers ≡ max_segments
  pub lowers_long : length lowers ≡ max_segments
  pub ratings_long : length ratings ≡ max_segments

-- The fronts of the arrays are the lists of p, which passes the checks.
pub record InFronts (p : PlanData) (r : Scanned) (sizes : List ℕ) (vias : List Bool) (halves uppers lowers ratings : List ℕ) : Type 0 where
  pub lists : HoldsPlan p r.gap (take r.levels sizes) (take r.vertices vias) (take r.vertices halves) (take r.segments uppers) (take r.segments lowers)
  pub spaced : p.spacing ≡ r.spacing
  pub rated : p.ratings ≡ take r.segments ratings
  pub sizes_reach : r.levels ≤ length sizes
  pub vias_reach : r.vertices ≤ length vias
  pub halves_reach : r.vertices ≤ length halves
  pub uppers_reach : r.segments ≤ length uppers
  pub lowers_reach : r.segments ≤ length lowers
  pub ratings_reach : r.segments ≤ length ratings

-- The text is accepted, and its data are in the arrays.
pub record Accepts (s : List ℕ) (r : Scanned) (sizes : List ℕ) (vias : List Bool) (halves uppers lowers ratings : List ℕ)
    (sizes' : List ℕ) (vias' : List Bool) (halves' uppers' lowers' ratings' : List ℕ) : Type 0 where
  pub plan : PlanData
  pub reads : reading s ≡ accepted plan
  pub kept : Kept plan r sizes vias halves uppers lowers ratings sizes' vias' halves' uppers' lowers' ratings'
  pub fronts : InFronts plan r sizes' vias' halves' uppers' lowers' ratings'

-- Refused by the first check that fails, or accepted. What passes checks 1 to 5 is in the arrays, whether 6 refuses it or not.
pub record Finds (s : List ℕ) (r : Found) (sizes : List ℕ) (vias : List Bool) (halves uppers lowers ratings : List ℕ)
    (sizes' : List ℕ) (vias' : List Bool) (halves' uppers' lowers' ratings' : List ℕ) : Type 0 where
  pub refuses : (refused_by r.verdict ≡ 0 → ⊥) → reading s ≡ refused (refused_by r.verdict)
  pub accepts : refused_by r.verdict ≡ 0 → Accepts s r.scanned sizes vias halves uppers lowers ratings sizes' vias' halves' uppers' lowers' ratings'
  pub kept : (p : PlanData) → tangled_reading s ≡ accepted p
      → Kept p r.scanned sizes vias halves uppers lowers ratings sizes' vias' halves' uppers' lowers' ratings'

-- Whether the first way's number refuses the second way too: it is that of a check other than 6.
abbrev pub refuses_both : ℕ → Bool
refuses_both n = not (eqb n 0) && not (eqb n 6)

-- The number by which the second way refuses, from that of the first, 0 if it does not.
abbrev pub tangled_refusal : ℕ → ℕ
tangled_refusal n = cond (refuses_both n) n 0
