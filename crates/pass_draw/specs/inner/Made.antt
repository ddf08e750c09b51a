-- What a draw of a plan's lists asks and what it leaves.
use Rattle.std.specs.Prelude.{Bool, List, ◌≡◌, ℕ, length, take, replicate, ℤ, pos}
use Rattle.plan.specs.Plan.{PlanData}
use Rattle.passes.specs.Drawing.{Drawing, drawing_of}
use Rattle.passes.specs.Words.{max_listed}
use Rattle.passes.specs.Stored.{placings_from}
use Rattle.passes.specs.Demand3.{Demand3}
use Rattle.plan.specs.inner.Held.{HoldsPlan}
use Rattle.pass_list.specs.inner.Listing.{Listing, columns}
use Rattle.pass_draw.specs.inner.Drawn.{Wanted, Unlisted}

-- p has these lists and ratings, whatever its spacing, and passes the checks.
pub record HoldsRated (p : PlanData) (gap : ℕ) (sizes : List ℕ) (vias : List Bool) (halves uppers lowers ratings : List ℕ) : Type 0 where
  pub lists : HoldsPlan p gap sizes vias halves uppers lowers
  pub ratings_are : p.ratings ≡ ratings

-- There is such a plan.
pub record SomeRated (gap : ℕ) (sizes : List ℕ) (vias : List Bool) (halves uppers lowers ratings : List ℕ) : Type 0 where
  pub plan : PlanData
  pub lists : HoldsRated plan gap sizes vias halves uppers lowers ratings

-- An acceptable plan's lists, room for its positions, and the arrays of an empty list of placings.
pub record Blank (gap : ℕ) (ns : List ℕ) (vias : List Bool) (halves uppers lowers ratings : List ℕ) (preliminary finals : List ℤ)
    (passes levels counts vertices : List ℕ) (positions : List ℤ) : Type 0 where
  pub some : SomeRated gap ns vias halves uppers lowers ratings
  pub preliminary_room : length preliminary ≡ length vias
  pub final_room : length finals ≡ length vias
  pub no_passes : passes ≡ replicate max_listed 0
  pub no_levels : levels ≡ replicate max_listed 0
  pub no_counts : counts ≡ replicate max_listed 0
  pub no_vertices : vertices ≡ replicate max_listed 0
  pub no_positions : positions ≡ replicate max_listed (pos 0)

-- The drawing that lies in these arrays, n placings being listed.
abbrev pub drawing_at : ℕ → List ℤ → List ℤ → List ℕ → List ℕ → List ℕ → List ℕ → List ℤ → Drawing
drawing_at n preliminary finals passes levels counts vertices positions = record {
  preliminary = preliminary;
  final = finals;
  placings = placings_from (take n passes) (take n levels) (take n counts) vertices positions;
}

-- The arrays hold the drawing of document 01's method, 0 beyond it, and demand 3 holds of it.
pub record Made (p : PlanData) (n : ℕ) (preliminary finals : List ℤ) (passes levels counts vertices : List ℕ) (positions : List ℤ) : Type 0 where
  pub started : preliminary ≡ (drawing_of p).preliminary
  pub ended : finals ≡ (drawing_of p).final
  pub list : Listing (drawing_of p).placings passes levels counts vertices positions
  pub placings : n ≡ length (drawing_of p).placings
  pub demand3 : Demand3 p (drawing_at n preliminary finals passes levels counts vertices positions)

-- The same where the list may not be wanted.
pub record BlankIfWanted (gap : ℕ) (ns : List ℕ) (vias : List Bool) (halves uppers lowers ratings : List ℕ) (preliminary finals : List ℤ)
    (passes levels counts vertices : List ℕ) (positions : List ℤ) : Type 0 where
  pub some : SomeRated gap ns vias halves uppers lowers ratings
  pub preliminary_room : length preliminary ≡ length vias
  pub final_room : length finals ≡ length vias
  pub no_list : Wanted (columns passes levels counts vertices positions) → Unlisted (columns passes levels counts vertices positions)

pub record MadeIfWanted (p : PlanData) (n : ℕ) (preliminary finals : List ℤ) (passes levels counts vertices : List ℕ) (positions : List ℤ) : Type 0 where
  pub started : preliminary ≡ (drawing_of p).preliminary
  pub ended : finals ≡ (drawing_of p).final
  pub made : Wanted (columns passes levels counts vertices positions) → Made p n preliminary finals passes levels counts vertices positions
