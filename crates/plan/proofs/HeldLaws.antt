-- A plan by the lists that a program holds of it; its limits, if it passes the checks, said of them. Assumes nothing.
use mathlib.Core.Bool.{Bool, true}
use mathlib.Core.List.{List}
use mathlib.Core.Path.{◌≡◌, refl}
use Prim.Native.Nat.{ℕ, ◌<◌, ◌≤◌}
use lib.ListN.{length, get_or}
use Rattle.ints.specs.Lists.{sum}
use Rattle.plan.specs.Limits.{max_levels, max_gap, max_half_width, max_vertices, max_segments}
use Rattle.plan.specs.Plan.{PlanData, vertex_count, data_of}
use Rattle.plan.specs.inner.Graph.{Below}
use Rattle.plan.specs.Acceptable.{acceptable}
use Rattle.plan.specs.inner.Held.{held_plan, HoldsPlan}
use Rattle.plan.proofs.Sound.{sound}

-- ---- a plan by its lists
module _ {p : PlanData} {gap : ℕ} {sizes : List ℕ} {vias : List Bool} {halves uppers lowers ratings : List ℕ} where
  pub held-is : (spacing : ℕ) → HoldsPlan p gap sizes vias halves uppers lowers → p.spacing ≡ spacing → p.ratings ≡ ratings
      → p ≡ held_plan gap spacing sizes vias halves uppers lowers ratings
  held-is spacing l s r =
      λ i. data_of (l.levels_are i) (l.gap_is i) (s i) (l.sizes_are i) (l.vias_are i) (l.halves_are i) (l.uppers_are i) (l.lowers_are i) (r i)

pub holds-held : {gap spacing : ℕ} {sizes : List ℕ} {vias : List Bool} {halves uppers lowers ratings : List ℕ}
    → acceptable (held_plan gap spacing sizes vias halves uppers lowers ratings) ≡ true
    → HoldsPlan (held_plan gap spacing sizes vias halves uppers lowers ratings) gap sizes vias halves uppers lowers
holds-held ok = record { levels_are = refl; gap_is = refl; sizes_are = refl; vias_are = refl; halves_are = refl; uppers_are = refl; lowers_are = refl; ok = ok }

-- ---- limits
pub few_vertices : (p : PlanData) → acceptable p ≡ true → vertex_count p ≤ max_vertices
few_vertices p ok = (sound p ok).limits.vertices

pub record Bounds (gap : ℕ) (sizes : List ℕ) (vias : List Bool) (halves uppers lowers : List ℕ) : Type 0 where
  pub gaps : gap ≤ max_gap
  pub levels : length sizes ≤ max_levels
  pub vertices : sum sizes ≡ length vias
  pub few : length vias ≤ max_vertices
  pub boxes : length halves ≡ length vias
  pub within : (i : ℕ) → i < length halves → get_or halves i 0 ≤ max_half_width
  pub segments : length uppers ≤ max_segments
  pub ends : length uppers ≡ length lowers
  pub upper_ends : Below (length vias) uppers
  pub lower_ends : Below (length vias) lowers

pub bounds : (p : PlanData) → acceptable p ≡ true → Bounds p.gap p.sizes p.vias p.halves p.uppers p.lowers
bounds p q =
    let S = sound p q in
    let l = S.limits in
    record {
      gaps = l.gap_high;
      levels = l.lists.levels;
      vertices = l.sizes_sum;
      few = l.vertices;
      boxes = l.halves_long;
      within = λ i h. l.halves_high i;
      segments = l.segments;
      ends = l.lists.ends;
      upper_ends = S.ends.upper;
      lower_ends = S.ends.lower;
    }

pub held-bounds : (p : PlanData) (gap : ℕ) (sizes : List ℕ) (vias : List Bool) (halves uppers lowers : List ℕ)
    → HoldsPlan p gap sizes vias halves uppers lowers → Bounds gap sizes vias halves uppers lowers
held-bounds p gap sizes vias halves uppers lowers l =
    rw (l.gap_is, l.sizes_are, l.vias_are, l.halves_are, l.uppers_are, l.lowers_are) at (bounds p l.ok)
