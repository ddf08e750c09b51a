-- A plan as it is stored, and the data that it holds. The stage says how many vertices and segments there are; what lies
-- beyond them, and beyond the first K level sizes, is no part of the plan.
use Rattle.std.specs.Prelude.{Bool, false, List, ℕ, take, replicate}
use Rattle.plan.specs.declared.data.Plan.{Plan}
use Rattle.plan.specs.Limits.{max_levels, max_vertices, max_segments}
use Rattle.plan.specs.Plan.{PlanData, data_of}

-- The data of a stored plan with v vertices and e segments.
abbrev pub plan_data : Plan → ℕ → ℕ → PlanData
plan_data p v e =
    data_of p.levels p.gap p.spacing
    (take p.levels p.sizes) (take v p.vias) (take v p.halves) (take e p.uppers) (take e p.lowers)
    (take e p.ratings)

-- The stored plan with these parts.
abbrev pub stored_plan : ℕ → ℕ → ℕ → List ℕ → List Bool → List ℕ → List ℕ → List ℕ → List ℕ → Plan
stored_plan levels gap spacing sizes vias halves uppers lowers ratings = record {
  levels = levels;
  gap = gap;
  spacing = spacing;
  sizes = sizes;
  vias = vias;
  halves = halves;
  uppers = uppers;
  lowers = lowers;
  ratings = ratings;
}

-- The stored plan that is 0 throughout.
unfoldable pub empty_plan : Plan
empty_plan =
    stored_plan 0 0 0 (replicate max_levels 0) (replicate max_vertices false) (replicate max_vertices 0) (replicate max_segments 0)
    (replicate max_segments 0) (replicate max_segments 0)
