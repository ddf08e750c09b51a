-- The order of a tangled plan in arrays: which plan the arrays hold, and the tables by which its levels are rearranged.
use Rattle.std.specs.Prelude.{◌≡◌, Bool, true, false, cond, ◌&&◌, List, ℕ, ◌<◌, ◌≤◌, length, get_or}
use Rattle.plan.specs.Plan.{PlanData, vertex_count, is_via, numbers, level_of}
use Rattle.plan.specs.Limits.{max_vertices}
use Rattle.plan.specs.Segments.{segments_from, above_in}
use Rattle.plan.specs.Strands.{first_or}
use Rattle.plan.specs.Checks.{check3, check4, check5}
use Rattle.plan.specs.Acceptable.{limits_hold}
use Rattle.plan.specs.inner.Graph.{Below}
use Rattle.plan_untangle.specs.Order.{upper_end}

-- p has these lists, whatever its gap, spacing, half-widths and ratings, and passes all checks but 6.
pub record Tangled (p : PlanData) (sizes : List ℕ) (vias : List Bool) (uppers lowers : List ℕ) : Type 0 where
  pub levels_are : p.levels ≡ length sizes
  pub sizes_are : p.sizes ≡ sizes
  pub vias_are : p.vias ≡ vias
  pub uppers_are : p.uppers ≡ uppers
  pub lowers_are : p.lowers ≡ lowers
  pub limits : limits_hold p ≡ true
  pub three : check3 p ≡ true
  pub four : check4 p ≡ true
  pub five : check5 p ≡ true

-- There is such a plan.
pub record SomeTangled (sizes : List ℕ) (vias : List Bool) (uppers lowers : List ℕ) : Type 0 where
  pub plan : PlanData
  pub lists : Tangled plan sizes vias uppers lowers

-- The vertices' own numbers, over which upper ends are written.
pub record Endable (uppers lowers upper : List ℕ) : Type 0 where
  pub few : length upper ≤ max_vertices
  pub own : upper ≡ numbers 0 (length upper)
  pub ends : length uppers ≡ length lowers
  pub upper_ends : Below (length upper) uppers
  pub lower_ends : Below (length upper) lowers

-- Of each vertex the upper end of its first segment up, its own number if it has none.
pub record Ended (uppers lowers upper : List ℕ) : Type 0 where
  pub each : (v : ℕ) → v < length upper → get_or upper v 0 ≡ first_or v (above_in (segments_from uppers lowers) v)

-- Lists as long as each other, upper ends within them.
pub record Turnable (vias : List Bool) (upper turn : List ℕ) : Type 0 where
  pub vias_long : length vias ≡ length turn
  pub uppers_long : length upper ≡ length turn
  pub ends : Below (length turn) upper

-- Of a via whose upper end is a via its level, of any other vertex 0.
pub record Turned (vias : List Bool) (upper level turn : List ℕ) : Type 0 where
  pub each : (v : ℕ) → v < length level → get_or turn v 0 ≡ cond (get_or vias v false && get_or vias (get_or upper v 0) false) (get_or level v 0) 0

-- The tables of p, and its vertices in the order of the text.
pub record Ordering (p : PlanData) (sizes turn upper order : List ℕ) : Type 0 where
  pub levels_are : p.levels ≡ length sizes
  pub sizes_are : p.sizes ≡ sizes
  pub limits : limits_hold p ≡ true
  pub three : check3 p ≡ true
  pub five : check5 p ≡ true
  pub start : order ≡ numbers 0 (vertex_count p)
  pub turns_long : length turn ≡ vertex_count p
  pub turns : (v : ℕ) → v < vertex_count p → get_or turn v 0 ≡ cond (is_via p v && is_via p (upper_end p v)) (level_of p v) 0
  pub uppers_long : length upper ≡ vertex_count p
  pub uppers : (v : ℕ) → v < vertex_count p → get_or upper v 0 ≡ upper_end p v

pub record SomeOrdering (sizes turn upper order : List ℕ) : Type 0 where
  pub plan : PlanData
  pub tables : Ordering plan sizes turn upper order

-- Room for the place of each vertex and for as many codes.
pub record ShareRoom (order places codes : List ℕ) : Type 0 where
  pub places_long : length places ≡ length order
  pub enough : length order ≤ length codes

-- Room for the order, for the tables, for places and codes.
pub record Tables (vias : List Bool) (order turn upper places codes : List ℕ) : Type 0 where
  pub order_long : length order ≡ length vias
  pub turns_long : length turn ≡ length vias
  pub uppers_long : length upper ≡ length vias
  pub places_long : length places ≡ length vias
  pub enough : length vias ≤ length codes
