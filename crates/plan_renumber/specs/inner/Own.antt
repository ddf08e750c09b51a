-- What the program that tests remembered numbers asks, keeps and leaves.
use Rattle.std.specs.Prelude.{◌≡◌, Bool, true, false, cond, not, ◌&&◌, List, ℕ, ◌+◌, ◌<◌, ◌≤◌, ltb, eqb, length, get_or, drop}
use Rattle.ints.specs.Lists.{sum, count_of}
use Rattle.plan.specs.Plan.{PlanData, vertex_count}
use Rattle.plan.specs.Limits.{max_levels, max_vertices}
use Rattle.plan.specs.inner.Graph.{Levelled}
use Rattle.plan_renumber.specs.Renumber.{own_numbers}

-- Whether v is a vertex on level l that was not seen yet.
abbrev pub is_new : List ℕ → List Bool → ℕ → ℕ → Bool
is_new level seen l v = ltb v (length level) && eqb (get_or level v 0) l && not (get_or seen v false)

-- A list of levels, one of numbers and one of marks, as long as each other; no mark is set.
pub record Markable (level m : List ℕ) (seen : List Bool) : Type 0 where
  pub levels : length level ≡ length m
  pub long : length seen ≡ length m
  pub none : (v : ℕ) → get_or seen v false ≡ false

-- 1 for a mark that is set.
abbrev pub bit : Bool → ℕ
bit b = cond b 1 0

-- Numbers that stand on the levels of the first i places, none twice; the marks say which they are.
pub record Marked (level m : List ℕ) (seen : List Bool) (i : ℕ) : Type 0 where
  pub within : i ≤ length m
  pub long : length seen ≡ length m
  pub below : (j : ℕ) → j < i → get_or m j 0 < length m
  pub stays : (j : ℕ) → j < i → get_or level (get_or m j 0) 0 ≡ get_or level j 0
  pub counts : (v : ℕ) → v < length m → bit (get_or seen v false) + count_of v (drop i m) ≡ count_of v m

-- p has these level sizes, that add up, and as many vertices as there are numbers.
pub record Numbers (p : PlanData) (sizes m : List ℕ) : Type 0 where
  pub sizes_are : p.sizes ≡ sizes
  pub summed : sum sizes ≡ vertex_count p
  pub many : vertex_count p ≡ length m

-- Level sizes and numbers within the limits.
pub record FewNumbers (sizes m : List ℕ) : Type 0 where
  pub levels : length sizes ≤ max_levels
  pub vertices : length m ≤ max_vertices

-- What marking leaves: all marked, or numbers that are no plan's own.
pub record Marks (level m : List ℕ) (seen : List Bool) (r : Bool) : Type 0 where
  pub new : r ≡ true → Marked level m seen (length m)
  pub fails : r ≡ false → (p : PlanData) → Numbers p p.sizes m → Levelled p.sizes level → own_numbers p m ≡ false
