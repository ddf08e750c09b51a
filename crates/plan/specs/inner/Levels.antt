-- Levels as stretches of vertex numbers: level l begins at vertex `first_on` and has `size_on` vertices.
use Rattle.std.specs.Prelude.{ℕ, ◌+◌, ◌-◌, ◌≤◌, ◌<◌, length, get_or, take}
use Rattle.ints.specs.Lists.{sum}
use Rattle.plan.specs.Plan.{PlanData, level_of}

unfoldable pub first_on : PlanData → ℕ → ℕ
first_on p l = sum (take (l - 1) p.sizes)

unfoldable pub size_on : PlanData → ℕ → ℕ
size_on p l = get_or p.sizes (l - 1) 0

pub record On (p : PlanData) (l v : ℕ) : Type 0 where
  pub from : first_on p l ≤ v
  pub to : v < first_on p l + size_on p l

pub record HasLevel (p : PlanData) (v : ℕ) : Type 0 where
  pub one : 1 ≤ level_of p v
  pub many : level_of p v ≤ length p.sizes
  pub on : On p (level_of p v) v
