-- Laws of lists that have the height of each vertex. Assumes nothing.
use mathlib.Core.Path.{◌≡◌}
use mathlib.Core.List.{List}
use Prim.Native.Nat.{ℕ, ◌≤◌}
use native.Mathlib.Omega.{arith}
use lib.ListN.{length}
use Rattle.plan.specs.Limits.{max_levels}
use Rattle.plan.specs.Plan.{level_of, height_of}
use Rattle.plan.specs.inner.Graph.{Levelled}
use Rattle.plan.proofs.LevelLaws.{level-low, level-most}
use Rattle.plan_checks.specs.inner.Heights.{HeightsOf, AreLevels, Raised}

module _ (spacing : ℕ) (sizes level : List ℕ) (t : Levelled sizes level) where
  pub are-levels : length sizes ≤ max_levels → AreLevels level
  are-levels few v h = rw (t.each v h) (level-low sizes v, omega (arith, level-most sizes v))

  pub heights-of : (heights : List ℕ) → length heights ≡ length level → Raised spacing level heights → HeightsOf spacing sizes heights
  unfolding level_of height_of
  heights-of heights e r = record { each = λ v h. rw (← t.each v (omega arith)) (r v h) }
