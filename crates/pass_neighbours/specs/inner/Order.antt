-- The order in which a pass comes to the levels, and where they stand.
use Rattle.std.specs.Prelude.{cond, List, reverse, ◌≡◌, ℕ, suc, ◌-◌, ◌≤◌, eqb, length, get_or}
use Rattle.plan.specs.Plan.{PlanData, numbers}
use Rattle.plan.specs.inner.Levels.{first_on}

-- The levels in the order of pass q: pass 2 goes up.
abbrev pub in_turn : ℕ → PlanData → List ℕ
in_turn q p = cond (eqb q 2) (reverse (numbers 1 p.levels)) (numbers 1 p.levels)

-- Of n levels, counted from 0, the k-th in that order.
abbrev pub turn_of : ℕ → ℕ → ℕ → ℕ
turn_of q k n = cond (eqb q 2) (n - 1 - k) k

-- Where each level starts, counted from 0, and where the last one ends.
pub record Starts (p : PlanData) (starts : List ℕ) : Type 0 where
  pub many : length starts ≡ suc p.levels
  pub each : (i : ℕ) → i ≤ p.levels → get_or starts i 0 ≡ first_on p (suc i)
