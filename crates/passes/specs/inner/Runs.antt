-- A run by the vertex numbers of its boxes.
use Rattle.std.specs.Prelude.{◌≡◌, true, false, cond, ℕ, zero, suc, ◌+◌, ◌-◌, ◌≤◌, ◌<◌, length}
use Rattle.std.proofs.Math.Option.{Option, none, some}
use Rattle.ints.specs.Lists.{sum}
use Rattle.plan.specs.Plan.{PlanData, is_via, numbers}
use Rattle.plan.specs.inner.Levels.{first_on, size_on}
use Rattle.passes.specs.Runs.{Run, runs_on, run_at}

-- the n vertices from v on are boxes
abbrev pub Boxes : PlanData → ℕ → ℕ → Type 0
Boxes p v n = (w : ℕ) → v ≤ w → w < v + n → is_via p w ≡ false

-- The end of a run: no via, and there the level ends; or a via. The first box, were there one, is `first`; the first member `low`.
pub data LeftEnd (p : PlanData) (begin : ℕ) : Option ℕ → ℕ → ℕ → Type 0 where
  no-left : {low first : ℕ} → low ≡ first → first ≡ begin → LeftEnd p begin none low first
  via-left : {v low first : ℕ} → v ≡ low → suc v ≡ first → begin ≤ v → is_via p v ≡ true → LeftEnd p begin (some v) low first

-- One past the last box is `past`, one past the last member `high`.
pub data RightEnd (p : PlanData) (end : ℕ) : Option ℕ → ℕ → ℕ → Type 0 where
  no-right : {past high : ℕ} → high ≡ past → past ≡ end → RightEnd p end none past high
  via-right : {v past high : ℕ} → v ≡ past → suc v ≡ high → v < end → is_via p v ≡ true → RightEnd p end (some v) past high

unfoldable pub vias_in : PlanData → ℕ → ℕ → ℕ
vias_in p v zero = 0
vias_in p v (suc n) = vias_in p v n + cond (is_via p (v + n)) 1 0

pub record IsRun (p : PlanData) (r : Run) : Type 0 where
  pub low : ℕ
  pub first : ℕ
  pub count : ℕ
  pub high : ℕ
  pub begins : LeftEnd p (first_on p r.level) r.left low first
  pub boxes : r.boxes ≡ numbers first count
  pub ends : RightEnd p (first_on p r.level + size_on p r.level) r.right (first + count) high
  pub plain : Boxes p first count
  pub one : 1 ≤ r.level
  pub many : r.level ≤ p.levels
  pub few : r.ordinal < length (runs_on p r.level)
  pub place : r.ordinal ≡ vias_in p (first_on p r.level) (first - first_on p r.level)
  pub told : run_at p r.level r.ordinal ≡ r

-- where its members lie
pub record Bounds (p : PlanData) (r : Run) (low first count high : ℕ) : Type 0 where
  pub from : first_on p r.level ≤ low
  pub left : low ≤ first
  pub left1 : first ≤ suc low
  pub right : first + count ≤ high
  pub right1 : high ≤ suc (first + count)
  pub to : high ≤ first_on p r.level + size_on p r.level
  pub all : high ≤ sum p.sizes
