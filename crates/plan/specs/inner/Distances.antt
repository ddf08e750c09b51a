-- The distance of siblings, by the lists that a program holds of a plan.
use Rattle.std.specs.Prelude.{List, ℕ, ◌+◌, ◌<◌, ◌≤◌, length, get_or}
use Rattle.plan.specs.Limits.{max_gap, max_half_width}

-- The distance of siblings u and v.
abbrev pub distance_by : ℕ → List ℕ → ℕ → ℕ → ℕ
distance_by gap halves u v = get_or halves u 0 + gap + get_or halves v 0

-- Gap and half-widths within their limits.
pub record Narrow (gap : ℕ) (halves : List ℕ) : Type 0 where
  pub gaps : gap ≤ max_gap
  pub within : (i : ℕ) → i < length halves → get_or halves i 0 ≤ max_half_width
