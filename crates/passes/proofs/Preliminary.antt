-- What the passes ask of the preliminary positions.
use mathlib.Core.Path.{◌≡◌}
use mathlib.Core.List.{Memᴰ}
use Prim.Native.Nat.{ℕ, ◌+◌, ◌*◌, ◌^◌, ◌≤◌, ◌<◌}
use lib.ListN.{length}
use Rattle.ints.specs.Ints.{P, N, size}
use Rattle.plan.specs.Plan.{PlanData, vertex_count, distance, levels_of, Siblings, siblings_of}
use Rattle.plan.specs.Segments.{Segment, inner_segments}
use Rattle.preliminary.specs.Positions.{preliminary}
use Rattle.passes.specs.State.{position_of}

pub record Preliminary (p : PlanData) : Type 0 where
  pub long : length (preliminary p) ≡ vertex_count p
  pub apart : (s : Siblings) → Memᴰ s (siblings_of (levels_of p))
      → P (position_of (preliminary p) s.left) + N (position_of (preliminary p) s.right) + 2 * distance p s.left s.right
      ≤ P (position_of (preliminary p) s.right) + N (position_of (preliminary p) s.left)
  pub upright : (s : Segment) → Memᴰ s (inner_segments p) → position_of (preliminary p) s.upper ≡ position_of (preliminary p) s.lower
  pub small : (v : ℕ) → v < vertex_count p → size (position_of (preliminary p) v) < 2 ^ 26
