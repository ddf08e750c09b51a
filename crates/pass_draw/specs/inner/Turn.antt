-- What the program knows before it makes the tables of a pass.
use Rattle.std.specs.Prelude.{Bool, List, ◌++◌, ◌≡◌, ℕ, ◌+◌, length, ℤ}
use Rattle.plan.specs.Limits.{max_vertices, max_segments}
use Rattle.passes.specs.inner.Schedule.{pass_visits}
use Rattle.pass_tables.specs.inner.Moments.{Held, AtPass}
use Rattle.pass_neighbours.specs.inner.Order.{in_turn, Starts}

-- Tables for a pass over any plan, whatever they hold.
pub record Lent (first ends sums : List ℕ) : Type 0 where
  pub rows : length first ≡ max_vertices + 1
  pub others : length ends ≡ max_segments
  pub ratings : length sums ≡ max_segments + 1

-- What the passes have of a plan: of its levels the sizes, or where they start; which vertices are vias; the segments' ends and ratings.
pub record Graph : Type 0 where
  pub levels : List ℕ
  pub vias : List Bool
  pub uppers : List ℕ
  pub lowers : List ℕ
  pub ratings : List ℕ

abbrev pub graph : List ℕ → List Bool → List ℕ → List ℕ → List ℕ → Graph
graph levels vias uppers lowers ratings = record { levels = levels; vias = vias; uppers = uppers; lowers = lowers; ratings = ratings }

-- The visits of pass q come next; these are the plan's lists.
pub record TurnNext (q : ℕ) (h : Graph) (at : List ℤ) (apart : List ℕ) (marks : List Bool) (m : AtPass) : Type 0 where
  pub held : Held m.plan m.past (pass_visits m.plan q (in_turn q m.plan) ++ m.coming) at apart marks
  pub starts_are : Starts m.plan h.levels
  pub vias_are : h.vias ≡ m.plan.vias
  pub uppers_are : h.uppers ≡ m.plan.uppers
  pub lowers_are : h.lowers ≡ m.plan.lowers
  pub ratings_are : h.ratings ≡ m.plan.ratings
