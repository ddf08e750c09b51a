-- What it takes to add a placing to a list in arrays.
use Rattle.std.specs.Prelude.{List, ◌≡◌, ℕ, ◌+◌, ◌-◌, ◌<◌, ◌≤◌, length, ℤ}
use Rattle.plan.specs.Plan.{numbers}
use Rattle.passes.specs.State.{position_of}
use Rattle.passes.specs.Drawing.{BoxAt, Placing, boxes_with}
use Rattle.passes.specs.Words.{max_listed}
use Rattle.pass_tables.specs.inner.Tables.{along}
use Rattle.pass_list.specs.inner.Listing.{Columns}

-- The boxes from `from` up to `end`, where they stand,
abbrev pub boxes_from : ℕ → ℕ → List ℤ → List BoxAt
boxes_from from end at = boxes_with (numbers from (end - from)) (along (position_of at) from (end - from))

-- and their placing in pass q on level l.
abbrev pub placing_of : ℕ → ℕ → ℕ → ℕ → List ℤ → Placing
placing_of q l from end at = record { pass = q; level = l; boxes = boxes_from from end at }

-- The arrays of a list, in their length.
pub record Arrays (g : Columns) : Type 0 where
  pub of_passes : length g.passes ≡ max_listed
  pub of_levels : length g.levels ≡ max_listed
  pub of_counts : length g.sizes ≡ max_listed
  pub of_vertices : length g.vertices ≡ max_listed
  pub of_positions : length g.positions ≡ max_listed

-- Boxes from `from` up to `end`, of `all` vertices, fit a list of n placings with b boxes.
pub record ListRoom (from end all n b : ℕ) : Type 0 where
  pub order : from ≤ end
  pub within : end ≤ all
  pub few : end ≤ 1024
  pub placings : n < max_listed
  pub boxes : b + (end - from) ≤ max_listed
