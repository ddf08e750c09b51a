-- The list of placings as it lies in arrays: of each placing its pass, its level and how many boxes it has; the boxes of all
-- placings one after another, each with its vertex and its position after. Beyond the list everything is 0.
use Rattle.std.specs.Prelude.{List, map, ◌≡◌, ℕ, length, ℤ, pos}
use Rattle.passes.specs.Drawing.{BoxAt, Placing}
use Rattle.passes.specs.Words.{boxes_listed, max_listed}
use Rattle.passes.specs.Stored.{padded}

pub record Listing (list : List Placing) (passes levels counts vertices : List ℕ) (positions : List ℤ) : Type 0 where
  pub of_passes : passes ≡ padded max_listed 0 (map (λ (q : Placing). q.pass) list)
  pub of_levels : levels ≡ padded max_listed 0 (map (λ (q : Placing). q.level) list)
  pub of_counts : counts ≡ padded max_listed 0 (map (λ (q : Placing). length q.boxes) list)
  pub of_vertices : vertices ≡ padded max_listed 0 (map (λ (b : BoxAt). b.vertex) (boxes_listed list))
  pub of_positions : positions ≡ padded max_listed (pos 0) (map (λ (b : BoxAt). b.position) (boxes_listed list))

-- These arrays.
pub record Columns : Type 0 where
  pub passes : List ℕ
  pub levels : List ℕ
  pub sizes : List ℕ
  pub vertices : List ℕ
  pub positions : List ℤ

abbrev pub columns : List ℕ → List ℕ → List ℕ → List ℕ → List ℤ → Columns
columns passes levels sizes vertices positions = record {
  passes = passes;
  levels = levels;
  sizes = sizes;
  vertices = vertices;
  positions = positions;
}

abbrev pub Lies : List Placing → Columns → Type 0
Lies list g = Listing list g.passes g.levels g.sizes g.vertices g.positions

-- A list of n placings with b boxes in all lies in them.
pub record Stored (n b : ℕ) (g : Columns) (list : List Placing) : Type 0 where
  pub lists : Lies list g
  pub placings : n ≡ length list
  pub boxes : b ≡ length (boxes_listed list)
