-- What placing a run by halves, in run coordinates, asks and gives.
use Rattle.std.specs.Prelude.{◌≡◌, List, ℕ, ◌≤◌, length, ℤ}
use Rattle.ints.specs.Ints.{size}
use Rattle.run.specs.Run.{Bound as Limit, free, at, Box}
use Rattle.run.specs.inner.Bisection.{place_fast}
use Rattle.run.specs.Call.{boxes_from}
use Rattle.run_columns.specs.inner.Columns.{Small, max_size, Columns}
use Rattle.run.specs.inner.Limits.{HasPlace}
use Rattle.run.specs.inner.Coordinates.{in_run, add_offsets}
use Rattle.ints.specs.Lists.{sum}
use Rattle.run_columns.specs.inner.Offsets.{Near, OffsetsOf, max_offset}
use Rattle.run_columns.specs.inner.Sums.{SumsOf}

abbrev pub SmallLimit : Limit → Type 0
SmallLimit free = Unit {0}
SmallLimit (at x) = size x ≤ max_size

-- The answer is that of the definition, whatever the distances ds (in run coordinates they are of no account), and small.
-- The number f is at least the number of boxes.
pub record Placed (L H : Limit) (old : List ℤ) (cs : List ℕ) (ns : List ℤ) (ws : List ℕ) (zs : List ℤ) : Type 0 where
  pub answer : (ds : List ℕ) (f : ℕ) → length old ≤ f → zs ≡ place_fast L H f (boxes_from old ds cs ns ws)
  pub small : Small zs

-- What placing by halves asks: columns that fit each other and the answer, an offset for each box, positions within reach, and the
-- ratings as sums so far.
pub record Given (L H : Limit) (old : List ℤ) (os cs : List ℕ) (ns : List ℤ) (ss : List ℕ) (zs : List ℤ) : Type 0 where
  pub columns : Columns old cs ns
  pub offsets : OffsetsOf os old
  pub answer : length zs ≡ length old
  pub left : SmallLimit L
  pub right : SmallLimit H
  pub place : HasPlace L H
  pub olds : Near old
  pub nears : Near ns
  pub sums : SumsOf ss ns

-- What placing between limits asks.
pub record Fits (L H : Limit) (ds : List ℕ) (old : List ℤ) (cs : List ℕ) (ns : List ℤ) (ss : List ℕ) (zs : List ℤ) : Type 0 where
  pub columns : Columns old cs ns
  pub answer : length zs ≡ length old
  pub left : SmallLimit L
  pub right : SmallLimit H
  pub place : HasPlace L H
  pub olds : Near old
  pub nears : Near ns
  pub sums : SumsOf ss ns
  pub offsets : sum ds ≤ max_offset

-- Boxes placed between two limits: into run coordinates, by halves, and back.
abbrev pub placed_between : Limit → Limit → List Box → List ℤ
placed_between L H bs = add_offsets 0 bs (place_fast L H (length bs) (in_run 0 bs))
