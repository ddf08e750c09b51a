-- What the program that writes a whole picture asks of a plan's arrays, a drawing's positions and the places of names in their text.
use Rattle.std.specs.Prelude.{◌≡◌, true, List, map, ℕ, ◌≤◌, ◌<◌, length, get_or, ℤ}
use Rattle.ints.specs.Reach.{all_within}
use Rattle.plan.specs.Plan.{PlanData, numbers}
use Rattle.plan.specs.Acceptable.{acceptable}
use Rattle.picture_names.specs.inner.Indexed.{name_at}

-- The names of n vertices.
abbrev pub names_in : List ℕ → List ℕ → List ℕ → ℕ → List (List ℕ)
names_in text starts ends n = map (name_at text starts ends) (numbers 0 n)

-- n names that stand in a text.
pub record NamesAsked (text starts ends : List ℕ) (n : ℕ) : Type 0 where
  pub starts_long : n ≤ length starts
  pub ends_long : n ≤ length ends
  pub ordered : (v : ℕ) → v < n → get_or starts v 0 ≤ get_or ends v 0
  pub inside : (v : ℕ) → v < n → get_or ends v 0 ≤ length text

-- A plan and final positions of its vertices.
pub record DrawnPlan (p : PlanData) (xs : List ℤ) : Type 0 where
  pub plan : acceptable p ≡ true
  pub positions : length xs ≡ length p.vias
  pub within : all_within xs ≡ true

pub record PictureAsked (p : PlanData) (xs : List ℤ) (text starts ends : List ℕ) : Type 0 where
  pub drawn : DrawnPlan p xs
  pub names : NamesAsked text starts ends (length p.vias)

-- No picture of a plan with names of at most 65,536 bytes is longer.
abbrev pub max_picture : ℕ
max_picture = 1306334
