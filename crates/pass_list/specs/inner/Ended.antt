-- What the program knows when a pass has ended, and what it then lists.
use Rattle.std.specs.Prelude.{Bool, true, false, cond, not, ◌&&◌, List, [], ◌∷◌, ◌++◌, ◌≡◌, ℕ, ◌+◌, ◌-◌, ◌<◌, ◌≤◌, eqb, ltb, length, get_or, ℤ}
use Rattle.std.proofs.Math.Option.{Option, none, some}
use Rattle.plan.specs.Plan.{PlanData, vertex_count}
use Rattle.plan.specs.Acceptable.{acceptable}
use Rattle.passes.specs.Runs.{Run, is_bounded, runs_on, runs_of_levels}
use Rattle.passes.specs.Drawing.{Placing, listed}
use Rattle.passes.specs.Words.{boxes_listed, max_listed}
use Rattle.plan.specs.inner.Levels.{first_on, size_on}
use Rattle.passes.specs.inner.Schedule.{Visit}
use Rattle.pass_tables.specs.inner.Moments.{state_after}
use Rattle.pass_list.specs.inner.Listing.{Columns, Stored}
use Rattle.pass_list.specs.inner.Added.{placing_of}
use Rattle.pass_neighbours.specs.inner.Order.{Starts, in_turn}
use Rattle.pass_list.specs.inner.PassList.{placing_at}

-- `had` marks the unsettled bounded runs before the pass, `marks` those after it, each at the via on the run's left.
abbrev pub mark_of : List Bool → Option ℕ → Bool
mark_of marks none = false
mark_of marks (some v) = get_or marks v false

abbrev pub is_placed : ℕ → List Bool → List Bool → Run → Bool
is_placed q had marks r = cond (is_bounded r) (mark_of had r.left && not (mark_of marks r.left)) (not (eqb q 3))

-- The same of a run by where it stands.
abbrev pub placed_by : ℕ → ℕ → ℕ → ℕ → ℕ → List Bool → List Bool → Bool
placed_by q start from end to had marks = cond (ltb start from && ltb end to) (get_or had (from - 1) false && not (get_or marks (from - 1) false)) (not (eqb q 3))

-- The placings of pass q among these runs, with their boxes where they stand in xs.
unfoldable pub list_of : ℕ → List Bool → List Bool → List ℤ → List Run → List Placing
list_of q had marks xs [] = []
list_of q had marks xs (r ∷ rs) = cond (is_placed q had marks r) (placing_at q xs r) [] ++ list_of q had marks xs rs

-- That of the boxes from `from` up to `end`, if the run is placed and has boxes.
abbrev pub placing_if : Bool → ℕ → ℕ → ℕ → ℕ → List ℤ → List Placing
placing_if placed q l from end at = cond (placed && ltb from end) (placing_of q l from end at ∷ []) []

-- These placings fit after n placings with b boxes.
pub record Fits (n b : ℕ) (more : List Placing) : Type 0 where
  pub placings : n + length more ≤ max_listed
  pub boxes : b + length (boxes_listed more) ≤ max_listed

-- What is lent when a pass has ended: which vertices are vias, the marks before it and after it, positions, and the list.
pub record Ending : Type 0 where
  pub vias : List Bool
  pub had : List Bool
  pub marks : List Bool
  pub at : List ℤ
  pub list : Columns

abbrev pub ending : List Bool → List Bool → List Bool → List ℤ → Columns → Ending
ending vias had marks at list = record { vias = vias; had = had; marks = marks; at = at; list = list }

-- Of the plan that is drawn, the placings listed before.
pub record AtEnd : Type 0 where
  pub plan : PlanData
  pub before : List Placing

-- Level l of plan p stands from `start` up to `to`; there is a mark and a position for every vertex.
pub record LevelEnd (p : PlanData) (l start to : ℕ) (vias had marks : List Bool) (at : List ℤ) : Type 0 where
  pub ok : acceptable p ≡ true
  pub kinds : vias ≡ p.vias
  pub one : 1 ≤ l
  pub many : l ≤ p.levels
  pub starts : start ≡ first_on p l
  pub stops : to ≡ first_on p l + size_on p l
  pub hads : vertex_count p ≤ length had
  pub marked : length marks ≡ vertex_count p
  pub standing : length at ≡ vertex_count p

-- It does, and what pass q placed on it is to be listed after n placings with b boxes.
pub record LevelEnding (q l start to n b : ℕ) (k : Ending) (m : AtEnd) : Type 0 where
  pub is : LevelEnd m.plan l start to k.vias k.had k.marks k.at
  pub stored : Stored n b k.list m.before
  pub fits : Fits n b (list_of q k.had k.marks k.at (runs_on m.plan l))

-- It is listed in these arrays, n placings with b boxes in all.
abbrev pub LevelListed : ℕ → ℕ → ℕ → ℕ → Ending → Columns → AtEnd → Type 0
LevelListed q l n b k g m = Stored n b g (m.before ++ list_of q k.had k.marks k.at (runs_on m.plan l))

-- A pass of plan p has ended; there is a mark and a position for every vertex.
pub record PassEnd (p : PlanData) (starts : List ℕ) (vias had marks : List Bool) (at : List ℤ) : Type 0 where
  pub ok : acceptable p ≡ true
  pub starts_are : Starts p starts
  pub kinds : vias ≡ p.vias
  pub hads : vertex_count p ≤ length had
  pub marked : length marks ≡ vertex_count p
  pub standing : length at ≡ vertex_count p

-- It has, and what pass q placed is to be listed after n placings with b boxes.
pub record PassEnding (q n b : ℕ) (starts : List ℕ) (k : Ending) (m : AtEnd) : Type 0 where
  pub is : PassEnd m.plan starts k.vias k.had k.marks k.at
  pub stored : Stored n b k.list m.before
  pub fits : Fits n b (list_of q k.had k.marks k.at (runs_of_levels m.plan (in_turn q m.plan)))

abbrev pub PassListed : ℕ → ℕ → ℕ → Ending → Columns → AtEnd → Type 0
PassListed q n b k g m = Stored n b g (m.before ++ list_of q k.had k.marks k.at (runs_of_levels m.plan (in_turn q m.plan)))

-- The list of the placings made so far: n placings with b boxes in all.
abbrev pub Written : PlanData → List Visit → ℕ → ℕ → Columns → Type 0
Written p past n b g = Stored n b g (listed p (state_after p past).trace)

-- The marks before a pass, kept in front of a longer list.
pub record Copied (marks had : List Bool) : Type 0 where
  pub each : (v : ℕ) → v < length marks → get_or had v false ≡ get_or marks v false
