-- What the program of the passes holds between two visits, and what it knows of the run that it visits.
use Rattle.std.specs.Prelude.{Bool, true, false, not, List, [], ◌∷◌, ◌++◌, ◌≡◌, ℕ, suc, ◌+◌, ◌-◌, ◌<◌, ◌≤◌, length, get_or, ℤ}
use Rattle.std.proofs.Math.Option.{some}
use Rattle.plan.specs.Plan.{PlanData, vertex_count, level_of}
use Rattle.plan.specs.Acceptable.{acceptable}
use Rattle.ints.specs.Ratings.{all_ratings}
use Rattle.run_columns.specs.inner.Sums.{ratings_between}
use Rattle.plan.specs.inner.Graph.{Below}
use Rattle.passes.specs.Runs.{Run}
use Rattle.passes.specs.State.{State}
use Rattle.passes.specs.Ready.{is_settled, joined_via}
use Rattle.passes.specs.Passes.{is_due}
use Rattle.plan.specs.inner.Levels.{first_on, size_on, On}
use Rattle.passes.specs.inner.Runs.{IsRun}
use Rattle.passes.specs.inner.Schedule.{Visit, visit_all, schedule, start}
use Rattle.pass_tables.specs.inner.Tables.{Rows}
use Rattle.pass_tables.specs.inner.Joins.{Preceding, joined_at, last_in, first_in, marked_in}

-- There is something of which P holds.
pub record Some {A : Type 0} (P : A → Type 0) : Type 0 where
  pub it : A
  pub is : P it

-- Whatever P holds of, Q holds of.
abbrev pub Leaves : {A : Type 0} → (A → Type 0) → (A → Type 0) → Type 0
Leaves {A} P Q = (x : A) → P x → Q x

-- The state of the passes after some of their visits.
abbrev pub state_after : PlanData → List Visit → State
state_after p past = visit_all p past (start p)

-- A bounded run with via v on its left.
pub record BoundedAt (p : PlanData) (v : ℕ) : Type 0 where
  pub run : Run
  pub is : IsRun p run
  pub right : ℕ
  pub left_is : run.left ≡ some v
  pub right_is : run.right ≡ some right

-- The marks say which bounded runs are unsettled, each at the via on the run's left.
pub record Unsettled (p : PlanData) (s : State) (marks : List Bool) : Type 0 where
  pub each : (r : Run) → IsRun p r → (v w : ℕ) → r.left ≡ some v → r.right ≡ some w → get_or marks v false ≡ not (is_settled p s r)
  pub only : (v : ℕ) → get_or marks v false ≡ true → BoundedAt p v

-- These lists are the state after the visits `past` of an acceptable plan's passes, of which `coming` are still to come.
pub record Held (p : PlanData) (past coming : List Visit) (at : List ℤ) (apart : List ℕ) (marks : List Bool) : Type 0 where
  pub ok : acceptable p ≡ true
  pub whole : schedule p ≡ past ++ coming
  pub places : at ≡ (state_after p past).at
  pub distances : apart ≡ (state_after p past).apart
  pub long : length marks ≡ vertex_count p
  pub unsettled : Unsettled p (state_after p past) marks

-- Run r as the program has it: on the level from `start` up to `to`, its boxes from `from` up to `end`.
pub record RunIs (p : PlanData) (r : Run) (start from end to : ℕ) : Type 0 where
  pub is : IsRun p r
  pub starts : start ≡ first_on p r.level
  pub first : from ≡ is.first
  pub past : end ≡ is.first + is.count
  pub ends : to ≡ first_on p r.level + size_on p r.level

-- The neighbours "on the preceding level" of pass q, row by row: those of v stand in `ends` from first[v] up to first[v + 1]. The ratings
-- of the segments to them stand in the same rows, as sums so far.
pub record Neighbouring (p : PlanData) (q : ℕ) (first ends sums : List ℕ) : Type 0 where
  pub keys : List ℕ
  pub others : List ℕ
  pub ratings : List ℕ
  pub preceding : Preceding p q keys others ratings
  pub rows : Rows keys others first ends
  pub rated : Rows keys ratings first (ratings_between sums)
  pub long : length first ≡ suc (vertex_count p)
  pub all : length ends ≡ length keys
  pub summed : length sums ≡ length keys + 1
  pub few : length keys ≤ 2048
  pub keyed : Below (vertex_count p) keys
  pub vertices : Below (vertex_count p) ends
  pub within : all_ratings (ratings_between sums) ≡ true

-- The level that precedes level l in pass q stands from `low` up to `high`.
pub record Range (p : PlanData) (q l low high : ℕ) : Type 0 where
  pub joined : (v w : ℕ) → On p l v → joined_via p q v ≡ some w
      → (low ≡ first_on p (level_of p w)) × (high ≡ first_on p (level_of p w) + size_on p (level_of p w))
  pub aside : (v : ℕ) → low ≤ v → v < high → On p l v → ⊥

-- What readiness on level l in pass q is read from; the preceding level stands from `low` up to `high`.
pub record Tables (p : PlanData) (q l : ℕ) (first ends before after counts : List ℕ) (marks : List Bool) : Type 0 where
  pub low : ℕ
  pub high : ℕ
  pub range : Range p q l low high
  pub left : (v : ℕ) → On p l v → get_or before v 0 ≡ last_in (joined_at p.vias first ends) (first_on p l) (v + 1 - first_on p l)
  pub right : (v : ℕ) → On p l v → get_or after v 0 ≡ first_in (joined_at p.vias first ends) v (first_on p l + size_on p l - v)
  pub counted : (v : ℕ) → low ≤ v → v < high → get_or counts v 0 ≡ marked_in marks low (v - low)
  pub lefts : vertex_count p ≤ length before
  pub rights : vertex_count p ≤ length after
  pub numbers : vertex_count p ≤ length counts

-- A moment of the passes, at a visit: the visits made before it, and those to come after it.
pub record AtVisit : Type 0 where
  pub plan : PlanData
  pub past : List Visit
  pub visit : Visit
  pub coming : List Visit

-- At the visits of a pass to one level: those made before them, and those to come after them.
pub record AtLevel : Type 0 where
  pub plan : PlanData
  pub past : List Visit
  pub level : ℕ
  pub coming : List Visit

-- At the visits of a whole pass.
pub record AtPass : Type 0 where
  pub plan : PlanData
  pub past : List Visit
  pub coming : List Visit

-- The visit of this moment places its run, which stands so; the neighbours of its pass are these.
pub record Placing (start from end to : ℕ) (first ends sums : List ℕ) (at : List ℤ) (apart : List ℕ) (m : AtVisit) : Type 0 where
  pub ok : acceptable m.plan ≡ true
  pub whole : schedule m.plan ≡ m.past ++ m.visit ∷ m.coming
  pub places : at ≡ (state_after m.plan m.past).at
  pub distances : apart ≡ (state_after m.plan m.past).apart
  pub run : RunIs m.plan m.visit.run start from end to
  pub near : Neighbouring m.plan m.visit.pass first ends sums
  pub due : is_due m.plan m.visit.pass (state_after m.plan m.past) m.visit.run ≡ true

-- Positions and distances after it.
pub record Placed (at : List ℤ) (apart : List ℕ) (m : AtVisit) : Type 0 where
  pub places : at ≡ (state_after m.plan (m.past ++ m.visit ∷ [])).at
  pub distances : apart ≡ (state_after m.plan (m.past ++ m.visit ∷ [])).apart
