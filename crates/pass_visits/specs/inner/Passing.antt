-- What the program knows when it comes to a level of a pass, and when it starts a pass.
use Rattle.std.specs.Prelude.{Bool, List, ◌++◌, ◌≡◌, ℕ, ◌+◌, ◌-◌, ◌<◌, ◌≤◌, ℤ, length, get_or}
use Rattle.plan.specs.Plan.{vertex_count}
use Rattle.passes.specs.inner.Schedule.{pass_visits}
use Rattle.pass_tables.specs.inner.Joins.{joined_at, last_in, first_in, marked_in}
use Rattle.pass_tables.specs.inner.Moments.{Held, Neighbouring, Range, AtLevel, AtPass}
use Rattle.pass_neighbours.specs.inner.Order.{in_turn, Starts}
use Rattle.pass_visits.specs.inner.Visits.{Entering}
use Rattle.plan.specs.Limits.{max_vertices}

-- What a pass works on: its neighbours and the sums of their ratings, and what the visits change.
pub record PassWork : Type 0 where
  pub first : List ℕ
  pub ends : List ℕ
  pub sums : List ℕ
  pub at : List ℤ
  pub apart : List ℕ
  pub marks : List Bool

abbrev pub pass_work : List ℕ → List ℕ → List ℕ → List ℤ → List ℕ → List Bool → PassWork
pass_work first ends sums at apart marks = record { first = first; ends = ends; sums = sums; at = at; apart = apart; marks = marks }

-- Room for the tables of any level.
pub record TableRoom (before after counts : List ℕ) : Type 0 where
  pub lefts : length before ≡ max_vertices
  pub rights : length after ≡ max_vertices
  pub numbers : length counts ≡ max_vertices

-- The tables of the level from `start` up to `to`; the level that precedes it stands from `low` up to `high`.
pub record TablesMade (low high start to : ℕ) (vias : List Bool) (first ends before after counts : List ℕ) (marks : List Bool) : Type 0 where
  pub lefts : (v : ℕ) → start ≤ v → v < to → get_or before v 0 ≡ last_in (joined_at vias first ends) start (v + 1 - start)
  pub rights : (v : ℕ) → start ≤ v → v < to → get_or after v 0 ≡ first_in (joined_at vias first ends) v (to - v)
  pub numbers : (v : ℕ) → low ≤ v → v < high → get_or counts v 0 ≡ marked_in marks low (v - low)

-- The visits of pass q to the runs of a level come next; the level that precedes it stands from `low` up to `high`.
pub record LevelNext (q low high start to : ℕ) (vias : List Bool) (k : PassWork) (m : AtLevel) : Type 0 where
  pub enter : Entering q start to vias k.first k.ends k.sums k.at k.apart k.marks m
  pub range : Range m.plan q m.level low high
  pub within : high ≤ vertex_count m.plan

-- The visits of pass q come next; these are the plan's lists and the neighbours of the pass.
pub record PassNext (q : ℕ) (starts : List ℕ) (vias : List Bool) (k : PassWork) (m : AtPass) : Type 0 where
  pub held : Held m.plan m.past (pass_visits m.plan q (in_turn q m.plan) ++ m.coming) k.at k.apart k.marks
  pub starts_are : Starts m.plan starts
  pub vias_are : vias ≡ m.plan.vias
  pub near : Neighbouring m.plan q k.first k.ends k.sums

-- They are made.
abbrev pub PassDone : ℕ → List ℤ → List ℕ → List Bool → AtPass → Type 0
PassDone q at apart marks m = Held m.plan (m.past ++ pass_visits m.plan q (in_turn q m.plan)) m.coming at apart marks
