-- What the program knows when it visits a run, and when it visits a level.
use Rattle.std.specs.Prelude.{Bool, true, false, cond, ◌&&◌, List, [], ◌∷◌, ◌++◌, map, ◌≡◌, ℕ, ◌+◌, ◌-◌, ◌≤◌, ltb, get_or, set, ℤ}
use Rattle.passes.specs.Runs.{runs_on}
use Rattle.passes.specs.Passes.{is_due}
use Rattle.plan.specs.Plan.{PlanData}
use Rattle.plan.specs.inner.Levels.{first_on, size_on, On}
use Rattle.passes.specs.inner.Schedule.{visit_of}
use Rattle.pass_tables.specs.inner.Moments.{state_after, Held, RunIs, Neighbouring, Tables, AtVisit, AtLevel}

-- What the visits of a level work on: the neighbours of the pass and the sums of their ratings, the tables of readiness, and what the
-- visits change.
pub record Work : Type 0 where
  pub first : List ℕ
  pub ends : List ℕ
  pub sums : List ℕ
  pub before : List ℕ
  pub after : List ℕ
  pub counts : List ℕ
  pub at : List ℤ
  pub apart : List ℕ
  pub marks : List Bool

abbrev pub work : List ℕ → List ℕ → List ℕ → List ℕ → List ℕ → List ℕ → List ℤ → List ℕ → List Bool → Work
work first ends sums before after counts at apart marks = record {
  first = first;
  ends = ends;
  sums = sums;
  before = before;
  after = after;
  counts = counts;
  at = at;
  apart = apart;
  marks = marks;
}

-- The same with other positions, distances and marks.
abbrev pub worked : Work → List ℤ → List ℕ → List Bool → Work
worked k at apart marks = work k.first k.ends k.sums k.before k.after k.counts at apart marks

-- On level l some bounded run may have to be ready to be placed by pass q: one is unsettled, and the pass is not the third.
pub record AsksReadiness (p : PlanData) (q l : ℕ) (marks : List Bool) : Type 0 where
  pub not_third : q ≡ 3 → ⊥
  pub via : ℕ
  pub on : On p l via
  pub unsettled : get_or marks via false ≡ true

-- The visit of this moment is one of pass q; its run stands so, and these are the lists that it works on.
pub record Visiting (q start from end to : ℕ) (k : Work) (m : AtVisit) : Type 0 where
  pub held : Held m.plan m.past (m.visit ∷ m.coming) k.at k.apart k.marks
  pub pass : m.visit.pass ≡ q
  pub run : RunIs m.plan m.visit.run start from end to
  pub near : Neighbouring m.plan q k.first k.ends k.sums
  pub tables : AsksReadiness m.plan q m.visit.run.level k.marks → Tables m.plan q m.visit.run.level k.first k.ends k.before k.after k.counts k.marks

-- It is, whatever its neighbours, positions and distances.
pub record Asking (q start from end to : ℕ) (before after counts : List ℕ) (marks : List Bool) (m : AtVisit) : Type 0 where
  pub first : List ℕ
  pub ends : List ℕ
  pub sums : List ℕ
  pub at : List ℤ
  pub apart : List ℕ
  pub is : Visiting q start from end to (work first ends sums before after counts at apart marks) m

-- Whether the visit places its run.
abbrev pub is_due_at : ℕ → AtVisit → Bool
is_due_at q m = is_due m.plan q (state_after m.plan m.past) m.visit.run

-- The marks after a run is placed: that of its left via is taken away if a via stands on both sides.
abbrev pub settled : ℕ → ℕ → ℕ → ℕ → List Bool → List Bool
settled start from end to marks = cond (ltb start from && ltb end to) (set marks (from - 1) false) marks

-- What a visit leaves.
pub record Visited (q : ℕ) (k : Work) (m : AtVisit) : Type 0 where
  pub held : Held m.plan (m.past ++ m.visit ∷ []) m.coming k.at k.apart k.marks
  pub tables : AsksReadiness m.plan q m.visit.run.level k.marks → Tables m.plan q m.visit.run.level k.first k.ends k.before k.after k.counts k.marks

-- The visits of pass q to the runs of a level, which stands from `start` up to `to`, come next.
pub record Entering (q start to : ℕ) (vias : List Bool) (first ends sums : List ℕ) (at : List ℤ) (apart : List ℕ) (marks : List Bool)
    (m : AtLevel) : Type 0 where
  pub held : Held m.plan m.past (map (visit_of q) (runs_on m.plan m.level) ++ m.coming) at apart marks
  pub kinds : vias ≡ m.plan.vias
  pub one : 1 ≤ m.level
  pub many : m.level ≤ m.plan.levels
  pub starts : start ≡ first_on m.plan m.level
  pub stops : to ≡ first_on m.plan m.level + size_on m.plan m.level
  pub near : Neighbouring m.plan q first ends sums

-- They do, and these tables tell which runs are ready, if any asks.
pub record Levelling (q start to : ℕ) (vias : List Bool) (k : Work) (m : AtLevel) : Type 0 where
  pub enter : Entering q start to vias k.first k.ends k.sums k.at k.apart k.marks m
  pub tables : AsksReadiness m.plan q m.level k.marks → Tables m.plan q m.level k.first k.ends k.before k.after k.counts k.marks

-- They are made.
abbrev pub LevelDone : ℕ → List ℤ → List ℕ → List Bool → AtLevel → Type 0
LevelDone q at apart marks m = Held m.plan (m.past ++ map (visit_of q) (runs_on m.plan m.level)) m.coming at apart marks
