-- What the three passes begin with and what they leave.
use Rattle.std.specs.Prelude.{Bool, List, [], ◌≡◌, ℕ, ◌<◌, length, replicate, ℤ, pos}
use Rattle.plan.specs.Plan.{PlanData}
use Rattle.preliminary.specs.Positions.{preliminary}
use Rattle.passes.specs.Drawing.{drawing_of}
use Rattle.passes.specs.Words.{max_listed}
use Rattle.passes.specs.inner.Schedule.{schedule}
use Rattle.pass_tables.specs.inner.Moments.{Held}
use Rattle.pass_neighbours.specs.inner.Order.{Starts}
use Rattle.pass_list.specs.inner.Listing.{Columns, Stored}
use Rattle.pass_list.specs.inner.Ended.{Written}
use Rattle.plan.specs.inner.Held.{HoldsPlan}
use Rattle.pass_draw.specs.inner.Turn.{Graph}

-- Whether the list of placings is wanted: where it is not, its arrays have no length.
abbrev pub Wanted : Columns → Type 0
Wanted g = 0 < length g.passes

-- Final positions and, if it is wanted, the list of placings, n placings with b boxes in all.
pub record Drawn (n b : ℕ) (at : List ℤ) (g : Columns) (p : PlanData) : Type 0 where
  pub final : at ≡ (drawing_of p).final
  pub listed : Wanted g → Stored n b g (drawing_of p).placings

-- What is lent to the passes: the plan's lists, what the visits change, and the list of placings.
pub record Begun : Type 0 where
  pub graph : Graph
  pub at : List ℤ
  pub apart : List ℕ
  pub marks : List Bool
  pub list : Columns

abbrev pub begun : Graph → List ℤ → List ℕ → List Bool → Columns → Begun
begun graph at apart marks list = record { graph = graph; at = at; apart = apart; marks = marks; list = list }

-- Before the first visit: the list of placings is empty.
pub record Started (k : Begun) (p : PlanData) : Type 0 where
  pub held : Held p [] (schedule p) k.at k.apart k.marks
  pub written : Wanted k.list → Written p [] 0 0 k.list
  pub vias_are : k.graph.vias ≡ p.vias
  pub uppers_are : k.graph.uppers ≡ p.uppers
  pub lowers_are : k.graph.lowers ≡ p.lowers
  pub ratings_are : k.graph.ratings ≡ p.ratings

-- The same with the sizes of the levels,
pub record AtStart (k : Begun) (p : PlanData) : Type 0 where
  pub is : Started k p
  pub sizes_are : k.graph.levels ≡ p.sizes

-- and with where they start.
pub record AtFirst (k : Begun) (p : PlanData) : Type 0 where
  pub is : Started k p
  pub starts_are : Starts p k.graph.levels

-- The list of placings is still empty: every array is 0.
pub record Unlisted (g : Columns) : Type 0 where
  pub no_passes : g.passes ≡ replicate max_listed 0
  pub no_levels : g.levels ≡ replicate max_listed 0
  pub no_sizes : g.sizes ≡ replicate max_listed 0
  pub no_vertices : g.vertices ≡ replicate max_listed 0
  pub no_positions : g.positions ≡ replicate max_listed (pos 0)

-- A plan's lists.
pub record PlanLists : Type 0 where
  pub gap : ℕ
  pub sizes : List ℕ
  pub vias : List Bool
  pub halves : List ℕ
  pub uppers : List ℕ
  pub lowers : List ℕ
  pub ratings : List ℕ

abbrev pub plan_lists : ℕ → List ℕ → List Bool → List ℕ → List ℕ → List ℕ → List ℕ → PlanLists
plan_lists gap sizes vias halves uppers lowers ratings = record {
  gap = gap;
  sizes = sizes;
  vias = vias;
  halves = halves;
  uppers = uppers;
  lowers = lowers;
  ratings = ratings;
}

-- They are those of p, and these are its preliminary positions.
pub record Outset (l : PlanLists) (at : List ℤ) (p : PlanData) : Type 0 where
  pub lists : HoldsPlan p l.gap l.sizes l.vias l.halves l.uppers l.lowers
  pub ratings_are : p.ratings ≡ l.ratings
  pub preliminaries : at ≡ preliminary p
