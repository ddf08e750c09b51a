-- The tables of one pass: its segments can be sorted into rows, and the rows are the neighbours of the pass. Assumes nothing.
use Prim.Native.Nat.{ℕ, suc, ◌+◌, ◌≤◌}
use mathlib.Core.Path.{◌≡◌, sym, ◌∙◌, ap}
use mathlib.Core.Bool.{Bool, true}
use mathlib.Core.List.{List}
use native.Mathlib.Omega.{arith}
use borrow.Author.Tests.{eq-eqb, ne_eqb}
use lib.ListN.{length, take}
use lib.Seq.{length-take-le}
use lib.IntN.{ℤ}
use Rattle.ints.specs.Ratings.{all_ratings}
use Rattle.run_columns.specs.inner.Sums.{ratings_between}
use Rattle.plan.specs.Plan.{PlanData, vertex_count}
use Rattle.plan.proofs.LimitLaws.{Limits}
use Rattle.plan.proofs.Sound.{sound}
use Rattle.plan.specs.inner.Graph.{Below}
use Rattle.pass_tables.specs.inner.Moments.{AtPass}
use Rattle.pass_tables.specs.inner.Tables.{Rows, Sortable}
use Rattle.pass_neighbours.specs.inner.Ends.{own_ends, far_ends}
use Rattle.pass_tables.proofs.Near.{near-above, near-below}
use Rattle.plan.proofs.HeldLaws.{bounds as proper}
use Rattle.pass_visits.specs.inner.Passing.{pass_work, PassNext}
use Rattle.plan.proofs.CountLaws.{by-same}
use Rattle.pass_draw.specs.inner.Turn.{Graph, Lent, TurnNext}

-- tables cut to n vertices and e segments
pub record CutTo (n e : ℕ) (first ends sums : List ℕ) : Type 0 where
  pub rows : length first ≡ n + 1
  pub others : length ends ≡ e
  pub ratings : length sums ≡ e + 1

-- they stay so when they are written
pub still_cut : {n e : ℕ} {first ends sums first' ends' sums' : List ℕ} → CutTo n e first ends sums
    → length first' ≡ length first → length ends' ≡ length ends → length sums' ≡ length sums → CutTo n e first' ends' sums'
still_cut t f g h = record { rows = f ∙ t.rows; others = g ∙ t.others; ratings = h ∙ t.ratings }

module _ {q : ℕ} {h : Graph} {at : List ℤ} {apart : List ℕ} {marks : List Bool} {m : AtPass} (k : TurnNext q h at apart marks m) where
  abbrev p : PlanData
  p = m.plan

  abbrev vias : List Bool
  vias = h.vias

  abbrev uppers : List ℕ
  uppers = h.uppers

  abbrev lowers : List ℕ
  lowers = h.lowers

  limits : Limits p
  limits = (sound p k.held.ok).limits

  upper-ends : Below (length vias) uppers
  upper-ends = rw (k.vias_are, k.uppers_are) (proper p k.held.ok).upper_ends

  lower-ends : Below (length vias) lowers
  lower-ends = rw (k.vias_are, k.lowers_are) (proper p k.held.ok).lower_ends

  pub segments-few : length uppers ≤ 2048
  segments-few = rw k.uppers_are (proper p k.held.ok).segments

  even : length uppers ≡ length lowers
  even = rw (k.uppers_are, k.lowers_are) (proper p k.held.ok).ends

  even-ratings : length h.ratings ≡ length uppers
  even-ratings = rw (k.ratings_are, k.uppers_are) limits.ratings_long

  rated : all_ratings h.ratings ≡ true
  rated = rw k.ratings_are limits.ratings

  pub vertices-few : length vias + 1 ≤ 1025
  vertices-few = omega (arith, ap length k.vias_are, limits.vertices)

  -- tables for any plan are long enough
  module _ {first ends sums : List ℕ} (t : Lent first ends sums) where
    pub rows_fit : length vias + 1 ≤ length first
    rows_fit = omega (arith, t.rows, vertices-few)

    pub others_fit : length uppers ≤ length ends
    others_fit = omega (arith, t.others, segments-few)

    pub ratings_fit : length uppers + 1 ≤ length sums
    ratings_fit = omega (arith, t.ratings, segments-few)

    pub cut : CutTo (length vias) (length uppers) (take (length vias + 1) first) (take (length uppers) ends) (take (length uppers + 1) sums)
    cut = record { rows = length-take-le _ _ rows_fit; others = length-take-le _ _ others_fit; ratings = length-take-le _ _ ratings_fit }

  module _ {first ends sums : List ℕ} (t : CutTo (length vias) (length uppers) first ends sums) where
    pub sortable : Sortable uppers lowers h.ratings first ends sums × Sortable lowers uppers h.ratings first ends sums
    sortable = (
      record {
        few = segments-few;
        keyed = λ i j. omega (arith, upper-ends i j, t.rows);
        even = sym even;
        rated = even-ratings;
        within = rated;
        room = t.others;
        sum_room = t.ratings;
      },
      record {
        few = omega (arith, segments-few, even);
        keyed = λ i j. omega (arith, lower-ends i j, t.rows);
        even = even;
        rated = even-ratings ∙ even;
        within = rated;
        room = t.others ∙ even;
        sum_room = omega (arith, t.ratings, even);
      },
    )

    rows_long : length first ≡ suc (vertex_count p)
    rows_long = omega (arith, t.rows, ap length k.vias_are)

    rows_all : length ends ≡ length p.uppers
    rows_all = t.others ∙ ap length k.uppers_are

    sums-all : length sums ≡ length p.uppers + 1
    sums-all = omega (arith, t.ratings, ap length k.uppers_are)

    -- the pass comes next, with its neighbours
    pub pass-next : Rows (own_ends q uppers lowers) (far_ends q uppers lowers) first ends × Rows (own_ends q uppers lowers) h.ratings first (ratings_between sums)
        → PassNext q h.levels vias (pass_work first ends sums at apart marks) m
    pass-next x = record {
      held = k.held;
      starts_are = k.starts_are;
      vias_are = k.vias_are;
      near = by-same q 2
          (λ two. let e = eq-eqb q 2 two in let y = rw (e, k.uppers_are, k.lowers_are, k.ratings_are) at x in
          near-below p k.held.ok first ends sums rows_long rows_all sums-all q two y.0 y.1)
          (λ two. let e = ne_eqb q 2 two in let y = rw (e, k.uppers_are, k.lowers_are, k.ratings_are) at x in
          near-above p k.held.ok first ends sums rows_long rows_all sums-all q two y.0 y.1);
    }
