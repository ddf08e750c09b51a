-- What readiness is read from: joined vias, the nearest of them, and how many marked vertices come before one.
use Rattle.std.specs.Prelude.{Bool, true, false, cond, List, ◌≡◌, ℕ, zero, suc, ◌+◌, ◌<◌, ◌≤◌, eqb, length, get_or}
use Rattle.std.proofs.Math.Option.{Option, none, some}
use Rattle.plan.specs.Plan.{PlanData}
use Rattle.passes.specs.Ready.{preceding, preceding_ratings}
use Rattle.pass_tables.specs.inner.Tables.{picked_by}

-- What stands for "none": no vertex has this number.
abbrev pub no_vertex : ℕ
no_vertex = 2048

-- The first neighbour of v by rows that start at `first`, if it and v are vias.
abbrev pub joined_at : List Bool → List ℕ → List ℕ → ℕ → ℕ
joined_at vias first ends v =
    let w = get_or ends (get_or first v 0) 0 in
    cond (get_or vias v false) (cond (get_or vias w false) w no_vertex) no_vertex

-- Rows in which every via has a neighbour, a vertex.
pub record Joinable (vias : List Bool) (first ends : List ℕ) : Type 0 where
  pub long : length vias ≤ length first
  pub starts : (v : ℕ) → get_or vias v false ≡ true → get_or first v 0 < length ends
  pub joined : (v : ℕ) → get_or vias v false ≡ true → get_or ends (get_or first v 0) 0 < length vias

abbrev pub or_else : ℕ → ℕ → ℕ
or_else w other = cond (eqb w no_vertex) other w

-- The last, and the first, of the n values from v on that is a vertex.
unfoldable pub last_in : (ℕ → ℕ) → ℕ → ℕ → ℕ
last_in f v zero = no_vertex
last_in f v (suc n) =
    let more = last_in f v n in
    or_else (f (v + n)) more

unfoldable pub first_in : (ℕ → ℕ) → ℕ → ℕ → ℕ
first_in f v zero = no_vertex
first_in f v (suc n) =
    let more = first_in f (v + 1) n in
    or_else (f v) more

-- How many of the n vertices from v on are marked.
abbrev pub one_if : Bool → ℕ
one_if b = cond b 1 0

unfoldable pub marked_in : List Bool → ℕ → ℕ → ℕ
marked_in marks v zero = 0
marked_in marks v (suc n) = marked_in marks v n + one_if (get_or marks (v + n) false)

-- Whether both w's are there and as many marks come before the one as before the other.
abbrev pub ready_by : List ℕ → List ℕ → List ℕ → ℕ → ℕ → Bool
ready_by before after counts a b =
    let u = get_or before a 0 in
    let w = get_or after b 0 in
    cond (eqb u no_vertex) false (cond (eqb w no_vertex) false (eqb (get_or counts u 0) (get_or counts w 0)))

-- What it takes to read that off.
abbrev pub Readable : List ℕ → List ℕ → List ℕ → ℕ → ℕ → Type 0
Readable before after counts a b =
    (a < length before) × (b < length after) × ((get_or before a 0 ≡ no_vertex → ⊥) → get_or before a 0 < length counts)
    × ((get_or after b 0 ≡ no_vertex → ⊥) → get_or after b 0 < length counts)

-- A vertex, or none, as a number.
abbrev pub or_none : Option ℕ → ℕ
or_none none = no_vertex
or_none (some w) = w

-- Keys, other ends and ratings of the segments by which pass q finds neighbours "on the preceding level".
pub record Preceding (p : PlanData) (q : ℕ) (keys others ratings : List ℕ) : Type 0 where
  pub near : (v : ℕ) → preceding p q v ≡ picked_by v keys others
  pub long : length others ≡ length keys
  pub ratings_near : (v : ℕ) → preceding_ratings p q v ≡ picked_by v keys ratings
  pub ratings_long : length ratings ≡ length keys
