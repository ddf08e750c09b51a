-- Strands as chains of vertices: of each vertex the one below it and the one above it, by the inner segments, and the topmost.
use Rattle.std.specs.Prelude.{Bool, true, false, cond, ◌&&◌, List, [], ◌∷◌, ◌≡◌, ℕ, ◌<◌, ◌≤◌, eqb, length, get_or}
use Rattle.plan.specs.Plan.{PlanData}
use Rattle.plan.specs.Strands.{first_or}
use Rattle.plan.specs.inner.Held.{HoldsPlan}
use Rattle.prelim_classes.specs.inner.Links.{Rising, chain, among}

-- `next` has of each vertex the one below it in its strand, `top` the topmost vertex of its strand.
pub record Strung (next top : List ℕ) : Type 0 where
  pub long : length top ≡ length next
  pub rising : Rising next
  pub tops : (v : ℕ) → v < length next → get_or top v 0 < length next
  pub own : (v : ℕ) → v < length next → among v (chain next (get_or top v 0)) ≡ true
  pub same : (v w : ℕ) → v < length next → among w (chain next (get_or top v 0)) ≡ true → get_or top w 0 ≡ get_or top v 0

-- The strands of a plan by these lists.
pub record StrandsBy (strand : ℕ → List ℕ) (next top : List ℕ) : Type 0 where
  pub each : (v : ℕ) → v < length next → strand v ≡ chain next (get_or top v 0)

-- The other ends of the inner segments that v is this end of.
unfoldable pub inner_ends : List Bool → List ℕ → List ℕ → ℕ → List ℕ
inner_ends vias [] bs v = []
inner_ends vias (a ∷ «as») [] v = []
inner_ends vias (a ∷ «as») (b ∷ bs) v =
    let more = inner_ends vias «as» bs v in
    let here = b ∷ more in
    cond (eqb a v && (get_or vias a false && get_or vias b false)) here more

-- Of each vertex the first of them.
pub record InnerLinks (vias : List Bool) («as» bs link : List ℕ) : Type 0 where
  pub long : length link ≡ length vias
  pub each : (v : ℕ) → v < length vias → get_or link v 0 ≡ first_or 2048 (inner_ends vias «as» bs v)

-- The topmost vertex of each strand, by the vertex above each.
pub record Tops (prev top : List ℕ) : Type 0 where
  pub long : length top ≡ length prev
  pub first : (v : ℕ) → v < length prev → v ≤ get_or prev v 0 → get_or top v 0 ≡ v
  pub more : (v : ℕ) → v < length prev → get_or prev v 0 < v → get_or top v 0 ≡ get_or top (get_or prev v 0) 0

-- Of each vertex the one below it in its strand, and the topmost; `prev` has the one above.
pub record StrandLists (vias : List Bool) (uppers lowers next top : List ℕ) : Type 0 where
  pub prev : List ℕ
  pub down : InnerLinks vias uppers lowers next
  pub up : InnerLinks vias lowers uppers prev
  pub tops : Tops prev top

-- The lists of a plan that passes the checks, with the links of its strands in place of its vias.
pub record StrungPlan (p : PlanData) (gap : ℕ) (sizes halves next top uppers lowers : List ℕ) : Type 0 where
  pub vias : List Bool
  pub held : HoldsPlan p gap sizes vias halves uppers lowers
  pub strands : StrandLists vias uppers lowers next top

-- There is such a plan.
pub record SomeStrung (gap : ℕ) (sizes halves next top uppers lowers : List ℕ) : Type 0 where
  pub plan : PlanData
  pub strung : StrungPlan plan gap sizes halves next top uppers lowers
