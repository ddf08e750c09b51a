-- A plan's data, and what they say of levels and vertices. Vertices are numbered from 0 in reading order, levels from 1 at
-- the top. The lists are as long as their data.
use Rattle.std.specs.Prelude.{Bool, false, cond, List, [], ◌∷◌, ◌++◌, ℕ, zero, suc, ◌+◌, ◌-◌, ◌*◌, ltb, eqb, length, get_or}
use Rattle.std.proofs.Math.Option.{Option, none, some}

pub record PlanData : Type 0 where
  -- K, the number of levels
  pub levels : ℕ
  -- G, the gap in steps
  pub gap : ℕ
  -- S, the level spacing in steps
  pub spacing : ℕ
  -- how many vertices stand on each level, from the top
  pub sizes : List ℕ
  -- of each vertex, whether it is a via
  pub vias : List Bool
  -- of each vertex, its half-width in steps
  pub halves : List ℕ
  -- of each segment, its upper end A and its lower end B
  pub uppers : List ℕ
  pub lowers : List ℕ
  -- and its rating, 1 where none is written
  pub ratings : List ℕ

-- The data with these parts.
abbrev pub data_of : ℕ → ℕ → ℕ → List ℕ → List Bool → List ℕ → List ℕ → List ℕ → List ℕ → PlanData
data_of levels gap spacing sizes vias halves uppers lowers ratings = record {
  levels = levels;
  gap = gap;
  spacing = spacing;
  sizes = sizes;
  vias = vias;
  halves = halves;
  uppers = uppers;
  lowers = lowers;
  ratings = ratings;
}

abbrev pub vertex_count : PlanData → ℕ
vertex_count p = length p.vias

abbrev pub is_via : PlanData → ℕ → Bool
is_via p v = get_or p.vias v false

abbrev pub half_width : PlanData → ℕ → ℕ
half_width p v = get_or p.halves v 0

-- The numbers from v on, n of them.
unfoldable pub numbers : ℕ → ℕ → List ℕ
numbers v zero = []
numbers v (suc n) = v ∷ numbers (v + 1) n

-- The levels from the top, each with its vertices from left to right.
unfoldable pub levels_from : ℕ → List ℕ → List (List ℕ)
levels_from v [] = []
levels_from v (n ∷ ns) = numbers v n ∷ levels_from (v + n) ns

unfoldable pub levels_of : PlanData → List (List ℕ)
levels_of p = levels_from 0 p.sizes

-- The vertices of level l.
unfoldable pub level_at : PlanData → ℕ → List ℕ
level_at p l = get_or (levels_of p) (l - 1) []

-- The level on which vertex v stands. (Of a number that is no vertex, one more than there are levels.)
unfoldable pub level_in : List ℕ → ℕ → ℕ
level_in [] v = 1
level_in (n ∷ ns) v =
    let lower = level_in ns (v - n) in
    let next = suc lower in
    cond (ltb v n) 1 next

unfoldable pub level_of : PlanData → ℕ → ℕ
level_of p v = level_in p.sizes v

-- "Level l has y = S × (l − 1) steps."
unfoldable pub height_of : PlanData → ℕ → ℕ
height_of p l = p.spacing * (l - 1)

-- "The distance of siblings v, w is halfwidth(v) + G + halfwidth(w) steps."
abbrev pub distance : PlanData → ℕ → ℕ → ℕ
distance p v w = half_width p v + p.gap + half_width p w

-- Two neighbours on a level.
pub record Siblings : Type 0 where
  pub left : ℕ
  pub right : ℕ

-- Each two neighbours of a level written from left to right, and of all levels.
unfoldable pub pairs_on : List ℕ → List Siblings
pairs_on [] = []
pairs_on (v ∷ []) = []
pairs_on (v ∷ w ∷ ws) = record { left = v; right = w } ∷ pairs_on (w ∷ ws)

unfoldable pub siblings_of : List (List ℕ) → List Siblings
siblings_of [] = []
siblings_of (l ∷ ls) = pairs_on l ++ siblings_of ls

-- The left sibling of v, and its right sibling, where it has one.
unfoldable pub left_sibling : List Siblings → ℕ → Option ℕ
left_sibling [] v = none
left_sibling (s ∷ ss) v =
    let more = left_sibling ss v in
    cond (eqb s.right v) (some s.left) more

unfoldable pub right_sibling : List Siblings → ℕ → Option ℕ
right_sibling [] v = none
right_sibling (s ∷ ss) v =
    let more = right_sibling ss v in
    cond (eqb s.left v) (some s.right) more
