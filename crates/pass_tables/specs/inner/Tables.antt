-- What the program's tables hold, each said of the lists that it is made of.
use Rattle.std.specs.Prelude.{Bool, true, false, cond, not, List, [], ◌∷◌, ◌++◌, ◌≡◌, ℕ, zero, suc, ◌+◌, ◌-◌, ◌*◌, ◌<◌, ◌≤◌, ltb, eqb, length, get_or, take, drop, ℤ, pos, ◌-ℤ◌}
use Rattle.ints.specs.Ints.{size}
use Rattle.ints.specs.Lists.{count_of}
use Rattle.ints.specs.Ratings.{all_ratings}
use Rattle.plan.specs.Limits.{max_segments}
use Rattle.plan.specs.inner.Graph.{Below}
use Rattle.passes.specs.State.{position_of}
use Rattle.passes.specs.Ready.{equals}

-- The doubled distance of v to its right sibling on a level that ends before `to`, 0 if it is the last there.
abbrev pub right_distance : ℕ → List ℕ → ℕ → ℕ → ℕ
right_distance gap halves v to = cond (ltb (v + 1) to) (2 * (get_or halves v 0 + gap + get_or halves (v + 1) 0)) 0

-- The sum of the first n values.
unfoldable pub total : (ℕ → ℕ) → ℕ → ℕ
total f zero = 0
total f (suc n) = total f n + f n

-- Of segments with these keys and other ends, the other ends of those with key v, in their order.
unfoldable pub picked_by : ℕ → List ℕ → List ℕ → List ℕ
picked_by v [] os = []
picked_by v (k ∷ ks) [] = []
picked_by v (k ∷ ks) (o ∷ os) =
    let more = picked_by v ks os in
    let here = o ∷ more in
    cond (eqb k v) here more

-- The other ends row by row: those of v stand in `ends` from first[v] on.
pub record Rows (keys others first ends : List ℕ) : Type 0 where
  pub starts : (v : ℕ) → v < length first → get_or first v 0 ≡ total (λ (u : ℕ). count_of u keys) v
  pub row : (v : ℕ) → v < length first → take (count_of v keys) (drop (get_or first v 0) ends) ≡ picked_by v keys others

-- Segments with these keys, other ends and ratings can be sorted into rows, with room for their ends and for the sums of their ratings.
pub record Sortable (keys others ratings first ends sums : List ℕ) : Type 0 where
  pub few : length keys ≤ max_segments
  pub keyed : Below (length first) keys
  pub even : length others ≡ length keys
  pub rated : length ratings ≡ length keys
  pub within : all_ratings ratings ≡ true
  pub room : length ends ≡ length keys
  pub sum_room : length sums ≡ length keys + 1

-- The next via of n vertices from v on; the vertex after them if there is none.
unfoldable pub next_via : List Bool → ℕ → ℕ → ℕ
next_via vias v zero = v
next_via vias v (suc n) =
    let more = next_via vias (v + 1) n in
    cond (get_or vias v false) v more

-- Whether v and w do not stand exactly their distance apart.
abbrev pub is_loose : List ℕ → List ℤ → ℕ → ℕ → Bool
is_loose doubled at v w =
    not (equals (position_of at w -ℤ position_of at v) (total (λ (i : ℕ). get_or doubled (v + i) 0) (w - v)))

-- Whether a bounded run with slack starts at via v, w being the next via on the level or its end `to`.
abbrev pub loose_from : List ℕ → List ℤ → ℕ → ℕ → ℕ → Bool
loose_from doubled at v w to = cond (ltb w to) (is_loose doubled at v w) false

-- Whether a bounded run with slack starts at v, on a level that ends before `to`.
abbrev pub starts_loose : List Bool → List ℕ → List ℤ → ℕ → ℕ → Bool
starts_loose vias doubled at v to = cond (get_or vias v false) (loose_from doubled at v (next_via vias (v + 1) (to - (v + 1))) to) false

-- A distance and a position for each of at most 1,024 vertices: distances of document 01's plans, positions within ±2^40.
abbrev pub Measured : List ℕ → List ℤ → Type 0
Measured doubled at =
    (length at ≡ length doubled) × (length doubled ≤ 1024) × ((u : ℕ) → get_or doubled u 0 ≤ 1000)
    × ((u : ℕ) → size (get_or at u (pos 0)) ≤ 1099511627776)

-- What a table has of the n vertices from v on,
unfoldable pub along : {A : Type 0} → (ℕ → A) → ℕ → ℕ → List A
along f v zero = []
along f v (suc n) = f v ∷ along f (v + 1) n

-- and of every level from vertex v on, of a vertex and where its level ends.
unfoldable pub levelwise : {A : Type 0} → (ℕ → ℕ → A) → ℕ → List ℕ → List A
levelwise f v [] = []
levelwise f v (n ∷ ns) = along (λ (u : ℕ). f u (v + n)) v n ++ levelwise f (v + n) ns
