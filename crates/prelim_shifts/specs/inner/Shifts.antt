-- Lists to shift classes by: which sibling pairs and which segments count for which class.
use Rattle.std.specs.Prelude.{true, cond, List, [], ◌∷◌, map, ◌≡◌, ℕ, ◌+◌, ◌<◌, ◌≤◌, ltb, eqb, length, get_or, ℤ, pos, ◌-ℤ◌}
use Rattle.ints.specs.Ints.{P, N, size, SizedTo}
use Rattle.plan.specs.Limits.{max_levels, max_gap, max_half_width, max_vertices, max_segments}
use Rattle.plan.specs.Plan.{PlanData, Siblings, numbers}
use Rattle.plan.specs.inner.Graph.{Below}
use Rattle.plan.specs.Segments.{segments_from, segments_of}
use Rattle.prelim_classes.specs.inner.Links.{Bucketed, among, pairs_by}
use Rattle.preliminary.specs.Shift.{place_at, class_at, shift_each}

-- The class in whose shift the pair of v and its right sibling w counts: that of v, 0 where there is no w or it is of the same class.
abbrev pub gap_key : List ℕ → ℕ → ℕ → ℕ
gap_key classes v w = cond (ltb w (length classes)) (cond (eqb (class_at classes w) (class_at classes v)) 0 (class_at classes v)) 0

-- The class in whose shift a segment counts: the higher of its ends', 0 where they are of the same.
abbrev pub offset_key : List ℕ → ℕ → ℕ → ℕ
offset_key classes a b = cond (ltb (class_at classes b) (class_at classes a)) (class_at classes a) (cond (ltb (class_at classes a) (class_at classes b)) (class_at classes b) 0)

-- How far w stands beyond its distance from v.
abbrev pub slack : ℕ → List ℕ → List ℤ → ℕ → ℕ → ℤ
slack gap halves xs v w = (place_at xs w -ℤ place_at xs v) -ℤ pos (get_or halves v 0 + gap + get_or halves w 0)

-- How far the other end of a segment stands from that of class c.
abbrev pub offset : ℕ → List ℕ → List ℤ → ℕ → ℕ → ℤ
offset c classes xs a b = cond (eqb (class_at classes a) c) (place_at xs b -ℤ place_at xs a) (place_at xs a -ℤ place_at xs b)

-- The same at each of some places of two lists.
abbrev pub slacks : ℕ → List ℕ → List ℤ → List ℕ → List ℕ → List ℕ → List ℤ
slacks gap halves xs order right is = map (λ (i : ℕ). slack gap halves xs (get_or order i 0) (get_or right i 0)) is

abbrev pub offsets : ℕ → List ℕ → List ℤ → List ℕ → List ℕ → List ℕ → List ℤ
offsets c classes xs uppers lowers is = map (λ (i : ℕ). offset c classes xs (get_or uppers i 0) (get_or lowers i 0)) is

-- No number of a list is above m.
abbrev pub AtMost : ℕ → List ℕ → Type 0
AtMost m xs = (v : ℕ) → get_or xs v 0 ≤ m

-- What shifting asks of its lists.
pub record Shiftable (gap : ℕ) (halves order right uppers lowers classes : List ℕ) : Type 0 where
  pub gaps : gap ≤ max_gap
  pub within : (i : ℕ) → i < length halves → get_or halves i 0 ≤ max_half_width
  pub boxes : length halves ≡ length classes
  pub orders : length order ≡ length classes
  pub rights : length right ≡ length classes
  pub few : length classes ≤ max_vertices
  pub segments : length uppers ≤ max_segments
  pub ends : length uppers ≡ length lowers
  pub vertices : Below (length classes) order
  pub upper_ends : Below (length classes) uppers
  pub lower_ends : Below (length classes) lowers
  pub classed : AtMost max_levels classes

-- At these places the numbers of a list are below n.
abbrev pub BelowAt : ℕ → List ℕ → List ℕ → Type 0
BelowAt n ws is = (i : ℕ) → among i is ≡ true → get_or ws i 0 < n

-- The keys of two lists.
unfoldable pub keys_by : (ℕ → ℕ → ℕ) → List ℕ → List ℕ → List ℕ
keys_by key [] ws = []
keys_by key (v ∷ vs) [] = []
keys_by key (v ∷ vs) (w ∷ ws) = key v w ∷ keys_by key vs ws

-- The data of a plan that these lists are, with its sibling pairs.
pub record ShiftsBy (p : PlanData) (siblings : List Siblings) (gap : ℕ) (halves order right uppers lowers classes : List ℕ) : Type 0 where
  pub gaps : p.gap ≡ gap
  pub widths : p.halves ≡ halves
  pub segments : segments_of p ≡ segments_from uppers lowers
  pub pairs : siblings ≡ pairs_by (length classes) order right

-- Before class c is shifted: no position is beyond m, and those of c and of the classes after it are as placed.
pub record Spread (c m : ℕ) (classes : List ℕ) (xs : List ℤ) : Type 0 where
  pub each : (v : ℕ) → size (get_or xs v (pos 0)) ≤ m
  pub least : (v : ℕ) → c ≤ get_or classes v 0 → N (get_or xs v (pos 0)) ≡ 0
  pub most : (v : ℕ) → c ≤ get_or classes v 0 → P (get_or xs v (pos 0)) ≤ 512000

-- The positions after the shifts of the classes from 1 to `levels`.
pub record Shifted (levels gap : ℕ) (halves order right uppers lowers classes : List ℕ) (xs xs' : List ℤ) : Type 0 where
  pub small : SizedTo 33312000 xs'
  pub each : (p : PlanData) (siblings : List Siblings) → ShiftsBy p siblings gap halves order right uppers lowers classes
      → xs' ≡ shift_each p siblings classes (numbers 1 levels) xs

-- The places of the pairs, of the segments and of the members of each class, as chains.
pub record Linked (order right uppers lowers classes pair_head pair_link segment_head segment_link member_head member_link : List ℕ) : Type 0 where
  pub pairs : Bucketed (keys_by (gap_key classes) order right) pair_head pair_link
  pub heads : 1 ≤ length pair_head
  pub pair_heads : length pair_head ≤ 65
  pub segments : Bucketed (keys_by (offset_key classes) uppers lowers) segment_head segment_link
  pub segment_heads : length segment_head ≡ 65
  pub members : Bucketed classes member_head member_link
  pub member_heads : length member_head ≡ 65
