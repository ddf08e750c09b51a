-- The segments of a plan, and a vertex's neighbours on the level above and on the level below.
use Rattle.std.specs.Prelude.{Bool, cond, ◌&&◌, List, [], ◌∷◌, ℕ, eqb}
use Rattle.plan.specs.Plan.{PlanData, is_via}

-- "`(seg A B)`, A above B"
pub record Segment : Type 0 where
  pub upper : ℕ
  pub lower : ℕ

unfoldable pub segments_from : List ℕ → List ℕ → List Segment
segments_from [] bs = []
segments_from (a ∷ «as») [] = []
segments_from (a ∷ «as») (b ∷ bs) = record { upper = a; lower = b } ∷ segments_from «as» bs

unfoldable pub segments_of : PlanData → List Segment
segments_of p = segments_from p.uppers p.lowers

-- A segment with its rating: "A segment may carry a rating, as `(seg A B W)` ..; without one it has rating 1" (document 02, E5).
pub record Rated : Type 0 where
  pub segment : Segment
  pub rating : ℕ

unfoldable pub rated_from : List Segment → List ℕ → List Rated
rated_from [] ws = []
rated_from (s ∷ ss) [] = []
rated_from (s ∷ ss) (w ∷ ws) = record { segment = s; rating = w } ∷ rated_from ss ws

unfoldable pub rated_of : PlanData → List Rated
rated_of p = rated_from (segments_of p) p.ratings

-- The neighbours of v on the level above: the upper ends of the segments whose lower end it is. Segments are sorted, so they
-- come in level order.
unfoldable pub above_in : List Segment → ℕ → List ℕ
above_in [] v = []
above_in (s ∷ ss) v =
    let more = above_in ss v in
    let here = s.upper ∷ more in
    cond (eqb s.lower v) here more

-- The neighbours of v on the level below.
unfoldable pub below_in : List Segment → ℕ → List ℕ
below_in [] v = []
below_in (s ∷ ss) v =
    let more = below_in ss v in
    let here = s.lower ∷ more in
    cond (eqb s.upper v) here more

unfoldable pub above : PlanData → ℕ → List ℕ
above p v = above_in (segments_of p) v

unfoldable pub below : PlanData → ℕ → List ℕ
below p v = below_in (segments_of p) v

-- The ratings of the segments to the neighbours of v on the level above, in their order, and to those on the level below.
unfoldable pub ratings_above : List Rated → ℕ → List ℕ
ratings_above [] v = []
ratings_above (r ∷ rs) v =
    let more = ratings_above rs v in
    let here = r.rating ∷ more in
    cond (eqb r.segment.lower v) here more

unfoldable pub ratings_below : List Rated → ℕ → List ℕ
ratings_below [] v = []
ratings_below (r ∷ rs) v =
    let more = ratings_below rs v in
    let here = r.rating ∷ more in
    cond (eqb r.segment.upper v) here more

-- An inner segment: "via to via".
abbrev pub is_inner : PlanData → Segment → Bool
is_inner p s = is_via p s.upper && is_via p s.lower

unfoldable pub inner_in : PlanData → List Segment → List Segment
inner_in p [] = []
inner_in p (s ∷ ss) =
    let more = inner_in p ss in
    let here = s ∷ more in
    cond (is_inner p s) here more

unfoldable pub inner_segments : PlanData → List Segment
inner_segments p = inner_in p (segments_of p)
