-- Words for lists of numbers, as the program asks them of its slices.
use Rattle.std.specs.Prelude.{◌≡◌, Bool, true, List, map, ℕ, ◌+◌, ◌*◌, ◌/◌, ◌%◌, ◌<◌, ◌≤◌, length, get_or}
use Rattle.sorting.specs.Sort.{sort_by}
use Rattle.plan.specs.Plan.{PlanData}
use Rattle.plan.specs.Limits.{max_vertices}
use Rattle.plan.specs.Segments.{Rated, segments_from, rated_from}
use Rattle.plan.specs.Checks.{rising}
use Rattle.ints.specs.Lists.{count_of}
use Rattle.ints.specs.Ratings.{all_ratings}
use Rattle.plan.specs.inner.Graph.{segment, Below}
use Rattle.plan_renumber.specs.Renumber.{rated_key, moved_rated}

-- Each number below n, once.
pub record Once (n : ℕ) (m : List ℕ) : Type 0 where
  pub long : length m ≡ n
  pub below : (i : ℕ) → i < n → get_or m i 0 < n
  pub once : (v : ℕ) → v < n → count_of v m ≡ 1

-- A list that takes an inverse.
pub record Invertible (m inv : List ℕ) : Type 0 where
  pub few : length m ≤ max_vertices
  pub long : length inv ≡ length m
  pub once : Once (length m) m

-- A rating for each segment.
pub record EachRated (uppers ratings : List ℕ) : Type 0 where
  pub long : length ratings ≡ length uppers
  pub each : all_ratings ratings ≡ true

-- The segments that two lists of ends and their ratings make, and these in the new numbers of m and sorted anew.
abbrev pub rated_by : List ℕ → List ℕ → List ℕ → List Rated
rated_by uppers lowers ratings = rated_from (segments_from uppers lowers) ratings

abbrev pub moved_from : List ℕ → List ℕ → List ℕ → List ℕ → List Rated
moved_from m uppers lowers ratings = sort_by rated_key (map (moved_rated m) (rated_by uppers lowers ratings))

-- A segment's code: its key, and below it its rating, which is less than 128.
abbrev pub rated_code : Rated → ℕ
rated_code r = rated_key r * 128 + r.rating

-- A segment by the list of the new numbers.
abbrev pub moved_by : List ℕ → Rated → Rated
moved_by inv r = record { segment = segment (get_or inv r.segment.upper 0) (get_or inv r.segment.lower 0); rating = r.rating }

-- Lists of ends and ratings, the list of the new numbers, and one for the codes.
pub record Encodable (inv uppers lowers ratings codes : List ℕ) : Type 0 where
  pub ends : length uppers ≡ length lowers
  pub long : length codes ≡ length uppers
  pub new : (v : ℕ) → v < length inv → get_or inv v 0 < max_vertices
  pub upper : Below (length inv) uppers
  pub lower : Below (length inv) lowers
  pub rated : EachRated uppers ratings

pub record Decodable (codes uppers lowers ratings : List ℕ) : Type 0 where
  pub upper : length uppers ≡ length codes
  pub lower : length lowers ≡ length codes
  pub rating : length ratings ≡ length codes

-- The ends and ratings of which codes are made.
pub record Decoded (codes uppers lowers ratings : List ℕ) : Type 0 where
  pub upper : uppers ≡ map (λ c. c / 128 / max_vertices) codes
  pub lower : lowers ≡ map (λ c. c / 128 % max_vertices) codes
  pub rating : ratings ≡ map (λ c. c % 128) codes

-- What is asked for numbering segments anew: all lists as long as their data, every end a vertex, segments that rise as check 4 asks,
-- each vertex once in m.
pub record Movable (m inv uppers lowers ratings codes : List ℕ) : Type 0 where
  pub numbers : Invertible m inv
  pub ends : length uppers ≡ length lowers
  pub long : length codes ≡ length uppers
  pub upper : Below (length m) uppers
  pub lower : Below (length m) lowers
  pub rise : rising (segments_from uppers lowers) ≡ true
  pub rated : EachRated uppers ratings

-- What it leaves.
pub record Moved (m uppers lowers ratings uppers' lowers' ratings' : List ℕ) : Type 0 where
  pub upper : uppers' ≡ map (λ r. r.segment.upper) (moved_from m uppers lowers ratings)
  pub lower : lowers' ≡ map (λ r. r.segment.lower) (moved_from m uppers lowers ratings)
  pub rating : ratings' ≡ map (λ r. r.rating) (moved_from m uppers lowers ratings)

-- p has these kinds, half-widths, segments and ratings.
pub record Lists (p : PlanData) (vias : List Bool) (halves uppers lowers ratings : List ℕ) : Type 0 where
  pub vias_are : p.vias ≡ vias
  pub halves_are : p.halves ≡ halves
  pub uppers_are : p.uppers ≡ uppers
  pub lowers_are : p.lowers ≡ lowers
  pub ratings_are : p.ratings ≡ ratings

-- What is asked for numbering a plan's arrays anew: as above, and lists as long as the numbers.
pub record Renumberable (m : List ℕ) (vias : List Bool) (halves uppers lowers ratings spare : List ℕ) (flags : List Bool) (places codes : List ℕ) : Type 0 where
  pub movable : Movable m places uppers lowers ratings codes
  pub vias_long : length vias ≡ length m
  pub halves_long : length halves ≡ length m
  pub spare_long : length spare ≡ length m
  pub flags_long : length flags ≡ length m
