-- The middle ones of a box's neighbours, by sums of ratings so far.
use Rattle.std.specs.Prelude.{List, ℕ, ◌+◌, ◌-◌, ◌*◌, ◌≤◌, ◌<◌, length, get_or}

-- i is the first at which twice the ratings so far reach t: before it they do not, with it they do.
pub record Reaches (t : ℕ) (ss : List ℕ) (i : ℕ) : Type 0 where
  pub within : i + 1 < length ss
  pub before : 2 * (get_or ss i 0 - get_or ss 0 0) < t
  pub reached : t ≤ 2 * (get_or ss (i + 1) 0 - get_or ss 0 0)

abbrev pub total_of : List ℕ → ℕ
total_of ss = get_or ss (length ss - 1) 0 - get_or ss 0 0

-- The lower and the upper middle one.
pub record AreMiddles (ss : List ℕ) (i j : ℕ) : Type 0 where
  pub lower : Reaches (total_of ss) ss i
  pub upper : Reaches (total_of ss + 1) ss j
