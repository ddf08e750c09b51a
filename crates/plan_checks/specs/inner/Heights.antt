-- Lists that have the height of each vertex.
use Rattle.std.specs.Prelude.{List, [], ◌≡◌, ℕ, ◌+◌, ◌≤◌, ◌<◌, length, get_or}
use Rattle.plan.specs.Limits.{max_levels}
use Rattle.plan.specs.Plan.{PlanData, data_of, level_of, height_of}

-- A plan with this spacing and these levels and nothing else: so much says how high a vertex stands.
abbrev pub frame_of : ℕ → List ℕ → PlanData
frame_of spacing sizes = data_of (length sizes) 0 spacing sizes [] [] [] [] []

-- The height of level l, and of vertex v.
abbrev pub level_height : ℕ → ℕ → ℕ
level_height spacing l = height_of (frame_of spacing []) l

abbrev pub height_at : ℕ → List ℕ → ℕ → ℕ
height_at spacing sizes v = height_of (frame_of spacing sizes) (level_of (frame_of spacing sizes) v)

-- A list that has the height of each vertex.
pub record HeightsOf (spacing : ℕ) (sizes heights : List ℕ) : Type 0 where
  pub each : (v : ℕ) → v < length heights → get_or heights v 0 ≡ height_at spacing sizes v

-- A list of levels, which may be one more than there are.
abbrev pub AreLevels : List ℕ → Type 0
AreLevels level = (v : ℕ) → v < length level → (1 ≤ get_or level v 0) × (get_or level v 0 ≤ max_levels + 1)

-- Of each level its height.
abbrev pub Raised : ℕ → List ℕ → List ℕ → Type 0
Raised spacing level heights = (v : ℕ) → v < length heights → get_or heights v 0 ≡ level_height spacing (get_or level v 0)
