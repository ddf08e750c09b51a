-- The ratings of the neighbours of the boxes of a half that are at or left of a place, and right of it, where two halves of a run
-- overlap.
use Rattle.std.specs.Prelude.{◌≡◌, Bool, cond, not, List, [], ◌∷◌, ℕ, ◌+◌, ◌-◌, ◌*◌, ◌≤◌, ◌<◌, length, take, drop, ℤ}
use Rattle.std.specs.Int.Signed.{lt_z}
use Rattle.ints.specs.Ints.{P, N, ◌⊑◌, ◌⊏◌}
use Rattle.ints.specs.Ratings.{max_rating}
use Rattle.run.specs.Run.{Lead, leads_of, total_rating}
use Rattle.run.specs.inner.Coordinates.{rated_up_to}

-- Whether a box at z is one that the test at m counts: of the left half those right of m, of the right half the others.
abbrev pub counted : Bool → ℤ → ℤ → Bool
counted left z m = cond left (lt_z m z) (not (lt_z m z))

-- The ratings of the neighbours of a box that are at or left of m, and of those right of it, if the test counts that box,
abbrev pub box_up_to : Bool → ℤ → List Lead → ℤ → ℕ
box_up_to left z ns m = cond (counted left z m) (rated_up_to m ns) 0

abbrev pub box_beyond : Bool → ℤ → List Lead → ℤ → ℕ
box_beyond left z ns m = cond (counted left z m) (total_rating ns - rated_up_to m ns) 0

-- and of the boxes of a half, ns being all their neighbours and ws the ratings of those.
unfoldable pub up_to : Bool → List ℤ → List ℕ → List ℤ → List ℕ → ℤ → ℕ
up_to left [] cs ns ws m = 0
up_to left (z ∷ zs) [] ns ws m = 0
up_to left (z ∷ zs) (c ∷ cs) ns ws m = box_up_to left z (leads_of (take c ns) (take c ws)) m + up_to left zs cs (drop c ns) (drop c ws) m

unfoldable pub beyond : Bool → List ℤ → List ℕ → List ℤ → List ℕ → ℤ → ℕ
beyond left [] cs ns ws m = 0
beyond left (z ∷ zs) [] ns ws m = 0
beyond left (z ∷ zs) (c ∷ cs) ns ws m = box_beyond left z (leads_of (take c ns) (take c ws)) m + beyond left zs cs (drop c ns) (drop c ws) m

-- x is at most b left of m, or less than f right of it.
abbrev pub Beside : ℤ → ℕ → ℕ → ℤ → Type 0
Beside m b f x = (P m + N x ≤ P x + N m + b) × (P x + N m < P m + N x + f)

-- b back from m, or f on from it, is not past p.
abbrev pub BackTo : ℤ → ℤ → ℕ → Type 0
BackTo p m b = p ⊑ m → P p + N m + b ≤ P m + N p

abbrev pub FarTo : ℤ → ℤ → ℕ → Type 0
FarTo p m f = m ⊏ p → P m + N p + f ≤ P p + N m

-- The places beside m that b and f mark off: m itself, and none that `back` and `far` do not.
pub record Around (back far b f : ℕ) : Type 0 where
  pub left : b ≤ back
  pub right : f ≤ far
  pub some : 0 < f

-- u and v are the ratings of a box, or of a half, at all places beside m that b and f mark off.
pub record BoxCounts (left : Bool) (z : ℤ) (ns : List Lead) (m : ℤ) (back far u v b f : ℕ) : Type 0 where
  pub around : Around back far b f
  pub ups : (x : ℤ) → Beside m b f x → u ≡ box_up_to left z ns x
  pub beyonds : (x : ℤ) → Beside m b f x → v ≡ box_beyond left z ns x

pub record HalfCounts (left : Bool) (zs : List ℤ) (cs : List ℕ) (ns : List ℤ) (ws : List ℕ) (m : ℤ) (back far u v b f : ℕ) : Type 0 where
  pub around : Around back far b f
  pub sizes : u + v ≤ max_rating * length ns
  pub ups : (x : ℤ) → Beside m b f x → u ≡ up_to left zs cs ns ws x
  pub beyonds : (x : ℤ) → Beside m b f x → v ≡ beyond left zs cs ns ws x
