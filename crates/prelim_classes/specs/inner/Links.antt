-- Links: lists of numbers that say for each index which one follows. A number that is no index ends the chain, so there is
-- room in them for "none".
use Rattle.std.specs.Prelude.{Bool, true, false, cond, List, [], ◌∷◌, ◌≡◌, ℕ, zero, suc, ◌+◌, ◌<◌, ◌≤◌, ltb, eqb, length, get_or}
use Rattle.std.proofs.Math.Option.{Option, none, some}
use Rattle.plan.specs.Plan.{Siblings}

-- The chain from v on, at most f numbers.
unfoldable pub along : List ℕ → ℕ → ℕ → List ℕ
along link zero v = []
along link (suc f) v =
    let more = v ∷ along link f (get_or link v 0) in
    cond (ltb v (length link)) more []

-- The whole chain from v on, where each link leads to a greater number.
abbrev pub chain : List ℕ → ℕ → List ℕ
chain link v = along link (length link) v

pub record RisingFrom (i : ℕ) (link : List ℕ) : Type 0 where
  pub rises : (v : ℕ) → i ≤ v → v < length link → v < get_or link v 0

abbrev pub Rising : List ℕ → Type 0
Rising link = RisingFrom 0 link

-- Whether v is in a list.
unfoldable pub among : ℕ → List ℕ → Bool
among v [] = false
among v (w ∷ ws) =
    let more = among v ws in
    cond (eqb w v) true more

-- What stands for "none": a number that is none of n.
abbrev pub or_none : ℕ → ℕ → Option ℕ
or_none n u = cond (ltb u n) (some u) none

-- At which places c is in a list, the first being i.
unfoldable pub positions : ℕ → ℕ → List ℕ → List ℕ
positions c i [] = []
positions c i (k ∷ ks) =
    let more = positions c (i + 1) ks in
    let here = i ∷ more in
    cond (eqb k c) here more

-- The places of each key as a chain: `head` has where it begins.
pub record Bucketed (keys head link : List ℕ) : Type 0 where
  pub long : length link ≡ length keys
  pub rising : Rising link
  pub each : (c : ℕ) → c < length head → chain link (get_or head c 0) ≡ positions c 0 keys

-- The sibling pairs of n vertices: `order` has the vertices level by level, `right` their right siblings, where a number that is no
-- vertex stands for "none".
unfoldable pub pairs_by : ℕ → List ℕ → List ℕ → List Siblings
pairs_by n [] ws = []
pairs_by n (v ∷ vs) [] = []
pairs_by n (v ∷ vs) (w ∷ ws) =
    let more = pairs_by n vs ws in
    let here : List Siblings = record { left = v; right = w } ∷ more in
    cond (ltb w n) here more
