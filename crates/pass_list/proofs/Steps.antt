-- What the steps of a trace list. Assumes nothing.
use Prim.Native.Nat.{◌<◌}
use mathlib.Core.Path.{◌≡◌, refl, ◌∙◌, ap}
use mathlib.Core.List.{List, [], ◌∷◌, ◌++◌}
use native.Mathlib.Omega.{arith}
use lib.ListN.{length}
use Rattle.plan.specs.Plan.{PlanData}
use Rattle.passes.specs.Runs.{run_at}
use Rattle.passes.specs.State.{Step}
use Rattle.passes.specs.Drawing.{BoxAt, Placing, boxes_with, listed_before, listed}

before-append : (s : Step) (bs : List BoxAt) (a b : List Placing) → listed_before s bs (a ++ b) ≡ listed_before s bs a ++ b
before-append s [] a b = refl
before-append s (c ∷ bs) a b = refl

pub listed-append : (p : PlanData) (ss ts : List Step) → listed p (ss ++ ts) ≡ listed p ss ++ listed p ts
unfolding listed
listed-append p [] ts = refl
listed-append p (s ∷ ss) ts = let bs = boxes_with (run_at p s.level s.ordinal).boxes s.positions in
    ap (listed_before s bs) (listed-append p ss ts) ∙ before-append s bs (listed p ss) (listed p ts)

-- ---- one step
pub before-some : (s : Step) (bs : List BoxAt) → 0 < length bs → listed_before s bs [] ≡ record { pass = s.pass; level = s.level; boxes = bs } ∷ []
before-some s [] h = absurd (omega arith)
before-some s (b ∷ bs) h = refl

pub before-none : (s : Step) (bs : List BoxAt) → length bs ≡ 0 → listed_before s bs [] ≡ []
before-none s [] h = refl
before-none s (b ∷ bs) h = absurd (omega arith)
