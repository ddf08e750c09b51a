-- The sum of the two sides, entry by entry. Assumes nothing.
use Prim.Native.Nat.{ℕ, zero, suc, ◌<◌, ◌≤◌}
use mathlib.Core.Path.{◌≡◌, refl, sym, ◌∙◌, ap}
use mathlib.Core.Bool.{Bool, true, false}
use mathlib.Core.List.{List, [], ◌∷◌, map, reverse}
use native.Mathlib.Omega.{arith}
use lib.ListN.{length, get_or}
use lib.IntN.{ℤ, pos, neg_ℤ, ◌-ℤ◌}
use Rattle.plan.specs.Plan.{PlanData, levels_from, levels_of}
use Rattle.plan.specs.inner.Held.{HoldsPlan, SomePlan}
use Rattle.plan.specs.inner.Graph.{Within}
use Rattle.plan.proofs.HeldLaws.{held-bounds}
use Rattle.preliminary.specs.Positions.{positions_on, left_positions, right_positions, sums, preliminary}
use Rattle.prelim_classes.specs.inner.Strands.{StrandLists, StrungPlan}
use Rattle.prelim_classes.proofs.LevelLaws.{levels-plain, levels-reversed}
use Rattle.prelim_positions.specs.inner.Sides.{SideIs}

pub sums-long : (xs ys : List ℤ) → length xs ≡ length ys → length (sums xs (map neg_ℤ ys)) ≡ length xs
unfolding sums
sums-long [] ys e = refl
sums-long (x ∷ xs) [] e = absurd (omega arith)
sums-long (x ∷ xs) (y ∷ ys) e = ap suc (sums-long xs ys (omega arith))

pub sums_at : (xs ys : List ℤ) (i : ℕ) → length xs ≡ length ys → i < length xs → get_or (sums xs (map neg_ℤ ys)) i (pos 0) ≡ get_or xs i (pos 0) -ℤ get_or ys i (pos 0)
unfolding sums
sums_at [] ys i e h = absurd (omega arith)
sums_at (x ∷ xs) [] i e h = absurd (omega arith)
sums_at (x ∷ xs) (y ∷ ys) zero e h = refl
sums_at (x ∷ xs) (y ∷ ys) (suc i) e h = sums_at xs ys i (omega arith) (omega arith)

-- both sides make the preliminary positions
pub both-sides : (gap : ℕ) (sizes : List ℕ) (vias : List Bool) (halves uppers lowers next top : List ℕ) → StrandLists vias uppers lowers next top
    → (xs ys : List ℤ) → SideIs false gap sizes halves next top uppers lowers xs → SideIs true gap sizes halves next top uppers lowers ys
    → (p : PlanData) → HoldsPlan p gap sizes vias halves uppers lowers → sums xs (map neg_ℤ ys) ≡ preliminary p
unfolding preliminary left_positions right_positions levels_of
both-sides gap sizes vias halves uppers lowers next top w xs ys a b p q =
    let k : StrungPlan p gap sizes halves next top uppers lowers = record { vias = vias; held = q; strands = w } in
    let l : xs ≡ left_positions p = a.each p k ∙ ap (positions_on p) (levels-plain 0 sizes ∙ ap (λ (s : List ℕ). levels_from 0 s) (sym q.sizes_are)) in
    let r : map neg_ℤ ys ≡ right_positions p = ap (map neg_ℤ) (b.each p k ∙ ap (positions_on p) (levels-reversed 0 sizes ∙ ap (λ (s : List ℕ). map reverse (levels_from 0 s)) (sym q.sizes_are))) in
    ap (λ (z : List ℤ). sums z (map neg_ℤ ys)) l ∙ ap (sums (left_positions p)) r

-- what holds of a plan's lists
module _ (gap : ℕ) (sizes : List ℕ) (vias : List Bool) (halves uppers lowers : List ℕ) (s : SomePlan gap sizes vias halves uppers lowers) where
  pub plan-within : Within vias uppers lowers
  plan-within =
      let b = held-bounds s.plan gap sizes vias halves uppers lowers s.lists in
      record { vertices = b.few; segments = b.segments; ends = b.ends; upper = b.upper_ends; lower = b.lower_ends }

  pub plan-few : length vias ≤ 1024
  plan-few = plan-within.vertices
