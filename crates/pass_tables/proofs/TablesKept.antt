-- Readiness on a level is read off marks of the preceding level, so a run placed on the level itself leaves the tables right.
-- Assumes nothing.
use Prim.Native.Nat.{ℕ, zero, suc, ◌+◌, ◌-◌, ◌<◌, ◌≤◌}
use mathlib.Core.Path.{◌≡◌, refl, sym, ◌∙◌, ap, subst}
use mathlib.Core.Bool.{Bool, false}
use mathlib.Core.List.{List}
use native.Mathlib.Omega.{arith}
use lib.ListN.{get_or, set}
use lib.Seq.{get_or-set_other}
use Rattle.plan.specs.Plan.{PlanData}
use Rattle.plan.specs.inner.Levels.{On}
use Rattle.pass_tables.specs.inner.Joins.{one_if, marked_in}
use Rattle.pass_tables.specs.inner.Moments.{Tables}

marks-same : (marks marks' : List Bool) (v n : ℕ) → ((u : ℕ) → v ≤ u → u < v + n → get_or marks' u false ≡ get_or marks u false) → marked_in marks v n ≡ marked_in marks' v n
unfolding marked_in
marks-same marks marks' v zero f = refl
marks-same marks marks' v (suc n) f = omega (arith, marks-same marks marks' v n (λ u h k. f u h (omega arith)), ap one_if (f (v + n) (omega arith) (omega arith)))

module _ {p : PlanData} {q l : ℕ} {first ends before after counts : List ℕ} {marks : List Bool} (t : Tables p q l first ends before after counts marks) where
  pub tables-kept : (marks' : List Bool) → ((v : ℕ) → t.low ≤ v → v < t.high → get_or marks' v false ≡ get_or marks v false) → Tables p q l first ends before after counts marks'
  tables-kept marks' same = record {
    low = t.low;
    high = t.high;
    range = t.range;
    left = t.left;
    right = t.right;
    counted = λ v h k. t.counted v h k ∙ marks-same marks marks' t.low (v - t.low) (λ u i j. same u i (omega arith));
    lefts = t.lefts;
    rights = t.rights;
    numbers = t.numbers;
  }

  pub tables-settled : (a : ℕ) → On p l a → Tables p q l first ends before after counts (set marks a false)
  tables-settled a o = tables-kept (set marks a false) (λ v h k. get_or-set_other marks a v false false (λ e. t.range.aside v h k (subst (On p l) (sym e) o)))
