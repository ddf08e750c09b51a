-- Each box of the plan is in a run; where vias stand on both sides of it, the run is bounded and lies between them. Assumes nothing.
use mathlib.Core.Path.{◌≡◌, refl, sym, ◌∙◌, subst}
use mathlib.Core.Bool.{true, false}
use mathlib.Core.List.Memᴰ
use mathlib.Core.List.{List, Memᴰ}
use mathlib.Core.Logic.{⊎_elim}
use mathlib.Core.Option.{Option, some}
use Prim.Native.Nat.{ℕ, zero, suc, ◌+◌, ◌≤◌, ◌<◌}
use native.Mathlib.Omega.{arith}
use borrow.Author.Tests.{le-leb}
use lib.ListN.{length, get_or}
use Rattle.ints.proofs.Laws.{cases}
use Rattle.ints.proofs.Tests.{◌and◌}
use Rattle.plan.specs.Plan.{PlanData, is_via, numbers}
use Rattle.passes.specs.Runs.{Run, runs_on, no_run, both_vias, is_bounded}
use Rattle.passes.specs.Ready.{lies_between}
use Rattle.plan.proofs.All.{no_true}
use Rattle.plan.specs.inner.Levels.{first_on, size_on, On}
use Rattle.passes.specs.inner.Runs.{LeftEnd, no-left, via-left, RightEnd, no-right, via-right, IsRun}
use Rattle.passes.proofs.RunsOn.{RunsTo, last, next, level-runs}

-- ---- numbers
pub mem-numbers : (a n v : ℕ) → a ≤ v → v < a + n → Memᴰ v (numbers a n)
unfolding numbers
mem-numbers a zero v h k = absurd (omega arith)
mem-numbers a (suc n) v h k = cases v a (λ j. Memᴰ.head (omega arith)) (λ j. Memᴰ.tail (mem-numbers (a + 1) n v (omega arith) (omega arith)))

pub numbers-mem : (a n v : ℕ) → Memᴰ v (numbers a n) → (a ≤ v) × (v < a + n)
unfolding numbers
numbers-mem a zero v m = absurd (Memᴰ.not-nil m)
numbers-mem a (suc n) v m = ⊎_elim (λ (e : v ≡ a). (omega arith, omega arith)) (λ k. let r = numbers-mem (a + 1) n v k in (omega arith, omega arith)) (Memᴰ.cases_cons m)

-- ---- the run of a box
pub record Found (rs : List Run) (v : ℕ) : Type 0 where
  pub index : ℕ
  pub few : index < length rs
  pub box : Memᴰ v (get_or rs index no_run).boxes

find : {p : PlanData} {l end k : ℕ} {left : Option ℕ} {first : ℕ} {rs : List Run} (v : ℕ) → first ≤ v → v < end → is_via p v ≡ false → RunsTo p l end k left first rs → Found rs v
find v h j t (last {first = first} n e q) = record { index = 0; few = omega arith; box = mem-numbers first n v h (omega arith) }
find {p} v h j t (next {first = first} {rs = rs} n u e f q via more) = cases v u
    (λ i. cases u v (λ i'. let z : u ≡ v = omega arith in no_true (sym t ∙ subst (λ w. is_via p w ≡ true) z via))
    (λ i'. record { index = 0; few = omega arith; box = mem-numbers first n v h (omega arith) }))
    (λ i. let r = find v (omega arith) j t more in record { index = suc r.index; few = omega (arith, r.few); box = r.box })

pub found : (p : PlanData) (l v : ℕ) → On p l v → is_via p v ≡ false → Found (runs_on p l) v
found p l v o t = find v o.from o.to t (level-runs p l)

-- a box of a run, by its number
pub box-range : {p : PlanData} {r : Run} (i : IsRun p r) (v : ℕ) → Memᴰ v r.boxes → (i.first ≤ v) × (v < i.first + i.count)
box-range i v m = numbers-mem i.first i.count v (subst (Memᴰ v) i.boxes m)

-- ---- between two vias
two-vias : (u w : ℕ) (a b : Option ℕ) (x y : ℕ) → a ≡ some x → b ≡ some y → u ≤ x → y ≤ w → (both_vias a b ≡ true) × (lies_between u w a b ≡ true)
two-vias u w a b x y e f h k = (rw (e, f) refl, rw (e, f) (◌and◌ (le-leb u x h) (le-leb y w k)))

module _ {p : PlanData} {r : Run} (i : IsRun p r) (v : ℕ) (h : i.first ≤ v) (k : v < i.first + i.count) where
  left-of : {o : Option ℕ} {low first : ℕ} (u : ℕ) → LeftEnd p (first_on p r.level) o low first → first ≡ i.first → first_on p r.level ≤ u → u ≤ v → is_via p u ≡ true
      → (a : ℕ) × (o ≡ some a) × (u ≤ a)
  left-of u (no-left e f) z d j t = no_true (sym (i.plain u (omega arith) (omega arith)) ∙ t)
  left-of u (via-left {v = a} e f g t') z d j t = (a, refl, cases u a (λ n. n) (λ n. no_true (sym (i.plain u (omega arith) (omega arith)) ∙ t)))

  right_of : {o : Option ℕ} {past high : ℕ} (w : ℕ) → RightEnd p (first_on p r.level + size_on p r.level) o past high → past ≡ i.first + i.count → w < first_on p r.level + size_on p r.level → v ≤ w → is_via p w ≡ true
      → (b : ℕ) × (o ≡ some b) × (b ≤ w)
  right_of w (no-right e f) z d j t = no_true (sym (i.plain w (omega arith) (omega arith)) ∙ t)
  right_of w (via-right {v = b} e f g t') z d j t = (b, refl, cases b w (λ n. n) (λ n. no_true (sym (i.plain w (omega arith) (omega arith)) ∙ t)))

  pub between-vias : (u w : ℕ) → On p r.level u → On p r.level w → u ≤ v → v ≤ w → is_via p u ≡ true → is_via p w ≡ true → (is_bounded r ≡ true) × (lies_between u w r.left r.right ≡ true)
  between-vias u w a b c d s t = let l = left-of u i.begins refl a.from c s in let g = right_of w i.ends refl b.to d t in
      two-vias u w r.left r.right l.0 g.0 l.1 g.1 l.2 g.2
