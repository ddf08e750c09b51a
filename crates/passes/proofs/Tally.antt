-- How many visits a pass makes, and how many boxes the list of placings holds: a level has at most as many boxes as vertices, and a run
-- is placed at most twice. Assumes nothing.
use mathlib.Core.Path.{◌≡◌, refl, ◌∙◌, ap}
use mathlib.Core.List.{List, [], ◌∷◌, ◌++◌, map, reverse, reverse-cons, Memᴰ}
use mathlib.Core.Option.{Option}
use Prim.Native.Nat.{ℕ, zero, suc, ◌+◌, ◌*◌, ◌≤◌}
use native.Mathlib.Omega.{arith}
use lib.ListN.{length, length-append, length-map, length-reverse}
use Rattle.plan.specs.Plan.{PlanData, numbers}
use Rattle.ints.proofs.Lists.{take_more}
use Rattle.passes.specs.Runs.{Run, runs_on, runs_of_levels, runs_of}
use Rattle.plan.proofs.All.{All, all_nil, all_cons}
use Rattle.plan.proofs.Levels.{length-numbers, first-suc, size-suc, level-within}
use Rattle.plan.specs.inner.Levels.{first_on, size_on}
use Rattle.passes.proofs.Sound.{Sound}
use Rattle.passes.proofs.RunsOn.{RunsTo, last, next, level-runs, runs-length}
use Rattle.passes.specs.inner.Schedule.{visit_of, pass_visits, first_pass, second_pass}

-- ---- sums over levels
unfoldable pub sum_over : (ℕ → ℕ) → List ℕ → ℕ
sum_over f [] = 0
sum_over f (l ∷ ls) = f l + sum_over f ls

sum-append : (f : ℕ → ℕ) (ls ms : List ℕ) → sum_over f (ls ++ ms) ≡ sum_over f ls + sum_over f ms
unfolding sum_over
sum-append f [] ms = omega arith
sum-append f (l ∷ ls) ms = omega (arith, sum-append f ls ms)

sum-reverse : (f : ℕ → ℕ) (ls : List ℕ) → sum_over f (reverse ls) ≡ sum_over f ls
unfolding sum_over
sum-reverse f [] = refl
sum-reverse f (l ∷ ls) = ap (sum_over f) (reverse-cons l ls) ∙ omega (arith, sum-append f (reverse ls) (l ∷ []), sum-reverse f ls)

next-first : (p : PlanData) (k : ℕ) → first_on p (suc (suc k)) ≡ first_on p (suc k) + size_on p (suc k)
next-first p k = omega (arith, first-suc p (suc k), first-suc p k, size-suc p k, take_more p.sizes k)

sum-sizes : (p : PlanData) (k n : ℕ) → sum_over (size_on p) (numbers (suc k) n) + first_on p (suc k) ≡ first_on p (suc (k + n))
unfolding sum_over numbers
sum-sizes p k zero = let e : suc (k + 0) ≡ suc k = omega arith in omega (arith, ap (first_on p) e)
sum-sizes p k (suc n) = let e : suc (k + suc n) ≡ suc (suc k + n) = omega arith in let f : suc k + 1 ≡ suc (suc k) = omega arith in
    omega (arith, ap (first_on p) e, ap (λ l. sum_over (size_on p) (numbers l n)) f, sum-sizes p (suc k) n, next-first p k)

pub sizes-total : {p : PlanData} → Sound p → sum_over (size_on p) (numbers 1 p.levels) ≤ 1024
sizes-total {p} so = omega (arith, sum-sizes p 0 p.levels, level-within p (suc (0 + p.levels)), so.total, so.vertices)

-- ---- visits
visits-length : (p : PlanData) (q : ℕ) (ls : List ℕ) → length (pass_visits p q ls) ≤ sum_over (size_on p) ls + length ls
unfolding pass_visits sum_over
visits-length p q [] = omega arith
visits-length p q (l ∷ ls) = omega (arith, length-append (map (visit_of q) (runs_on p l)) (pass_visits p q ls), length-map (runs_on p l) (visit_of q), runs-length p l, visits-length p q ls)

pub first-length : {p : PlanData} → Sound p → length (first_pass p) ≤ 1088
unfolding first_pass
first-length {p} so = let d = numbers 1 p.levels in omega (arith, visits-length p 1 d, sizes-total so, length-numbers 1 p.levels, so.levels)

pub second-length : {p : PlanData} → Sound p → length (second_pass p) ≤ 1088
unfolding second_pass
second-length {p} so = let d = numbers 1 p.levels in
    omega (arith, visits-length p 2 (reverse d), sum-reverse (size_on p) d, length-reverse d, sizes-total so, length-numbers 1 p.levels, so.levels)

-- ---- boxes of all runs, each so often
unfoldable pub weigh : (Run → ℕ) → List Run → ℕ
weigh f [] = 0
weigh f (r ∷ rs) = f r * length r.boxes + weigh f rs

weigh-append : (f : Run → ℕ) (rs ts : List Run) → weigh f (rs ++ ts) ≡ weigh f rs + weigh f ts
unfolding weigh
weigh-append f [] ts = omega arith
weigh-append f (r ∷ rs) ts = omega (arith, weigh-append f rs ts)

pub weigh-plus : (f g : Run → ℕ) (rs : List Run) → weigh (λ r. f r + g r) rs ≡ weigh f rs + weigh g rs
unfolding weigh
weigh-plus f g [] = refl
weigh-plus f g (r ∷ rs) = omega (arith, weigh-plus f g rs)

pub weigh-mem : (f : Run → ℕ) {r : Run} {rs : List Run} → Memᴰ r rs → f r * length r.boxes ≤ weigh f rs
unfolding weigh
weigh-mem f {r} (Memᴰ.head {x = x} e) = let z : f r * length r.boxes ≡ f x * length x.boxes = ap (λ (y : Run). f y * length y.boxes) e in omega arith
weigh-mem f (Memᴰ.tail m) = omega (arith, weigh-mem f m)

pub weigh-twice : (f : Run → ℕ) {rs : List Run} → All (λ r. f r ≤ 2) rs → weigh f rs ≤ 2 * weigh (λ r. 1) rs
unfolding weigh
weigh-twice f all_nil = omega arith
weigh-twice f (all_cons {x = r} h hs) = omega (arith, twice (f r) (length r.boxes) h, weigh-twice f hs)
  where
    twice : (n m : ℕ) → n ≤ 2 → n * m ≤ 2 * m
    twice zero m h = omega arith
    twice (suc zero) m h = omega arith
    twice (suc (suc zero)) m h = omega arith
    twice (suc (suc (suc n))) m h = absurd (omega arith)

level-boxes : {p : PlanData} {l end k : ℕ} {left : Option ℕ} {first : ℕ} {rs : List Run} → RunsTo p l end k left first rs → weigh (λ r. 1) rs + first ≤ end
unfolding weigh
level-boxes (last {first = first} n e q) = omega (arith, length-numbers first n)
level-boxes (next {first = first} n v e f q t more) = omega (arith, length-numbers first n, level-boxes more)

boxes-levels : (p : PlanData) (ls : List ℕ) → weigh (λ r. 1) (runs_of_levels p ls) ≤ sum_over (size_on p) ls
unfolding runs_of_levels sum_over weigh
boxes-levels p [] = omega arith
boxes-levels p (l ∷ ls) = omega (arith, weigh-append (λ r. 1) (runs_on p l) (runs_of_levels p ls), level-boxes (level-runs p l), boxes-levels p ls)

pub boxes-total : {p : PlanData} → Sound p → weigh (λ r. 1) (runs_of p) ≤ 1024
unfolding runs_of
boxes-total {p} so = omega (arith, boxes-levels p (numbers 1 p.levels), sizes-total so)
