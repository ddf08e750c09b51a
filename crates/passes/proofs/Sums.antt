-- The sum of a run's distances: small in pass 1; in pass 2 what the run spanned after pass 1. Assumes nothing.
use mathlib.Core.Path.{◌≡◌, refl, ◌∙◌, ap}
use mathlib.Core.Bool.{false}
use mathlib.Core.List.{List, [], ◌∷◌}
use Prim.Native.Nat.{ℕ, zero, suc, ◌+◌, ◌-◌, ◌*◌, ◌≤◌, ◌<◌}
use native.Mathlib.Omega.{arith}
use lib.ListN.{get_or}
use lib.IntN.{ℤ, ◌-ℤ◌}
use Rattle.ints.specs.Ints.{P, N, ◌⊑◌}
use Rattle.ints.proofs.Laws.{dif, apart, cases}
use Rattle.plan.specs.Plan.{PlanData, levels_of}
use Rattle.passes.specs.Runs.{Run, is_bounded}
use Rattle.passes.specs.State.{State, position_of, doubled, doubled_on, doubled_in, start_at}
use Rattle.passes.specs.Passes.{placed}
use Rattle.plan.proofs.All.{All, all_nil, all_cons, all_append}
use Rattle.passes.proofs.Sound.{Sound}
use Rattle.passes.specs.inner.Runs.{IsRun}
use Rattle.passes.proofs.RunsOn.{bounds}
use Rattle.passes.proofs.Placing.{side-of}
use Rattle.passes.proofs.Schedule.{ToRuns, Other}
use Rattle.passes.specs.inner.Schedule.{Visit, visit_all, start}
use Rattle.passes.proofs.Located.{Twice}
use Rattle.passes.proofs.Frame.{pairs-kept, pair-still}
use Rattle.passes.proofs.Distances.{second-apart, before1, after1, earlier-runs, since-runs, past_is, reached-after1}
use Rattle.passes.proofs.Growth.{LiesAt, total}
use Rattle.passes.proofs.Preliminary.{Preliminary}

-- ---- at the start no distance is above 1,000
doubled-small : {p : PlanData} → Sound p → (vs : List ℕ) → All (λ d. d ≤ 1000) (doubled_on p vs)
unfolding doubled_on
doubled-small so [] = all_nil
doubled-small so (v ∷ []) = all_cons {x = 0} (omega arith) all_nil
doubled-small {p} so (v ∷ w ∷ ws) = all_cons {x = doubled p v w} (omega (arith, so.halves v, so.halves w, so.gap)) (doubled-small so (w ∷ ws))

all_small : {p : PlanData} → Sound p → (ls : List (List ℕ)) → All (λ d. d ≤ 1000) (doubled_in p ls)
unfolding doubled_in
all_small so [] = all_nil
all_small so (l ∷ ls) = all_append (doubled-small so l) (all_small so ls)

get-small : (n : ℕ) {ds : List ℕ} (v : ℕ) → All (λ d. d ≤ n) ds → get_or ds v 0 ≤ n
get-small n v all_nil = omega arith
get-small n zero (all_cons h hs) = h
get-small n (suc v) (all_cons h hs) = get-small n v hs

pub start_small : {p : PlanData} → Sound p → (v : ℕ) → get_or (start p).apart v 0 ≤ 1000
unfolding start_at
start_small {p} so v = get-small 1000 v (all_small so (levels_of p))

-- ---- sums
total-small : (ds : List ℕ) (a n : ℕ) → ((v : ℕ) → a ≤ v → v < a + n → get_or ds v 0 ≤ 1000) → total ds a n ≤ 1000 * n
unfolding total
total-small ds a zero f = omega arith
total-small ds a (suc n) f = omega (arith, f a (omega arith) (omega arith), total-small ds (a + 1) n (λ v h k. f v (omega arith) (omega arith)))

total-none : (ds : List ℕ) (a : ℕ) → total ds a 0 ≡ 0
unfolding total
total-none ds a = refl

total-snoc : (ds : List ℕ) (a n : ℕ) → total ds a (suc n) ≡ total ds a n + get_or ds (a + n) 0
unfolding total
total-snoc ds a zero = let e : a ≡ a + 0 = omega arith in omega (arith, ap (λ v. get_or ds v 0) e)
total-snoc ds a (suc n) = let e : a + 1 + n ≡ a + suc n = omega arith in omega (arith, total-snoc ds (a + 1) n, ap (λ v. get_or ds v 0) e)

-- differences add up to the last less the first
telescope : (x : ℕ → ℤ) (ds : List ℕ) (a n : ℕ) → ((v : ℕ) → a ≤ v → v < a + n → (get_or ds v 0 ≡ P (x (suc v) -ℤ x v)) × (x v ⊑ x (suc v))) → P (x a) + N (x (a + n)) + total ds a n ≡ P (x (a + n)) + N (x a)
unfolding total
telescope x ds a zero f = let e : a ≡ a + 0 = omega arith in omega (arith, ap (λ v. P (x v)) e, ap (λ v. N (x v)) e)
telescope x ds a (suc n) f = let e : a + 1 + n ≡ a + suc n = omega arith in let g : suc a ≡ a + 1 = omega arith in let h = f a (omega arith) (omega arith) in
    let r = telescope x ds (a + 1) n (λ v i j. f v (omega arith) (omega arith)) in
    omega (arith, ap (λ v. P (x v)) e, ap (λ v. N (x v)) e, ap (λ v. P (x v)) g, ap (λ v. N (x v)) g, dif (x (suc a)) (x a), apart (x (suc a) -ℤ x a))

-- ---- pass 1
module _ {p : PlanData} (so : Sound p) {r : Run} (i : IsRun p r) {past : List Visit} (js : ToRuns p past) where
  pub first-total : All (Other r) past → total (visit_all p past (start p)).apart i.low (i.first - i.low + i.count) ≤ 64000
  first-total os = let b = bounds i in let k = so.small r.level in
      omega (arith, total-small (visit_all p past (start p)).apart i.low (i.first - i.low + i.count) (λ v h j. let e = pairs-kept i v (start p) h (omega arith) js os in omega (arith, start_small so v)))

-- ---- pass 2
module _ {p : PlanData} (so : Sound p) (pre : Preliminary p) {r : Run} (i : IsRun p r) {past : List Visit} (js : ToRuns p past) (b : is_bounded r ≡ false) (t : Twice p r past) where
  -- the last vertex of a level has no sibling: its entry never changes
  last-small : (v : ℕ) → i.low ≤ v → v < i.first + i.count → i.high ≤ suc v → get_or (visit_all p past (start p)).apart v 0 ≤ 1000
  last-small v h k l = let B = before1 so pre i js b t in
      let e : get_or (visit_all p past (start p)).apart v 0 ≡ get_or (start p).apart v 0 =
      ap (λ (s : State). get_or s.apart v 0) (past_is so pre i js b t) ∙ pairs-kept i v (after1 so pre i js b t) h k (since-runs so pre i js b t) t.none_since
      ∙ pair-still i 1 (placed p 1 B r) B v (λ m n. absurd (omega arith)) ∙ pairs-kept i v (start p) h k (earlier-runs so pre i js b t) t.none_earlier in
      omega (arith, start_small so v)

  pub second-total : (Q : ℕ) → LiesAt Q (after1 so pre i js b t) → total (visit_all p past (start p)).apart i.low (i.first - i.low + i.count) ≤ 2 * Q + 1000
  second-total Q l =
      let c = bounds i in let ds = (visit_all p past (start p)).apart in let x = position_of (after1 so pre i js b t).at in
      let pairs : (n : ℕ) → i.low + n < i.high → total ds i.low n ≤ 2 * Q = λ n h.
      omega (
        arith,
        telescope x ds i.low n (λ v g j. (second-apart so pre i js b t v g (omega arith), omega (arith, (reached-after1 so pre i js b t).inv.spaced v (side-of i v g (omega arith))))),
        (l.at (i.low + n)).right,
        (l.at i.low).left,
      ) in
      go pairs (i.first - i.low + i.count) refl
    where
      go : ((n : ℕ) → i.low + n < i.high → total (visit_all p past (start p)).apart i.low n ≤ 2 * Q) → (n : ℕ) → i.first - i.low + i.count ≡ n
          → total (visit_all p past (start p)).apart i.low (i.first - i.low + i.count) ≤ 2 * Q + 1000
      go pairs zero e = omega (arith, ap (total (visit_all p past (start p)).apart i.low) e, total-none (visit_all p past (start p)).apart i.low)
      go pairs (suc n) e = let c = bounds i in let ds = (visit_all p past (start p)).apart in let z = ap (total ds i.low) e in
          cases i.high (i.low + suc n)
          (λ h. omega (arith, z, total-snoc ds i.low n, pairs n (omega arith), last-small (i.low + n) (omega arith) (omega arith) (omega arith)))
          (λ h. omega (arith, z, pairs (suc n) h))
