-- "every bounded run between those two w's is settled" exactly if no vertex between them is marked, where a mark at a via says
-- that the bounded run on its right is unsettled. Assumes nothing.
use Prim.Native.Nat.{ℕ, suc, ◌+◌, ◌<◌, ◌≤◌}
use mathlib.Core.Path.{◌≡◌, refl, sym, ◌∙◌, ap, subst}
use mathlib.Core.Bool.{Bool, true, false, cond, not}
use mathlib.Core.List.{List}
use mathlib.Core.Option.{Option, none, some}
use native.Mathlib.Omega.{arith}
use borrow.Author.Tests.{leb-true, le-leb}
use lib.Dec.{leb}
use lib.ListN.{length, get_or}
use Rattle.ints.proofs.Laws.{if-ind, cases}
use Rattle.ints.proofs.Tests.{and_left, and_right, ◌and◌}
use Rattle.plan.specs.Plan.{PlanData, is_via}
use Rattle.plan.specs.Checks.{every}
use Rattle.passes.specs.Runs.{Run, runs_on, run_at, no_run}
use Rattle.passes.specs.State.{State}
use Rattle.passes.specs.Ready.{is_settled, lies_between, settled_between}
use Rattle.plan.proofs.All.{all_map, all-get, every-all, all-every, no_true}
use Rattle.plan.specs.inner.Levels.{On}
use Rattle.plan.proofs.Levels.{level-on}
use Rattle.passes.specs.inner.Runs.{IsRun}
use Rattle.passes.proofs.RunsOn.{bounds, runs-are}
use Rattle.passes.proofs.Edges.{left_at, right-at}
use Rattle.pass_tables.specs.inner.Moments.{Unsettled}

record Lies (u w : ℕ) (a b : Option ℕ) : Type 0 where
  pub left : ℕ
  pub right : ℕ
  pub left_is : a ≡ some left
  pub right_is : b ≡ some right
  pub low : u ≤ left
  pub high : right ≤ w

lies : (u w : ℕ) (a b : Option ℕ) → lies_between u w a b ≡ true → Lies u w a b
lies u w none b h = no_true h
lies u w (some a) none h = no_true h
lies u w (some a) (some b) h =
    record { left = a; right = b; left_is = refl; right_is = refl; low = leb-true u a (and_left (leb u a) (leb b w) h); high = leb-true b w (and_right (leb u a) (leb b w) h) }

not_back : (b : Bool) → not b ≡ false → b ≡ true
not_back true h = refl
not_back false h = no_true (sym h)

-- the via on the right stands after that on the left
ends-rise : {p : PlanData} {r : Run} (i : IsRun p r) (a b : ℕ) → r.left ≡ some a → r.right ≡ some b → (a < b) × (i.first ≡ suc a) × (b ≡ i.first + i.count)
ends-rise i a b e f = let x = left_at a i.begins e in let y = right-at b i.ends f in (omega arith, omega arith, omega arith)

module _ {p : PlanData} {s : State} {marks : List Bool} (m : Unsettled p s marks) (l u w : ℕ) (one : 1 ≤ l) (many : l ≤ p.levels) (ou : On p l u) (ow : On p l w) where
  pub unmarked-settled : ((v : ℕ) → u ≤ v → v < w → get_or marks v false ≡ false) → settled_between p s u w ≡ true
  unfolding settled_between
  unmarked-settled f = rw (level-on p l u one ou) (all-every _ (all_map (λ r i. settled r i) (runs-are p l one many)))
    where
      settled : (r : Run) → IsRun p r → cond (lies_between u w r.left r.right) (is_settled p s r) true ≡ true
      settled r i = if-ind (lies_between u w r.left r.right) (is_settled p s r) true (λ t. t ≡ true)
          (λ t. let z = lies u w r.left r.right t in let e = ends-rise i z.left z.right z.left_is z.right_is in
          not_back (is_settled p s r) (sym (m.each r i z.left z.right z.left_is z.right_is) ∙ f z.left z.low (omega (arith, z.high))))
          (λ t. refl)

  pub settled-unmarked : is_via p w ≡ true → settled_between p s u w ≡ true → (v : ℕ) → u ≤ v → v < w → get_or marks v false ≡ false
  unfolding settled_between run_at
  settled-unmarked iw h v j k = go (get_or marks v false) refl
    where
      marked : get_or marks v false ≡ true → false ≡ true
      marked e =
          let b = m.only v e in
          let r = b.run in
          let i = b.is in
          let x = ends-rise i v b.right b.left_is b.right_is in
          let d = bounds i in
          let same : r.level ≡ l = sym (level-on p r.level v i.one (record { from = omega (arith, d.from, left_at v i.begins b.left_is); to = omega (arith, d.to, d.right) }))
          ∙ level-on p l v one (record { from = omega (arith, ou.from); to = omega (arith, ow.to) }) in
          let below : b.right ≤ w = cases b.right w (λ q. q) (λ q. no_true (sym (i.plain w (omega arith) (omega arith)) ∙ iw)) in
          let between : lies_between u w r.left r.right ≡ true = rw (b.left_is, b.right_is) (◌and◌ (le-leb u v j) (le-leb b.right w below)) in
          let test : Run → Bool = λ r. cond (lies_between u w r.left r.right) (is_settled p s r) true in
          let all : every test (runs_on p l) ≡ true = rw (level-on p l u one ou) at h in
          let few : r.ordinal < length (runs_on p l) = subst (λ n. r.ordinal < length (runs_on p n)) same i.few in
          let at = all-get (runs_on p l) no_run (every-all test (runs_on p l) all) r.ordinal few in
          let told : get_or (runs_on p l) r.ordinal no_run ≡ r = subst (λ n. get_or (runs_on p n) r.ordinal no_run ≡ r) same i.told in
          let here : cond (lies_between u w r.left r.right) (is_settled p s r) true ≡ true = rw told at at in
          let done : is_settled p s r ≡ true = rw between at here in
          sym (m.each r i v b.right b.left_is b.right_is ∙ ap not done) ∙ e

      go : (t : Bool) → get_or marks v false ≡ t → get_or marks v false ≡ false
      go true e = no_true (marked e)
      go false e = e
