-- What `own_numbers` says, as plain facts, and back. Assumes nothing.
use Prim.Native.Nat.{ℕ, ◌+◌, ◌-◌, ◌<◌, ◌≤◌}
use mathlib.Core.Path.{◌≡◌, refl, sym, ◌∙◌, ap}
use mathlib.Core.Bool.{true, ◌&&◌}
use mathlib.Core.List.{List, [], ◌∷◌, map}
use native.Mathlib.Omega.{arith}
use borrow.Author.Tests.{eq-eqb, eqb-true, le-ltb, lt-ltb, ltb-true}
use lib.Dec.{eqb, ltb}
use lib.ListN.{length, get_or}
use Rattle.ints.specs.Lists.{sum}
use Rattle.ints.proofs.Laws.{cases}
use Rattle.ints.proofs.Lists.{map-get_or}
use Rattle.ints.specs.Lists.{count_if}
use Rattle.ints.specs.inner.Members.{Mem}
use Rattle.sorting.specs.inner.Words.{Same}
use Rattle.ints.proofs.Members.{get_or-mem}
use Rattle.sorting.proofs.Counts.{same-sym, same_length, same-all}
use Rattle.plan.specs.Plan.{PlanData, vertex_count, numbers, level_in, level_of}
use Rattle.ints.specs.Lists.{count_of}
use Rattle.plan.specs.Checks.{every}
use Rattle.ints.proofs.Tests.{and_left, and_right, ◌and◌}
use Rattle.plan.proofs.Levels.{length-numbers, get-numbers}
use Rattle.plan.proofs.LevelLaws.{level-high}
use Rattle.plan.proofs.Sound.{every_in, every-make, mem-numbers, numbers-mem}
use Rattle.plan_renumber.specs.Renumber.{place_in, is_once, stays_on_level, own_numbers}
use Rattle.plan_renumber.specs.inner.Words.{Once}
use Rattle.plan_renumber.proofs.Places.{numbers-once, new-below, old-new}

-- a number that is no vertex is below the last level
pub level_out : (ns : List ℕ) (v : ℕ) → sum ns ≤ v → level_in ns v ≡ length ns + 1
unfolding level_in sum
level_out [] v h = omega arith
level_out (n ∷ ns) v h = rw (le-ltb v n (omega arith)) (omega (arith, level_out ns (v - n) (omega arith)))

pub record Own (p : PlanData) (m : List ℕ) : Type 0 where
  pub once : Once (vertex_count p) m
  pub level : (i : ℕ) → i < vertex_count p → level_of p (get_or m i 0) ≡ level_of p i

module _ (p : PlanData) (m : List ℕ) where
  -- what stays on a level is a vertex
  stays-in : sum p.sizes ≡ vertex_count p → (i : ℕ) → i < vertex_count p → level_of p (get_or m i 0) ≡ level_of p i → get_or m i 0 < vertex_count p
  unfolding level_of
  stays-in e i h l = cases (sum p.sizes) (get_or m i 0)
      (λ k. absurd (omega (arith, level_out p.sizes (get_or m i 0) k, level-high p.sizes i (omega arith))))
      (λ k. omega arith)

  pub own : sum p.sizes ≡ vertex_count p → own_numbers p m ≡ true → Own p m
  unfolding own_numbers
  own e t =
      let n = vertex_count p in
      let a = eqb (length m) n in
      let b = every (is_once m) (numbers 0 n) in
      let c = every (stays_on_level p m) (numbers 0 n) in
      let level : (i : ℕ) → i < n → level_of p (get_or m i 0) ≡ level_of p i = λ i h.
      eqb-true (level_of p (get_or m i 0)) (level_of p i) (every_in (stays_on_level p m) (numbers 0 n) i (and_right (a && b) c t) (mem-numbers 0 n i (omega arith) (omega arith))) in
      record {
        once = record {
          long = eqb-true (length m) n (and_left a b (and_left (a && b) c t));
          below = λ i h. stays-in e i h (level i h);
          once = λ v h. eqb-true (count_of v m) 1 (every_in (is_once m) (numbers 0 n) v (and_right a b (and_left (a && b) c t)) (mem-numbers 0 n v (omega arith) (omega arith)));
        };
        level = level;
      }

  pub own-test : Own p m → own_numbers p m ≡ true
  unfolding own_numbers
  own-test o =
      let n = vertex_count p in
      eq-eqb (length m) n o.once.long
      and every-make (is_once m) (numbers 0 n) (λ v k. eq-eqb (count_of v m) 1 (o.once.once v (omega (arith, numbers-mem 0 n v k))))
      and every-make (stays_on_level p m) (numbers 0 n) (λ i k. eq-eqb (level_of p (get_or m i 0)) (level_of p i) (o.level i (omega (arith, numbers-mem 0 n i k))))

  -- a vertex stays on its level
  pub new-level : Own p m → (v : ℕ) → v < vertex_count p → level_of p (place_in m v) ≡ level_of p v
  new-level o v h =
      sym (o.level (place_in m v) (new-below (vertex_count p) m o.once v h)) ∙ ap (level_of p) (old-new (vertex_count p) m o.once v h)

-- ---- a list with the same members as the numbers, and level by level the same levels
pub count-is : (v : ℕ) (xs : List ℕ) → count_of v xs ≡ count_if (λ x. eqb x v) xs
unfolding count_of
count-is v xs = refl

module _ (p : PlanData) (m : List ℕ) (s : Same m (numbers 0 (vertex_count p))) where
  pub same-below : (v : ℕ) → Mem v m → v < vertex_count p
  same-below v k =
      let n = vertex_count p in
      let below : (v : ℕ) → Mem v (numbers 0 n) → ltb v n ≡ true = λ v j. lt-ltb v n (omega (arith, numbers-mem 0 n v j)) in
      ltb-true v n (same-all (λ v. ltb v n) (numbers 0 n) m (same-sym s) below v k)

  pub same-own : map (λ v. level_of p v) m ≡ map (λ v. level_of p v) (numbers 0 (vertex_count p)) → Own p m
  same-own e =
      let n = vertex_count p in
      let long : length m ≡ n = same_length m (numbers 0 n) s ∙ length-numbers 0 n in
      record {
        once = record {
          long = long;
          below = λ i h. same-below (get_or m i 0) (get_or-mem m i 0 (omega arith));
          once = λ v h. count-is v m ∙ s.counts (λ x. eqb x v) ∙ sym (count-is v (numbers 0 n)) ∙ (numbers-once n).once v h;
        };
        level = λ i h.
            sym (map-get_or (λ v. level_of p v) m i 0 0 (omega arith)) ∙ ap (λ (l : List ℕ). get_or l i 0) e
            ∙ map-get_or (λ v. level_of p v) (numbers 0 n) i 0 0 (omega (arith, length-numbers 0 n)) ∙ ap (level_of p) (omega (arith, get-numbers 0 n i 0 h));
      }

-- the numbers themselves
pub own-numbers : (p : PlanData) → Own p (numbers 0 (vertex_count p))
own-numbers p = record {
  once = numbers-once (vertex_count p);
  level = λ i h. ap (level_of p) (omega (arith, get-numbers 0 (vertex_count p) i 0 h));
}
