-- Levels as stretches of vertex numbers: level l begins at vertex `first_on` and has `size_on` vertices, so two siblings are v and
-- v + 1 within one stretch. Assumes nothing.
use mathlib.Core.Path.{◌≡◌, refl, ◌∙◌, ap, subst}
use mathlib.Core.List.Memᴰ
use mathlib.Core.List.{List, [], ◌∷◌, ◌++◌, Memᴰ}
use Prim.Native.Nat.{ℕ, zero, suc, ◌+◌, ◌-◌, ◌≤◌, ◌<◌}
use native.Mathlib.Omega.{arith}
use lib.Dec.{ltb}
use borrow.Author.Tests.{ltb-true, ltb-false}
use lib.ListN.{length, get_or, take}
use Rattle.ints.proofs.Laws.{if-ind, cases}
use Rattle.plan.specs.Plan.{PlanData, numbers, levels_from, levels_of, level_at, level_in, level_of, Siblings, pairs_on, siblings_of}
use Rattle.plan.proofs.LevelLaws.{numbers-append}
use Rattle.ints.specs.Lists.{sum}
use Rattle.plan.proofs.All.{All, all_nil, all_cons, all_append}
use Rattle.plan.specs.inner.Levels.{first_on, size_on, On, HasLevel}

-- ---- numbers
pub length-numbers : (v n : ℕ) → length (numbers v n) ≡ n
unfolding numbers
length-numbers v zero = refl
length-numbers v (suc n) = ap suc (length-numbers (v + 1) n)

pub get-numbers : (v n i d : ℕ) → i < n → get_or (numbers v n) i d ≡ v + i
unfolding numbers
get-numbers v zero i d h = absurd (omega arith)
get-numbers v (suc n) zero d h = omega arith
get-numbers v (suc n) (suc i) d h = omega (arith, get-numbers (v + 1) n i d (omega arith))

pub numbers-snoc : (v n w : ℕ) → v + n ≡ w → numbers v (suc n) ≡ numbers v n ++ w ∷ []
unfolding numbers
numbers-snoc v n w e = let f : suc n ≡ n + 1 = omega arith in ap (numbers v) f ∙ numbers-append v n 1 ∙ ap (λ k. numbers v n ++ k ∷ []) e

pub all-numbers : {Q : ℕ → Type 0} (v n : ℕ) → ((w : ℕ) → v ≤ w → w < v + n → Q w) → All Q (numbers v n)
unfolding numbers
all-numbers v zero f = all_nil
all-numbers v (suc n) f = all_cons (f v (omega arith) (omega arith)) (all-numbers (v + 1) n (λ w h k. f w (omega arith) (omega arith)))

-- ---- where a level begins, and how many vertices it has

level-from : (v : ℕ) (ns : List ℕ) (k : ℕ) → get_or (levels_from v ns) k [] ≡ numbers (v + sum (take k ns)) (get_or ns k 0)
unfolding levels_from sum numbers
level-from v [] k = refl
level-from v (n ∷ ns) zero = let e : v ≡ v + 0 = omega arith in ap (λ w. numbers w n) e
level-from v (n ∷ ns) (suc k) = let e : v + n + sum (take k ns) ≡ v + (n + sum (take k ns)) = omega arith in
    level-from (v + n) ns k ∙ ap (λ w. numbers w (get_or ns k 0)) e

pub level-is : (p : PlanData) (l : ℕ) → level_at p l ≡ numbers (first_on p l) (size_on p l)
unfolding level_at levels_of first_on size_on
level-is p l = level-from 0 p.sizes (l - 1) ∙ ap (λ w. numbers w (get_or p.sizes (l - 1) 0)) (omega arith)

part-le : (ns : List ℕ) (k : ℕ) → sum (take k ns) + get_or ns k 0 ≤ sum ns
unfolding sum
part-le [] zero = omega arith
part-le [] (suc k) = omega arith
part-le (n ∷ ns) zero = omega arith
part-le (n ∷ ns) (suc k) = omega (arith, part-le ns k)

pub level-within : (p : PlanData) (l : ℕ) → first_on p l + size_on p l ≤ sum p.sizes
unfolding first_on size_on
level-within p l = part-le p.sizes (l - 1)

-- ---- vertex v stands on level l

pub level_in_lem : (ns : List ℕ) (k v : ℕ) → sum (take k ns) ≤ v → v < sum (take k ns) + get_or ns k 0 → level_in ns v ≡ suc k
unfolding level_in sum
level_in_lem [] zero v h j = absurd (omega arith)
level_in_lem [] (suc k) v h j = absurd (omega arith)
level_in_lem (n ∷ ns) zero v h j = if-ind (ltb v n) 1 (suc (level_in ns (v - n))) (λ w. w ≡ 1) (λ t. refl) (λ t. absurd (omega (arith, ltb-false v n t)))
level_in_lem (n ∷ ns) (suc k) v h j = if-ind (ltb v n) 1 (suc (level_in ns (v - n))) (λ w. w ≡ suc (suc k)) (λ t. absurd (omega (arith, ltb-true v n t)))
    (λ t. let g = ltb-false v n t in ap suc (level_in_lem ns k (v - n) (omega arith) (omega arith)))

pub level-on : (p : PlanData) (l v : ℕ) → 1 ≤ l → On p l v → level_of p v ≡ l
unfolding level_of first_on size_on
level-on p l v h o = omega (arith, level_in_lem p.sizes (l - 1) v o.from o.to)

pub first-suc : (p : PlanData) (k : ℕ) → first_on p (suc k) ≡ sum (take k p.sizes)
unfolding first_on
first-suc p k = let e : suc k - 1 ≡ k = omega arith in ap (λ j. sum (take j p.sizes)) e

pub size-suc : (p : PlanData) (k : ℕ) → size_on p (suc k) ≡ get_or p.sizes k 0
unfolding size_on
size-suc p k = let e : suc k - 1 ≡ k = omega arith in ap (λ j. get_or p.sizes j 0) e

record InLevel (ns : List ℕ) (v l : ℕ) : Type 0 where
  pub k : ℕ
  pub is : l ≡ suc k
  pub many : suc k ≤ length ns
  pub from : sum (take k ns) ≤ v
  pub to : v < sum (take k ns) + get_or ns k 0

in-level : (ns : List ℕ) (v : ℕ) → v < sum ns → InLevel ns v (level_in ns v)
unfolding level_in sum
in-level [] v h = absurd (omega arith)
in-level (n ∷ ns) v h = if-ind (ltb v n) 1 (suc (level_in ns (v - n))) (λ w. InLevel (n ∷ ns) v w)
    (λ t. let g = ltb-true v n t in record { k = 0; is = refl; many = omega arith; from = omega arith; to = omega arith })
    (λ t. let g = ltb-false v n t in let r = in-level ns (v - n) (omega arith) in
    record { k = suc r.k; is = ap suc r.is; many = omega arith; from = omega (arith, r.from); to = omega (arith, r.to) })

pub has-level : (p : PlanData) (v : ℕ) → v < sum p.sizes → HasLevel p v
unfolding level_of
has-level p v h = let r = in-level p.sizes v h in let f = first-suc p r.k in let g = size-suc p r.k in
    record { one = omega (arith, r.is); many = omega (arith, r.is, r.many); on = rw r.is (record { from = omega (arith, r.from); to = omega (arith, r.to) }) }

-- ---- v and v + 1 are siblings
pub record Side (p : PlanData) (v : ℕ) : Type 0 where
  pub level : ℕ
  pub one : 1 ≤ level
  pub from : first_on p level ≤ v
  pub to : suc v < first_on p level + size_on p level

pairs-all : {Q : Siblings → Type 0} (v n : ℕ) → ((w : ℕ) → v ≤ w → suc w < v + n → Q (record { left = w; right = suc w })) → All Q (pairs_on (numbers v n))
unfolding numbers pairs_on
pairs-all v zero f = all_nil
pairs-all v (suc zero) f = all_nil
pairs-all {Q} v (suc (suc n)) f = let e : suc v ≡ v + 1 = omega arith in
    all_cons (subst (λ w. Q (record { left = v; right = w })) e (f v (omega arith) (omega arith))) (pairs-all (v + 1) (suc n) (λ w h k. f w (omega arith) (omega arith)))

siblings-from : {Q : Siblings → Type 0} (v : ℕ) (ns : List ℕ)
    → ((k w : ℕ) → v + sum (take k ns) ≤ w → suc w < v + sum (take k ns) + get_or ns k 0 → Q (record { left = w; right = suc w })) → All Q (siblings_of (levels_from v ns))
unfolding siblings_of levels_from sum
siblings-from v [] f = all_nil
siblings-from v (n ∷ ns) f = all_append (pairs-all v n (λ w h k. f 0 w (omega arith) (omega arith)))
    (siblings-from (v + n) ns (λ k w h j. f (suc k) w (omega arith) (omega arith)))

-- what holds of every v with a sibling v + 1 holds of all siblings,
pub sides_all : (p : PlanData) {Q : Siblings → Type 0} → ((v : ℕ) → Side p v → Q (record { left = v; right = suc v })) → All Q (siblings_of (levels_of p))
unfolding levels_of
sides_all p f = siblings-from 0 p.sizes (λ k w h j. f w (record { level = suc k; one = omega arith; from = omega (arith, first-suc p k); to = omega (arith, first-suc p k, size-suc p k) }))

pair-mem : (v n w : ℕ) → v ≤ w → suc w < v + n → Memᴰ (record { left = w; right = suc w }) (pairs_on (numbers v n))
unfolding numbers pairs_on
pair-mem v zero w h k = absurd (omega arith)
pair-mem v (suc zero) w h k = absurd (omega arith)
pair-mem v (suc (suc n)) w h k = cases w v
    (λ j. let e : w ≡ v = omega arith in let f : suc w ≡ v + 1 = omega arith in Memᴰ.head (same w v (suc w) (v + 1) e f))
    (λ j. Memᴰ.tail (pair-mem (v + 1) (suc n) w (omega arith) (omega arith)))
  where
    same : (a b c d : ℕ) → a ≡ b → c ≡ d → ◌≡◌ {A = Siblings} (record { left = a; right = c }) (record { left = b; right = d })
    same a b c d e f = cc

sibling-mem : (v : ℕ) (ns : List ℕ) (k w : ℕ) → v + sum (take k ns) ≤ w → suc w < v + sum (take k ns) + get_or ns k 0 → Memᴰ (record { left = w; right = suc w }) (siblings_of (levels_from v ns))
unfolding siblings_of levels_from sum
sibling-mem v [] zero w h j = absurd (omega arith)
sibling-mem v [] (suc k) w h j = absurd (omega arith)
sibling-mem v (n ∷ ns) zero w h j = Memᴰ.append_left (siblings_of (levels_from (v + n) ns)) (pair-mem v n w (omega arith) (omega arith))
sibling-mem v (n ∷ ns) (suc k) w h j = Memᴰ.append_right (pairs_on (numbers v n)) (sibling-mem (v + n) ns k w (omega arith) (omega arith))

-- and the other way.
pub side-mem : (p : PlanData) (v : ℕ) → Side p v → Memᴰ (record { left = v; right = suc v }) (siblings_of (levels_of p))
unfolding levels_of first_on size_on
side-mem p v s = sibling-mem 0 p.sizes (s.level - 1) v (omega (arith, s.from)) (omega (arith, s.to))
