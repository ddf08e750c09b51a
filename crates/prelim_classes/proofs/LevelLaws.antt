-- Laws of the levels written one after another: the loop that writes them, the levels cut from them again, and their siblings.
-- Assumes nothing.
use Prim.Native.Nat.{ℕ, suc, ◌+◌, ◌-◌, ◌<◌, ◌≤◌}
use mathlib.Core.Path.{◌≡◌, refl, sym, ◌∙◌, ap}
use mathlib.Core.Bool.{Bool, true, false}
use mathlib.Core.Logic.{inl, inr}
use mathlib.Core.List.{List, [], ◌∷◌, ◌++◌, map, reverse, reverse-cons, append_assoc, append-nil}
use native.Mathlib.Omega.{arith}
use native.Mathlib.Numerals.{add-one}
use borrow.Author.Tests.{lt-ltb, le-ltb}
use lib.ListN.{length, get_or, take, drop, length-append, drop_of_length-le, get_or-append}
use lib.Seq.{drop-cons, sets, sets-eq, length-sets, length-take-le, take_at, drop_at, take_all, get_or-append-add}
use Rattle.ints.specs.inner.Members.{Mem}
use Rattle.ints.proofs.Laws.{cases}
use Rattle.plan.specs.Plan.{numbers, levels_from, Siblings, pairs_on, siblings_of}
use Rattle.plan.proofs.Sound.{mem-left, mem-right, mem-numbers}
use Rattle.ints.specs.Lists.{sum}
use Rattle.ints.proofs.Lists.{sum-on, sum-end}
use Rattle.prelim_classes.specs.inner.Walks.{cut}
use Rattle.prelim_classes.specs.inner.Links.{pairs_by}
use Rattle.prelim_classes.specs.inner.Arranged.{joined, followers, level_by, levels_by}
use Rattle.prelim_classes.proofs.ArrangeLaws.{level-long, level-below, followers-long}

-- ---- the loop
pub record Arranging (reversed : Bool) (sizes order right : List ℕ) (l from : ℕ) : Type 0 where
  pub left : from + sum (drop l sizes) ≡ length order
  pub orders : take from order ++ joined (levels_by reversed from (drop l sizes)) ≡ joined (levels_by reversed 0 sizes)
  pub rights : take from right ++ joined (map followers (levels_by reversed from (drop l sizes))) ≡ joined (map followers (levels_by reversed 0 sizes))

module _ (xs vs : List ℕ) (from : ℕ) (h : from + length vs ≤ length xs) where
  front_long : length (take from xs ++ vs) ≡ from + length vs
  front_long = length-append (take from xs) vs ∙ ap (λ (n : ℕ). n + length vs) (length-take-le from xs (omega arith))

  sets-is : sets xs from vs ≡ (take from xs ++ vs) ++ drop (from + length vs) xs
  sets-is = sets-eq vs xs from h

  pub sets-take : take (from + length vs) (sets xs from vs) ≡ take from xs ++ vs
  sets-take = ap (take (from + length vs)) sets-is ∙ take_at (take from xs ++ vs) (drop (from + length vs) xs) (from + length vs) front_long

  pub sets-part : take (length vs) (drop from (sets xs from vs)) ≡ vs
  sets-part = ap (λ (l : List ℕ). take (length vs) (drop from l)) (sets-eq vs xs from h ∙ append_assoc (take from xs) vs (drop (from + length vs) xs))
      ∙ ap (take (length vs)) (drop_at (take from xs) (vs ++ drop (from + length vs) xs) from (length-take-le from xs (omega arith)))
      ∙ take_at vs (drop (from + length vs) xs) (length vs) refl

level-first : (reversed : Bool) (sizes : List ℕ) (l from : ℕ) → l < length sizes → levels_by reversed from (drop l sizes) ≡ level_by reversed from (get_or sizes l 0) ∷ levels_by reversed (from + get_or sizes l 0) (drop (l + 1) sizes)
unfolding levels_by
level-first reversed sizes l from h = rw (add-one, drop-cons sizes l 0)

joined-first : (vs : List ℕ) (ls : List (List ℕ)) → joined (vs ∷ ls) ≡ vs ++ joined ls
unfolding joined
joined-first vs ls = refl

joined-none : joined [] ≡ []
unfolding joined
joined-none = refl

levels-none : (reversed : Bool) (sizes : List ℕ) (l from : ℕ) → length sizes ≤ l → levels_by reversed from (drop l sizes) ≡ []
unfolding levels_by
levels-none reversed sizes l from h = rw (drop_of_length-le sizes h)

module _ (reversed : Bool) (sizes order right : List ℕ) (l from : ℕ) (w : Arranging reversed sizes order right l from) where
  pub arrange-fits : l < length sizes → from + get_or sizes l 0 ≤ length order
  arrange-fits h = omega (arith, sum-on sizes l h, w.left)

  pub arrange-on : (n : ℕ) → l < length sizes → n ≡ get_or sizes l 0 → length right ≡ length order → (order' right' : List ℕ)
      → order' ≡ sets order from (level_by reversed from n) → right' ≡ sets right from (followers (take (from + n - from) (drop from order')))
      → Arranging reversed sizes order' right' (l + 1) (from + n)
  arrange-on n h e r order' right' o q =
      let lev = level_by reversed from n in
      let long = level-long reversed from n in
      let fits = arrange-fits h in
      let room : from + length lev ≤ length order = omega (arith, long) in
      let n-is : from + n - from ≡ n = omega arith in
      let part : take (from + n - from) (drop from order') ≡ lev =
      ap (λ (k : ℕ). take k (drop from order')) (n-is ∙ sym long) ∙ ap (λ (x : List ℕ). take (length lev) (drop from x)) o ∙ sets-part order lev from room in
      let rest = levels_by reversed (from + n) (drop (l + 1) sizes) in
      let first : levels_by reversed from (drop l sizes) ≡ lev ∷ rest = level-first reversed sizes l from h ∙ ap (λ (k : ℕ). level_by reversed from k ∷ levels_by reversed (from + k) (drop (l + 1) sizes)) (sym e) in
      let taken : take (from + n) order' ≡ take from order ++ lev =
      ap (λ (k : ℕ). take (from + k) order') (sym long) ∙ ap (take (from + length lev)) o ∙ sets-take order lev from room in
      let fl = followers-long lev in
      let room2 : from + length (followers lev) ≤ length right = omega (arith, long, fl) in
      let q2 : right' ≡ sets right from (followers lev) = q ∙ ap (λ (x : List ℕ). sets right from (followers x)) part in
      let taken2 : take (from + n) right' ≡ take from right ++ followers lev =
      ap (λ (k : ℕ). take (from + k) right') (sym (fl ∙ long)) ∙ ap (take (from + length (followers lev))) q2 ∙ sets-take right (followers lev) from room2 in
      record {
        left = omega (arith, sum-on sizes l h, w.left, ap length o ∙ length-sets order from lev);
        orders = ap (λ (x : List ℕ). x ++ joined rest) taken ∙ append_assoc (take from order) lev (joined rest)
            ∙ ap (λ (x : List ℕ). take from order ++ x) (sym (joined-first lev rest)) ∙ ap (λ (x : List (List ℕ)). take from order ++ joined x) (sym first) ∙ w.orders;
        rights = ap (λ (x : List ℕ). x ++ joined (map followers rest)) taken2 ∙ append_assoc (take from right) (followers lev) (joined (map followers rest))
            ∙ ap (λ (x : List ℕ). take from right ++ x) (sym (joined-first (followers lev) (map followers rest))) ∙ ap (λ (x : List (List ℕ)). take from right ++ joined (map followers x)) (sym first) ∙ w.rights;
      }

  module _ (h : length sizes ≤ l) (r : length right ≡ length order) where
    at-end : from ≡ length order
    at-end = omega (arith, sum-end sizes l h, w.left)

    pub arrange-orders : order ≡ joined (levels_by reversed 0 sizes)
    arrange-orders = sym (take_all from order (omega (arith, at-end))) ∙ sym (append-nil (take from order))
        ∙ ap (λ (x : List ℕ). take from order ++ x) (sym (ap joined (levels-none reversed sizes l from h) ∙ joined-none)) ∙ w.orders

    pub arrange-rights : right ≡ joined (map followers (levels_by reversed 0 sizes))
    arrange-rights = sym (take_all from right (omega (arith, at-end))) ∙ sym (append-nil (take from right))
        ∙ ap (λ (x : List ℕ). take from right ++ x) (sym (ap (λ (y : List (List ℕ)). joined (map followers y)) (levels-none reversed sizes l from h) ∙ joined-none)) ∙ w.rights

-- ---- the levels again
pub cut-joined : (reversed : Bool) (v : ℕ) (sizes : List ℕ) → cut sizes (joined (levels_by reversed v sizes)) ≡ levels_by reversed v sizes
unfolding cut levels_by joined
cut-joined reversed v [] = refl
cut-joined reversed v (n ∷ ns) =
    let lev = level_by reversed v n in
    let rest = joined (levels_by reversed (v + n) ns) in
    let long = level-long reversed v n in
    rw (take_at lev rest n long, drop_at lev rest n long) (ap (λ (x : List (List ℕ)). lev ∷ x) (cut-joined reversed (v + n) ns))

pub joined-long : (reversed : Bool) (v : ℕ) (sizes : List ℕ) → length (joined (levels_by reversed v sizes)) ≡ sum sizes
unfolding levels_by joined sum
joined-long reversed v [] = refl
joined-long reversed v (n ∷ ns) = length-append (level_by reversed v n) (joined (levels_by reversed (v + n) ns)) ∙ omega (arith, level-long reversed v n, joined-long reversed (v + n) ns)

-- every place has a vertex
pub joined-below : (reversed : Bool) (v : ℕ) (sizes : List ℕ) (m : ℕ) → v + sum sizes ≤ m → (i : ℕ) → i < sum sizes → get_or (joined (levels_by reversed v sizes)) i 0 < m
unfolding levels_by joined sum
joined-below reversed v [] m h i k = absurd (omega arith)
joined-below reversed v (n ∷ ns) m h i k =
    let lev = level_by reversed v n in
    let rest = joined (levels_by reversed (v + n) ns) in
    let long = level-long reversed v n in
    cases n i
    (λ o. let z : i ≡ length lev + (i - n) = omega (arith, long) in
    rw (z, get_or-append-add lev rest (i - n) 0) (joined-below reversed (v + n) ns m (omega arith) (i - n) (omega arith)))
    (λ o. rw (get_or-append lev rest 0 i (omega (arith, long))) (level-below reversed v n m (omega arith) i o))

-- every vertex has a place
mem-reverse : (xs : List ℕ) (v : ℕ) → Mem v xs → Mem v (reverse xs)
mem-reverse [] v m = absurd m
mem-reverse (x ∷ xs) v (inl e) = rw (reverse-cons x xs) (mem-right (reverse xs) (x ∷ []) v (inl e))
mem-reverse (x ∷ xs) v (inr m) = rw (reverse-cons x xs) (mem-left (reverse xs) (x ∷ []) v (mem-reverse xs v m))

level-mem : (reversed : Bool) (v n w : ℕ) → v ≤ w → w < v + n → Mem w (level_by reversed v n)
level-mem true v n w h k = mem-reverse (numbers v n) w (mem-numbers v n w h k)
level-mem false v n w h k = mem-numbers v n w h k

pub joined-mem : (reversed : Bool) (v : ℕ) (sizes : List ℕ) (w : ℕ) → v ≤ w → w < v + sum sizes → Mem w (joined (levels_by reversed v sizes))
unfolding levels_by joined sum
joined-mem reversed v [] w h k = absurd (omega arith)
joined-mem reversed v (n ∷ ns) w h k =
    let lev = level_by reversed v n in
    let rest = joined (levels_by reversed (v + n) ns) in
    cases (v + n) w
    (λ o. mem-right lev rest w (joined-mem reversed (v + n) ns w o (omega arith)))
    (λ o. mem-left lev rest w (level-mem reversed v n w h o))

mem_below : (m : ℕ) (vs : List ℕ) → ((i : ℕ) → i < length vs → get_or vs i 0 < m) → (w : ℕ) → Mem w vs → w < m
mem_below m [] h w k = absurd k
mem_below m (v ∷ vs) h w (inl e) = rw e (h 0 (omega arith))
mem_below m (v ∷ vs) h w (inr k) = mem_below m vs (λ i o. h (suc i) (omega arith)) w k

pub joined_in : (reversed : Bool) (v : ℕ) (sizes : List ℕ) (w : ℕ) → Mem w (joined (levels_by reversed v sizes)) → w < v + sum sizes
joined_in reversed v sizes w m =
    mem_below (v + sum sizes) (joined (levels_by reversed v sizes)) (λ i h. joined-below reversed v sizes (v + sum sizes) (omega arith) i (omega (arith, joined-long reversed v sizes))) w m

-- ---- the levels of a plan
pub levels-plain : (v : ℕ) (sizes : List ℕ) → levels_by false v sizes ≡ levels_from v sizes
unfolding levels_by levels_from
levels-plain v [] = refl
levels-plain v (n ∷ ns) = ap (λ (x : List (List ℕ)). numbers v n ∷ x) (levels-plain (v + n) ns)

pub levels-reversed : (v : ℕ) (sizes : List ℕ) → levels_by true v sizes ≡ map reverse (levels_from v sizes)
unfolding levels_by levels_from
levels-reversed v [] = refl
levels-reversed v (n ∷ ns) = ap (λ (x : List (List ℕ)). reverse (numbers v n) ∷ x) (levels-reversed (v + n) ns)

-- ---- their siblings
data AllBelow (n : ℕ) : List ℕ → Type 0 where
  none : AllBelow n []
  one : {v : ℕ} {vs : List ℕ} → v < n → AllBelow n vs → AllBelow n (v ∷ vs)

all-below : (n : ℕ) (vs : List ℕ) → ((i : ℕ) → i < length vs → get_or vs i 0 < n) → AllBelow n vs
all-below n [] h = none
all-below n (v ∷ vs) h = one (h 0 (omega arith)) (all-below n vs (λ i k. h (suc i) (omega arith)))

pairs-level : (n : ℕ) (vs rest rights : List ℕ) → n ≤ 1024 → AllBelow n vs → pairs_by n (vs ++ rest) (followers vs ++ rights) ≡ pairs_on vs ++ pairs_by n rest rights
unfolding pairs_by followers pairs_on
pairs-level n [] rest rights h none = refl
pairs-level n (v ∷ []) rest rights h (one b a) = let m : n ≤ 2048 = omega arith in rw (le-ltb 2048 n m)
pairs-level n (v ∷ w ∷ ws) rest rights h (one b (one d a)) =
    let more = pairs-level n (w ∷ ws) rest rights h (one d a) in
    rw (lt-ltb w n d) (ap (λ (x : List Siblings). record { left = v; right = w } ∷ x) more)

pub pairs-joined : (reversed : Bool) (n v : ℕ) (sizes : List ℕ) → n ≤ 1024 → v + sum sizes ≤ n
    → pairs_by n (joined (levels_by reversed v sizes)) (joined (map followers (levels_by reversed v sizes))) ≡ siblings_of (levels_by reversed v sizes)
unfolding levels_by joined siblings_of sum pairs_by
pairs-joined reversed n v [] h k = refl
pairs-joined reversed n v (s ∷ ss) h k =
    let lev = level_by reversed v s in
    let all = all-below n lev (λ i m. level-below reversed v s n (omega arith) i (omega (arith, level-long reversed v s))) in
    pairs-level n lev (joined (levels_by reversed (v + s) ss)) (joined (map followers (levels_by reversed (v + s) ss))) h all
    ∙ ap (λ (x : List Siblings). pairs_on lev ++ x) (pairs-joined reversed n (v + s) ss h (omega arith))
