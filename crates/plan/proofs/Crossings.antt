-- Check 6 by walks: where check 4 holds, two inner segments cross exactly if the walk of some level comes to a descent. Segments are
-- sorted by upper end, so of two that cross the one with the upper end on the left comes first, and both stand in the walk of
-- one level. Where check 3 holds too, one walk may go on over all levels. Assumes nothing.
use Prim.Native.Nat.{ℕ, ◌+◌, ◌<◌, ◌≤◌}
use mathlib.Core.Path.{◌≡◌, refl, sym, ◌∙◌, ap}
use mathlib.Core.Bool.{Bool, true, false, cond, not, ◌&&◌}
use mathlib.Core.List.{List, [], ◌∷◌}
use native.Mathlib.Omega.{arith}
use borrow.Author.Tests.{lt-ltb, le-ltb, eq-eqb, ltb-true, eqb-true}
use lib.Dec.{ltb, eqb}
use Rattle.ints.specs.Lists.{chosen}
use Rattle.ints.proofs.Laws.{cases, if-ind}
use Rattle.ints.proofs.Tests.{test, and_left, and_right, cond-left, cond-right}
use Rattle.plan.specs.Plan.{PlanData, level_of}
use Rattle.plan.specs.Segments.{Segment, segments_of, is_inner, inner_in, inner_segments}
use Rattle.plan.specs.Checks.{any, goes_one_down, check3, comes_before, rising, check4, crosses, check6}
use Rattle.plan.specs.Walk.{inner_below, walk_from, walk}
use Rattle.plan.proofs.All.{All, all_nil, all_cons, all_map, all_tail, every-all, no_true}
use Rattle.plan.proofs.GraphLaws.{Down, down-of}
use Rattle.plan.proofs.LevelLaws.{level-rises}

-- ---- Bool
not-true : (b : Bool) → not b ≡ true → b ≡ false
not-true true e = no_true e
not-true false e = refl

-- ---- what holds of every member, and of every two in their order
pub data Pairs {A : Type 0} (R : A → A → Type 0) : List A → Type 0 where
  pairs-none : Pairs R []
  pairs-more : {x : A} {xs : List A} → All (R x) xs → Pairs R xs → Pairs R (x ∷ xs)

all_both : {A : Type 0} {P Q : A → Type 0} {xs : List A} → All P xs → All Q xs → All (λ x. P x × Q x) xs
all_both all_nil all_nil = all_nil
all_both (all_cons h k) (all_cons h' k') = all_cons (h, h') (all_both k k')

some-none : {A : Type 0} (t : A → Bool) (xs : List A) → any t xs ≡ false → All (λ x. t x ≡ false) xs
unfolding any
some-none t [] e = all_nil
some-none t (x ∷ xs) e = go (t x) refl e (some-none t xs)
  where
    go : (b : Bool) → t x ≡ b → cond b true (any t xs) ≡ false → (any t xs ≡ false → All (λ y. t y ≡ false) xs) → All (λ y. t y ≡ false) (x ∷ xs)
    go true q h more = let z : ◌≡◌ {A = ℕ} 0 1 = cc in absurd (omega arith)
    go false q h more = all_cons q (more h)

pub none-some : {A : Type 0} (t : A → Bool) {xs : List A} → All (λ x. t x ≡ false) xs → any t xs ≡ false
unfolding any
none-some t all_nil = refl
none-some t (all_cons h k) = rw (h, none-some t k)

pairs-with : {A : Type 0} {P : A → Type 0} {R : A → A → Type 0} {xs : List A} → All P xs → Pairs R xs → Pairs (λ x y. (P x × P y) × R x y) xs
pairs-with all_nil pairs-none = pairs-none
pairs-with (all_cons p ps) (pairs-more r rs) = pairs-more (all_map (λ y w. ((p, w.0), w.1)) (all_both ps r)) (pairs-with ps rs)

-- what holds both ways of every two, and of each with itself, holds of any two
any-two : {A : Type 0} {R : A → A → Type 0} {xs : List A} → ((x : A) → R x x) → Pairs (λ x y. R x y × R y x) xs → All (λ x. All (R x) xs) xs
any-two r pairs-none = all_nil
any-two r (pairs-more {x} h k) = all_cons
    (all_cons (r x) (all_map (λ y w. w.0) h))
    (all_map (λ y w. all_cons w.0.1 w.1) (all_both h (any-two r k)))

-- and what holds of any two holds of every two in their order
in_order : {A : Type 0} {R : A → A → Type 0} (xs : List A) → All (λ x. All (R x) xs) xs → Pairs R xs
in_order [] all_nil = pairs-none
in_order (x ∷ xs) (all_cons h m) = pairs-more (all_tail h) (in_order xs (all_map (λ y w. all_tail w) m))

pairs-map : {A : Type 0} {R S : A → A → Type 0} {xs : List A} → ((x y : A) → R x y → S x y) → Pairs R xs → Pairs S xs
pairs-map f pairs-none = pairs-none
pairs-map f (pairs-more {x} h k) = pairs-more (all_map (λ y w. f x y w) h) (pairs-map f k)

pairs-both : {A : Type 0} {R S : A → A → Type 0} {xs : List A} → Pairs R xs → Pairs S xs → Pairs (λ x y. R x y × S x y) xs
pairs-both pairs-none pairs-none = pairs-none
pairs-both (pairs-more h k) (pairs-more h' k') = pairs-more (all_both h h') (pairs-both k k')

-- ---- segments in order
pub record Before (s t : Segment) : Type 0 where
  pub le : s.upper ≤ t.upper
  pub lt : s.upper ≡ t.upper → s.lower < t.lower

before_of : (s t : Segment) → comes_before s t ≡ true → Before s t
before_of s t e = cases t.upper s.upper
    (λ h. let both = rw (le-ltb s.upper t.upper h) at e in
    let same = eqb-true s.upper t.upper (and_left (eqb s.upper t.upper) (ltb s.lower t.lower) both) in
    let less = ltb-true s.lower t.lower (and_right (eqb s.upper t.upper) (ltb s.lower t.lower) both) in
    record { le = omega arith; lt = λ q. less })
    (λ h. record { le = omega arith; lt = λ q. absurd (omega arith) })

before-trans : {s t u : Segment} → Before s t → Before t u → Before s u
before-trans a b = record { le = omega arith; lt = λ q. omega (arith, a.lt (omega arith), b.lt (omega arith)) }

pairs-head : {A : Type 0} {R : A → A → Type 0} {x : A} {xs : List A} → Pairs R (x ∷ xs) → All (R x) xs
pairs-head (pairs-more h k) = h

pub sorted : (ss : List Segment) → rising ss ≡ true → Pairs Before ss
unfolding rising
sorted [] e = pairs-none
sorted (s ∷ []) e = pairs-more all_nil pairs-none
sorted (s ∷ t ∷ ss) e =
    let b = before_of s t (cond-left (comes_before s t) (rising (t ∷ ss)) e) in
    let more = sorted (t ∷ ss) (cond-right (comes_before s t) (rising (t ∷ ss)) e) in
    pairs-more (all_cons b (all_map (λ u h. before-trans b h) (pairs-head more))) more

-- ---- of the members that pass a test holds what holds of all
module _ {A : Type 0} (t : A → Bool) where
  pub chosen-all : {P : A → Type 0} {xs : List A} → All P xs → All P (chosen t xs)
  unfolding chosen
  chosen-all all_nil = all_nil
  chosen-all {P} (all_cons {x = x} {xs = xs} h k) =
      if-ind (t x) (x ∷ chosen t xs) (chosen t xs) (λ l. All P l) (λ e. all_cons h (chosen-all k)) (λ e. chosen-all k)

  chosen-pairs : {R : A → A → Type 0} {xs : List A} → Pairs R xs → Pairs R (chosen t xs)
  unfolding chosen
  chosen-pairs pairs-none = pairs-none
  chosen-pairs {R} (pairs-more {x = x} {xs = xs} h k) =
      if-ind (t x) (x ∷ chosen t xs) (chosen t xs) (λ l. Pairs R l) (λ e. pairs-more (chosen-all h) (chosen-pairs k)) (λ e. chosen-pairs k)

  chosen-same : (xs : List A) → All (λ x. t x ≡ true) (chosen t xs)
  unfolding chosen
  chosen-same [] = all_nil
  chosen-same (x ∷ xs) = if-ind (t x) (x ∷ chosen t xs) (chosen t xs) (All (λ y. t y ≡ true)) (λ e. all_cons e (chosen-same xs)) (λ e. chosen-same xs)

  -- and what holds of these holds of all that pass
  all-chosen : {P : A → Type 0} (xs : List A) → All P (chosen t xs) → All (λ x. t x ≡ true → P x) xs
  unfolding chosen
  all-chosen [] h = all_nil
  all-chosen {P} (x ∷ xs) h = go (t x) refl h (all-chosen xs)
    where
      go : (b : Bool) → t x ≡ b → All P (cond b (x ∷ chosen t xs) (chosen t xs)) → (All P (chosen t xs) → All (λ y. t y ≡ true → P y) xs)
          → All (λ y. t y ≡ true → P y) (x ∷ xs)
      go true q (all_cons k ks) more = all_cons (λ e. k) (more ks)
      go false q ks more = all_cons (λ e. no_true (sym q ∙ e)) (more ks)

  tail-pairs : {R : A → A → Type 0} (x : A) (xs : List A) → Pairs R (chosen t (x ∷ xs)) → Pairs R (chosen t xs)
  unfolding chosen
  tail-pairs {R} x xs h = go (t x) h
    where
      go : (b : Bool) → Pairs R (cond b (x ∷ chosen t xs) (chosen t xs)) → Pairs R (chosen t xs)
      go true (pairs-more k ks) = ks
      go false ks = ks

-- what holds of every two of each group, in their order, holds of every two of one group
pairs-each : {A : Type 0} {R : A → A → Type 0} (group : A → ℕ) (xs : List A) → ((l : ℕ) → Pairs R (chosen (λ x. eqb (group x) l) xs))
    → Pairs (λ x y. group y ≡ group x → R x y) xs
unfolding chosen
pairs-each group [] h = pairs-none
pairs-each {A} {R} group (x ∷ xs) h =
    let same : A → Bool = λ y. eqb (group y) (group x) in
    let here = h (group x) in
    let first : Pairs R (x ∷ chosen same xs) = rw (eq-eqb (group x) (group x) refl) at here in
    pairs-more
    (all_map (λ y k e. k (eq-eqb (group y) (group x) e)) (all-chosen same xs (pairs-head first)))
    (pairs-each group xs (λ l. tail-pairs (λ y. eqb (group y) l) x xs (h l)))

pub inner-chosen : (p : PlanData) (ss : List Segment) → inner_in p ss ≡ chosen (is_inner p) ss
unfolding inner_in chosen
inner-chosen p [] = refl
inner-chosen p (s ∷ ss) = rw (inner-chosen p ss)

-- ---- two segments that cross, of two in order
cond-false : (c : Bool) → cond c false false ≡ false
cond-false true = refl
cond-false false = refl

module _ (p : PlanData) where
  abbrev level : Segment → ℕ
  level s = level_of p s.upper

  fall-crosses : (s t : Segment) → Before s t → level s ≡ level t → t.lower < s.lower → crosses p s t ≡ true
  unfolding crosses
  fall-crosses s t b same h =
      let less : s.upper < t.upper = cases t.upper s.upper (λ k. absurd (omega (arith, b.lt (omega arith)))) (λ k. k) in
      rw (lt-ltb s.upper t.upper less, lt-ltb t.lower s.lower h, eq-eqb (level s) (level t) same)

  no-fall : (s t : Segment) → Before s t → crosses p s t ≡ false → level t ≡ level s → s.lower ≤ t.lower
  no-fall s t b c e = cases s.lower t.lower (λ k. k) (λ k. no_true (sym c ∙ fall-crosses s t b (sym e) k))

  rise-apart : (s t : Segment) → Before s t → (level t ≡ level s → s.lower ≤ t.lower) → (crosses p s t ≡ false) × (crosses p t s ≡ false)
  unfolding crosses
  rise-apart s t b h = (
    test (eqb (level s) (level t))
        (λ e. let up = h (sym (eqb-true (level s) (level t) e)) in
        cases t.upper s.upper
        (λ k. rw (le-ltb s.upper t.upper k))
        (λ k. rw (lt-ltb s.upper t.upper k, le-ltb t.lower s.lower up)))
        (λ e. rw e (cond-false (ltb s.upper t.upper && ltb t.lower s.lower))),
    rw (le-ltb t.upper s.upper b.le),
  )

  self-apart : (s : Segment) → crosses p s s ≡ false
  unfolding crosses
  self-apart s = rw (le-ltb s.upper s.upper (omega arith))

  -- ---- a walk that comes to no descent
  risen : (n last : ℕ) (ss : List Segment) → (walk_from n last ss).crossed ≡ false → All (λ t. last ≤ t.lower) ss × Pairs (λ s t. s.lower ≤ t.lower) ss
  unfolding walk_from
  risen n last [] e = (all_nil, pairs-none)
  risen n last (s ∷ ss) e = cases last s.lower
      (λ h. let more = risen (n + 1) s.lower ss (rw (le-ltb s.lower last h) at e) in
      (all_cons h (all_map (λ t k. omega arith) more.0), pairs-more more.0 more.1))
      (λ h. no_true (sym (rw (lt-ltb s.lower last h) at e)))

  rises : (n last : ℕ) (ss : List Segment) → Pairs (λ s t. s.lower ≤ t.lower) ss → All (λ t. last ≤ t.lower) ss → (walk_from n last ss).crossed ≡ false
  unfolding walk_from
  rises n last [] up h = refl
  rises n last (s ∷ ss) (pairs-more up ups) (all_cons h hs) = rw (le-ltb s.lower last h) (rises (n + 1) s.lower ss ups up)

  -- ---- both ways
  inner-sorted : check4 p ≡ true → Pairs Before (inner_segments p)
  unfolding check4 inner_segments
  inner-sorted c4 = rw inner-chosen (chosen-pairs (is_inner p) (sorted (segments_of p) c4))

  -- check 6 asks of any two inner segments from one level, in their order, that the lower end of the second stands no further left
  abbrev Uncrossed : Segment → Segment → Type 0
  Uncrossed s t = level t ≡ level s → s.lower ≤ t.lower

  passes-uncrossed : check4 p ≡ true → check6 p ≡ true → Pairs Uncrossed (inner_segments p)
  unfolding check6
  passes-uncrossed c4 c6 =
      let inner = inner_segments p in
      let two = all_map (λ s h. some-none (crosses p s) inner h) (some-none (λ s. any (crosses p s) inner) inner (not-true (any (λ s. any (crosses p s) inner) inner) c6)) in
      pairs-map (λ s t w. no-fall s t w.0 w.1) (pairs-both (inner-sorted c4) (in_order inner two))

  uncrossed-passes : check4 p ≡ true → Pairs Uncrossed (inner_segments p) → check6 p ≡ true
  unfolding check6
  uncrossed-passes c4 up =
      let inner = inner_segments p in
      let apart = pairs-map (λ s t w. rise-apart s t w.0 w.1) (pairs-both (inner-sorted c4) up) in
      let two = any-two {R = λ s t. crosses p s t ≡ false} self-apart apart in
      ap not (none-some (λ s. any (crosses p s) inner) (all_map (λ s k. none-some (crosses p s) k) two))

  -- ---- level by level
  pub walks-clear : check4 p ≡ true → check6 p ≡ true → (l : ℕ) → (walk p l).crossed ≡ false
  unfolding walk inner_below
  walks-clear c4 c6 l =
      let inner = inner_segments p in
      let on : Segment → Bool = λ s. eqb (level s) l in
      let same = chosen-same on inner in
      let ups = pairs-with same (chosen-pairs on (passes-uncrossed c4 c6)) in
      rises 0 0 (chosen on inner)
      (pairs-map (λ s t w. w.1 (eqb-true (level t) l w.0.1 ∙ sym (eqb-true (level s) l w.0.0))) ups)
      (all_map (λ s h. omega arith) same)

  pub clear-passes : check4 p ≡ true → ((l : ℕ) → (walk p l).crossed ≡ false) → check6 p ≡ true
  unfolding walk inner_below
  clear-passes c4 h =
      uncrossed-passes c4 (pairs-each {R = λ s t. s.lower ≤ t.lower} level (inner_segments p) (λ l. (risen 0 0 (chosen (λ s. eqb (level s) l) (inner_segments p)) (h l)).1))

  -- ---- all levels in one walk: a segment goes one level down, so from one level to the next no lower end stands further left
  pub inner_down : check3 p ≡ true → All (Down p) (inner_segments p)
  unfolding check3 inner_segments
  inner_down c3 = rw inner-chosen (chosen-all (is_inner p) (all_map (down-of p) (every-all (goes_one_down p) (segments_of p) c3)))

  uncrossed-on : (s t : Segment) → Down p s → Down p t → Before s t → Uncrossed s t → s.lower ≤ t.lower
  unfolding level_of
  uncrossed-on s t d e b h = cases s.lower t.lower
      (λ k. k)
      (λ k. h (omega (arith, d.one_down, e.one_down, level-rises p.sizes s.upper t.upper b.le, level-rises p.sizes t.lower s.lower (omega arith))))

  -- where checks 3 and 4 hold, check 6 is one walk over the inner segments of all levels
  pub check6-walk : check3 p ≡ true → check4 p ≡ true → check6 p ≡ not (walk_from 0 0 (inner_segments p)).crossed
  check6-walk c3 c4 =
      let inner = inner_segments p in
      let down = inner_down c3 in
      test (walk_from 0 0 inner).crossed
      (λ crossed. test (check6 p)
      (λ six.
      let up = pairs-map (λ s t w. uncrossed-on s t w.0.0 w.0.1 w.1.0 w.1.1) (pairs-with down (pairs-both (inner-sorted c4) (passes-uncrossed c4 six))) in
      no_true (sym (rises 0 0 inner up (all_map (λ t k. omega arith) down)) ∙ crossed))
      (λ fails. fails ∙ sym (ap not crossed)))
      (λ clear. uncrossed-passes c4 (pairs-map (λ s t h e. h) (risen 0 0 inner clear).1) ∙ sym (ap not clear))
