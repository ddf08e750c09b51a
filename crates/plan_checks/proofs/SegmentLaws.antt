-- Laws of lists of segments and of `rising` and `every`, as a walk over the segments meets them: the first i are behind.
-- Assumes nothing.
use Prim.Native.Nat.{ℕ, ◌+◌, ◌<◌, ◌≤◌}
use mathlib.Core.Path.{◌≡◌, refl}
use mathlib.Core.Bool.{Bool, true, false}
use mathlib.Core.List.{List, [], ◌∷◌}
use native.Mathlib.Omega.{arith}
use borrow.Author.Tests.{lt-ltb, le-ltb}
use lib.ListN.{length, get_or}
use Rattle.std.specs.List.{list_all, zip}
use Rattle.ints.proofs.Laws.{cases}
use Rattle.plan.specs.Plan.{level_of}
use Rattle.plan.specs.Segments.{Segment, segments_of, segments_from}
use Rattle.plan.specs.Checks.{every, goes_one_down, check3, comes_before, rising}
use Rattle.plan.specs.inner.Graph.{graph_of, segment, Levelled, one_down}
use Rattle.plan.proofs.CountLaws.{list_all-every}
use Rattle.plan_walks.specs.inner.Walks.{after}
use Rattle.plan_walks.proofs.AfterLaws.{after-all, after_one}

-- ---- rising
module _ («as» bs : List ℕ) (i : ℕ) (e : length «as» ≡ length bs) where
  pub order-on : i + 1 < length «as» → comes_before (segment (get_or «as» i 0) (get_or bs i 0)) (segment (get_or «as» (i + 1) 0) (get_or bs (i + 1) 0)) ≡ true
      → rising (after «as» bs i) ≡ rising (after «as» bs (i + 1))
  unfolding rising
  order-on h t = rw (after_one «as» bs i (omega arith) e, after_one «as» bs (i + 1) h e, t)

  pub order-stop : i + 1 < length «as» → comes_before (segment (get_or «as» i 0) (get_or bs i 0)) (segment (get_or «as» (i + 1) 0) (get_or bs (i + 1) 0)) ≡ false
      → rising (after «as» bs i) ≡ false
  unfolding rising
  order-stop h t = rw (after_one «as» bs i (omega arith) e, after_one «as» bs (i + 1) h e, t)

  pub order-end : length «as» ≤ i + 1 → rising (after «as» bs i) ≡ true
  unfolding rising
  order-end h = cases (length «as») i
      (λ k. rw (after-all «as» bs i k))
      (λ k. rw (after_one «as» bs i k e, after-all «as» bs (i + 1) h))

-- ---- every
pub every-pairs : (t : Segment → Bool) («as» bs : List ℕ) → list_all (λ p. t (segment p.0 p.1)) (zip «as» bs) ≡ every t (segments_from «as» bs)
unfolding segments_from
every-pairs t [] bs = list_all-every t []
every-pairs t (a ∷ «as») [] = list_all-every t []
every-pairs t (a ∷ «as») (b ∷ bs) = rw (every-pairs t «as» bs, ← list_all-every t (segments_from «as» bs)) (list_all-every t (segment a b ∷ segments_from «as» bs))

pub every-same : {A : Type 0} (t u : A → Bool) (xs : List A) → ((x : A) → t x ≡ u x) → every t xs ≡ every u xs
unfolding every
every-same t u [] h = refl
every-same t u (x ∷ xs) h = rw (h x, every-same t u xs h)

-- ---- check 3, by the list of levels
module _ (sizes : List ℕ) (vias : List Bool) (level : List ℕ) (w : Levelled sizes level) (e : length vias ≡ length level) («as» bs : List ℕ) where
  pub one-down-same : (s : Segment) → goes_one_down (graph_of sizes vias «as» bs) s ≡ one_down level s
  unfolding level_of
  one-down-same s =
      let a = s.upper in
      let b = s.lower in
      let n = length level in
      rw e (cases n a
      (λ h. rw (le-ltb a n h))
      (λ h. cases n b (λ k. rw (lt-ltb a n h, le-ltb b n k)) (λ k. rw (w.each a h, w.each b k))))

  pub check3-same : check3 (graph_of sizes vias «as» bs) ≡ every (one_down level) (after «as» bs 0)
  unfolding check3 segments_of
  check3-same = every-same (goes_one_down (graph_of sizes vias «as» bs)) (one_down level) (after «as» bs 0) one-down-same
