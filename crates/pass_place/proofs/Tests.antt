-- What the tests of refusal 8 ask, from what holds of the entries of lists. Assumes nothing.
use mathlib.Core.Path.{◌≡◌, refl}
use mathlib.Core.Bool.{true}
use mathlib.Core.List.{List, [], ◌∷◌, map}
use Prim.Native.Nat.{ℕ, suc, ◌*◌, ◌≤◌, ◌<◌}
use native.Mathlib.Omega.{arith}
use borrow.Author.Tests.{le-leb}
use lib.ListN.{length, get_or, take, drop}
use lib.IntN.{ℤ}
use Rattle.ints.proofs.Reach.{within-take, within-drop, within-each}
use Rattle.ints.proofs.Tests.{◌and◌}
use Rattle.passes.specs.State.{position_of}
use Rattle.ints.specs.Reach.{reach, is_within, all_within}
use Rattle.run.specs.Call.{all_distances}

module _ (xs : List ℤ) (f : (v : ℕ) → is_within (position_of xs v) ≡ true) where
  pub part-within : (n k : ℕ) → all_within (take n (drop k xs)) ≡ true
  part-within n k = within-take n (drop k xs) (within-drop k xs (within-each xs (λ v h. f v)))

  pub map-within : (vs : List ℕ) → all_within (map (position_of xs) vs) ≡ true
  unfolding all_within
  map-within [] = refl
  map-within (v ∷ vs) = ◌and◌ (f v) (map-within vs)

pub all-distances : (ds : List ℕ) → ((k : ℕ) → k < length ds → (1 ≤ get_or ds k 0) × (get_or ds k 0 ≤ 2 * reach)) → all_distances ds ≡ true
unfolding all_distances
all-distances [] f = refl
all-distances (d ∷ ds) f = let a = f 0 (omega arith) in
    ◌and◌ (◌and◌ (le-leb 1 d a.0) (le-leb d (2 * reach) a.1)) (all-distances ds (λ k h. f (suc k) (omega arith)))
