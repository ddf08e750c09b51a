-- Walks over lists: a test or a sum of the whole list, and of what is left of it after the first i.
use mathlib.Core.Path.{◌≡◌, refl}
use mathlib.Core.Bool.{Bool, true, false, false≢true}
use mathlib.Core.List.{List, [], ◌∷◌}
use Prim.Native.Nat.{ℕ, ◌<◌}
use native.Mathlib.Omega.{arith}
use lib.ListN.{length, get_or}
use Rattle.std.proofs.Common.{IsTrue, EachIndex, ◌↔◌, zero, suc}
use Rattle.ints.proofs.Tests.{cond-left, cond-right}
use Rattle.report_validity.proofs.RunTests.{both_ways}
use Rattle.plan.specs.Checks.{every}
use Rattle.plan.specs.Acceptable.{half_holds, halves_hold}

-- an `all` that tests each element, by its place
module _ (t : ℕ → Bool) where
  every-at : (xs : List ℕ) → every t xs ≡ true → (k : ℕ) → k < length xs → t (get_or xs k 0) ≡ true
  unfolding every
  every-at [] e k h = absurd (omega arith)
  every-at (x ∷ xs) e zero h = cond-left (t x) (every t xs) e
  every-at (x ∷ xs) e (suc k) h = every-at xs (cond-right (t x) (every t xs) e) k (omega arith)

  every-of : (xs : List ℕ) → ((k : ℕ) → k < length xs → t (get_or xs k 0) ≡ true) → every t xs ≡ true
  unfolding every
  every-of [] f = refl
  every-of (x ∷ xs) f = rw (f 0 (omega arith), every-of xs (λ k h. f (suc k) (omega arith)))

  pub every_is : (xs : List ℕ) (b : Bool) → (IsTrue b ↔ EachIndex xs (λ k. t (get_or xs k 0) ≡ true)) → b ≡ every t xs
  every_is xs b e = both_ways b (every t xs) (λ h. every-of xs (e.0 h)) (λ h. e.1 (every-at xs h))

-- the same of two lists side by side
halves-at : (vias : List Bool) (halves : List ℕ) → halves_hold vias halves ≡ true → (k : ℕ) → k < length vias → half_holds (get_or vias k false) (get_or halves k 0) ≡ true
unfolding halves_hold
halves-at [] hs e k h = absurd (omega arith)
halves-at (v ∷ vs) [] e k h = absurd (false≢true e)
halves-at (v ∷ vs) (x ∷ hs) e zero h = cond-left (half_holds v x) (halves_hold vs hs) e
halves-at (v ∷ vs) (x ∷ hs) e (suc k) h = halves-at vs hs (cond-right (half_holds v x) (halves_hold vs hs) e) k (omega arith)

halves-of : (vias : List Bool) (halves : List ℕ) → length vias ≡ length halves
    → ((k : ℕ) → k < length vias → half_holds (get_or vias k false) (get_or halves k 0) ≡ true) → halves_hold vias halves ≡ true
unfolding halves_hold
halves-of [] [] e f = refl
halves-of [] (x ∷ hs) e f = absurd (omega arith)
halves-of (v ∷ vs) [] e f = absurd (omega arith)
halves-of (v ∷ vs) (x ∷ hs) e f = rw (f 0 (omega arith), halves-of vs hs (omega arith) (λ k h. f (suc k) (omega arith)))

pub halves_is : (vias : List Bool) (halves : List ℕ) → length vias ≡ length halves → (b : Bool)
    → (IsTrue b ↔ EachIndex vias (λ k. half_holds (get_or vias k false) (get_or halves k 0) ≡ true)) → b ≡ halves_hold vias halves
halves_is vias halves n b e = both_ways b (halves_hold vias halves) (λ h. halves-of vias halves n (e.0 h)) (λ h. e.1 (halves-at vias halves h))

pub halves-apart : (vias : List Bool) (halves : List ℕ) → (length vias ≡ length halves → ⊥) → halves_hold vias halves ≡ false
unfolding halves_hold
halves-apart [] [] e = absurd (e refl)
halves-apart [] (h ∷ hs) e = refl
halves-apart (v ∷ vs) [] e = refl
halves-apart (v ∷ vs) (h ∷ hs) e = rw (halves-apart vs hs (λ k. e (omega arith))) (none (half_holds v h))
  where
    none : (b : Bool) → mathlib.Core.Bool.cond b false false ≡ false
    none true = refl
    none false = refl
