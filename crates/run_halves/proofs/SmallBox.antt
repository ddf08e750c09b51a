-- A box that is placed alone between small limits stands at a small position. Assumes nothing.
use mathlib.Core.List.{List, [], ◌∷◌}
use Prim.Native.Nat.{ℕ, zero, suc, ◌≤◌}
use native.Mathlib.Omega.{arith}
use lib.ListN.{get_or}
use lib.IntN.{ℤ, ◌+ℤ◌}
use Rattle.ints.specs.Ints.{size}
use Rattle.run.specs.Run.{Bound as Limit, free, at, Lead, lead_positions, half_down, start_of}
use Rattle.ints.proofs.Laws.{sum, apart}
use Rattle.run.specs.inner.Limits.{clamp_low, clamp_high, clamp}
use Rattle.run_columns.specs.inner.Columns.{Sized, Small, max_size}
use Rattle.run_halves.specs.inner.Halves.{SmallLimit}
use Rattle.run.proofs.HalfDown.{half_of, start-keeps}
use Rattle.run_columns.proofs.Sized.{sized-tail}
use Rattle.run_halves.proofs.Small.{small-max, small-min}

-- ---- one box
small_low : (L : Limit) (x : ℤ) → SmallLimit L → size x ≤ max_size → size (clamp_low L x) ≤ max_size
small_low free x l p = p
small_low (at y) x l p = small-max x y p l

small-high : (H : Limit) (x : ℤ) → SmallLimit H → size x ≤ max_size → size (clamp_high H x) ≤ max_size
small-high free x l p = p
small-high (at y) x l p = small-min x y p l

small-get : (b : ℕ) (xs : List ℤ) (k : ℕ) (d : ℤ) → Sized b xs → size d ≤ b → size (get_or xs k d) ≤ b
small-get b [] k d q p = p
small-get b (x ∷ xs) zero d q p = q zero (omega arith)
small-get b (x ∷ xs) (suc k) d q p = small-get b xs k d (sized-tail b x xs q) p

pub small-start : (b : ℕ) (old : ℤ) (ns : List Lead) → size old ≤ b → Sized b (lead_positions ns) → size (start_of old ns) ≤ b
small-start b old ns p q = start-keeps (λ x. size x ≤ b) halved old ns (λ k. small-get b (lead_positions ns) k old q p)
  where
    halved : (l u : ℤ) → size l ≤ b → size u ≤ b → size (half_down (l +ℤ u)) ≤ b
    halved l u x y = let s = sum l u in let h = half_of (l +ℤ u) in let a = apart (half_down (l +ℤ u)) in omega arith

pub small_one : (L H : Limit) (old : ℤ) (ns : List Lead) → SmallLimit L → SmallLimit H → size old ≤ max_size → Small (lead_positions ns) → size (clamp L H (start_of old ns)) ≤ max_size
small_one L H old ns l h p q = small-high H _ h (small_low L _ l (small-start max_size old ns p q))
