-- Sums of ratings so far, filled in as offsets are: their differences are the ratings again. Assumes nothing.
use mathlib.Core.Path.{◌≡◌, refl}
use mathlib.Core.List.{List, [], ◌∷◌}
use Prim.Native.Nat.{ℕ, suc, ◌+◌, ◌-◌}
use native.Mathlib.Omega.{arith}
use lib.ListN.{length}
use Rattle.run_columns.specs.inner.Offsets.{offsets_from}
use Rattle.run_columns.specs.inner.Sums.{ratings_between}

between-from : (o : ℕ) (ws : List ℕ) → ratings_between (offsets_from o ws (suc (length ws))) ≡ ws
unfolding offsets_from ratings_between
between-from o [] = refl
between-from o (w ∷ ws) = let e : o + w - o ≡ w = omega arith in rw (e, between-from (o + w) ws)

pub sums-between : (ws : List ℕ) (n : ℕ) → n ≡ length ws + 1 → ratings_between (offsets_from 0 ws n) ≡ ws
sums-between ws n e = let f : n ≡ suc (length ws) = omega arith in rw (f, between-from 0 ws)
