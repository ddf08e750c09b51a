-- Laws of nearest joined vias and of counted marks, as walks along a level meet them. Assumes nothing.
use Prim.Native.Nat.{ℕ, suc, ◌+◌, ◌-◌, ◌<◌, ◌≤◌}
use mathlib.Core.Path.{◌≡◌, ◌∙◌}
use mathlib.Core.Bool.{Bool, true, false}
use mathlib.Core.List.{List}
use native.Mathlib.Omega.{arith}
use lib.ListN.{length, get_or, set}
use lib.Seq.{get_or-set_same, get_or-set_other}
use Rattle.ints.proofs.Laws.{cases}
use Rattle.pass_tables.specs.inner.Joins.{or_else, last_in, first_in, one_if, marked_in}

-- ---- a table that a loop fills, up or down
module _ (xs : List ℕ) (v a : ℕ) (g : ℕ → ℕ) (h : v < length xs) (e : a ≡ g v) where
  pub stored-up : (from : ℕ) → ((u : ℕ) → from ≤ u → u < v → get_or xs u 0 ≡ g u) → (u : ℕ) → from ≤ u → u < v + 1 → get_or (set xs v a) u 0 ≡ g u
  stored-up from f u k m = cases v u
      (λ j. let z : u ≡ v = omega arith in rw z (get_or-set_same xs v a 0 h ∙ e))
      (λ j. get_or-set_other xs v u a 0 (λ q. omega arith) ∙ f u k j)

  pub stored-down : (to : ℕ) → ((u : ℕ) → v + 1 ≤ u → u < to → get_or xs u 0 ≡ g u) → (u : ℕ) → v ≤ u → u < to → get_or (set xs v a) u 0 ≡ g u
  stored-down to f u k m = cases u v
      (λ j. let z : u ≡ v = omega arith in rw z (get_or-set_same xs v a 0 h ∙ e))
      (λ j. get_or-set_other xs v u a 0 (λ q. omega arith) ∙ f u (omega arith) m)

-- ---- the last and the first vertex
module _ (f : ℕ → ℕ) where
  pub last_none : (v n : ℕ) → n ≡ 0 → last_in f v n ≡ 2048
  unfolding last_in
  last_none v n h = rw h

  pub last_on : (from v : ℕ) → from ≤ v → last_in f from (v + 1 - from) ≡ or_else (f v) (last_in f from (v - from))
  unfolding last_in
  last_on from v h = let n : v + 1 - from ≡ suc (v - from) = omega arith in let e : from + (v - from) ≡ v = omega arith in rw (n, e)

  pub first-none : (v n : ℕ) → n ≡ 0 → first_in f v n ≡ 2048
  unfolding first_in
  first-none v n h = rw h

  pub first_on : (v to : ℕ) → v < to → first_in f v (to - v) ≡ or_else (f v) (first_in f (v + 1) (to - (v + 1)))
  unfolding first_in
  first_on v to h = let n : to - v ≡ suc (to - (v + 1)) = omega arith in rw n

-- ---- marks
module _ (marks : List Bool) where
  pub marks-none : (v n : ℕ) → n ≡ 0 → marked_in marks v n ≡ 0
  unfolding marked_in
  marks-none v n h = rw h

  pub marks-on : (from v : ℕ) → from ≤ v → marked_in marks from (v + 1 - from) ≡ marked_in marks from (v - from) + one_if (get_or marks v false)
  unfolding marked_in
  marks-on from v h = let n : v + 1 - from ≡ suc (v - from) = omega arith in let e : from + (v - from) ≡ v = omega arith in rw (n, e)

pub one-small : (b : Bool) → one_if b ≤ 1
one-small true = omega arith
one-small false = omega arith
