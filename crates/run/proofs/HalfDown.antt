-- Half of a whole number, rounded toward minus infinity, and what that gives of where a lone box starts. Assumes nothing.
use mathlib.Core.Path.{◌≡◌}
use mathlib.Core.List.{List, [], ◌∷◌}
use Prim.Native.Nat.{ℕ, suc, ◌+◌, ◌*◌, ◌≤◌}
use native.Mathlib.Omega.{arith}
use lib.Dec.{leb}
use lib.ListN.{get_or}
use lib.IntN.{ℤ, pos, negsuc, ◌+ℤ◌, ◌-ℤ◌}
use Rattle.ints.specs.Ints.{P, N, ◌⊑◌}
use Rattle.ints.proofs.Laws.{sum, dif, eq-make, if-ind}
use Rattle.run.specs.Run.{Lead, lead_positions, first_reaching, half_down, start_of}

-- h is half of z: z is twice h, or one more
pub record HalfOf (z h : ℤ) : Type 0 where
  pub low : P h + P h + N z ≤ P z + (N h + N h)
  pub high : P z + (N h + N h) ≤ P h + P h + N z + 1

pub half_of : (z : ℤ) → HalfOf z (half_down z)
half_of (pos n) = record { low = omega arith; high = omega arith }
half_of (negsuc n) = record { low = omega arith; high = omega arith }

-- there is only one such
half-unique : (z h : ℤ) → HalfOf z h → half_down z ≡ h
half-unique z h q = let p = half_of z in eq-make (half_down z) h (omega arith)

pub half_twice : (x : ℤ) → half_down (x +ℤ x) ≡ x
half_twice x = let s = sum x x in half-unique (x +ℤ x) x (record { low = omega arith; high = omega arith })

-- half the sum of two lies where both lie,
pub half-above : (lo l u : ℤ) → lo ⊑ l → lo ⊑ u → lo ⊑ half_down (l +ℤ u)
half-above lo l u h k = let s = sum l u in let p = half_of (l +ℤ u) in omega arith

pub half-below : (hi l u : ℤ) → l ⊑ hi → u ⊑ hi → half_down (l +ℤ u) ⊑ hi
half-below hi l u h k = let s = sum l u in let p = half_of (l +ℤ u) in omega arith

-- and moves with them
pub half-less : (l u : ℤ) (o : ℕ) → half_down ((l -ℤ pos o) +ℤ (u -ℤ pos o)) ≡ half_down (l +ℤ u) -ℤ pos o
half-less l u o = let a = l -ℤ pos o in let b = u -ℤ pos o in let h = half_down (l +ℤ u) in let p = half_of (l +ℤ u) in
    let s = sum l u in let d = dif l (pos o) in let e = dif u (pos o) in let t = sum a b in let f = dif h (pos o) in
    half-unique (a +ℤ b) (h -ℤ pos o) (record { low = omega arith; high = omega arith })

-- ---- where a lone box starts
reaching-keeps : (Q : ℤ → Type 0) (t a : ℕ) (old : ℤ) (ns : List Lead) → ((k : ℕ) → Q (get_or (lead_positions ns) k old)) → Q (first_reaching t a old ns)
unfolding first_reaching
reaching-keeps Q t a old [] q = q 0
reaching-keeps Q t a old (n ∷ ns) q = let b = a + n.rating in
    if-ind (leb t (2 * b)) n.at (first_reaching t b old ns) Q (λ e. q 0) (λ e. reaching-keeps Q t b old ns (λ k. q (suc k)))

-- What holds of half the sum of any two of which it holds, and of the old position and each neighbour, holds of the start.
pub start-keeps : (Q : ℤ → Type 0) → ((l u : ℤ) → Q l → Q u → Q (half_down (l +ℤ u))) → (old : ℤ) (ns : List Lead) → ((k : ℕ) → Q (get_or (lead_positions ns) k old)) → Q (start_of old ns)
unfolding start_of
start-keeps Q h old ns q = h _ _ (reaching-keeps Q _ 0 old ns q) (reaching-keeps Q _ 0 old ns q)
