-- Small positions stay small: the lesser and the greater of two, a join. Assumes nothing.
use mathlib.Core.List.{List, ◌++◌}
use Prim.Native.Nat.{ℕ, ◌-◌, ◌≤◌}
use native.Mathlib.Omega.{arith}
use lib.ListN.{take, drop}
use lib.IntN.{ℤ, ◌-ℤ◌}
use lib.Signed.{lt_z}
use Rattle.ints.specs.Ints.{size, min_z, max_z, ◌⊑◌}
use Rattle.ints.proofs.Laws.{if-ind, dif, apart, lt-true}
use Rattle.run.specs.inner.Bisection.{cut_at, raise_to}
use Rattle.run_columns.specs.inner.Columns.{Small, max_size}
use Rattle.run_halves.specs.inner.Meet.{Cut, last_before, first_after, Joined}
use Rattle.run_halves.proofs.Cut.{cut-is, raise-is}
use Rattle.run_columns.proofs.Sized.{sized-append, sized-drop, sized-map, sized-take}

pub small-min : (x m : ℤ) → size x ≤ max_size → size m ≤ max_size → size (min_z x m) ≤ max_size
small-min x m p q = if-ind (lt_z m x) m x (λ z. size z ≤ max_size) (λ e. q) (λ e. p)

pub small-max : (x m : ℤ) → size x ≤ max_size → size m ≤ max_size → size (max_z x m) ≤ max_size
small-max x m p q = if-ind (lt_z x m) m x (λ z. size z ≤ max_size) (λ e. q) (λ e. p)

-- ---- a join
small-between : (a b m : ℤ) → size a ≤ max_size → size b ≤ max_size → b ⊑ m → m ⊑ a → size m ≤ max_size
small-between a b m p q h k = omega (arith, apart m)

pub small-joined : (k n : ℕ) (zs : List ℤ) (cs : List ℕ) (ns : List ℤ) (ws : List ℕ) (out : List ℤ) → Cut k n zs cs ns → Small zs → Joined k n zs cs ns ws out → Small out
small-joined k n zs cs ns ws out c q j = let m = j.place in let a = last_before k zs in let b = first_after k zs in
    rw j.outcome (if-ind (lt_z b a) (cut_at m (take k zs) ++ raise_to m (drop k zs)) zs (λ l. Small l)
    (λ t. let h = lt-true b a t in let r = j.meets h in
    let p : size m ≤ max_size = small-between a b m (q (k - 1) (omega (arith, c.some, c.others))) (q k c.others) r.low (omega (arith, r.high, dif a b, apart (a -ℤ b))) in
    sized-append max_size (cut_at m (take k zs)) (raise_to m (drop k zs))
    (rw (← cut-is m (take k zs)) (sized-map max_size max_size (λ x. min_z x m) (λ x s. small-min x m s p) (take k zs) (sized-take max_size k zs q)))
    (rw (← raise-is m (drop k zs)) (sized-map max_size max_size (λ x. max_z x m) (λ x s. small-max x m s p) (drop k zs) (sized-drop max_size k zs q))))
    (λ t. q))
