-- The columns of the first boxes of a run, and of the others. Assumes nothing.
use mathlib.Core.Path.{◌≡◌, refl}
use mathlib.Core.Bool.{true}
use mathlib.Core.List.{List, [], ◌∷◌}
use Prim.Native.Nat.{ℕ, zero, suc, ◌+◌, ◌≤◌}
use native.Mathlib.Omega.{arith}
use lib.ListN.{length, take, drop, length-take, length-drop}
use lib.Seq.{drop-drop, take-take}
use lib.IntN.{ℤ}
use Rattle.run.specs.Run.{nondecreasing}
use Rattle.ints.proofs.Lists.{drop-part}
use Rattle.ints.proofs.Tests.{and_left, and_right, ◌and◌}
use Rattle.ints.specs.Lists.{sum}
use Rattle.run_columns.specs.inner.Columns.{parts_in_order, Columns}

-- ---- the first box, and the columns of the others
pub record First (c : ℕ) (zs : List ℤ) (cs : List ℕ) (ns : List ℤ) : Type 0 where
  pub fits : c ≤ length ns
  pub order : nondecreasing (take c ns) ≡ true
  pub others : Columns zs cs (drop c ns)

pub first-box : {z : ℤ} {c : ℕ} {zs : List ℤ} {cs : List ℕ} {ns : List ℤ} → Columns (z ∷ zs) (c ∷ cs) ns → First c zs cs ns
unfolding parts_in_order sum
first-box {c = c} {cs = cs} {ns = ns} q = let e = q.neighbours in record {
  fits = omega arith;
  order = and_left _ _ q.order;
  others = record {
    boxes = omega (arith, q.boxes);
    neighbours = omega (arith, length-drop c ns);
    order = and_right (nondecreasing (take c ns)) _ q.order;
  };
}

-- ---- the columns of the first k boxes, and of the others
pub sum-cut : (k : ℕ) (cs : List ℕ) → sum (take k cs) + sum (drop k cs) ≡ sum cs
unfolding sum
sum-cut zero cs = omega arith
sum-cut (suc k) [] = refl
sum-cut (suc k) (c ∷ cs) = omega (arith, sum-cut k cs)

order-take : (k : ℕ) (cs : List ℕ) (ns : List ℤ) → parts_in_order cs ns ≡ true → parts_in_order (take k cs) (take (sum (take k cs)) ns) ≡ true
unfolding parts_in_order sum
order-take zero cs ns e = refl
order-take (suc k) [] ns e = refl
order-take (suc k) (c ∷ cs) ns e = let s = sum (take k cs) in
    rw (take-take c (c + s) ns (omega arith), drop-part c s ns)
    (◌and◌ {a = nondecreasing (take c ns)} (and_left (nondecreasing (take c ns)) _ e) (order-take k cs (drop c ns) (and_right (nondecreasing (take c ns)) _ e)))

order-drop : (k : ℕ) (cs : List ℕ) (ns : List ℤ) → parts_in_order cs ns ≡ true → parts_in_order (drop k cs) (drop (sum (take k cs)) ns) ≡ true
unfolding parts_in_order sum
order-drop zero cs ns e = e
order-drop (suc k) [] ns e = refl
order-drop (suc k) (c ∷ cs) ns e = rw (← drop-drop (sum (take k cs)) c ns) (order-drop k cs (drop c ns) (and_right (nondecreasing (take c ns)) _ e))

pub columns-take : (k : ℕ) (zs : List ℤ) (cs : List ℕ) (ns : List ℤ) → Columns zs cs ns → Columns (take k zs) (take k cs) (take (sum (take k cs)) ns)
columns-take k zs cs ns q = record {
  boxes = omega (arith, length-take k zs, length-take k cs, q.boxes);
  neighbours = omega (arith, length-take (sum (take k cs)) ns, sum-cut k cs, q.neighbours);
  order = order-take k cs ns q.order;
}

pub columns-drop : (k : ℕ) (zs : List ℤ) (cs : List ℕ) (ns : List ℤ) → Columns zs cs ns → Columns (drop k zs) (drop k cs) (drop (sum (take k cs)) ns)
columns-drop k zs cs ns q = record {
  boxes = omega (arith, length-drop k zs, length-drop k cs, q.boxes);
  neighbours = omega (arith, length-drop (sum (take k cs)) ns, sum-cut k cs, q.neighbours);
  order = order-drop k cs ns q.order;
}
