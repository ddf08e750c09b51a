-- A run cut in two: the columns of its halves, and a half cut at a place or raised to it. Assumes nothing.
use mathlib.Core.Path.{◌≡◌, refl, ap}
use mathlib.Core.List.{List, [], ◌∷◌, ◌++◌, map}
use Prim.Native.Nat.{ℕ, ◌+◌, ◌≤◌, ◌<◌}
use native.Mathlib.Omega.{arith}
use native.Mathlib.Numerals.{add-one}
use lib.ListN.{length, take, drop, get_or, drop_of_length-le, set, length-map}
use lib.Seq.{drop-cons, drop-set-lt}
use lib.IntN.{ℤ, pos}
use Rattle.run_columns.specs.inner.Columns.{Columns}
use Rattle.run_halves.specs.inner.Meet.{Cut}
use Rattle.ints.specs.Ints.{min_z, max_z}
use Rattle.run.specs.inner.Bisection.{cut_at, raise_to}
use Rattle.run_columns.proofs.ColumnLaws.{columns-drop, columns-take, sum-cut}
use Rattle.run_columns.proofs.Fill.{fill_end, fill-next}

pub cut-within : {k n : ℕ} {zs : List ℤ} {cs : List ℕ} {ns : List ℤ} → Cut k n zs cs ns → n ≤ length ns
cut-within {k = k} {cs = cs} q = omega (arith, sum-cut k cs, q.columns.neighbours, q.before)

pub cut_left : {k n : ℕ} {zs : List ℤ} {cs : List ℕ} {ns : List ℤ} → Cut k n zs cs ns → Columns (take k zs) (take k cs) (take n ns)
cut_left {k = k} {zs = zs} {cs = cs} {ns = ns} q = rw q.before (columns-take k zs cs ns q.columns)

pub cut_right : {k n : ℕ} {zs : List ℤ} {cs : List ℕ} {ns : List ℤ} → Cut k n zs cs ns → Columns (drop k zs) (drop k cs) (drop n ns)
cut_right {k = k} {zs = zs} {cs = cs} {ns = ns} q = rw q.before (columns-drop k zs cs ns q.columns)

-- each entry by f, in place
module _ (f : ℤ → ℤ) where
  pub map_next : (z : List ℤ) (i : ℕ) (v : ℤ) (goal : List ℤ) → i < length z → v ≡ f (get_or z i (pos 0)) → take i z ++ map f (drop i z) ≡ goal
      → take (i + 1) (set z i v) ++ map f (drop (i + 1) (set z i v)) ≡ goal
  map_next z i v goal h e q = let k = drop-cons z i (pos 0) h in
      fill-next z i v (map f (drop (i + 1) (set z i v))) goal h
      (rw (drop-set-lt (i + 1) z i v (omega arith), e, add-one) (rw k at q))

  pub map-end : (z : List ℤ) (i : ℕ) (goal : List ℤ) → length z ≤ i → take i z ++ map f (drop i z) ≡ goal → z ≡ goal
  map-end z i goal h q = fill_end z i goal h (rw (drop_of_length-le z h) at q)

-- the cut and the raise of a half are such
pub cut-is : (m : ℤ) (xs : List ℤ) → map (λ x. min_z x m) xs ≡ cut_at m xs
unfolding cut_at
cut-is m [] = refl
cut-is m (x ∷ xs) = ap (λ (r : List ℤ). min_z x m ∷ r) (cut-is m xs)

pub raise-is : (m : ℤ) (xs : List ℤ) → map (λ x. max_z x m) xs ≡ raise_to m xs
unfolding raise_to
raise-is m [] = refl
raise-is m (x ∷ xs) = ap (λ (r : List ℤ). max_z x m ∷ r) (raise-is m xs)

pub length_cut : (m : ℤ) (xs : List ℤ) → length (cut_at m xs) ≡ length xs
length_cut m xs = rw (← cut-is m xs) (length-map xs (λ x. min_z x m))
