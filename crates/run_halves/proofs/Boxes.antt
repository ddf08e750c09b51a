-- The boxes of a run's columns: how many, the first and the others, their distances, in run coordinates and back. Assumes nothing.
use mathlib.Core.Path.{◌≡◌, refl, ◌∙◌, ap}
use mathlib.Core.List.{List, [], ◌∷◌, map}
use Prim.Native.Nat.{ℕ, zero, suc, ◌+◌, ◌≤◌}
use native.Mathlib.Omega.{arith}
use lib.ListN.{length, take, drop, get_or, length-drop}
use lib.Seq.{take_at, drop_at, take-take, drop-drop, drop-nil}
use lib.IntN.{ℤ, pos, ◌+ℤ◌}
use Rattle.ints.specs.Lists.{sum}
use Rattle.run.specs.Call.{boxes_from}
use Rattle.ints.proofs.Lists.{drop-part}
use Rattle.run.specs.Run.{span}
use Rattle.run.proofs.Leads.{leads-less}
use Rattle.run.specs.inner.Coordinates.{less, in_run, add_offsets}
use Rattle.run_columns.specs.inner.Offsets.{offsets_from, less_offsets, less_near, plus_offsets}
use Rattle.run_columns.proofs.OffsetLaws.{mapped-long}

-- ---- the boxes of the columns
pub length-boxes : (os : List ℤ) (ds cs : List ℕ) (ns : List ℤ) (ws : List ℕ) → length os ≡ length cs → length (boxes_from os ds cs ns ws) ≡ length os
unfolding boxes_from
length-boxes [] ds cs ns ws e = refl
length-boxes (o ∷ os) ds [] ns ws e = absurd (omega arith)
length-boxes (o ∷ os) ds (c ∷ cs) ns ws e = ap suc (length-boxes os (drop 1 ds) cs (drop c ns) (drop c ws) (omega arith))

pub take-boxes : (k : ℕ) (os : List ℤ) (ds cs : List ℕ) (ns : List ℤ) (ws : List ℕ) → take k (boxes_from os ds cs ns ws) ≡ boxes_from (take k os) ds (take k cs) (take (sum (take k cs)) ns) (take (sum (take k cs)) ws)
unfolding boxes_from sum
take-boxes zero os ds cs ns ws = refl
take-boxes (suc k) [] ds cs ns ws = refl
take-boxes (suc k) (o ∷ os) ds [] ns ws = refl
take-boxes (suc k) (o ∷ os) ds (c ∷ cs) ns ws = let s = sum (take k cs) in
    rw (take-take c (c + s) ns (omega arith), drop-part c s ns, take-take c (c + s) ws (omega arith), drop-part c s ws, take-boxes k os (drop 1 ds) cs (drop c ns) (drop c ws))

pub drop-boxes : (k : ℕ) (os : List ℤ) (ds cs : List ℕ) (ns : List ℤ) (ws : List ℕ) → drop k (boxes_from os ds cs ns ws) ≡ boxes_from (drop k os) (drop k ds) (drop k cs) (drop (sum (take k cs)) ns) (drop (sum (take k cs)) ws)
unfolding boxes_from sum
drop-boxes zero os ds cs ns ws = refl
drop-boxes (suc k) [] ds cs ns ws = refl
drop-boxes (suc k) (o ∷ os) ds [] ns ws = no-counts (drop k os)
  where
    no-counts : (os : List ℤ) → [] ≡ boxes_from os (drop (suc k) ds) [] (drop 0 ns) (drop 0 ws)
    no-counts [] = refl
    no-counts (o ∷ os) = refl
drop-boxes (suc k) (o ∷ os) ds (c ∷ cs) ns ws =
    drop-boxes k os (drop 1 ds) cs (drop c ns) (drop c ws) ∙ rw (drop-one k ds, drop-drop (sum (take k cs)) c ns, drop-drop (sum (take k cs)) c ws)
  where
    drop-one : (k : ℕ) (ds : List ℕ) → drop k (drop 1 ds) ≡ drop (suc k) ds
    drop-one k [] = drop-nil k
    drop-one k (d ∷ ds) = refl

-- ---- the boxes
pub in-run-is : (o : ℕ) (xs : List ℤ) (ds cs : List ℕ) (ns : List ℤ) (ws : List ℕ) → length xs ≡ length cs → length ns ≡ sum cs
    → let os = offsets_from o ds (length xs) in boxes_from (less_offsets os xs) ds cs (less_near os cs ns) ws ≡ in_run o (boxes_from xs ds cs ns ws)
unfolding boxes_from offsets_from less_offsets less_near in_run sum
in-run-is o [] ds cs ns ws e f = refl
in-run-is o (x ∷ xs) ds [] ns ws e f = absurd (omega arith)
in-run-is o (x ∷ xs) ds (c ∷ cs) ns ws e f = let s = map (less o) (take c ns) in let os = offsets_from (o + get_or ds 0 0) (drop 1 ds) (length xs) in let r = less_near os cs (drop c ns) in
    let l = mapped-long o c ns (omega arith) in
    rw (take_at s r c l, drop_at s r c l, leads-less o (take c ns) (take c ws), in-run-is (o + get_or ds 0 0) xs (drop 1 ds) cs (drop c ns) (drop c ws) (omega arith) (omega (arith, length-drop c ns)))

pub add_is : (o : ℕ) (xs : List ℤ) (ds cs : List ℕ) (ns : List ℤ) (ws : List ℕ) (zs : List ℤ) → length xs ≡ length cs → length zs ≡ length xs
    → plus_offsets (offsets_from o ds (length xs)) zs ≡ add_offsets o (boxes_from xs ds cs ns ws) zs
unfolding boxes_from offsets_from plus_offsets add_offsets
add_is o [] ds cs ns ws zs e f = refl
add_is o (x ∷ xs) ds [] ns ws zs e f = absurd (omega arith)
add_is o (x ∷ xs) ds (c ∷ cs) ns ws [] e f = absurd (omega arith)
add_is o (x ∷ xs) ds (c ∷ cs) ns ws (z ∷ zs) e f = ap (λ (r : List ℤ). (z +ℤ pos o) ∷ r) (add_is (o + get_or ds 0 0) xs (drop 1 ds) cs (drop c ns) (drop c ws) zs (omega arith) (omega arith))

pub span-is : (os : List ℤ) (ds cs : List ℕ) (ns : List ℤ) (ws : List ℕ) → length os ≡ length cs → length ds ≤ length os → span (boxes_from os ds cs ns ws) ≡ sum ds
unfolding boxes_from span sum
span-is [] [] cs ns ws e h = refl
span-is [] (d ∷ ds) cs ns ws e h = absurd (omega arith)
span-is (x ∷ os) ds [] ns ws e h = absurd (omega arith)
span-is (x ∷ os) [] (c ∷ cs) ns ws e h = omega (arith, span-is os [] cs (drop c ns) (drop c ws) (omega arith) (omega arith))
span-is (x ∷ os) (d ∷ ds) (c ∷ cs) ns ws e h = ap (λ (n : ℕ). d + n) (span-is os ds cs (drop c ns) (drop c ws) (omega arith) (omega arith))
