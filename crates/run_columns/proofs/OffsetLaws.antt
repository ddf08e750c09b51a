-- Into run coordinates and back, by columns: parts of them, sizes, order and counts. Assumes nothing.
use mathlib.Core.Path.{◌≡◌, refl, sym, ◌∙◌, ap}
use mathlib.Core.Bool.{true}
use mathlib.Core.List.{List, [], ◌∷◌, ◌++◌, map}
use Prim.Native.Nat.{ℕ, zero, suc, ◌+◌, ◌-◌, ◌≤◌, ◌<◌}
use native.Mathlib.Omega.{arith}
use native.Mathlib.Numerals.{add-one}
use lib.ListN.{length, take, drop, get_or, length-take, length-drop, length-append, length-map, drop_of_length-le, get_or-eq_default}
use lib.Seq.{drop-cons, drop-drop, take_at, drop_at, take-take, take-append-add, drop-append-add, length-take-le}
use lib.IntN.{ℤ, pos, ◌+ℤ◌}
use lib.Signed.{lt_z, le_z}
use Rattle.ints.specs.Ints.{size}
use Rattle.ints.proofs.Laws.{sum as sum_of, dif, cases, cases_z, make-le-true, make-le-false, make-lt-true, make-lt-false}
use Rattle.run.specs.Run.{nondecreasing}
use Rattle.run.specs.inner.Coordinates.{less, count_up_to}
use Rattle.ints.proofs.Tests.{and_left, and_right, ◌and◌}
use Rattle.ints.specs.Lists.{sum}
use Rattle.ints.specs.Reach.{reach}
use Rattle.ints.proofs.Lists.{drop-part, sum-on, sum-end}
use Rattle.run_columns.specs.inner.Columns.{parts_in_order, Columns, max_size}
use Rattle.run_columns.specs.inner.Offsets.{offsets_from, less_offsets, less_near, plus_offsets, max_offset, OffsetsOf}

-- ---- the next distance, also where nothing follows
pub first-drop : {A : Type 0} (e : A) (i : ℕ) (l : List A) → get_or (drop i l) 0 e ≡ get_or l i e
first-drop e zero l = refl
first-drop e (suc i) [] = refl
first-drop e (suc i) (x ∷ l) = first-drop e i l

pub sum_step : (ds : List ℕ) (i : ℕ) → sum (drop i ds) ≡ get_or ds i 0 + sum (drop (i + 1) ds)
sum_step ds i = cases (length ds) i
    (λ h. omega (arith, sum-end ds i h, sum-end ds (i + 1) (omega arith), get_or-eq_default ds 0 h))
    (λ h. sum-on ds i h)

-- ---- the offsets
pub offsets-next : (o : ℕ) (ds : List ℕ) (i r : ℕ) → i < r → offsets_from o (drop i ds) (r - i) ≡ o ∷ offsets_from (o + get_or ds i 0) (drop (i + 1) ds) (r - (i + 1))
unfolding offsets_from
offsets-next o ds i r h = let e : r - i ≡ suc (r - (i + 1)) = omega arith in rw (e, first-drop 0 i ds, drop-drop 1 i ds)

pub offsets-end : (o : ℕ) (ds : List ℕ) (i r : ℕ) → r ≤ i → offsets_from o ds (r - i) ≡ []
unfolding offsets_from
offsets-end o ds i r h = let e : r - i ≡ 0 = omega arith in rw e

length-offsets : (o : ℕ) (ds : List ℕ) (r : ℕ) → length (offsets_from o ds r) ≡ r
unfolding offsets_from
length-offsets o ds zero = refl
length-offsets o ds (suc r) = ap suc (length-offsets (o + get_or ds 0 0) (drop 1 ds) r)

offsets-small : (o : ℕ) (ds : List ℕ) (r : ℕ) → o + sum ds ≤ max_offset → (i : ℕ) → get_or (offsets_from o ds r) i 0 ≤ max_offset
unfolding offsets_from
offsets-small o ds zero h i = omega arith
offsets-small o ds (suc r) h zero = omega arith
offsets-small o ds (suc r) h (suc i) = offsets-small (o + get_or ds 0 0) (drop 1 ds) r (omega (arith, sum_step ds 0)) i

pub offsets-of : (ds : List ℕ) (xs : List ℤ) → sum ds ≤ max_offset → OffsetsOf (offsets_from 0 ds (length xs)) xs
offsets-of ds xs h = record { boxes = length-offsets 0 ds (length xs); small = offsets-small 0 ds (length xs) (omega arith) }

small-take : (k : ℕ) (os : List ℕ) → ((i : ℕ) → get_or os i 0 ≤ max_offset) → (i : ℕ) → get_or (take k os) i 0 ≤ max_offset
small-take zero os q i = omega arith
small-take (suc k) [] q i = omega arith
small-take (suc k) (o ∷ os) q zero = q zero
small-take (suc k) (o ∷ os) q (suc i) = small-take k os (λ j. q (suc j)) i

small-drop : (k : ℕ) (os : List ℕ) → ((i : ℕ) → get_or os i 0 ≤ max_offset) → (i : ℕ) → get_or (drop k os) i 0 ≤ max_offset
small-drop zero os q i = q i
small-drop (suc k) [] q i = omega arith
small-drop (suc k) (o ∷ os) q i = small-drop k os (λ j. q (suc j)) i

pub offsets-take : (k : ℕ) (os : List ℕ) (zs : List ℤ) → OffsetsOf os zs → OffsetsOf (take k os) (take k zs)
offsets-take k os zs q = record { boxes = omega (arith, length-take k os, length-take k zs, q.boxes); small = small-take k os q.small }

pub offsets-drop : (k : ℕ) (os : List ℕ) (zs : List ℤ) → OffsetsOf os zs → OffsetsOf (drop k os) (drop k zs)
offsets-drop k os zs q = record { boxes = omega (arith, length-drop k os, length-drop k zs, q.boxes); small = small-drop k os q.small }

-- ---- one box
pub plus-next : (os : List ℕ) (zs : List ℤ) (i : ℕ) → i < length os → i < length zs
    → plus_offsets (drop i os) (drop i zs) ≡ (get_or zs i (pos 0) +ℤ pos (get_or os i 0)) ∷ plus_offsets (drop (i + 1) os) (drop (i + 1) zs)
unfolding plus_offsets
plus-next os zs i g h = rw (add-one, drop-cons os i 0 g, drop-cons zs i (pos 0) h)

pub plus-end : (os : List ℕ) (zs : List ℤ) (i : ℕ) → length os ≤ i → plus_offsets (drop i os) zs ≡ []
unfolding plus_offsets
plus-end os zs i h = rw (drop_of_length-le os h)

pub mapped-long : (o c : ℕ) (ns : List ℤ) → c ≤ length ns → length (map (less o) (take c ns)) ≡ c
mapped-long o c ns h = length-map (take c ns) (less o) ∙ length-take-le c ns h

-- the neighbours of the i-th box and those of the boxes after it, rs being all neighbours less their offsets and a the number of
-- those before
module _ (os cs : List ℕ) (ns rs : List ℤ) (a i : ℕ) (f : i < length os) (g : i < length cs) (h : get_or cs i 0 ≤ length (drop a ns))
    (e : drop a rs ≡ less_near (drop i os) (drop i cs) (drop a ns)) where
  near_next : drop a rs ≡ map (less (get_or os i 0)) (take (get_or cs i 0) (drop a ns)) ++ less_near (drop (i + 1) os) (drop (i + 1) cs) (drop (a + get_or cs i 0) ns)
  unfolding less_near
  near_next = rw e (rw (add-one, drop-cons os i 0 f, drop-cons cs i 0 g, drop-drop (get_or cs i 0) a ns))

  pub near-part : take (get_or cs i 0) (drop a rs) ≡ map (less (get_or os i 0)) (take (get_or cs i 0) (drop a ns))
  near-part = rw near_next (take_at _ _ (get_or cs i 0) (mapped-long (get_or os i 0) (get_or cs i 0) (drop a ns) h))

  pub near-rest : drop (a + get_or cs i 0) rs ≡ less_near (drop (i + 1) os) (drop (i + 1) cs) (drop (a + get_or cs i 0) ns)
  near-rest = let o = get_or os i 0 in let c = get_or cs i 0 in
      rw (← drop-drop c a rs, near_next) (drop_at (map (less o) (take c (drop a ns))) (less_near (drop (i + 1) os) (drop (i + 1) cs) (drop (a + c) ns)) c (mapped-long o c (drop a ns) h))

-- ---- the first k boxes, and the others
pub less-take : (k : ℕ) (os : List ℕ) (xs : List ℤ) → take k (less_offsets os xs) ≡ less_offsets (take k os) (take k xs)
unfolding less_offsets
less-take zero os xs = refl
less-take (suc k) [] xs = refl
less-take (suc k) (o ∷ os) [] = refl
less-take (suc k) (o ∷ os) (x ∷ xs) = ap (λ (r : List ℤ). less o x ∷ r) (less-take k os xs)

pub less-drop : (k : ℕ) (os : List ℕ) (xs : List ℤ) → length os ≡ length xs → drop k (less_offsets os xs) ≡ less_offsets (drop k os) (drop k xs)
unfolding less_offsets
less-drop zero os xs e = refl
less-drop (suc k) [] xs e = refl
less-drop (suc k) (o ∷ os) [] e = absurd (omega arith)
less-drop (suc k) (o ∷ os) (x ∷ xs) e = less-drop k os xs (omega arith)

take_past : (c n : ℕ) (xs ys : List ℤ) → length xs ≡ c → take (c + n) (xs ++ ys) ≡ xs ++ take n ys
take_past c n xs ys e = rw (← e) (take-append-add xs ys n)

drop_past : (c n : ℕ) (xs ys : List ℤ) → length xs ≡ c → drop (c + n) (xs ++ ys) ≡ drop n ys
drop_past c n xs ys e = rw (← e) (drop-append-add xs ys n)

pub near-take : (k : ℕ) (os cs : List ℕ) (ns : List ℤ) → length os ≡ length cs → length ns ≡ sum cs
    → take (sum (take k cs)) (less_near os cs ns) ≡ less_near (take k os) (take k cs) (take (sum (take k cs)) ns)
unfolding less_near sum
near-take zero os cs ns e f = refl
near-take (suc k) [] [] ns e f = refl
near-take (suc k) [] (c ∷ cs) ns e f = absurd (omega arith)
near-take (suc k) (o ∷ os) [] ns e f = absurd (omega arith)
near-take (suc k) (o ∷ os) (c ∷ cs) ns e f = let s = sum (take k cs) in
    rw (take_past c s (map (less o) (take c ns)) (less_near os cs (drop c ns)) (mapped-long o c ns (omega arith)), take-take c (c + s) ns (omega arith), drop-part c s ns)
    (ap (λ (r : List ℤ). map (less o) (take c ns) ++ r) (near-take k os cs (drop c ns) (omega arith) (omega (arith, length-drop c ns))))

pub near-drop : (k : ℕ) (os cs : List ℕ) (ns : List ℤ) → length os ≡ length cs → length ns ≡ sum cs
    → drop (sum (take k cs)) (less_near os cs ns) ≡ less_near (drop k os) (drop k cs) (drop (sum (take k cs)) ns)
unfolding less_near sum
near-drop zero os cs ns e f = refl
near-drop (suc k) [] [] ns e f = refl
near-drop (suc k) [] (c ∷ cs) ns e f = absurd (omega arith)
near-drop (suc k) (o ∷ os) [] ns e f = absurd (omega arith)
near-drop (suc k) (o ∷ os) (c ∷ cs) ns e f = let s = sum (take k cs) in
    rw (drop_past c s (map (less o) (take c ns)) (less_near os cs (drop c ns)) (mapped-long o c ns (omega arith)), ← drop-drop s c ns)
    (near-drop k os cs (drop c ns) (omega arith) (omega (arith, length-drop c ns)))

-- ---- lengths
pub length-less : (os : List ℕ) (xs : List ℤ) → length os ≡ length xs → length (less_offsets os xs) ≡ length xs
unfolding less_offsets
length-less [] [] e = refl
length-less [] (x ∷ xs) e = absurd (omega arith)
length-less (o ∷ os) [] e = absurd (omega arith)
length-less (o ∷ os) (x ∷ xs) e = ap suc (length-less os xs (omega arith))

pub length-near : (os cs : List ℕ) (ns : List ℤ) → length os ≡ length cs → length ns ≡ sum cs → length (less_near os cs ns) ≡ length ns
unfolding less_near sum
length-near [] [] ns e f = sym f
length-near [] (c ∷ cs) ns e f = absurd (omega arith)
length-near (o ∷ os) [] ns e f = absurd (omega arith)
length-near (o ∷ os) (c ∷ cs) ns e f = let s = map (less o) (take c ns) in let r = less_near os cs (drop c ns) in
    omega (arith, length-append s r, length-map (take c ns) (less o), length-take c ns, length-drop c ns, length-near os cs (drop c ns) (omega arith) (omega (arith, length-drop c ns)))

-- ---- the size of a position less an offset
pub less-size : (o : ℕ) (x : ℤ) → size x ≤ reach → o ≤ max_offset → size (less o x) ≤ max_size
less-size o x p h = omega (arith, dif x (pos o))

-- ---- the order of a box's neighbours, and how many are at most m
less-le : (o : ℕ) (x y : ℤ) → le_z (less o x) (less o y) ≡ le_z x y
less-le o x y = let d = dif x (pos o) in let e = dif y (pos o) in cases_z x y
    (λ k. make-le-true (less o x) (less o y) (omega arith) ∙ sym (make-le-true x y k))
    (λ k. make-le-false (less o x) (less o y) (omega arith) ∙ sym (make-le-false x y k))

pub nondecreasing-less : (o : ℕ) (ns : List ℤ) → nondecreasing (map (less o) ns) ≡ nondecreasing ns
unfolding nondecreasing
nondecreasing-less o [] = refl
nondecreasing-less o (x ∷ []) = refl
nondecreasing-less o (x ∷ y ∷ ns) = rw (less-le o x y, nondecreasing-less o (y ∷ ns))

less-lt : (o : ℕ) (m n : ℤ) → lt_z m (less o n) ≡ lt_z (m +ℤ pos o) n
less-lt o m n = let d = dif n (pos o) in let e = sum_of m (pos o) in cases_z n (m +ℤ pos o)
    (λ k. make-lt-false m (less o n) (omega arith) ∙ sym (make-lt-false (m +ℤ pos o) n k))
    (λ k. make-lt-true m (less o n) (omega arith) ∙ sym (make-lt-true (m +ℤ pos o) n k))

pub count_less : (o : ℕ) (m : ℤ) (ns : List ℤ) → count_up_to m (map (less o) ns) ≡ count_up_to (m +ℤ pos o) ns
unfolding count_up_to
count_less o m [] = refl
count_less o m (n ∷ ns) = rw (less-lt o m n, count_less o m ns)

order-less : (os cs : List ℕ) (ns : List ℤ) → length os ≡ length cs → length ns ≡ sum cs → parts_in_order cs ns ≡ true → parts_in_order cs (less_near os cs ns) ≡ true
unfolding parts_in_order less_near sum
order-less [] [] ns e f q = refl
order-less [] (c ∷ cs) ns e f q = absurd (omega arith)
order-less (o ∷ os) [] ns e f q = refl
order-less (o ∷ os) (c ∷ cs) ns e f q = let s = map (less o) (take c ns) in let r = less_near os cs (drop c ns) in
    let l = mapped-long o c ns (omega arith) in
    rw (take_at s r c l, drop_at s r c l, nondecreasing-less o (take c ns))
    (◌and◌ {a = nondecreasing (take c ns)} (and_left (nondecreasing (take c ns)) _ q)
    (order-less os cs (drop c ns) (omega arith) (omega (arith, length-drop c ns)) (and_right (nondecreasing (take c ns)) _ q)))

pub columns-less : (os : List ℕ) (zs : List ℤ) (cs : List ℕ) (ns : List ℤ) → length os ≡ length zs → Columns zs cs ns → Columns zs cs (less_near os cs ns)
columns-less os zs cs ns e q = let b = e ∙ q.boxes in record {
  boxes = q.boxes;
  neighbours = length-near os cs ns b q.neighbours ∙ q.neighbours;
  order = order-less os cs ns b q.neighbours q.order;
}
