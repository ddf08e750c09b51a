-- The tests of refusal 8 over the rest of a list, one element further: as the loops of refusal.rt meet them. Assumes nothing.
use mathlib.Core.Path.{◌≡◌, refl, sym, ◌∙◌, ap}
use mathlib.Core.Bool.{Bool, true, false, ◌&&◌, not}
use mathlib.Core.List.{List, [], ◌∷◌}
use Prim.Native.Nat.{ℕ, suc, ◌+◌, ◌-◌, ◌*◌, ◌≤◌, ◌<◌}
use native.Mathlib.Omega.{arith}
use native.Mathlib.Numerals.{add-one}
use borrow.Author.Tests.{leb-true, le-leb}
use lib.Dec.{leb}
use lib.ListN.{length, take, drop, get_or, drop_of_length-le, length-take, length-drop}
use lib.Seq.{drop-cons, drop-drop}
use lib.IntN.{ℤ, pos, negsuc}
use lib.Signed.{lt_z, le_z}
use Rattle.ints.specs.Ints.{size, ◌⊑◌}
use Rattle.ints.proofs.Laws.{ints, <-read, eq-read, make-le-true, make-le-false, le-false}
use Rattle.std.proofs.Common.{◌<ℤ◌, is_le, int_cmp, Ordering, Less, Equal, Greater}
use Rattle.std.specs.Cmp.{int_ranks}
use Rattle.std.specs.Ordering.{MatchOrdering}
use Rattle.run_columns.proofs.Beside.{sorted-mono}
use Rattle.ints.proofs.Tests.{and_left, and_right, ◌and◌}
use Rattle.ints.proofs.Reach.{within-size, within-get, within-cut}
use Rattle.run.specs.Run.{free, at, nondecreasing, neighbours_in_order, span}
use Rattle.run.proofs.Leads.{lead-positions}
use Rattle.run.proofs.Sorted.{Sorted, sorted-cons, sorted, sorted-get}
use Rattle.std.specs.Prelude.{Option, None, Some}
use Rattle.ints.specs.Lists.{sum}
use Rattle.ints.specs.Reach.{reach, is_within, all_within}
use Rattle.run.specs.Call.{member_of, positions_of, boxes_from, is_distance, all_distances}
use Rattle.run_columns.specs.inner.Columns.{parts_in_order}
use Rattle.run_halves.proofs.Boxes.{span-is}

-- ---- the members
pub member-le : (b : Option ℤ) → member_of b ≤ 1
member-le None = omega arith
member-le (Some x) = omega arith

-- ---- positions and distances within their limits
pub bound-size : (b : Option ℤ) (x : ℤ) → b ≡ Some x → all_within (positions_of b) ≡ true → size x ≤ reach
unfolding all_within
bound-size b x e h = within-size x (and_left (is_within x) true (rw e at h))

-- ---- nondecreasing order, from what is known of neighbours
ranked : (r : Ordering) (x y : ℤ) → MatchOrdering r (x <ℤ y) (x ≡ y) (y <ℤ x) → is_le r ≡ le_z x y
ranked Less x y m = sym (make-le-true x y (omega (arith, <-read m)))
ranked Equal x y m = sym (make-le-true x y (omega (arith, eq-read x y m)))
ranked Greater x y m = sym (make-le-false x y (<-read m))

pub is_le_z : (x y : ℤ) → is_le (int_cmp x y) ≡ le_z x y
is_le_z x y = ranked (int_cmp x y) x y (int_ranks x y)

pub in_order : (xs : List ℤ) → ((k : ℕ) (d : ℤ) → k + 1 < length xs → is_le (int_cmp (get_or xs k d) (get_or xs (k + 1) d)) ≡ true) → nondecreasing xs ≡ true
unfolding nondecreasing
in_order [] h = refl
in_order (x ∷ []) h = refl
in_order (x ∷ y ∷ xs) h = ◌and◌ (sym (is_le_z x y) ∙ h 0 (pos 0) (omega arith)) (in_order (y ∷ xs) (λ k d q. rw add-one (rw add-one at (h (suc k) d (omega arith)))))

pub out_of_order : (xs : List ℤ) (k : ℕ) (d : ℤ) → k + 1 < length xs → is_le (int_cmp (get_or xs k d) (get_or xs (k + 1) d)) ≡ false → nondecreasing xs ≡ false
out_of_order xs k d h e = go (nondecreasing xs) refl
  where
    go : (t : Bool) → nondecreasing xs ≡ t → nondecreasing xs ≡ false
    go true f = absurd (omega (arith, sorted-mono d xs k (k + 1) (omega arith) h (sorted xs f), le-false (get_or xs k d) (get_or xs (k + 1) d) (sym (is_le_z (get_or xs k d) (get_or xs (k + 1) d)) ∙ e)))
    go false f = f

-- in that order none is farther out than the first or the last
within-between : (x a b : ℤ) → a ⊑ x → x ⊑ b → is_within a ≡ true → is_within b ≡ true → is_within x ≡ true
within-between (pos n) a b p q e f = le-leb n reach (omega (arith, within-size b f))
within-between (negsuc n) a b p q e f = le-leb (suc n) reach (omega (arith, within-size a e))

last-above : (x : ℤ) (xs : List ℤ) → Sorted (at x) xs → x ⊑ get_or (x ∷ xs) (length xs) (pos 0)
last-above x [] r = omega arith
last-above x (y ∷ xs) r = sorted-get x (pos 0) (y ∷ xs) (length xs) (omega arith) r

within-from : (a x : ℤ) (xs : List ℤ) → a ⊑ x → Sorted (at x) xs → is_within a ≡ true → is_within (get_or (x ∷ xs) (length xs) (pos 0)) ≡ true → all_within (x ∷ xs) ≡ true
unfolding all_within
within-from a x [] p r e f = ◌and◌ f refl
within-from a x (y ∷ xs) p (sorted-cons q r) e f =
    let g = within-between x a (get_or (y ∷ xs) (length xs) (pos 0)) p (last-above x (y ∷ xs) (sorted-cons q r)) e f in
    ◌and◌ g (within-from x y xs q r g f)

same_tests : (a b : Bool) → (a ≡ true → b ≡ true) → (b ≡ true → a ≡ true) → a ≡ b
same_tests true b f g = sym (f refl)
same_tests false true f g = g refl
same_tests false false f g = refl

pub ends-within : (xs : List ℤ) → nondecreasing xs ≡ true → (is_within (get_or xs 0 (pos 0)) && is_within (get_or xs (length xs - 1) (pos 0))) ≡ all_within xs
unfolding all_within
ends-within xs e =
    same_tests (is_within (get_or xs 0 (pos 0)) && is_within (get_or xs (length xs - 1) (pos 0))) (all_within xs)
    (λ f. go xs (sorted xs e) (and_left (is_within (get_or xs 0 (pos 0))) _ f) (and_right (is_within (get_or xs 0 (pos 0))) _ f))
    (λ f. ◌and◌ (within-get xs 0 f) (within-get xs (length xs - 1) f))
  where
    go : (xs : List ℤ) → Sorted free xs → is_within (get_or xs 0 (pos 0)) ≡ true → is_within (get_or xs (length xs - 1) (pos 0)) ≡ true → all_within xs ≡ true
    go [] r f g = refl
    go (x ∷ xs) (sorted-cons o r) f g = let k : length (x ∷ xs) - 1 ≡ length xs = omega arith in
        within-from x x xs (omega arith) r f (rw k at g)

-- ---- the neighbours of every box
pub in-order-same : (os : List ℤ) (ds cs : List ℕ) (ns : List ℤ) (ws : List ℕ) → length os ≡ length cs → length ws ≡ length ns → neighbours_in_order (boxes_from os ds cs ns ws) ≡ parts_in_order cs ns
unfolding neighbours_in_order boxes_from parts_in_order
in-order-same [] ds [] ns ws h k = refl
in-order-same [] ds (c ∷ cs) ns ws h k = absurd (omega arith)
in-order-same (o ∷ os) ds [] ns ws h k = absurd (omega arith)
in-order-same (o ∷ os) ds (c ∷ cs) ns ws h k = rw (
  lead-positions (take c ns) (take c ws) (omega (arith, length-take c ns, length-take c ws)),
  in-order-same os (drop 1 ds) cs (drop c ns) (drop c ws) (omega arith) (omega (arith, length-drop c ns, length-drop c ws)),
)

-- within reach, and each box's in order
abbrev pub taken_parts : List ℕ → List ℤ → Bool
taken_parts cs ns = all_within ns && parts_in_order cs ns

-- the tests of one box, then those of the others
and-pairs : (a b c d : Bool) → ((a && b) && (c && d)) ≡ ((a && c) && (b && d))
and-pairs true true c d = refl
and-pairs true false true d = refl
and-pairs true false false d = refl
and-pairs false b c d = refl

pub parts-step : (cs : List ℕ) (ns : List ℤ) (i from : ℕ) → i < length cs → let part = take (from + get_or cs i 0 - from) (drop from ns) in
    taken_parts (drop i cs) (drop from ns) ≡ ((all_within part && nondecreasing part) && taken_parts (drop (i + 1) cs) (drop (from + get_or cs i 0) ns))
unfolding parts_in_order
parts-step cs ns i from h = let c = get_or cs i 0 in let e : from + c - from ≡ c = omega arith in
    rw (e, add-one, drop-cons cs i 0, ← drop-drop, within-cut c (drop from ns))
    (and-pairs (all_within (take c (drop from ns))) (all_within (drop c (drop from ns))) (nondecreasing (take c (drop from ns))) (parts_in_order (drop (suc i) cs) (drop c (drop from ns))))

pub parts-end : (cs : List ℕ) (ns : List ℤ) (i from : ℕ) → length cs ≤ i → length ns ≤ from → taken_parts (drop i cs) (drop from ns) ≡ true
unfolding parts_in_order all_within
parts-end cs ns i from h k = rw (drop_of_length-le cs h, drop_of_length-le ns k)

-- ---- the distance of the bounds
pub sum-distances : (ds : List ℕ) → all_distances ds ≡ true → sum ds ≤ length ds * (2 * reach)
unfolding sum all_distances
sum-distances [] e = omega arith
sum-distances (d ∷ ds) e =
    let h = leb-true d (2 * reach) (and_right (leb 1 d) (leb d (2 * reach)) (and_left (is_distance d) (all_distances ds) e)) in
    omega (arith, sum-distances ds (and_right (is_distance d) (all_distances ds) e))

-- the bounds at both sides, so that there is one distance more than boxes
pub bounds-sum : (os : List ℤ) (ds cs : List ℕ) (ns : List ℤ) (ws : List ℕ) → length os ≡ length cs → length ds ≡ length os + 1 → get_or ds 0 0 + span (boxes_from os (drop 1 ds) cs ns ws) ≡ sum ds
unfolding sum
bounds-sum os [] cs ns ws h k = absurd (omega arith)
bounds-sum os (d ∷ ds) cs ns ws h k = ap (λ n. d + n) (span-is os ds cs ns ws h (omega arith))

-- not below is at most
pub not-lt : (a b : ℤ) → not (lt_z a b) ≡ le_z b a
not-lt a b = go (lt_z a b) refl
  where
    go : (t : Bool) → lt_z a b ≡ t → not t ≡ le_z b a
    go true e = sym (omega (arith, ints))
    go false e = sym (omega (arith, ints))
