-- The numbers of all marks, as a loop writes them: those of the next mark, and what is left after it. Assumes nothing.
use mathlib.Core.Path.{◌≡◌, refl, sym, ◌∙◌}
use mathlib.Core.List.{List, map, ◌++◌, append_assoc}
use Prim.Native.Nat.{ℕ, zero, suc, ◌+◌, ◌*◌, ◌-◌, ◌≤◌, ◌<◌}
use native.Mathlib.Omega.{arith}
use lib.ListN.{length, drop, length-append}
use lib.Seq.{sets, drop-append-add}
use lib.IntN.{ℤ}
use lib.Ieee.{Float}
use Rattle.ints.specs.Lists.{over, concat}
use Rattle.plan.specs.Plan.{PlanData, numbers}
use Rattle.text_scan.proofs.Stores.{sets-append, sets_over}
use Rattle.marks.specs.declared.types.Mark.{Mark}
use Rattle.marks.specs.declared.types.Mark.TheVariants.{Box, Bend, Line}
use Rattle.marks.specs.Marks.{mark_of, mark_count, five_of, all_numbers}

five-long : (m : Mark) → length (five_of m) ≡ 5
unfolding five_of
five-long (Box c w) = refl
five-long (Bend c) = refl
five-long (Line a b) = refl

module _ (p : PlanData) (xs : List ℤ) where
  -- The numbers of k marks from the n-th on.
  abbrev numbers_from : ℕ → ℕ → List Float
  numbers_from n k = concat (map (λ i. five_of (mark_of p xs i)) (numbers n k))

  from-long : (n k : ℕ) → length (numbers_from n k) ≡ 5 * k
  unfolding numbers concat
  from-long n zero = refl
  from-long n (suc k) = omega (arith, length-append (five_of (mark_of p xs n)) (numbers_from (n + 1) k), five-long (mark_of p xs n), from-long (n + 1) k)

  pub all-long : length (all_numbers p xs) ≡ 5 * mark_count p
  unfolding all_numbers
  all-long = from-long 0 (mark_count p)

  -- Stored at its place, what is left from the n-th mark on makes out of o' what all numbers make out of o.
  abbrev pub Left : ℕ → List Float → List Float → Type 0
  Left n o o' = sets o' (5 * n) (numbers_from n (mark_count p - n)) ≡ sets o 0 (all_numbers p xs)

  pub none_yet : (o : List Float) → Left 0 o o
  unfolding all_numbers
  none_yet o = let e : mark_count p - 0 ≡ mark_count p = omega arith in rw e

  pub next-put : (n : ℕ) (o o' : List Float) (m : Mark) → n < mark_count p → m ≡ mark_of p xs n → Left n o o' → Left (n + 1) o (sets o' (5 * n) (five_of m))
  unfolding numbers concat
  next-put n o o' m h e l =
      let k : mark_count p - n ≡ suc (mark_count p - (n + 1)) = omega arith in
      let f : 5 * (n + 1) ≡ 5 * n + length (five_of (mark_of p xs n)) = omega (arith, five-long (mark_of p xs n)) in
      rw (e, f) (sym (sets-append o' (5 * n) (five_of (mark_of p xs n)) (numbers_from (n + 1) (mark_count p - (n + 1)))) ∙ rw k at l)

  pub all-put : (n : ℕ) (o o' : List Float) → mark_count p ≤ n → 5 * mark_count p ≤ length o → Left n o o' → o' ≡ over (all_numbers p xs) o
  unfolding numbers concat
  all-put n o o' h r l =
      let k : mark_count p - n ≡ 0 = omega arith in
      rw k at l ∙ sets_over o (all_numbers p xs) (omega (arith, all-long))

  -- The n-th five numbers are those of the n-th mark.
  from_at : (a k n : ℕ) (more : List Float) → n < k → (rest : List Float) × (drop (5 * n) (numbers_from a k ++ more) ≡ five_of (mark_of p xs (a + n)) ++ rest)
  unfolding numbers concat
  from_at a zero n more h = absurd (omega arith)
  from_at a (suc k) zero more h = (numbers_from (a + 1) k ++ more, let e : a + 0 ≡ a = omega arith in rw (e, append_assoc))
  from_at a (suc k) (suc n) more h =
      let five = five_of (mark_of p xs a) in
      let step : 5 * suc n ≡ length five + 5 * n = omega (arith, five-long (mark_of p xs a)) in
      let next : a + suc n ≡ a + 1 + n = omega arith in
      let on = from_at (a + 1) k n more (omega arith) in
      (on.0, rw (step, append_assoc, drop-append-add, next) on.1)

  pub mark-at : (n : ℕ) (more : List Float) → n < mark_count p → (rest : List Float) × (drop (5 * n) (all_numbers p xs ++ more) ≡ five_of (mark_of p xs n) ++ rest)
  unfolding all_numbers
  mark-at n more h = let e : 0 + n ≡ n = omega arith in let r = from_at 0 (mark_count p) n more h in (r.0, rw e at r.1)
