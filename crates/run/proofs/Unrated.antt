-- With all ratings 1 the start is E4's: half the sum of the ⌈s/2⌉-th neighbour and the one after the ⌊s/2⌋-th; so document 01's
-- with no neighbours or an odd number of them. Assumes nothing.
use mathlib.Core.Path.{◌≡◌, refl, ◌∙◌, ap}
use mathlib.Core.List.{List, [], ◌∷◌, map}
use Prim.Native.Nat.{ℕ, suc, ◌+◌, ◌-◌, ◌*◌, ◌<◌, ◌/◌}
use native.Mathlib.Omega.{arith}
use lib.ListN.{length, get_or}
use lib.Dec.{leb}
use borrow.Author.Tests.{leb-true, leb-false}
use lib.IntN.{ℤ, ◌+ℤ◌}
use Rattle.ints.proofs.Laws.{if-ind}
use Rattle.run.specs.Run.{Lead, total_rating, first_reaching, half_down, start_of}
use Rattle.run.proofs.HalfDown.{half_twice}

-- "without one it has rating 1"
abbrev pub unrated : ℤ → Lead
unrated x = record { at = x; rating = 1 }

total-unrated : (xs : List ℤ) → total_rating (map unrated xs) ≡ length xs
unfolding total_rating
total-unrated [] = refl
total-unrated (x ∷ xs) = omega (arith, total-unrated xs)

reaching-unrated : (t a : ℕ) (old : ℤ) (xs : List ℤ) → 2 * a < t → first_reaching t a old (map unrated xs) ≡ get_or xs ((t + 1) / 2 - a - 1) old
unfolding first_reaching
reaching-unrated t a old [] h = refl
reaching-unrated t a old (x ∷ xs) h = let b = a + 1 in
    if-ind (leb t (2 * b)) x (first_reaching t b old (map unrated xs)) (λ z. z ≡ get_or (x ∷ xs) ((t + 1) / 2 - a - 1) old)
    (λ e. let k = leb-true t (2 * b) e in let i : 0 ≡ (t + 1) / 2 - a - 1 = omega arith in ap (λ (j : ℕ). get_or (x ∷ xs) j old) i)
    (λ e. let k = leb-false t (2 * b) e in let i : suc ((t + 1) / 2 - b - 1) ≡ (t + 1) / 2 - a - 1 = omega arith in
    reaching-unrated t b old xs k ∙ ap (λ (j : ℕ). get_or (x ∷ xs) j old) i)

-- E4's start
abbrev pub between_middles : ℤ → List ℤ → ℤ
between_middles old xs = half_down (get_or xs ((length xs + 1) / 2 - 1) old +ℤ get_or xs (length xs / 2) old)

start-unrated_none : (old : ℤ) → start_of old [] ≡ between_middles old []
unfolding start_of first_reaching
start-unrated_none old = refl

pub start-unrated : (old : ℤ) (xs : List ℤ) → start_of old (map unrated xs) ≡ between_middles old xs
unfolding start_of
start-unrated old [] = start-unrated_none old
start-unrated old (x ∷ xs) = let s = length (x ∷ xs) in
    let i : (s + 1) / 2 - 0 - 1 ≡ (s + 1) / 2 - 1 = omega arith in let j : (s + 1 + 1) / 2 - 0 - 1 ≡ s / 2 = omega arith in
    rw (total-unrated (x ∷ xs), reaching-unrated s 0 old (x ∷ xs) (omega arith), reaching-unrated (s + 1) 0 old (x ∷ xs) (omega arith), i, j)

-- so document 01's, where E4 leaves it
pub start_none : (old : ℤ) → start_of old [] ≡ old
unfolding start_of first_reaching
start_none old = half_twice old

pub start-odd : (old : ℤ) (xs : List ℤ) (k : ℕ) → length xs ≡ k + k + 1 → start_of old (map unrated xs) ≡ get_or xs ((length xs + 1) / 2 - 1) old
start-odd old xs k e = let i = (length xs + 1) / 2 - 1 in let f : length xs / 2 ≡ i = omega arith in
    start-unrated old xs ∙ ap (λ (j : ℕ). half_down (get_or xs i old +ℤ get_or xs j old)) f ∙ half_twice (get_or xs i old)
