-- How long the numbers of a picture are. Assumes nothing.
use mathlib.Core.Path.{◌≡◌}
use mathlib.Core.Bool.{cond}
use mathlib.Core.List.{List, [], ◌++◌}
use Prim.Native.Nat.{ℕ, suc, ◌/◌, ◌%◌, ◌+◌, ◌*◌, ◌≤◌, ◌<◌, ◌^◌}
use native.Mathlib.Omega.{arith}
use lib.Dec.{eqb}
use lib.ListN.{length, length-append}
use lib.IntN.{ℤ, pos, negsuc, ◌*ℤ◌}
use Rattle.ints.specs.Ints.{size}
use Rattle.ints.proofs.Laws.{if-ind}
use Rattle.text.specs.Bytes.{bytes}
use Rattle.text.specs.Decimal.{decimal}
use Rattle.text.proofs.DecimalLaws.{ten_to, decimal-length}
use Rattle.picture_numbers.specs.Thousandths.{places, fraction, amount, thousandths, across, down}
use Rattle.picture_numbers.proofs.Times.{times-P, times-N}

places-short : (f : ℕ) → f < 1000 → length (places f) ≤ 3
unfolding places
places-short f h =
    let a = decimal-length 0 (f / 100) (omega arith) in
    let b = decimal-length 0 (f / 10 % 10) (omega arith) in
    let c = decimal-length 0 (f % 10) (omega arith) in
    let one = decimal (f / 100) in
    let two = one ++ decimal (f / 10 % 10) in
    let three = two ++ decimal (f % 10) in
    if-ind (eqb (f % 100) 0) one (cond (eqb (f % 10) 0) two three) (λ (l : List ℕ). length l ≤ 3)
    (λ e. omega arith)
    (λ e. if-ind (eqb (f % 10) 0) two three (λ (l : List ℕ). length l ≤ 3)
    (λ g. simp length-append (omega arith))
    (λ g. simp length-append (omega arith)))

fraction-short : (f : ℕ) → f < 1000 → length (fraction f) ≤ 4
unfolding fraction
fraction-short f h =
    if-ind (eqb f 0) [] (bytes "." ++ places f) (λ (l : List ℕ). length l ≤ 4) (λ e. omega arith) (λ e. omega (arith, places-short f h))

-- a number of j + 1 digits before the point
pub amount-short : (j n : ℕ) → n / 1000 < ten_to (suc j) → length (amount n) ≤ suc j + 4
unfolding amount
amount-short j n h = simp length-append (omega (arith, decimal-length j (n / 1000) h, fraction-short (n % 1000) (omega arith)))

pub thousandths-short : (j : ℕ) (n : ℤ) → size n / 1000 < ten_to (suc j) → length (thousandths n) ≤ suc j + 5
unfolding thousandths
thousandths-short j (pos n) h = let e : n + 0 ≡ n = omega arith in omega (arith, amount-short j n (rw e at h))
thousandths-short j (negsuc n) h = let e : 0 + suc n ≡ suc n = omega arith in omega (arith, amount-short j (suc n) (rw e at h))

-- Every number of a picture is that of a position of at most 2^40 half steps or less, doubled: at most 18 bytes.
pub number_short : (n : ℤ) → size n ≤ 1000 * 2 ^ 42 → length (thousandths n) ≤ 18
number_short n h = omega (arith, thousandths-short 12 n (omega arith))

pub across-short : (n : ℤ) → size n ≤ 2 ^ 42 → length (across n) ≤ 18
unfolding across
across-short n h = number_short (pos 500 *ℤ n) (omega (arith, times-P n, times-N n))

pub down-short : (j n : ℕ) → n < ten_to (suc j) → length (down n) ≤ suc j
unfolding down amount fraction
down-short j n h =
    let q : 1000 * n / 1000 ≡ n = omega arith in
    let r : 1000 * n % 1000 ≡ 0 = omega arith in
    rw (q, r) (simp length-append (omega (arith, decimal-length j n h)))

-- of a position within ±2^40, or the edge of a box there
pub across-near : (n : ℤ) → size n ≤ 2 ^ 40 + 400 → length (across n) ≤ 17
unfolding across
across-near n h = thousandths-short 11 (pos 500 *ℤ n) (omega (arith, times-P n, times-N n))
