-- Numbers of thousandths of a step in decimal: a minus sign before negatives, the whole part, and of a fraction that is not 0 a point and
-- its digits without trailing zeros.
use Rattle.std.specs.Prelude.{cond, List, [], ◌++◌, ℕ, suc, ◌*◌, ◌/◌, ◌%◌, eqb, ℤ, pos, negsuc, ◌*ℤ◌}
use Rattle.text.specs.Bytes.{bytes}
use Rattle.text.specs.Decimal.{decimal}

-- The digits of a fraction of f thousandths, f below 1000, without trailing zeros.
unfoldable pub places : ℕ → List ℕ
places f =
    let one = decimal (f / 100) in
    let two = one ++ decimal (f / 10 % 10) in
    let three = two ++ decimal (f % 10) in
    cond (eqb (f % 100) 0) one (cond (eqb (f % 10) 0) two three)

-- "If the fraction is not 0 a point and its digits".
unfoldable pub fraction : ℕ → List ℕ
fraction f = cond (eqb f 0) [] (bytes "." ++ places f)

-- A number that is not negative.
unfoldable pub amount : ℕ → List ℕ
amount n = decimal (n / 1000) ++ fraction (n % 1000)

unfoldable pub thousandths : ℤ → List ℕ
thousandths (pos n) = amount n
thousandths (negsuc n) = bytes "-" ++ amount (suc n)

-- "A mark's x of n half steps is 500 n thousandths, y of n steps 1000 n: exact".
unfoldable pub across : ℤ → List ℕ
across n = thousandths (pos 500 *ℤ n)

unfoldable pub down : ℕ → List ℕ
down n = amount (1000 * n)
