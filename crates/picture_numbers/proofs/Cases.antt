-- Numbers of thousandths, computed. Assumes nothing.
use mathlib.Core.Path.{◌≡◌, refl}
use mathlib.Core.List.{[], ◌∷◌, map}
use lib.IntN.{pos, negsuc}
use Rattle.text.specs.Bytes.{bytes}
use Rattle.text.specs.Decimal.{digits, decimal}
use Rattle.picture_numbers.specs.Thousandths.{places, fraction, amount, thousandths}

-- -2.5, 0, 0.125, 17, 0.05, -0.01 and 10.1
numbers : map thousandths (negsuc 2499 ∷ pos 0 ∷ pos 125 ∷ pos 17000 ∷ pos 50 ∷ negsuc 9 ∷ pos 10100 ∷ [])
    ≡ bytes "-2.5" ∷ bytes "0" ∷ bytes "0.125" ∷ bytes "17" ∷ bytes "0.05" ∷ bytes "-0.01" ∷ bytes "10.1" ∷ []
unfolding thousandths amount fraction places digits decimal
numbers = refl
