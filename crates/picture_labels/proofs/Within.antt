-- A label fits its box: no row is wider than the box, and all rows together are no higher.
use mathlib.Core.Path.{◌≡◌, refl}
use mathlib.Core.Bool.{Bool, true, false}
use mathlib.Core.List.{List, [], ◌∷◌}
use Prim.Native.Nat.{ℕ, zero, suc, ◌+◌, ◌-◌, ◌*◌, ◌/◌, ◌≤◌, ◌<◌, min}
use native.Mathlib.Omega.{arith}
use native.Mathlib.Nat.{mul-le-mul_left, mul-le-mul_right, div-mul-le_self, mul-div-le}
use borrow.Author.Tests.{leb-true}
use lib.Dec.{leb}
use lib.ListN.{length, get_or}
use Rattle.ints.specs.Lists.{sum}
use Rattle.ints.proofs.Tests.{cond-left, cond-right}
use Rattle.plan.specs.Checks.{every}
use Rattle.text.specs.Decimal.{decimal}
use Rattle.text.specs.Parser.{is_digit}
use Rattle.text.proofs.Numbers.{digit-high}
use Rattle.text.proofs.DecimalLaws.{decimal-shortest}
use Rattle.picture_rows.specs.Rows.{columns, Row, row, rows}
use Rattle.picture_rows.proofs.ColumnLaws.{col-ascii}
use Rattle.picture_rows.proofs.Within.{wide, rows-wide}
use Rattle.picture_labels.specs.Label.{number_size, name_size, columns_in, rows_of}
use Rattle.picture_labels.proofs.SizeLaws.{name-low, number-low, columns-some, rows-three}

-- Rows of letters that are `size` thousandths high, in a box 2 hw steps wide and 0.4 u high: a column is 2/3 of the height wide, and a row begins
-- 1.2 of the height below the one before it.
pub record Within (hw u size : ℕ) (rs : List Row) : Type 0 where
  pub across : (i : ℕ) → i < length rs → 2 * (wide (get_or rs i (row [] false)) * size) ≤ 3 * (2000 * hw)
  pub down : 12 * ((length rs - 1) * size) + 10 * size ≤ 10 * (400 * u)

every-at : {A : Type 0} (t : A → Bool) (xs : List A) (d : A) (i : ℕ) → every t xs ≡ true → i < length xs → t (get_or xs i d) ≡ true
unfolding every
every-at t [] d i e h = absurd (omega arith)
every-at t (x ∷ xs) d zero e h = cond-left (t x) (every t xs) e
every-at t (x ∷ xs) d (suc i) e h = every-at t xs d i (cond-right (t x) (every t xs) e) (omega arith)

-- what has at most as many columns as a row has room for
fits : (hw size w : ℕ) → w ≤ 3000 * hw / size → 2 * (w * size) ≤ 3 * (2000 * hw)
fits hw size w h = omega (arith, mul-le-mul_right size h, div-mul-le_self (3000 * hw) size)

module _ (hw u : ℕ) (name : List ℕ) where
  row_fits : 1 ≤ hw → 1 ≤ u → (i : ℕ) → i < length (rows_of hw u name) → wide (get_or (rows_of hw u name) i (row [] false)) ≤ columns_in hw (name_size hw u name)
  unfolding rows_of
  row_fits h k i l =
      let c = columns_in hw (name_size hw u name) in let rs = rows c 3 name in let r = get_or rs i (row [] false) in
      leb-true (wide r) c (every-at (λ r. leb (wide r) c) rs (row [] false) i (rows-wide c 3 name (columns-some hw u name h k)) l)

  pub label-within : 1 ≤ hw → 1 ≤ u → Within hw u (name_size hw u name) (rows_of hw u name)
  label-within h k =
      let f = name_size hw u name in let rs = rows_of hw u name in
      let three : length rs - 1 ≤ 2 = omega (arith, rows-three hw u name) in
      record {
        across = λ i l. fits hw f (wide (get_or rs i (row [] false))) (row_fits h k i l);
        down = omega (arith, mul-le-mul_right f three, name-low hw u name);
      }

-- ---- a number
digits-wide : (w : List ℕ) → every is_digit w ≡ true → columns w ≡ length w
unfolding every columns sum
digits-wide [] e = refl
digits-wide (b ∷ w) e =
    omega (arith, col-ascii b (omega (arith, digit-high b (cond-left (is_digit b) (every is_digit w) e))), digits-wide w (cond-right (is_digit b) (every is_digit w) e))

number_fits : (hw u number : ℕ) → length (decimal number) * number_size hw u number ≤ 3000 * hw
unfolding number_size
number_fits hw u number =
    let d = length (decimal number) in let q = 3000 * hw / d in
    let m : min (200 * u) q ≤ q = omega arith in
    omega (arith, mul-le-mul_left d m, mul-div-le (3000 * hw) d)

pub number-within : (hw u number : ℕ) → Within hw u (number_size hw u number) (row (decimal number) false ∷ [])
number-within hw u number = record { across = across; down = omega (arith, number-low hw u number) }
  where
    across : (i : ℕ) → i < 1 → 2 * (wide (get_or (row (decimal number) false ∷ []) i (row [] false)) * number_size hw u number) ≤ 3 * (2000 * hw)
    across zero h =
        let e : wide (row (decimal number) false) ≡ length (decimal number) = omega (arith, digits-wide (decimal number) (decimal-shortest number).digits_only) in
        rw e (omega (arith, number_fits hw u number))
    across (suc i) h = absurd (omega arith)
