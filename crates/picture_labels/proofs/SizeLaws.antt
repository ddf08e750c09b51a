-- The heights of letters and the columns of a row: none is 0, and none too large.
use mathlib.Core.Path.{◌≡◌}
use mathlib.Core.List.{List}
use Prim.Native.Nat.{ℕ, ◌-◌, ◌*◌, ◌/◌, ◌≤◌, ◌<◌, min, max}
use native.Mathlib.Omega.{arith}
use native.Mathlib.Nat.{le-div_iff_mul-le, div-le_self}
use lib.ListN.{length}
use lib.IntN.{ℤ}
use Rattle.picture_rows.specs.Rows.{widest, rows}
use Rattle.picture_rows.proofs.Within.{rows_few}
use Rattle.picture_labels.specs.Label.{elements, number_size, name_size, columns_in, rows_of, centred}

module _ (hw u : ℕ) (name : List ℕ) where
  pub name-low : name_size hw u name ≤ 100 * u
  unfolding name_size
  name-low = omega arith

  pub name-under : name_size hw u name ≤ 3000 * hw
  unfolding name_size
  name-under = omega (arith, div-le_self (3000 * hw) (max 1 (min 12 (widest name))))

  module _ (h : 1 ≤ hw) (k : 1 ≤ u) where
    pub name-some : 0 < name_size hw u name
    unfolding name_size
    name-some =
        let w = max 1 (min 12 (widest name)) in
        let s : 0 < w = omega arith in
        let q : 1 ≤ 3000 * hw / w = (le-div_iff_mul-le s).1 (omega arith) in
        omega (arith, q, k)

    pub columns-some : 0 < columns_in hw (name_size hw u name)
    columns-some = (le-div_iff_mul-le name-some).1 (omega (arith, name-under))

  pub rows-three : length (rows_of hw u name) ≤ 3
  unfolding rows_of
  rows-three = rows_few (columns_in hw (name_size hw u name)) 3 name

  -- what the program counts
  pub centred-is : (x : ℤ) (y size cols n : ℕ) → size ≡ name_size hw u name → cols ≡ columns_in hw size → n ≡ length (rows cols 3 name)
      → elements x y size (3 - n) (rows cols 3 name) ≡ centred x y (name_size hw u name) (rows_of hw u name)
  unfolding rows_of
  centred-is x y size cols n s c e = rw (e, c, s)

pub number-low : (hw u number : ℕ) → number_size hw u number ≤ 200 * u
unfolding number_size
number-low hw u number = omega arith
