-- How long titles and labels are: a number that holds of every box, and five bytes for each of the name.
use mathlib.Core.Bool.{cond}
use mathlib.Core.List.{List, [], ◌∷◌, ◌++◌}
use Prim.Native.Nat.{ℕ, ◌+◌, ◌-◌, ◌*◌, ◌≤◌, ◌<◌, ◌^◌}
use native.Mathlib.Omega.{arith}
use native.Mathlib.Decide.{ℕ_discrete}
use lib.ListN.{length, length-append}
use lib.IntN.{ℤ}
use Rattle.ints.specs.Ints as ints
use Rattle.ints.specs.Lists.{sum}
use Rattle.ints.proofs.Laws.{if-ind}
use Rattle.text.specs.Bytes.{bytes}
use Rattle.text.specs.Decimal.{decimal}
use Rattle.text.proofs.DecimalLaws.{decimal-length}
use Rattle.picture_numbers.proofs.Lengths.{amount-short, across-short, down-short}
use Rattle.picture_rows.specs.Escape.{escaped}
use Rattle.picture_rows.specs.Rows.{Row}
use Rattle.picture_rows.proofs.EscapeLaws.{escaped-short}
use Rattle.picture_rows.proofs.Within.{long, rows_long}
use Rattle.picture_labels.specs.Label.{title_of, offset, start_of, element_of, sign, letters, elements, number_size, name_size, columns_in, rows_of, label_of}
use Rattle.picture_labels.specs.inner.Limits.{InLimits}
use Rattle.picture_labels.proofs.LabelLaws.{at-0, at_1, at-2, at-3, at-4, at_none, five}
use Rattle.picture_labels.proofs.SizeLaws.{name-low, number-low, rows-three}

-- no number of a box has more than four digits
number_short : (n : ℕ) → n < 1024 → length (decimal n) ≤ 4
number_short n h = decimal-length 3 n (omega arith)

pub title-short : (number : ℕ) (name : List ℕ) → number < 1024 → length (title_of number name) ≤ 5 + 5 * length name
unfolding title_of
title-short number [] h = omega (arith, number_short number h)
title-short number (b ∷ s) h =
    omega (arith, number_short number h, length-append (decimal number ++ bytes " ") (escaped (b ∷ s)), length-append (decimal number) (bytes " "), escaped-short (b ∷ s))

offset-short : (k : ℕ) → length (offset k) ≤ 4
offset-short k = elim (ℕ_discrete k 0) [
  | yes e ↦ rw (at-0 k e) (omega arith)
  | no a ↦ elim (ℕ_discrete k 1) [
    | yes e ↦ rw (at_1 k e) (omega arith)
    | no b ↦ elim (ℕ_discrete k 2) [
      | yes e ↦ rw (at-2 k e) (omega arith)
      | no c ↦ elim (ℕ_discrete k 3) [
        | yes e ↦ rw (at-3 k e) (omega arith)
        | no d ↦ elim (ℕ_discrete k 4) [
          | yes e ↦ rw (at-4 k e) (omega arith)
          | no e ↦ rw (at_none k (five k a b c d e)) (omega arith)
        ]
      ]
    ]
  ]
]

module _ (x : ℤ) (y : ℕ) (hx : ints.size x ≤ 2 ^ 40) (hy : y ≤ 630000) (size : ℕ) (hs : size ≤ 2000000) where
  start-short : (k : ℕ) → length (start_of x y size k) ≤ 73
  unfolding start_of
  start-short k =
      simp length-append
      (omega (arith, across-short x (omega (arith, hx)), down-short 5 y (omega (arith, hy)), offset-short k, amount-short 3 size (omega (arith, hs))))

  element-short : (k : ℕ) (w : List ℕ) → length (element_of x y size k w) ≤ 80 + length w
  unfolding element_of
  element-short k w = simp length-append (omega (arith, start-short k))

  letters-short : (r : Row) → length (letters r) ≤ 3 + 5 * length r.front
  letters-short r =
      let s : length (cond r.cut sign []) ≤ 3 = if-ind r.cut sign [] (λ w. length w ≤ 3) (λ _. omega arith) (λ _. omega arith) in
      simp length-append (omega (arith, s, escaped-short r.front))

  elements-short : (k : ℕ) (rs : List Row) → length (elements x y size k rs) ≤ 83 * length rs + 5 * long rs
  unfolding elements sum
  elements-short k [] = omega arith
  elements-short k (r ∷ rs) =
      omega (arith, length-append (element_of x y size k (letters r)) (elements x y size (k + 2) rs), element-short k (letters r), letters-short r, elements-short (k + 2) rs)

name-long : (hw u : ℕ) (name : List ℕ) → long (rows_of hw u name) ≤ length name
unfolding rows_of
name-long hw u name = rows_long (columns_in hw (name_size hw u name)) 3 name

-- the greatest length of a label of a name without bytes
abbrev pub max_label : ℕ
max_label = 249

pub label-short : (x : ℤ) (y hw u number : ℕ) (name : List ℕ) → InLimits x y hw u number → length (label_of x y hw u number name) ≤ max_label + 5 * length name
unfolding label_of
label-short x y hw u number [] l =
    let s : number_size hw u number ≤ 2000000 = omega (arith, number-low hw u number, l.measure.1) in
    omega (arith, element-short x y l.across l.down (number_size hw u number) s 2 (decimal number), number_short number l.numbered)
label-short x y hw u number (b ∷ t) l =
    let name = b ∷ t in
    let s : name_size hw u name ≤ 2000000 = omega (arith, name-low hw u name, l.measure.1) in
    let rs = rows_of hw u name in
    omega (arith, elements-short x y l.across l.down (name_size hw u name) s (3 - length rs) rs, rows-three hw u name, name-long hw u name)
