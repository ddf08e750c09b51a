-- Labels by their cases: digits, places of rows, rows one after another.
use mathlib.Core.Path.{◌≡◌, refl}
use mathlib.Core.List.{List, [], ◌∷◌, ◌++◌}
use Prim.Native.Nat.{ℕ, ◌+◌, ◌-◌, ◌/◌, ◌≤◌, ◌<◌}
use mathlib.Core.Bool.{Bool}
use native.Mathlib.Omega.{arith}
use lib.ListN.{length, take, drop, get_or-eq_default}
use lib.IntN.{ℤ}
use Rattle.text.specs.Bytes.{bytes}
use Rattle.text.specs.Decimal.{decimal}
use Rattle.text.proofs.DecimalLaws.{decimal-one}
use Rattle.text_write.proofs.Written.{decimal-longer}
use Rattle.picture_rows.specs.Escape.{escaped}
use Rattle.script_words.specs.inner.Ends.{between}
use Rattle.picture_rows.specs.inner.Found.{FirstRow}
use Rattle.picture_rows.specs.Rows.{Row, row, rows}
use Rattle.picture_rows.proofs.RowLaws.{row_on}
use Rattle.picture_labels.specs.Label.{title_of, offset, element_of, letters, elements, number_size, name_size, rows_of, centred, label_of}

-- ---- digits
module _ (n : ℕ) where
  pub one-digit : n < 10 → length (decimal n) ≡ 1
  one-digit h = rw (decimal-one n h)

pub two_digits : (n : ℕ) → 10 ≤ n → n < 100 → length (decimal n) ≡ 2
two_digits n h k = omega (arith, decimal-longer n h, one-digit (n / 10) (omega arith))

pub three-digits : (n : ℕ) → 100 ≤ n → n < 1000 → length (decimal n) ≡ 3
three-digits n h k = omega (arith, decimal-longer n (omega arith), two_digits (n / 10) (omega arith) (omega arith))

pub four-digits : (n : ℕ) → 1000 ≤ n → n < 10000 → length (decimal n) ≡ 4
four-digits n h k = omega (arith, decimal-longer n (omega arith), three-digits (n / 10) (omega arith) (omega arith))

-- ---- places of rows
module _ (k : ℕ) where
  pub at-0 : k ≡ 0 → offset k ≡ bytes "-.85"
  unfolding offset
  at-0 e = rw e

  pub at_1 : k ≡ 1 → offset k ≡ bytes "-.25"
  unfolding offset
  at_1 e = rw e

  pub at-2 : k ≡ 2 → offset k ≡ bytes ".35"
  unfolding offset
  at-2 e = rw e

  pub at-3 : k ≡ 3 → offset k ≡ bytes ".95"
  unfolding offset
  at-3 e = rw e

  pub at-4 : k ≡ 4 → offset k ≡ bytes "1.55"
  unfolding offset
  at-4 e = rw e

  pub at_none : 5 ≤ k → offset k ≡ []
  unfolding offset
  at_none h = get_or-eq_default (bytes "-.85" ∷ bytes "-.25" ∷ bytes ".35" ∷ bytes ".95" ∷ bytes "1.55" ∷ []) [] h

-- ---- a title, a label
module _ (number : ℕ) where
  pub title-none : (name : List ℕ) → length name ≡ 0 → title_of number name ≡ decimal number
  unfolding title_of
  title-none [] h = refl
  title-none (b ∷ s) h = absurd (omega arith)

  pub title-name : (name : List ℕ) → (length name ≡ 0 → ⊥) → title_of number name ≡ decimal number ++ bytes " " ++ escaped name
  unfolding title_of
  title-name [] h = absurd (h refl)
  title-name (b ∷ s) h = refl

  module _ (x : ℤ) (y hw u : ℕ) where
    pub label-none : (name : List ℕ) → length name ≡ 0 → label_of x y hw u number name ≡ element_of x y (number_size hw u number) 2 (decimal number)
    unfolding label_of
    label-none [] h = refl
    label-none (b ∷ s) h = absurd (omega arith)

    pub label-name : (name : List ℕ) → (length name ≡ 0 → ⊥) → label_of x y hw u number name ≡ centred x y (name_size hw u name) (rows_of hw u name)
    unfolding label_of
    label-name [] h = absurd (h refl)
    label-name (b ∷ s) h = refl

-- ---- rows one after another
module _ (x : ℤ) (y size k : ℕ) where
  pub elements-on : {rs ts : List Row} {r : Row} → rs ≡ r ∷ ts → elements x y size k rs ≡ element_of x y size k (letters r) ++ elements x y size (k + 2) ts
  unfolding elements
  elements-on e = rw e

  pub elements-none : {rs : List Row} → rs ≡ [] → elements x y size k rs ≡ []
  unfolding elements
  elements-none e = rw e

-- the first row of what is left of a name, and those after it
pub elements-next : (x : ℤ) (y size k cols left : ℕ) (name : List ℕ) (start : ℕ) {end : ℕ} {cut : Bool} {next : ℕ} → FirstRow cols left (between start (length name) name) end cut next
    → elements x y size k (rows cols left (drop start name))
    ≡ element_of x y size k (letters (row (take (start + end - start) (drop start name)) cut)) ++ elements x y size (k + 2) (rows cols (left - 1) (drop (start + next) name))
elements-next x y size k cols left name start {end} f =
    let e : start + end - start ≡ end = omega arith in
    rw e (elements-on x y size k (row_on cols left name start f))

pub five : (k : ℕ) → (k ≡ 0 → ⊥) → (k ≡ 1 → ⊥) → (k ≡ 2 → ⊥) → (k ≡ 3 → ⊥) → (k ≡ 4 → ⊥) → 5 ≤ k
five k a b c d e = omega arith
