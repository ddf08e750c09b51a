-- What is proved of rows: there are no more than asked for, none is wider than asked for, and together they are no longer than the name.
use mathlib.Core.Path.{◌≡◌, refl, ap}
use mathlib.Core.Bool.{Bool, true, false, cond}
use mathlib.Core.List.{List, [], ◌∷◌, map}
use Prim.Native.Nat.{ℕ, zero, suc, ◌+◌, ◌-◌, ◌≤◌, ◌<◌}
use native.Mathlib.Omega.{arith}
use native.Mathlib.Decide.{ℕ_discrete}
use borrow.Author.Tests.{leb-true, le-leb, ne_eqb}
use lib.Dec.{leb, eqb}
use lib.ListN.{length, get_or, take, drop, length-take, length-drop, take-append-drop}
use lib.Seq.{take-take}
use Rattle.ints.specs.Lists.{sum}
use Rattle.ints.proofs.Laws.{if-ind}
use Rattle.ints.proofs.Tests.{and_right, test}
use Rattle.plan.specs.Checks.{every}
use Rattle.script_words.specs.Parts.{parts, onto, word_at}
use Rattle.picture_rows.specs.Rows.{columns, last_of, longest, is_space, begins, cut_end, Row, row, is_whole, rows}
use Rattle.picture_rows.proofs.ColumnLaws.{columns-append, columns-none}
use Rattle.picture_rows.proofs.RowLaws.{ends_at, longest-under, no_rows}

-- the columns of a row, with that of its sign
abbrev pub wide : Row → ℕ
wide r = columns r.front + cond r.cut 1 0

abbrev pub long : List Row → ℕ
long rs = sum (map (λ r. length r.front) rs)

-- ---- ends of fronts
last-holds : (t : ℕ → Bool) (n : ℕ) → (last_of t n ≡ 0 → ⊥) → t (last_of t n) ≡ true
unfolding last_of
last-holds t zero h = absurd (h refl)
last-holds t (suc n) h = test (t (suc n)) (λ e. rw e e) (λ e. rw e (last-holds t n (λ z. h (rw e z))))

columns-front : (n m : ℕ) (s : List ℕ) → n ≤ m → columns (take n s) ≤ columns (take m s)
columns-front n m s h =
    let e : take n (take m s) ≡ take n s = take-take n m s h in
    omega (arith, ap columns e, ap columns (take-append-drop n (take m s)), columns-append (take n (take m s)) (drop n (take m s)))

module _ (most : ℕ) (name : List ℕ) where
  pub longest-wide : (st : ℕ → Bool) → columns (take (longest st most name) name) ≤ most
  unfolding longest
  longest-wide st =
      let t = ends_at st most name in
      let e = last_of t (length name) in
      elim (ℕ_discrete e 0) [
        | yes q ↦ rw q (omega (arith, columns-none))
        | no q ↦ leb-true (columns (take e name)) most (and_right (st (get_or name e 32)) (leb (columns (take e name)) most) (last-holds t (length name) q))
      ]

  pub cut-wide : columns (take (cut_end most name) name) ≤ most
  unfolding cut_end
  cut-wide =
      let e = longest begins most name in
      if-ind (eqb (get_or name (e - 1) 0) 32) (e - 1) e (λ n. columns (take n name) ≤ most)
      (λ _. omega (arith, columns-front (e - 1) e name (omega arith), longest-wide begins)) (λ _. longest-wide begins)

-- no part is longer than the whole
first_short : (s : List ℕ) → length (word_at s 0) ≤ length s
unfolding parts
first_short [] = omega arith
first_short (b ∷ s) = go (eqb b 32) (parts 32 s) (first_short s)
  where
    go : (t : Bool) (ws : List (List ℕ)) → length (get_or ws 0 []) ≤ length s → length (get_or (cond t ([] ∷ ws) (onto (b ∷ []) ws)) 0 []) ≤ suc (length s)
    go true ws h = omega arith
    go false [] h = omega arith
    go false (w ∷ ws) h = omega arith

-- ---- by the first row
module _ (cols n : ℕ) (name : List ℕ) where
  abbrev pub whole_row : List Row
  whole_row = let e = longest is_space cols name in row (take e name) false ∷ rows cols n (drop (suc e) name)

  abbrev pub part_row : List Row
  part_row =
      let inside = cond (eqb n 0) name (word_at name 0) in
      row (take (cut_end (cols - 1) inside) inside) true ∷ rows cols n (drop (suc (length (word_at name 0))) name)

by_first : (cols : ℕ) (P : ℕ → List ℕ → List Row → Type 0) → ((name : List ℕ) → P 0 name []) → ((n : ℕ) → P (suc n) [] [])
    → ((n : ℕ) (name : List ℕ) → P n (drop (suc (longest is_space cols name)) name) (rows cols n (drop (suc (longest is_space cols name)) name)) → P (suc n) name (whole_row cols n name))
    → ((n : ℕ) (name : List ℕ) → P n (drop (suc (length (word_at name 0))) name) (rows cols n (drop (suc (length (word_at name 0))) name)) → P (suc n) name (part_row cols n name))
    → (n : ℕ) (name : List ℕ) → P n name (rows cols n name)
unfolding rows
by_first cols P z e w p zero name = z name
by_first cols P z e w p (suc n) [] = e n
by_first cols P z e w p (suc n) (b ∷ s) =
    if-ind (is_whole n (longest is_space cols (b ∷ s)) (b ∷ s)) (whole_row cols n (b ∷ s)) (part_row cols n (b ∷ s)) (P (suc n) (b ∷ s))
    (λ _. w n (b ∷ s) (by_first cols P z e w p n (drop (suc (longest is_space cols (b ∷ s))) (b ∷ s))))
    (λ _. p n (b ∷ s) (by_first cols P z e w p n (drop (suc (length (word_at (b ∷ s) 0))) (b ∷ s))))

every-cons : (cols : ℕ) (r : Row) (rs : List Row) → wide r ≤ cols → every (λ r. leb (wide r) cols) rs ≡ true → every (λ r. leb (wide r) cols) (r ∷ rs) ≡ true
unfolding every
every-cons cols r rs h k = rw (le-leb (wide r) cols h) k

every-none : (cols : ℕ) → every (λ r. leb (wide r) cols) [] ≡ true
unfolding every
every-none cols = refl

-- no row is wider
pub rows-wide : (cols n : ℕ) (name : List ℕ) → 0 < cols → every (λ r. leb (wide r) cols) (rows cols n name) ≡ true
rows-wide cols n name c =
    by_first cols (λ _ _ rs. every (λ r. leb (wide r) cols) rs ≡ true) (λ _. every-none cols) (λ _. every-none cols)
    (λ n s h. every-cons cols (row (take (longest is_space cols s) s) false) (rows cols n (drop (suc (longest is_space cols s)) s))
    (omega (arith, longest-wide cols s is_space)) h)
    (λ n s h. let i = cond (eqb n 0) s (word_at s 0) in
    every-cons cols (row (take (cut_end (cols - 1) i) i) true) (rows cols n (drop (suc (length (word_at s 0))) s))
    (omega (arith, c, cut-wide (cols - 1) i)) h)
    n name

-- there are no more
pub rows_few : (cols n : ℕ) (name : List ℕ) → length (rows cols n name) ≤ n
rows_few cols n name =
    by_first cols (λ n _ rs. length rs ≤ n) (λ _. omega arith) (λ _. omega arith) (λ n s h. omega (arith, h)) (λ n s h. omega (arith, h)) n name

-- together they are no longer than the name
pub rows_long : (cols n : ℕ) (name : List ℕ) → long (rows cols n name) ≤ length name
unfolding sum
rows_long cols n name =
    by_first cols (λ n s rs. long rs ≤ length s) (λ _. omega arith) (λ _. omega arith)
    (λ n s h. let e = longest is_space cols s in omega (arith, h, length-take e s, length-drop (suc e) s, longest-under is_space cols s))
    part n name
  where
    part : (n : ℕ) (s : List ℕ) → long (rows cols n (drop (suc (length (word_at s 0))) s)) ≤ length (drop (suc (length (word_at s 0))) s) → long (part_row cols n s) ≤ length s
    part zero s h = omega (arith, ap long (no_rows cols (drop (suc (length (word_at s 0))) s)), length-take (cut_end (cols - 1) s) s)
    part (suc n) s h =
        let w = word_at s 0 in let i = cond (eqb (suc n) 0) s w in
        let z : i ≡ w = rw (ne_eqb (suc n) 0 (λ e. omega arith)) in
        omega (arith, h, ap length z, length-take (cut_end (cols - 1) i) i, length-drop (suc (length w)) s, first_short s)
