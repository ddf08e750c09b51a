-- Columns of bytes one after another, and of the widest word.
use mathlib.Core.Path.{◌≡◌, refl, ◌∙◌, ap}
use mathlib.Core.Bool.{cond}
use mathlib.Core.List.{List, [], ◌∷◌, ◌++◌, map}
use Prim.Native.Nat.{ℕ, suc, ◌+◌, ◌≤◌, ◌<◌, max}
use native.Mathlib.Omega.{arith}
use native.Mathlib.Numerals.{add-one}
use borrow.Author.Tests.{lt-ltb, le-ltb, eq-eqb, ne_eqb}
use lib.Dec.{eqb}
use lib.ListN.{length, get_or, take, drop, drop_of_length-le}
use lib.Seq.{drop-cons, take-suc}
use Rattle.ints.specs.Lists.{sum, greatest}
use Rattle.script_words.specs.Parts.{parts, onto}
use Rattle.picture_rows.specs.Rows.{columns_of, columns, widest}

module _ (b : ℕ) where
  pub col-ascii : b < 0x80 → columns_of b ≡ 1
  unfolding columns_of
  col-ascii h = rw (lt-ltb b 0x80 h)

  pub col-two : 0xC0 ≤ b → b < 0xE0 → columns_of b ≡ 1
  unfolding columns_of
  col-two h k = rw (le-ltb b 0x80 (omega arith), le-ltb b 0xC0 h, lt-ltb b 0xE0 k)

  pub col-more : 0xE0 ≤ b → columns_of b ≡ 2
  unfolding columns_of
  col-more h = rw (le-ltb b 0x80 (omega arith), le-ltb b 0xC0 (omega arith), le-ltb b 0xE0 h)

pub columns-append : (s t : List ℕ) → columns (s ++ t) ≡ columns s + columns t
unfolding columns sum
columns-append [] t = omega arith
columns-append (b ∷ s) t = omega (arith, columns-append s t)

pub columns-one : (b : ℕ) → columns (b ∷ []) ≡ columns_of b
unfolding columns sum
columns-one b = omega arith

pub columns-none : columns [] ≡ 0
unfolding columns sum
columns-none = refl

pub columns-next : (s : List ℕ) (i : ℕ) → i < length s → columns (take (i + 1) s) ≡ columns (take i s) + columns_of (get_or s i 0)
columns-next s i h =
    ap (λ (n : ℕ). columns (take n s)) (add-one i) ∙ ap columns (take-suc s i 0 h) ∙ columns-append (take i s) (get_or s i 0 ∷ [])
    ∙ ap (λ (n : ℕ). columns (take i s) + n) (columns-one (get_or s i 0))

-- ---- the widest word: w columns before the first of these words
abbrev pub after : ℕ → List (List ℕ) → ℕ
after w [] = w
after w (v ∷ vs) = max (w + columns v) (greatest (map columns vs))

after_none : (sep : ℕ) (s : List ℕ) → after 0 (parts sep s) ≡ greatest (map columns (parts sep s))
unfolding parts greatest
after_none sep [] = omega arith
after_none sep (b ∷ s) = go (cond (eqb b sep) ([] ∷ parts sep s) (onto (b ∷ []) (parts sep s)))
  where
    go : (ws : List (List ℕ)) → after 0 ws ≡ greatest (map columns ws)
    go [] = refl
    go (v ∷ vs) = omega arith

after-onto : (w b : ℕ) (ws : List (List ℕ)) → after w (onto (b ∷ []) ws) ≡ after (w + columns_of b) ws
unfolding greatest
after-onto w b [] = omega (arith, columns-one b)
after-onto w b (v ∷ vs) = omega (arith, columns-append (b ∷ []) v, columns-one b)

module _ (s : List ℕ) (i most w : ℕ) where
  -- what was passed, and what is left
  abbrev pub sofar : ℕ
  sofar = max most (after w (parts 32 (drop i s)))

module _ (s : List ℕ) (i most w : ℕ) where
  pub at-space : i < length s → get_or s i 0 ≡ 32 → sofar s i most w ≡ sofar s (i + 1) (max most w) 0
  unfolding parts
  at-space h e =
      rw (add-one, drop-cons s i 0 h, eq-eqb (get_or s i 0) 32 e)
      (omega (arith, after_none 32 (drop (suc i) s), columns-none))

  pub at_byte : i < length s → (get_or s i 0 ≡ 32 → ⊥) → sofar s i most w ≡ sofar s (i + 1) most (w + columns_of (get_or s i 0))
  unfolding parts
  at_byte h n = rw (add-one, drop-cons s i 0 h, ne_eqb (get_or s i 0) 32 n) (ap (max most) (after-onto w (get_or s i 0) (parts 32 (drop (suc i) s))))

  pub widest-end : length s ≤ i → sofar s i most w ≡ max most w
  unfolding parts greatest
  widest-end h = rw (drop_of_length-le s h) (omega (arith, columns-none))

pub widest-begin : (s : List ℕ) → sofar s 0 0 0 ≡ widest s
unfolding widest
widest-begin s = omega (arith, after_none 32 s)
