-- Words at a position of a text: the cases of `word`, as the program meets them.
use mathlib.Core.Path.{◌≡◌, refl, sym}
use mathlib.Core.Bool.{Bool, true, false, cond}
use mathlib.Core.List.{List, [], ◌∷◌, ◌++◌}
use Prim.Native.Nat.{ℕ, ◌+◌, ◌≤◌, ◌<◌}
use native.Mathlib.Omega.{arith}
use native.Mathlib.Numerals.{add-one}
use borrow.Author.Tests.{eq-eqb, ne_eqb, eqb-true}
use lib.Dec.{eqb}
use lib.ListN.{length, get_or, drop, drop_of_length-le}
use lib.Seq.{drop-cons}
use Rattle.text.specs.Parser.{got, nothing, word}

pub cond_same : {A : Type 0} (t : Bool) (a : A) → cond t a a ≡ a
cond_same true a = refl
cond_same false a = refl

pub never : {A : Type 0} → false ≡ true → A
never e = let z : ◌≡◌ {A = ℕ} 0 1 = cc in absurd (omega arith)

-- a word longer than the text
pub word-short : (w s : List ℕ) → length s < length w → word w s ≡ nothing
unfolding word
word-short [] s h = absurd (omega arith)
word-short (a ∷ w) [] h = refl
word-short (a ∷ w) (b ∷ s) h = rw (word-short w s (omega arith)) (cond_same (eqb a b) nothing)

-- all of it is passed
pub word_end : (w s : List ℕ) (i : ℕ) → length w ≤ i → word (drop i w) s ≡ got tt s
unfolding word
word_end w s i h = rw (drop_of_length-le w h)

-- one byte more is the same, or another
pub word_same : (w s : List ℕ) (i j : ℕ) → i < length w → j < length s → get_or s j 0 ≡ get_or w i 0 → word (drop i w) (drop j s) ≡ word (drop (i + 1) w) (drop (j + 1) s)
unfolding word
word_same w s i j h k e = rw (drop-cons w i 0 h, drop-cons s j 0 k, add-one i, add-one j, eq-eqb (get_or w i 0) (get_or s j 0) (sym e))

pub word-other : (w s : List ℕ) (i j : ℕ) → i < length w → j < length s → (get_or s j 0 ≡ get_or w i 0 → ⊥) → word (drop i w) (drop j s) ≡ nothing
unfolding word
word-other w s i j h k e = rw (drop-cons w i 0 h, drop-cons s j 0 k, ne_eqb (get_or w i 0) (get_or s j 0) (λ d. e (sym d)))

-- a word that stands at the start of a text
pub word-is : (w s t : List ℕ) → word w s ≡ got tt t → s ≡ w ++ t
unfolding word
word-is [] s t e = cc
word-is (a ∷ w) [] t e = let z : ◌≡◌ {A = ℕ} 0 1 = cc in absurd (omega arith)
word-is (a ∷ w) (b ∷ s) t e = go (word-is w s t) (eqb a b) refl e
  where
    go : (word w s ≡ got tt t → s ≡ w ++ t) → (x : Bool) → eqb a b ≡ x → cond x (word w s) nothing ≡ got tt t → b ∷ s ≡ a ∷ (w ++ t)
    go more true x f = rw (eqb-true a b x, more f)
    go more false x f = let z : ◌≡◌ {A = ℕ} 0 1 = cc in absurd (omega arith)
