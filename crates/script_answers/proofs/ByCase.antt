-- Positions and walks in words, by the case that the program meets.
use mathlib.Core.Path.{◌≡◌, refl}
use mathlib.Core.Bool.{true, false, cond}
use mathlib.Core.List.{List, [], ◌∷◌, ◌++◌}
use Prim.Native.Nat.{ℕ, suc, ◌+◌, ◌≤◌, ◌<◌}
use native.Mathlib.Numerals.{add-one}
use lib.ListN.{length, get_or, drop, drop_of_length-le}
use lib.Seq.{drop-cons}
use lib.IntN.{ℤ, pos, nat_abs}
use lib.Signed.{lt_z}
use Rattle.ints.proofs.Tests.{test}
use Rattle.text.specs.Bytes.{bytes}
use Rattle.text.specs.Decimal.{decimal, signed}
use Rattle.text_write.proofs.Written.{signed-neg, signed-pos}
use Rattle.plan.specs.declared.walk.Walk.{Walk}
use Rattle.script_answers.specs.Answers.{walked, position_words, line_of}

pub signed_is : (z : ℤ) → signed z ≡ cond (lt_z z (pos 0)) (45 ∷ decimal (nat_abs z)) (decimal (nat_abs z))
signed_is z = test (lt_z z (pos 0)) (λ h. rw h (signed-neg z h)) (λ h. rw h (signed-pos z h))

words-cons : (x : ℤ) (xs : List ℤ) → position_words (x ∷ xs) ≡ (bytes " " ++ signed x) ++ position_words xs
unfolding position_words
words-cons x xs = refl

module _ (xs : List ℤ) (i : ℕ) where
  pub words-next : i < length xs → position_words (drop i xs) ≡ (bytes " " ++ signed (get_or xs i (pos 0))) ++ position_words (drop (i + 1) xs)
  words-next l = rw (add-one i, drop-cons xs i (pos 0) l) (words-cons (get_or xs i (pos 0)) (drop (suc i) xs))

  pub words-end : length xs ≤ i → position_words (drop i xs) ≡ []
  unfolding position_words
  words-end l = rw (drop_of_length-le xs l)

module _ (w : Walk) where
  -- the line of a walk that begins with these words
  abbrev pub walk_line : List ℕ → List ℕ
  walk_line words = words ++ decimal w.taken ++ bytes "\n"

  pub walk-crossed : w.crossed ≡ true → line_of (walked w) ≡ walk_line (bytes "ok crossed ")
  unfolding line_of
  walk-crossed e = rw e

  pub walk-clear : w.crossed ≡ false → line_of (walked w) ≡ walk_line (bytes "ok clear ")
  unfolding line_of
  walk-clear e = rw e
