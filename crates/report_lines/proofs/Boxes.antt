-- The words of boxes one after another, and positions within reach.
use mathlib.Core.Path.{◌≡◌, refl, sym}
use mathlib.Core.List.{List, [], ◌∷◌, ◌++◌, append_assoc}
use Prim.Native.Nat.{ℕ, suc, ◌+◌, ◌≤◌, ◌<◌}
use native.Mathlib.Omega.{arith}
use native.Mathlib.Numerals.{add-one}
use lib.ListN.{length, get_or, drop, drop_of_length-le}
use lib.Seq.{drop-cons}
use lib.IntN.{ℤ, pos}
use mir.Syntax.{w64}
use mir.Val.{to_z, of_z}
use Rattle.ints.specs.Ints.{size}
use Rattle.ints.proofs.Laws.{back, fit-make}
use Rattle.passes.specs.Drawing.{BoxAt, boxes_with}
use Rattle.ints.specs.Reach.{reach}
use Rattle.text.specs.Bytes.{bytes}
use Rattle.text.specs.Decimal.{decimal, signed}
use Rattle.report.specs.Lines.{box_words}
use Rattle.report_lines.specs.inner.Forms.{box_at}

-- ---- within reach
-- what a load of a position within reach gives back
pub read_back : (z : ℤ) → size z ≤ reach → to_z w64 (of_z w64 z) ≡ z
read_back z h = back (fit-make z (omega arith))

-- ---- the words of boxes
abbrev box_word : BoxAt → List ℕ
box_word b = bytes " (" ++ decimal b.vertex ++ bytes " " ++ signed b.position ++ bytes ")"

words_append : (a b : List BoxAt) → box_words (a ++ b) ≡ box_words a ++ box_words b
unfolding box_words
words_append [] b = refl
words_append (x ∷ a) b = rw (words_append a b) (sym (append_assoc (box_word x) (box_words a) (box_words b)))

-- the i-th box and those after it
boxes-cons : (v : ℕ) (vs : List ℕ) (y : ℤ) (ys : List ℤ) → boxes_with (v ∷ vs) (y ∷ ys) ≡ (box_at v y ∷ []) ++ boxes_with vs ys
unfolding boxes_with
boxes-cons v vs y ys = refl

module _ (vs : List ℕ) (ys : List ℤ) (e : length ys ≡ length vs) (i : ℕ) where
  pub words-next : i < length vs → box_words (boxes_with (drop i vs) (drop i ys)) ≡ box_words (box_at (get_or vs i 0) (get_or ys i (pos 0)) ∷ []) ++ box_words (boxes_with (drop (i + 1) vs) (drop (i + 1) ys))
  words-next l = let k : i < length ys = omega arith in
      rw (add-one i, drop-cons vs i 0 l, drop-cons ys i (pos 0) k, boxes-cons) (words_append (box_at (get_or vs i 0) (get_or ys i (pos 0)) ∷ []) (boxes_with (drop (suc i) vs) (drop (suc i) ys)))

  pub words-end : length vs ≤ i → box_words (boxes_with (drop i vs) (drop i ys)) ≡ []
  unfolding boxes_with box_words
  words-end l = rw (drop_of_length-le vs l)
