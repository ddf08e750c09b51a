-- The cases of a form, as the program meets them: where the next words of form and line end.
-- Assumes nothing.
use mathlib.Core.Path.{◌≡◌, refl}
use mathlib.Core.Bool.{Bool, true, false, cond}
use mathlib.Core.List.{List, [], ◌∷◌}
use Prim.Native.Nat.{ℕ, suc, ◌+◌, ◌≤◌, ◌<◌}
use borrow.Author.Tests.{leb-true, leb-false}
use lib.Dec.{eqb, leb}
use lib.ListN.{length, drop}
use Rattle.ints.proofs.Tests.{test}
use Rattle.script_words.specs.Parts.{onto, parts, words}
use Rattle.script_words.specs.inner.Ends.{between, PartEnds}
use Rattle.script_words.proofs.PartLaws.{parts-split}
use Rattle.script_forms.specs.Forms.{stands_for, fits, has_form}
use Rattle.script_forms.specs.inner.First.{first_form}

-- ---- words left over on one side
line-left : (s : List ℕ) → fits [] (words s) ≡ false
unfolding fits parts
line-left [] = refl
line-left (b ∷ s) = go (eqb b 32) (words s)
  where
    go : (t : Bool) (ws : List (List ℕ)) → fits [] (cond t ([] ∷ ws) (onto (b ∷ []) ws)) ≡ false
    go true ws = refl
    go false [] = refl
    go false (w ∷ ws) = refl

form-left : (s : List ℕ) → fits (words s) [] ≡ false
unfolding fits parts
form-left [] = refl
form-left (b ∷ s) = go (eqb b 32) (words s)
  where
    go : (t : Bool) (ws : List (List ℕ)) → fits (cond t ([] ∷ ws) (onto (b ∷ []) ws)) [] ≡ false
    go true ws = refl
    go false [] = refl
    go false (w ∷ ws) = refl

-- ---- the next words
module _ (form line : List ℕ) (from end at to : ℕ) (f : PartEnds 32 form from end) (l : PartEnds 32 line at to) where
  pub fits_not : stands_for (between from end form) (between at to line) ≡ false → fits (words (drop from form)) (words (drop at line)) ≡ false
  unfolding fits
  fits_not e = rw (parts-split 32 form from end f, parts-split 32 line at to l, e)

  module _ (e : stands_for (between from end form) (between at to line) ≡ true) where
    pub fits-last : length form ≤ end → fits (words (drop from form)) (words (drop at line)) ≡ leb (length line) to
    unfolding fits
    fits-last h = test (leb (length line) to) (λ t. rw (f.last h, l.last (leb-true (length line) to t), e, t))
        (λ t. rw (f.last h, l.cut (leb-false (length line) to t), e, t) (line-left (drop (to + 1) line)))

    pub fits-short : end < length form → length line ≤ to → fits (words (drop from form)) (words (drop at line)) ≡ false
    unfolding fits
    fits-short h k = rw (f.cut h, l.last k, e) (form-left (drop (end + 1) form))

    pub fits_on : end < length form → to < length line → fits (words (drop from form)) (words (drop at line)) ≡ fits (words (drop (end + 1) form))
        (words (drop (to + 1) line))
    unfolding fits
    fits_on h k = rw (f.cut h, l.cut k, e)

-- ---- the first form
module _ (forms line : List ℕ) (from end : ℕ) (f : PartEnds 10 forms from end) where
  pub first-here : has_form (between from end forms) line ≡ true → first_form (parts 10 (drop from forms)) line ≡ 0
  unfolding first_form
  first-here e = rw (parts-split 10 forms from end f, e)

  pub first-none : has_form (between from end forms) line ≡ false → length forms ≤ end → first_form (parts 10 (drop from forms)) line ≡ 1
  unfolding first_form
  first-none e h = rw (f.last h, e)

  pub first_on : has_form (between from end forms) line ≡ false → end < length forms → first_form (parts 10 (drop from forms)) line ≡ suc
      (first_form (parts 10 (drop (end + 1) forms)) line)
  unfolding first_form
  first_on e h = rw (f.cut h, e)
