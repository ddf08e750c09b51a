-- Refusal 8 as the row of tests that `is_taken` makes. Assumes nothing.
use mathlib.Core.Path.{◌≡◌, refl, ap, sym, ◌∙◌}
use mathlib.Core.Bool.{Bool, true, false, ◌&&◌}
use mathlib.Core.List.{List, [], ◌∷◌}
use Prim.Native.Nat.{ℕ, ◌+◌, ◌-◌, min}
use native.Mathlib.Omega.{arith}
use borrow.Author.Tests.{lt-leb, eqb-true}
use lib.Dec.{leb, eqb}
use lib.ListN.{length}
use lib.IntN.{ℤ}
use Rattle.run.specs.Run.{neighbours_in_order}
use Rattle.run.specs.Words.{is_possible}
use Rattle.ints.specs.Lists.{sum}
use Rattle.ints.specs.Ratings.{all_ratings}
use Rattle.ints.specs.Reach.{all_within}
use Rattle.run.specs.Call.{Request, boxes_of, max_boxes, max_neighbours, is_small, is_fitting, is_taken, limit_of, member_of, positions_of, left_distance, all_distances}
use Rattle.ints.proofs.Laws.{cases}
use Rattle.ints.proofs.Tests.{and_assoc, and-false, conj-at}
use Rattle.run.proofs.WhenRefused.{taken-row}

later : (a n w d o : Bool) → (a && n && w && d && o) ≡ (((a && d) && w) && (n && o))
later true true true true o = refl
later true true true false o = refl
later true true false true o = refl
later true true false false o = refl
later true false true true o = refl
later true false true false o = refl
later true false false true o = refl
later true false false false o = refl
later false n w d o = refl

regroup : (f l r x d w : Bool) → (((f && l && r && x) && d) && w) ≡ (f && (l && r && x && d && w))
regroup true l r x d w = refl
regroup false l r x d w = refl

module _ (q : Request) (answer : List ℤ) where
  -- the sizes and lengths, with t neighbours in all
  abbrev pub sized : ℕ → Bool
  sized t =
      leb q.boxes max_boxes && leb t max_neighbours && eqb (length answer) q.boxes && eqb (length q.old) q.boxes && eqb (length q.counts) q.boxes
      && eqb (length q.neighbours) t && eqb (length q.ratings) t

  abbrev pub due : Bool
  due = eqb (length q.distances) (member_of q.left + q.boxes + member_of q.right - 1)

  pub same-lengths : (t : ℕ) → sized t ≡ true → (length q.old ≡ length q.counts) × (length q.ratings ≡ length q.neighbours) × (length q.old ≡ q.boxes)
  same-lengths t e =
      let all = conj-at (leb q.boxes max_boxes) (leb t max_neighbours ∷ eqb (length answer) q.boxes ∷ eqb (length q.old) q.boxes ∷ eqb (length q.counts) q.boxes
      ∷ eqb (length q.neighbours) t ∷ eqb (length q.ratings) t ∷ []) e in
      (eqb-true (length q.old) q.boxes (all 3) ∙ sym (eqb-true (length q.counts) q.boxes (all 4)), eqb-true (length q.ratings) t (all 6) ∙ sym (eqb-true (length q.neighbours) t (all 5)), eqb-true (length q.old) q.boxes (all 3))

  pub due-length : due ≡ true → length q.old ≡ q.boxes → length q.distances ≡ member_of q.left + length q.old + member_of q.right - 1
  due-length e h = rw h (eqb-true (length q.distances) (member_of q.left + q.boxes + member_of q.right - 1) e)

  -- one more than the limit stands for any sum over it
  sized-is : (t : ℕ) → t ≡ min (sum q.counts) (max_neighbours + 1) → (sized t && due) ≡ (is_small q && is_fitting q answer)
  sized-is t e = cases (sum q.counts) max_neighbours
      (λ h. let f : t ≡ sum q.counts = omega arith in rw f (sym (simp and_assoc)))
      (λ h. rw (lt-leb t max_neighbours (omega arith), lt-leb (sum q.counts) max_neighbours h, and-false))

  abbrev pub within : Bool
  within = all_within (positions_of q.left) && all_within (positions_of q.right) && all_within q.old && all_distances q.distances && all_ratings q.ratings

  -- the tests of the neighbours come last but one here, both at once, and that of the ratings after that of the distances
  pub taken-list : (t : ℕ) → t ≡ min (sum q.counts) (max_neighbours + 1) → is_taken q answer ≡
      ((sized t && due) && within && (all_within q.neighbours && neighbours_in_order (boxes_of q)) && is_possible (limit_of q.left) (left_distance q.left q.distances) (boxes_of q) (limit_of q.right))
  taken-list t e =
      let n = all_within q.neighbours in let w = all_ratings q.ratings in let d = all_distances q.distances in let o = neighbours_in_order (boxes_of q) in
      let p = is_possible (limit_of q.left) (left_distance q.left q.distances) (boxes_of q) (limit_of q.right) in
      let l = all_within (positions_of q.left) in let r = all_within (positions_of q.right) in let x = all_within q.old in let f = is_small q && is_fitting q answer in
      let row : is_taken q answer ≡ ((f && l && r && x) && n && w && d && o && p) = taken-row q answer ∙ simp and_assoc in
      row ∙ ap (λ (b : Bool). b && p) (later (f && l && r && x) n w d o)
      ∙ ap (λ (b : Bool). b && (n && o) && p) (regroup f l r x d w ∙ ap (λ (b : Bool). b && within) (sym (sized-is t e)))
