-- The other ends of a vertex's inner segments, by the lists of ends, are its neighbours over the inner segments. Assumes nothing.
use mathlib.Core.Path.{◌≡◌, refl}
use mathlib.Core.Bool.{Bool, true, false, ◌&&◌}
use mathlib.Core.List.{List, [], ◌∷◌}
use Prim.Native.Nat.{ℕ}
use borrow.Author.Tests.{eq-eqb, ne_eqb}
use lib.ListN.{get_or}
use Rattle.ints.proofs.Laws.{if-ind}
use Rattle.plan.specs.Plan.{PlanData}
use Rattle.plan.specs.Segments.{segments_from, above_in, below_in, is_inner, inner_in}
use Rattle.plan.specs.inner.Graph.{segment}
use Rattle.plan.proofs.CountLaws.{by-same}
use Rattle.prelim_classes.specs.inner.Strands.{inner_ends}

and-turn : (a b : Bool) → a && b ≡ b && a
and-turn true true = refl
and-turn true false = refl
and-turn false true = refl
and-turn false false = refl

module _ (p : PlanData) (v : ℕ) where
  pub below-ends : («as» bs : List ℕ) → below_in (inner_in p (segments_from «as» bs)) v ≡ inner_ends p.vias «as» bs v
  unfolding segments_from inner_in below_in inner_ends
  below-ends [] bs = refl
  below-ends (a ∷ «as») [] = refl
  below-ends (a ∷ «as») (b ∷ bs) =
      let more = below-ends «as» bs in
      let rest = inner_in p (segments_from «as» bs) in
      if-ind (is_inner p (segment a b)) (segment a b ∷ rest) rest (λ l. below_in l v ≡ inner_ends p.vias (a ∷ «as») (b ∷ bs) v)
      (λ t. by-same a v (λ h. rw (eq-eqb a v h, t, more)) (λ h. rw (ne_eqb a v h) more))
      (λ t. by-same a v (λ h. rw (eq-eqb a v h, t) more) (λ h. rw (ne_eqb a v h) more))

  pub above-ends : («as» bs : List ℕ) → above_in (inner_in p (segments_from «as» bs)) v ≡ inner_ends p.vias bs «as» v
  unfolding segments_from inner_in above_in inner_ends
  above-ends [] [] = refl
  above-ends [] (b ∷ bs) = refl
  above-ends (a ∷ «as») [] = refl
  above-ends (a ∷ «as») (b ∷ bs) =
      let more = above-ends «as» bs in
      let rest = inner_in p (segments_from «as» bs) in
      let turn = and-turn (get_or p.vias b false) (get_or p.vias a false) in
      if-ind (is_inner p (segment a b)) (segment a b ∷ rest) rest (λ l. above_in l v ≡ inner_ends p.vias (b ∷ bs) (a ∷ «as») v)
      (λ t. by-same b v (λ h. rw (eq-eqb b v h, turn, t, more)) (λ h. rw (ne_eqb b v h) more))
      (λ t. by-same b v (λ h. rw (eq-eqb b v h, turn, t) more) (λ h. rw (ne_eqb b v h) more))
