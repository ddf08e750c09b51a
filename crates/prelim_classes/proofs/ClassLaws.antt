-- Laws of classing, as the walks along a level and over the levels meet its cases. Assumes nothing.
use Prim.Native.Nat.{ℕ, ◌+◌, ◌-◌, ◌<◌, ◌≤◌}
use mathlib.Core.Path.{◌≡◌, refl, sym, ◌∙◌, ap}
use mathlib.Core.List.{List, [], ◌∷◌}
use native.Mathlib.Omega.{arith}
use native.Mathlib.Numerals.{add-one}
use borrow.Author.Tests.{eq-eqb, ne_eqb}
use lib.ListN.{length, get_or, take, drop, drop_of_length-le}
use lib.Seq.{drop-cons, drop-drop}
use Rattle.ints.specs.Lists.{sum}
use Rattle.ints.proofs.Lists.{sum-on}
use Rattle.plan.proofs.CountLaws.{by-same}
use Rattle.prelim_classes.specs.inner.Links.{chain}
use Rattle.preliminary.specs.Classes.{classes_on, classes_from}
use Rattle.prelim_classes.specs.inner.Strands.{StrandsBy}
use Rattle.prelim_classes.specs.inner.Walks.{cut, classes_after, current_after}

-- ---- along a level
pub class-on : (strand : ℕ → List ℕ) (c v : ℕ) (vs classes : List ℕ)
    → classes_on strand c (v ∷ vs) classes ≡ classes_on strand (current_after classes v c) vs (classes_after (strand v) classes v c)
unfolding classes_on
class-on strand c v vs classes = by-same (get_or classes v 0) 0
    (λ e. rw (eq-eqb (get_or classes v 0) 0 e))
    (λ e. rw (ne_eqb (get_or classes v 0) 0 e))

pub class-none : (strand : ℕ → List ℕ) (c : ℕ) (classes : List ℕ) → classes_on strand c [] classes ≡ classes
unfolding classes_on
class-none strand c classes = refl

pub record Classing (next top vs : List ℕ) (i current : ℕ) (classes : List ℕ) (l : ℕ) (classes₀ : List ℕ) : Type 0 where
  pub each : (strand : ℕ → List ℕ) → StrandsBy strand next top → classes_on strand current (drop i vs) classes ≡ classes_on strand l vs classes₀

module _ (next top vs : List ℕ) (i current : ℕ) (classes : List ℕ) (l : ℕ) (classes₀ : List ℕ) (w : Classing next top vs i current classes l classes₀) where
  pub classing-on : (v : ℕ) → v ≡ get_or vs i 0 → v < length next → i < length vs → (r : ℕ) (classes' : List ℕ) → r ≡ current_after classes v current
      → classes' ≡ classes_after (chain next (get_or top v 0)) classes v current
      → Classing next top vs (i + 1) r classes' l classes₀
  classing-on v e b h r classes' q g = record {
    each = λ strand s.
        let at-v : classes' ≡ classes_after (strand v) classes v current = g ∙ ap (λ (x : List ℕ). classes_after x classes v current) (sym (s.each v b)) in
        let left : v ∷ drop (i + 1) vs ≡ drop i vs = rw (add-one, e) (sym (drop-cons vs i 0 h)) in
        rw (q, at-v) (sym (class-on strand current v (drop (i + 1) vs) classes)
        ∙ ap (λ (x : List ℕ). classes_on strand current x classes) left
        ∙ w.each strand s);
  }

  pub classing-end : length vs ≤ i → (strand : ℕ → List ℕ) → StrandsBy strand next top → classes ≡ classes_on strand l vs classes₀
  classing-end h strand s = sym (ap (λ (x : List ℕ). classes_on strand current x classes) (drop_of_length-le vs h) ∙ class-none strand current classes) ∙ w.each strand s

-- ---- over the levels
pub record Levelling (next top sizes order : List ℕ) (l from : ℕ) (classes classes₀ : List ℕ) : Type 0 where
  pub left : from + sum (drop l sizes) ≡ length order
  pub each : (strand : ℕ → List ℕ) → StrandsBy strand next top → classes_from strand (l + 1) (cut (drop l sizes) (drop from order)) classes ≡ classes_from strand 1 (cut sizes order) classes₀

cut_on : (sizes order : List ℕ) (l : ℕ) → l < length sizes → cut (drop l sizes) order ≡ take (get_or sizes l 0) order ∷ cut (drop (l + 1) sizes) (drop (get_or sizes l 0) order)
unfolding cut
cut_on sizes order l h = rw (add-one, drop-cons sizes l 0)

classes-on : (strand : ℕ → List ℕ) (l : ℕ) (vs : List ℕ) (levels : List (List ℕ)) (classes : List ℕ)
    → classes_from strand l (vs ∷ levels) classes ≡ classes_from strand (l + 1) levels (classes_on strand l vs classes)
unfolding classes_from
classes-on strand l vs levels classes = refl

pub classes-none : (strand : ℕ → List ℕ) (l : ℕ) (order classes : List ℕ) → classes_from strand l (cut [] order) classes ≡ classes
unfolding classes_from cut
classes-none strand l order classes = refl

module _ (next top sizes order : List ℕ) (l from : ℕ) (classes classes₀ : List ℕ) (w : Levelling next top sizes order l from classes classes₀) where
  pub level-ends : l < length sizes → from + get_or sizes l 0 ≤ length order
  level-ends h = omega (arith, sum-on sizes l h, w.left)

  pub levelling-on : (to : ℕ) → l < length sizes → to ≡ from + get_or sizes l 0 → (classes' : List ℕ)
      → ((strand : ℕ → List ℕ) → StrandsBy strand next top → classes' ≡ classes_on strand (l + 1) (take (to - from) (drop from order)) classes)
      → Levelling next top sizes order (l + 1) to classes' classes₀
  levelling-on to h e classes' g = record {
    left = omega (arith, sum-on sizes l h, w.left);
    each = λ strand s.
        let n : to - from ≡ get_or sizes l 0 = omega arith in
        let here : classes' ≡ classes_on strand (l + 1) (take (get_or sizes l 0) (drop from order)) classes = rw n at (g strand s) in
        rw here (ap (λ (x : List ℕ). classes_from strand (l + 1 + 1) (cut (drop (l + 1) sizes) x) (classes_on strand (l + 1) (take (get_or sizes l 0) (drop from order)) classes))
        (ap (λ (x : ℕ). drop x order) e ∙ sym (drop-drop (get_or sizes l 0) from order))
        ∙ sym (classes-on strand (l + 1) (take (get_or sizes l 0) (drop from order)) (cut (drop (l + 1) sizes) (drop (get_or sizes l 0) (drop from order))) classes)
        ∙ ap (λ (x : List (List ℕ)). classes_from strand (l + 1) x classes) (sym (cut_on sizes (drop from order) l h))
        ∙ w.each strand s);
  }

  pub levelling-end : length sizes ≤ l → (strand : ℕ → List ℕ) → StrandsBy strand next top → classes ≡ classes_from strand 1 (cut sizes order) classes₀
  levelling-end h strand s =
      sym (ap (λ (x : List ℕ). classes_from strand (l + 1) (cut x (drop from order)) classes) (drop_of_length-le sizes h) ∙ classes-none strand (l + 1) (drop from order) classes) ∙ w.each strand s
