-- Laws of the left siblings that a placing asks, as the loop that writes them from the last pair up meets them. Assumes nothing.
use Prim.Native.Nat.{ℕ, ◌+◌, ◌<◌, ◌≤◌}
use mathlib.Core.Path.{◌≡◌, refl, sym, ◌∙◌, ap}
use mathlib.Core.Bool.{cond}
use mathlib.Core.List.{List}
use mathlib.Core.Option.{some}
use native.Mathlib.Omega.{arith}
use native.Mathlib.Numerals.{add-one}
use borrow.Author.Tests.{lt-ltb, le-ltb, eq-eqb, ne_eqb}
use lib.Dec.{eqb}
use lib.ListN.{length, get_or, set, drop, replicate, drop_of_length-le, get_or-replicate}
use lib.Seq.{drop-cons, get_or-set_same, get_or-set_other, set_out}
use Rattle.ints.proofs.Laws.{cases}
use Rattle.plan.specs.Plan.{Siblings, left_sibling}
use Rattle.plan.proofs.CountLaws.{by-same}
use Rattle.prelim_classes.specs.inner.Links.{or_none, pairs_by}
use Rattle.preliminary.specs.Place.{of_class, asked_by}
use Rattle.prelim_classes.specs.inner.Walks.{same_class}

-- the pairs from i on are written
pub record SiblingsFrom (order right classes sibling : List ℕ) (i : ℕ) : Type 0 where
  pub each : (v : ℕ) → v < length classes
      → asked_by (pairs_by (length classes) (drop i order) (drop i right)) classes v ≡ or_none (length classes) (get_or sibling v 0)

module _ (order right classes : List ℕ) where
  pub siblings-start : length classes ≤ 1024 → (sibling : List ℕ) → sibling ≡ replicate (length classes) 2048 → SiblingsFrom order right classes sibling (length order)
  unfolding pairs_by left_sibling asked_by
  siblings-start h sibling e = record {
    each = λ v k. let n = length classes in let m : n ≤ 2048 = omega arith in
        rw (e, get_or-replicate {A = ℕ} n v 2048 0 k, le-ltb 2048 n m, drop_of_length-le order {i = length order} (omega arith)) refl;
  }

  module _ (i : ℕ) (h : i < length order) (k : i < length right) where
    pairs-in : get_or right i 0 < length classes → (v : ℕ)
        → left_sibling (pairs_by (length classes) (drop i order) (drop i right)) v
        ≡ cond (eqb (get_or right i 0) v) (some (get_or order i 0)) (left_sibling (pairs_by (length classes) (drop (i + 1) order) (drop (i + 1) right)) v)
    unfolding pairs_by left_sibling
    pairs-in m v = rw (add-one, drop-cons order i 0 h, drop-cons right i 0 k, lt-ltb (get_or right i 0) (length classes) m)

    pairs-out : length classes ≤ get_or right i 0
        → pairs_by (length classes) (drop i order) (drop i right) ≡ pairs_by (length classes) (drop (i + 1) order) (drop (i + 1) right)
    unfolding pairs_by
    pairs-out m = rw (add-one, drop-cons order i 0 h, drop-cons right i 0 k, le-ltb (get_or right i 0) (length classes) m)

    here : get_or right i 0 < length classes → (v : ℕ) → get_or right i 0 ≡ v → left_sibling (pairs_by (length classes) (drop i order) (drop i right)) v ≡ some (get_or order i 0)
    here m v s = pairs-in m v ∙ rw (eq-eqb (get_or right i 0) v s) refl

    later : get_or right i 0 < length classes → (v : ℕ) → (get_or right i 0 ≡ v → ⊥)
        → left_sibling (pairs_by (length classes) (drop i order) (drop i right)) v ≡ left_sibling (pairs_by (length classes) (drop (i + 1) order) (drop (i + 1) right)) v
    later m v s = pairs-in m v ∙ rw (ne_eqb (get_or right i 0) v s) refl

    same-class-asked : (u v : ℕ) → u < length classes → length classes ≤ 1024 → of_class classes v (some u) ≡ or_none (length classes) (same_class u v classes)
    same-class-asked u v b f = let m : length classes ≤ 2048 = omega arith in by-same (get_or classes u 0) (get_or classes v 0)
        (λ s. simp (eq-eqb (get_or classes u 0) (get_or classes v 0) s, lt-ltb u (length classes) b))
        (λ s. simp (ne_eqb (get_or classes u 0) (get_or classes v 0) s, le-ltb 2048 (length classes) m))

    pub siblings-on : (sibling : List ℕ) → length sibling ≡ length classes → length classes ≤ 1024 → get_or order i 0 < length classes → SiblingsFrom order right classes sibling (i + 1)
        → SiblingsFrom order right classes (set sibling (get_or right i 0) (same_class (get_or order i 0) (get_or right i 0) classes)) i
    unfolding asked_by
    siblings-on sibling e f b w =
        let u = get_or order i 0 in
        let r = get_or right i 0 in
        let n = length classes in
        let x = same_class u r classes in
        record {
          each = λ v m. cases n r
              (λ o. ap (λ (ss : List Siblings). of_class classes v (left_sibling ss v)) (pairs-out o) ∙ w.each v m ∙ ap (λ (l : List ℕ). or_none n (get_or l v 0)) (sym (set_out sibling r x (omega arith))))
              (λ o. by-same r v
              (λ s. ap (of_class classes v) (here o v s) ∙ ap (λ (y : ℕ). of_class classes y (some u)) (sym s) ∙ same-class-asked u r b f
              ∙ ap (or_none n) (sym (get_or-set_same sibling r x 0 (omega arith))) ∙ ap (λ (y : ℕ). or_none n (get_or (set sibling r x) y 0)) s)
              (λ s. ap (of_class classes v) (later o v s) ∙ w.each v m ∙ ap (or_none n) (sym (get_or-set_other sibling r v x 0 (λ z. s (sym z))))));
        }
