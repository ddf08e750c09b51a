-- Before and after all strands are placed. Assumes nothing.
use Prim.Native.Nat.{ℕ, zero, suc, ◌<◌}
use mathlib.Core.Path.{◌≡◌, refl, sym, ◌∙◌, ap}
use mathlib.Core.Bool.{Bool, false}
use mathlib.Core.List.{List, map}
use native.Mathlib.Omega.{arith}
use lib.ListN.{length, get_or, replicate, length-replicate, get_or-map}
use lib.IntN.{ℤ, pos}
use Rattle.plan.specs.Plan.{PlanData}
use Rattle.prelim_classes.specs.inner.Links.{or_none, pairs_by}
use Rattle.prelim_classes.specs.inner.Strands.{StrandsBy}
use Rattle.preliminary.specs.Place.{asked_by}
use Rattle.prelim_classes.specs.inner.Walks.{unbegun, Placeable, Asks, AllPlaced, SiblingsOf, Classed, Stand}

same-at : {A : Type 0} (n v : ℕ) (x : A) → get_or (replicate n x) v x ≡ x
same-at zero v x = refl
same-at (suc n) zero x = refl
same-at (suc n) (suc v) x = same-at n v x

unbegun-all : (n : ℕ) → unbegun (replicate n false) ≡ n
unfolding unbegun
unbegun-all zero = refl
unbegun-all (suc n) = ap suc (unbegun-all n)

module _ (gap : ℕ) (halves next top order right classes : List ℕ) (r : Classed gap halves next top order right classes) where
  pub to-place : (sibling at : List ℕ) (begun : List Bool) → length sibling ≡ length next → at ≡ replicate (length next) 0 → begun ≡ replicate (length next) false
      → Placeable gap halves next top sibling at begun
  to-place sibling at begun b e f =
      let n = length next in
      record {
        narrow = r.narrow;
        strung = r.strung;
        boxes = r.boxes;
        siblings = b;
        places = ap length e ∙ length-replicate n 0;
        marks = ap length f ∙ length-replicate n false;
        uniform = record { each = λ v h. rw f (same-at n v false ∙ sym (same-at n (get_or top v 0) false)) };
        low = record { each = λ v. rw (e, f, same-at {A = ℕ} n v 0, unbegun-all n) (omega (arith, r.few)) };
      }

  pub stand-is : (sibling at : List ℕ) (xs : List ℤ) → SiblingsOf order right classes sibling → AllPlaced gap halves next top sibling order at → xs ≡ map pos at
      → Stand gap halves next top order right classes xs
  stand-is sibling at xs s a e =
      let here : (v : ℕ) → get_or xs v (pos 0) ≡ pos (get_or at v 0) = λ v. ap (λ (l : List ℤ). get_or l v (pos 0)) e ∙ get_or-map pos at v 0 in
      record {
        least = λ v. rw (here v) refl;
        most = λ v. rw (here v) (a.low v);
        each = λ p strand g h t. e ∙ ap (map pos) (a.each p strand (pairs_by (length next) order right) classes (asks p strand g h t));
      }
    where
      asked_is : (v : ℕ) → v < length next → asked_by (pairs_by (length next) order right) classes v ≡ or_none (length next) (get_or sibling v 0)
      asked_is v h = rw r.numbers at (s.each v (omega (arith, r.numbers)))

      asks : (p : PlanData) (strand : ℕ → List ℕ) → p.gap ≡ gap → p.halves ≡ halves → StrandsBy strand next top → Asks p strand (pairs_by (length next) order right) classes gap halves next top sibling
      asks p strand g h t = record { gap_is = g; halves_are = h; strands = t; asked = asked_is }
