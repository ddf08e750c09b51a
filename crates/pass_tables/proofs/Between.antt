-- As many marks come before u as before w exactly if no vertex from u up to w is marked. Assumes nothing.
use Prim.Native.Nat.{ℕ, zero, suc, ◌+◌, ◌-◌, ◌<◌, ◌≤◌}
use mathlib.Core.Path.{◌≡◌, refl, sym, ◌∙◌, ap}
use mathlib.Core.Bool.{Bool, true, false}
use mathlib.Core.List.{List}
use native.Mathlib.Omega.{arith}
use lib.ListN.{get_or}
use Rattle.ints.proofs.Laws.{cases}
use Rattle.pass_tables.specs.inner.Joins.{one_if, marked_in}

no-mark : (b : Bool) → one_if b ≡ 0 → b ≡ false
no-mark true h = absurd (omega arith)
no-mark false h = refl

module _ (marks : List Bool) where
  marks-add : (c a n : ℕ) → marked_in marks c (a + n) ≡ marked_in marks c a + marked_in marks (c + a) n
  unfolding marked_in
  marks-add c a zero = let e : a + 0 ≡ a = omega arith in ap (marked_in marks c) e ∙ omega arith
  marks-add c a (suc n) =
      let e : a + suc n ≡ suc (a + n) = omega arith in
      let f : c + (a + n) ≡ c + a + n = omega arith in
      ap (marked_in marks c) e ∙ omega (arith, marks-add c a n, ap (λ (v : ℕ). one_if (get_or marks v false)) f)

  marks-zero : (v n : ℕ) → marked_in marks v n ≡ 0 → (w : ℕ) → v ≤ w → w < v + n → get_or marks w false ≡ false
  unfolding marked_in
  marks-zero v zero e w h k = absurd (omega arith)
  marks-zero v (suc n) e w h k = cases (v + n) w
      (λ i. let z : v + n ≡ w = omega arith in no-mark (get_or marks w false) (sym (ap (λ (u : ℕ). one_if (get_or marks u false)) z) ∙ omega arith))
      (λ i. marks-zero v n (omega arith) w h i)

  zero-marks : (v n : ℕ) → ((w : ℕ) → v ≤ w → w < v + n → get_or marks w false ≡ false) → marked_in marks v n ≡ 0
  unfolding marked_in
  zero-marks v zero f = refl
  zero-marks v (suc n) f = omega (arith, zero-marks v n (λ w h k. f w h (omega arith)), ap one_if (f (v + n) (omega arith) (omega arith)))

  module _ (c u w : ℕ) (h : c ≤ u) (k : u ≤ w) where
    between : marked_in marks c (w - c) ≡ marked_in marks c (u - c) + marked_in marks u (w - u)
    between =
        let e : w - c ≡ u - c + (w - u) = omega arith in
        let f : c + (u - c) ≡ u = omega arith in
        ap (marked_in marks c) e ∙ marks-add c (u - c) (w - u) ∙ ap (λ (v : ℕ). marked_in marks c (u - c) + marked_in marks v (w - u)) f

    pub none_between : marked_in marks c (u - c) ≡ marked_in marks c (w - c) → (v : ℕ) → u ≤ v → v < w → get_or marks v false ≡ false
    none_between e v i j = marks-zero u (w - u) (omega (arith, between)) v i (omega arith)

    pub same-between : ((v : ℕ) → u ≤ v → v < w → get_or marks v false ≡ false) → marked_in marks c (u - c) ≡ marked_in marks c (w - c)
    same-between f = omega (arith, between, zero-marks u (w - u) (λ v i j. f v i (omega arith)))
