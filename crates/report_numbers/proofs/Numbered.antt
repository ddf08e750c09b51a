-- A drawing in lists is in the numbers m once its positions stand by number and the boxes that are counted are named: placings are cut
-- from the front of the boxes, so what lies past them does not matter. Assumes nothing.
use mathlib.Core.Path.{◌≡◌, refl, sym, ◌∙◌, ap}
use mathlib.Core.List.{List, [], ◌∷◌, ◌++◌, map}
use Prim.Native.Nat.{ℕ, ◌+◌, ◌≤◌}
use native.Mathlib.Omega.{arith}
use lib.ListN.{length, get_or, take, drop, length-append, length-map}
use lib.Seq.{length-take-le, take_at, take-take}
use lib.IntN.{ℤ}
use Rattle.ints.specs.Lists.{sum}
use Rattle.ints.proofs.Lists.{map-take, map-drop, drop-part}
use Rattle.passes.specs.Drawing.{boxes_with}
use Rattle.passes.specs.Stored.{placings_from}
use Rattle.report.specs.Numbers.{positions_by, box_by, placing_by, in_numbers}
use Rattle.report.proofs.Numbers.{positions-long, numbers-within}
use Rattle.report_lines.specs.inner.Stored.{drawing_from}
use Rattle.report_numbers.specs.inner.Words.{Numberable, Numbered}

-- ---- placings
module _ (m : List ℕ) where
  boxes-with : (vs : List ℕ) (ys : List ℤ) → boxes_with (map (λ v. get_or m v 0) vs) ys ≡ map (box_by m) (boxes_with vs ys)
  unfolding boxes_with
  boxes-with [] ys = refl
  boxes-with (v ∷ vs) [] = refl
  boxes-with (v ∷ vs) (y ∷ ys) = rw (boxes-with vs ys)

  module _ (c n : ℕ) (vs ws : List ℕ) (e : take (c + n) ws ≡ map (λ v. get_or m v 0) (take (c + n) vs)) where
    front : take c ws ≡ map (λ v. get_or m v 0) (take c vs)
    front = let h : c ≤ c + n = omega arith in
        sym (take-take c (c + n) ws h) ∙ ap (take c) e ∙ sym (map-take (λ v. get_or m v 0) c (take (c + n) vs)) ∙ ap (map (λ v. get_or m v 0)) (take-take c (c + n) vs h)

    rest : take n (drop c ws) ≡ map (λ v. get_or m v 0) (take n (drop c vs))
    rest = sym (drop-part c n ws) ∙ ap (drop c) e ∙ sym (map-drop (λ v. get_or m v 0) c (take (c + n) vs)) ∙ ap (map (λ v. get_or m v 0)) (drop-part c n vs)

  placings-by : (qs ls cs vs ws : List ℕ) (ys : List ℤ) → take (sum cs) ws ≡ map (λ v. get_or m v 0) (take (sum cs) vs)
      → placings_from qs ls cs ws ys ≡ map (placing_by m) (placings_from qs ls cs vs ys)
  unfolding placings_from sum
  placings-by [] ls cs vs ws ys e = refl
  placings-by (q ∷ qs) [] cs vs ws ys e = refl
  placings-by (q ∷ qs) (l ∷ ls) [] vs ws ys e = refl
  placings-by (q ∷ qs) (l ∷ ls) (c ∷ cs) vs ws ys e =
      rw (front c (sum cs) vs ws e, boxes-with (take c vs) (take c ys), placings-by qs ls cs (drop c vs) (drop c ws) (drop c ys) (rest c (sum cs) vs ws e))

-- ---- what is left in the lists
module _ (m counts : List ℕ) (preliminary finals : List ℤ) (vertices : List ℕ) (starts ends : List ℤ) (names : List ℕ)
    (a : starts ≡ positions_by m preliminary) (b : ends ≡ positions_by m finals)
    (e : take (sum counts) names ≡ map (λ v. get_or m v 0) (take (sum counts) vertices)) (h : sum counts ≤ length names) where
  drawing-by : (passes levels : List ℕ) (positions : List ℤ)
      → drawing_from starts ends passes levels counts names positions ≡ in_numbers m (drawing_from preliminary finals passes levels counts vertices positions)
  drawing-by passes levels positions = rw (a, b, placings-by m passes levels counts vertices names positions e)

  numbered : Numbered m counts preliminary finals vertices starts ends names
  numbered = record {
    drawing = λ passes levels positions s. drawing-by passes levels positions;
    stored = λ passes levels positions s. record {
      of_finals = ap length b ∙ positions-long m finals ∙ sym (ap length a ∙ positions-long m preliminary);
      of_levels = s.of_levels;
      of_counts = s.of_counts;
      few = s.few;
      of_vertices = h;
      of_positions = s.of_positions;
      within = rw (drawing-by passes levels positions) (numbers-within m (drawing_from preliminary finals passes levels counts vertices positions) s.within);
    };
  }

-- names at the front of a list
pub numbered-front : (m counts : List ℕ) (preliminary finals : List ℤ) (vertices : List ℕ) (starts₀ ends₀ : List ℤ) (names₀ : List ℕ)
    → Numberable m counts preliminary finals vertices starts₀ ends₀ names₀ → (starts ends : List ℤ) (named rest : List ℕ) (n : ℕ)
    → starts ≡ positions_by m preliminary → ends ≡ positions_by m finals → n ≡ sum counts → named ≡ map (λ v. get_or m v 0) (take n vertices)
    → Numbered m counts preliminary finals vertices starts ends (named ++ rest)
numbered-front m counts preliminary finals vertices starts₀ ends₀ names₀ g starts ends named rest n a b t e =
    let long : length named ≡ sum counts = ap length e ∙ length-map (take n vertices) (λ v. get_or m v 0) ∙ length-take-le n vertices (omega (arith, g.of_vertices)) ∙ t in
    numbered m counts preliminary finals vertices starts ends (named ++ rest) a b (take_at named rest (sum counts) long ∙ rw (← t) e) (omega (arith, length-append named rest))
