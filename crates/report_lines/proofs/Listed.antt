-- Laws of a list of placings in arrays: how many it has, its k-th, one more, and all its boxes.
use mathlib.Core.Path.{◌≡◌, refl, sym, ◌∙◌, ap}
use mathlib.Core.Bool.{true}
use mathlib.Core.List.{List, [], ◌∷◌, ◌++◌, map}
use Prim.Native.Nat.{ℕ, zero, suc, ◌+◌, ◌≤◌, ◌<◌}
use native.Mathlib.Omega.{arith}
use native.Mathlib.Numerals.{add-one}
use lib.Dec.{leb}
use borrow.Author.Tests.{leb-true}
use lib.ListN.{length, get_or, take, drop, length-take, length-drop}
use lib.Seq.{drop-cons, drop-drop, take-add, take-take}
use lib.IntN.{ℤ}
use Rattle.ints.specs.Lists.{sum}
use Rattle.ints.proofs.Tests.{conj-at}
use Rattle.passes.specs.Drawing.{BoxAt, Placing, Drawing, boxes_with}
use Rattle.passes.specs.Stored.{placings_from}
use Rattle.ints.specs.Reach.{all_within}
use Rattle.ints.proofs.Reach.{within-take, within-right}
use Rattle.passes.specs.Words.{boxes_listed, max_listed, drawing_within}
use Rattle.report_lines.specs.inner.Forms.{placing}
use Rattle.report_lines.specs.inner.Stored.{placing_of, drawing_from, Stored}

abbrev pub no_placing : Placing
no_placing = record { pass = 0; level = 0; boxes = [] }

pub placings-count : (qs ls cs vs : List ℕ) (ys : List ℤ) → length ls ≡ length qs → length cs ≡ length qs → length (placings_from qs ls cs vs ys) ≡ length qs
unfolding placings_from
placings-count [] ls cs vs ys e f = refl
placings-count (q ∷ qs) [] cs vs ys e f = absurd (omega arith)
placings-count (q ∷ qs) (l ∷ ls) [] vs ys e f = absurd (omega arith)
placings-count (q ∷ qs) (l ∷ ls) (c ∷ cs) vs ys e f = ap suc (placings-count qs ls cs (drop c vs) (drop c ys) (omega arith) (omega arith))

-- the k-th: its boxes start where those before it end
pub placing-at : (qs ls cs vs : List ℕ) (ys : List ℤ) (k : ℕ) → length ls ≡ length qs → length cs ≡ length qs → k < length qs
    → get_or (placings_from qs ls cs vs ys) k no_placing ≡ placing_of qs ls cs vs ys k (sum (take k cs))
unfolding placings_from sum
placing-at [] ls cs vs ys k e f h = absurd (omega arith)
placing-at (q ∷ qs) [] cs vs ys k e f h = absurd (omega arith)
placing-at (q ∷ qs) (l ∷ ls) [] vs ys k e f h = absurd (omega arith)
placing-at (q ∷ qs) (l ∷ ls) (c ∷ cs) vs ys zero e f h = refl
placing-at (q ∷ qs) (l ∷ ls) (c ∷ cs) vs ys (suc k) e f h =
    rw (← drop-drop (sum (take k cs)) c vs, ← drop-drop (sum (take k cs)) c ys) (placing-at qs ls cs (drop c vs) (drop c ys) k (omega arith) (omega arith) (omega arith))

-- the k-th of those left, and the others
pub placings-next : (qs ls cs vs : List ℕ) (ys : List ℤ) (k : ℕ) → length ls ≡ length qs → length cs ≡ length qs → k < length qs
    → placings_from (drop k qs) (drop k ls) (drop k cs) vs ys
    ≡ placing (get_or qs k 0) (get_or ls k 0) (take (get_or cs k 0) vs) (take (get_or cs k 0) ys) ∷ placings_from (drop (k + 1) qs) (drop (k + 1) ls) (drop (k + 1) cs) (drop (get_or cs k 0) vs) (drop (get_or cs k 0) ys)
unfolding placings_from
placings-next qs ls cs vs ys k e f h =
    let i : k < length ls = omega arith in
    let j : k < length cs = omega arith in
    rw (add-one k, drop-cons qs k 0 h, drop-cons ls k 0 i, drop-cons cs k 0 j)

-- ---- the boxes of all placings
with_append : (vs ws : List ℕ) (ys zs : List ℤ) → length ys ≡ length vs → boxes_with (vs ++ ws) (ys ++ zs) ≡ boxes_with vs ys ++ boxes_with ws zs
unfolding boxes_with
with_append [] ws [] zs e = refl
with_append [] ws (y ∷ ys) zs e = absurd (omega arith)
with_append (v ∷ vs) ws [] zs e = absurd (omega arith)
with_append (v ∷ vs) ws (y ∷ ys) zs e = rw (with_append vs ws ys zs (omega arith))

pub positions-with : (vs : List ℕ) (ys : List ℤ) → length ys ≡ length vs → map (λ (b : BoxAt). b.position) (boxes_with vs ys) ≡ ys
unfolding boxes_with
positions-with [] [] e = refl
positions-with [] (y ∷ ys) e = absurd (omega arith)
positions-with (v ∷ vs) [] e = absurd (omega arith)
positions-with (v ∷ vs) (y ∷ ys) e = ap (λ (l : List ℤ). y ∷ l) (positions-with vs ys (omega arith))

pub vertices-with : (vs : List ℕ) (ys : List ℤ) → length ys ≡ length vs → map (λ (b : BoxAt). b.vertex) (boxes_with vs ys) ≡ vs
unfolding boxes_with
vertices-with [] ys e = refl
vertices-with (v ∷ vs) [] e = absurd (omega arith)
vertices-with (v ∷ vs) (y ∷ ys) e = ap (λ (l : List ℕ). v ∷ l) (vertices-with vs ys (omega arith))

-- what lies past them in their arrays is no box
pub boxes-listed : (qs ls cs vs : List ℕ) (ys : List ℤ) → length ls ≡ length qs → length cs ≡ length qs → sum cs ≤ length vs → sum cs ≤ length ys
    → boxes_listed (placings_from qs ls cs vs ys) ≡ boxes_with (take (sum cs) vs) (take (sum cs) ys)
unfolding placings_from boxes_listed sum boxes_with
boxes-listed [] ls [] vs ys e f g h = refl
boxes-listed [] ls (c ∷ cs) vs ys e f g h = absurd (omega arith)
boxes-listed (q ∷ qs) [] cs vs ys e f g h = absurd (omega arith)
boxes-listed (q ∷ qs) (l ∷ ls) [] vs ys e f g h = absurd (omega arith)
boxes-listed (q ∷ qs) (l ∷ ls) (c ∷ cs) vs ys e f g h =
    let one : length (take c ys) ≡ length (take c vs) = simp length-take (omega arith) in
    let a : sum cs ≤ length (drop c vs) = simp length-drop (omega arith) in
    let b : sum cs ≤ length (drop c ys) = simp length-drop (omega arith) in
    rw (boxes-listed qs ls cs (drop c vs) (drop c ys) (omega arith) (omega arith) a b, take-add c (sum cs) vs, take-add c (sum cs) ys)
    (sym (with_append (take c vs) (take (sum cs) (drop c vs)) (take c ys) (take (sum cs) (drop c ys)) one))

module _ (qs ls cs vs : List ℕ) (ys : List ℤ) (e : length ls ≡ length qs) (f : length cs ≡ length qs) (g : sum cs ≤ length vs) (h : sum cs ≤ length ys) where
  as_many : length (take (sum cs) ys) ≡ length (take (sum cs) vs)
  as_many = simp length-take (omega arith)

  positions-listed : map (λ (b : BoxAt). b.position) (boxes_listed (placings_from qs ls cs vs ys)) ≡ take (sum cs) ys
  positions-listed = ap (map (λ (b : BoxAt). b.position)) (boxes-listed qs ls cs vs ys e f g h) ∙ positions-with (take (sum cs) vs) (take (sum cs) ys) as_many

  pub vertices-listed : map (λ (b : BoxAt). b.vertex) (boxes_listed (placings_from qs ls cs vs ys)) ≡ take (sum cs) vs
  vertices-listed = ap (map (λ (b : BoxAt). b.vertex)) (boxes-listed qs ls cs vs ys e f g h) ∙ vertices-with (take (sum cs) vs) (take (sum cs) ys) as_many

-- a part of what is within reach
pub part-within : (n s c : ℕ) (ys : List ℤ) → s + c ≤ n → all_within (take n ys) ≡ true → all_within (take c (drop s ys)) ≡ true
part-within n s c ys h e = within-right (take s ys) (take c (drop s ys)) (rw (take-take (s + c) n ys h, take-add s c ys) at (within-take (s + c) (take n ys) e))

module _ (d : Drawing) (e : drawing_within d ≡ true) where
  within-parts : (i : ℕ) → get_or (all_within d.preliminary ∷ all_within d.final ∷ all_within (map (λ (b : BoxAt). b.position) (boxes_listed d.placings))
      ∷ leb (length d.placings) max_listed ∷ leb (length (boxes_listed d.placings)) max_listed ∷ []) i true ≡ true
  unfolding drawing_within
  within-parts = conj-at (all_within d.preliminary) (all_within d.final ∷ all_within (map (λ (b : BoxAt). b.position) (boxes_listed d.placings))
      ∷ leb (length d.placings) max_listed ∷ leb (length (boxes_listed d.placings)) max_listed ∷ []) e

  pub preliminary-within : all_within d.preliminary ≡ true
  preliminary-within = within-parts 0

  pub final-within : all_within d.final ≡ true
  final-within = within-parts 1

  pub boxes-within : all_within (map (λ (b : BoxAt). b.position) (boxes_listed d.placings)) ≡ true
  boxes-within = within-parts 2

  pub few-placings : length d.placings ≤ max_listed
  few-placings = leb-true (length d.placings) max_listed (within-parts 3)

  pub few-boxes : length (boxes_listed d.placings) ≤ max_listed
  few-boxes = leb-true (length (boxes_listed d.placings)) max_listed (within-parts 4)

pub listed-within : {preliminary finals : List ℤ} {passes levels counts vertices : List ℕ} {positions : List ℤ} → Stored preliminary finals passes levels counts vertices positions
    → all_within (take (sum counts) positions) ≡ true
listed-within {preliminary} {finals} {passes} {levels} {counts} {vertices} {positions} s =
    rw (positions-listed passes levels counts vertices positions s.of_levels s.of_counts s.of_vertices s.of_positions)
    at (boxes-within (drawing_from preliminary finals passes levels counts vertices positions) s.within)
