-- A drawing in arrays, tested part by part: its positions, those listed being as many as the placings have boxes, and each placing.
-- Assumes nothing.
use Prim.Native.Nat.{ℕ, suc, ◌+◌, ◌≤◌}
use mathlib.Core.Path.{◌≡◌, refl, sym, ◌∙◌, ap}
use mathlib.Core.Bool.{Bool, true, false, cond, ◌&&◌}
use mathlib.Core.List.{List, [], ◌∷◌, ◌++◌, map, map-append}
use native.Mathlib.Omega.{arith}
use borrow.Author.Tests.{le-leb}
use lib.Dec.{eqb, leb}
use lib.ListN.{length, take, drop, length-map, length-drop}
use lib.Seq.{take-add, length-take-le}
use lib.IntN.{ℤ}
use Rattle.ints.specs.Lists.{sum}
use Rattle.plan.specs.Limits.{within}
use Rattle.plan.specs.Plan.{PlanData}
use Rattle.plan.specs.Checks.{every, any}
use Rattle.report.specs.Refusal13.{same_numbers, is_pass, is_run_of_plan, is_drawing}
use Rattle.passes.specs.Runs.{Run, runs_of}
use Rattle.passes.specs.Drawing.{BoxAt, boxes_with}
use Rattle.passes.specs.Stored.{placings_from}
use Rattle.ints.specs.Reach.{all_within}
use Rattle.passes.specs.Words.{boxes_listed, max_listed, drawing_within}
use Rattle.report_validity.specs.inner.Stored.{is_stored_drawing, StoredList}
use Rattle.report_validity.specs.inner.Tests.{is_run_on, are_placings}

-- ---- boxes
pub with-vertices : (vs : List ℕ) (ys : List ℤ) → length vs ≡ length ys → map (λ (b : BoxAt). b.vertex) (boxes_with vs ys) ≡ vs
unfolding boxes_with
with-vertices [] ys e = refl
with-vertices (v ∷ vs) [] e = absurd (omega arith)
with-vertices (v ∷ vs) (y ∷ ys) e = ap (λ (ws : List ℕ). v ∷ ws) (with-vertices vs ys (omega arith))

with-positions : (vs : List ℕ) (ys : List ℤ) → length vs ≡ length ys → map (λ (b : BoxAt). b.position) (boxes_with vs ys) ≡ ys
unfolding boxes_with
with-positions [] [] e = refl
with-positions [] (y ∷ ys) e = absurd (omega arith)
with-positions (v ∷ vs) [] e = absurd (omega arith)
with-positions (v ∷ vs) (y ∷ ys) e = ap (λ (zs : List ℤ). y ∷ zs) (with-positions vs ys (omega arith))

-- ---- one placing
pub run_is : (p : PlanData) (q l : ℕ) (bs : List BoxAt) (vs : List ℕ) → map (λ (b : BoxAt). b.vertex) bs ≡ vs
    → is_run_of_plan p (record { pass = q; level = l; boxes = bs }) ≡ is_run_on p l vs
unfolding is_run_of_plan is_run_on
run_is p q l bs vs e =
    let n : length bs ≡ length vs = sym (length-map bs (λ (b : BoxAt). b.vertex)) ∙ ap length e in
    ap (λ (k : ℕ). leb 1 k && any (λ (r : Run). eqb l r.level && same_numbers (map (λ (b : BoxAt). b.vertex) bs) r.boxes) (runs_of p)) n
    ∙ ap (λ (ws : List ℕ). leb 1 (length vs) && any (λ (r : Run). eqb l r.level && same_numbers ws r.boxes) (runs_of p)) e

-- two tests of every placing are one of both
both_of : (a b e f : Bool) → cond a e false && cond b f false ≡ cond (a && b) (e && f) false
both_of true true e f = refl
both_of true false true f = refl
both_of true false false f = refl
both_of false b e f = refl

-- ---- the list: c boxes are taken from vs and ys, and then those of the other placings
module _ (c : ℕ) (cs vs : List ℕ) (ys : List ℤ) (h : c + sum cs ≤ length vs) (k : c + sum cs ≤ length ys) where
  taken-same : length (take c vs) ≡ length (take c ys)
  taken-same = length-take-le c vs (omega arith) ∙ sym (length-take-le c ys (omega arith))

  vertices-left : sum cs ≤ length (drop c vs)
  vertices-left = omega (arith, length-drop c vs)

  positions-left : sum cs ≤ length (drop c ys)
  positions-left = omega (arith, length-drop c ys)

placings-length : (qs ls cs vs : List ℕ) (ys : List ℤ) → length ls ≡ length qs → length cs ≡ length qs → length (placings_from qs ls cs vs ys) ≡ length qs
unfolding placings_from
placings-length [] ls cs vs ys e f = refl
placings-length (q ∷ qs) [] cs vs ys e f = absurd (omega arith)
placings-length (q ∷ qs) (l ∷ ls) [] vs ys e f = absurd (omega arith)
placings-length (q ∷ qs) (l ∷ ls) (c ∷ cs) vs ys e f = ap suc (placings-length qs ls cs (drop c vs) (drop c ys) (omega arith) (omega arith))

positions-listed : (qs ls cs vs : List ℕ) (ys : List ℤ) → length ls ≡ length qs → length cs ≡ length qs → sum cs ≤ length vs → sum cs ≤ length ys
    → map (λ (b : BoxAt). b.position) (boxes_listed (placings_from qs ls cs vs ys)) ≡ take (sum cs) ys
unfolding placings_from boxes_listed sum
positions-listed [] ls [] vs ys e f h k = refl
positions-listed [] ls (c ∷ cs) vs ys e f h k = absurd (omega arith)
positions-listed (q ∷ qs) [] cs vs ys e f h k = absurd (omega arith)
positions-listed (q ∷ qs) (l ∷ ls) [] vs ys e f h k = absurd (omega arith)
positions-listed (q ∷ qs) (l ∷ ls) (c ∷ cs) vs ys e f h k =
    let bs = boxes_with (take c vs) (take c ys) in
    let more = placings_from qs ls cs (drop c vs) (drop c ys) in
    map-append (λ (b : BoxAt). b.position) bs (boxes_listed more)
    ∙ ap (λ (zs : List ℤ). zs ++ map (λ (b : BoxAt). b.position) (boxes_listed more)) (with-positions (take c vs) (take c ys) (taken-same c cs vs ys h k))
    ∙ ap (λ (zs : List ℤ). take c ys ++ zs) (positions-listed qs ls cs (drop c vs) (drop c ys) (omega arith) (omega arith) (vertices-left c cs vs ys h k) (positions-left c cs vs ys h k))
    ∙ sym (take-add c (sum cs) ys)

placings-are : (p : PlanData) (qs ls cs vs : List ℕ) (ys : List ℤ) → length ls ≡ length qs → length cs ≡ length qs → sum cs ≤ length vs → sum cs ≤ length ys
    → every is_pass (placings_from qs ls cs vs ys) && every (is_run_of_plan p) (placings_from qs ls cs vs ys) ≡ are_placings p qs ls cs vs
unfolding placings_from are_placings every sum
placings-are p [] ls cs vs ys e f h k = refl
placings-are p (q ∷ qs) [] cs vs ys e f h k = absurd (omega arith)
placings-are p (q ∷ qs) (l ∷ ls) [] vs ys e f h k = absurd (omega arith)
placings-are p (q ∷ qs) (l ∷ ls) (c ∷ cs) vs ys e f h k =
    let bs = boxes_with (take c vs) (take c ys) in
    let more = placings_from qs ls cs (drop c vs) (drop c ys) in
    both_of (within 1 3 q) (is_run_of_plan p (record { pass = q; level = l; boxes = bs })) (every is_pass more) (every (is_run_of_plan p) more)
    ∙ ap (λ (t : Bool). cond (within 1 3 q && t) (every is_pass more && every (is_run_of_plan p) more) false)
    (run_is p q l bs (take c vs) (with-vertices (take c vs) (take c ys) (taken-same c cs vs ys h k)))
    ∙ ap (λ (t : Bool). cond (within 1 3 q && is_run_on p l (take c vs)) t false)
    (placings-are p qs ls cs (drop c vs) (drop c ys) (omega arith) (omega arith) (vertices-left c cs vs ys h k) (positions-left c cs vs ys h k))

-- ---- the whole test
module _ (p : PlanData) (xs zs : List ℤ) {qs ls cs vs : List ℕ} {ys : List ℤ} (s : StoredList qs ls cs vs ys) where
  pub stored_is : sum cs ≤ max_listed
      → is_stored_drawing p xs zs qs ls cs vs ys ≡ (all_within xs && all_within zs && all_within (take (sum cs) ys) && are_placings p qs ls cs vs)
  unfolding is_drawing drawing_within
  stored_is h =
      let list = placings_from qs ls cs vs ys in
      let m : length list ≤ max_listed = omega (arith, placings-length qs ls cs vs ys s.of_levels s.of_counts, s.placings) in
      let j : sum cs ≤ length vs = omega (arith, s.of_vertices) in
      let k : sum cs ≤ length ys = omega (arith, s.of_positions) in
      let listed = positions-listed qs ls cs vs ys s.of_levels s.of_counts j k in
      let n : length (boxes_listed list) ≤ max_listed =
      omega (arith, length-map (boxes_listed list) (λ (b : BoxAt). b.position), ap length listed, length-take-le (sum cs) ys k) in
      parts (all_within xs) (all_within zs) (all_within (map (λ (b : BoxAt). b.position) (boxes_listed list))) (leb (length list) max_listed) (leb (length (boxes_listed list)) max_listed)
      (every is_pass list) (every (is_run_of_plan p) list) (leb (sum cs) max_listed) (le-leb (length list) max_listed m) (le-leb (length (boxes_listed list)) max_listed n) (le-leb (sum cs) max_listed h)
      ∙ ap (λ (l : List ℤ). all_within xs && all_within zs && all_within l && (every is_pass list && every (is_run_of_plan p) list)) listed
      ∙ ap (λ (t : Bool). all_within xs && all_within zs && all_within (take (sum cs) ys) && t) (placings-are p qs ls cs vs ys s.of_levels s.of_counts j k)
    where
      parts : (a b c d e f g t : Bool) → d ≡ true → e ≡ true → t ≡ true → t && (a && b && c && d && e && f && g) ≡ (a && b && c && (f && g))
      parts a b c d e f g t h k l = rw (h, k, l) (ends (a && b && c))
        where
          ends : (w : Bool) → w && true && true && f && g ≡ (w && (f && g))
          ends true = refl
          ends false = refl
