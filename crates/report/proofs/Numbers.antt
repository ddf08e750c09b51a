-- Laws of a drawing in remembered numbers: how much it has, that its positions stay within reach, the line of a vertex, and that a drawing
-- stays as it is if each vertex has its own number.
-- Assumes nothing.
use mathlib.Core.Path.{◌≡◌, refl, sym, ◌∙◌, ap}
use mathlib.Core.Bool.{true}
use mathlib.Core.List.{List, [], ◌∷◌, map, map-append}
use Prim.Native.Nat.{ℕ, ◌<◌}
use native.Mathlib.Nat.{zero-add}
use native.Mathlib.Omega.{arith}
use lib.Dec.{leb}
use lib.ListN.{length, get_or, length-map}
use lib.IntN.{ℤ, pos}
use Rattle.ints.specs.Reach.{all_within}
use Rattle.ints.proofs.Reach.{within-get, within-each}
use Rattle.ints.proofs.Lists.{map-get_or}
use Rattle.ints.proofs.Members.{map-stays}
use Rattle.ints.proofs.Tests.{conj-at, ◌and◌}
use Rattle.plan.specs.Plan.{PlanData, vertex_count, numbers, level_of, height_of}
use Rattle.plan.proofs.All.{All, all_nil, all_cons, all_map}
use Rattle.plan.proofs.Levels.{length-numbers, get-numbers}
use Rattle.plan.proofs.Sound.{numbers-mem}
use Rattle.plan_renumber.specs.Renumber.{place_in, inverse}
use Rattle.plan_renumber.proofs.Places.{inverse-long, inverse-at, new-old, place-number, map_at}
use Rattle.plan_renumber.proofs.Own.{Own}
use Rattle.passes.specs.State.{position_of}
use Rattle.passes.specs.Drawing.{BoxAt, Placing, Drawing}
use Rattle.passes.specs.Words.{boxes_listed, max_listed, drawing_within}
use Rattle.report.specs.Lines.{at_line, at_line_of}
use Rattle.report.specs.Numbers.{positions_by, box_by, placing_by, in_numbers}

-- ---- how much there is
pub positions-long : (m : List ℕ) (xs : List ℤ) → length (positions_by m xs) ≡ length m
unfolding inverse
positions-long m xs = length-map (inverse m) (position_of xs) ∙ length-map (numbers 0 (length m)) (place_in m) ∙ length-numbers 0 (length m)

-- the boxes of all placings, each named by its number
pub boxes-by : (m : List ℕ) (qs : List Placing) → boxes_listed (map (placing_by m) qs) ≡ map (box_by m) (boxes_listed qs)
unfolding boxes_listed
boxes-by m [] = refl
boxes-by m (q ∷ qs) = rw (boxes-by m qs) (sym (map-append (box_by m) q.boxes (boxes_listed qs)))

-- they stand where they stood
stands : (m : List ℕ) (bs : List BoxAt) → map (λ (b : BoxAt). b.position) (map (box_by m) bs) ≡ map (λ (b : BoxAt). b.position) bs
stands m [] = refl
stands m (b ∷ bs) = ap (λ (l : List ℤ). b.position ∷ l) (stands m bs)

pub boxes-stand : (m : List ℕ) (qs : List Placing)
    → map (λ (b : BoxAt). b.position) (boxes_listed (map (placing_by m) qs)) ≡ map (λ (b : BoxAt). b.position) (boxes_listed qs)
boxes-stand m qs = ap (map (λ (b : BoxAt). b.position)) (boxes-by m qs) ∙ stands m (boxes_listed qs)

pub boxes-many : (m : List ℕ) (qs : List Placing) → length (boxes_listed (map (placing_by m) qs)) ≡ length (boxes_listed qs)
boxes-many m qs = ap length (boxes-by m qs) ∙ length-map (boxes_listed qs) (box_by m)

-- ---- within reach
-- the vertex of a number may be none: past the end stands 0
pub positions-within : (m : List ℕ) (xs : List ℤ) → all_within xs ≡ true → all_within (positions_by m xs) ≡ true
positions-within m xs e = within-each (positions_by m xs) (λ n h.
    rw (map-get_or (position_of xs) (inverse m) n 0 (pos 0) (omega (arith, length-map (inverse m) (position_of xs)))) (within-get xs (get_or (inverse m) n 0) e))

pub numbers-within : (m : List ℕ) (d : Drawing) → drawing_within d ≡ true → drawing_within (in_numbers m d) ≡ true
unfolding drawing_within
numbers-within m d e =
    let bs = boxes_listed d.placings in
    let part = conj-at (all_within d.preliminary) (all_within d.final ∷ all_within (map (λ (b : BoxAt). b.position) bs)
    ∷ leb (length d.placings) max_listed ∷ leb (length bs) max_listed ∷ []) e in
    positions-within m d.preliminary (part 0)
    and positions-within m d.final (part 1)
    and (ap all_within (boxes-stand m d.placings) ∙ part 2)
    and (ap (λ (n : ℕ). leb n max_listed) (length-map d.placings (placing_by m)) ∙ part 3)
    and (ap (λ (n : ℕ). leb n max_listed) (boxes-many m d.placings) ∙ part 4)

-- ---- the line of a vertex: it has the vertex's number, its positions and the height of its level
module _ {p : PlanData} {m : List ℕ} (o : Own p m) where
  position-by : (xs : List ℤ) (v : ℕ) → v < vertex_count p → position_of (positions_by m xs) (get_or m v 0) ≡ position_of xs v
  position-by xs v h =
      let n = vertex_count p in
      let k = o.once.below v h in
      map-get_or (position_of xs) (inverse m) (get_or m v 0) 0 (pos 0) (omega (arith, inverse-long n m o.once))
      ∙ ap (position_of xs) (inverse-at n m o.once (get_or m v 0) k ∙ new-old n m o.once v h)

  pub at-line-by : (d : Drawing) (v : ℕ) → v < vertex_count p
      → at_line_of p (in_numbers m d) (get_or m v 0) ≡ at_line (get_or m v 0) (position_of d.preliminary v) (position_of d.final v) (height_of p (level_of p v))
  unfolding at_line_of
  at-line-by d v h = rw (position-by d.preliminary v h, position-by d.final v h, o.level v h)

-- ---- the numbers themselves
all-stays : {A : Type 0} (f : A → A) {xs : List A} → All (λ x. f x ≡ x) xs → map f xs ≡ xs
all-stays f all_nil = refl
all-stays f (all_cons e es) = rw (e, all-stays f es)

module _ (n : ℕ) where
  numbers-inverse : inverse (numbers 0 n) ≡ numbers 0 n
  unfolding inverse
  numbers-inverse = rw (length-numbers 0 n) (map-stays (place_in (numbers 0 n)) (numbers 0 n) (λ v k. place-number n v (omega (arith, numbers-mem 0 n v k))))

  positions-same : (xs : List ℤ) → length xs ≡ n → positions_by (numbers 0 n) xs ≡ xs
  positions-same xs e = ap (map (position_of xs)) numbers-inverse ∙ map_at xs (pos 0) n e

  box-same : (b : BoxAt) → b.vertex < n → box_by (numbers 0 n) b ≡ b
  box-same b h = rw (get-numbers 0 n b.vertex 0 h, zero-add b.vertex)

  placing-same : (q : Placing) → All (λ (b : BoxAt). b.vertex < n) q.boxes → placing_by (numbers 0 n) q ≡ q
  placing-same q h = rw (all-stays (box_by (numbers 0 n)) (all_map box-same h))

  pub numbers-same : (d : Drawing) → length d.preliminary ≡ n → length d.final ≡ n
      → All (λ (q : Placing). All (λ (b : BoxAt). b.vertex < n) q.boxes) d.placings → in_numbers (numbers 0 n) d ≡ d
  numbers-same d e f h =
      rw (positions-same d.preliminary e, positions-same d.final f, all-stays (placing_by (numbers 0 n)) (all_map placing-same h))
