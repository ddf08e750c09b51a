-- Preliminary positions of a plan that passes the checks: there is one for each vertex, strands stand where their left siblings
-- ask, siblings keep their order and their distance, inner segments are upright, and every position is small. Assumes nothing.
use mathlib.Core.Path.{◌≡◌, refl, sym, ◌∙◌, ap}
use mathlib.Core.Bool.{Bool, true}
use mathlib.Core.List.{List, [], ◌∷◌, map, reverse}
use Prim.Native.Nat.{ℕ, zero, suc, ◌+◌, ◌*◌, ◌^◌, ◌≤◌, ◌<◌}
use native.Mathlib.Omega.{arith}
use lib.ListN.{length, get_or, length-map, get_or-map, get_or-eq_default}
use lib.IntN.{ℤ, pos, neg_ℤ, ◌+ℤ◌, ◌-ℤ◌}
use lib.Signed.{le_z}
use Rattle.ints.specs.Ints.{P, N, size}
use Rattle.ints.proofs.Laws.{sum, dif, apart, neg-P, neg-N, cases, make-le-true}
use Rattle.plan.specs.Plan.{PlanData, vertex_count, distance, Siblings, numbers, levels_of, siblings_of}
use Rattle.plan.specs.Segments.{Segment, inner_segments}
use Rattle.plan.specs.Checks.{every}
use Rattle.plan.specs.Acceptable.{acceptable}
use Rattle.ints.specs.inner.Members.{Mem}
use Rattle.plan.proofs.Sound.{Sound, sound, every-make}
use Rattle.preliminary.specs.Classes.{classes_of}
use Rattle.preliminary.specs.Place.{placed_strands}
use Rattle.preliminary.specs.Shift.{class_at, place_at, shift_each}
use Rattle.preliminary.specs.Positions.{positions_on, left_positions, right_positions, sums, preliminary}
use Rattle.preliminary.proofs.Strands.{top_of, strand_at, low, link, link-top}
use Rattle.preliminary.proofs.Rows.{Order, Rows, Adjacent, pair, sibling-adjacent, adjacent-sibling, left_is, left-asked, levels-plain, levels-mirrored, order-plain, order-mirrored, adjacent-mirrored, mirror}
use Rattle.preliminary.proofs.Classes.{Classes, classes-hold}
use Rattle.preliminary.proofs.Rank.{ranks}
use Rattle.preliminary.proofs.Placed.{greatest_asked, placed_by, Stood, stood, any_order}
use Rattle.preliminary.proofs.Shifted.{Clear, Spaced, spaced-all}
use Rattle.preliminary.proofs.Sizes.{Bounded, bounded-all}

-- ---- one side, on levels in either order
-- the class of each vertex, and where each stands before the classes are shifted
abbrev pub classes_in : PlanData → List (List ℕ) → List ℕ
classes_in p levels = classes_of (strand_at p) (vertex_count p) levels

abbrev pub placed_in : PlanData → List (List ℕ) → List ℕ
placed_in p levels = placed_strands p (strand_at p) (siblings_of levels) (classes_in p levels)

stood-in : (p : PlanData) → Sound p → (key : ℕ → ℕ) → Order p key → (levels : List (List ℕ)) → Rows p key 1 levels → Stood p (siblings_of levels) (classes_in p levels) (placed_in p levels)
stood-in p S key O levels rows = stood p key (ranks p S key O levels rows) (siblings_of levels) (classes_in p levels) S (λ s m. sibling-adjacent p key s rows m)

-- "A strand stands at the greatest (sibling + distance) over those, 0 if there are none": of every vertex.
abbrev pub AtGreatest : PlanData → List (List ℕ) → Type 0
AtGreatest p levels = (v : ℕ) → v < vertex_count p → get_or (placed_in p levels) v 0 ≡ greatest_asked p (siblings_of levels) (classes_in p levels) (placed_in p levels) (strand_at p v)

pub record Side (p : PlanData) (key : ℕ → ℕ) (xs : List ℤ) : Type 0 where
  pub long : length xs ≡ vertex_count p
  pub strands : (v w : ℕ) → v < vertex_count p → w < vertex_count p → top_of p v ≡ top_of p w → place_at xs v ≡ place_at xs w
  pub spaced : (u v : ℕ) → Adjacent p key u v → Clear (place_at xs u) (place_at xs v) (distance p u v)
  pub right : (v : ℕ) → v < vertex_count p → P (place_at xs v) ≤ 33312000
  pub left : (v : ℕ) → v < vertex_count p → N (place_at xs v) ≤ 33312000

pub side : (p : PlanData) → Sound p → (key : ℕ → ℕ) → Order p key → (levels : List (List ℕ)) → Rows p key 1 levels → Side p key (positions_on p levels)
unfolding positions_on
side p S key O levels rows = record {
  long = shifted.long;
  strands = shifted.strands;
  spaced = λ u v a. shifted.apart (pair u v) (adjacent-sibling p key O u v a (low p S v) rows) (omega (arith, C.most u a.left_in));
  right = λ v h. omega (arith, bounded.right v h, S.limits.levels_high);
  left = λ v h. omega (arith, bounded.left v h, S.limits.levels_high);
}
  where
    ss : List Siblings
    ss = siblings_of levels

    cs : List ℕ
    cs = classes_in p levels

    C : Classes p key cs
    C = classes-hold p S key O levels rows

    adjacent : (s : Siblings) → Mem s ss → Adjacent p key s.left s.right
    adjacent s m = sibling-adjacent p key s rows m

    inside : (s : Siblings) → Mem s ss → (s.left < vertex_count p) × (s.right < vertex_count p)
    inside s m = ((adjacent s m).left_in, (adjacent s m).right_in)

    placed : List ℕ
    placed = placed_in p levels

    T : Stood p ss cs placed
    T = stood-in p S key O levels rows

    at : (v : ℕ) → place_at (map pos placed) v ≡ pos (get_or placed v 0)
    at v = get_or-map pos placed v 0

    clear : (s : Siblings) → Mem s ss → class_at cs s.left ≡ class_at cs s.right → Clear (place_at (map pos placed) s.left) (place_at (map pos placed) s.right) (distance p s.left s.right)
    clear s m e = rw (at s.left, at s.right) (omega (
      arith,
      T.spaced s.left s.right (adjacent s m).right_in
          (left-asked ss cs s.left s.right (left_is p key O ss adjacent s.left s.right m) e),
    ))

    first : Spaced p ss cs 1 (map pos placed)
    first = record {
      long = length-map placed pos ∙ T.long;
      strands = λ v w h k t. at v ∙ ap pos (T.strands v w h k t) ∙ sym (at w);
      same = clear;
      apart = λ s m h. absurd (omega (arith, C.least s.left (inside s m).0));
    }

    shifted : Spaced p ss cs (1 + p.levels) (shift_each p ss cs (numbers 1 p.levels) (map pos placed))
    shifted = spaced-all p ss cs C.long C.strands inside (λ s m. let a = adjacent s m in C.falls s.left s.right a.left_in a.right_in a.level a.before) 1 p.levels (map pos placed) first

    narrow : Bounded p cs 1 512000 (map pos placed)
    narrow = record {
      long = length-map placed pos ∙ T.long;
      right = λ v h. rw (at v) (T.size v h);
      left = λ v h. rw (at v) (omega arith);
      unmoved = λ v h k. rw (at v) (T.size v h, refl);
    }

    bounded : Bounded p cs (1 + p.levels) (512000 + p.levels * 512500) (shift_each p ss cs (numbers 1 p.levels) (map pos placed))
    bounded = bounded-all p S ss cs C.long inside 1 p.levels 512000 (map pos placed) narrow

-- ---- x₋, x₊ and their sum
neg-at : (xs : List ℤ) (v : ℕ) → place_at (map neg_ℤ xs) v ≡ neg_ℤ (place_at xs v)
neg-at xs v = get_or-map neg_ℤ xs v (pos 0)

sums-long : (xs ys : List ℤ) → length xs ≡ length ys → length (sums xs ys) ≡ length xs
unfolding sums
sums-long [] ys e = refl
sums-long (x ∷ xs) [] e = omega arith
sums-long (x ∷ xs) (y ∷ ys) e = ap suc (sums-long xs ys (omega arith))

sums_at : (xs ys : List ℤ) (v : ℕ) → v < length xs → v < length ys → place_at (sums xs ys) v ≡ place_at xs v +ℤ place_at ys v
unfolding sums
sums_at [] ys v h k = absurd (omega arith)
sums_at (x ∷ xs) [] v h k = absurd (omega arith)
sums_at (x ∷ xs) (y ∷ ys) zero h k = refl
sums_at (x ∷ xs) (y ∷ ys) (suc v) h k = sums_at xs ys v (omega arith) (omega arith)

-- a bound for the vertices holds of every number: past the end 0 is read
everywhere : (p : PlanData) (xs : List ℤ) (m : ℕ) → length xs ≡ vertex_count p → ((v : ℕ) → v < vertex_count p → size (place_at xs v) < suc m) → (v : ℕ) → size (place_at xs v) < suc m
everywhere p xs m e f v = cases (vertex_count p) v (λ h. rw (get_or-eq_default xs (pos 0) {n = v} (omega arith)) (omega arith)) (λ h. f v h)

abbrev pub at_least : ℕ → List ℤ → Siblings → Bool
at_least d xs s = le_z (pos d) (place_at xs s.right -ℤ place_at xs s.left)

clear-least : (d : ℕ) (xs : List ℤ) (s : Siblings) → Clear (place_at xs s.left) (place_at xs s.right) d → at_least d xs s ≡ true
clear-least d xs s h = make-le-true (pos d) (place_at xs s.right -ℤ place_at xs s.left) (omega (arith, dif (place_at xs s.right) (place_at xs s.left)))

module _ (p : PlanData) (ok : acceptable p ≡ true) where
  S : Sound p
  S = sound p ok

  -- ---- where strands stand before the classes are shifted, for x₋ and for x₊
  pub left-greatest : AtGreatest p (levels_of p)
  left-greatest = (stood-in p S (λ v. v) (order-plain p S) (levels_of p) (levels-plain p S)).greatest

  pub right-greatest : AtGreatest p (map reverse (levels_of p))
  right-greatest = (stood-in p S (mirror p) (order-mirrored p S) (map reverse (levels_of p)) (levels-mirrored p S)).greatest

  -- and in whatever order they are placed, if every vertex has its turn
  module _ (cs vs : List ℕ) (inside : (v : ℕ) → Mem v vs → v < vertex_count p) (all : (v : ℕ) → v < vertex_count p → Mem v vs) where
    any-on : (key : ℕ → ℕ) → Order p key → (levels : List (List ℕ)) → Rows p key 1 levels → placed_by p (siblings_of levels) cs vs ≡ placed_strands p (strand_at p) (siblings_of levels) cs
    any-on key O levels rows = any_order p key (ranks p S key O levels rows) (siblings_of levels) cs S (λ s m. sibling-adjacent p key s rows m) vs inside all

    pub left-any-order : placed_by p (siblings_of (levels_of p)) cs vs ≡ placed_strands p (strand_at p) (siblings_of (levels_of p)) cs
    left-any-order = any-on (λ v. v) (order-plain p S) (levels_of p) (levels-plain p S)

    pub right-any-order : placed_by p (siblings_of (map reverse (levels_of p))) cs vs ≡ placed_strands p (strand_at p) (siblings_of (map reverse (levels_of p))) cs
    right-any-order = any-on (mirror p) (order-mirrored p S) (map reverse (levels_of p)) (levels-mirrored p S)

  left-side : Side p (λ v. v) (left_positions p)
  unfolding left_positions
  left-side = side p S (λ v. v) (order-plain p S) (levels_of p) (levels-plain p S)

  reversed : List ℤ
  reversed = positions_on p (map reverse (levels_of p))

  mirror-side : Side p (mirror p) reversed
  unfolding reversed
  mirror-side = side p S (mirror p) (order-mirrored p S) (map reverse (levels_of p)) (levels-mirrored p S)

  right-at : (v : ℕ) → place_at (right_positions p) v ≡ neg_ℤ (place_at reversed v)
  unfolding right_positions reversed
  right-at v = neg-at reversed v

  -- as many as there are vertices
  pub left-length : length (left_positions p) ≡ vertex_count p
  left-length = left-side.long

  pub right-length : length (right_positions p) ≡ vertex_count p
  unfolding right_positions reversed
  right-length = length-map reversed neg_ℤ ∙ mirror-side.long

  pub preliminary-length : length (preliminary p) ≡ vertex_count p
  unfolding preliminary
  preliminary-length = sums-long (left_positions p) (right_positions p) (left-length ∙ sym right-length) ∙ left-length

  at : (v : ℕ) → v < vertex_count p → place_at (preliminary p) v ≡ place_at (left_positions p) v +ℤ neg_ℤ (place_at reversed v)
  unfolding preliminary
  at v h = sums_at (left_positions p) (right_positions p) v (omega (arith, left-length)) (omega (arith, right-length)) ∙ ap (λ (z : ℤ). place_at (left_positions p) v +ℤ z) (right-at v)

  -- ---- order and distances
  siblings : (s : Siblings) → Mem s (siblings_of (levels_of p)) → Adjacent p (λ v. v) s.left s.right
  siblings s m = sibling-adjacent p (λ v. v) s (levels-plain p S) m

  pub left-clear : (s : Siblings) → Mem s (siblings_of (levels_of p)) → Clear (place_at (left_positions p) s.left) (place_at (left_positions p) s.right) (distance p s.left s.right)
  left-clear s m = left-side.spaced s.left s.right (siblings s m)

  mirror-clear : (s : Siblings) → Mem s (siblings_of (levels_of p)) → Clear (place_at reversed s.right) (place_at reversed s.left) (distance p s.right s.left)
  mirror-clear s m = mirror-side.spaced s.right s.left (adjacent-mirrored p s.left s.right (siblings s m))

  pub right-clear : (s : Siblings) → Mem s (siblings_of (levels_of p)) → Clear (place_at (right_positions p) s.left) (place_at (right_positions p) s.right) (distance p s.left s.right)
  right-clear s m = let a = place_at reversed s.left in let b = place_at reversed s.right in
      rw (right-at s.left, right-at s.right) (omega (arith, mirror-clear s m, neg-P a, neg-N a, neg-P b, neg-N b))

  pub preliminary-clear : (s : Siblings) → Mem s (siblings_of (levels_of p)) → Clear (place_at (preliminary p) s.left) (place_at (preliminary p) s.right) (2 * distance p s.left s.right)
  preliminary-clear s m =
      let c = place_at reversed s.left in let d = place_at reversed s.right in let i = siblings s m in
      rw (at s.left i.left_in, at s.right i.right_in) (omega (
        arith,
        left-clear s m,
        mirror-clear s m,
        neg-P c,
        neg-N c,
        neg-P d,
        neg-N d,
        sum (place_at (left_positions p) s.left) (neg_ℤ c),
        sum (place_at (left_positions p) s.right) (neg_ℤ d),
      ))

  pub left-spaced : every (λ s. at_least (distance p s.left s.right) (left_positions p) s) (siblings_of (levels_of p)) ≡ true
  left-spaced = every-make (λ s. at_least (distance p s.left s.right) (left_positions p) s) (siblings_of (levels_of p))
      (λ s m. clear-least (distance p s.left s.right) (left_positions p) s (left-clear s m))

  pub right-spaced : every (λ s. at_least (distance p s.left s.right) (right_positions p) s) (siblings_of (levels_of p)) ≡ true
  right-spaced = every-make (λ s. at_least (distance p s.left s.right) (right_positions p) s) (siblings_of (levels_of p))
      (λ s m. clear-least (distance p s.left s.right) (right_positions p) s (right-clear s m))

  pub preliminary-spaced : every (λ s. at_least (2 * distance p s.left s.right) (preliminary p) s) (siblings_of (levels_of p)) ≡ true
  preliminary-spaced = every-make (λ s. at_least (2 * distance p s.left s.right) (preliminary p) s) (siblings_of (levels_of p))
      (λ s m. clear-least (2 * distance p s.left s.right) (preliminary p) s (preliminary-clear s m))

  -- ---- inner segments are upright
  record Inner (s : Segment) : Type 0 where
    pub upper_in : s.upper < vertex_count p
    pub lower_in : s.lower < vertex_count p
    pub one_top : top_of p s.upper ≡ top_of p s.lower

  inner : (s : Segment) → Mem s (inner_segments p) → Inner s
  inner s m = let l = link p S s.upper s.lower (record { segment = s; listed = m; above_is = refl; below_is = refl }) in
      record { upper_in = l.upper_in; lower_in = l.lower_in; one_top = sym (link-top p S s.upper s.lower l) }

  pub left-upright : (s : Segment) → Mem s (inner_segments p) → place_at (left_positions p) s.upper ≡ place_at (left_positions p) s.lower
  left-upright s m = let i = inner s m in left-side.strands s.upper s.lower i.upper_in i.lower_in i.one_top

  mirror-upright : (s : Segment) → Mem s (inner_segments p) → place_at reversed s.upper ≡ place_at reversed s.lower
  mirror-upright s m = let i = inner s m in mirror-side.strands s.upper s.lower i.upper_in i.lower_in i.one_top

  pub right-upright : (s : Segment) → Mem s (inner_segments p) → place_at (right_positions p) s.upper ≡ place_at (right_positions p) s.lower
  right-upright s m = right-at s.upper ∙ ap neg_ℤ (mirror-upright s m) ∙ sym (right-at s.lower)

  pub preliminary-upright : (s : Segment) → Mem s (inner_segments p) → place_at (preliminary p) s.upper ≡ place_at (preliminary p) s.lower
  preliminary-upright s m = let i = inner s m in
      at s.upper i.upper_in ∙ rw (left-upright s m, mirror-upright s m) (sym (at s.lower i.lower_in))

  -- ---- sizes
  pub left-size : (v : ℕ) → size (place_at (left_positions p) v) < 2 ^ 25
  left-size = everywhere p (left_positions p) 33554431 left-length (λ v h. omega (arith, left-side.right v h, left-side.left v h, apart (place_at (left_positions p) v)))

  pub right-size : (v : ℕ) → size (place_at (right_positions p) v) < 2 ^ 25
  right-size = everywhere p (right_positions p) 33554431 right-length (λ v h. let a = place_at reversed v in
      rw (right-at v) (omega (arith, mirror-side.right v h, mirror-side.left v h, neg-P a, neg-N a, apart a)))

  pub preliminary-size : (v : ℕ) → size (place_at (preliminary p) v) < 2 ^ 26
  preliminary-size = everywhere p (preliminary p) 67108863 preliminary-length (λ v h.
      let a = place_at (left_positions p) v in let b = place_at reversed v in
      rw (at v h) (omega (arith, left-side.right v h, left-side.left v h, mirror-side.right v h, mirror-side.left v h, neg-P b, neg-N b, sum a (neg_ℤ b), apart (a +ℤ neg_ℤ b))))
