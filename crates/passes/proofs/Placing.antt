-- Placing one run of the plan where the invariant holds: the run is possible, what place-run gives is optimal, and the invariant
-- holds again, of an open run with equality. Assumes nothing.
use mathlib.Core.Path.{◌≡◌, sym, ◌∙◌, ap, subst}
use mathlib.Core.Bool.{true}
use mathlib.Core.List.{List, [], ◌∷◌, ◌++◌, map, map-append}
use mathlib.Core.Option.{Option}
use Prim.Native.Nat.{ℕ, suc, ◌+◌, ◌-◌, ◌≤◌, ◌<◌}
use native.Mathlib.Omega.{arith}
use lib.Dec.{eqb}
use borrow.Author.Tests.{eq-eqb, eqb-true}
use lib.ListN.{length, get_or, length-map}
use lib.IntN.{ℤ, ◌-ℤ◌}
use Rattle.ints.specs.Ints.{P}
use Rattle.ints.proofs.Laws.{dif, apart, cases, if-ind}
use Rattle.ints.proofs.Tests.{and_left, and_right, ◌and◌}
use Rattle.run.specs.Words.{Optimal}
use Rattle.run.proofs.Optimal.{place-run-optimal, place-run-length}
use Rattle.plan.specs.Plan.{PlanData, vertex_count}
use Rattle.ints.specs.Lists.{sum}
use Rattle.passes.specs.Runs.{Run, members, as_list, is_open}
use Rattle.passes.specs.State.{State, position_of, put, take_on, doubled}
use Rattle.passes.specs.Passes.{bound_at, distance_from, boxes_at, placed, after}
use Rattle.passes.specs.Words.{far_apart}
use Rattle.plan.proofs.All.{All}
use Rattle.plan.proofs.Levels.{length-numbers, all-numbers, level-on, Side}
use Rattle.plan.specs.inner.Levels.{On}
use Rattle.passes.proofs.Sound.{Sound}
use Rattle.passes.specs.inner.Runs.{LeftEnd, no-left, via-left, RightEnd, no-right, via-right, IsRun}
use Rattle.passes.proofs.RunsOn.{bounds, members-are}
use Rattle.passes.proofs.Put.{length-put, length-take_on, take_out, take_in}
use Rattle.passes.proofs.Spaced.{possible, in_force, Apart, far-points, points_far, placement-is, standing-is, is_placement_in, SpacedAt, length-boxes_at, put-still}
use Rattle.passes.proofs.Invariant.{Inv, near-order}

-- ---- the run's own siblings
same-level : {p : PlanData} {l v : ℕ} (u : ℕ) (s : Side p v) → v ≤ u → u ≤ suc v → 1 ≤ l → On p l u → s.level ≡ l
same-level {p} {l} u s h k o i = sym (level-on p s.level u s.one (record { from = omega (arith, s.from); to = omega (arith, s.to) })) ∙ level-on p l u o i

right_end : {p : PlanData} {o : Option ℕ} {past high end : ℕ} (v : ℕ) → RightEnd p end o past high → v < past → suc v < end → suc v < high
right_end v (no-right e f) h k = omega arith
right_end v (via-right e f g t) h k = omega arith

left_end : {p : PlanData} {o : Option ℕ} {low first begin : ℕ} (v : ℕ) → LeftEnd p begin o low first → first ≤ suc v → begin ≤ v → low ≤ v
left_end v (no-left e f) h k = omega arith
left_end v (via-left e f g t) h k = omega arith

module _ {p : PlanData} {r : Run} (i : IsRun p r) where
  pub side-of : (v : ℕ) → i.low ≤ v → suc v < i.high → Side p v
  side-of v h k = let b = bounds i in record { level = r.level; one = i.one; from = omega arith; to = omega arith }

  -- a box and its sibling are both members
  pub box-right : (v : ℕ) → Side p v → i.low ≤ v → v < i.first + i.count → suc v < i.high
  box-right v s h k = let b = bounds i in let e = same-level v s (omega arith) (omega arith) i.one (record { from = omega arith; to = omega arith }) in
      right_end v i.ends k (rw e at s.to)

  pub box-left : (v : ℕ) → Side p v → i.first ≤ suc v → suc v < i.first + i.count → i.low ≤ v
  box-left v s h k = let b = bounds i in let e = same-level (suc v) s (omega arith) (omega arith) i.one (record { from = omega arith; to = omega arith }) in
      left_end v i.begins h (rw e at s.from)

  pub boxes-within : All (λ v. v < sum p.sizes) r.boxes
  boxes-within = rw i.boxes (all-numbers i.first i.count (λ w h k. omega (arith, (bounds i).right, (bounds i).all)))

  pub boxes-length : length r.boxes ≡ i.count
  boxes-length = ap length i.boxes ∙ length-numbers i.first i.count

-- ---- placing it
module _ {p : PlanData} (so : Sound p) {s : State} (inv : Inv p s) {r : Run} (i : IsRun p r) where
  -- members stand so far apart, where the boxes are put at ys
  pub placement-points : (q : ℕ) (ys : List ℤ)
      → is_placement_in p q s r ys ≡ true → (length ys ≡ i.count) × SpacedAt i s ys
  placement-points q ys e = let f = sym (placement-is i q s ys) ∙ e in let l = eqb-true (length ys) (length r.boxes) (and_left _ _ f) ∙ boxes-length i in let b = bounds i in
      let h : i.high ≤ length s.at = omega (arith, so.total, inv.at_length, b.all) in
      let g = and_right (eqb (length ys) (length r.boxes)) _ f in
      let k : far_apart (in_force s.apart (members r)) (map (position_of (put r.boxes ys s.at)) (members r)) ≡ true = rw (standing-is i s.at ys h l) at g in
      (l, λ v m n. far-points (position_of (put r.boxes ys s.at)) s.apart i.low (i.high - i.low) (rw (members-are i) at k) v m (omega arith))

  -- where it stands is a placement
  pub stands : (q : ℕ) → is_placement_in p q s r (map (position_of s.at) r.boxes) ≡ true
  stands q = let b = bounds i in let f = position_of s.at in
      placement-is i q s (map f r.boxes) ∙ ◌and◌ (eq-eqb _ _ (length-map r.boxes f))
      (ap (far_apart (in_force s.apart (members r))) (sym (map-append f (as_list r.left ++ r.boxes) (as_list r.right) ∙ ap (λ (l : List ℤ). l ++ map f (as_list r.right)) (map-append f (as_list r.left) r.boxes)))
      ∙ rw (members-are i) (points_far f s.apart i.low (i.high - i.low) (λ v h k. inv.spaced v (side-of i v h (omega arith)))))

  pub placed-optimal : (q : ℕ) → Optimal (bound_at s.at r.left) (distance_from s.apart r.left) (boxes_at p q s r.boxes) (bound_at s.at r.right) (placed p q s r)
  unfolding placed
  placed-optimal q = place-run-optimal (bound_at s.at r.left) (distance_from s.apart r.left) (boxes_at p q s r.boxes) (bound_at s.at r.right)
      (near-order inv so q (subst (λ n. All (λ v. v < n) r.boxes) so.total (boxes-within i)))
      (possible (bound_at s.at r.left) (distance_from s.apart r.left) (boxes_at p q s r.boxes) (bound_at s.at r.right) (map (position_of s.at) r.boxes) (stands q))

pub placed-length : {p : PlanData} (q : ℕ) (s : State) {r : Run} (i : IsRun p r) → length (placed p q s r) ≡ i.count
unfolding placed
placed-length {p} q s {r} i = place-run-length (bound_at s.at r.left) (distance_from s.apart r.left) (boxes_at p q s r.boxes) (bound_at s.at r.right)
    ∙ length-boxes_at p q s r.boxes ∙ boxes-length i

-- ---- the invariant afterwards
module _ {p : PlanData} (so : Sound p) {s : State} (inv : Inv p s) {r : Run} (i : IsRun p r) (ys : List ℤ) (l : length ys ≡ i.count) (far : SpacedAt i s ys) where
  now : List ℤ
  now = put r.boxes ys s.at

  outside : (v : ℕ) → Side p v → (i.low ≤ v → suc v < i.high → ⊥) → Apart (position_of now) s.apart v
  unfolding now
  outside v d h =
      let e = put-still i ys s.at v (λ j k. h (omega (arith, (bounds i).left)) (box-right i v d (omega (arith, (bounds i).left)) k)) in
      let f = put-still i ys s.at (suc v) (λ j k. h (box-left i v d j k) (omega (arith, (bounds i).right))) in
      rw (e, f) (inv.spaced v d)

  taken : List ℕ
  taken = take_on now (members r) s.apart

  taken_in : (v : ℕ) → i.low ≤ v → suc v < i.high → get_or taken v 0 ≡ P (position_of now (suc v) -ℤ position_of now v)
  unfolding taken
  taken_in v h k = rw (members-are i) (take_in now i.low (i.high - i.low) s.apart v h (omega arith) (omega (arith, inv.apart_length, so.total, (bounds i).all)))

  taken_out : (v : ℕ) → (i.low ≤ v → suc v < i.high → ⊥) → get_or taken v 0 ≡ get_or s.apart v 0
  unfolding taken
  taken_out v h = rw (members-are i) (take_out now i.low (i.high - i.low) s.apart v (λ j k. h j (omega arith)))

  spaced-now : (v : ℕ) → Side p v → Apart (position_of now) s.apart v
  unfolding now
  spaced-now v d = cases i.low v (λ h. cases (suc (suc v)) i.high (λ k. far v h k) (λ k. outside v d (λ x y. absurd (omega arith)))) (λ h. outside v d (λ x y. absurd (omega arith)))

  -- an open run has the distances that it takes on
  spaced-taken : (v : ℕ) → Side p v → Apart (position_of now) taken v × (doubled p v (suc v) ≤ get_or taken v 0)
  spaced-taken v d = let f = spaced-now v d in let w = inv.wide v d in
      let out : (i.low ≤ v → suc v < i.high → ⊥) → Apart (position_of now) taken v × (doubled p v (suc v) ≤ get_or taken v 0) = λ h. let e = taken_out v h in (omega arith, omega arith) in
      cases i.low v
      (λ h. cases (suc (suc v)) i.high (λ k. let e = taken_in v h k in (
        omega (arith, dif (position_of now (suc v)) (position_of now v), apart (position_of now (suc v) -ℤ position_of now v)),
        omega (arith, dif (position_of now (suc v)) (position_of now v)),
      ))
      (λ k. out (λ x y. absurd (omega arith)))) (λ h. out (λ x y. absurd (omega arith)))

  pub keeps : (q : ℕ) → Inv p (after q r ys s)
  unfolding after now taken
  keeps q = let e : length now ≡ vertex_count p = length-put r.boxes ys s.at ∙ inv.at_length in
      if-ind (is_open r) taken s.apart (λ ds. Inv p (record { at = now; apart = ds; trace = s.trace ++ (record { pass = q; level = r.level; ordinal = r.ordinal; positions = ys } ∷ []) }))
      (λ t. record { at_length = e; apart_length = length-take_on now (members r) s.apart ∙ inv.apart_length; spaced = λ v d. (spaced-taken v d).0; wide = λ v d. (spaced-taken v d).1 })
      (λ t. record { at_length = e; apart_length = inv.apart_length; spaced = spaced-now; wide = inv.wide })

pub place-keeps : {p : PlanData} → Sound p → {s : State} → Inv p s → (q : ℕ) {r : Run} → IsRun p r → Inv p (after q r (placed p q s r) s)
place-keeps {p} so {s} inv q {r} i = let o = placement-points so inv i q (placed p q s r) (placed-optimal so inv i q).placement in keeps so inv i (placed p q s r) o.0 o.1 q
