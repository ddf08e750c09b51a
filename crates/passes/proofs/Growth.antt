-- How far one placing of the passes can go: a bounded run stays between its vias, an open one adds at most the sum of its distances.
-- Assumes nothing.
use mathlib.Core.Path.{◌≡◌, refl, sym, ◌∙◌, ap, subst}
use mathlib.Core.Bool.{true}
use mathlib.Core.List.{List, [], ◌∷◌, map}
use mathlib.Core.Option.{Option, none, some}
use Prim.Native.Nat.{ℕ, zero, suc, ◌+◌, ◌-◌, ◌≤◌, ◌<◌}
use native.Mathlib.Omega.{arith}
use lib.ListN.{length, get_or}
use lib.IntN.{ℤ, pos}
use Rattle.ints.proofs.Laws.{apart, cases, if-ind}
use Rattle.run.specs.Run.{at, lead_positions, leads_of, span}
use Rattle.plan.specs.Plan.{PlanData, numbers}
use Rattle.passes.specs.Runs.{Run, is_bounded}
use Rattle.passes.specs.State.{State, position_of, put}
use Rattle.passes.specs.Ready.{preceding, preceding_ratings}
use Rattle.passes.specs.Passes.{bound_at, distance_from, boxes_at, placed, after, is_due, visit}
use Rattle.plan.proofs.All.{All, all_nil, all_cons, all_map, all_append, all-get, all-of-get}
use Rattle.passes.proofs.Sound.{Sound}
use Rattle.passes.specs.inner.Runs.{LeftEnd, no-left, via-left, IsRun}
use Rattle.passes.proofs.RunsOn.{bounds}
use Rattle.passes.proofs.Put.{put_in}
use Rattle.passes.proofs.Spaced.{possible, put-still}
use Rattle.passes.proofs.Invariant.{Inv, near-order}
use Rattle.passes.proofs.Placing.{placement-points, placed-optimal, placed-length, stands, boxes-within}
use Rattle.passes.proofs.Edges.{bounded-ends, right-of-left, left-of-right}
use Rattle.passes.proofs.Reach.{Lies, lies_more, LiesBound, BoxLies, run-reach}

-- every position within ±M, those in the trace too
pub record LiesAt (M : ℕ) (s : State) : Type 0 where
  pub at : (v : ℕ) → Lies M M (position_of s.at v)
  pub steps : All (λ t. All (Lies M M) t.positions) s.trace

pub lies-at-more : {M : ℕ} (M' : ℕ) → M ≤ M' → {s : State} → LiesAt M s → LiesAt M' s
lies-at-more M' h {s} l = record {
  at = λ v. lies_more M' M' h h (position_of s.at v) (l.at v);
  steps = all_map (λ t k. all_map (λ z j. lies_more M' M' h h z j) k) l.steps;
}

-- ---- a placing writes such positions
module _ {p : PlanData} (so : Sound p) {s : State} (inv : Inv p s) {r : Run} (i : IsRun p r) (q : ℕ) where
  in-boxes : (v : ℕ) → (ys : List ℤ) → length ys ≡ i.count → i.first ≤ v → v < i.first + i.count → position_of (put r.boxes ys s.at) v ≡ get_or ys (v - i.first) (pos 0)
  in-boxes v ys e h k = let z : v ≡ i.first + (v - i.first) = omega arith in
      ap (λ bs. position_of (put bs ys s.at) v) i.boxes ∙ ap (position_of (put (numbers i.first i.count) ys s.at)) z
      ∙ put_in i.first i.count ys s.at (v - i.first) (omega (arith, inv.at_length, so.total, (bounds i).all, (bounds i).right)) e (omega arith)

  pub lies-after : (M : ℕ) → LiesAt M s → All (Lies M M) (placed p q s r) → LiesAt M (after q r (placed p q s r) s)
  unfolding after
  lies-after M l k = record { at = at; steps = all_append l.steps (all_cons k all_nil) }
    where
      outside : (v : ℕ) → (i.first ≤ v → v < i.first + i.count → ⊥) → Lies M M (position_of (put r.boxes (placed p q s r) s.at) v)
      outside v h = subst (Lies M M) (sym (put-still i (placed p q s r) s.at v h)) (l.at v)

      at : (v : ℕ) → Lies M M (position_of (put r.boxes (placed p q s r) s.at) v)
      at v = cases i.first v (λ h. cases (suc v) (i.first + i.count)
          (λ j. subst (Lies M M) (sym (in-boxes v (placed p q s r) (placed-length q s i) h j)) (all-get (placed p q s r) (pos 0) k (v - i.first) (omega (arith, placed-length q s i))))
          (λ j. outside v (λ x y. absurd (omega arith)))) (λ h. outside v (λ x y. absurd (omega arith)))

  -- ---- a bounded run: between its vias
  pub bounded-lies : (M : ℕ) → LiesAt M s → is_bounded r ≡ true → All (Lies M M) (placed p q s r)
  bounded-lies M l b = let ys = placed p q s r in let e = bounded-ends r b in let o = placement-points so inv i q ys (placed-optimal so inv i q).placement in
      all-of-get ys (pos 0) (λ k h. let v = i.first + k in let g : v - i.first ≡ k = omega arith in
      let j : v < i.first + i.count = omega (arith, o.0) in
      let x = position_of (put r.boxes ys s.at) v in
      let lo = right-of-left i s ys o.1 e.left e.left_is v (omega arith) j in let hi = left-of-right i s ys o.1 e.right e.right_is v (omega arith) j in
      let z : x ≡ get_or ys k (pos 0) = in-boxes v ys o.0 (omega arith) j ∙ ap (λ n. get_or ys n (pos 0)) g in
      subst (Lies M M) z (record { right = omega (arith, apart x, (l.at e.right).right); left = omega (arith, apart x, (l.at e.left).left) }))

-- ---- an open run: the sum of its distances
unfoldable pub total : List ℕ → ℕ → ℕ → ℕ
total ds a zero = 0
total ds a (suc n) = get_or ds a 0 + total ds (a + 1) n

span-total : (p : PlanData) (q : ℕ) (s : State) (a n : ℕ) → span (boxes_at p q s (numbers a n)) ≡ total s.apart a n
unfolding span boxes_at numbers total
span-total p q s a zero = refl
span-total p q s a (suc n) = omega (arith, span-total p q s (a + 1) n)

left-total : {p : PlanData} {b : ℕ} {o : Option ℕ} {low first : ℕ} (ds : List ℕ) (n : ℕ) → LeftEnd p b o low first → distance_from ds o + total ds first n ≡ total ds low (first - low + n)
unfolding total
left-total ds n (no-left {low = low} {first = first} e f) = let y : first ≡ low = omega arith in let z : n ≡ first - low + n = omega arith in
    omega (arith, ap (λ a. total ds a n) y, ap (total ds low) z)
left-total ds n (via-left {v = v} {low = low} {first = first} e f g t) = let y : first ≡ v + 1 = omega arith in let z : suc n ≡ first - low + n = omega arith in
    omega (arith, ap (λ a. total ds a n) y, ap (λ a. total ds a (suc n)) e, ap (total ds low) z)

boxes-lie : (p : PlanData) (q M : ℕ) (s : State) → LiesAt M s → (vs : List ℕ) → All (BoxLies M) (boxes_at p q s vs)
unfolding boxes_at leads_of
boxes-lie p q M s l [] = all_nil
boxes-lie p q M s l (v ∷ vs) = all_cons (record { old = l.at v; near = near (preceding p q v) (preceding_ratings p q v) }) (boxes-lie p q M s l vs)
  where
    near : (ns ws : List ℕ) → All (Lies M M) (lead_positions (leads_of (map (position_of s.at) ns) ws))
    near [] ws = all_nil
    near (n ∷ ns) [] = all_nil
    near (n ∷ ns) (w ∷ ws) = all_cons (l.at n) (near ns ws)

bound-lies : (M : ℕ) (s : State) → LiesAt M s → (o : Option ℕ) → LiesBound M M (bound_at s.at o)
bound-lies M s l none = tt
bound-lies M s l (some v) = l.at v

module _ {p : PlanData} (so : Sound p) {s : State} (inv : Inv p s) {r : Run} (i : IsRun p r) (q : ℕ) where
  pub open-lies : (M : ℕ) → LiesAt M s → (T : ℕ) → total s.apart i.low (i.first - i.low + i.count) ≤ T → All (Lies (M + T) (M + T)) (placed p q s r)
  unfolding placed
  open-lies M l T h = let lb = bound_at s.at r.left in let rb = bound_at s.at r.right in let ld = distance_from s.apart r.left in let bs = boxes_at p q s r.boxes in
      let e : ld + span bs ≡ total s.apart i.low (i.first - i.low + i.count) =
      ap (λ vs. ld + span (boxes_at p q s vs)) i.boxes ∙ ap (λ n. ld + n) (span-total p q s i.first i.count) ∙ left-total s.apart i.count i.begins in
      all_map (λ z k. lies_more (M + T) (M + T) (omega arith) (omega arith) z k)
      (run-reach M lb ld bs rb (near-order inv so q (subst (λ n. All (λ v. v < n) r.boxes) so.total (boxes-within i)))
      (possible lb ld bs rb (map (position_of s.at) r.boxes) (stands so inv i q)) (bound-lies M s l r.left) (bound-lies M s l r.right) (boxes-lie p q M s l r.boxes))

-- ---- one visit
pub grow-visit : {p : PlanData} (so : Sound p) {s : State} (inv : Inv p s) {r : Run} (i : IsRun p r) (q M T : ℕ) → LiesAt M s → (is_due p q s r ≡ true → All (Lies (M + T) (M + T)) (placed p q s r)) → LiesAt (M + T) (visit p q r s)
unfolding visit
grow-visit {p} so {s} inv {r} i q M T l f = let l' = lies-at-more (M + T) (omega arith) l in
    if-ind (is_due p q s r) (after q r (placed p q s r) s) s (LiesAt (M + T)) (λ t. lies-after so inv i q (M + T) l' (f t)) (λ t. l')
