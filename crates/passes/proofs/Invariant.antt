-- What holds between two placings: each two siblings stand at least the distance in force apart, which is at least the doubled
-- distance. So positions do not fall along a level, and the neighbours of a box come in order. Assumes nothing.
use mathlib.Core.Path.{◌≡◌, refl, sym, ◌∙◌, ap, subst}
use mathlib.Core.Bool.{true}
use mathlib.Core.List.{List, ◌∷◌, map}
use Prim.Native.Nat.{ℕ, suc, ◌+◌, ◌-◌, ◌≤◌, ◌<◌}
use native.Mathlib.Omega.{arith}
use lib.ListN.{length, get_or, length-map}
use Rattle.ints.specs.Ints.{◌⊑◌}
use Rattle.ints.proofs.Laws.{make-le-true}
use Rattle.run.specs.Run.{lead_positions, leads_of, nondecreasing, neighbours_in_order}
use Rattle.run.proofs.Leads.{lead-positions}
use Rattle.ints.proofs.Tests.{◌and◌}
use Rattle.plan.specs.Plan.{PlanData, vertex_count, level_of}
use Rattle.passes.specs.State.{State, position_of, doubled}
use Rattle.passes.specs.Ready.{preceding, preceding_ratings}
use Rattle.passes.specs.Passes.{boxes_at}
use Rattle.plan.proofs.All.{All, all_nil, all_cons}
use Rattle.plan.specs.inner.Levels.{first_on, size_on, On}
use Rattle.plan.proofs.Levels.{has-level, Side}
use Rattle.passes.proofs.Sound.{Sound}
use Rattle.passes.proofs.Spaced.{Apart, climb}
use Rattle.passes.proofs.Neighbours.{Upward, up-nil, up-cons, near, preceding-rated}

pub record Inv (p : PlanData) (s : State) : Type 0 where
  pub at_length : length s.at ≡ vertex_count p
  pub apart_length : length s.apart ≡ vertex_count p
  pub spaced : (v : ℕ) → Side p v → Apart (position_of s.at) s.apart v
  pub wide : (v : ℕ) → Side p v → doubled p v (suc v) ≤ get_or s.apart v 0

-- ---- positions do not fall along a level
module _ {p : PlanData} {s : State} (inv : Inv p s) where
  pub in_order : Sound p → (v w : ℕ) → v ≤ w → w < vertex_count p → level_of p v ≡ level_of p w → position_of s.at v ⊑ position_of s.at w
  in_order so v w h k e = let t = so.total in let a = has-level p v (omega arith) in let b = has-level p w (omega arith) in
      let f : v + (w - v) ≡ w = omega arith in let o : On p (level_of p v) w = rw e b.on in
      let l = level_of p v in subst (λ u. position_of s.at v ⊑ position_of s.at u) f
      (climb (position_of s.at) s.apart (first_on p l) (first_on p l + size_on p l) (λ u h k. inv.spaced u (record { level = l; one = a.one; from = h; to = k })) v (w - v) a.on.from (omega (arith, o.to)))

  order_from : Sound p → {l lo : ℕ} {ns : List ℕ} (n : ℕ) → n < lo → level_of p n ≡ l → Upward p l lo ns → nondecreasing (map (position_of s.at) (n ∷ ns)) ≡ true
  unfolding nondecreasing
  order_from so n h e up-nil = refl
  order_from so n h e (up-cons {n = m} h' k' e' u) =
      ◌and◌ (make-le-true (position_of s.at n) (position_of s.at m) (in_order so n m (omega arith) k' (e ∙ sym e'))) (order_from so m (omega arith) e' u)

  up-order : Sound p → {l lo : ℕ} {ns : List ℕ} → Upward p l lo ns → nondecreasing (map (position_of s.at) ns) ≡ true
  unfolding nondecreasing
  up-order so up-nil = refl
  up-order so (up-cons {n = n} h k e u) = order_from so n (omega arith) e u

  -- the positions of a box's neighbours, whatever their ratings
  pub near-positions : Sound p → (q v : ℕ) → lead_positions (leads_of (map (position_of s.at) (preceding p q v)) (preceding_ratings p q v)) ≡ map (position_of s.at) (preceding p q v)
  near-positions so q v = lead-positions (map (position_of s.at) (preceding p q v)) (preceding_ratings p q v) (omega (arith, length-map (preceding p q v) (position_of s.at), preceding-rated so q v))

  pub near-order : Sound p → (q : ℕ) {vs : List ℕ} → All (λ v. v < vertex_count p) vs → neighbours_in_order (boxes_at p q s vs) ≡ true
  unfolding neighbours_in_order boxes_at
  near-order so q all_nil = refl
  near-order so q (all_cons {x = v} h hs) = ◌and◌ (ap nondecreasing (near-positions so q v) ∙ up-order so (near so q v h).up) (near-order so q hs)
