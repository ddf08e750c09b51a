-- From a tangled plan's arrays to those of the untangled plan. Assumes nothing.
use Prim.Native.Nat.{ℕ, ◌≤◌}
use mathlib.Core.Path.{◌≡◌, sym, ◌∙◌, ap}
use mathlib.Core.Bool.{Bool, true}
use mathlib.Core.List.{List}
use native.Mathlib.Omega.{arith}
use lib.ListN.{length}
use Rattle.plan.specs.Plan.{PlanData, vertex_count}
use Rattle.plan.specs.Segments.{segments_from, segments_of}
use Rattle.plan.specs.Checks.{rising, check4}
use Rattle.plan_renumber.specs.Renumber.{renumbered}
use Rattle.plan_renumber.specs.inner.Words.{Once, Lists, Renumberable}
use Rattle.plan_untangle.specs.Order.{order, untangled}
use Rattle.plan_untangle.specs.inner.Ordering.{Tangled, SomeTangled}
use Rattle.plan_untangle.specs.inner.Arrays.{Rooms, Untangles}
use Rattle.plan_untangle.proofs.Orders.{order-own}
use Rattle.plan_untangle.proofs.Whole.{tangled-within}

module _ (sizes : List ℕ) (vias : List Bool) (halves us ls ws numbers turn upper places codes keys : List ℕ) (flags : List Bool)
    (s : SomeTangled sizes vias us ls) (r : Rooms vias halves us ws numbers turn upper places codes keys flags) where
  -- check 4, of the arrays
  rise : rising (segments_from us ls) ≡ true
  unfolding check4 segments_of
  rise = let t = s.lists in rw (t.uppers_are, t.lowers_are) at t.four

  -- once the order is found
  pub renumberable : (numbers' turn' places' : List ℕ) → ((p : PlanData) → Tangled p sizes vias us ls → numbers' ≡ order p)
      → length turn' ≡ length turn → length places' ≡ length places → Renumberable numbers' vias halves us ls ws turn' flags places' keys
  renumberable numbers' turn' places' o tl pl =
      let p = s.plan in
      let w = tangled-within p sizes vias us ls s.lists in
      let once : Once (vertex_count p) numbers' = rw (o p s.lists) (order-own p).once in
      let long : length numbers' ≡ length vias = once.long ∙ ap length s.lists.vias_are in
      record {
        movable = record {
          numbers = record { few = omega (arith, w.vertices); long = pl ∙ r.tables.places_long ∙ sym long; once = rw once.long once };
          ends = w.ends;
          long = r.keys_long;
          upper = λ i h. omega (arith, w.upper i h);
          lower = λ i h. omega (arith, w.lower i h);
          rise = rise;
          rated = r.rated;
        };
        vias_long = sym long;
        halves_long = r.halves_long ∙ sym long;
        spare_long = tl ∙ r.tables.turns_long ∙ sym long;
        flags_long = r.flags_long ∙ sym long;
      }

-- numbered anew by its order, it is untangled
pub untangles : (p : PlanData) (sizes : List ℕ) (vias : List Bool) (halves us ls ws : List ℕ) → Tangled p sizes vias us ls → p.halves ≡ halves → p.ratings ≡ ws
    → (numbers : List ℕ) → numbers ≡ order p → (vias' : List Bool) (halves' us' ls' ws' : List ℕ)
    → ((q : PlanData) → Lists q vias halves us ls ws → Lists (renumbered q numbers) vias' halves' us' ls' ws') → Untangles p numbers vias' halves' us' ls' ws'
unfolding untangled
untangles p sizes vias halves us ls ws t h r numbers o vias' halves' us' ls' ws' f = record {
  numbers_are = o;
  lists = rw o at (f p (record { vias_are = t.vias_are; halves_are = h; uppers_are = t.uppers_are; lowers_are = t.lowers_are; ratings_are = r }));
}

pub at_least : (a b : ℕ) → a ≡ b → b ≤ a
at_least a b e = omega arith
