-- What the program hands from one call to the next, from a tangled plan's lists to its order. Assumes nothing.
use Prim.Native.Nat.{ℕ, ◌<◌, ◌≤◌}
use mathlib.Core.Path.{◌≡◌, sym, ◌∙◌, ap}
use mathlib.Core.Bool.{Bool, false, cond, ◌&&◌}
use mathlib.Core.List.{List}
use native.Mathlib.Omega.{arith}
use lib.ListN.{length, get_or}
use Rattle.plan.specs.Plan.{PlanData, vertex_count, is_via, numbers, level_of}
use Rattle.plan.specs.Limits.{max_levels, max_vertices}
use Rattle.plan.specs.Segments.{segments_of, above}
use Rattle.plan.specs.inner.Graph.{Levelled, Within, Below}
use Rattle.plan.proofs.Levels.{length-numbers}
use Rattle.plan.proofs.LimitLaws.{limits}
use Rattle.plan.proofs.GraphLaws.{within_of, same-3}
use Rattle.plan.proofs.Sound.{goes}
use Rattle.plan_untangle.specs.Order.{upper_end}
use Rattle.plan_untangle.specs.inner.Ordering.{Tangled, SomeTangled, Endable, Ended, Turnable, Turned, Ordering, SomeOrdering, ShareRoom, Tables}
use Rattle.plan_untangle.proofs.Steps.{upper-below}

module _ (p : PlanData) (sizes : List ℕ) (vias : List Bool) (us ls : List ℕ) (t : Tangled p sizes vias us ls) where
  pub levels-few : length sizes ≤ max_levels
  levels-few = omega (arith, (limits p t.limits).levels_high, t.levels_are)

  pub tangled-within : Within vias us ls
  tangled-within = rw (t.vias_are, t.uppers_are, t.lowers_are) at (within_of p.sizes p.vias p.uppers p.lowers (limits p t.limits).lists (sym (same-3 p) ∙ t.three))

  many : vertex_count p ≡ length vias
  many = ap length t.vias_are

  -- upper ends that were written are those of p
  ends-are : (upper : List ℕ) → length upper ≡ length vias → Ended us ls upper → (v : ℕ) → v < vertex_count p → get_or upper v 0 ≡ upper_end p v
  unfolding above segments_of
  ends-are upper long e v h = rw (t.uppers_are, t.lowers_are) (e.each v (omega (arith, many)))

  pub ends-below : (upper : List ℕ) → length upper ≡ length vias → Ended us ls upper → Below (length vias) upper
  ends-below upper long e v h = let k : v < vertex_count p = omega (arith, many) in omega (arith, ends-are upper long e v k, upper-below p (goes p t.three) v k, many)

  -- the tables are those of p
  pub ordering : (level turn upper : List ℕ) → Levelled sizes level → length level ≡ length vias → length upper ≡ length vias → Ended us ls upper
      → Turned vias upper level turn → length turn ≡ length vias → (order : List ℕ) → order ≡ numbers 0 (length vias) → Ordering p sizes turn upper order
  unfolding level_of
  ordering level turn upper lv ll ul e tu tl order o = record {
    levels_are = t.levels_are;
    sizes_are = t.sizes_are;
    limits = t.limits;
    three = t.three;
    five = t.five;
    start = o ∙ ap (numbers 0) (sym many);
    turns_long = tl ∙ sym many;
    turns = λ v h.
        let k : v < length level = omega (arith, many) in
        let flags : cond (get_or vias v false && get_or vias (get_or upper v 0) false) (get_or level v 0) 0 ≡ cond (is_via p v && is_via p (get_or upper v 0)) (get_or level v 0) 0 = rw t.vias_are in
        tu.each v k ∙ flags ∙ ap (λ (u : ℕ). cond (is_via p v && is_via p u) (get_or level v 0) 0) (ends-are upper ul e v h)
        ∙ ap (λ (l : ℕ). cond (is_via p v && is_via p (upper_end p v)) l 0) (rw t.sizes_are (lv.each v k));
    uppers_long = ul ∙ sym many;
    uppers = ends-are upper ul e;
  }

module _ (sizes : List ℕ) (vias : List Bool) (us ls order turn upper places codes : List ℕ) (s : SomeTangled sizes vias us ls) (r : Tables vias order turn upper places codes) where
  abbrev t : Tangled s.plan sizes vias us ls
  t = s.lists

  pub some-levels : length sizes ≤ max_levels
  some-levels = levels-few s.plan sizes vias us ls t

  pub some-few : length vias ≤ max_vertices
  some-few = (tangled-within s.plan sizes vias us ls t).vertices

  -- after the numbers were written
  pub endable : (upper' : List ℕ) → upper' ≡ numbers 0 (length upper) → Endable us ls upper'
  endable upper' e =
      let w = tangled-within s.plan sizes vias us ls t in
      let long : length upper' ≡ length upper = ap length e ∙ length-numbers 0 (length upper) in
      record {
        few = omega (arith, w.vertices, r.uppers_long);
        own = e ∙ ap (numbers 0) (sym long);
        ends = w.ends;
        upper_ends = λ i h. omega (arith, w.upper i h, r.uppers_long);
        lower_ends = λ i h. omega (arith, w.lower i h, r.uppers_long);
      }

  -- after the upper ends were
  pub turnable : (level upper'' : List ℕ) → length level ≡ length turn → length upper'' ≡ length upper → Ended us ls upper'' → Turnable vias upper'' level
  turnable level upper'' ll ul e = record {
    vias_long = sym (ll ∙ r.turns_long);
    uppers_long = ul ∙ r.uppers_long ∙ sym (ll ∙ r.turns_long);
    ends = λ v h. omega (arith, ends-below s.plan sizes vias us ls t upper'' (ul ∙ r.uppers_long) e v h, ll, r.turns_long);
  }

  module _ (level upper'' turn' order' : List ℕ) (lv : Levelled sizes level) (ll : length level ≡ length turn) (ul : length upper'' ≡ length upper) (e : Ended us ls upper'')
      (tu : Turned vias upper'' level turn') (tl : length turn' ≡ length level) (o : order' ≡ numbers 0 (length order)) where
    pub made : (p : PlanData) → Tangled p sizes vias us ls → Ordering p sizes turn' upper'' order'
    made p q = ordering p sizes vias us ls q level turn' upper'' lv (ll ∙ r.turns_long) (ul ∙ r.uppers_long) e tu (tl ∙ ll ∙ r.turns_long) order'
        (o ∙ ap (numbers 0) r.order_long)

    pub all_made : SomeOrdering sizes turn' upper'' order' × ShareRoom order' places codes
    all_made =
        let long : length order' ≡ length order = ap length o ∙ length-numbers 0 (length order) in (
          record { plan = s.plan; tables = made s.plan t },
          record { places_long = r.places_long ∙ sym (long ∙ r.order_long); enough = omega (arith, r.enough, r.order_long) },
        )
