-- The links that lists of vertices below and above hold are the inner segments of a plan that passes the checks: each via
-- has at most one inner segment up and one down, and the segment leads one level down, so to a greater number. So the lists
-- are each other's inverse, and following them gives the strands as chains. Assumes nothing.
use mathlib.Core.Path.{◌≡◌, refl, sym, ◌∙◌, ap}
use mathlib.Core.Logic.{inl}
use mathlib.Core.List.{List, [], ◌∷◌}
use Prim.Native.Nat.{ℕ, ◌<◌}
use native.Mathlib.Omega.{arith}
use lib.ListN.{get_or}
use Rattle.ints.proofs.Laws.{cases}
use Rattle.plan.specs.Plan.{PlanData, vertex_count, level_of}
use Rattle.plan.specs.Segments.{segments_of, above_in, below_in, inner_segments}
use Rattle.plan.specs.Strands.{first_or}
use Rattle.plan.proofs.Sound.{Sound, mem-above, mem_below, above-mem, below-mem}
use Rattle.plan.proofs.LevelLaws.{level-rises}
use Rattle.preliminary.proofs.Strands.{Link, link, link_up, link-down}
use Rattle.prelim_classes.specs.inner.Strands.{StrandLists, Strung}
use Rattle.prelim_classes.proofs.StrandLaws.{Mutual, strung}
use Rattle.prelim_classes.proofs.Ends.{below-ends, above-ends}

-- the vertex below v, where there is one, by the segments and by a list
pub data Under (p : PlanData) (next : List ℕ) (v : ℕ) : Type 0 where
  last : below_in (inner_segments p) v ≡ [] → get_or next v 0 ≡ 2048 → Under p next v
  under : (w : ℕ) (ws : List ℕ) → below_in (inner_segments p) v ≡ w ∷ ws → get_or next v 0 ≡ w → Link p v w → Under p next v

-- the vertex above v
pub data Over (p : PlanData) (prev : List ℕ) (v : ℕ) : Type 0 where
  first : above_in (inner_segments p) v ≡ [] → get_or prev v 0 ≡ 2048 → Over p prev v
  over : (u : ℕ) (us : List ℕ) → above_in (inner_segments p) v ≡ u ∷ us → get_or prev v 0 ≡ u → Link p u v → Over p prev v

module _ (p : PlanData) (S : Sound p) where
  pub link-rises : (u v : ℕ) → Link p u v → u < v
  unfolding level_of
  link-rises u v l = cases v u (λ h. absurd (omega (arith, l.down, level-rises p.sizes v u h))) (λ h. h)

  module _ (next top : List ℕ) (L : StrandLists p.vias p.uppers p.lowers next top) where
    next-is : (v : ℕ) → v < vertex_count p → get_or next v 0 ≡ first_or 2048 (below_in (inner_segments p) v)
    unfolding inner_segments segments_of
    next-is v h = L.down.each v h ∙ ap (first_or 2048) (sym (below-ends p v p.uppers p.lowers))

    prev-is : (v : ℕ) → v < vertex_count p → get_or L.prev v 0 ≡ first_or 2048 (above_in (inner_segments p) v)
    unfolding inner_segments segments_of
    prev-is v h = L.up.each v h ∙ ap (first_or 2048) (sym (above-ends p v p.uppers p.lowers))

    module _ (v : ℕ) (h : v < vertex_count p) where
      pub under_of : Under p next v
      under_of = go (below_in (inner_segments p) v) refl
        where
          go : (ws : List ℕ) → below_in (inner_segments p) v ≡ ws → Under p next v
          go [] e = last e (next-is v h ∙ ap (first_or 2048) e)
          go (w ∷ ws) e = under w ws e (next-is v h ∙ ap (first_or 2048) e) (link p S v w (mem_below (inner_segments p) v w (rw e (inl refl))))

      pub over-of : Over p L.prev v
      over-of = go (above_in (inner_segments p) v) refl
        where
          go : (us : List ℕ) → above_in (inner_segments p) v ≡ us → Over p L.prev v
          go [] e = first e (prev-is v h ∙ ap (first_or 2048) e)
          go (u ∷ us) e = over u us e (prev-is v h ∙ ap (first_or 2048) e) (link p S u v (mem-above (inner_segments p) u v (rw e (inl refl))))

    -- the lists hold every link
    link-next : (u v : ℕ) → Link p u v → get_or next u 0 ≡ v
    link-next u v l = go (under_of u l.upper_in)
      where
        go : Under p next u → get_or next u 0 ≡ v
        go (last e q) = absurd (rw (l.joined.above_is, e) at (below-mem (inner_segments p) l.joined.segment l.joined.listed))
        go (under w ws e q m) = q ∙ link-down p S u w v m l

    link-prev : (u v : ℕ) → Link p u v → get_or L.prev v 0 ≡ u
    link-prev u v l = go (over-of v l.lower_in)
      where
        go : Over p L.prev v → get_or L.prev v 0 ≡ u
        go (first e q) = absurd (rw (l.joined.below_is, e) at (above-mem (inner_segments p) l.joined.segment l.joined.listed))
        go (over w ws e q m) = q ∙ link_up p S w u v m l

    -- a link that leads to a vertex is an inner segment
    next-link : (v : ℕ) → v < vertex_count p → get_or next v 0 < vertex_count p → Link p v (get_or next v 0)
    next-link v h k = go (under_of v h)
      where
        go : Under p next v → Link p v (get_or next v 0)
        go (last e q) = absurd (omega (arith, S.limits.vertices))
        go (under w ws e q m) = rw q m

    prev-link : (v : ℕ) → v < vertex_count p → get_or L.prev v 0 < vertex_count p → Link p (get_or L.prev v 0) v
    prev-link v h k = go (over-of v h)
      where
        go : Over p L.prev v → Link p (get_or L.prev v 0) v
        go (first e q) = absurd (omega (arith, S.limits.vertices))
        go (over u us e q m) = rw q m

    next-rises : (v : ℕ) → v < vertex_count p → v < get_or next v 0
    next-rises v h = go (under_of v h)
      where
        go : Under p next v → v < get_or next v 0
        go (last e q) = omega (arith, S.limits.vertices)
        go (under w ws e q m) = rw q (link-rises v w m)

    pub mutual-links : Mutual next L.prev
    mutual-links = let e = L.down.long in record {
      long = L.up.long ∙ sym e;
      rising = record { rises = λ v m h. next-rises v (omega arith) };
      falls = λ v h k. link-rises (get_or L.prev v 0) v (prev-link v (omega arith) (omega arith));
      back = λ v h k. link-prev v (get_or next v 0) (next-link v (omega arith) (omega arith));
      forth = λ v h k. link-next (get_or L.prev v 0) v (prev-link v (omega arith) (omega arith));
    }

    pub lists-strung : Strung next top
    lists-strung = strung next L.prev top mutual-links L.tops
