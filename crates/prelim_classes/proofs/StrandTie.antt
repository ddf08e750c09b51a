-- The strands of a plan that passes the checks are the chains along its inner segments: from a vertex as many links up as
-- there are levels lead to its topmost, and from there as many down past the last. Assumes nothing.
use mathlib.Core.Path.{◌≡◌, sym, ◌∙◌, ap}
use mathlib.Core.List.{List, [], ◌∷◌}
use Prim.Native.Nat.{ℕ, zero, suc, ◌+◌, ◌≤◌, ◌<◌}
use native.Mathlib.Omega.{arith}
use lib.ListN.{length, get_or}
use Rattle.plan.specs.Plan.{PlanData, vertex_count, level_of}
use Rattle.plan.specs.Segments.{inner_segments}
use Rattle.plan.specs.Strands.{top_from, chain_from, strand_in}
use Rattle.plan.proofs.Sound.{Sound}
use Rattle.preliminary.proofs.Strands.{low, high, top-none}
use Rattle.prelim_classes.specs.inner.Links.{chain}
use Rattle.prelim_classes.specs.inner.Strands.{StrandsBy, StrandLists}
use Rattle.prelim_classes.proofs.ChainLaws.{along-end, chain-on}
use Rattle.prelim_classes.proofs.LinkLaws.{Under, Over, link-rises, under_of, over-of, mutual-links, lists-strung}

module _ (p : PlanData) (S : Sound p) (next top : List ℕ) (L : StrandLists p.vias p.uppers p.lowers next top) where
  top-is : (m v : ℕ) → v < vertex_count p → level_of p v ≤ m → top_from (inner_segments p) m v ≡ get_or top v 0
  unfolding top_from
  top-is zero v h k = absurd (omega (arith, low p S v))
  top-is (suc m) v h k = go (λ u a b. top-is m u a b) (over-of p S next top L v h)
    where
      inside : v < length L.prev
      inside = omega (arith, L.up.long)

      go : ((u : ℕ) → u < vertex_count p → level_of p u ≤ m → top_from (inner_segments p) m u ≡ get_or top u 0) → Over p L.prev v → top_from (inner_segments p) (suc m) v ≡ get_or top v 0
      go f (Over.first e q) = rw e (top-none p S m v e ∙ sym (L.tops.first v inside (omega (arith, S.limits.vertices))))
      go f (Over.over u us e q l) = rw e (f u l.upper_in (omega (arith, l.down)) ∙ ap (λ (x : ℕ). get_or top x 0) (sym q) ∙ sym (L.tops.more v inside (rw q (link-rises p S u v l))))

  chain-last : (v : ℕ) → v < vertex_count p → get_or next v 0 ≡ 2048 → chain next v ≡ v ∷ []
  chain-last v h q = chain-on next 0 (mutual-links p S next top L).rising v (omega arith) (omega (arith, L.down.long))
      ∙ ap (λ (l : List ℕ). v ∷ l) (along-end next (length next) (get_or next v 0) (omega (arith, L.down.long, S.limits.vertices)))

  chain-is : (m v : ℕ) → v < vertex_count p → p.levels ≤ level_of p v + m → chain_from (inner_segments p) m v ≡ chain next v
  unfolding chain_from
  chain-is zero v h k = go (under_of p S next top L v h)
    where
      go : Under p next v → v ∷ [] ≡ chain next v
      go (Under.last e q) = sym (chain-last v h q)
      go (Under.under w ws e q l) = absurd (omega (arith, l.down, high p S w l.lower_in))
  chain-is (suc m) v h k = go (λ w a b. chain-is m w a b) (under_of p S next top L v h)
    where
      go : ((w : ℕ) → w < vertex_count p → p.levels ≤ level_of p w + m → chain_from (inner_segments p) m w ≡ chain next w) → Under p next v → chain_from (inner_segments p) (suc m) v ≡ chain next v
      go f (Under.last e q) = rw e (sym (chain-last v h q))
      go f (Under.under w ws e q l) = rw e (ap (λ (l : List ℕ). v ∷ l) (f w l.lower_in (omega (arith, l.down)) ∙ ap (chain next) (sym q))
          ∙ sym (chain-on next 0 (mutual-links p S next top L).rising v (omega arith) (omega (arith, L.down.long))))

  pub strands-by : StrandsBy (strand_in (inner_segments p) p.levels) next top
  unfolding strand_in
  strands-by = record {
    each = λ v h.
        let k : v < vertex_count p = omega (arith, L.down.long) in
        let t : get_or top v 0 < vertex_count p = omega (arith, (lists-strung p S next top L).tops v h, L.down.long) in
        ap (chain_from (inner_segments p) p.levels) (top-is p.levels v k (high p S v k)) ∙ chain-is p.levels (get_or top v 0) t (omega arith);
  }
