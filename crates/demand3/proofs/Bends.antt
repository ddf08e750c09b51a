-- No cable bends more than twice: a via with a via above and one below stands upright between them, so of a strand, a chain of vias
-- joined by inner segments, only the first and the last can bend. Assumes nothing.
use mathlib.Core.Path.{◌≡◌, refl, sym, ap}
use mathlib.Core.Bool.{true, false, cond}
use mathlib.Core.List.Memᴰ
use mathlib.Core.List.{List, [], ◌∷◌, Memᴰ}
use mathlib.Core.Logic.{⊎_elim}
use Prim.Native.Nat.{ℕ, zero, suc, ◌+◌, ◌≤◌}
use native.Mathlib.Omega.{arith}
use lib.Dec.{eqb, leb}
use borrow.Author.Tests.{eqb-true, eqb-false, le-leb}
use lib.ListN.{length}
use lib.IntN.{ℤ, pos, ◌-ℤ◌, zero-*ℤ}
use Rattle.ints.specs.Ints.{P, N}
use Rattle.ints.proofs.Laws.{dif, eq-make, if-ind}
use Rattle.plan.specs.Plan.{PlanData, vertex_count, is_via}
use Rattle.plan.specs.Segments.{Segment, segments_of, above_in, below_in, above, below, inner_segments}
use Rattle.plan.specs.Strands.{first_or, follow, top_from, chain_from, strand_in, strand_of}
use Rattle.passes.specs.State.{State, position_of}
use Rattle.passes.specs.Words.{rise, bends_between, bends_at, bend_count, strand_bends_twice, bends_at_most_twice}
use Rattle.plan.proofs.All.{all-every}
use Rattle.plan.proofs.Levels.{all-numbers}
use Rattle.passes.proofs.Sound.{Sound}
use Rattle.demand3.proofs.Upright.{inner-mem, inner-same}
use Rattle.passes.proofs.Trace.{Reached}
use Rattle.passes.proofs.Preliminary.{Preliminary}

abbrev pub segment : ℕ → ℕ → Segment
segment u v = record { upper = u; lower = v }

-- ---- the ends of a segment are neighbours
pub above-mem : (ss : List Segment) (u v : ℕ) → Memᴰ (segment u v) ss → Memᴰ u (above_in ss v)
unfolding above_in
above-mem [] u v m = absurd (Memᴰ.not-nil m)
above-mem (s ∷ ss) u v m = if-ind (eqb s.lower v) (s.upper ∷ above_in ss v) (above_in ss v) (Memᴰ u)
    (λ t. ⊎_elim (λ (e : segment u v ≡ s). Memᴰ.head (ap (λ (x : Segment). x.upper) e)) (λ n. Memᴰ.tail (above-mem ss u v n)) (Memᴰ.cases_cons m))
    (λ t. ⊎_elim (λ (e : segment u v ≡ s). absurd (eqb-false s.lower v t (sym (ap (λ (x : Segment). x.lower) e)))) (λ n. above-mem ss u v n) (Memᴰ.cases_cons m))

pub below-mem : (ss : List Segment) (u v : ℕ) → Memᴰ (segment u v) ss → Memᴰ v (below_in ss u)
unfolding below_in
below-mem [] u v m = absurd (Memᴰ.not-nil m)
below-mem (s ∷ ss) u v m = if-ind (eqb s.upper u) (s.lower ∷ below_in ss u) (below_in ss u) (Memᴰ v)
    (λ t. ⊎_elim (λ (e : segment u v ≡ s). Memᴰ.head (ap (λ (x : Segment). x.lower) e)) (λ n. Memᴰ.tail (below-mem ss u v n)) (Memᴰ.cases_cons m))
    (λ t. ⊎_elim (λ (e : segment u v ≡ s). absurd (eqb-false s.upper u t (sym (ap (λ (x : Segment). x.upper) e)))) (λ n. below-mem ss u v n) (Memᴰ.cases_cons m))

-- and the other way
same-segment : (a b c d : ℕ) → a ≡ c → b ≡ d → segment a b ≡ segment c d
same-segment a b c d e f = cc

pub mem_below : (ss : List Segment) (u v : ℕ) → Memᴰ v (below_in ss u) → Memᴰ (segment u v) ss
unfolding below_in
mem_below [] u v m = absurd (Memᴰ.not-nil m)
mem_below (s ∷ ss) u v m = if-ind (eqb s.upper u) (s.lower ∷ below_in ss u) (below_in ss u) (λ us. Memᴰ v us → Memᴰ (segment u v) (s ∷ ss))
    (λ t n. ⊎_elim (λ (e : v ≡ s.lower). Memᴰ.head (same-segment u v s.upper s.lower (sym (eqb-true s.upper u t)) e)) (λ k. Memᴰ.tail (mem_below ss u v k)) (Memᴰ.cases_cons n))
    (λ t n. Memᴰ.tail (mem_below ss u v n)) m

pub mem-above : (ss : List Segment) (u v : ℕ) → Memᴰ u (above_in ss v) → Memᴰ (segment u v) ss
unfolding above_in
mem-above [] u v m = absurd (Memᴰ.not-nil m)
mem-above (s ∷ ss) u v m = if-ind (eqb s.lower v) (s.upper ∷ above_in ss v) (above_in ss v) (λ us. Memᴰ u us → Memᴰ (segment u v) (s ∷ ss))
    (λ t n. ⊎_elim (λ (e : u ≡ s.upper). Memᴰ.head (same-segment u v s.upper s.lower e (sym (eqb-true s.lower v t)))) (λ k. Memᴰ.tail (mem-above ss u v k)) (Memᴰ.cases_cons n))
    (λ t n. Memᴰ.tail (mem-above ss u v n)) m

-- the only neighbour is the first
first-only : (d u : ℕ) (vs : List ℕ) → length vs ≡ 1 → Memᴰ u vs → first_or d vs ≡ u
first-only d u [] e m = absurd (omega arith)
first-only d u (v ∷ []) e m = sym (Memᴰ.eq_of_singleton m)
first-only d u (v ∷ w ∷ vs) e m = absurd (omega arith)

-- ---- a via between two vias
no-bend : (p : PlanData) (xs : List ℤ) (u v w : ℕ) → position_of xs u ≡ position_of xs v → position_of xs v ≡ position_of xs w → bends_between p xs u v w ≡ false
unfolding bends_between
no-bend p xs u v w e f =
    let a = zero-dif (position_of xs v) (position_of xs u) (sym e) in let b = zero-dif (position_of xs w) (position_of xs v) (sym f) in
    rw (a, b, zero-*ℤ (rise p v w), zero-*ℤ (rise p u v))
  where
    zero-dif : (a b : ℤ) → a ≡ b → a -ℤ b ≡ pos 0
    zero-dif a b e = eq-make (a -ℤ b) (pos 0) (omega (arith, dif a b, ap P e, ap N e))

module _ {p : PlanData} (so : Sound p) (pre : Preliminary p) {s : State} (c : Reached p s) where
  between : (u v w : ℕ) → Memᴰ (segment u v) (inner_segments p) → Memᴰ (segment v w) (inner_segments p) → bends_at p s.at v ≡ false
  unfolding bends_at above below inner_segments
  between u v w m n = let i = inner-mem p (segments_of p) (segment u v) m in let j = inner-mem p (segments_of p) (segment v w) n in let t = so.through v i.lower in
      rw (first-only v u (above_in (segments_of p) v) t.0 (above-mem (segments_of p) u v i.segment), first-only v w (below_in (segments_of p) v) t.1 (below-mem (segments_of p) v w j.segment))
      (no-bend p s.at u v w (inner-same pre c (segment u v) m) (inner-same pre c (segment v w) n))

  one_at_most : (v : ℕ) → cond (bends_at p s.at v) 1 0 ≤ 1
  one_at_most v = if-ind (bends_at p s.at v) 1 0 (λ n. n ≤ 1) (λ t. omega arith) (λ t. omega arith)

  -- a chain below a via bends once
  chain-below : (n u v : ℕ) → Memᴰ (segment u v) (inner_segments p) → bend_count p s.at (chain_from (inner_segments p) n v) ≤ 1
  unfolding bend_count chain_from
  chain-below zero u v m = omega (arith, one_at_most v)
  chain-below (suc n) u v m = next (below_in (inner_segments p) v) (λ w k. mem_below (inner_segments p) v w k) (λ w k. chain-below n v w k)
    where
      next : (ws : List ℕ) → ((w : ℕ) → Memᴰ w ws → Memᴰ (segment v w) (inner_segments p))
          → ((w : ℕ) → Memᴰ (segment v w) (inner_segments p) → bend_count p s.at (chain_from (inner_segments p) n w) ≤ 1)
          → cond (bends_at p s.at v) 1 0 + bend_count p s.at (follow (λ w. chain_from (inner_segments p) n w) ws) ≤ 1
      next [] f g = omega (arith, one_at_most v)
      next (w ∷ ws) f g = let k = f w (Memᴰ.head refl) in rw (between u v w m k) (omega (arith, g w k))

  chain-twice : (n v : ℕ) → bend_count p s.at (chain_from (inner_segments p) n v) ≤ 2
  unfolding bend_count chain_from
  chain-twice zero v = omega (arith, one_at_most v)
  chain-twice (suc n) v = next (below_in (inner_segments p) v) (λ w k. mem_below (inner_segments p) v w k)
    where
      next : (ws : List ℕ) → ((w : ℕ) → Memᴰ w ws → Memᴰ (segment v w) (inner_segments p))
          → cond (bends_at p s.at v) 1 0 + bend_count p s.at (follow (λ w. chain_from (inner_segments p) n w) ws) ≤ 2
      next [] f = omega (arith, one_at_most v)
      next (w ∷ ws) f = omega (arith, one_at_most v, chain-below n v w (f w (Memᴰ.head refl)))

  strand-twice : (v : ℕ) → strand_bends_twice p s.at v ≡ true
  unfolding strand_bends_twice strand_of strand_in
  strand-twice v = if-ind (is_via p v) (leb (bend_count p s.at (chain_from (inner_segments p) p.levels (top_from (inner_segments p) p.levels v))) 2) true (λ t. t ≡ true)
      (λ t. le-leb _ _ (chain-twice p.levels (top_from (inner_segments p) p.levels v))) (λ t. refl)

  pub bends-twice : bends_at_most_twice p s.at ≡ true
  unfolding bends_at_most_twice
  bends-twice = all-every (strand_bends_twice p s.at) (all-numbers 0 (vertex_count p) (λ v h k. strand-twice v))
