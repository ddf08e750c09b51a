-- A vertex's neighbours come in level order: segments are sorted (check 4) and join neighbouring levels (check 3); and as many ratings
-- beside them. Assumes nothing.
use mathlib.Core.Path.{◌≡◌, refl, ap}
use mathlib.Core.Bool.{Bool, true, false, cond, ◌&&◌, ◌||◌}
use mathlib.Core.List.{List, [], ◌∷◌}
use Prim.Native.Nat.{ℕ, suc, ◌+◌, ◌-◌, ◌*◌, ◌≤◌, ◌<◌}
use native.Mathlib.Omega.{arith}
use lib.Dec.{ltb, eqb}
use lib.ListN.{length}
use borrow.Author.Tests.{ltb-true, eqb-true}
use Rattle.ints.proofs.Laws.{if-ind}
use Rattle.ints.proofs.Tests.{and_left, and_right}
use Rattle.plan.specs.Plan.{PlanData, vertex_count, level_of}
use Rattle.plan.specs.Segments.{Segment, segments_of, rated_of, above_in, below_in, above, below, ratings_above, ratings_below}
use Rattle.plan.specs.Checks.{comes_before, rising}
use Rattle.plan.proofs.RatedLaws.{above-rated, below-rated}
use Rattle.passes.specs.Ready.{preceding, preceding_ratings}
use Rattle.plan.proofs.All.{All, all_cons, all_map, cond_both}
use Rattle.plan.proofs.Levels.{has-level}
use Rattle.passes.proofs.Sound.{Down, Sound}

-- vertices of level l from left to right, none before lo
pub data Upward (p : PlanData) (l : ℕ) : ℕ → List ℕ → Type 0 where
  up-nil : {lo : ℕ} → Upward p l lo []
  up-cons : {lo n : ℕ} {ns : List ℕ} → lo ≤ n → n < vertex_count p → level_of p n ≡ l → Upward p l (suc n) ns → Upward p l lo (n ∷ ns)

-- segments in order, by one number each: A and B are below 1,024
abbrev key : Segment → ℕ
key s = 1024 * s.upper + s.lower

data Rises : ℕ → List Segment → Type 0 where
  rises-nil : {k : ℕ} → Rises k []
  rises-cons : {k : ℕ} {s : Segment} {ss : List Segment} → k ≤ key s → Rises (suc (key s)) ss → Rises k (s ∷ ss)

key-less : (s t : Segment) → s.lower < 1024 → comes_before s t ≡ true → key s < key t
key-less s t h e = go (ltb s.upper t.upper) refl e
  where
    go : (b : Bool) → ltb s.upper t.upper ≡ b → b || (eqb s.upper t.upper && ltb s.lower t.lower) ≡ true → key s < key t
    go true f e = omega (arith, ltb-true s.upper t.upper f)
    go false f e = omega (arith, eqb-true s.upper t.upper (and_left _ _ e), ltb-true s.lower t.lower (and_right (eqb s.upper t.upper) _ e))

rises-from : (k : ℕ) (s : Segment) (ss : List Segment) → All (λ t. t.lower < 1024) (s ∷ ss) → rising (s ∷ ss) ≡ true → k ≤ key s → Rises k (s ∷ ss)
unfolding rising
rises-from k s [] a e h = rises-cons h rises-nil
rises-from k s (t ∷ ss) (all_cons i a) e h = let b = cond_both (comes_before s t) (rising (t ∷ ss)) e in
    rises-cons h (rises-from (suc (key s)) t ss a b.1 (key-less s t i b.0))

rises : (ss : List Segment) → All (λ t. t.lower < 1024) ss → rising ss ≡ true → Rises 0 ss
rises [] a e = rises-nil
rises (s ∷ ss) a e = rises-from 0 s ss a e (omega arith)

-- ---- above: a rising A for one B
above-up : (p : PlanData) (v l k lo : ℕ) {ss : List Segment} → level_of p v ≡ suc l → 1024 * lo + v ≤ k + 1023 → All (Down p) ss → Rises k ss → Upward p l lo (above_in ss v)
unfolding above_in
above-up p v l k lo e h a rises-nil = up-nil
above-up p v l k lo e h (all_cons d a) (rises-cons {s = s} {ss = ss} g r) = if-ind (eqb s.lower v) (s.upper ∷ above_in ss v) (above_in ss v) (λ ns. Upward p l lo ns)
    (λ t. let z = eqb-true s.lower v t in let y : level_of p s.lower ≡ level_of p v = ap (level_of p) z in let x = d.levels in
    up-cons (omega arith) d.upper (omega arith) (above-up p v l (suc (key s)) (suc s.upper) e (omega arith) a r))
    (λ t. above-up p v l (suc (key s)) lo e (omega arith) a r)

-- ---- below: a rising B for one A
below_up : (p : PlanData) (v l k lo : ℕ) {ss : List Segment} → suc (level_of p v) ≡ l → lo ≤ k - 1024 * v → All (Down p) ss → Rises k ss → Upward p l lo (below_in ss v)
unfolding below_in
below_up p v l k lo e h a rises-nil = up-nil
below_up p v l k lo e h (all_cons d a) (rises-cons {s = s} {ss = ss} g r) = if-ind (eqb s.upper v) (s.lower ∷ below_in ss v) (below_in ss v) (λ ns. Upward p l lo ns)
    (λ t. let z = eqb-true s.upper v t in let y : level_of p s.upper ≡ level_of p v = ap (level_of p) z in let x = d.levels in
    up-cons (omega arith) d.lower (omega arith) (below_up p v l (suc (key s)) (suc s.lower) e (omega arith) a r))
    (λ t. below_up p v l (suc (key s)) lo e (omega arith) a r)

-- ---- on the preceding level of a pass
pub record Near (p : PlanData) (q v : ℕ) : Type 0 where
  pub level : ℕ
  pub up : Upward p level 0 (preceding p q v)

pub near : {p : PlanData} → Sound p → (q v : ℕ) → v < vertex_count p → Near p q v
unfolding preceding above below
near {p} so q v h = let t = so.total in let l = has-level p v (omega arith) in let k = so.vertices in let d = so.down in
    let r = rises (segments_of p) (all_map (λ s i. omega (arith, i.lower)) d) so.rise in
    let m = if-ind (eqb q 2) (below_in (segments_of p) v) (above_in (segments_of p) v) (λ ns. (l : ℕ) × Upward p l 0 ns)
    (λ i. (suc (level_of p v), below_up p v (suc (level_of p v)) 0 0 refl (omega arith) d r))
    (λ i. (level_of p v - 1, above-up p v (level_of p v - 1) 0 0 (omega (arith, l.one)) (omega arith) d r)) in
    record { level = m.0; up = m.1 }

-- ---- as many ratings beside them
pub preceding-rated : {p : PlanData} → Sound p → (q v : ℕ) → length (preceding_ratings p q v) ≡ length (preceding p q v)
unfolding preceding preceding_ratings above below rated_of
preceding-rated {p} so q v = go (eqb q 2)
  where
    go : (b : Bool) → length (cond b (ratings_below (rated_of p) v) (ratings_above (rated_of p) v)) ≡ length (cond b (below_in (segments_of p) v) (above_in (segments_of p) v))
    go true = below-rated (segments_of p) p.ratings v so.rated
    go false = above-rated (segments_of p) p.ratings v so.rated
