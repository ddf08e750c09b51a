-- Strands of a plan that passes the checks: one vertex on each of consecutive levels, and two vertices are of one strand
-- exactly if they have the same top. Assumes nothing.
use mathlib.Core.Path.{◌≡◌, refl, sym, ◌∙◌, ap}
use mathlib.Core.Logic.{inl, inr}
use mathlib.Core.Bool.{false, true≢false}
use mathlib.Core.List.{List, [], ◌∷◌}
use Prim.Native.Nat.{ℕ, zero, suc, ◌+◌, ◌≤◌, ◌<◌}
use native.Mathlib.Omega.{arith}
use Rattle.ints.proofs.Laws.{cases}
use Rattle.plan.specs.Plan.{PlanData, vertex_count, is_via, level_of}
use Rattle.plan.specs.Segments.{Segment, above_in, below_in, inner_segments}
use Rattle.plan.specs.Strands.{top_from, chain_from, strand_in, follow}
use Rattle.ints.specs.inner.Members.{Mem}
use Rattle.plan.proofs.Sound.{Sound, Joined, mem-above, mem_below, above-mem, below-mem}
use Rattle.plan.proofs.LevelLaws.{level-low, level-high}

-- the topmost vertex of v's strand, and the strand
abbrev pub top_of : PlanData → ℕ → ℕ
top_of p v = top_from (inner_segments p) p.levels v

abbrev pub strand_at : PlanData → ℕ → List ℕ
strand_at p v = strand_in (inner_segments p) p.levels v

-- an inner segment from u down to v
pub record Link (p : PlanData) (u v : ℕ) : Type 0 where
  pub upper_in : u < vertex_count p
  pub lower_in : v < vertex_count p
  pub down : level_of p v ≡ level_of p u + 1
  pub joined : Joined (inner_segments p) u v

-- vertices on levels k, k + 1, and so on
pub data Descends (p : PlanData) : ℕ → List ℕ → Type 0 where
  no_more : {k : ℕ} → Descends p k []
  then : {k v : ℕ} {vs : List ℕ} → level_of p v ≡ k → Descends p (suc k) vs → Descends p k (v ∷ vs)

data Above (p : PlanData) (v : ℕ) : Type 0 where
  nothing : above_in (inner_segments p) v ≡ [] → Above p v
  upper : (u : ℕ) (us : List ℕ) → above_in (inner_segments p) v ≡ u ∷ us → Above p v

above : (p : PlanData) (v : ℕ) → Above p v
above p v = go (above_in (inner_segments p) v) refl
  where
    go : (us : List ℕ) → above_in (inner_segments p) v ≡ us → Above p v
    go [] e = nothing e
    go (u ∷ us) e = upper u us e

data Below (p : PlanData) (v : ℕ) : Type 0 where
  bottom : below_in (inner_segments p) v ≡ [] → Below p v
  lower : (w : ℕ) (ws : List ℕ) → below_in (inner_segments p) v ≡ w ∷ ws → Below p v

below : (p : PlanData) (v : ℕ) → Below p v
below p v = go (below_in (inner_segments p) v) refl
  where
    go : (ws : List ℕ) → below_in (inner_segments p) v ≡ ws → Below p v
    go [] e = bottom e
    go (w ∷ ws) e = lower w ws e

module _ (p : PlanData) (S : Sound p) where
  pub low : (v : ℕ) → 1 ≤ level_of p v
  unfolding level_of
  low v = level-low p.sizes v

  pub high : (v : ℕ) → v < vertex_count p → level_of p v ≤ p.levels
  unfolding level_of
  high v h = let e = S.limits.sizes_sum in let k = level-high p.sizes v (omega arith) in let l = S.limits.sizes_long in omega arith

  pub link : (u v : ℕ) → Joined (inner_segments p) u v → Link p u v
  link u v j = let d = S.inner_down j.segment j.listed in record {
    upper_in = rw j.above_is at d.upper_in;
    lower_in = rw j.below_is at d.lower_in;
    down = rw (j.above_is, j.below_is) at d.one_down;
    joined = j;
  }

  pub link_up : (u u' v : ℕ) → Link p u v → Link p u' v → u ≡ u'
  link_up u u' v l m = sym l.joined.above_is ∙ S.one_up l.joined.segment m.joined.segment l.joined.listed m.joined.listed (l.joined.below_is ∙ sym m.joined.below_is) ∙ m.joined.above_is

  pub link-down : (u v v' : ℕ) → Link p u v → Link p u v' → v ≡ v'
  link-down u v v' l m = sym l.joined.below_is ∙ S.one_down l.joined.segment m.joined.segment l.joined.listed m.joined.listed (l.joined.above_is ∙ sym m.joined.above_is) ∙ m.joined.below_is

  -- check 6
  pub link-order : (u u' v v' : ℕ) → Link p u v → Link p u' v' → level_of p u ≡ level_of p u' → u < u' → v ≤ v'
  link-order u u' v v' l m e h =
      let a = l.joined.above_is in let b = m.joined.above_is in
      rw (l.joined.below_is, m.joined.below_is) at (S.uncrossed l.joined.segment m.joined.segment l.joined.listed m.joined.listed
      (ap (level_of p) a ∙ e ∙ ap (level_of p) (sym b)) (omega arith))

  above-link : (u v : ℕ) (us : List ℕ) → above_in (inner_segments p) v ≡ u ∷ us → Link p u v
  above-link u v us e = link u v (mem-above (inner_segments p) u v (rw e (inl refl)))

  below-link : (u v : ℕ) (vs : List ℕ) → below_in (inner_segments p) u ≡ v ∷ vs → Link p u v
  below-link u v vs e = link u v (mem_below (inner_segments p) u v (rw e (inl refl)))

  link-above : (u v : ℕ) → Link p u v → Mem u (above_in (inner_segments p) v)
  link-above u v l = rw (l.joined.above_is, l.joined.below_is) at (above-mem (inner_segments p) l.joined.segment l.joined.listed)

  link-below : (u v : ℕ) → Link p u v → Mem v (below_in (inner_segments p) u)
  link-below u v l = rw (l.joined.above_is, l.joined.below_is) at (below-mem (inner_segments p) l.joined.segment l.joined.listed)

  -- ---- tops
  pub top-none : (m v : ℕ) → above_in (inner_segments p) v ≡ [] → top_from (inner_segments p) m v ≡ v
  unfolding top_from
  top-none zero v e = refl
  top-none (suc m) v e = rw e (top-none m v e)

  top-link : (m u v : ℕ) → Link p u v → top_from (inner_segments p) (suc m) v ≡ top_from (inner_segments p) m u
  unfolding top_from
  top-link m u v l = go (above p v)
    where
      go : Above p v → top_from (inner_segments p) (suc m) v ≡ top_from (inner_segments p) m u
      go (nothing e) = absurd (rw e at (link-above u v l))
      go (upper w ws e) = rw e (ap (top_from (inner_segments p) m) (link_up w u v (above-link w v ws e) l))

  -- from as high as there are levels, more steps change nothing
  top-more : (m v : ℕ) → level_of p v ≤ suc m → top_from (inner_segments p) (suc m) v ≡ top_from (inner_segments p) m v
  top-more zero v h = go (above p v)
    where
      go : Above p v → top_from (inner_segments p) 1 v ≡ top_from (inner_segments p) 0 v
      go (nothing e) = top-none 1 v e ∙ sym (top-none 0 v e)
      go (upper u us e) = absurd (omega (arith, (above-link u v us e).down, low u))
  top-more (suc m) v h = go (λ u k. top-more m u k) (above p v)
    where
      go : ((u : ℕ) → level_of p u ≤ suc m → top_from (inner_segments p) (suc m) u ≡ top_from (inner_segments p) m u) → Above p v → top_from (inner_segments p) (suc (suc m)) v ≡ top_from (inner_segments p) (suc m) v
      go f (nothing e) = top-none (suc (suc m)) v e ∙ sym (top-none (suc m) v e)
      go f (upper u us e) = let l = above-link u v us e in top-link (suc m) u v l ∙ f u (omega (arith, l.down)) ∙ sym (top-link m u v l)

  top-at : (m u v : ℕ) → level_of p v ≤ m → Link p u v → top_from (inner_segments p) m v ≡ top_from (inner_segments p) m u
  top-at zero u v h l = absurd (omega (arith, low v))
  top-at (suc m) u v h l = top-link m u v l ∙ sym (top-more m u (omega (arith, l.down)))

  pub link-top : (u v : ℕ) → Link p u v → top_of p v ≡ top_of p u
  link-top u v l = top-at p.levels u v (high v l.lower_in) l

  pub top-low : (m v : ℕ) → level_of p (top_from (inner_segments p) m v) ≤ level_of p v
  unfolding top_from
  top-low zero v = omega arith
  top-low (suc m) v = go (λ u. top-low m u) (above p v)
    where
      go : ((u : ℕ) → level_of p (top_from (inner_segments p) m u) ≤ level_of p u) → Above p v → level_of p (top_from (inner_segments p) (suc m) v) ≤ level_of p v
      go f (nothing e) = rw e (f v)
      go f (upper u us e) = rw e (omega (arith, f u, (above-link u v us e).down))

  pub top_in : (m v : ℕ) → v < vertex_count p → top_from (inner_segments p) m v < vertex_count p
  unfolding top_from
  top_in zero v h = h
  top_in (suc m) v h = go (λ u k. top_in m u k) (above p v)
    where
      go : ((u : ℕ) → u < vertex_count p → top_from (inner_segments p) m u < vertex_count p) → Above p v → top_from (inner_segments p) (suc m) v < vertex_count p
      go f (nothing e) = rw e (f v h)
      go f (upper u us e) = rw e (f u (above-link u v us e).upper_in)

  pub top-twice : (m v : ℕ) → top_of p (top_from (inner_segments p) m v) ≡ top_of p v
  unfolding top_from
  top-twice zero v = refl
  top-twice (suc m) v = go (λ u. top-twice m u) (above p v)
    where
      go : ((u : ℕ) → top_of p (top_from (inner_segments p) m u) ≡ top_of p u) → Above p v → top_of p (top_from (inner_segments p) (suc m) v) ≡ top_of p v
      go f (nothing e) = rw e (f v)
      go f (upper u us e) = rw e (f u ∙ sym (link-top u v (above-link u v us e)))

  -- a vertex below its top has a neighbour above in its strand
  pub parent : (v : ℕ) → level_of p (top_of p v) < level_of p v → (u : ℕ) × Link p u v
  parent v h = go (above p v)
    where
      go : Above p v → (u : ℕ) × Link p u v
      go (nothing e) = absurd (omega (arith, ap (level_of p) (top-none p.levels v e)))
      go (upper u us e) = (u, above-link u v us e)

  once-at : (m v w : ℕ) → level_of p v ≤ m → top_of p v ≡ top_of p w → level_of p v ≡ level_of p w → v ≡ w
  once-at zero v w h t e = absurd (omega (arith, low v))
  once-at (suc m) v w h t e = go (λ u u' a b c. once-at m u u' a b c) (above p v) (above p w)
    where
      go : ((u u' : ℕ) → level_of p u ≤ m → top_of p u ≡ top_of p u' → level_of p u ≡ level_of p u' → u ≡ u') → Above p v → Above p w → v ≡ w
      go f (nothing a) (nothing b) = sym (top-none p.levels v a) ∙ t ∙ top-none p.levels w b
      go f (nothing a) (upper u us b) = let l = above-link u w us b in
          absurd (omega (arith, ap (level_of p) (top-none p.levels v a), ap (level_of p) t, ap (level_of p) (link-top u w l), top-low p.levels u, l.down))
      go f (upper u us a) (nothing b) = let l = above-link u v us a in
          absurd (omega (arith, ap (level_of p) (top-none p.levels w b), ap (level_of p) t, ap (level_of p) (link-top u v l), top-low p.levels u, l.down))
      go f (upper u us a) (upper u' us' b) = let l = above-link u v us a in let l' = above-link u' w us' b in
          let q = f u u' (omega (arith, l.down)) (sym (link-top u v l) ∙ t ∙ link-top u' w l') (omega (arith, l.down, l'.down)) in
          link-down u v w l (rw q l')

  -- a strand has one vertex on a level
  pub once : (v w : ℕ) → top_of p v ≡ top_of p w → level_of p v ≡ level_of p w → v ≡ w
  once v w t e = once-at (level_of p v) v w (omega arith) t e

  pub top-same : (v : ℕ) → level_of p (top_of p v) ≡ level_of p v → top_of p v ≡ v
  top-same v e = once (top_of p v) v (top-twice p.levels v) e

  -- ---- strands
  chain-in : (m t w : ℕ) → t < vertex_count p → Mem w (chain_from (inner_segments p) m t) → (w < vertex_count p) × (top_of p w ≡ top_of p t)
  unfolding chain_from
  chain-in zero t w h (inl e) = (omega arith, ap (top_of p) e)
  chain-in zero t w h (inr n) = absurd n
  chain-in (suc m) t w h (inl e) = (omega arith, ap (top_of p) e)
  chain-in (suc m) t w h (inr n) = go (λ x k j. chain-in m x w k j) (below p t)
    where
      go : ((x : ℕ) → x < vertex_count p → Mem w (chain_from (inner_segments p) m x) → (w < vertex_count p) × (top_of p w ≡ top_of p x)) → Below p t → (w < vertex_count p) × (top_of p w ≡ top_of p t)
      go f (bottom e) = absurd (rw e at n)
      go f (lower x xs e) = let l = below-link t x xs e in let r = f x l.lower_in (rw e at n) in (r.0, r.1 ∙ link-top t x l)

  chain_head : (m t : ℕ) → Mem t (chain_from (inner_segments p) m t)
  unfolding chain_from
  chain_head zero t = inl refl
  chain_head (suc m) t = inl refl

  chain_more : (m t x w : ℕ) → Mem x (chain_from (inner_segments p) m t) → Link p x w → level_of p w ≤ level_of p t + m → Mem w (chain_from (inner_segments p) m t)
  unfolding chain_from
  chain_more zero t x w (inl e) l h = absurd (omega (arith, l.down, ap (level_of p) e))
  chain_more zero t x w (inr n) l h = absurd n
  chain_more (suc m) t x w (inl e) l h = inr (go (below p t))
    where
      go : Below p t → Mem w (follow (λ w. chain_from (inner_segments p) m w) (below_in (inner_segments p) t))
      go (bottom d) = absurd (rw d at (link-below t w (rw e at l)))
      go (lower y ys d) = rw (d, link-down t y w (below-link t y ys d) (rw e at l)) (chain_head m w)
  chain_more (suc m) t x w (inr n) l h = inr (go (λ y j k. chain_more m y x w j l k) (below p t))
    where
      go : ((y : ℕ) → Mem x (chain_from (inner_segments p) m y) → level_of p w ≤ level_of p y + m → Mem w (chain_from (inner_segments p) m y)) → Below p t → Mem w (follow (λ w. chain_from (inner_segments p) m w) (below_in (inner_segments p) t))
      go f (bottom d) = absurd (rw d at n)
      go f (lower y ys d) = rw d (f y (rw d at n) (omega (arith, (below-link t y ys d).down)))

  own_at : (m v : ℕ) → level_of p v ≤ m → v < vertex_count p → Mem v (chain_from (inner_segments p) p.levels (top_of p v))
  own_at zero v h k = absurd (omega (arith, low v))
  own_at (suc m) v h k = go (λ u a b. own_at m u a b) (above p v)
    where
      go : ((u : ℕ) → level_of p u ≤ m → u < vertex_count p → Mem u (chain_from (inner_segments p) p.levels (top_of p u))) → Above p v → Mem v (chain_from (inner_segments p) p.levels (top_of p v))
      go f (nothing e) = rw (top-none p.levels v e) (chain_head p.levels v)
      go f (upper u us e) = let l = above-link u v us e in
          rw (link-top u v l) (chain_more p.levels (top_of p u) u v (f u (omega (arith, l.down)) l.upper_in) l (omega (arith, high v k)))

  -- the members of a strand are the vertices with its top
  pub in-strand : (v w : ℕ) → w < vertex_count p → top_of p w ≡ top_of p v → Mem w (strand_at p v)
  unfolding strand_in
  in-strand v w h e = rw (← e) (own_at (level_of p w) w (omega arith) h)

  pub strand-in : (v w : ℕ) → v < vertex_count p → Mem w (strand_at p v) → (w < vertex_count p) × (top_of p w ≡ top_of p v)
  unfolding strand_in
  strand-in v w h m = let r = chain-in p.levels (top_of p v) w (top_in p.levels v h) m in (r.0, r.1 ∙ top-twice p.levels v)

  chain-descends : (m t : ℕ) → Descends p (level_of p t) (chain_from (inner_segments p) m t)
  unfolding chain_from
  chain-descends zero t = then {v = t} refl no_more
  chain-descends (suc m) t = then {v = t} refl (go (λ x. chain-descends m x) (below p t))
    where
      go : ((x : ℕ) → Descends p (level_of p x) (chain_from (inner_segments p) m x)) → Below p t → Descends p (suc (level_of p t)) (follow (λ w. chain_from (inner_segments p) m w) (below_in (inner_segments p) t))
      go f (bottom e) = rw e no_more
      go f (lower x xs e) = let q : level_of p x ≡ suc (level_of p t) = omega (arith, (below-link t x xs e).down) in rw (e, ← q) (f x)

  pub strand-descends : (v : ℕ) → Descends p (level_of p (top_of p v)) (strand_at p v)
  unfolding strand_in
  strand-descends v = chain-descends p.levels (top_of p v)

  -- all its members have the same strand
  pub strand-same : (v w : ℕ) → v < vertex_count p → Mem w (strand_at p v) → strand_at p w ≡ strand_at p v
  unfolding strand_in
  strand-same v w h m = ap (chain_from (inner_segments p) p.levels) (strand-in v w h m).1

  -- a box is its own strand
  not-inner : (v : ℕ) → is_via p v ≡ false → (s : Segment) → Mem s (inner_segments p) → (s.upper ≡ v → ⊥) × (s.lower ≡ v → ⊥)
  not-inner v b s m = let i = S.inner_vias s m in
      (λ e. true≢false (sym i.0 ∙ ap (is_via p) e ∙ b), λ e. true≢false (sym i.1 ∙ ap (is_via p) e ∙ b))

  pub box-top : (v : ℕ) → is_via p v ≡ false → top_of p v ≡ v
  box-top v b = go (above p v)
    where
      go : Above p v → top_of p v ≡ v
      go (nothing e) = top-none p.levels v e
      go (upper u us e) = let j = (above-link u v us e).joined in absurd ((not-inner v b j.segment j.listed).1 j.below_is)

  chain-one : (m v : ℕ) → below_in (inner_segments p) v ≡ [] → chain_from (inner_segments p) m v ≡ v ∷ []
  unfolding chain_from
  chain-one zero v e = refl
  chain-one (suc m) v e = rw e

  pub box-strand : (v : ℕ) → is_via p v ≡ false → strand_at p v ≡ v ∷ []
  unfolding strand_in
  box-strand v b = rw (box-top v b) (go (below p v))
    where
      go : Below p v → chain_from (inner_segments p) p.levels v ≡ v ∷ []
      go (bottom e) = chain-one p.levels v e
      go (lower w ws e) = let j = (below-link v w ws e).joined in absurd ((not-inner v b j.segment j.listed).0 j.above_is)

  -- ---- as many steps as there are levels are enough: more of them change no strand
  chain-ends : (m t : ℕ) → p.levels ≤ level_of p t + m → chain_from (inner_segments p) (suc m) t ≡ chain_from (inner_segments p) m t
  unfolding chain_from
  chain-ends zero t h = go (below p t)
    where
      go : Below p t → chain_from (inner_segments p) 1 t ≡ t ∷ []
      go (bottom e) = rw e
      go (lower w ws e) = let l = below-link t w ws e in absurd (omega (arith, l.down, high w l.lower_in))
  chain-ends (suc m) t h = ap (λ ws. t ∷ ws) (go (λ w k. chain-ends m w k) (below p t))
    where
      go : ((w : ℕ) → p.levels ≤ level_of p w + m → chain_from (inner_segments p) (suc m) w ≡ chain_from (inner_segments p) m w) → Below p t
          → follow (λ w. chain_from (inner_segments p) (suc m) w) (below_in (inner_segments p) t) ≡ follow (λ w. chain_from (inner_segments p) m w) (below_in (inner_segments p) t)
      go f (bottom e) = rw e
      go f (lower w ws e) = rw e (f w (omega (arith, (below-link t w ws e).down)))

  pub strand-enough : (n v : ℕ) → v < vertex_count p → p.levels ≤ n → strand_in (inner_segments p) n v ≡ strand_at p v
  unfolding strand_in
  strand-enough zero v h k = absurd (omega (arith, low v, high v h))
  strand-enough (suc n) v h k = cases (suc n) p.levels
      (λ i. let e : suc n ≡ p.levels = omega arith in ap (λ m. strand_in (inner_segments p) m v) e)
      (λ i. ap (chain_from (inner_segments p) (suc n)) (top-more n v (omega (arith, high v h)))
      ∙ chain-ends n (top_from (inner_segments p) n v) (omega arith) ∙ strand-enough n v h (omega arith))
