-- What the checks say of a plan that passes them, as plain facts: its limits, its levels, and its inner segments. Assumes nothing.
use mathlib.Core.Path.{◌≡◌, refl, sym, ◌∙◌, ap}
use mathlib.Core.Logic.{◌⊎◌, inl, inr}
use mathlib.Core.Bool.{Bool, true, false, cond, true≢false}
use mathlib.Core.List.{List, [], ◌∷◌, ◌++◌}
use Prim.Native.Nat.{ℕ, zero, suc, ◌+◌, ◌≤◌, ◌<◌}
use native.Mathlib.Omega.{arith}
use lib.Dec.{eqb}
use lib.ListN.{length}
use borrow.Author.Tests.{eqb-true, lt-ltb, eq-eqb, not-true}
use Rattle.ints.specs.Refusals.{none_refuses}
use Rattle.ints.specs.inner.Members.{Mem}
use Rattle.ints.proofs.Laws.{if-ind, cases}
use Rattle.plan.specs.Plan.{PlanData, vertex_count, is_via, distance, numbers, level_of}
use Rattle.plan.specs.Segments.{Segment, segments_of, above_in, below_in, is_inner, inner_in, inner_segments}
use Rattle.plan.specs.Checks.{every, any, goes_one_down, check3, rising, check4, check5, is_through, crosses, check6, checks_of}
use Rattle.plan.specs.inner.Graph.{Within}
use Rattle.plan.specs.Acceptable.{limits_hold, acceptable}
use Rattle.ints.proofs.Tests.{and_left, and_right, cond-left, cond-right}
use Rattle.plan.proofs.LimitLaws.{Limits, limits}
use Rattle.plan.proofs.GraphLaws.{Down, down-of, within_of, checked, same-3}

-- ---- tests of members
or_left : (a b : Bool) → cond a true b ≡ false → a ≡ false
or_left true b e = e
or_left false b e = refl

or_right : (a b : Bool) → cond a true b ≡ false → b ≡ false
or_right true b e = absurd (true≢false e)
or_right false b e = e

module _ {A : Type 0} where
  pub every_in : (t : A → Bool) (xs : List A) (x : A) → every t xs ≡ true → Mem x xs → t x ≡ true
  unfolding every
  every_in t [] x e m = absurd m
  every_in t (y ∷ ys) x e (inl q) = ap t q ∙ cond-left (t y) (every t ys) e
  every_in t (y ∷ ys) x e (inr m) = every_in t ys x (cond-right (t y) (every t ys) e) m

  pub every-make : (t : A → Bool) (xs : List A) → ((x : A) → Mem x xs → t x ≡ true) → every t xs ≡ true
  unfolding every
  every-make t [] f = refl
  every-make t (y ∷ ys) f = rw (f y (inl refl)) (every-make t ys (λ x m. f x (inr m)))

  pub some-none : (t : A → Bool) (xs : List A) (x : A) → any t xs ≡ false → Mem x xs → t x ≡ false
  unfolding any
  some-none t [] x e m = absurd m
  some-none t (y ∷ ys) x e (inl q) = ap t q ∙ or_left (t y) (any t ys) e
  some-none t (y ∷ ys) x e (inr m) = some-none t ys x (or_right (t y) (any t ys) e) m

  pub mem-one : (xs : List A) (a b : A) → length xs ≡ 1 → Mem a xs → Mem b xs → a ≡ b
  mem-one [] a b e m n = absurd m
  mem-one (x ∷ []) a b e (inl q) (inl r) = q ∙ sym r
  mem-one (x ∷ []) a b e (inl q) (inr n) = absurd n
  mem-one (x ∷ []) a b e (inr m) n = absurd m
  mem-one (x ∷ y ∷ xs) a b e m n = absurd (omega arith)

  pub mem-left : (xs ys : List A) (a : A) → Mem a xs → Mem a (xs ++ ys)
  mem-left [] ys a m = absurd m
  mem-left (x ∷ xs) ys a (inl e) = inl e
  mem-left (x ∷ xs) ys a (inr m) = inr (mem-left xs ys a m)

  pub mem-right : (xs ys : List A) (a : A) → Mem a ys → Mem a (xs ++ ys)
  mem-right [] ys a m = m
  mem-right (x ∷ xs) ys a m = inr (mem-right xs ys a m)

  pub mem-append : (xs ys : List A) (a : A) → Mem a (xs ++ ys) → Mem a xs ⊎ Mem a ys
  mem-append [] ys a m = inr m
  mem-append (x ∷ xs) ys a (inl e) = inl (inl e)
  mem-append (x ∷ xs) ys a (inr m) = elim (mem-append xs ys a m) [ inl l ↦ inl (inr l) | inr r ↦ inr r ]

pub mem-numbers : (a m v : ℕ) → a ≤ v → v < a + m → Mem v (numbers a m)
unfolding numbers
mem-numbers a zero v h k = absurd (omega arith)
mem-numbers a (suc m) v h k = cases v a (λ j. inl (omega arith)) (λ j. inr (mem-numbers (a + 1) m v (omega arith) (omega arith)))

pub numbers-mem : (a m v : ℕ) → Mem v (numbers a m) → (a ≤ v) × (v < a + m)
unfolding numbers
numbers-mem a zero v n = absurd n
numbers-mem a (suc m) v (inl e) = omega arith
numbers-mem a (suc m) v (inr n) = omega (arith, numbers-mem (a + 1) m v n)

pub distance_high : (p : PlanData) → Limits p → (v w : ℕ) → distance p v w ≤ 500
distance_high p l v w = omega (arith, l.halves_high v, l.halves_high w)

-- ---- segments
module _ (p : PlanData) where
  pub inner-in : (ss : List Segment) (s : Segment) → Mem s (inner_in p ss) → Mem s ss × (is_inner p s ≡ true)
  unfolding inner_in
  inner-in [] s m = absurd m
  inner-in (t ∷ ss) s m = if-ind (is_inner p t) (t ∷ inner_in p ss) (inner_in p ss) (λ l. Mem s l → Mem s (t ∷ ss) × (is_inner p s ≡ true))
      (λ i m. elim m [ inl e ↦ (inl e, ap (is_inner p) e ∙ i) | inr n ↦ (inr (inner-in ss s n).0, (inner-in ss s n).1) ])
      (λ i n. (inr (inner-in ss s n).0, (inner-in ss s n).1)) m

pub above-mem : (ss : List Segment) (s : Segment) → Mem s ss → Mem s.upper (above_in ss s.lower)
unfolding above_in
above-mem [] s m = absurd m
above-mem (t ∷ ss) s (inl e) = rw (eq-eqb t.lower s.lower (ap (λ (x : Segment). x.lower) (sym e))) (inl (ap (λ (x : Segment). x.upper) e))
above-mem (t ∷ ss) s (inr m) = if-ind (eqb t.lower s.lower) (t.upper ∷ above_in ss s.lower) (above_in ss s.lower) (λ l. Mem s.upper l)
    (λ i. inr (above-mem ss s m)) (λ i. above-mem ss s m)

pub below-mem : (ss : List Segment) (s : Segment) → Mem s ss → Mem s.lower (below_in ss s.upper)
unfolding below_in
below-mem [] s m = absurd m
below-mem (t ∷ ss) s (inl e) = rw (eq-eqb t.upper s.upper (ap (λ (x : Segment). x.upper) (sym e))) (inl (ap (λ (x : Segment). x.lower) e))
below-mem (t ∷ ss) s (inr m) = if-ind (eqb t.upper s.upper) (t.lower ∷ below_in ss s.upper) (below_in ss s.upper) (λ l. Mem s.lower l)
    (λ i. inr (below-mem ss s m)) (λ i. below-mem ss s m)

-- the segment that a neighbour above, or below, comes from
pub record Joined (ss : List Segment) (u v : ℕ) : Type 0 where
  pub segment : Segment
  pub listed : Mem segment ss
  pub above_is : segment.upper ≡ u
  pub below_is : segment.lower ≡ v

joined-more : (t : Segment) (ss : List Segment) (u v : ℕ) → Joined ss u v → Joined (t ∷ ss) u v
joined-more t ss u v j = record { segment = j.segment; listed = inr j.listed; above_is = j.above_is; below_is = j.below_is }

pub mem-above : (ss : List Segment) (u v : ℕ) → Mem u (above_in ss v) → Joined ss u v
unfolding above_in
mem-above [] u v m = absurd m
mem-above (t ∷ ss) u v m = if-ind (eqb t.lower v) (t.upper ∷ above_in ss v) (above_in ss v) (λ l. Mem u l → Joined (t ∷ ss) u v)
    (λ i m. elim m [ inl e ↦ record { segment = t; listed = inl refl; above_is = sym e; below_is = eqb-true t.lower v i } | inr n ↦ joined-more t ss u v (mem-above ss u v n) ])
    (λ i m. joined-more t ss u v (mem-above ss u v m)) m

pub mem_below : (ss : List Segment) (u v : ℕ) → Mem v (below_in ss u) → Joined ss u v
unfolding below_in
mem_below [] u v m = absurd m
mem_below (t ∷ ss) u v m = if-ind (eqb t.upper u) (t.lower ∷ below_in ss u) (below_in ss u) (λ l. Mem v l → Joined (t ∷ ss) u v)
    (λ i m. elim m [ inl e ↦ record { segment = t; listed = inl refl; above_is = eqb-true t.upper u i; below_is = sym e } | inr n ↦ joined-more t ss u v (mem_below ss u v n) ])
    (λ i m. joined-more t ss u v (mem_below ss u v m)) m

-- ---- a plan that passes the checks
pub record Sound (p : PlanData) : Type 0 where
  pub limits : Limits p
  -- every end of a segment is a vertex
  pub ends : Within p.vias p.uppers p.lowers
  pub down : (s : Segment) → Mem s (segments_of p) → Down p s
  pub sorted : rising (segments_of p) ≡ true
  -- a via has one neighbour above and one below
  pub through : (v : ℕ) → v < vertex_count p → is_via p v ≡ true → (length (above_in (segments_of p) v) ≡ 1) × (length (below_in (segments_of p) v) ≡ 1)
  pub inner_down : (s : Segment) → Mem s (inner_segments p) → Down p s
  pub inner_vias : (s : Segment) → Mem s (inner_segments p) → (is_via p s.upper ≡ true) × (is_via p s.lower ≡ true)
  -- so inner segments with one end in common have the other in common
  pub one_up : (s t : Segment) → Mem s (inner_segments p) → Mem t (inner_segments p) → s.lower ≡ t.lower → s.upper ≡ t.upper
  pub one_down : (s t : Segment) → Mem s (inner_segments p) → Mem t (inner_segments p) → s.upper ≡ t.upper → s.lower ≡ t.lower
  -- and do not cross
  pub uncrossed : (s t : Segment) → Mem s (inner_segments p) → Mem t (inner_segments p) → level_of p s.upper ≡ level_of p t.upper → s.upper < t.upper → s.lower ≤ t.lower

pub goes : (p : PlanData) → check3 p ≡ true → (s : Segment) → Mem s (segments_of p) → Down p s
unfolding check3
goes p c s m = down-of p s (every_in (goes_one_down p) (segments_of p) s c m)

pub one_each : (p : PlanData) → check5 p ≡ true → (v : ℕ) → v < vertex_count p → is_via p v ≡ true → (length (above_in (segments_of p) v) ≡ 1) × (length (below_in (segments_of p) v) ≡ 1)
unfolding check5 is_through
one_each p c v h i =
    let a = length (above_in (segments_of p) v) in let b = length (below_in (segments_of p) v) in
    let e = every_in (is_through p (segments_of p)) (numbers 0 (vertex_count p)) v c (mem-numbers 0 (vertex_count p) v (omega arith) (omega arith)) in
    let k = rw i at e in
    (eqb-true a 1 (and_left (eqb a 1) (eqb b 1) k), eqb-true b 1 (and_right (eqb a 1) (eqb b 1) k))

uncross : (p : PlanData) → check6 p ≡ true → (s t : Segment) → Mem s (inner_segments p) → Mem t (inner_segments p) → level_of p s.upper ≡ level_of p t.upper → s.upper < t.upper → s.lower ≤ t.lower
unfolding check6 crosses
uncross p c s t m n e h =
    let none = not-true (any (λ s. any (crosses p s) (inner_segments p)) (inner_segments p)) c in
    let k = some-none (crosses p s) (inner_segments p) t (some-none (λ s. any (crosses p s) (inner_segments p)) (inner_segments p) s none m) n in
    cases s.lower t.lower (λ j. j) (λ j. absurd (true≢false (rw (lt-ltb s.upper t.upper h, lt-ltb t.lower s.lower j, eq-eqb (level_of p s.upper) (level_of p t.upper) e) at k)))

pub sound : (p : PlanData) → acceptable p ≡ true → Sound p
unfolding acceptable inner_segments check4
sound p q =
    let pass = checked p (and_right (limits_hold p) (none_refuses (checks_of p)) q) in
    let within = limits p (and_left (limits_hold p) (none_refuses (checks_of p)) q) in
    let goes' = goes p pass.three in
    let place = inner-in p (segments_of p) in
    let via = one_each p pass.five in
    record {
      limits = within;
      ends = within_of p.sizes p.vias p.uppers p.lowers within.lists (sym (same-3 p) ∙ pass.three);
      down = goes';
      sorted = pass.four;
      through = via;
      inner_down = λ s m. goes' s (place s m).0;
      inner_vias = λ s m. (and_left (is_via p s.upper) (is_via p s.lower) (place s m).1, and_right (is_via p s.upper) (is_via p s.lower) (place s m).1);
      one_up = λ s t m n k. mem-one (above_in (segments_of p) s.lower) s.upper t.upper
          (via s.lower (goes' s (place s m).0).lower_in (and_right (is_via p s.upper) (is_via p s.lower) (place s m).1)).0
          (above-mem (segments_of p) s (place s m).0) (rw k (above-mem (segments_of p) t (place t n).0));
      one_down = λ s t m n k. mem-one (below_in (segments_of p) s.upper) s.lower t.lower
          (via s.upper (goes' s (place s m).0).upper_in (and_left (is_via p s.upper) (is_via p s.lower) (place s m).1)).1
          (below-mem (segments_of p) s (place s m).0) (rw k (below-mem (segments_of p) t (place t n).0));
      uncrossed = uncross p pass.six;
    }
