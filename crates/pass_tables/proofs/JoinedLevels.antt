-- Where the via on the preceding level is that is joined to a via: on the level above, or in pass 2 on that below; and so where the
-- table of marks is read, in each pass and on each level. Assumes nothing.
use Prim.Native.Nat.{ℕ, suc, ◌+◌, ◌-◌, ◌≤◌}
use mathlib.Core.Path.{◌≡◌, sym, ◌∙◌, ap, subst}
use mathlib.Core.Bool.{true}
use mathlib.Core.List.{List, [], ◌∷◌}
use mathlib.Core.Logic.{inl, inr}
use mathlib.Core.Option.{none, some}
use native.Mathlib.Omega.{arith}
use borrow.Author.Tests.{eq-eqb, ne_eqb}
use lib.ListN.{take}
use Rattle.ints.specs.Lists.{sum}
use Rattle.ints.proofs.Laws.{if-ind}
use Rattle.plan.specs.Plan.{PlanData, is_via, level_of}
use Rattle.plan.specs.Segments.{Segment, segments_of, above_in, below_in, above, below, is_inner, inner_in, inner_segments}
use Rattle.plan.specs.Acceptable.{acceptable}
use Rattle.plan.specs.inner.Graph.{segment}
use Rattle.ints.specs.inner.Members.{Mem}
use Rattle.plan.proofs.Sound.{mem-above, mem_below, Joined as Segmented, sound as sound-plan}
use Rattle.ints.proofs.Tests.{◌and◌}
use Rattle.ints.proofs.Lists.{take_more}
use Rattle.passes.specs.Ready.{preceding, first_via, joined_via}
use Rattle.plan.specs.inner.Levels.{first_on, size_on, On, HasLevel}
use Rattle.plan.proofs.Levels.{level-on, has-level}
use Rattle.passes.proofs.Sound.{sound, via-vertex}
use Rattle.passes.proofs.Options.{never}
use Rattle.pass_tables.proofs.RunEnds.{same_some}
use Rattle.pass_tables.specs.inner.Moments.{Range}

-- ---- inner segments
inner-mem : (p : PlanData) (ss : List Segment) (s : Segment) → Mem s ss → is_inner p s ≡ true → Mem s (inner_in p ss)
unfolding inner_in
inner-mem p [] s m i = absurd m
inner-mem p (t ∷ ss) s (inl e) i = rw (ap (is_inner p) (sym e) ∙ i) (inl e)
inner-mem p (t ∷ ss) s (inr m) i = if-ind (is_inner p t) (t ∷ inner_in p ss) (inner_in p ss) (Mem s) (λ j. inr (inner-mem p ss s m i)) (λ j. inner-mem p ss s m i)

same-segment : (s : Segment) (u v : ℕ) → s.upper ≡ u → s.lower ≡ v → s ≡ segment u v
same-segment s u v e f = ap (λ (n : ℕ). segment n s.lower) e ∙ ap (segment u) f

inner-segment : (p : PlanData) (u v : ℕ) → Segmented (segments_of p) u v → is_via p u ≡ true → is_via p v ≡ true → Mem (segment u v) (inner_segments p)
unfolding inner_segments
inner-segment p u v j e f = inner-mem p (segments_of p) (segment u v) (subst (λ s. Mem s (segments_of p)) (same-segment j.segment u v j.above_is j.below_is) j.listed) (◌and◌ e f)

-- ---- a via w joined to via v
pub record JoinedTo (p : PlanData) (q v w : ℕ) : Type 0 where
  pub via : is_via p v ≡ true
  pub far : is_via p w ≡ true
  pub down : (q ≡ 2 → ⊥) → Mem (segment w v) (inner_segments p)
  pub up : q ≡ 2 → Mem (segment v w) (inner_segments p)

first-mem : (p : PlanData) (ws : List ℕ) (w : ℕ) → first_via p ws ≡ some w → Mem w ws × (is_via p w ≡ true)
unfolding first_via
first-mem p [] w e = never w e
first-mem p (v ∷ vs) w e = if-ind (is_via p v) (some v) (first_via p vs) (λ o. o ≡ some w → Mem w (v ∷ vs) × (is_via p w ≡ true))
    (λ t f. let z = same_some w v (sym f) in (inl z, ap (is_via p) z ∙ t)) (λ t f. let m = first-mem p vs w f in (inr m.0, m.1)) e

preceding-above : (p : PlanData) (q v : ℕ) → (q ≡ 2 → ⊥) → preceding p q v ≡ above_in (segments_of p) v
unfolding preceding above
preceding-above p q v n = rw (ne_eqb q 2 n)

preceding-below : (p : PlanData) (q v : ℕ) → q ≡ 2 → preceding p q v ≡ below_in (segments_of p) v
unfolding preceding below
preceding-below p q v e = rw (eq-eqb q 2 e)

pub joined_to : (p : PlanData) (q v w : ℕ) → joined_via p q v ≡ some w → JoinedTo p q v w
unfolding joined_via
joined_to p q v w e = if-ind (is_via p v) (first_via p (preceding p q v)) none (λ o. o ≡ some w → JoinedTo p q v w)
    (λ t f. let m = first-mem p (preceding p q v) w f in record {
      via = t;
      far = m.1;
      down = λ n. inner-segment p w v (mem-above (segments_of p) w v (subst (Mem w) (preceding-above p q v n) m.0)) m.1 t;
      up = λ z. inner-segment p v w (mem_below (segments_of p) v w (subst (Mem w) (preceding-below p q v z) m.0)) t m.1;
    })
    (λ t f. never w f) e

-- ---- its level
pub first_next : (p : PlanData) (l : ℕ) → 1 ≤ l → first_on p (suc l) ≡ first_on p l + size_on p l
unfolding first_on size_on
first_next p l h = let e : suc l - 1 ≡ suc (l - 1) = omega arith in ap (λ (k : ℕ). sum (take k p.sizes)) e ∙ take_more p.sizes (l - 1)

module _ (p : PlanData) (ok : acceptable p ≡ true) (q l v w : ℕ) (one : 1 ≤ l) (o : On p l v) (j : joined_via p q v ≡ some w) where
  pub joined-has : HasLevel p w
  joined-has = has-level p w (omega (arith, via-vertex p w (joined_to p q v w j).far, (sound p ok).total))

  pub joined-many : level_of p w ≤ p.levels
  joined-many = omega (arith, joined-has.many, (sound p ok).sizes)

  pub joined-above : (q ≡ 2 → ⊥) → suc (level_of p w) ≡ l
  joined-above n = omega (arith, ((sound-plan p ok).inner_down (segment w v) ((joined_to p q v w j).down n)).one_down, level-on p l v one o)

  pub joined-below : q ≡ 2 → level_of p w ≡ suc l
  joined-below e = omega (arith, ((sound-plan p ok).inner_down (segment v w) ((joined_to p q v w j).up e)).one_down, level-on p l v one o)

module _ (p : PlanData) (ok : acceptable p ≡ true) (q l low high : ℕ) (one : 1 ≤ l) where
  -- on the way down
  pub range-down : (q ≡ 2 → ⊥) → 2 ≤ l → low ≡ first_on p (l - 1) → high ≡ first_on p l → Range p q l low high
  range-down n two e f = record {
    joined = λ v w o j.
        let k : level_of p w ≡ l - 1 = omega (arith, joined-above p ok q l v w one o j n) in
        let s : suc (l - 1) ≡ l = omega arith in
        let g : first_on p l ≡ first_on p (l - 1) + size_on p (l - 1) = ap (first_on p) (sym s) ∙ first_next p (l - 1) (omega arith) in
        (e ∙ ap (first_on p) (sym k), f ∙ g ∙ ap (λ (m : ℕ). first_on p m + size_on p m) (sym k));
    aside = λ v h k o. absurd (omega (arith, o.from));
  }

  pub range-top : (q ≡ 2 → ⊥) → l ≡ 1 → low ≡ high → Range p q l low high
  range-top n e f = record {
    joined = λ v w o j. absurd (omega (arith, joined-above p ok q l v w one o j n, (joined-has p ok q l v w one o j).one));
    aside = λ v h k o. absurd (omega arith);
  }

  -- on the way up
  pub range-up : q ≡ 2 → low ≡ first_on p l + size_on p l → high ≡ low + size_on p (suc l) → Range p q l low high
  range-up z e f = record {
    joined = λ v w o j.
        let k = joined-below p ok q l v w one o j z in
        let g = first_next p l one in
        (e ∙ sym g ∙ ap (first_on p) (sym k), f ∙ ap (λ (m : ℕ). m + size_on p (suc l)) (e ∙ sym g) ∙ ap (λ (m : ℕ). first_on p m + size_on p m) (sym k));
    aside = λ v h k o. absurd (omega (arith, o.to));
  }

  pub range-bottom : q ≡ 2 → l ≡ p.levels → low ≡ high → Range p q l low high
  range-bottom z e f = record {
    joined = λ v w o j. absurd (omega (arith, joined-below p ok q l v w one o j z, joined-many p ok q l v w one o j));
    aside = λ v h k o. absurd (omega arith);
  }
