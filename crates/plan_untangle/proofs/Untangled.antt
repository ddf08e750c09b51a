-- The untangled plan has no crossings, and passes every other check that the plan passed. A plan without crossings stays.
-- Assumes nothing.
use Prim.Native.Nat.{ℕ, zero, suc, ◌+◌, ◌-◌, ◌<◌, ◌≤◌}
use mathlib.Core.Path.{◌≡◌, refl, sym, ◌∙◌, ap}
use mathlib.Core.Logic.{inl, inr}
use mathlib.Core.Bool.{Bool, true, false, not, ◌&&◌}
use mathlib.Core.List.{List, [], ◌∷◌}
use native.Mathlib.Omega.{arith}
use borrow.Author.Tests.{ne_eqb, ltb-true}
use lib.Dec.{ltb}
use Rattle.ints.specs.Refusals.{none_refuses}
use Rattle.ints.proofs.Laws.{cases, if-ind}
use Rattle.ints.specs.inner.Members.{Mem}
use Rattle.sorting.specs.inner.Words.{Rising}
use Rattle.sorting.proofs.Shares.{share-stays, chosen-order, chosen-sorted}
use Rattle.plan.specs.Plan.{PlanData, vertex_count, is_via, numbers, level_of}
use Rattle.plan.specs.Segments.{Segment, segments_of, is_inner, inner_in, inner_segments}
use Rattle.plan.specs.Checks.{any, check3, check4, check5, crosses, check6, checks_of}
use Rattle.plan.specs.Acceptable.{limits_hold, acceptable}
use Rattle.ints.proofs.Tests.{test, ◌and◌, and_left, and_right}
use Rattle.plan.proofs.LevelLaws.{level-low, level-high}
use Rattle.plan.proofs.GraphLaws.{Checked, checked, checks-pass}
use Rattle.plan.proofs.LimitLaws.{Limits, limits}
use Rattle.plan.proofs.Sound.{Joined, sound, goes, inner-in, numbers-mem}
use Rattle.plan_renumber.specs.Renumber.{place_in, inverse, moved, renumbered, own_numbers}
use Rattle.plan_renumber.proofs.Places.{new-below, old-new, place-number}
use Rattle.plan_renumber.proofs.Own.{own-test, new-level}
use Rattle.plan_renumber.proofs.Kept.{AllDown, via-same, level-same, segments-are, moved-from, limits-kept, check3-kept, check4-kept, check5-kept}
use Rattle.plan_renumber.proofs.Back.{renumbered-same, renumbered-back, own-kept}
use Rattle.plan_untangle.specs.Order.{upper_end, shares, order_to, order, untangled}
use Rattle.plan_untangle.proofs.Orders.{shares-level, shares-via, shares-upper, shares-make, key_by, order-start, order-step, order-own, upper-joined, upper_in, upper-level, upper_is, order-sorted}

-- ---- lists of tests
any_none : {A : Type 0} (t : A → Bool) (xs : List A) → ((x : A) → Mem x xs → t x ≡ false) → any t xs ≡ false
unfolding any
any_none t [] f = refl
any_none t (x ∷ xs) f = rw (f x (inl refl)) (any_none t xs (λ y m. f y (inr m)))

module _ (p : PlanData) where
  to_inner : (ss : List Segment) (s : Segment) → Mem s ss → is_inner p s ≡ true → Mem s (inner_in p ss)
  unfolding inner_in
  to_inner [] s m i = absurd m
  to_inner (t ∷ ss) s (inl e) i = rw (ap (is_inner p) (sym e) ∙ i) (inl e)
  to_inner (t ∷ ss) s (inr m) i = if-ind (is_inner p t) (t ∷ inner_in p ss) (inner_in p ss) (λ l. Mem s l) (λ j. inr (to_inner ss s m i)) (λ j. to_inner ss s m i)

  -- no two inner segments cross
  abbrev pub Uncrossed : Type 0
  Uncrossed = (s t : Segment) → Mem s (inner_segments p) → Mem t (inner_segments p) → level_of p s.upper ≡ level_of p t.upper → s.upper < t.upper → s.lower ≤ t.lower

  pub uncrossed-check : Uncrossed → check6 p ≡ true
  unfolding check6 crosses
  uncrossed-check f = ap not (any_none (λ s. any (crosses p s) (inner_segments p)) (inner_segments p) (λ s m.
      any_none (crosses p s) (inner_segments p) (λ t n. test (ltb s.upper t.upper && ltb t.lower s.lower)
      (λ e. rw e (ne_eqb (level_of p s.upper) (level_of p t.upper) (λ q.
      let a = ltb-true s.upper t.upper (and_left (ltb s.upper t.upper) (ltb t.lower s.lower) e) in
      let b = ltb-true t.lower s.lower (and_right (ltb s.upper t.upper) (ltb t.lower s.lower) e) in
      omega (arith, f s t m n q a))))
      (λ e. rw e))))

-- ---- no crossings
module _ (p : PlanData) (l : Limits p) (d : AllDown p) (c : check5 p ≡ true) where
  -- the inner segment of which one of the untangled plan was made
  record Made (s : Segment) : Type 0 where
    old : Segment
    listed : Mem old (segments_of p)
    «is» : s ≡ moved (order p) old
    upper-via : is_via p old.upper ≡ true
    lower-via : is_via p old.lower ≡ true

  made : (s : Segment) → Mem s (inner_segments (untangled p)) → Made s
  unfolding untangled inner_segments
  made s k =
      let o = order-own p in
      let n = vertex_count p in
      let q = inner-in (renumbered p (order p)) (segments_of (renumbered p (order p))) s k in
      let r = moved-from p (order p) s (rw (segments-are p (order p) l) at q.0) in
      let a = d r.0 r.1 in
      let via : (v : ℕ) → v < n → is_via (renumbered p (order p)) (place_in (order p) v) ≡ is_via p v = λ v h.
      via-same p (order p) (place_in (order p) v) (omega (arith, new-below n (order p) o.once v h, o.once.long)) ∙ ap (λ (u : ℕ). is_via p u) (old-new n (order p) o.once v h) in
      let i : is_inner (renumbered p (order p)) (moved (order p) r.0) ≡ true = ap (is_inner (renumbered p (order p))) (sym r.2) ∙ q.1 in
      let up = is_via (renumbered p (order p)) (place_in (order p) r.0.upper) in
      let low = is_via (renumbered p (order p)) (place_in (order p) r.0.lower) in
      record {
        old = r.0;
        listed = r.1;
        «is» = r.2;
        upper-via = sym (via r.0.upper a.upper_in) ∙ and_left up low i;
        lower-via = sym (via r.0.lower a.lower_in) ∙ and_right up low i;
      }

  -- two of them that join the same levels
  straight : (a b : Segment) → Mem a (segments_of p) → Mem b (segments_of p) → is_via p a.upper ≡ true → is_via p a.lower ≡ true
      → is_via p b.upper ≡ true → is_via p b.lower ≡ true → level_of p a.upper ≡ level_of p b.upper
      → place_in (order p) a.upper < place_in (order p) b.upper → place_in (order p) a.lower ≤ place_in (order p) b.lower
  unfolding order level_of
  straight a b ma mb au al bu bl e h = cases (place_in (order p) a.lower) (place_in (order p) b.lower) (λ j. j) (λ j.
      let m = order p in
      let n = vertex_count p in
      let o = order-own p in
      let da = d a ma in
      let db = d b mb in
      let k = level_of p a.lower - 2 in
      let low = level-low p.sizes a.upper in
      let high = level-high p.sizes a.lower (omega (arith, da.lower_in, l.sizes_sum)) in
      let la : level_of p a.lower ≡ suc (suc k) = omega (arith, da.one_down) in
      let lb : level_of p b.lower ≡ suc (suc k) = omega (arith, da.one_down, db.one_down) in
      let ua = upper_is p d c a ma al in
      let ub = upper_is p d c b mb bl in
      let sa : shares p (suc (suc k)) a.lower ≡ true = shares-make p (suc (suc k)) a.lower la al (ap (λ (u : ℕ). is_via p u) ua ∙ au) in
      let sb : shares p (suc (suc k)) b.lower ≡ true = shares-make p (suc (suc k)) b.lower lb bl (ap (λ (u : ℕ). is_via p u) ub ∙ bu) in
      let oa = old-new n m o.once a.lower da.lower_in in
      let ob = old-new n m o.once b.lower db.lower_in in
      let t = shares p (suc (suc k)) in
      let sorted = order-sorted p d c (p.levels - 1) k (omega (arith, da.one_down, l.sizes_long)) in
      let ord = chosen-order t (key_by p m) 0 m sorted (place_in m b.lower) (place_in m a.lower) j
      (omega (arith, new-below n m o.once a.lower da.lower_in, o.once.long)) (ap t ob ∙ sb) (ap t oa ∙ sa) in
      absurd (omega (arith, ord, ap (key_by p m) oa, ap (key_by p m) ob, ap (place_in m) ua, ap (place_in m) ub)))

  pub untangled-uncrossed : Uncrossed (untangled p)
  unfolding untangled
  untangled-uncrossed s t a b e h =
      let m = order p in
      let o = order-own p in
      let x = made s a in
      let y = made t b in
      let level : (z : Segment) → (w : Made z) → level_of (renumbered p m) z.upper ≡ level_of p w.old.upper = λ z w.
      level-same p m z.upper ∙ ap (λ (r : Segment). level_of p r.upper) w.«is» ∙ new-level p m o w.old.upper (d w.old w.listed).upper_in in
      let f = straight x.old y.old x.listed y.listed x.upper-via x.lower-via y.upper-via y.lower-via
      (sym (level s x) ∙ e ∙ level t y)
      (omega (arith, ap (λ (r : Segment). r.upper) x.«is», ap (λ (r : Segment). r.upper) y.«is»)) in
      omega (arith, ap (λ (r : Segment). r.lower) x.«is», ap (λ (r : Segment). r.lower) y.«is»)

-- ---- so every check passes that passed, and check 6
module _ (p : PlanData) (q : limits_hold p ≡ true) (c3 : check3 p ≡ true) (c4 : check4 p ≡ true) (c5 : check5 p ≡ true) where
  pub untangled-acceptable : acceptable (untangled p) ≡ true
  unfolding acceptable untangled
  untangled-acceptable =
      let m = order p in
      let o = order-own p in
      limits-kept p m q o.once and checks-pass (renumbered p m) (record {
        three = check3-kept p m q c3 o;
        four = check4-kept p m q c3 c4 o;
        five = check5-kept p m q c3 c5 o;
        six = uncrossed-check (renumbered p m) (untangled-uncrossed p (limits p q) (goes p c3) c5);
      })

  -- numbered back by its order it is the plan again
  pub untangled-back : renumbered (untangled p) (inverse (order p)) ≡ p
  unfolding untangled
  untangled-back = renumbered-back p (order p) (order-own p) q c3 c4

-- the numbers in the text are own numbers of the untangled plan
pub untangled-own : (p : PlanData) → own_numbers (untangled p) (order p) ≡ true
unfolding untangled
untangled-own p = own-test (renumbered p (order p)) (order p) (own-kept p (order p) (order-own p))

-- ---- a plan without crossings stays
numbers-rising : (a n : ℕ) → Rising (λ v. v) (numbers a n)
unfolding numbers
numbers-rising a zero = tt
numbers-rising a (suc n) = (λ v k. omega (arith, numbers-mem (a + 1) n v k), numbers-rising (a + 1) n)

module _ (p : PlanData) (q : acceptable p ≡ true) where
  pass : Checked p
  unfolding acceptable
  pass = checked p (and_right (limits_hold p) (none_refuses (checks_of p)) q)

  in-limits : limits_hold p ≡ true
  unfolding acceptable
  in-limits = and_left (limits_hold p) (none_refuses (checks_of p)) q

  -- of two on a level that share, the upper ends stand in order already
  upper-order : (l v w : ℕ) → v < vertex_count p → w < vertex_count p → shares p l v ≡ true → shares p l w ≡ true → v < w → upper_end p v ≤ upper_end p w
  unfolding inner_segments
  upper-order l v w hv hw sv sw h =
      let s = sound p q in
      let d = goes p pass.three in
      let c = pass.five in
      let ss = segments_of p in
      let j = upper-joined p d c v hv (shares-via p l v sv) in
      let k = upper-joined p d c w hw (shares-via p l w sw) in
      let inner : (v : ℕ) → shares p l v ≡ true → (j : Joined ss (upper_end p v) v) → Mem j.segment (inner_in p ss) = λ v e j.
      to_inner p ss j.segment j.listed
      ((ap (λ (u : ℕ). is_via p u) j.above_is ∙ shares-upper p l v e) and (ap (λ (u : ℕ). is_via p u) j.below_is ∙ shares-via p l v e)) in
      let same : level_of p k.segment.upper ≡ level_of p j.segment.upper =
      omega (
        arith,
        upper-level p d c v hv (shares-via p l v sv),
        upper-level p d c w hw (shares-via p l w sw),
        shares-level p l v sv,
        shares-level p l w sw,
        ap (level_of p) k.above_is,
        ap (level_of p) j.above_is,
      ) in
      cases (upper_end p v) (upper_end p w) (λ x. x)
      (λ x. absurd (omega (arith, s.uncrossed k.segment j.segment (inner w sw k) (inner v sv j) same (omega (arith, k.above_is, j.above_is)), k.below_is, j.below_is)))

  order-stays : (l : ℕ) → order_to p l ≡ numbers 0 (vertex_count p)
  order-stays zero = order-start p
  order-stays (suc l) =
      let n = vertex_count p in
      let d = goes p pass.three in
      let t = shares p (suc (suc l)) in
      rw (order-step p l, order-stays l)
      (share-stays t (key_by p (numbers 0 n)) (numbers 0 n) (chosen-sorted t (key_by p (numbers 0 n)) (numbers 0 n) (numbers-rising 0 n)
      (λ v w a b sv sw h.
      let hv : v < n = omega (arith, numbers-mem 0 n v a) in
      let hw : w < n = omega (arith, numbers-mem 0 n w b) in
      omega (
        arith,
        place-number n (upper_end p v) (upper_in p d pass.five v hv (shares-via p (suc (suc l)) v sv)),
        place-number n (upper_end p w) (upper_in p d pass.five w hw (shares-via p (suc (suc l)) w sw)),
        upper-order (suc (suc l)) v w hv hw sv sw h,
      ))))

  pub order_is : order p ≡ numbers 0 (vertex_count p)
  unfolding order
  order_is = order-stays (p.levels - 1)

  pub untangled-stays : untangled p ≡ p
  unfolding untangled
  untangled-stays = rw order_is (renumbered-same p in-limits pass.three pass.four)
