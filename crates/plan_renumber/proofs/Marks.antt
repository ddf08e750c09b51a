-- The test of remembered numbers by marks: a number that is no vertex, is on another level or was seen before is none of the plan's
-- own; and if none is and every mark is set, each is there once. Assumes nothing.
use Prim.Native.Nat.{ℕ, zero, suc, ◌+◌, ◌<◌}
use mathlib.Core.Path.{◌≡◌, refl, sym, ◌∙◌, ap}
use mathlib.Core.Bool.{Bool, true, false, not, ◌&&◌, true≢false}
use mathlib.Core.List.{List, ◌∷◌}
use native.Mathlib.Omega.{arith}
use native.Mathlib.Numerals.{add-one}
use borrow.Author.Tests.{eqb-true, ltb-true, not-true, lt-ltb, eq-eqb}
use lib.Dec.{ltb, eqb}
use lib.ListN.{length, get_or, set, take, drop, replicate, length-set, drop_of_length-le}
use lib.Seq.{drop-cons, get_or-set_same, get_or-set_other}
use Rattle.ints.specs.Lists.{sum, count_of}
use Rattle.ints.proofs.Laws.{cases}
use Rattle.ints.proofs.Tests.{test, and_left, and_right}
use Rattle.plan.specs.Plan.{PlanData, vertex_count, level_of}
use Rattle.plan.specs.Checks.{every}
use Rattle.plan.specs.inner.Graph.{Levelled}
use Rattle.plan.proofs.All.{all-get, all-of-get, every-all, all-every}
use Rattle.plan.proofs.CountLaws.{by-same, count_same, count-other, count_none}
use Rattle.plan_renumber.specs.Renumber.{own_numbers}
use Rattle.plan_renumber.specs.inner.Own.{is_new, bit, Marked, Numbers}
use Rattle.plan_renumber.proofs.Own.{Own, own, own-test}

one_of : (b : Bool) → bit b ≡ 1 → b ≡ true
one_of true e = refl
one_of false e = absurd (omega arith)

pub new-below : (level : List ℕ) (seen : List Bool) (l v : ℕ) → is_new level seen l v ≡ true → v < length level
new-below level seen l v t =
    let a = ltb v (length level) in
    let b = eqb (get_or level v 0) l in
    ltb-true v (length level) (and_left a b (and_left (a && b) (not (get_or seen v false)) t))

module _ (level m : List ℕ) where
  module _ (seen : List Bool) (i : ℕ) (w : Marked level m seen i) (h : i < length m) (long : length level ≡ length m) where
    -- a number that is new
    pub mark_on : is_new level seen (get_or level i 0) (get_or m i 0) ≡ true → Marked level m (set seen (get_or m i 0) true) (i + 1)
    mark_on t =
        let x = get_or m i 0 in
        let l = get_or level i 0 in
        let a = ltb x (length level) in
        let b = eqb (get_or level x 0) l in
        let k : x < length m = omega (arith, new-below level seen l x t) in
        let same = eqb-true (get_or level x 0) l (and_right a b (and_left (a && b) (not (get_or seen x false)) t)) in
        let none = not-true (get_or seen x false) (and_right (a && b) (not (get_or seen x false)) t) in
        record {
          within = omega arith;
          long = length-set seen x true ∙ w.long;
          below = λ j q. cases i j (λ e. let is : j ≡ i = omega arith in rw is k) (λ e. w.below j e);
          stays = λ j q. cases i j (λ e. let is : j ≡ i = omega arith in rw is same) (λ e. w.stays j e);
          counts = λ v q.
              let ys = drop (suc i) m in
              let before : bit (get_or seen v false) + count_of v (x ∷ ys) ≡ count_of v m = rw (drop-cons m i 0 h) at (w.counts v q) in
              rw (add-one i) (by-same x v
              (λ e. rw (← e) (omega (
                arith,
                ap bit (get_or-set_same seen x true false (omega (arith, w.long))),
                ap bit none,
                count_same x x ys refl,
                rw (← e) at before,
              )))
              (λ e. rw (get_or-set_other seen x v true false (λ q. e (sym q))) (omega (arith, count-other v x ys e))));
        }

    -- one that is not
    pub mark-fails : is_new level seen (get_or level i 0) (get_or m i 0) ≡ false → (p : PlanData) → Numbers p p.sizes m → Levelled p.sizes level → own_numbers p m ≡ false
    unfolding level_of
    mark-fails t p n lv = test (own_numbers p m) (λ e. absurd (go (own p m n.summed e))) (λ e. e)
      where
        go : Own p m → ⊥
        go o =
            let x = get_or m i 0 in
            let k : i < vertex_count p = omega (arith, n.many) in
            let below : x < length m = omega (arith, o.once.below i k, n.many) in
            let same : get_or level x 0 ≡ get_or level i 0 = lv.each x (omega arith) ∙ o.level i k ∙ sym (lv.each i (omega arith)) in
            let ys = drop (suc i) m in
            let before : bit (get_or seen x false) + count_of x (x ∷ ys) ≡ count_of x m = rw (drop-cons m i 0 h) at (w.counts x below) in
            test (get_or seen x false)
            (λ e. omega (arith, before, ap bit e, count_same x x ys refl, o.once.once x (o.once.below i k)))
            (λ e. true≢false (sym (rw (lt-ltb x (length level) (omega arith), eq-eqb (get_or level x 0) (get_or level i 0) same, e)) ∙ t))

  -- once all are marked
  pub marked-own : (seen : List Bool) → Marked level m seen (length m) → (p : PlanData) → Numbers p p.sizes m → Levelled p.sizes level → length level ≡ length m
      → every (λ b. b) seen ≡ own_numbers p m
  unfolding level_of
  marked-own seen w p n lv long =
      let count : (v : ℕ) → v < length m → bit (get_or seen v false) ≡ count_of v m = λ v h.
      omega (arith, w.counts v h, ap (count_of v) (drop_of_length-le m {i = length m} (omega arith)), count_none v) in
      test (every (λ b. b) seen)
      (λ e. e ∙ sym (own-test p m (record {
        once = record {
          long = sym n.many;
          below = λ i h. omega (arith, w.below i (omega (arith, n.many)), n.many);
          once = λ v h. let k : v < length m = omega (arith, n.many) in
              sym (count v k) ∙ ap bit (all-get seen false (every-all (λ b. b) seen e) v (omega (arith, w.long)));
        };
        level = λ i h. let k : i < length m = omega (arith, n.many) in
            sym (lv.each (get_or m i 0) (omega (arith, w.below i k))) ∙ w.stays i k ∙ lv.each i (omega arith);
      })))
      (λ e. e ∙ sym (test (own_numbers p m)
      (λ q. let o = own p m n.summed q in absurd (true≢false (sym (all-every (λ b. b) (all-of-get seen false (λ v h.
      let k : v < length m = omega (arith, w.long) in
      one_of (get_or seen v false) (count v k ∙ o.once.once v (omega (arith, n.many)))))) ∙ e)))
      (λ q. q)))

-- ---- marks that are not set
pub none-set : (n k v : ℕ) → get_or (take n (replicate k false)) v false ≡ false
none-set zero k v = refl
none-set (suc n) zero v = refl
none-set (suc n) (suc k) zero = refl
none-set (suc n) (suc k) (suc v) = none-set n k v

-- ---- said of the plan's own level sizes
pub own-sizes : (p : PlanData) (sizes m : List ℕ) → Numbers p sizes m → Numbers p p.sizes m
own-sizes p sizes m n = record { sizes_are = refl; summed = ap sum n.sizes_are ∙ n.summed; many = n.many }
