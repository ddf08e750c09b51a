-- Whether vertices are the boxes of a nonempty run, by the level's bounds: exactly if a whole run of as many boxes starts at the first
-- of them, and they are the numbers from there on. Assumes nothing.
use Prim.Native.Nat.{ℕ, ◌+◌, ◌-◌, ◌≤◌, ◌<◌}
use mathlib.Core.Path.{◌≡◌, refl, sym, ◌∙◌, ap, subst}
use mathlib.Core.Bool.{Bool, true, false, ◌&&◌}
use mathlib.Core.List.{List, [], ◌∷◌, Memᴰ}
use native.Mathlib.Omega.{arith}
use borrow.Author.Tests.{le-leb, leb-true, eq-eqb, eqb-true}
use lib.Dec.{eqb, leb}
use lib.ListN.{length, get_or, take}
use Rattle.ints.proofs.Tests.{and_left, and_right, test, ◌and◌}
use Rattle.ints.specs.Lists.{sum}
use Rattle.plan.specs.Plan.{PlanData, numbers}
use Rattle.plan.specs.Checks.{any}
use Rattle.report.specs.Refusal13.{same_numbers}
use Rattle.report.proofs.SameData.{numbers-equal, numbers-same}
use Rattle.passes.specs.Runs.{Run, runs_on, runs_of, no_run}
use Rattle.plan.proofs.All.{no_true, all-mem}
use Rattle.plan.specs.inner.Levels.{first_on, size_on}
use Rattle.plan.proofs.Levels.{length-numbers, get-numbers}
use Rattle.passes.specs.inner.Runs.{IsRun}
use Rattle.passes.proofs.RunsOn.{run-at, run-level}
use Rattle.passes.proofs.Covered.{found, box-range}
use Rattle.passes.proofs.Due.{plan-runs}
use Rattle.passes.proofs.Listed.{run-mem}
use Rattle.report_validity.specs.inner.Stored.{OfPlan}
use Rattle.report_validity.specs.inner.Tests.{is_whole, is_run_on}
use Rattle.report_validity.proofs.Whole.{Whole, run-whole, same_whole, whole-read, whole-make}

-- ---- tests
pub both_ways : (a b : Bool) → (a ≡ true → b ≡ true) → (b ≡ true → a ≡ true) → a ≡ b
both_ways true b f g = sym (f refl)
both_ways false true f g = g refl
both_ways false false f g = refl

pub never_true : (a : Bool) → (a ≡ true → ⊥) → a ≡ false
never_true true f = absurd (f refl)
never_true false f = refl

record Member {A : Type 0} (t : A → Bool) (xs : List A) : Type 0 where
  pub value : A
  pub mem : Memᴰ value xs
  pub holds : t value ≡ true

some-member : {A : Type 0} (t : A → Bool) (xs : List A) → any t xs ≡ true → Member t xs
unfolding any
some-member t [] e = no_true e
some-member t (x ∷ xs) e = test (t x) (λ h. record { value = x; mem = Memᴰ.head refl; holds = h })
    (λ h. let m = some-member t xs (rw h at e) in record { value = m.value; mem = Memᴰ.tail m.mem; holds = m.holds })

pub some_of : {A : Type 0} (t : A → Bool) {x : A} {xs : List A} → Memᴰ x xs → t x ≡ true → any t xs ≡ true
unfolding any
some_of t (Memᴰ.head e) h = rw (← e, h)
some_of t (Memᴰ.tail {x = y} m) h = test (t y) (λ k. rw k) (λ k. rw k (some_of t m h))

-- ---- from the plan's runs
record Shape (p : PlanData) (l : ℕ) (vs : List ℕ) : Type 0 where
  pub one : 1 ≤ l
  pub many : l ≤ p.levels
  pub any : 1 ≤ length vs
  pub numbered : vs ≡ numbers (get_or vs 0 0) (length vs)
  pub whole : Whole p l (get_or vs 0 0) (length vs)

shape_of : {p : PlanData} (l : ℕ) (vs : List ℕ) {r : Run} → IsRun p r → l ≡ r.level → vs ≡ r.boxes → 1 ≤ length vs → Shape p l vs
shape_of {p} l vs {r} i e f h =
    let g : vs ≡ numbers i.first i.count = f ∙ i.boxes in
    let n : length vs ≡ i.count = ap length g ∙ length-numbers i.first i.count in
    let a : get_or vs 0 0 ≡ i.first = ap (λ (l : List ℕ). get_or l 0 0) g ∙ omega (arith, get-numbers i.first i.count 0 0 (omega arith)) in
    record {
      one = omega (arith, i.one);
      many = omega (arith, i.many);
      any = h;
      numbered = g ∙ ap (λ (k : ℕ). numbers k i.count) (sym a) ∙ ap (numbers (get_or vs 0 0)) (sym n);
      whole = rw (e, a, n) (run-whole i);
    }

shape : (p : PlanData) (l : ℕ) (vs : List ℕ) → is_run_on p l vs ≡ true → Shape p l vs
unfolding is_run_on
shape p l vs e =
    let m = some-member (λ (r : Run). eqb l r.level && same_numbers vs r.boxes) (runs_of p) (and_right (leb 1 (length vs)) _ e) in
    let r = m.value in
    shape_of l vs (all-mem (plan-runs p) m.mem) (eqb-true l r.level (and_left _ _ m.holds)) (numbers-equal vs r.boxes (and_right (eqb l r.level) _ m.holds))
    (leb-true 1 (length vs) (and_left (leb 1 (length vs)) _ e))

-- ---- to them
of-shape : (p : PlanData) (l : ℕ) (vs : List ℕ) → Shape p l vs → is_run_on p l vs ≡ true
unfolding is_run_on
of-shape p l vs s =
    let v = get_or vs 0 0 in
    let w = s.whole in
    let f = found p l v (record { from = w.from; to = omega (arith, w.to, s.any) }) (w.boxes v (omega arith) (omega (arith, s.any))) in
    let r = get_or (runs_on p l) f.index no_run in
    let i = run-at p l f.index s.one s.many f.few in
    let e : r.level ≡ l = (run-level p l f.index f.few).0 in
    let b = box-range i v f.box in
    let z = same_whole v w (subst (λ (k : ℕ). Whole p k i.first i.count) e (run-whole i)) (omega arith) (omega (arith, s.any)) b.0 b.1 in
    let g : r.boxes ≡ vs = i.boxes ∙ ap (λ (k : ℕ). numbers k i.count) (sym z.0) ∙ ap (numbers v) (sym z.1) ∙ sym s.numbered in
    let h : same_numbers vs r.boxes ≡ true = rw g (numbers-same vs) in
    le-leb 1 (length vs) s.any and some_of (λ (r : Run). eqb l r.level && same_numbers vs r.boxes) (run-mem i) (eq-eqb l r.level (sym e) and h)

-- ---- what the program asks
module _ {p : PlanData} {sizes : List ℕ} {vias : List Bool} (o : OfPlan p sizes vias) (l : ℕ) (vs : List ℕ) where
  pub no-boxes : length vs ≡ 0 → is_run_on p l vs ≡ false
  no-boxes e = never_true (is_run_on p l vs) (λ h. omega (arith, (shape p l vs h).any))

  pub no-level : l ≡ 0 → is_run_on p l vs ≡ false
  no-level e = never_true (is_run_on p l vs) (λ h. omega (arith, (shape p l vs h).one))

  pub past-levels : length sizes < l → is_run_on p l vs ≡ false
  past-levels e = never_true (is_run_on p l vs) (λ h. omega (arith, (shape p l vs h).many, o.of_levels))

  module _ (start to first : ℕ) (e : start ≡ sum (take (l - 1) sizes)) (f : to ≡ start + get_or sizes (l - 1) 0) (g : first ≡ get_or vs 0 0) where
    starts : first_on p l ≡ start
    unfolding first_on
    starts = ap (λ (ns : List ℕ). sum (take (l - 1) ns)) o.of_sizes ∙ sym e

    ends : first_on p l + size_on p l ≡ to
    unfolding size_on
    ends = omega (arith, starts, ap (λ (ns : List ℕ). get_or ns (l - 1) 0) o.of_sizes)

    test-is : is_whole p.vias (first_on p l) (first_on p l + size_on p l) (get_or vs 0 0) (length vs) ≡ is_whole vias start to first (length vs)
    test-is = rw (ends, starts, o.of_vias, g)

    pub not-whole : is_whole vias start to first (length vs) ≡ false → is_run_on p l vs ≡ false
    not-whole n = never_true (is_run_on p l vs)
        (λ h. let s = shape p l vs h in no_true (sym n ∙ sym test-is ∙ whole-make p l (get_or vs 0 0) (length vs) s.whole s.any))

    pub whole_is : 1 ≤ l → l ≤ length sizes → 1 ≤ length vs → is_whole vias start to first (length vs) ≡ true → same_numbers vs (numbers first (length vs)) ≡ is_run_on p l vs
    whole_is h k n w = let ns = numbers (get_or vs 0 0) (length vs) in rw g (both_ways (same_numbers vs ns) (is_run_on p l vs)
        (λ t. of-shape p l vs (record {
          one = h;
          many = omega (arith, o.of_levels);
          any = n;
          numbered = numbers-equal vs ns t;
          whole = whole-read p l (get_or vs 0 0) (length vs) (test-is ∙ w);
        }))
        (λ t. subst (λ (ms : List ℕ). same_numbers vs ms ≡ true) (shape p l vs t).numbered (numbers-same vs)))
