-- Whole runs as stretches of vertex numbers: boxes only, and a via or the level's end on either side. Two of one level with a vertex
-- in common are the same, so the boxes of a plan's run are just such a stretch. Assumes nothing.
use Prim.Native.Nat.{ℕ, ◌+◌, ◌-◌, ◌≤◌, ◌<◌}
use mathlib.Core.Path.{◌≡◌, refl, sym, ◌∙◌, subst}
use mathlib.Core.Bool.{Bool, true, ◌&&◌}
use mathlib.Core.List.{List}
use mathlib.Core.Option.{Option}
use native.Mathlib.Omega.{arith}
use borrow.Author.Tests.{le-leb, lt-ltb, leb-true, ltb-true, eq-eqb, ne_eqb, eqb-true}
use lib.Dec.{eqb, leb, ltb}
use Rattle.ints.proofs.Laws.{if-ind, cases}
use Rattle.ints.proofs.Tests.{and_left, and_right, ◌and◌}
use Rattle.plan.specs.Plan.{PlanData, is_via}
use Rattle.passes.specs.Runs.{Run}
use Rattle.plan.proofs.All.{no_true}
use Rattle.plan.specs.inner.Levels.{first_on, size_on}
use Rattle.passes.specs.inner.Runs.{Boxes, LeftEnd, no-left, via-left, RightEnd, no-right, via-right, IsRun}
use Rattle.passes.proofs.RunsOn.{bounds}
use Rattle.pass_tables.specs.inner.Tables.{next_via}
use Rattle.pass_tables.proofs.RunLaws.{Next, next}
use Rattle.report_validity.specs.inner.Tests.{starts_run, is_whole}

pub record Whole (p : PlanData) (l first count : ℕ) : Type 0 where
  pub from : first_on p l ≤ first
  pub to : first + count ≤ first_on p l + size_on p l
  pub boxes : Boxes p first count
  pub starts : first_on p l < first → is_via p (first - 1) ≡ true
  pub ends : first + count < first_on p l + size_on p l → is_via p (first + count) ≡ true

-- ---- a run of the plan is one
start-via : {p : PlanData} {b : ℕ} {o : Option ℕ} {low first : ℕ} → LeftEnd p b o low first → b < first → is_via p (first - 1) ≡ true
start-via (no-left e f) h = absurd (omega arith)
start-via {p} {first} (via-left {v = v} e f g t) h = let z : v ≡ first - 1 = omega arith in subst (λ (u : ℕ). is_via p u ≡ true) z t

end-via : {p : PlanData} {b : ℕ} {o : Option ℕ} {past high : ℕ} → RightEnd p b o past high → past < b → is_via p past ≡ true
end-via (no-right e f) h = absurd (omega arith)
end-via {p} (via-right e f g t) h = subst (λ (u : ℕ). is_via p u ≡ true) e t

pub run-whole : {p : PlanData} {r : Run} (i : IsRun p r) → Whole p r.level i.first i.count
run-whole i = let b = bounds i in record {
  from = omega (arith, b.from, b.left);
  to = omega (arith, b.to, b.right);
  boxes = i.plain;
  starts = start-via i.begins;
  ends = end-via i.ends;
}

-- ---- two with a vertex in common
module _ {p : PlanData} {l a m b n : ℕ} (x : Whole p l a m) (y : Whole p l b n) where
  starts-before : b < a + m → a < b → ⊥
  starts-before h k = no_true (sym (x.boxes (b - 1) (omega arith) (omega arith)) ∙ y.starts (omega (arith, x.from)))

  ends-before : b ≤ a + m → a + m < b + n → ⊥
  ends-before h k = no_true (sym (y.boxes (a + m) h k) ∙ x.ends (omega (arith, y.to)))

pub same_whole : {p : PlanData} {l a m b n : ℕ} (v : ℕ) → Whole p l a m → Whole p l b n → a ≤ v → v < a + m → b ≤ v → v < b + n → (a ≡ b) × (m ≡ n)
same_whole {a} {m} {b} {n} v x y h i j k =
    let s : a ≡ b = cases a b (λ o. cases b a (λ q. omega arith) (λ q. absurd (starts-before x y (omega arith) q))) (λ o. absurd (starts-before y x (omega arith) o)) in
    let e : a + m ≡ b + n = cases (a + m) (b + n) (λ o. cases (b + n) (a + m) (λ q. omega arith) (λ q. absurd (ends-before x y (omega arith) q))) (λ o. absurd (ends-before y x (omega arith) o)) in
    (s, omega arith)

-- ---- the test
module _ (vias : List Bool) (start to first count : ℕ) where
  pub record Tested : Type 0 where
    pub from : start ≤ first
    pub some : first < to
    pub starts : starts_run vias start first ≡ true
    pub ends : Next vias first (to - first) (first + count)

  pub tested : is_whole vias start to first count ≡ true → Tested
  tested e =
      let s = starts_run vias start first in
      let e3 = and_left (leb start first && ltb first to && s) _ e in
      let e2 = and_left (leb start first && ltb first to) s e3 in
      let w = eqb-true (next_via vias first (to - first)) (first + count) (and_right (leb start first && ltb first to && s) _ e) in
      record {
        from = leb-true start first (and_left (leb start first) _ e2);
        some = ltb-true first to (and_right (leb start first) (ltb first to) e2);
        starts = and_right (leb start first && ltb first to) s e3;
        ends = rw w at (next vias first (to - first));
      }

  -- such a run lies within the level
  pub whole-within : is_whole vias start to first count ≡ true → first + count ≤ to
  whole-within e = let t = tested e in omega (arith, t.ends.high, t.some)

module _ (p : PlanData) (l first count : ℕ) where
  abbrev whole_test : Bool
  whole_test = is_whole p.vias (first_on p l) (first_on p l + size_on p l) first count

  starts-read : starts_run p.vias (first_on p l) first ≡ true → first_on p l < first → is_via p (first - 1) ≡ true
  starts-read e h = rw (ne_eqb first (first_on p l) (λ z. omega arith)) at e

  starts-make : (first_on p l < first → is_via p (first - 1) ≡ true) → first_on p l ≤ first → starts_run p.vias (first_on p l) first ≡ true
  starts-make f h = if-ind (eqb first (first_on p l)) true (is_via p (first - 1)) (λ t. t ≡ true) (λ t. refl)
      (λ t. f (cases first (first_on p l) (λ j. no_true (sym t ∙ eq-eqb first (first_on p l) (omega arith))) (λ j. j)))

  pub whole-read : whole_test ≡ true → Whole p l first count
  whole-read e = let t = tested p.vias (first_on p l) (first_on p l + size_on p l) first count e in let k = t.some in record {
    from = t.from;
    to = omega (arith, t.ends.high);
    boxes = t.ends.boxes;
    starts = starts-read t.starts;
    ends = λ j. t.ends.via (omega arith);
  }

  -- the next via is where the boxes end
  ends_at : Whole p l first count → next_via p.vias first (first_on p l + size_on p l - first) ≡ first + count
  ends_at w =
      let to = first_on p l + size_on p l in
      let v = next_via p.vias first (to - first) in
      let n = next p.vias first (to - first) in
      cases v (first + count)
      (λ h. cases (first + count) v (λ k. omega arith) (λ k. no_true (sym (w.boxes v n.low k) ∙ n.via (omega (arith, w.to)))))
      (λ h. no_true (sym (n.boxes (first + count) (omega arith) h) ∙ w.ends (omega (arith, n.high, w.to))))

  pub whole-make : Whole p l first count → 1 ≤ count → whole_test ≡ true
  whole-make w h = let to = first_on p l + size_on p l in
      le-leb (first_on p l) first w.from and lt-ltb first to (omega (arith, w.to)) and starts-make w.starts w.from
      and eq-eqb (next_via p.vias first (to - first)) (first + count) (ends_at w)
