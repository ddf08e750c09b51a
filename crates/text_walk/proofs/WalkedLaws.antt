-- When the walk of a text is refused and by which number, both ways: by the first of checks 1 to 5 that fails, or by 7, if there are no such
-- levels. And a plan's walk by its lists. Assumes nothing.
use mathlib.Core.Path.{◌≡◌, refl, sym, ◌∙◌, ap, subst}
use mathlib.Core.Bool.{Bool, true, false, cond, not, ◌&&◌}
use mathlib.Core.List.{List, [], ◌∷◌, ◌++◌}
use mathlib.Core.Logic.{◌↔◌}
use mathlib.Core.Option.{some}
use Prim.Native.Nat.{ℕ, ◌<◌, ◌≤◌}
use native.Mathlib.Omega.{arith}
use borrow.Author.Tests.{lt-ltb, le-ltb}
use lib.Dec.{ltb}
use lib.ListN.{length, take}
use Rattle.std.specs.Prelude.{Result, Ok}
use Rattle.ints.specs.declared.refusal.Refusal.{Refusal}
use Rattle.text_read.specs.declared.Found.{Found}
use Rattle.text_read.specs.inner.Taken.{Finds, tangled_refusal}
use Rattle.text_read.proofs.SecondWay.{tangled-taken}
use Rattle.ints.specs.Refusals.{refused_by, Test, check, is_first, none_refuses, Verdict, gives, refuses}
use Rattle.ints.proofs.Laws.{cases}
use Rattle.ints.proofs.Refusals.{numbered}
use Rattle.ints.proofs.Tests.{and-false}
use Rattle.plan.specs.Plan.{PlanData}
use Rattle.plan.specs.Limits.{max_levels}
use Rattle.plan.specs.Checks.{check4, tangled_checks_of}
use Rattle.plan.specs.Walk.{walk, has_next}
use Rattle.plan.specs.declared.walk.Walk.{Walk}
use Rattle.plan.specs.inner.Graph.{graph_of, Within}
use Rattle.plan.proofs.GraphLaws.{within_of, graph, same-3, same-4, same-walk}
use Rattle.plan.proofs.LimitLaws.{limits}
use Rattle.text.specs.Form.{Lines, form_of}
use Rattle.text.specs.Reading.{tests_by, Reading, accepted, refused, reading_by, tangled_reading}
use Rattle.text.proofs.LastCheck.{lastly, reads-lastly}
use Rattle.text.proofs.WhenRefused.{by-refused, by-given}
use Rattle.text.proofs.RoundTrip.{tangled-limits, tangled-through}
use Rattle.text.proofs.Words.{never}
use Rattle.text_read.specs.inner.Filled.{Kept}
use Rattle.text_read.specs.declared.form.Scanned.{Scanned}
use Rattle.text_read.proofs.Verdict.{within, sizes-front, vias-front, uppers-front, lowers-front}
use Rattle.text_walk.specs.Walks.{walk_of, text_walk}

-- ---- a plan that passes checks 1 to 5, its lists at the front of arrays
pub record PassedIn (p : PlanData) (r : Scanned) (sizes : List ℕ) (vias : List Bool) (uppers lowers : List ℕ) : Type 0 where
  pub sizes_reach : r.levels ≤ length sizes
  pub vias_reach : r.vertices ≤ length vias
  pub uppers_reach : r.segments ≤ length uppers
  pub lowers_reach : r.segments ≤ length lowers
  pub levels : length (take r.levels sizes) ≤ max_levels
  pub ends : Within (take r.vertices vias) (take r.segments uppers) (take r.segments lowers)
  pub sorted : check4 (graph_of (take r.levels sizes) (take r.vertices vias) (take r.segments uppers) (take r.segments lowers)) ≡ true
  pub walks : (l : ℕ) → walk_of l (accepted p) ≡ walk_of l (accepted (graph_of (take r.levels sizes) (take r.vertices vias) (take r.segments uppers) (take r.segments lowers)))

walk_same : (p : PlanData) (l : ℕ) → p.levels ≡ length p.sizes → walk_of l (accepted p) ≡ walk_of l (accepted (graph p))
unfolding walk_of
walk_same p l e = let same : has_next p l ≡ has_next (graph p) l = ap (λ (k : ℕ). ltb 0 l && ltb l k) e in rw (same, same-walk p l)

pub passed-in : (s : List ℕ) (p : PlanData) → tangled_reading s ≡ accepted p → {r : Scanned} {sizes : List ℕ} {vias : List Bool} {halves uppers lowers ratings sizes' : List ℕ}
    {vias' : List Bool} {halves' uppers' lowers' ratings' : List ℕ} → Kept p r sizes vias halves uppers lowers ratings sizes' vias' halves' uppers' lowers' ratings'
    → PassedIn p r sizes' vias' uppers' lowers'
passed-in s p e {r} {sizes} {vias} {halves} {uppers} {lowers} {ratings} {sizes'} {vias'} {halves'} {uppers'} {lowers'} {ratings'} K =
    let w = limits p (tangled-limits s p e) in
    let t = tangled-through s p e in
    let a = sym (sizes-front p r sizes vias halves uppers lowers ratings sizes' vias' halves' uppers' lowers' ratings' K) in
    let b = sym (vias-front p r sizes vias halves uppers lowers ratings sizes' vias' halves' uppers' lowers' ratings' K) in
    let c = sym (uppers-front p r sizes vias halves uppers lowers ratings sizes' vias' halves' uppers' lowers' ratings' K) in
    let d = sym (lowers-front p r sizes vias halves uppers lowers ratings sizes' vias' halves' uppers' lowers' ratings' K) in
    record {
      sizes_reach = omega (arith, K.level-lines, within p.sizes sizes sizes' K.sizes-kept);
      vias_reach = omega (arith, K.vertices, within p.vias vias vias' K.vias-kept);
      uppers_reach = omega (arith, K.segments, within p.uppers uppers uppers' K.uppers-kept);
      lowers_reach = omega (arith, K.lower-ends, within p.lowers lowers lowers' K.lowers-kept);
      levels = subst (λ (ns : List ℕ). length ns ≤ max_levels) a w.lists.levels;
      ends = subst (λ (vs : List Bool). Within vs (take r.segments uppers') (take r.segments lowers')) b
          (subst (λ («as» : List ℕ). Within p.vias «as» (take r.segments lowers')) c
          (subst (λ (bs : List ℕ). Within p.vias p.uppers bs) d (within_of p.sizes p.vias p.uppers p.lowers w.lists (sym (same-3 p) ∙ t.three))));
      sorted = (λ i. check4 (graph_of (sym a i) (sym b i) (sym c i) (sym d i))) ∙ sym (same-4 p) ∙ t.four;
      walks = λ l. walk_same p l (sym w.sizes_long) ∙ (λ i. walk_of l (accepted (graph_of (a i) (b i) (c i) (d i))));
    }

-- what the second way takes is at the front of the arrays
pub record TakenIn (s : List ℕ) (r : Scanned) (sizes : List ℕ) (vias : List Bool) (uppers lowers : List ℕ) : Type 0 where
  pub plan : PlanData
  pub reads : tangled_reading s ≡ accepted plan
  pub fronts : PassedIn plan r sizes vias uppers lowers

pub taken-in : (s : List ℕ) {r : Found} {sizes : List ℕ} {vias : List Bool} {halves uppers lowers ratings sizes' : List ℕ}
    {vias' : List Bool} {halves' uppers' lowers' ratings' : List ℕ} → Finds s r sizes vias halves uppers lowers ratings sizes' vias' halves' uppers' lowers' ratings'
    → (v : Result Unit Refusal) → refused_by v ≡ tangled_refusal (refused_by r.verdict) → v ≡ Ok tt → TakenIn s r.scanned sizes' vias' uppers' lowers'
taken-in s {r} F v e w =
    let t = tangled-taken s r _ _ _ _ _ _ _ _ _ _ _ _ F v e w in
    record { plan = t.0; reads = t.1; fronts = passed-in s t.0 t.1 (F.kept t.0 t.1) }

-- ---- whether there are such levels
module _ (p : PlanData) (l : ℕ) where
  pub above-all : l ≡ 0 → refuses 7 ≡ walk_of l (accepted p)
  unfolding walk_of
  above-all e = rw (le-ltb 0 l (omega arith))

  pub below_all : p.levels ≤ l → refuses 7 ≡ walk_of l (accepted p)
  unfolding walk_of
  below_all h = rw (le-ltb l p.levels h, and-false)

  pub between : (l ≡ 0 → ⊥) → l < p.levels → gives (walk p l) ≡ walk_of l (accepted p)
  unfolding walk_of
  between z h = rw (lt-ltb 0 l (cases l 0 (λ k. absurd (z (omega arith))) (λ k. k)), lt-ltb l p.levels h)

-- ---- by what the second way reads
module _ (l : ℕ) (s : List ℕ) where
  pub walks-refused : (n : ℕ) → tangled_reading s ≡ refused n → text_walk l s ≡ refuses n
  unfolding text_walk walk_of
  walks-refused n e = rw e

  pub walks-accepted : (p : PlanData) → tangled_reading s ≡ accepted p → text_walk l s ≡ walk_of l (accepted p)
  unfolding text_walk
  walks-accepted p e = ap (walk_of l) e

-- ---- refusals
module _ (l : ℕ) (s : List ℕ) where
  -- 7: there are no levels l and l + 1
  abbrev pub last-7 : PlanData → Test
  last-7 p = check 7 (has_next p l)

  -- checks 1 to 5 and 7, in this order
  abbrev pub walk_tests : List Test
  walk_tests = tests_by (λ p. tangled_checks_of p ++ last-7 p ∷ []) s (form_of s)

  known : (f : Lines) → numbered (tests_by (λ p. tangled_checks_of p ++ last-7 p ∷ []) s (some f)) ≡ true
  unfolding tests_by tangled_checks_of
  known f = refl

  read : Reading
  read = reading_by (λ p. tangled_checks_of p ++ last-7 p ∷ []) s

  said : Reading → Verdict Walk
  said (accepted p) = gives (walk p l)
  said (refused n) = refuses n

  walks-by : (r : Reading) → walk_of l r ≡ said (lastly last-7 r)
  unfolding walk_of said
  walks-by (accepted p) = by (has_next p l)
    where
      by : (b : Bool) → cond b (gives (walk p l)) (refuses 7) ≡ said (cond (not b) (refused 7) (accepted p))
      by true = refl
      by false = refl
  walks-by (refused n) = refl

  walk_is : text_walk l s ≡ said read
  unfolding text_walk read
  walk_is = walks-by (tangled_reading s) ∙ ap said (sym (reads-lastly s last-7 (λ p. refl)))

  told : (r : Reading) (m : ℕ) → (said r ≡ refuses m) ↔ (r ≡ refused m)
  unfolding said
  told (accepted p) m = (λ e. never (cc), λ e. never (cc))
  told (refused n) m = (λ e. ap refused (cc), λ e. cc)

  walked : (r : Reading) → ((w : Walk) × (said r ≡ gives w)) ↔ ((p : PlanData) × (r ≡ accepted p))
  unfolding said
  walked (accepted p) = (λ e. (p, refl), λ e. (walk p l, refl))
  walked (refused n) = (λ e. never (cc e.1), λ e. never (cc e.1))

  pub walk_refused : (m : ℕ) → (text_walk l s ≡ refuses m) ↔ (is_first m walk_tests ≡ true)
  unfolding read
  walk_refused m =
      let r = told read m in
      let b = by-refused (λ p. tangled_checks_of p ++ last-7 p ∷ []) s known (form_of s) m in
      (λ e. b.0 (r.0 (sym walk_is ∙ e)), λ e. walk_is ∙ r.1 (b.1 e))

  pub walk-given : ((w : Walk) × (text_walk l s ≡ gives w)) ↔ (none_refuses walk_tests ≡ true)
  unfolding read
  walk-given =
      let r = walked read in
      let b = by-given (λ p. tangled_checks_of p ++ last-7 p ∷ []) s known (form_of s) in
      (λ e. b.0 (r.0 (e.0, sym walk_is ∙ e.1)), λ e. let w = r.1 (b.1 e) in (w.0, walk_is ∙ w.1))
