-- When a plan's data are within the limits, and when a plan is that of a text, as the decision meets it.
use mathlib.Core.Path.{◌≡◌, refl, sym, ◌∙◌}
use mathlib.Core.Bool.{Bool, true, false, ◌&&◌}
use mathlib.Core.List.{[], ◌∷◌}
use Prim.Native.Nat.{ℕ, ◌≤◌, ◌<◌}
use native.Mathlib.Omega.{arith}
use borrow.Author.Tests.{leb-true, leb-false, le-leb, lt-leb}
use lib.Dec.{leb, eqb}
use lib.ListN.{length}
use Rattle.ints.specs.Lists.{sum}
use Rattle.ints.specs.Ratings.{all_ratings}
use Rattle.ints.specs.Refusals.{first_refusal}
use Rattle.ints.proofs.Refusals.{none-0}
use Rattle.plan.specs.Plan.{PlanData}
use Rattle.plan.specs.Limits.{within, max_levels, max_gap, max_spacing, max_on_level, max_vertices, max_segments}
use Rattle.plan.specs.Checks.{every, checks_of}
use Rattle.plan.specs.Stored.{plan_data}
use Rattle.plan.specs.Acceptable.{halves_hold, limits_hold, acceptable}
use Rattle.plan.specs.declared.data.Plan.{Plan}
use Rattle.plan.proofs.GraphLaws.{graph, same-checks}
use Rattle.ints.proofs.Tests.{conj-at, test}
use Rattle.plan.proofs.LimitLaws.{LimitTests, limit-tests, limits-hold, within-most}
use Rattle.report.specs.Refusal13.{is_plan_of_text, is_stored_plan}
use Rattle.report.proofs.PlanOfText.{plan-of-text}

abbrev pub numbers_hold : ℕ → ℕ → ℕ → Bool
numbers_hold k g s = within 1 max_levels k && within 1 max_gap g && within 1 max_spacing s

pub few_levels : (k g s : ℕ) → numbers_hold k g s ≡ true → k ≤ max_levels
few_levels k g s h = within-most 1 max_levels k (conj-at (within 1 max_levels k) (within 1 max_gap g ∷ within 1 max_spacing s ∷ []) h 0)

module _ (p : PlanData) where
  pub limits-not : (LimitTests p → ⊥) → limits_hold p ≡ false
  limits-not f = test (limits_hold p) (λ h. absurd (f (limit-tests p h))) (λ h. h)

  pub limits-many : max_vertices < length p.vias → leb (length p.vias) max_vertices ≡ limits_hold p
  limits-many h = lt-leb (length p.vias) max_vertices h ∙ sym (limits-not (λ l. omega (arith, l.vertices)))

  -- all but the last
  pub limits-last : numbers_hold p.levels p.gap p.spacing ≡ true → length p.sizes ≡ p.levels → every (within 1 max_on_level) p.sizes ≡ true
      → sum p.sizes ≡ length p.vias → halves_hold p.vias p.halves ≡ true → length p.lowers ≡ length p.uppers
      → length p.ratings ≡ length p.uppers → all_ratings p.ratings ≡ true → length p.vias ≤ max_vertices → leb (length p.uppers) max_segments ≡ limits_hold p
  limits-last n k s t h e r w v = test (leb (length p.uppers) max_segments)
      (λ l.
      let number = conj-at (within 1 max_levels p.levels) (within 1 max_gap p.gap ∷ within 1 max_spacing p.spacing ∷ []) n in
      l ∙ sym (limits-hold p (record {
        levels = number 0;
        gap = number 1;
        spacing = number 2;
        counted = k;
        sizes = s;
        summed = t;
        vertices = v;
        halves = h;
        ends = e;
        segments = leb-true (length p.uppers) max_segments l;
        rated = r;
        ratings = w;
      })))
      (λ l. l ∙ sym (limits-not (λ m. let many = leb-false (length p.uppers) max_segments l in omega (arith, m.segments))))

  pub accept-not : limits_hold p ≡ false → acceptable p ≡ false
  unfolding acceptable
  accept-not h = rw h

  pub accept-first : (n : ℕ) → limits_hold p ≡ true → n ≡ first_refusal (checks_of (graph p)) → eqb n 0 ≡ acceptable p
  unfolding acceptable checks_of
  accept-first n h e = rw (e, h, ← same-checks p) (none-0 (checks_of p) refl)

-- ---- a stored plan
module _ (p : Plan) (v e : ℕ) where
  pub stored-vertices : max_vertices < v → is_stored_plan p v e ≡ false
  unfolding is_stored_plan
  stored-vertices h = rw (lt-leb v max_vertices h)

  pub stored-segments : max_segments < e → is_stored_plan p v e ≡ false
  unfolding is_stored_plan
  stored-segments h = rw (lt-leb e max_segments h) (none (leb v max_vertices))
    where
      none : (b : Bool) → (b && false && is_plan_of_text (plan_data p v e)) ≡ false
      none true = refl
      none false = refl

  pub stored_is : v ≤ max_vertices → e ≤ max_segments → is_stored_plan p v e ≡ acceptable (plan_data p v e)
  unfolding is_stored_plan
  stored_is h k = rw (le-leb v max_vertices h, le-leb e max_segments k) (plan-of-text (plan_data p v e))

  many-levels : max_levels < p.levels → acceptable (plan_data p v e) ≡ false
  many-levels h = accept-not (plan_data p v e) (limits-not (plan_data p v e) (λ l. omega (arith, within-most 1 max_levels p.levels l.levels)))

  pub stored-levels : max_levels < p.levels → is_stored_plan p v e ≡ false
  unfolding is_stored_plan
  stored-levels h = rw (plan-of-text (plan_data p v e) ∙ many-levels h) (none (leb v max_vertices && leb e max_segments))
    where
      none : (b : Bool) → (b && false) ≡ false
      none true = refl
      none false = refl
