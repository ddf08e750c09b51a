-- The plan as it was read, where the stored plan and the remembered numbers are not refused: it is within its limits, its segments go
-- down one level, and none of its lines is long. Assumes nothing.
use mathlib.Core.Path.{◌≡◌, ◌∙◌, ap}
use mathlib.Core.Bool.{true}
use mathlib.Core.List.{List, []}
use Prim.Native.Nat.{ℕ, ◌≤◌}
use native.Mathlib.Omega.{arith}
use lib.ListN.{length, get_or-eq_default}
use Rattle.ints.proofs.Laws.{cases}
use Rattle.plan.specs.Plan.{PlanData, vertex_count, level_of}
use Rattle.plan.specs.Checks.{check3}
use Rattle.plan.specs.Acceptable.{limits_hold, acceptable}
use Rattle.plan.proofs.LimitLaws.{limits-hold}
use Rattle.plan.proofs.Sound.{sound}
use Rattle.plan_renumber.specs.Renumber.{inverse, renumbered, own_numbers}
use Rattle.plan_renumber.proofs.Places.{inverse-once, inverse-at}
use Rattle.plan_renumber.proofs.Own.{Own, own, new-level}
use Rattle.plan_renumber.proofs.Kept.{limits-kept, check3-kept}
use Rattle.report_validity.proofs.Stored.{stored_of}
use Rattle.text.specs.Writing.{lines_of}
use Rattle.text.proofs.RoundTrip.{acceptable-of}
use Rattle.sheet.specs.declared.types.Sheet.{Sheet}
use Rattle.sheet.specs.Sheet.{vertices_in, segments_in, plan_in, remembered_in}
use Rattle.sheet.specs.Tests.{holds_plan, holds_numbers, plan_as_read, text_line_of}
use Rattle.sheet_text.proofs.Short.{max_text_line, line-short}

-- the inverse of own numbers is each level's own too
inverse-own : (p : PlanData) (m : List ℕ) → Own p m → Own p (inverse m)
inverse-own p m o = record {
  once = inverse-once (vertex_count p) m o.once;
  level = λ i h. ap (level_of p) (inverse-at (vertex_count p) m o.once i h) ∙ new-level p m o i h;
}

module _ (p : PlanData) (m : List ℕ) (a : acceptable p ≡ true) (t : own_numbers p m ≡ true) where
  within : limits_hold p ≡ true
  within = limits-hold p (acceptable-of p a).limits

  back : Own p (inverse m)
  back = inverse-own p m (own p m (sound p a).limits.sizes_sum t)

  pub read-limits : limits_hold (renumbered p (inverse m)) ≡ true
  read-limits = limits-kept p (inverse m) within back.once

  pub read_down : check3 (renumbered p (inverse m)) ≡ true
  read_down = check3-kept p (inverse m) within (acceptable-of p a).checks.three back

pub text-line-short : (s : Sheet) (n : ℕ) → holds_plan s ≡ true → holds_numbers s ≡ true → length (text_line_of s n) ≤ max_text_line
unfolding text_line_of plan_as_read
text-line-short s n h o =
    let p = renumbered (plan_in s) (inverse (remembered_in s)) in
    let a = (stored_of s.plan (vertices_in s.header.stage) (segments_in s.header.stage) h).plan in
    cases (length (lines_of p)) n
    (λ k. rw (get_or-eq_default (lines_of p) [] k) (omega arith))
    (λ k. line-short p (read-limits (plan_in s) (remembered_in s) a o) (read_down (plan_in s) (remembered_in s) a o) n k)
