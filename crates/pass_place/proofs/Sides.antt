-- Members and bounds, told from where a run's boxes and its level end, are those of the run. Assumes nothing.
use mathlib.Core.Path.{◌≡◌, refl, sym, ◌∙◌, ap}
use mathlib.Core.Bool.{Bool, true, false, cond, not, ◌&&◌}
use mathlib.Core.List.{List}
use mathlib.Core.Option.{Option, none, some}
use Prim.Native.Nat.{ℕ, ◌-◌, ◌≤◌, ◌<◌}
use native.Mathlib.Omega.{arith}
use borrow.Author.Tests.{lt-ltb, le-ltb}
use lib.Dec.{ltb}
use lib.ListN.{get_or, drop}
use lib.IntN.{ℤ}
use Rattle.plan.specs.Plan.{PlanData}
use Rattle.passes.specs.Runs.{both_vias}
use Rattle.passes.specs.State.{position_of}
use Rattle.passes.specs.Passes.{bound_at, distance_from}
use Rattle.passes.specs.inner.Runs.{LeftEnd, no-left, via-left, RightEnd, no-right, via-right}
use Rattle.ints.specs.Reach.{is_within, all_within}
use Rattle.run.specs.Call.{limit_of, member_of, positions_of, left_distance, other_distances}
use Rattle.pass_place.specs.inner.Asked.{low_of, high_of, left_of, right_of}

abbrev pub has_via : Option ℕ → Bool
has_via none = false
has_via (some v) = true

pub bounded-both : {A : Type 0} (l r : Option ℕ) (x y : A) → cond (has_via l && has_via r) x y ≡ cond (not (both_vias l r)) y x
bounded-both none none x y = refl
bounded-both none (some w) x y = refl
bounded-both (some v) none x y = refl
bounded-both (some v) (some w) x y = refl

pub record LeftIs (start from : ℕ) (o : Option ℕ) (low : ℕ) : Type 0 where
  pub low_is : low_of start from ≡ low
  pub via : ltb start from ≡ has_via o
  pub bound : (xs : List ℤ) → limit_of (left_of start from xs) ≡ bound_at xs o
  pub member : (xs : List ℤ) → member_of (left_of start from xs) ≡ from - low
  pub distance : (xs : List ℤ) (ds es : List ℕ) → (low < from → get_or ds 0 0 ≡ get_or es low 0) → left_distance (left_of start from xs) ds ≡ distance_from es o
  pub others : (xs : List ℤ) (ds : List ℕ) → other_distances (left_of start from xs) ds ≡ drop (from - low) ds
  pub within : (xs : List ℤ) → ((v : ℕ) → is_within (position_of xs v) ≡ true) → all_within (positions_of (left_of start from xs)) ≡ true

pub left_is : {p : PlanData} {b : ℕ} {o : Option ℕ} {low first : ℕ} (start from : ℕ) → LeftEnd p b o low first → start ≡ b → from ≡ first → LeftIs start from o low
unfolding all_within
left_is start from (no-left {low = low} e f) y z = let t = le-ltb start from (omega arith) in let n : 0 ≡ from - low = omega arith in record {
  low_is = rw t (omega arith);
  via = t;
  bound = λ xs. rw t;
  member = λ xs. rw t n;
  distance = λ xs ds es g. rw t;
  others = λ xs ds. rw t (ap (λ (k : ℕ). drop k ds) n);
  within = λ xs g. rw t;
}
left_is start from (via-left {v = v} {low = low} e f g u) y z = let t = lt-ltb start from (omega arith) in let n : 1 ≡ from - low = omega arith in let m : from - 1 ≡ v = omega arith in record {
  low_is = rw t (omega arith);
  via = t;
  bound = λ xs. rw (t, m);
  member = λ xs. rw t n;
  distance = λ xs ds es k. rw t (k (omega arith) ∙ ap (λ (j : ℕ). get_or es j 0) (sym e));
  others = λ xs ds. rw t (ap (λ (k : ℕ). drop k ds) n);
  within = λ xs k. rw (t, k (from - 1));
}

pub record RightIs (end to : ℕ) (o : Option ℕ) (high : ℕ) : Type 0 where
  pub high_is : high_of end to ≡ high
  pub via : ltb end to ≡ has_via o
  pub bound : (xs : List ℤ) → limit_of (right_of end to xs) ≡ bound_at xs o
  pub member : (xs : List ℤ) → member_of (right_of end to xs) ≡ high - end
  pub within : (xs : List ℤ) → ((v : ℕ) → is_within (position_of xs v) ≡ true) → all_within (positions_of (right_of end to xs)) ≡ true

pub right_is : {p : PlanData} {b : ℕ} {o : Option ℕ} {past high : ℕ} (end to : ℕ) → RightEnd p b o past high → end ≡ past → to ≡ b → RightIs end to o high
unfolding all_within
right_is end to (no-right {high = high} e f) y z = let t = le-ltb end to (omega arith) in let n : 0 ≡ high - end = omega arith in
    record { high_is = rw t (omega arith); via = t; bound = λ xs. rw t; member = λ xs. rw t n; within = λ xs g. rw t }
right_is end to (via-right {v = v} {high = high} e f g u) y z = let t = lt-ltb end to (omega arith) in let n : 1 ≡ high - end = omega arith in let m : end ≡ v = omega arith in
    record { high_is = rw t (omega arith); via = t; bound = λ xs. rw (t, m); member = λ xs. rw t n; within = λ xs k. rw (t, k end) }

-- without a via the boxes reach the level's end
pub right-last : {p : PlanData} {b : ℕ} {o : Option ℕ} {past high : ℕ} → RightEnd p b o past high → high ≤ past → past ≡ b
right-last (no-right e f) h = f
right-last (via-right e f g u) h = absurd (omega arith)
