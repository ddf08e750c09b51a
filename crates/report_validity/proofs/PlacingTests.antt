-- The test of each listed placing, as the loop over them meets it. Assumes nothing.
use Prim.Native.Nat.{ℕ, ◌+◌, ◌≤◌, ◌<◌}
use mathlib.Core.Path.{◌≡◌}
use mathlib.Core.Bool.{true, false, ◌&&◌}
use mathlib.Core.List.{List}
use native.Mathlib.Omega.{arith}
use native.Mathlib.Numerals.{add-one}
use lib.ListN.{length, get_or, take, drop, drop_of_length-le}
use lib.Seq.{drop-cons, drop-drop}
use Rattle.plan.specs.Limits.{within}
use Rattle.plan.specs.Plan.{PlanData}
use Rattle.report_validity.specs.inner.Tests.{is_run_on, are_placings}

module _ (p : PlanData) (qs ls cs vs : List ℕ) (i at : ℕ) (e : length ls ≡ length qs) (f : length cs ≡ length qs) where
  pub placings-on : i < length qs → within 1 3 (get_or qs i 0) && is_run_on p (get_or ls i 0) (take (get_or cs i 0) (drop at vs)) ≡ true
      → are_placings p (drop i qs) (drop i ls) (drop i cs) (drop at vs) ≡ are_placings p (drop (i + 1) qs) (drop (i + 1) ls) (drop (i + 1) cs) (drop (at + get_or cs i 0) vs)
  unfolding are_placings
  placings-on h t = let j : i < length ls = omega arith in let k : i < length cs = omega arith in
      rw (add-one i, drop-cons qs i 0 h, drop-cons ls i 0 j, drop-cons cs i 0 k, t, drop-drop (get_or cs i 0) at vs)

  pub placings-stop : i < length qs → within 1 3 (get_or qs i 0) && is_run_on p (get_or ls i 0) (take (get_or cs i 0) (drop at vs)) ≡ false
      → are_placings p (drop i qs) (drop i ls) (drop i cs) (drop at vs) ≡ false
  unfolding are_placings
  placings-stop h t = let j : i < length ls = omega arith in let k : i < length cs = omega arith in
      rw (drop-cons qs i 0 h, drop-cons ls i 0 j, drop-cons cs i 0 k, t)

  pub placings-end : length qs ≤ i → are_placings p (drop i qs) (drop i ls) (drop i cs) (drop at vs) ≡ true
  unfolding are_placings
  placings-end h = rw (drop_of_length-le qs h)
