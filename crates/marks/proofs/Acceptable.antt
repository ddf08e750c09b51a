-- Of a plan that passes the checks every mark can be made, and its numbers are exact. Assumes nothing.
use mathlib.Core.Path.{◌≡◌}
use mathlib.Core.Bool.{true}
use mathlib.Core.List.{List, ◌++◌}
use Prim.Native.Nat.{ℕ, ◌*◌, ◌≤◌, ◌<◌}
use native.Mathlib.Omega.{arith}
use lib.ListN.{length, drop}
use lib.IntN.{ℤ}
use lib.Ieee.{Float}
use Rattle.plan.specs.Plan.{PlanData, vertex_count, half_width}
use Rattle.plan.specs.Acceptable.{acceptable}
use Rattle.plan.proofs.Sound.{sound}
use Rattle.ints.specs.Reach.{all_within}
use Rattle.marks.specs.Half.{max_whole}
use Rattle.marks.specs.Marks.{whole_mark_of, mark_of, mark_count, all_numbers}
use Rattle.marks.specs.Exact.{ExactMark, ExactFive}
use Rattle.marks.specs.inner.Asked.{InReach, AskedAll, Asked}
use Rattle.marks.proofs.All.{mark-at}
use Rattle.marks.proofs.Exact.{Fits, fits, mark-exact, five-exact}

module _ (p : PlanData) (xs : List ℤ) (ok : acceptable p ≡ true) (near : all_within xs ≡ true) where
  in_reach : InReach p.spacing p.sizes xs
  in_reach = let l = (sound p ok).limits in record { spaced = l.spacing_high; levels = l.lists.levels; within = near }

  pub asked-all : length xs ≡ vertex_count p → AskedAll p.spacing p.sizes p.vias p.halves p.uppers p.lowers xs
  asked-all e =
      let S = sound p ok in let l = S.limits in
      record {
        near = in_reach;
        agreeing = record { few = l.lists.vertices; widths = l.halves_long; positions = e; ends = l.ends_long; upper = S.ends.upper; lower = S.ends.lower };
      }

  pub asked : (n : ℕ) → length xs ≡ vertex_count p → n < mark_count p → Asked p.spacing p.sizes p.vias p.halves p.uppers p.lowers xs n
  asked n e h = record { lists = asked-all e; number = h }

  narrow : (n : ℕ) → half_width p n ≤ max_whole
  narrow n = omega (arith, (sound p ok).limits.halves_high n)

  pub marks-fit : (n : ℕ) → Fits (whole_mark_of p xs n)
  marks-fit n = fits p xs in_reach n (narrow n)

  pub marks-exact : (n : ℕ) → ExactMark (whole_mark_of p xs n) (mark_of p xs n)
  marks-exact n = mark-exact p xs in_reach n (narrow n)

  pub numbers-exact : (n : ℕ) (more : List Float) → n < mark_count p → ExactFive (whole_mark_of p xs n) (drop (5 * n) (all_numbers p xs ++ more))
  numbers-exact n more h = let r = mark-at p xs n more h in rw r.1 (five-exact (whole_mark_of p xs n) (mark_of p xs n) r.0 (marks-exact n))
