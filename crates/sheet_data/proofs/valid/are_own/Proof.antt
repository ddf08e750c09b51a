-- `sheet_data::valid::are_own` meets its contract: the arrays are as long as what the counts cut off.
use mathlib.Core.Path.{◌≡◌, sym}
use native.Mathlib.Omega.{arith}
use borrow.Author.Rules.{rules}
use lib.ListN.{length}
use lib.Seq.{length-take-le}
use Rattle.plan.specs.Limits.{max_vertices}
use Rattle.sheet_data.specs.inner.Parts.{plan_with}
use Rattle.sheet_data.proofs.Cuts.{PlanArrays, PlanCut, plan-cut}
use Rattle.sheet_data.proofs.ValidLaws.{few-numbers, its-numbers}
use Rattle.sheet_data.proofs.valid.are_own.Statement.{statement}
use Rattle.sheet_data.proofs.valid.are_own.Tie as tie

plan-arrays : (c : tie.Start) → PlanArrays c.args.plan
plan-arrays c = record { sizes = search rules; vias = search rules; halves = search rules; uppers = search rules; lowers = search rules; ratings = search rules }

numbers_long : (c : tie.Start) → length c.args.remembered ≡ max_vertices
numbers_long c = search rules

in-plan : (c : tie.Start) → PlanCut c.args.plan c.args.counts
in-plan c = plan-cut (plan-arrays c) c.args.counts c.requires

array-share-prefix-sizes : tie.Need-slice_bounds-sizes-end
array-share-prefix-sizes c = omega (arith, (in-plan c.before.before).sizes, c.wide-k.ensures)

slice-aggregate-own-numbers : tie.Need-slice_bounds-own_numbers-end
slice-aggregate-own-numbers c = sym (length-take-le _ _ (omega (arith, (in-plan c.before.before.before).sizes, c.wide-k.ensures)))

array-share-prefix-remembered : tie.Need-slice_bounds-remembered-end
array-share-prefix-remembered c = omega (arith, (in-plan c.before.before.before).few, numbers_long c.before.before.before)

slice-aggregate-own-numbers-2 : tie.Need-slice_bounds-own_numbers-end-2
slice-aggregate-own-numbers-2 c = sym (length-take-le _ _ (omega (arith, (in-plan c.before.before.before.before).few, numbers_long c.before.before.before.before)))

own-numbers-requires : tie.Need-own_numbers-requires
own-numbers-requires c κs =
    let s = c in
    let a = s.args in
    rw c.wide-k.ensures (few-numbers a.plan a.counts s.requires a.remembered)

returns : tie.Need-returns
returns c =
    let s = c.before.before.before.before.before in
    let a = s.args in
    c.own_numbers.ensures (plan_with a.plan a.counts) (rw c.wide-k.ensures (its-numbers a.plan a.counts s.requires (plan-arrays s) a.remembered (numbers_long s)))

pub are_own_spec : {M : Type 1} → statement M
are_own_spec =
    tie.close
    (tie.spec (λ c κs. search rules) array-share-prefix-sizes slice-aggregate-own-numbers array-share-prefix-remembered slice-aggregate-own-numbers-2
    own-numbers-requires returns)
