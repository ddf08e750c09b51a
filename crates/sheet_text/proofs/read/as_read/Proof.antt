-- `sheet_text::read::as_read` meets its contract: the parts that are lent are the plan's lists, and the rest is as it was.
use mathlib.Core.Path.{◌≡◌, refl, sym, ◌∙◌}
use native.Mathlib.Omega.{arith}
use borrow.Author.Rules.{rules}
use lib.ListN.{length}
use lib.Seq.{length-take-le}
use Rattle.plan.specs.Limits.{max_vertices}
use Rattle.sheet_data.specs.inner.Parts.{plan_with}
use Rattle.sheet_data.proofs.Cuts.{PlanArrays, PlanCut, plan-cut}
use Rattle.sheet_text.proofs.ReadLaws.{numbered, as_read}
use Rattle.sheet_text.proofs.read.as_read.Statement.{statement}
use Rattle.sheet_text.proofs.read.as_read.Tie as tie

plan-arrays : (c : tie.Start) → PlanArrays c.args.plan
plan-arrays c = record { sizes = search rules; vias = search rules; halves = search rules; uppers = search rules; lowers = search rules; ratings = search rules }

numbers_long : (c : tie.Start) → length c.args.remembered ≡ max_vertices
numbers_long c = search rules

cut : (c : tie.Start) → PlanCut c.args.plan c.args.counts
cut c = plan-cut (plan-arrays c) c.args.counts c.requires.0

array-share-prefix-remembered : tie.Need-slice_bounds-remembered-end
array-share-prefix-remembered c = omega (arith, (cut c.before.before.before.before.before.before).few, numbers_long c.before.before.before.before.before.before)

slice-aggregate-number-back : tie.Need-slice_bounds-number_back-end
slice-aggregate-number-back c = sym (length-take-le _ _ (omega (arith, (cut c.before.before.before.before.before.before.before).few, numbers_long c.before.before.before.before.before.before.before)))

array-borrow-prefix-vias : tie.Need-slice_bounds-vias-end
array-borrow-prefix-vias c = (cut c.before.before.before.before.before.before.before).vias

slice-aggregate-number-back-2 : tie.Need-slice_bounds-number_back-end-2
slice-aggregate-number-back-2 c = sym (length-take-le _ _ (cut c.before.before.before.before.before.before.before.before).vias)

array-borrow-prefix-halves : tie.Need-slice_bounds-halves-end
array-borrow-prefix-halves c = (cut c.before.before.before.before.before.before.before.before).halves

slice-aggregate-number-back-3 : tie.Need-slice_bounds-number_back-end-3
slice-aggregate-number-back-3 c = sym (length-take-le _ _ (cut c.before.before.before.before.before.before.before.before.before).halves)

array-borrow-prefix-uppers : tie.Need-slice_bounds-uppers-end
array-borrow-prefix-uppers c = (cut c.before.before.before.before.before.before.before.before.before).uppers

slice-aggregate-number-back-4 : tie.Need-slice_bounds-number_back-end-4
slice-aggregate-number-back-4 c = sym (length-take-le _ _ (cut c.before.before.before.before.before.before.before.before.before.before).uppers)

array-borrow-prefix-lowers : tie.Need-slice_bounds-lowers-end
array-borrow-prefix-lowers c = (cut c.before.before.before.before.before.before.before.before.before.before).lowers

slice-aggregate-number-back-5 : tie.Need-slice_bounds-number_back-end-5
slice-aggregate-number-back-5 c = sym (length-take-le _ _ (cut c.before.before.before.before.before.before.before.before.before.before.before).lowers)

array-borrow-prefix-ratings : tie.Need-slice_bounds-ratings-end
array-borrow-prefix-ratings c = (cut c.before.before.before.before.before.before.before.before.before.before.before).ratings

slice-aggregate-number-back-6 : tie.Need-slice_bounds-number_back-end-6
slice-aggregate-number-back-6 c = sym (length-take-le _ _ (cut c.before.before.before.before.before.before.before.before.before.before.before.before).ratings)

number-back-requires : tie.Need-number_back-requires
number-back-requires c κs =
    let s = c.before.before.before.before.before.before.before.before.before.before.before.before in
    numbered s.args.plan s.args.remembered s.args.counts s.requires.0 s.requires.1 (plan-arrays s)

returns : tie.Need-returns
returns c =
    let s = c.before.before.before.before.before.before.before.before.before.before.before.before.before.before.before.before.before.before.before in
    let p = s.args.plan in
    let k = c.number_back.auto in
    let lists = c.number_back.ensures (plan_with p s.args.counts) (record { vias_are = refl; halves_are = refl; uppers_are = refl; lowers_are = refl; ratings_are = refl }) in
    rw c.new.ensures
    (as_read p s.args.remembered s.args.counts s.requires.0 s.requires.1 (plan-arrays s) _ _ _ _ _ lists
    (k.vias ∙ length-take-le _ _ (cut s).vias) (k.halves ∙ length-take-le _ _ (cut s).halves) (k.uppers ∙ length-take-le _ _ (cut s).uppers) (k.lowers ∙ length-take-le _ _ (cut s).lowers)
    (k.ratings ∙ length-take-le _ _ (cut s).ratings))

pub as_read_spec : {M : Type 1} → statement M
as_read_spec =
    tie.close
    (tie.spec array-share-prefix-remembered slice-aggregate-number-back array-borrow-prefix-vias slice-aggregate-number-back-2
    array-borrow-prefix-halves slice-aggregate-number-back-3 array-borrow-prefix-uppers slice-aggregate-number-back-4
    array-borrow-prefix-lowers slice-aggregate-number-back-5 array-borrow-prefix-ratings slice-aggregate-number-back-6
    number-back-requires
    (λ c κs. search rules) returns)
