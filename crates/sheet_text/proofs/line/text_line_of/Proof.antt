-- `sheet_text::line::text_line_of` meets its contract: no line is longer than the local buffer, and what stands there is the line of
-- the plan as it was read.
use mathlib.Core.Path.{refl, sym, ◌∙◌, ap}
use Prim.Native.Nat.{◌<◌}
use native.Mathlib.Omega.{arith}
use borrow.Author.Rules.{rules}
use lib.ListN.{length, length-replicate}
use lib.Seq.{length-take-le}
use Rattle.plan.specs.Plan.{PlanData}
use Rattle.report_validity.proofs.Stored.{stored_of}
use Rattle.text.specs.Writing.{lines_of}
use Rattle.text_write.specs.inner.Data.{line_of}
use Rattle.text_write.specs.inner.Stored.{StoredPlan}
use Rattle.sheet_data.specs.inner.Parts.{plan_with}
use Rattle.sheet_fit.proofs.FitLaws.{writes, front_long, front-is}
use Rattle.sheet_text.proofs.Short.{line-short}
use Rattle.sheet_text.proofs.TextLaws.{no_line, a-line}
use Rattle.sheet_text.proofs.line.text_line_of.Statement.{statement}
use Rattle.sheet_text.proofs.line.text_line_of.Tie as tie

stored : (c : tie.Start) → StoredPlan c.args.plan c.args.counts.vertices c.args.counts.segments
stored c = stored_of c.args.plan c.args.counts.vertices c.args.counts.segments c.requires.0

add-if1 : tie.Need-overflow_add-wide
add-if1 c = omega (arith, c.wide.ensures, (stored c.before.before.before).levels, (stored c.before.before.before).segments)

add-if1-2 : tie.Need-overflow_add-wide-2
add-if1-2 c = omega (arith, c.wide.ensures, (stored c.before.before.before).levels, (stored c.before.before.before).segments)

returns : tie.Need-returns-then-n-wide
returns c =
    let a = c.args in
    writes (no_line a.plan a.remembered a.counts a.n a.out.now (omega (arith, c.if-n-wide.true, c.wide.ensures))) (record { answered = refl; left = refl })

stored-line-requires : tie.Need-stored_line-length-requires
stored-line-requires c κs =
    let a = c.args in
    let r = c.as_read-read in
    let is = r.ensures in
    let line : a.n < length (lines_of (plan_with r.result a.counts)) = omega (arith, is.lines, c.if-n-wide.false, c.wide.ensures) in
    (is.limits, record { plan = is.limits.plan; line = line; room = rw length-replicate (omega (arith, line-short (plan_with r.result a.counts) is.limits.plan is.three a.n line)) })

array-share-prefix-room : tie.Need-slice_bounds-room-end
array-share-prefix-room c = front_long c.stored_line-length.ensures

slice-aggregate-fit : tie.Need-slice_bounds-fit-end
slice-aggregate-fit c = sym (length-take-le _ _ (front_long c.stored_line-length.ensures))

returns-2 : tie.Need-returns
returns-2 c =
    let a = c.args in
    let r = c.as_read-read in
    let line = front-is {w = line_of (plan_with r.result a.counts) a.n} c.stored_line-length.ensures ∙ ap (λ (d : PlanData). line_of d a.n) r.ensures.is in
    writes (a-line a.plan a.remembered a.counts a.n a.out.now (omega (arith, c.if-n-wide.false, c.wide.ensures))) (rw line at c.fit.ensures)

pub text_line_of_spec : {M : Type 1} → statement M
text_line_of_spec =
    tie.close
    (tie.spec (λ c κs. search rules) add-if1 add-if1-2 returns (λ c κs. search rules) (λ c. search rules) stored-line-requires array-share-prefix-room
    slice-aggregate-fit (λ c κs. search rules) (λ c. search rules) returns-2)
