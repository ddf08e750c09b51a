-- `sheet_fit::fit::fit_report_by` meets its contract: what `in_numbers` wrote holds the drawing in the numbers, and the report is that of these lists.
use mathlib.Core.Path.{◌≡◌, sym, ◌∙◌}
use Prim.Native.Nat.{ℕ}
use native.Mathlib.Omega.{arith}
use borrow.Author.Rules.{rules}
use lib.ListN.{length, replicate, length-append, length-replicate}
use lib.Seq.{length-take-le, take_at}
use Rattle.report_lines.specs.inner.Stored.{max_report}
use Rattle.report_numbers.specs.inner.Rooms.{HasNumbers}
use Rattle.report_numbers.proofs.Rooms.{numberable, report-asked, report-is}
use Rattle.sheet_fit.proofs.fit.fit_report_by.Statement.{statement}
use Rattle.sheet_fit.proofs.fit.fit_report_by.Tie as tie

numbered : (c : tie.Start) → HasNumbers c.args.m.now c.args.sizes.now c.args.preliminary.now c.args.finals.now c.args.passes.now
    c.args.levels.now c.args.boxes.now c.args.vertices.now c.args.positions.now
numbered c = (c.requires (replicate max_report 0) (omega (arith, length-replicate {A = ℕ} max_report 0))).numbered

-- positions by number are as many as the numbers
starts_long : (c : tie.After-in_numbers) → length c.in_numbers.new.starts ≡ length c.args.m.now
starts_long c = c.in_numbers.auto.starts ∙ length-take-le _ _ (numbered c.before.before.before.before.before.before.before.before.before.before.before).in_limit

ends_long : (c : tie.After-in_numbers) → length c.in_numbers.new.ends ≡ length c.args.m.now
ends_long c = c.in_numbers.auto.ends ∙ length-take-le _ _ (numbered c.before.before.before.before.before.before.before.before.before.before.before).in_limit

array-borrow-prefix-starts : tie.Need-slice_bounds-starts-end
array-borrow-prefix-starts c = (numbered c.before.before.before.before.before.before.before).in_limit

slice-aggregate-in-numbers : tie.Need-slice_bounds-in_numbers-end
slice-aggregate-in-numbers c = sym (length-take-le _ _ (numbered c.before.before.before.before.before.before.before.before).in_limit)

array-borrow-prefix-ends : tie.Need-slice_bounds-ends-end
array-borrow-prefix-ends c = (numbered c.before.before.before.before.before.before.before.before).in_limit

slice-aggregate-in-numbers-2 : tie.Need-slice_bounds-in_numbers-end-2
slice-aggregate-in-numbers-2 c = sym (length-take-le _ _ (numbered c.before.before.before.before.before.before.before.before.before).in_limit)

in-numbers-requires : tie.Need-in_numbers-requires
in-numbers-requires c κs =
    let h = numbered c.before.before.before.before.before.before.before.before.before.before in
    numberable h _ _ _ (length-take-le _ _ h.in_limit) (length-take-le _ _ h.in_limit) (search rules)

array-share-prefix-starts : tie.Need-slice_bounds-starts-end-2
array-share-prefix-starts c = rw length-append (omega (arith, starts_long c.before.before.before))

slice-aggregate-fit-report : tie.Need-slice_bounds-fit_report-end
slice-aggregate-fit-report c = rw (take_at _ _ _ (starts_long c.before.before.before.before)) (sym (starts_long c.before.before.before.before))

array-share-prefix-ends : tie.Need-slice_bounds-ends-end-2
array-share-prefix-ends c = rw length-append (omega (arith, ends_long c.before.before.before.before))

slice-aggregate-fit-report-2 : tie.Need-slice_bounds-fit_report-end-2
slice-aggregate-fit-report-2 c = rw (take_at _ _ _ (ends_long c.before.before.before.before.before)) (sym (ends_long c.before.before.before.before.before))

fit-report-requires : tie.Need-fit_report-requires
fit-report-requires c κs =
    let l = c.before.before.before.before.before.before.before in
    rw (take_at _ _ _ (starts_long l), take_at _ _ _ (ends_long l)) (λ o k. report-asked l.in_numbers.ensures (c.requires o k))

returns : tie.Need-returns
returns c =
    let l = c.before.before.before.before.before.before.before.before.before.before in
    let s = c.before.before.before.before.before.before.before.before.before.before.before.before.before.before.before.before.before.before.before.before.before in
    rw (report-is (numbered s) l.in_numbers.ensures s.args.spacing) at (rw (take_at _ _ _ (starts_long l), take_at _ _ _ (ends_long l)) at c.fit_report.ensures)

pub fit_report_by_spec : {M : Type 1} → statement M
fit_report_by_spec =
    tie.close
    (tie.spec array-borrow-prefix-starts slice-aggregate-in-numbers array-borrow-prefix-ends slice-aggregate-in-numbers-2 (λ c. search rules)
    in-numbers-requires array-share-prefix-starts slice-aggregate-fit-report array-share-prefix-ends slice-aggregate-fit-report-2 (λ c. search rules)
    fit-report-requires (λ c. search rules) returns)
