-- `text_report::tangled::report_untangled` meets its contract: the arrays hold the drawing that the plan has, and the report is made of them in the numbers.
use mathlib.Core.Path.{◌≡◌, refl, sym, ◌∙◌, ap}
use mathlib.Core.List.{List, ◌++◌}
use Prim.Native.Nat.{ℕ}
use borrow.Author.Rules.{rules}
use lib.ListN.{length, take, drop, replicate}
use lib.Seq.{length-take-le}
use lib.IntN.{ℤ, pos}
use Rattle.ints.proofs.FrontLaws.{first-fit, first-is, first_count}
use Rattle.plan.specs.Plan.{PlanData}
use Rattle.plan.specs.inner.Held.{held_plan}
use Rattle.plan.proofs.HeldLaws.{holds-held, few_vertices}
use Rattle.pass_draw.specs.inner.Made.{Made}
use Rattle.sheet_fit.specs.inner.Fitted.{fitted_text}
use Rattle.sheet_fit.proofs.FitLaws.{writes}
use Rattle.text_report.proofs.Shown.{in-passes, in-levels, in-counts, report-asked-by, report-is-by}
use Rattle.text_report.proofs.tangled.report_untangled.Statement.{statement}
use Rattle.text_report.proofs.tangled.report_untangled.Tie as tie

abbrev held : tie.Start → PlanData
held c = let a = c.args in held_plan a.gap a.spacing a.sizes.now a.vias.now a.halves.now a.uppers.now a.lowers.now a.ratings.now

-- as many zeros as there are vertices
zeros : (c : tie.Start) → length (take (length c.args.vias.now) (replicate 1024 (pos 0))) ≡ length c.args.vias.now
zeros c = length-take-le _ (replicate 1024 (pos 0)) (few_vertices (held c) c.requires.ok)

abbrev rest : ℕ → List ℤ
rest n = drop n (replicate 1024 (pos 0))

-- once it is drawn
abbrev start : tie.After-draw-p → tie.Start
start c = c.before.before.before.before.before.before.before.before.before.before.before.before.before.before.before.before

abbrev count : tie.After-draw-p → ℕ
count c = length (start c).args.vias.now

abbrev firsts : tie.After-draw-p → List ℤ
firsts c = c.draw-p.new.preliminary

abbrev finals : tie.After-draw-p → List ℤ
finals c = c.draw-p.new.finals

firsts-long : (c : tie.After-draw-p) → length (firsts c) ≡ count c
firsts-long c = c.draw-p.auto.preliminary ∙ zeros (start c)

finals-long : (c : tie.After-draw-p) → length (finals c) ≡ count c
finals-long c = c.draw-p.auto.finals ∙ zeros (start c)

firsts-are : (c : tie.After-draw-p) → take (count c) (firsts c ++ rest (count c)) ≡ firsts c
firsts-are c = first-is (firsts c) (rest (count c)) (count c) (firsts-long c)

finals-are : (c : tie.After-draw-p) → take (count c) (finals c ++ rest (count c)) ≡ finals c
finals-are c = first-is (finals c) (rest (count c)) (count c) (finals-long c)

made : (c : tie.After-draw-p) → let l = c.draw-p.new in
    Made (held (start c)) c.draw-p.result (firsts c) (finals c) l.passes l.levels l.counts l.vertices l.positions
made c = c.draw-p.ensures (held (start c)) (record { lists = holds-held (start c).requires.ok; ratings_are = refl })

array-borrow-prefix-preliminary : tie.Need-slice_bounds-preliminary-end
array-borrow-prefix-preliminary c = few_vertices (held c.before.before.before.before.before.before.before.before) c.requires.ok

slice-aggregate-draw : tie.Need-slice_bounds-draw-end
slice-aggregate-draw c = sym (zeros c.before.before.before.before.before.before.before.before.before)

array-borrow-prefix-finals : tie.Need-slice_bounds-finals-end
array-borrow-prefix-finals c = few_vertices (held c.before.before.before.before.before.before.before.before.before) c.requires.ok

slice-aggregate-draw-2 : tie.Need-slice_bounds-draw-end-2
slice-aggregate-draw-2 c = sym (zeros c.before.before.before.before.before.before.before.before.before.before)

draw-requires : tie.Need-draw-p-requires
draw-requires c κs =
    let s = c.before.before.before.before.before.before.before.before.before.before.before.before.before.before.before in
    record {
      some = record { plan = held s; lists = record { lists = holds-held s.requires.ok; ratings_are = refl } };
      preliminary_room = zeros s;
      final_room = zeros s;
      no_passes = refl;
      no_levels = refl;
      no_counts = refl;
      no_vertices = refl;
      no_positions = refl;
    }

array-share-prefix-preliminary : tie.Need-slice_bounds-preliminary-end-2
array-share-prefix-preliminary c = let d = c.before.before.before.before.before.before.before in first-fit (firsts d) (rest (count d)) (count d) (firsts-long d)

slice-aggregate-fit-report-by : tie.Need-slice_bounds-fit_report_by-end
slice-aggregate-fit-report-by c = let d = c.before.before.before.before.before.before.before.before in first_count (firsts d) (rest (count d)) (count d) (firsts-long d)

array-share-prefix-finals : tie.Need-slice_bounds-finals-end-2
array-share-prefix-finals c = let d = c.before.before.before.before.before.before.before.before in first-fit (finals d) (rest (count d)) (count d) (finals-long d)

slice-aggregate-fit-report-by-2 : tie.Need-slice_bounds-fit_report_by-end-2
slice-aggregate-fit-report-by-2 c = let d = c.before.before.before.before.before.before.before.before.before in first_count (finals d) (rest (count d)) (count d) (finals-long d)

array-share-prefix-passes : tie.Need-slice_bounds-passes-end
array-share-prefix-passes c = let d = c.before.before.before.before.before.before.before.before.before in in-passes (held (start d)) (start d).requires.ok (made d)

slice-aggregate-fit-report-by-3 : tie.Need-slice_bounds-fit_report_by-end-3
slice-aggregate-fit-report-by-3 c =
    let d = c.before.before.before.before.before.before.before.before.before.before in
    sym (length-take-le _ _ (in-passes (held (start d)) (start d).requires.ok (made d)))

array-share-prefix-levels : tie.Need-slice_bounds-levels-end
array-share-prefix-levels c = let d = c.before.before.before.before.before.before.before.before.before.before in in-levels (held (start d)) (start d).requires.ok (made d)

slice-aggregate-fit-report-by-4 : tie.Need-slice_bounds-fit_report_by-end-4
slice-aggregate-fit-report-by-4 c =
    let d = c.before.before.before.before.before.before.before.before.before.before.before in
    sym (length-take-le _ _ (in-levels (held (start d)) (start d).requires.ok (made d)))

array-share-prefix-boxes : tie.Need-slice_bounds-boxes-end
array-share-prefix-boxes c = let d = c.before.before.before.before.before.before.before.before.before.before.before in in-counts (held (start d)) (start d).requires.ok (made d)

slice-aggregate-fit-report-by-5 : tie.Need-slice_bounds-fit_report_by-end-5
slice-aggregate-fit-report-by-5 c =
    let d = c.before.before.before.before.before.before.before.before.before.before.before.before in
    sym (length-take-le _ _ (in-counts (held (start d)) (start d).requires.ok (made d)))

fit-report-by-requires : tie.Need-fit_report_by-requires
fit-report-by-requires c κs =
    let d = c.before.before.before.before.before.before.before.before.before.before.before.before.before.before.before in
    rw (firsts-are d, finals-are d) (λ o k. report-asked-by (held (start d)) (start d).requires.ok (made d) (start d).args.numbers.now (start d).requires.own k)

returns : tie.Need-returns
returns c =
    let d = c.before.before.before.before.before.before.before.before.before.before.before.before.before.before.before.before.before.before in
    let p = held (start d) in
    let b = (start d).args.out.now in
    writes (ap (λ w. fitted_text w b) (report-is-by p (start d).requires.ok (made d) (start d).args.numbers.now (start d).requires.own)) (rw (firsts-are d, finals-are d) at c.fit_report_by.ensures)

pub report_untangled_spec : {M : Type 1} → statement M
report_untangled_spec =
    tie.close
    (tie.spec array-borrow-prefix-preliminary slice-aggregate-draw array-borrow-prefix-finals slice-aggregate-draw-2
    (λ c. search rules) (λ c. search rules) (λ c. search rules) (λ c. search rules) (λ c. search rules) draw-requires
    array-share-prefix-preliminary slice-aggregate-fit-report-by array-share-prefix-finals slice-aggregate-fit-report-by-2
    array-share-prefix-passes slice-aggregate-fit-report-by-3 array-share-prefix-levels slice-aggregate-fit-report-by-4
    array-share-prefix-boxes slice-aggregate-fit-report-by-5 (λ c. search rules) (λ c. search rules) fit-report-by-requires
    (λ c. search rules) returns)
