-- `text_marks::all_marks::marks_plan` meets its contract: the final positions are those of the plan's drawing.
use mathlib.Core.Path.{◌≡◌, refl, sym, ◌∙◌}
use mathlib.Core.List.{List, ◌++◌}
use Prim.Native.Nat.{ℕ}
use borrow.Author.Rules.{rules}
use lib.ListN.{length, take, drop, replicate}
use lib.Seq.{length-take-le}
use lib.IntN.{ℤ, pos}
use Rattle.ints.proofs.FrontLaws.{first-fit, first-is, first_count}
use Rattle.plan.specs.Plan.{PlanData}
use Rattle.plan.specs.inner.Held.{held_plan}
use Rattle.plan.proofs.HeldLaws.{holds-held, few_vertices}
use Rattle.passes.specs.Drawing.{drawing_of}
use Rattle.sheet_fit.proofs.FitLaws.{writes}
use Rattle.text_marks.proofs.Shown.{marks-asked}
use Rattle.text_marks.proofs.Texts.{marks-of}
use Rattle.text_marks.proofs.all_marks.marks_plan.Statement.{statement}
use Rattle.text_marks.proofs.all_marks.marks_plan.Tie as tie

abbrev held : tie.Start → PlanData
held c = let a = c.args in held_plan a.gap a.spacing a.sizes.now a.vias.now a.halves.now a.uppers.now a.lowers.now a.ratings.now

-- as many zeros as there are vertices
zeros : (c : tie.Start) → length (take (length c.args.vias.now) (replicate 1024 (pos 0))) ≡ length c.args.vias.now
zeros c = length-take-le _ (replicate 1024 (pos 0)) (few_vertices (held c) c.requires)

abbrev rest : ℕ → List ℤ
rest n = drop n (replicate 1024 (pos 0))

-- once it is drawn
abbrev start : tie.After-draw_positions → tie.Start
start c = c.before.before.before.before.before.before.before.before.before.before

abbrev count : tie.After-draw_positions → ℕ
count c = length (start c).args.vias.now

abbrev drawn : tie.After-draw_positions → List ℤ
drawn c = c.draw_positions.new.finals

long : (c : tie.After-draw_positions) → length (drawn c) ≡ count c
long c = c.draw_positions.auto.finals ∙ zeros (start c)

final : (c : tie.After-draw_positions) → take (count c) (drawn c ++ rest (count c)) ≡ (drawing_of (held (start c))).final
final c = first-is (drawn c) (rest (count c)) (count c) (long c) ∙ (c.draw_positions.ensures (held (start c)) (record { lists = holds-held (start c).requires; ratings_are = refl })).ended

array-borrow-prefix-preliminary : tie.Need-slice_bounds-preliminary-end
array-borrow-prefix-preliminary c = few_vertices (held c.before.before.before.before.before.before.before) c.requires

slice-aggregate-draw-positions : tie.Need-slice_bounds-draw_positions-end
slice-aggregate-draw-positions c = sym (zeros c.before.before.before.before.before.before.before.before)

array-borrow-prefix-finals : tie.Need-slice_bounds-finals-end
array-borrow-prefix-finals c = few_vertices (held c.before.before.before.before.before.before.before.before) c.requires

slice-aggregate-draw-positions-2 : tie.Need-slice_bounds-draw_positions-end-2
slice-aggregate-draw-positions-2 c = sym (zeros c.before.before.before.before.before.before.before.before.before)

draw-positions-requires : tie.Need-draw_positions-requires
draw-positions-requires c κs =
    let s = c.before.before.before.before.before.before.before.before.before in
    record { some = record { plan = held s; lists = record { lists = holds-held s.requires; ratings_are = refl } }; preliminary_room = zeros s; final_room = zeros s }

array-share-prefix-finals : tie.Need-slice_bounds-finals-end-2
array-share-prefix-finals c = let d = c.before.before in first-fit (drawn d) (rest (count d)) (count d) (long d)

slice-aggregate-fit-marks : tie.Need-slice_bounds-fit_marks-end
slice-aggregate-fit-marks c = let d = c.before.before.before in first_count (drawn d) (rest (count d)) (count d) (long d)

fit-marks-requires : tie.Need-fit_marks-requires
fit-marks-requires c κs = let d = c.before.before.before.before in rw (final d) (marks-asked (held (start d)) (start d).requires)

returns : tie.Need-returns
returns c =
    let d = c.before.before.before.before.before.before.before in
    let p = held (start d) in
    writes (marks-of p (start d).args.out.now) (rw (final d) at (c.fit_marks.ensures p refl))

pub marks_plan_spec : {M : Type 1} → statement M
marks_plan_spec =
    tie.close
    (tie.spec array-borrow-prefix-preliminary slice-aggregate-draw-positions array-borrow-prefix-finals
    slice-aggregate-draw-positions-2 draw-positions-requires array-share-prefix-finals slice-aggregate-fit-marks
    fit-marks-requires (λ c. search rules) returns)
