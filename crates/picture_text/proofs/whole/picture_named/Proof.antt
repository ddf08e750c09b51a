-- `picture_text::whole::picture_named` meets its contract: the final positions are those of the plan's drawing, and the names those of the text.
use mathlib.Core.Path.{◌≡◌, refl, sym, ◌∙◌}
use mathlib.Core.List.{List, ◌++◌}
use Prim.Native.Nat.{ℕ}
use borrow.Author.Rules.{rules}
use lib.ListN.{length, take, drop, replicate}
use lib.Seq.{length-take-le}
use lib.IntN.{ℤ, pos}
use Rattle.ints.proofs.FrontLaws.{first-fit, first-is, first_count}
use Rattle.plan.specs.Plan.{PlanData}
use Rattle.plan.specs.inner.Held.{held_plan}
use Rattle.plan.proofs.HeldLaws.{holds-held, few_vertices}
use Rattle.passes.specs.Drawing.{drawing_of}
use Rattle.picture_text.proofs.TextLaws.{leaves, picture-of, names-is, names-few, picture-asked}
use Rattle.picture_text.proofs.whole.picture_named.Statement.{statement}
use Rattle.picture_text.proofs.whole.picture_named.Tie as tie

abbrev held : tie.Start → PlanData
held c = let a = c.args in held_plan a.gap a.spacing a.sizes.now a.vias.now a.halves.now a.uppers.now a.lowers.now a.ratings.now

-- as many zeros as there are vertices
zeros : (c : tie.Start) → length (take (length c.args.vias.now) (replicate 1024 (pos 0))) ≡ length c.args.vias.now
zeros c = length-take-le _ (replicate 1024 (pos 0)) (few_vertices (held c) c.requires.plan)

abbrev rest : ℕ → List ℤ
rest n = drop n (replicate 1024 (pos 0))

-- once it is drawn
abbrev start : tie.After-draw_positions → tie.Start
start c = c.before.before.before.before.before.before.before.before.before.before.before.before.before

abbrev count : tie.After-draw_positions → ℕ
count c = length (start c).args.vias.now

abbrev drawn : tie.After-draw_positions → List ℤ
drawn c = c.draw_positions.new.finals

long : (c : tie.After-draw_positions) → length (drawn c) ≡ count c
long c = c.draw_positions.auto.finals ∙ zeros (start c)

final : (c : tie.After-draw_positions) → take (count c) (drawn c ++ rest (count c)) ≡ (drawing_of (held (start c))).final
final c = first-is (drawn c) (rest (count c)) (count c) (long c) ∙ (c.draw_positions.ensures (held (start c)) (record { lists = holds-held (start c).requires.plan; ratings_are = refl })).ended

array-borrow-prefix-preliminary : tie.Need-slice_bounds-preliminary-end
array-borrow-prefix-preliminary c = few_vertices (held c.before.before.before.before.before.before.before.before.before.before) c.requires.plan

slice-aggregate-draw-positions : tie.Need-slice_bounds-draw_positions-end
slice-aggregate-draw-positions c = sym (zeros c.before.before.before.before.before.before.before.before.before.before.before)

array-borrow-prefix-finals : tie.Need-slice_bounds-finals-end
array-borrow-prefix-finals c = few_vertices (held c.before.before.before.before.before.before.before.before.before.before.before) c.requires.plan

slice-aggregate-draw-positions-2 : tie.Need-slice_bounds-draw_positions-end-2
slice-aggregate-draw-positions-2 c = sym (zeros c.before.before.before.before.before.before.before.before.before.before.before.before)

draw-positions-requires : tie.Need-draw_positions-requires
draw-positions-requires c κs =
    let s = c.before.before.before.before.before.before.before.before.before.before.before.before in
    record { some = record { plan = held s; lists = record { lists = holds-held s.requires.plan; ratings_are = refl } }; preliminary_room = zeros s; final_room = zeros s }

array-share-prefix-finals : tie.Need-slice_bounds-finals-end-2
array-share-prefix-finals c = let d = c.before.before in first-fit (drawn d) (rest (count d)) (count d) (long d)

slice-aggregate-fit-picture : tie.Need-slice_bounds-fit_picture-end
slice-aggregate-fit-picture c = let d = c.before.before.before in first_count (drawn d) (rest (count d)) (count d) (long d)

fit-picture-requires : tie.Need-fit_picture-requires
fit-picture-requires c κs =
    let s = start c.before.before.before.before in
    let a = s.args in (
      rw (final c.before.before.before.before) (picture-asked (held s) a.names.now a.starts.now a.ends.now s.requires),
      names-few (held s) a.names.now a.starts.now a.ends.now s.requires,
    )

returns : tie.Need-returns
returns c =
    let d = c.before.before.before.before.before.before.before in
    let s = start d in
    let a = s.args in
    leaves (picture-of (held s) a.names.now a.out.now s.requires.names s.requires.good)
    (rw (final d, names-is (held s) a.names.now a.starts.now a.ends.now s.requires) at c.fit_picture.ensures)

pub picture_named_spec : {M : Type 1} → statement M
picture_named_spec =
    tie.close
    (tie.spec array-borrow-prefix-preliminary slice-aggregate-draw-positions array-borrow-prefix-finals
    slice-aggregate-draw-positions-2 draw-positions-requires array-share-prefix-finals slice-aggregate-fit-picture
    fit-picture-requires (λ c. search rules) returns)
