-- `sheet_text::read::number_back` meets its contract: the numbers are inverted, and the plan numbered anew by that.
use mathlib.Core.Path.{sym, ◌∙◌}
use mathlib.Core.List.{List}
use Prim.Native.Nat.{ℕ}
use borrow.Author.Rules.{rules}
use lib.ListN.{length, drop, replicate}
use lib.Seq.{length-take-le, take_at}
use Rattle.plan.specs.Limits.{max_vertices}
use Rattle.plan_renumber.specs.Renumber.{renumbered}
use Rattle.plan_renumber.specs.inner.Words.{Lists}
use Rattle.sheet_text.proofs.ReadLaws.{inverse-many, front-reach, front-many, by_front, renumberable}
use Rattle.sheet_text.proofs.read.number_back.Statement.{statement}
use Rattle.sheet_text.proofs.read.number_back.Tie as tie

-- what stands behind the inverted numbers
abbrev beyond : tie.Start → List ℕ
beyond s = drop (length s.args.remembered.now) (replicate max_vertices 0)

slice-aggregate-invert : tie.Need-slice_bounds-invert-end
slice-aggregate-invert c = sym (length-take-le _ _ c.requires.few)

invert-requires : tie.Need-invert-requires
invert-requires c κs = let n = c.requires in record { few = n.few; long = length-take-le _ _ n.few; once = n.once }

array-share-prefix-m : tie.Need-slice_bounds-m-end-2
array-share-prefix-m c =
    front-reach c.invert.new.places (beyond c.before.before.before.before.before.before.before.before.before) _ (inverse-many c.requires c.invert.ensures)

slice-aggregate-renumber : tie.Need-slice_bounds-renumber-end
slice-aggregate-renumber c =
    front-many c.invert.new.places (beyond c.before.before.before.before.before.before.before.before.before.before) _ (inverse-many c.requires c.invert.ensures)

slice-aggregate-renumber-2 : tie.Need-slice_bounds-renumber-end-2
slice-aggregate-renumber-2 c = sym (length-take-le _ _ c.requires.few)

slice-aggregate-renumber-3 : tie.Need-slice_bounds-renumber-end-3
slice-aggregate-renumber-3 c = sym (length-take-le _ _ c.requires.few)

slice-aggregate-renumber-4 : tie.Need-slice_bounds-renumber-end-4
slice-aggregate-renumber-4 c = sym (length-take-le _ _ c.requires.few)

slice-aggregate-renumber-5 : tie.Need-slice_bounds-renumber-end-5
slice-aggregate-renumber-5 c = sym (length-take-le _ _ c.requires.segments)

renumber-requires : tie.Need-renumber-requires
renumber-requires c κs =
    let n = c.requires in
    let inverted = c.invert.ensures in
    renumberable n (length-take-le _ _ n.few) (length-take-le _ _ n.few) (length-take-le _ _ n.few) (length-take-le _ _ n.segments) _
    (take_at _ _ _ (inverse-many n inverted) ∙ inverted)

returns : tie.Need-returns
returns c p l =
    let inverted = c.invert.ensures in
    let out = c.renumber.new in
    by_front (λ m. Lists (renumbered p m) out.vias out.halves out.uppers out.lowers out.ratings) (beyond c.before.before.before.before.before.before.before.before.before.before.before.before.before.before.before.before.before.before.before.before.before.before.before.before.before.before.before.before.before.before.before.before.before.before) (inverse-many c.requires inverted) inverted (c.renumber.ensures p l)

pub number_back_spec : {M : Type 1} → statement M
number_back_spec =
    tie.close
    (tie.spec (λ c. search rules) slice-aggregate-invert invert-requires array-share-prefix-m slice-aggregate-renumber (λ c. search rules)
    slice-aggregate-renumber-2 (λ c. search rules) slice-aggregate-renumber-3 (λ c. search rules) slice-aggregate-renumber-4
    (λ c. search rules) slice-aggregate-renumber-5 renumber-requires (λ c. search rules) (λ c. search rules) (λ c. search rules)
    (λ c. search rules) (λ c. search rules) returns)
