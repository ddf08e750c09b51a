-- The steps of `place_between` are those of the definition, on columns.
use Rattle.std.proofs.Common.{◌≡◌, ◌∙◌, ap, sym, length}
use Rattle.run_columns.specs.inner.Offsets.{offsets_from}
use Rattle.run_halves.proofs.Given.{given-between, placed-between}
use Rattle.run_halves.proofs.halves.place_between.Goals as goal
use Rattle.run_halves.proofs.halves.place_between.Goals.{After-fill_offsets}

filled : (c : After-fill_offsets) → c.fill_offsets.new.offsets ≡ offsets_from 0 c.args.steps.now (length c.args.old.now)
filled c = c.fill_offsets.ensures ∙ ap (offsets_from 0 c.args.steps.now) c.requires.offsets_len

-- src/halves.rt:156:5
pub place_halves-requires : goal.place_halves-requires
place_halves-requires c =
    let e = filled (goal.at.place_halves-requires c).After-fill_offsets in
    rw e (given-between _ _ _ _ _ _ _ _ c.requires.fits)

-- src/halves.rt:157:5
pub plus_offsets-requires-clause-offsets_of : goal.plus_offsets-requires-clause-offsets_of
plus_offsets-requires-clause-offsets_of c =
    let e = filled (goal.at.plus_offsets-requires-clause-offsets_of c).After-fill_offsets in
    let g = given-between _ _ _ _ _ _ _ _ c.requires.fits in
    rw e (record { boxes = g.offsets.boxes ∙ sym (c.place_halves.auto.z ∙ c.requires.fits.answer); small = g.offsets.small })

-- src/halves.rt:139:1
pub returns : goal.returns
returns c =
    let e = filled (goal.at.returns c).After-fill_offsets in
    rw e at c.plus_offsets.ensures
    ∙ placed-between _ _ _ _ _ _ _ _ c.requires.fits _ (c.place_halves.auto.z ∙ c.requires.fits.answer) (rw e at c.place_halves.ensures)
