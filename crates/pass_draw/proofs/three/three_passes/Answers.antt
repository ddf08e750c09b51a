use Rattle.std.proofs.Common.{◌∙◌, ℕ, Bool, false, sym, replicate}
use Rattle.std.proofs.lemmas.List.{length-take-le}
use Rattle.pass_draw.proofs.StartLaws.{vertices-few, boxes-count, vertices-count, loose-asks, at-start}
use Rattle.pass_draw.proofs.three.three_passes.Goals as goal

pub slice_bounds-apart-end : goal.slice_bounds-apart-end
slice_bounds-apart-end c = vertices-few c.requires.0.is.lists

pub slice_bounds-apart-end-2 : goal.slice_bounds-apart-end-2
slice_bounds-apart-end-2 c = sym (length-take-le {A = ℕ} _ (replicate 1024 0) (vertices-few c.requires.0.is.lists))

pub slice_bounds-marks-end : goal.slice_bounds-marks-end
slice_bounds-marks-end c = vertices-few c.requires.0.is.lists

pub slice_bounds-marks-end-2 : goal.slice_bounds-marks-end-2
slice_bounds-marks-end-2 c = sym (length-take-le {A = Bool} _ (replicate 1024 false) (vertices-few c.requires.0.is.lists))

pub distances-requires : goal.distances-requires
distances-requires c = let l = c.requires.0.is.lists in
    (vertices-count l ∙ sym (boxes-count l), length-take-le {A = ℕ} _ (replicate 1024 0) (vertices-few l) ∙ sym (boxes-count l))

pub mark_loose-requires-clause-sizes_value : goal.mark_loose-requires-clause-sizes_value
mark_loose-requires-clause-sizes_value c = let l = c.requires.0.is.lists in
    (vertices-count l, length-take-le {A = Bool} _ (replicate 1024 false) (vertices-few l))

pub mark_loose-requires-clause-vias_len : goal.mark_loose-requires-clause-vias_len
mark_loose-requires-clause-vias_len c = let some = c.requires.0 in let d = c.distances in
    loose-asks some.is.lists (d.ensures some.it) some.is.preliminaries (d.auto.apart ∙ length-take-le {A = ℕ} _ (replicate 1024 0) (vertices-few some.is.lists))

pub run_with_starts-requires : goal.run_with_starts-requires
run_with_starts-requires c = let some = c.requires.0 in
    record { it = some.it; is = at-start some.is.lists (c.distances.ensures some.it) some.is.preliminaries c.mark_loose.ensures some.is.ratings_are c.requires.1 }

pub returns : goal.returns
returns c = λ p x. c.run_with_starts.ensures p (at-start x.lists (c.distances.ensures p) x.preliminaries c.mark_loose.ensures x.ratings_are c.requires.1)
