-- the tables are cut to the plan, the rows in them are the neighbours of the pass, and its visits come next
use Rattle.std.proofs.Common.{refl, sym}
use Rattle.pass_draw.proofs.TurnLaws.{rows_fit, others_fit, ratings_fit, cut, still_cut, sortable, pass-next}
use Rattle.pass_draw.proofs.three.run_pass.Goals as goal

pub slice_bounds-first-end : goal.slice_bounds-first-end
slice_bounds-first-end c = rows_fit c.requires.1.is c.requires.0

pub slice_bounds-first-end-2 : goal.slice_bounds-first-end-2
slice_bounds-first-end-2 c = sym (cut c.requires.1.is c.requires.0).rows

pub slice_bounds-ends-end : goal.slice_bounds-ends-end
slice_bounds-ends-end c = others_fit c.requires.1.is c.requires.0

pub slice_bounds-ends-end-2 : goal.slice_bounds-ends-end-2
slice_bounds-ends-end-2 c = sym (cut c.requires.1.is c.requires.0).others

pub slice_bounds-sums-end : goal.slice_bounds-sums-end
slice_bounds-sums-end c = ratings_fit c.requires.1.is c.requires.0

pub slice_bounds-sums-end-2 : goal.slice_bounds-sums-end-2
slice_bounds-sums-end-2 c = sym (cut c.requires.1.is c.requires.0).ratings

pub neighbours-requires : goal.neighbours-requires
neighbours-requires c = sortable c.requires.1.is (cut c.requires.1.is c.requires.0)

pub pass-requires : goal.pass-requires
pass-requires c = let s = c.requires.1 in let k = c.neighbours.auto in
    (refl, record { it = s.it; is = pass-next s.is (still_cut (cut s.is c.requires.0) k.first k.ends k.sums) c.neighbours.ensures })

pub returns : goal.returns
returns c = let s = c.requires in let k = c.neighbours.auto in
    λ m t. c.pass.ensures m (pass-next t (still_cut (cut s.1.is s.0) k.first k.ends k.sums) c.neighbours.ensures)
