-- the passes before q are made and listed
use Rattle.pass_tables.specs.inner.Moments.{Leaves}
use Rattle.pass_list.specs.inner.Listing.{columns}
use Rattle.pass_draw.specs.inner.Turn.{graph}
use Rattle.pass_draw.specs.inner.Drawn.{begun, AtFirst}
use Rattle.pass_draw.proofs.ThreeLaws.{Reached}
use Rattle.pass_draw.proofs.three.run_passes.Given as goal

abbrev pub invariant-loop-q : goal.invariant-loop-q
invariant-loop-q l = record {
  reached : Leaves (AtFirst (begun (graph l.starts l.vias l.uppers l.lowers l.ratings) l.initial.at l.initial.apart l.initial.marks
      (columns l.initial.passes l.initial.levels l.initial.sizes l.initial.vertices l.initial.positions)))
      (λ p. Reached p l.q l.listed.placings l.listed.boxes l.at l.apart l.marks (columns l.passes l.levels l.sizes l.vertices l.positions));
}
