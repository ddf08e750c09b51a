-- `pass_list::pass::list_pass`: at every turn the levels before it are listed.
use Rattle.pass_tables.specs.inner.Moments.{Leaves}
use Rattle.pass_list.specs.inner.Listing.{columns}
use Rattle.pass_list.specs.inner.Ended.{ending, PassEnding}
use Rattle.pass_list.proofs.TurnLaws.{Listing-to}
use Rattle.pass_list.proofs.pass.list_pass.Given as goal

abbrev pub invariant-loop-k : goal.invariant-loop-k
invariant-loop-k l = let i = l.initial in
    Leaves (PassEnding l.q i.listed.placings i.listed.boxes l.starts (ending l.vias l.had l.marks l.at (columns i.passes i.levels i.sizes i.vertices i.positions)))
    (λ m. Listing-to m.plan m.before l.q l.k l.listed.placings l.listed.boxes l.had l.marks l.at (columns l.passes l.levels l.sizes l.vertices l.positions))
