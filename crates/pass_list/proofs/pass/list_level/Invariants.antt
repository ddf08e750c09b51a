-- `pass_list::pass::list_level`: at every turn the runs before `from` are listed and those from there on come next.
use Rattle.std.proofs.Common.{◌+◌, ◌-◌}
use Rattle.pass_tables.specs.inner.Moments.{Leaves}
use Rattle.pass_list.specs.inner.Listing.{columns}
use Rattle.pass_list.specs.inner.Ended.{ending, LevelEnding}
use Rattle.pass_list.proofs.LevelLaws.{Midway}
use Rattle.pass_list.proofs.pass.list_level.Given as goal

abbrev pub invariant-loop-from : goal.invariant-loop-from
invariant-loop-from l = let i = l.initial in
    Leaves (LevelEnding l.q l.l l.start l.to i.listed.placings i.listed.boxes (ending l.vias l.had l.marks l.at (columns i.passes i.levels i.sizes i.vertices i.positions)))
    (λ m. Midway m.plan m.before l.q l.l l.from l.listed.placings l.listed.boxes l.had l.marks l.at (columns l.passes l.levels l.sizes l.vertices l.positions))

abbrev pub decreases-loop-from : goal.decreases-loop-from
decreases-loop-from l = l.to + 1 - l.from
