-- `pass_list::pass::list_level`: at every turn the runs before `from` are listed and those from there on come next.
use Rattle.std.proofs.Common.{arith, ◌-◌}
use Rattle.pass_tables.proofs.RunLaws.{next as next-via}
use Rattle.pass_list.proofs.LevelLaws.{level-inside, arrays-of, midway_start, order, fits-here, midway-next, midway_end}
use Rattle.pass_list.proofs.pass.list_level.Goals as goal

pub loop-from-init : goal.loop-from-init
loop-from-init c m x = midway_start x.is x.stored

pub run_end-end-requires : goal.run_end-end-requires
run_end-end-requires c = (c.loop-from-test.true, (level-inside c.requires.is.is).0)

pub was_placed-placed-requires : goal.was_placed-placed-requires
was_placed-placed-requires c =
    let x = c.requires in
    let t = x.is.is in
    let o = order t (c.loop-from.invariant x.it x.is) c.loop-from-test.true c.run_end-end.result c.run_end-end.ensures in
    (o.low, o.high, omega (arith, o.boxes, o.high, o.vertices, t.hads), omega (arith, o.boxes, o.high, o.vertices, t.marked))

pub list_run-listed-requires : goal.list_run-listed-requires
list_run-listed-requires c =
    let x = c.requires in
    let t = x.is.is in
    let end = c.run_end-end.result in
    let m = c.loop-from.invariant x.it x.is in
    let o = order t m c.loop-from-test.true end c.run_end-end.ensures in
    let f = fits-here t m c.loop-from-test.true end c.run_end-end.ensures c.was_placed-placed.result c.was_placed-placed.ensures x.is.stored.placings x.is.stored.boxes x.is.fits in
    let i = level-inside t in
    (arrays-of m.stored f, o.boxes, omega (arith, o.high, o.vertices, t.standing), omega (arith, o.high, o.vertices, i.1, i.2), f)

pub overflow_add-from : goal.overflow_add-from
overflow_add-from c =
    let i = level-inside c.requires.is.is in
    let n = next-via c.args.vias.now c.loop-from.from (c.args.to - c.loop-from.from) in
    omega (arith, i.0, i.1, c.run_end-end.ensures, n.high)

pub loop-from-smaller : goal.loop-from-smaller
loop-from-smaller c = let n = next-via c.args.vias.now c.loop-from.from (c.args.to - c.loop-from.from) in omega (arith, c.run_end-end.ensures, n.low)

pub loop-from-preserved : goal.loop-from-preserved
loop-from-preserved c m x =
    let y = c.loop-from.invariant m x in
    midway-next x.is y c.loop-from-test.true c.run_end-end.result c.run_end-end.ensures c.was_placed-placed.result c.was_placed-placed.ensures (c.list_run-listed.ensures _ y.stored)

pub returns : goal.returns
returns c m x = midway_end x.is (c.loop-from.invariant m x) (omega arith)
