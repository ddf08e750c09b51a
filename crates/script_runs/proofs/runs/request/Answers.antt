-- Each part is read by a call of its own.
use Rattle.script_words.specs.Parts.{words}
use Rattle.script_runs.specs.Lists.{wholes_in, signeds_in}
use Rattle.script_runs.specs.Runs.{request_in, room_in}
use Rattle.script_runs.specs.inner.Filled.{buffers}
use Rattle.script_runs.proofs.RequestLaws.{asked, fills-from}
use Rattle.script_runs.proofs.runs.request.Goals as goal

pub returns : goal.returns
unfolding request_in
returns c =
    let a = c.args in
    let ws = words a.given.now in
    let o = c.signeds_in in let d = c.wholes_in in let n = c.wholes_in-2 in let m = c.signeds_in-2 in let w = c.ratings_in in
    asked (request_in ws) (room_in ws) (buffers a.old.now a.distances.now a.counts.now a.neighbours.now a.ratings.now)
    (buffers o.new.out d.new.out n.new.out m.new.out w.new.out) _
    c.boxes_in.ensures c.bound_in-left.ensures c.bound_in-right.ensures c.room_in.ensures
    (fills-from signeds_in c.value.ensures o.ensures) (fills-from wholes_in c.value-2.ensures d.ensures)
    (fills-from wholes_in c.value-3.ensures n.ensures) (fills-from signeds_in c.value-4.ensures m.ensures) w.ensures
