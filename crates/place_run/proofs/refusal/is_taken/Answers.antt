-- Each flag is the tests so far, and those are `is_taken` with its tests in one row.
use Rattle.std.proofs.Common.{◌≡◌, ◌∙◌, sym, ◌&&◌}
use Rattle.ints.proofs.Tests.{and_left, and_right}
use Rattle.ints.specs.Reach.{all_within}
use Rattle.run.specs.Run.{neighbours_in_order}
use Rattle.run.specs.Call.{Request, boxes_of, other_distances}
use Rattle.place_run.proofs.RefusalLaws.{in-order-same}
use Rattle.place_run.proofs.TakenLaws.{sized, due, within, same-lengths, due-length, taken-list}
use Rattle.place_run.proofs.refusal.is_taken.Goals as goal
use Rattle.place_run.proofs.refusal.is_taken.Goals.{Joined-is_within_limits, then-is_sized, else-is_sized, then-distances-distances_due, else-distances-distances_due, then-is_within_limits, else-is_within_limits}

abbrev request : Joined-is_within_limits → Request
request c =
    record { boxes = c.args.r; left = c.args.left; right = c.args.right; old = c.args.old.now; distances = c.args.distances.now; counts = c.args.counts.now; neighbours = c.args.neighbours.now; ratings = c.args.ratings.now }

flag : (c : Joined-is_within_limits) → let q = request c in let a = c.args.answer.now in
    c.if-is_within_limits.value ≡ ((sized q a c.neighbours_in_all-total.result && due q a) && within q a && (all_within q.neighbours && neighbours_in_order (boxes_of q)))
flag c = let q = request c in let a = c.args.answer.now in let t = c.neighbours_in_all-total.result in
    let s : sized q a t ≡ c.is_sized.result = sym c.is_sized.ensures in
    let u : (sized q a t && due q a) ≡ c.if-is_sized.value = sym (elim c.if-is_sized.branch [
      | then-is_sized w ↦ rw (s ∙ w.if-is_sized.true) (w.value-is ∙ rw w.distances_due.ensures)
      | else-is_sized w ↦ rw (s ∙ w.if-is_sized.false) (w.value-is ∙ w.if-is_sized.false)
    ]) in
    let v : (sized q a t && due q a && within q a) ≡ c.if-distances-distances_due.value = sym (elim c.if-distances-distances_due.branch [
      | then-distances-distances_due w ↦ rw (u ∙ w.if-distances-distances_due.true) (w.value-is ∙ w.is_within_limits.ensures)
      | else-distances-distances_due w ↦ rw (u ∙ w.if-distances-distances_due.false) (w.value-is ∙ w.if-distances-distances_due.false)
    ]) in
    elim c.if-is_within_limits.branch [
      | then-is_within_limits w ↦
          let e = v ∙ w.if-is_within_limits.true in
          let l = same-lengths q a t (and_left _ (due q a) (and_left _ (within q a) e)) in
          rw (e, in-order-same q.old (other_distances q.left q.distances) q.counts q.neighbours q.ratings l.0 l.1) (w.value-is ∙ w.neighbours_are_taken.ensures)
      | else-is_within_limits w ↦ rw (v ∙ w.if-is_within_limits.false) (w.value-is ∙ w.if-is_within_limits.false)
    ]

pub returns-then-neighbours_are_taken : goal.returns-then-neighbours_are_taken
returns-then-neighbours_are_taken c = let p = (goal.at.returns-then-neighbours_are_taken c).Joined-is_within_limits in let q = request p in
    let a = c.args.answer.now in let t = c.neighbours_in_all-total.result in let e = sym (flag p) ∙ c.if-neighbours_are_taken.true in
    let d = and_left (sized q a t && due q a) (within q a) (and_left _ (all_within q.neighbours && neighbours_in_order (boxes_of q)) e) in
    let l = same-lengths q a t (and_left _ (due q a) d) in
    rw (taken-list q a t c.neighbours_in_all-total.ensures, e) (c.is_possible.ensures q.old q.counts q.neighbours q.ratings l.0 (due-length q a (and_right (sized q a t) (due q a) d) l.2))

pub returns-else-neighbours_are_taken : goal.returns-else-neighbours_are_taken
returns-else-neighbours_are_taken c = let p = (goal.at.returns-else-neighbours_are_taken c).Joined-is_within_limits in let q = request p in
    rw (taken-list q c.args.answer.now c.neighbours_in_all-total.result c.neighbours_in_all-total.ensures, sym (flag p) ∙ c.if-neighbours_are_taken.false) c.if-neighbours_are_taken.false
