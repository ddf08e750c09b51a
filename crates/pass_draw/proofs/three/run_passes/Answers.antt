use Rattle.std.proofs.Common.{◌≡◌, ◌≤◌, ◌<◌, ◌++◌, List, Bool, false, length, drop, sym, arith, rules, length-append, length-drop}
use Rattle.std.proofs.lemmas.List.{get_or_append_left, length-take-le}
use Rattle.pass_list.specs.inner.Ended.{Copied}
use Rattle.pass_draw.proofs.ThreeLaws.{reached-first, marks-few, turn, ended, reached_then, all-drawn}
use Rattle.pass_draw.proofs.three.run_passes.Goals as goal

-- the marks, kept in front of what was there
kept : {marks new : List Bool} (had : List Bool) → new ≡ marks → Copied marks (new ++ drop (length marks) had)
kept {marks} had e = rw e (record { each = λ v h. get_or_append_left marks (drop (length marks) had) false v h })

kept-long : {marks new : List Bool} (had : List Bool) → new ≡ marks → length marks ≤ length had → length had ≡ 1024 → 1024 ≤ length (new ++ drop (length marks) had)
kept-long {marks} {new} had e f g = rw e (omega (arith, length-append marks (drop (length marks) had), length-drop (length marks) had))

pub loop-q-init : goal.loop-q-init
loop-q-init c = record { reached = λ p s. reached-first s }

pub slice_bounds-had-end : goal.slice_bounds-had-end
slice_bounds-had-end c = let s = c.requires in omega (arith, marks-few s.is (c.loop-q.invariant.reached s.it s.is))

pub slice_bounds-copy_from_slice-end : goal.slice_bounds-copy_from_slice-end
slice_bounds-copy_from_slice-end c = let s = c.requires in sym (length-take-le _ _ (omega (arith, marks-few s.is (c.loop-q.invariant.reached s.it s.is))))

pub copy_from_slice-requires : goal.copy_from_slice-requires
copy_from_slice-requires c = let s = c.requires in length-take-le _ _ (omega (arith, marks-few s.is (c.loop-q.invariant.reached s.it s.is)))

pub run_pass-requires : goal.run_pass-requires
run_pass-requires c = let s = c.requires in
    (record { rows = search rules; others = search rules; ratings = search rules }, record { it = _; is = turn s.is (c.loop-q.invariant.reached s.it s.is) (omega arith) (omega arith) })

pub list_wanted-listed-requires : goal.list_wanted-listed-requires
list_wanted-listed-requires c = let s = c.requires in let l = c.loop-q in
    let r = l.invariant.reached s.it s.is in
    let one : 1 ≤ l.q = omega arith in let three : l.q ≤ 3 = omega arith in
    λ w. record { it = _; is = ended s.is r one three (kept l.had c.copy_from_slice.ensures.after) (kept-long l.had c.copy_from_slice.ensures.after (omega (arith, marks-few s.is r)) (omega arith)) (c.run_pass.ensures _ (turn s.is r one three)) w }

pub loop-q-preserved : goal.loop-q-preserved
loop-q-preserved c = let l = c.loop-q in let listed = c.list_wanted-listed in record {
  reached = λ p s. let r = l.invariant.reached p s in
      let one : 1 ≤ l.q = omega arith in let three : l.q ≤ 3 = omega arith in
      let copy = kept l.had c.copy_from_slice.ensures.after in
      let long = kept-long l.had c.copy_from_slice.ensures.after (omega (arith, marks-few s r)) (omega arith) in
      let done = c.run_pass.ensures _ (turn s r one three) in
      reached_then s r one three copy long done _ _ _ (λ w. let w' : 0 < length l.passes = omega (arith, w, listed.auto.passes) in listed.ensures w' _ (ended s r one three copy long done w'));
}

pub returns : goal.returns
returns c = λ p s. all-drawn (c.loop-q.invariant.reached p s) (omega arith)
