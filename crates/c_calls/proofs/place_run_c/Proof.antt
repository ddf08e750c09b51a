-- `c_calls::place_run_c` meets its contract: the call has the flags' bounds, and the number is that of what it answered.
use borrow.Author.Rules.{rules}
use Rattle.ints.proofs.Laws.{back}
use Rattle.c_codes.proofs.CodeLaws.{run-answers}
use Rattle.c_calls.proofs.place_run_c.Statement.{statement}
use Rattle.c_calls.proofs.place_run_c.Tie as tie

returns : tie.Need-returns
returns c =
    let p = c.before.before in
    let s = p in
    let l = simp (back s.ranges.left) at p.bound.ensures in
    let r = simp (back s.ranges.right) at p.bound-2.ensures in
    run-answers (rw (l, r) at p.place_run-answered.ensures) c.run_code.ensures

pub place_run_c_spec : {M : Type 1} → statement M
place_run_c_spec =
    tie.close
    (tie.spec (λ c κs. search rules) (λ c κs. search rules) (λ c κs. search rules) (λ c κs. search rules) (λ c. search rules) returns)
