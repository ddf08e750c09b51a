use Rattle.std.proofs.Common.{◌≡◌, ◌∙◌, ap, sym, ◌++◌, ◌-◌, List, ℕ, take, append-nil, arith}
use Rattle.pass_tables.proofs.DistanceLaws.{fill_on, doubled-end}
use Rattle.pass_tables.proofs.distances.distances_on.Goals as goal

pub loop-v-preserved : goal.loop-v-preserved
loop-v-preserved c = let a = c.args in
    let l = c.loop-v in
    λ p e f. fill_on p l.apart l.v a.to c.right_distance.result (omega arith) (omega arith) (rw (e, f) c.right_distance.ensures) ∙ l.invariant p e f

pub returns : goal.returns
returns c = let a = c.args in
    let l = c.loop-v in
    let z : l.v ≡ a.to = omega arith in
    λ p e f. ap (λ n. take n l.apart) (sym z) ∙ sym (append-nil (take l.v l.apart)) ∙ ap (λ (m : List ℕ). take l.v l.apart ++ m) (sym (doubled-end p l.v (a.to - l.v) (omega arith))) ∙ l.invariant p e f
