use Rattle.std.proofs.Common.{sym, ◌∙◌, ⊎_elim, arith}
use Rattle.std.proofs.lemmas.Bool.{false≢true}
use Rattle.plan_walks.proofs.WalkLaws.{ahead-all, ahead-end, walk-out, walk-on, walk-skip, walk-stop}
use Rattle.plan_walks.proofs.walk_to.Goals as goal
use Rattle.plan_walks.proofs.walk_to.Goals.{then-inner-2, else-inner-2}

pub returns-then-end-upper : goal.returns-then-end-upper
returns-then-end-upper c =
    let a = c.args in
    let l = c.loop-i in
    let none = ahead-end a.end a.uppers.now a.lowers.now l.i c.requires.ends (omega arith) c.if-end-upper.true in
    sym (walk-out a.vias.now a.uppers.now a.lowers.now a.end l.i l.taken l.last none) ∙ l.invariant.same

pub returns-then-lower-last : goal.returns-then-lower-last
returns-then-lower-last c =
    let a = c.args in
    let l = c.loop-i in
    let inner = sym c.is_inner-inner.ensures ∙ c.if-inner.true in
    sym (walk-stop a.vias.now a.uppers.now a.lowers.now a.end l.i c.requires.ends (omega arith) c.if-end-upper.false l.taken l.last inner c.if-lower-last.true) ∙ l.invariant.same

pub loop-i-preserved : goal.loop-i-preserved
loop-i-preserved c =
    let a = c.args in
    let l = c.loop-i in
    let on = walk-on a.vias.now a.uppers.now a.lowers.now a.end l.i c.requires.ends (omega arith) c.if-end-upper.false l.taken l.last in
    let skip = walk-skip a.vias.now a.uppers.now a.lowers.now a.end l.i c.requires.ends (omega arith) c.if-end-upper.false l.taken l.last in
    elim c.if-inner-2.branch [
      | then-inner-2 w ↦
          let inner = sym c.is_inner-inner.ensures ∙ w.if-inner-2.true in
          let rises = ⊎_elim (λ h. h.1) (λ e. absurd (false≢true (sym e ∙ w.if-inner-2.true))) c.else-inner.either in
          record { few = omega arith; same = rw (w.taken-is, w.last-is) (sym (on inner rises) ∙ l.invariant.same) }
      | else-inner-2 w ↦
          let outer = sym c.is_inner-inner.ensures ∙ w.if-inner-2.false in
          record { few = omega arith; same = rw (w.taken-is, w.last-is) (sym (skip outer) ∙ l.invariant.same) }
    ]

pub returns : goal.returns
returns c =
    let a = c.args in
    let l = c.loop-i in
    let none = ahead-all a.end a.uppers.now a.lowers.now l.i (omega arith) in
    sym (walk-out a.vias.now a.uppers.now a.lowers.now a.end l.i l.taken l.last none) ∙ l.invariant.same
