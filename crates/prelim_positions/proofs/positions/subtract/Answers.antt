use Rattle.std.proofs.Common.{◌≢◌, ◌<◌, ◌∙◌, sym, arith, length, map, pos, below_more, get_or-set_other, get_or-set_same}
use Rattle.std.proofs.Math.IntN.{neg_ℤ}
use Rattle.std.proofs.lemmas.Int.{ints}
use Rattle.std.proofs.lemmas.List.{same_lists, get_or_default}
use Rattle.preliminary.specs.Positions.{sums}
use Rattle.prelim_positions.proofs.PositionLaws.{sums-long, sums_at}
use Rattle.prelim_positions.proofs.positions.subtract.Goals as goal

pub loop-i-preserved : goal.loop-i-preserved
loop-i-preserved c =
    let i = c.loop-i.i in
    let w = c.loop-i.invariant in
    let lt : c.loop-i.i < length c.loop-i.xs = omega arith in
    record {
      before = below_more _ _
          (λ k h. let ne : k ≢ c.loop-i.i = omega arith in rw get_or-set_other (w.before k h))
          (rw get_or-set_same (omega (arith, ints, w.after i (omega arith), c.requires.1.each i, c.requires.2.each i)));
      after = λ k h. let ne : k ≢ c.loop-i.i = omega arith in rw get_or-set_other (w.after k (omega arith));
    }

pub returns : goal.returns
returns c =
    let xs = c.loop-i.xs in
    let old = c.args.xs.now in
    let ys = c.args.ys.now in
    let new = sums old (map neg_ℤ ys) in
    let long = sums-long old ys c.requires.0 in
    same_lists xs new (c.loop-i.auto.xs ∙ sym long)
    (λ k d h. get_or_default xs k d (pos 0) h ∙ c.loop-i.invariant.before k (omega arith) ∙ sym (sums_at old ys k c.requires.0 (omega (arith, c.loop-i.auto.xs))) ∙ get_or_default new k (pos 0) d (omega (arith, long, c.loop-i.auto.xs)))
