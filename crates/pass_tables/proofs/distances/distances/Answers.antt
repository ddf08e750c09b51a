use Rattle.std.proofs.Common.{◌∙◌, ap, sym, ◌++◌, ◌≤◌, List, ℕ, length, take, append-nil, arith}
use Rattle.std.proofs.Math.Seq.{take_all}
use Rattle.ints.proofs.Lists.{sum-on, sum-end}
use Rattle.pass_tables.proofs.DistanceLaws.{level-filled, levels-end}
use Rattle.pass_tables.proofs.distances.distances.Goals as goal

pub distances_on-requires : goal.distances_on-requires
distances_on-requires c = let l = c.loop-size in
    (omega arith, omega (arith, sum-on c.args.sizes.now l.size-index (omega arith)), omega arith)

pub loop-size-preserved : goal.loop-size-preserved
loop-size-preserved c = let l = c.loop-size in
    let a = c.args in
    let d = c.distances_on in record {
      rest = omega (arith, sum-on a.sizes.now l.size-index (omega arith));
      written = λ p e f. level-filled p a.sizes.now l.from l.size-index l.apart d.new.apart _ (omega arith) (omega arith) (d.ensures p e f) ∙ l.invariant.written p e f;
    }

pub returns : goal.returns
returns c = let l = c.loop-size in
    let a = c.args in
    let i : length a.sizes.now ≤ l.size-index = omega arith in
    λ p e f. sym (take_all l.from l.apart (omega (arith, sum-end a.sizes.now l.size-index i))) ∙ sym (append-nil (take l.from l.apart)) ∙ ap (λ (m : List ℕ). take l.from l.apart ++ m) (sym (levels-end p a.sizes.now l.from l.size-index i)) ∙ l.invariant.written p e f
