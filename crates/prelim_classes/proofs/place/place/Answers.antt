use Rattle.std.proofs.Common.{arith}
use Rattle.prelim_classes.proofs.PlaceLaws.{still, to-place-on, to-place-end}
use Rattle.prelim_classes.proofs.place.place.Goals as goal

pub loop-v-preserved : goal.loop-v-preserved
loop-v-preserved c =
    let l = c.loop-v in
    let p = l.invariant.0 in
    let k = c.place_strand.ensures.strand_kept in (
      still _ _ _ _ _ _ _ p _ _ c.place_strand.auto.at c.place_strand.auto.begun k.uniform (k.low 512000 p.low),
      to-place-on _ _ _ _ _ _ _ _ _ l.invariant.1 _ _ (omega arith) c.from.ensures p.marks c.place_strand.ensures.strand_placed,
    )

pub returns : goal.returns
returns c =
    let l = c.loop-v in
    record {
      low = λ v. omega (arith, l.invariant.0.low.each v);
      each = λ q strand siblings classes k. to-place-end _ _ _ _ _ _ _ _ _ l.invariant.1 (omega arith) q strand siblings classes k c.requires.at_value.0 c.requires.at_value.1;
    }
