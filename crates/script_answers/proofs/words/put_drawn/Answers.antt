-- Its parts one after another, each where the one before it ends.
use mathlib.Core.List.{◌++◌}
use native.Mathlib.Omega.{arith}
use lib.ListN.{length-append}
use Rattle.text.specs.Bytes.{bytes}
use Rattle.text.specs.Decimal.{decimal}
use Rattle.text_write.specs.inner.Written.{Room}
use Rattle.text_write.proofs.Written.{and_then, and_both, room_after}
use Rattle.sheet.specs.declared.types.Stage.TheVariants.{Drawn}
use Rattle.script_answers.specs.Answers.{stage_words}
use Rattle.script_answers.proofs.Lengths.{stage-short}
use Rattle.script_answers.proofs.words.put_drawn.Goals as goal

pub put_then-e-requires : goal.put_then-e-requires
unfolding stage_words
put_then-e-requires c =
    let a = c.args in
    let r : Room (stage_words (Drawn a.vertices a.segments a.placings)) a.out.now a.at = omega (arith, c.requires, stage-short (Drawn a.vertices a.segments a.placings) (omega arith, omega arith, omega arith)) in
    room_after (decimal a.vertices ++ bytes " ") (stage_words (Drawn a.vertices a.segments a.placings)) c.put_word-v.ensures r (simp length-append (omega arith))

pub put_then-p-requires : goal.put_then-p-requires
unfolding stage_words
put_then-p-requires c =
    let a = c.args in
    let r : Room (stage_words (Drawn a.vertices a.segments a.placings)) a.out.now a.at = omega (arith, c.requires, stage-short (Drawn a.vertices a.segments a.placings) (omega arith, omega arith, omega arith)) in
    room_after (decimal a.segments ++ bytes " ") (stage_words (Drawn a.vertices a.segments a.placings)) (and_then c.put_word-v.ensures c.put_then-e.ensures) r (simp length-append (omega arith))

pub put_decimal-requires : goal.put_decimal-requires
unfolding stage_words
put_decimal-requires c =
    let a = c.args in
    let r : Room (stage_words (Drawn a.vertices a.segments a.placings)) a.out.now a.at = omega (arith, c.requires, stage-short (Drawn a.vertices a.segments a.placings) (omega arith, omega arith, omega arith)) in
    room_after (decimal a.placings) (stage_words (Drawn a.vertices a.segments a.placings)) (and_then (and_then c.put_word-v.ensures c.put_then-e.ensures) c.put_then-p.ensures) r (simp length-append (omega arith))

pub returns : goal.returns
unfolding stage_words
returns c =
    let a = c.args in
    record {
      words = and_then (and_both (decimal a.segments) (bytes " ") (and_both (decimal a.vertices) (bytes " ") c.put_word-v.ensures
          c.put_then-e.ensures)
          c.put_then-p.ensures)
          c.put_decimal.ensures;
      short = stage-short (Drawn a.vertices a.segments a.placings) (omega arith, omega arith, omega arith);
    }
