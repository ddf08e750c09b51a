use native.Mathlib.Omega.{arith}
use lib.ListN.{length-append}
use Rattle.text.specs.Bytes.{bytes}
use Rattle.plan.specs.Plan.{numbers}
use Rattle.text.specs.Writing.{level_line_of}
use Rattle.text_write.specs.inner.Data.{vertices_of, row_words}
use Rattle.text_write.proofs.Written.{wrote_none, and_then, room_after}
use Rattle.text_write.proofs.lines.put_row.Goals as goal

pub put_word-row-requires : goal.put_word-row-requires
unfolding level_line_of
put_word-row-requires c = room_after (bytes "(level") (level_line_of (vertices_of c.args.vias.now c.args.halves.now) (numbers c.args.first c.args.count)) (wrote_none c.args.out.now c.args.at) c.requires.2 (simp length-append (omega arith))

pub put_vertices-after-requires : goal.put_vertices-after-requires
unfolding level_line_of
put_vertices-after-requires c = (c.requires.0, c.requires.1, room_after (row_words (vertices_of c.args.vias.now c.args.halves.now) (numbers c.args.first c.args.count)) (level_line_of (vertices_of c.args.vias.now c.args.halves.now) (numbers c.args.first c.args.count)) c.put_word-row.ensures c.requires.2 (simp length-append (omega arith)))

pub put_word-requires : goal.put_word-requires
unfolding level_line_of
put_word-requires c = room_after (bytes ")\n") (level_line_of (vertices_of c.args.vias.now c.args.halves.now) (numbers c.args.first c.args.count)) (and_then c.put_word-row.ensures c.put_vertices-after.ensures) c.requires.2 (simp length-append (omega arith))

pub returns : goal.returns
unfolding level_line_of
returns c = and_then (and_then c.put_word-row.ensures c.put_vertices-after.ensures) c.put_word.ensures
