-- `script_turn::turn::turn` meets its contract: in each arm by what its function promises of the only answer, or of the n-th.
use mathlib.Core.Path.{sym}
use native.Mathlib.Omega.{arith}
use lib.Seq.{length-take-le}
use borrow.Author.Rules.{rules}
use Rattle.script_runs.specs.inner.Filled.{buffers}
use Rattle.script_commands.specs.inner.Held.{lent}
use Rattle.script_told.specs.Turns.{line_said, text_said, mark_said}
use Rattle.script_turn.proofs.TurnLaws.{none, only, within, further, is-skip, is-unknown, is-load, is-tangled, is-draw, is-clear, is-stage, is-line, is-lines, is-text, is-texts, is-mark, is-marks, is-walk, is-place, is-poke, line-leaves, text-leaves, mark-leaves}
use Rattle.script_turn.proofs.turn.turn.Statement.{statement}
use Rattle.script_turn.proofs.turn.turn.Tie as tie

enum_told : tie.Need-enum_told-1
enum_told c = search rules

enum-told-2 : tie.Need-enum_told-in-Unknown
enum-told-2 c = search rules

unknown-requires : tie.Need-unknown-requires
unknown-requires c κs = search rules

enum-known-command : tie.Need-enum_known-command
enum-known-command c = search rules

slice-aggregate-one-call : tie.Need-slice_bounds-one_call-end
slice-aggregate-one-call c = let s = c in sym (length-take-le _ _ (rw c.in-Load.is at s.requires.inside))

one-call-requires : tie.Need-one_call-requires
one-call-requires c κs = search rules

enum-known-command-2 : tie.Need-enum_known-command-in-LoadTangled-1
enum-known-command-2 c = search rules

slice-aggregate-one-call-2 : tie.Need-slice_bounds-one_call-end-in-LoadTangled
slice-aggregate-one-call-2 c = let s = c in sym (length-take-le _ _ (rw c.in-LoadTangled.is at s.requires.inside))

one-call-requires-2 : tie.Need-one_call-requires-in-LoadTangled
one-call-requires-2 c κs = search rules

enum-told-3 : tie.Need-enum_told-in-Draw
enum-told-3 c = search rules

one-call-requires-3 : tie.Need-one_call-requires-in-Draw
one-call-requires-3 c κs = search rules

enum-told-4 : tie.Need-enum_told-in-Clear
enum-told-4 c = search rules

one-call-requires-4 : tie.Need-one_call-requires-in-Clear
one-call-requires-4 c κs = search rules

enum-told-5 : tie.Need-enum_told-in-Stage
enum-told-5 c = search rules

show-stage-requires : tie.Need-show_stage-requires
show-stage-requires c κs = search rules

enum-known-command-3 : tie.Need-enum_known-command-in-Line-1
enum-known-command-3 c = search rules

at-most-requires : tie.Need-at_most-requires
at-most-requires c κs = search rules

one-call-requires-5 : tie.Need-one_call-requires-in-Line
one-call-requires-5 c κs = search rules

enum-told-6 : tie.Need-enum_told-in-Lines
enum-told-6 c = search rules

next-call-requires : tie.Need-next_call-requires
next-call-requires c κs = let s = c in let a = s.args in let b = lent a.text.now (buffers a.old.now a.distances.now a.counts.now a.neighbours.now a.ratings.now) in (within s.requires (line_said a.sheet) (is-lines b a.sheet c.in-Lines.is), omega arith, s.requires.room)

enum-known-command-4 : tie.Need-enum_known-command-in-TextLine-1
enum-known-command-4 c = search rules

at-most-requires-2 : tie.Need-at_most-requires-in-TextLine
at-most-requires-2 c κs = search rules

one-call-requires-6 : tie.Need-one_call-requires-in-TextLine
one-call-requires-6 c κs = search rules

enum-told-7 : tie.Need-enum_told-in-Texts
enum-told-7 c = search rules

next-call-requires-2 : tie.Need-next_call-requires-in-Texts
next-call-requires-2 c κs = let s = c in let a = s.args in let b = lent a.text.now (buffers a.old.now a.distances.now a.counts.now a.neighbours.now a.ratings.now) in (within s.requires (text_said a.sheet) (is-texts b a.sheet c.in-Texts.is), omega arith, s.requires.room)

enum-known-command-5 : tie.Need-enum_known-command-in-Mark-1
enum-known-command-5 c = search rules

one-call-requires-7 : tie.Need-one_call-requires-in-Mark
one-call-requires-7 c κs = search rules

enum-told-8 : tie.Need-enum_told-in-Marks
enum-told-8 c = search rules

next-call-requires-3 : tie.Need-next_call-requires-in-Marks
next-call-requires-3 c κs = let s = c in let a = s.args in let b = lent a.text.now (buffers a.old.now a.distances.now a.counts.now a.neighbours.now a.ratings.now) in (within s.requires (mark_said a.sheet) (is-marks b a.sheet c.in-Marks.is), omega arith, s.requires.room)

enum-known-command-6 : tie.Need-enum_known-command-in-Walk-1
enum-known-command-6 c = search rules

slice-aggregate-walk : tie.Need-slice_bounds-walk-end
slice-aggregate-walk c = let s = c in sym (length-take-le _ _ (rw c.in-Walk.is at s.requires.inside))

walk-requires : tie.Need-walk-requires
walk-requires c κs = search rules

enum-known-command-7 : tie.Need-enum_known-command-in-PlaceRun-1
enum-known-command-7 c = search rules

place-requires : tie.Need-place-requires
place-requires c κs = let s = c in (rw c.in-PlaceRun.is at s.requires.inside, s.requires.room)

enum-known-command-8 : tie.Need-enum_known-command-in-Poke-1
enum-known-command-8 c = search rules

alter-requires : tie.Need-alter-requires
alter-requires c κs = search rules

returns : tie.Need-returns-in-Skip
returns c = let s = c in let a = s.args in let b = lent a.text.now (buffers a.old.now a.distances.now a.counts.now a.neighbours.now a.ratings.now) in none s.requires (is-skip b a.sheet c.in-Skip.is)

same_length : tie.Need-shape_of-out-in-Unknown
same_length c = search rules

returns-2 : tie.Need-returns-in-Unknown
returns-2 c = let s = c in let a = s.args in let b = lent a.text.now (buffers a.old.now a.distances.now a.counts.now a.neighbours.now a.ratings.now) in only s.requires (is-unknown b a.sheet c.in-Unknown.is) c.unknown.ensures

same-length-2 : tie.Need-shape_of-out-in-Load
same-length-2 c = search rules

returns-3 : tie.Need-returns-in-Load
returns-3 c = let s = c in let a = s.args in let b = lent a.text.now (buffers a.old.now a.distances.now a.counts.now a.neighbours.now a.ratings.now) in only s.requires (is-load b a.sheet c.in-Load.is) c.one_call.ensures

same-length-3 : tie.Need-shape_of-out-in-LoadTangled
same-length-3 c = search rules

returns-4 : tie.Need-returns-in-LoadTangled
returns-4 c = let s = c in let a = s.args in let b = lent a.text.now (buffers a.old.now a.distances.now a.counts.now a.neighbours.now a.ratings.now) in only s.requires (is-tangled b a.sheet c.in-LoadTangled.is) c.one_call-in-LoadTangled.ensures

same-length-4 : tie.Need-shape_of-out-in-Draw
same-length-4 c = search rules

returns-5 : tie.Need-returns-in-Draw
returns-5 c = let s = c in let a = s.args in let b = lent a.text.now (buffers a.old.now a.distances.now a.counts.now a.neighbours.now a.ratings.now) in only s.requires (is-draw b a.sheet c.in-Draw.is) c.one_call-in-Draw.ensures

same-length-5 : tie.Need-shape_of-out-in-Clear
same-length-5 c = search rules

returns-6 : tie.Need-returns-in-Clear
returns-6 c = let s = c in let a = s.args in let b = lent a.text.now (buffers a.old.now a.distances.now a.counts.now a.neighbours.now a.ratings.now) in only s.requires (is-clear b a.sheet c.in-Clear.is) c.one_call-in-Clear.ensures

same-length-6 : tie.Need-shape_of-out-in-Stage
same-length-6 c = search rules

returns-7 : tie.Need-returns-in-Stage
returns-7 c = let s = c in let a = s.args in let b = lent a.text.now (buffers a.old.now a.distances.now a.counts.now a.neighbours.now a.ratings.now) in only s.requires (is-stage b a.sheet c.in-Stage.is) c.show_stage.ensures

same-length-7 : tie.Need-shape_of-out-in-Line
same-length-7 c = search rules

returns-8 : tie.Need-returns-in-Line
returns-8 c = let s = c in let a = s.args in let b = lent a.text.now (buffers a.old.now a.distances.now a.counts.now a.neighbours.now a.ratings.now) in only s.requires (is-line b a.sheet c.in-Line.is) (rw c.at_most.ensures at c.one_call-in-Line.ensures)

same-length-8 : tie.Need-shape_of-out-in-Lines
same-length-8 c = search rules

returns-9 : tie.Need-returns-in-Lines
returns-9 c = let s = c in let a = s.args in let b = lent a.text.now (buffers a.old.now a.distances.now a.counts.now a.neighbours.now a.ratings.now) in further s.requires (line_said a.sheet) (is-lines b a.sheet c.in-Lines.is) (line-leaves a.sheet a.n) c.next_call.ensures

same-length-9 : tie.Need-shape_of-out-in-TextLine
same-length-9 c = search rules

returns-10 : tie.Need-returns-in-TextLine
returns-10 c = let s = c in let a = s.args in let b = lent a.text.now (buffers a.old.now a.distances.now a.counts.now a.neighbours.now a.ratings.now) in only s.requires (is-text b a.sheet c.in-TextLine.is) (rw c.at_most-in-TextLine.ensures at c.one_call-in-TextLine.ensures)

same-length-10 : tie.Need-shape_of-out-in-Texts
same-length-10 c = search rules

returns-11 : tie.Need-returns-in-Texts
returns-11 c = let s = c in let a = s.args in let b = lent a.text.now (buffers a.old.now a.distances.now a.counts.now a.neighbours.now a.ratings.now) in further s.requires (text_said a.sheet) (is-texts b a.sheet c.in-Texts.is) (text-leaves a.sheet a.n) c.next_call-in-Texts.ensures

same-length-11 : tie.Need-shape_of-out-in-Mark
same-length-11 c = search rules

returns-12 : tie.Need-returns-in-Mark
returns-12 c = let s = c in let a = s.args in let b = lent a.text.now (buffers a.old.now a.distances.now a.counts.now a.neighbours.now a.ratings.now) in only s.requires (is-mark b a.sheet c.in-Mark.is) c.one_call-in-Mark.ensures

same-length-12 : tie.Need-shape_of-out-in-Marks
same-length-12 c = search rules

returns-13 : tie.Need-returns-in-Marks
returns-13 c = let s = c in let a = s.args in let b = lent a.text.now (buffers a.old.now a.distances.now a.counts.now a.neighbours.now a.ratings.now) in further s.requires (mark_said a.sheet) (is-marks b a.sheet c.in-Marks.is) (mark-leaves a.sheet a.n) c.next_call-in-Marks.ensures

same-length-13 : tie.Need-shape_of-out-in-Walk
same-length-13 c = search rules

returns-14 : tie.Need-returns-in-Walk
returns-14 c = let s = c in let a = s.args in let b = lent a.text.now (buffers a.old.now a.distances.now a.counts.now a.neighbours.now a.ratings.now) in only s.requires (is-walk b a.sheet c.in-Walk.is) c.walk.ensures

same-length-14 : tie.Need-shape_of-out-in-PlaceRun
same-length-14 c = search rules

returns-15 : tie.Need-returns-in-PlaceRun
returns-15 c = let s = c in let a = s.args in let b = lent a.text.now (buffers a.old.now a.distances.now a.counts.now a.neighbours.now a.ratings.now) in only s.requires (is-place b a.sheet c.in-PlaceRun.is) c.place.ensures

same-length-15 : tie.Need-shape_of-out-in-Poke
same-length-15 c = search rules

returns-16 : tie.Need-returns-in-Poke
returns-16 c = let s = c in let a = s.args in let b = lent a.text.now (buffers a.old.now a.distances.now a.counts.now a.neighbours.now a.ratings.now) in only s.requires (is-poke b a.sheet c.in-Poke.is) c.alter.ensures

pub turn_spec : {M : Type 1} → statement M
turn_spec =
    tie.close
    (tie.spec enum_told enum-told-2 unknown-requires enum-known-command slice-aggregate-one-call one-call-requires enum-known-command-2 slice-aggregate-one-call-2 one-call-requires-2 enum-told-3 one-call-requires-3 enum-told-4 one-call-requires-4 enum-told-5 show-stage-requires enum-known-command-3 at-most-requires one-call-requires-5 enum-told-6 next-call-requires enum-known-command-4 at-most-requires-2 one-call-requires-6 enum-told-7 next-call-requires-2 enum-known-command-5 one-call-requires-7 enum-told-8 next-call-requires-3 enum-known-command-6 slice-aggregate-walk walk-requires enum-known-command-7 place-requires enum-known-command-8 alter-requires returns same_length returns-2 same-length-2 returns-3 same-length-3 returns-4 same-length-4 returns-5 same-length-5 returns-6 same-length-6 returns-7 same-length-7 returns-8 same-length-8 returns-9 same-length-9 returns-10 same-length-10 returns-11 same-length-11 returns-12 same-length-12 returns-13 same-length-13 returns-14 same-length-14 returns-15 same-length-15 returns-16)
