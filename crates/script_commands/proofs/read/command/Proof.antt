-- `script_commands::read::command` meets its contract: a skipped line, a load, a walk, a run, or a line in one of the forms.
use mathlib.Core.Path.{◌≡◌, sym, ◌∙◌, ap}
use mathlib.Core.Bool.{false}
use mathlib.Core.List.{◌++◌}
use native.Mathlib.Omega.{arith}
use borrow.Author.Rules.{rules}
use lib.ListN.{drop}
use Rattle.text.specs.Bytes.{bytes}
use Rattle.text.specs.Parser.{nothing, word}
use Rattle.text_scan.proofs.Lines.{has, has-not}
use Rattle.script_words.specs.Parts.{words}
use Rattle.script_texts.specs.Texts.{unescaped}
use Rattle.script_words.proofs.PartLaws.{rest}
use Rattle.script_runs.specs.inner.Filled.{buffers}
use Rattle.script_commands.specs.Commands.{load, load_tangled}
use Rattle.script_commands.specs.Table.{calls, plan_pokes, loading_pokes, drawing_pokes, said_by, is_skipped, loading, walking, placing}
use Rattle.script_commands.specs.inner.Held.{lent, shortened}
use Rattle.script_commands.proofs.TableLaws.{command-skip, command-load, command-tangled, command-walk, command-place, command-said, bare-command}
use Rattle.script_commands.proofs.read.command.Statement.{statement}
use Rattle.script_commands.proofs.read.command.Tie as tie

returns : tie.Need-returns-then-is_skipped
returns c =
    let c7 = c in
    let a = c7.args in
    let b = lent a.text.now (buffers a.old.now a.distances.now a.counts.now a.neighbours.now a.ratings.now) in
    record { says = sym (ap (shortened b) (command-skip a.line.now (sym c.is_skipped.ensures ∙ c.if-is_skipped.true))); inside = tt }

sub-load : tie.Need-slice_bounds-load-count
sub-load c = c.word_at.ensures.inside c.if-word_at.true

part-load-start : tie.Need-slice_bounds-load-start
part-load-start c = omega (arith, c.word_at.ensures.inside c.if-word_at.true)

returns-2 : tie.Need-returns-then-word_at
returns-2 c =
    let c6 = c in
    let c8 = c6 in
    let c9 = c8 in
    let c15 = c9 in
    let a = c15.args in
    let l = a.line.now in
    let e = command-load l (sym c9.is_skipped.ensures ∙ c8.if-is_skipped.false) (drop 14 l)
    (has c6.word_at.ensures c.if-word_at.true) in
    rw (e ∙ ap (λ s. loading load (unescaped s)) (sym (rest 14 l)))
    (c.load.ensures (buffers a.old.now a.distances.now a.counts.now a.neighbours.now a.ratings.now))

sub-load-tangled : tie.Need-slice_bounds-load_tangled-count
sub-load-tangled c = c.word_at-2.ensures.inside c.if-word_at-2.true

part-load-tangled-start : tie.Need-slice_bounds-load_tangled-start
part-load-tangled-start c = omega (arith, c.word_at-2.ensures.inside c.if-word_at-2.true)

returns-3 : tie.Need-returns-then-word_at-2
returns-3 c =
    let c6 = c in
    let c8 = c6 in
    let c9 = c8 in
    let c11 = c9 in
    let c12 = c11 in
    let c18 = c12 in
    let a = c18.args in
    let l = a.line.now in
    let e = command-tangled l (sym c12.is_skipped.ensures ∙ c11.if-is_skipped.false) (has-not c9.word_at.ensures c8.if-word_at.false) (drop 15 l)
    (has c6.word_at-2.ensures c.if-word_at-2.true) in
    rw (e ∙ ap (λ s. loading load_tangled (unescaped s)) (sym (rest 15 l)))
    (c.load_tangled.ensures (buffers a.old.now a.distances.now a.counts.now a.neighbours.now a.ratings.now))

sub-walk : tie.Need-slice_bounds-walk-count
sub-walk c = c.word_at-3.ensures.inside c.if-word_at-3.true

part-walk-start : tie.Need-slice_bounds-walk-start
part-walk-start c = omega (arith, c.word_at-3.ensures.inside c.if-word_at-3.true)

-- not a load
no-load : (c : tie.After-word_at-3) → let c8 = c in let l = c8.args.line.now in
    (is_skipped l ≡ false) × (word (bytes "load 1 strict ") l ≡ nothing) × (word (bytes "load 1 tangled ") l ≡ nothing)
no-load c =
    let c2 = c in
    let c5 = c2 in
    let c8 = c5 in (
      sym c8.is_skipped.ensures ∙ c8.if-is_skipped.false,
      has-not c5.word_at.ensures c5.if-word_at.false,
      has-not c2.word_at-2.ensures c2.if-word_at-2.false,
    )

returns-4 : tie.Need-returns-then-word_at-3
returns-4 c =
    let c5 = c in
    let w = c5.before.before.before.before.before.before in
    let a = w.args in
    let l = a.line.now in
    let n = no-load w in
    let e = command-walk l n.0 n.1 n.2 (drop 5 l) (has w.word_at-3.ensures c5.if-word_at-3.true) in
    rw (e ∙ ap walking (sym (rest 5 l)))
    (c.walk.ensures (buffers a.old.now a.distances.now a.counts.now a.neighbours.now a.ratings.now))

sub-place-run : tie.Need-slice_bounds-place_run-count
sub-place-run c = c.word_at-4.ensures.inside c.if-word_at-4.true

part-place-run-start : tie.Need-slice_bounds-place_run-start
part-place-run-start c = omega (arith, c.word_at-4.ensures.inside c.if-word_at-4.true)

returns-5 : tie.Need-returns-then-word_at-4
returns-5 c =
    let c8 = c in
    let c15 = c8 in
    let c18 = c15 in
    let w = c18.before.before.before.before.before.before.before.before.before.before.before.before.before.before.before.before.before.before.before.before in
    let a = w.args in
    let l = a.line.now in
    let n = no-load w in
    let e = command-place l n.0 n.1 n.2 (has-not w.word_at-3.ensures c18.if-word_at-3.false) (drop 9 l)
    (has c15.word_at-4.ensures c15.if-word_at-4.true) in
    rw (e ∙ ap (λ s. placing (words s)) (sym (rest 9 l))) (c8.place_run.ensures a.text.now)

returns-6 : tie.Need-returns
returns-6 c =
    let c4 = c in
    let w = c4.before.before.before.before.before.before in
    let a = w.args in
    let l = a.line.now in
    let b = lent a.text.now (buffers a.old.now a.distances.now a.counts.now a.neighbours.now a.ratings.now) in
    let n = no-load w in
    let e = command-said l n.0 n.1 n.2 (has-not w.word_at-3.ensures c4.if-word_at-3.false) (has-not c.word_at-4.ensures c.if-word_at-4.false) in
    rw e (bare-command (said_by (calls ++ plan_pokes ++ loading_pokes ++ drawing_pokes) l) c.said.result b c.said.ensures)

pub command_spec : {M : Type 1} → statement M
command_spec =
    tie.close
    (tie.spec (λ c κs. search rules) returns (λ c κs. search rules) sub-load part-load-start (λ c. search rules) (λ c κs. search rules) (λ c. search rules) returns-2 (λ c κs. search rules) sub-load-tangled part-load-tangled-start (λ c. search rules) (λ c κs. search rules) (λ c. search rules) returns-3 (λ c κs. search rules) sub-walk part-walk-start (λ c. search rules) (λ c κs. search rules) (λ c. search rules) returns-4 (λ c κs. search rules) sub-place-run part-place-run-start (λ c. search rules) (λ c κs. search rules) (λ c. search rules) (λ c. search rules) (λ c. search rules) (λ c. search rules) (λ c. search rules) returns-5 (λ c κs. search rules) returns-6)
