-- `script_commands::read::place_run` meets its contract: the words are a request or not.
use mathlib.Core.Path.{sym, ◌∙◌}
use borrow.Author.Tests.{not-true, not-false}
use borrow.Author.Rules.{rules}
use Rattle.script_words.specs.Parts.{words}
use Rattle.script_runs.specs.inner.Filled.{buffers}
use Rattle.script_commands.specs.inner.Held.{lent}
use Rattle.script_commands.proofs.TableLaws.{place-not, place_is}
use Rattle.script_commands.proofs.read.place_run.Statement.{statement}
use Rattle.script_commands.proofs.read.place_run.Tie as tie

returns : tie.Need-returns-then-not-is_request
returns c = λ text.
    let a = c.args in
    record {
      says = place-not (words a.given.now) (lent text (buffers a.old.now a.distances.now a.counts.now a.neighbours.now a.ratings.now))
          (sym c.is_request.ensures ∙ not-true _ c.if-not-is_request.true-raw);
      inside = tt;
    }

returns-2 : tie.Need-returns
returns-2 c = λ text.
    let c8 = c in
    let c14 = c8 in
    let c15 = c14 in
    let c20 = c15 in
    let a = c20.args in
    let q = c8.request in
    let l = q.new in
    record {
      says =
          place_is (words a.given.now) (lent text (buffers a.old.now a.distances.now a.counts.now a.neighbours.now a.ratings.now)) q.result
          (lent text (buffers l.old l.distances l.counts l.neighbours l.ratings))
          (sym c15.is_request.ensures ∙ not-false _ c14.if-not-is_request.false-raw) q.ensures;
      inside = q.ensures.inside;
    }

pub place_run_spec : {M : Type 1} → statement M
place_run_spec =
    tie.close
    (tie.spec (λ c κs. search rules) returns (λ c κs. search rules) (λ c. search rules) (λ c. search rules) (λ c. search rules) (λ c. search rules)
    (λ c. search rules) returns-2)
