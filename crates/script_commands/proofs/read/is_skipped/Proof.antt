-- `script_commands::read::is_skipped` meets its contract: by the first byte.
use mathlib.Core.Path.{sym}
use borrow.Author.Rules.{rules}
use Rattle.script_commands.proofs.TableLaws.{skipped-empty, skipped-first}
use Rattle.script_commands.proofs.read.is_skipped.Statement.{statement}
use Rattle.script_commands.proofs.read.is_skipped.Tie as tie

returns : tie.Need-returns-then-line-eq0
returns c = sym (skipped-empty c.args.line.now c.if-line-eq0.true)

returns-2 : tie.Need-returns
returns-2 c = sym (skipped-first c.args.line.now c.if-line-eq0.false)

pub is_skipped_spec : {M : Type 1} → statement M
is_skipped_spec =
    tie.close
    (tie.spec returns (λ c. search rules) returns-2)
