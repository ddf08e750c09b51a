-- `script_told::other::alter` meets its contract: by whether the record has the entry.
use native.Mathlib.Omega.{arith}
use borrow.Author.Rules.{rules}
use borrow.Author.Tests.{not-true, not-false}
use Rattle.script_answers.specs.Answers.{done}
use Rattle.script_told.proofs.Single.{said-room, fits, alters, misses}
use Rattle.script_told.proofs.other.alter.Statement.{statement}
use Rattle.script_told.proofs.other.alter.Tie as tie

returns : tie.Need-returns-then-not-poked
returns c = misses c.poke-poked.ensures (not-true _ c.if-not-poked.true) c.unknown.ensures

say-done-requires : tie.Need-say_done-requires
say-done-requires c κs = said-room done c.args.out.now tt (omega arith)

returns-2 : tie.Need-returns
returns-2 c =
    alters c.poke-poked.ensures (not-false _ c.if-not-poked.false)
    (fits done c.args.out.now tt c.requires c.say_done.ensures)

pub alter_spec : {M : Type 1} → statement M
alter_spec =
    tie.close
    (tie.spec (λ c κs. search rules) (λ c κs. search rules) (λ c. search rules) returns say-done-requires (λ c. search rules) returns-2)
