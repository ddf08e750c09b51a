-- `script_told::other::unknown` meets its contract: by what is written.
use mathlib.Core.Path.{refl}
use native.Mathlib.Omega.{arith}
use borrow.Author.Rules.{rules}
use Rattle.script_answers.specs.Answers.{unknown}
use Rattle.script_told.proofs.Single.{said-room, fits}
use Rattle.script_told.proofs.other.unknown.Statement.{statement}
use Rattle.script_told.proofs.other.unknown.Tie as tie

say-unknown-requires : tie.Need-say_unknown-requires
say-unknown-requires c κs = said-room unknown c.args.out.now tt (omega arith)

returns : tie.Need-returns
returns c = record { wrote = fits unknown c.args.out.now tt c.requires c.say_unknown.ensures; left = refl; last = refl }

pub unknown_spec : {M : Type 1} → statement M
unknown_spec = tie.close
    (tie.spec say-unknown-requires (λ c. search rules) returns)
