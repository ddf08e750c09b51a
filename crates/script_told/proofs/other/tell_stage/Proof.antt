-- `script_told::other::tell_stage` meets its contract: its numbers are within 64 bits, so there is room for them.
use native.Mathlib.Omega.{arith}
use borrow.Author.Rules.{rules}
use Rattle.sheet.specs.declared.types.Stage.TheVariants.{Empty, Loaded, Drawn}
use Rattle.script_answers.specs.Answers.{stage}
use Rattle.script_told.proofs.Single.{fits}
use Rattle.script_told.proofs.other.tell_stage.Statement.{statement}
use Rattle.script_told.proofs.other.tell_stage.Tie as tie

say-stage-requires : tie.Need-say_stage-requires
say-stage-requires c κs = omega arith

say-stage-requires-2 : tie.Need-say_stage-requires-in-Loaded
say-stage-requires-2 c κs = omega arith

say-stage-requires-3 : tie.Need-say_stage-requires-in-Drawn
say-stage-requires-3 c κs = omega arith

returns : tie.Need-returns-in-Empty
returns c = rw c.in-Empty.is (fits (stage Empty) c.args.out.now tt c.requires c.say_stage.ensures)

returns-2 : tie.Need-returns-in-Loaded
returns-2 c =
    let v = c.in-Loaded in
    rw c.in-Loaded.is
    (fits (stage (Loaded v.v v.e)) c.args.out.now (omega arith, omega arith) c.requires c.say_stage-in-Loaded.ensures)

returns-3 : tie.Need-returns-in-Drawn
returns-3 c =
    let v = c.in-Drawn in
    rw c.in-Drawn.is
    (fits (stage (Drawn v.v v.e v.p)) c.args.out.now (omega arith, omega arith, omega arith) c.requires c.say_stage-in-Drawn.ensures)

pub tell_stage_spec : {M : Type 1} → statement M
tell_stage_spec =
    tie.close
    (tie.spec (λ c. search rules) say-stage-requires (λ c. search rules) say-stage-requires-2 (λ c. search rules)
    say-stage-requires-3 (λ c. search rules) returns (λ c. search rules) returns-2 (λ c. search rules) returns-3)
