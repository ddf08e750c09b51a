-- `sheet_fit::fit::fit` meets its contract: by the buffer's length.
use mathlib.Core.Path.{refl}
use native.Mathlib.Omega.{arith}
use borrow.Author.Rules.{rules}
use Rattle.text_write.proofs.Written.{front_of}
use Rattle.sheet_fit.proofs.FitLaws.{fitted_short, fitted-long, writes, wrote}
use Rattle.sheet_fit.proofs.fit.fit.Statement.{statement}
use Rattle.sheet_fit.proofs.fit.fit.Tie as tie

returns : tie.Need-returns-then-out-text
returns c =
    let a = c.args in
    writes (fitted_short _ a.text.now a.out.now c.if-out-text.true) (record { answered = refl; left = refl })

put-word-requires : tie.Need-put_word-requires
put-word-requires c κs = omega (arith, c.if-out-text.false)

returns-2 : tie.Need-returns
returns-2 c =
    let a = c.args in
    writes (fitted-long _ a.text.now a.out.now c.if-out-text.false) (wrote (front_of c.put_word.ensures c.if-out-text.false))

pub fit_spec : {M : Type 1} → statement M
fit_spec = tie.close
    (tie.spec returns put-word-requires (λ c. search rules) returns-2)
