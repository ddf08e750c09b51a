-- `sheet_fit::fit::fit_marks` meets its contract: by the buffer's length; the marks have five numbers each.
use mathlib.Core.Path.{refl, sym, ap}
use native.Mathlib.Omega.{arith}
use borrow.Author.Rules.{rules}
use Rattle.marks.specs.Marks.{mark_count, all_numbers}
use Rattle.marks.proofs.All.{all-long}
use Rattle.marks.proofs.Laws.{count-is}
use Rattle.ints.specs.Refusals.{gives}
use Rattle.sheet_fit.proofs.FitLaws.{fitted_short, fitted-long, writes}
use Rattle.sheet_fit.proofs.fit.fit_marks.Statement.{statement}
use Rattle.sheet_fit.proofs.fit.fit_marks.Tie as tie

returns : tie.Need-returns-then-out-n
returns c = λ p d.
    let a = c.args in
    writes (fitted_short (mark_count p) (all_numbers p a.finals.now) a.out.now (omega (arith, c.if-out-n.true, all-long p a.finals.now, count-is d))) (record { answered = refl; left = refl })

returns-2 : tie.Need-returns
returns-2 c = λ p d.
    let a = c.args in
    writes (fitted-long (mark_count p) (all_numbers p a.finals.now) a.out.now (omega (arith, c.if-out-n.false, all-long p a.finals.now, count-is d))) (record { answered = ap gives (sym (count-is d)); left = c.put_marks.ensures p d })

pub fit_marks_spec : {M : Type 1} → statement M
fit_marks_spec = tie.close
    (tie.spec (λ c. search rules) (λ c. search rules) returns (λ c κs. search rules) (λ c. search rules) returns-2)
