-- By what reading into arrays that are 0 finds.
use Rattle.std.proofs.Common.{rules, ◌≡◌, sym, ap, ◌∙◌, Err}
use Rattle.text_untangle.specs.Untangled.{untangled_answer}
use Rattle.text_untangle.proofs.ArrayLaws.{tangled-answer}
use Rattle.text_untangle.proofs.read_tangled.Goals as goal

pub returns-in_err-s : goal.returns-in_err-s
unfolding untangled_answer
returns-in_err-s c =
    let e : c.from_residual.result ≡ Err c.in_err-s.field-0.0 = search rules in
    rw e (ap untangled_answer (sym c.in_err-s.ensures))

pub returns : goal.returns
returns c =
    let a = c.in_ok-s.ensures in
    rw c.new.ensures (tangled-answer _ _ _ _ _ _ _ _ a.kept _ a.numbered ∙ ap untangled_answer (sym a.reads))
