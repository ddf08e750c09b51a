use mathlib.Core.Path.{sym, ◌∙◌, ap}
use borrow.Author.Tests.{not-true, not-false}
use Rattle.script_words.proofs.PartLaws.{rest}
use Rattle.picture_names.specs.Chars.{is_name}
use Rattle.picture_names.proofs.NameLaws.{says_none, says-not, says-name}
use Rattle.picture_names.proofs.line.read_line.Goals as goal

pub returns-then-not-n : goal.returns-then-not-n
returns-then-not-n c = says_none c.number_then-n.ensures (not-true _ c.if-not-n.true)

pub returns-then-not-is_name : goal.returns-then-not-is_name
returns-then-not-is_name c =
    let n = c.number_then-n in
    says-not n.ensures (not-false _ c.if-not-n.false)
    (ap is_name (sym (rest n.result.next c.args.line.now)) ∙ sym c.is_name.ensures ∙ c.if-not-is_name.true)

pub returns : goal.returns
returns c =
    let n = c.number_then-n in
    says-name n.ensures (not-false _ c.if-not-n.false)
    (ap is_name (sym (rest n.result.next c.args.line.now)) ∙ sym c.is_name.ensures ∙ c.if-not-is_name.false)
