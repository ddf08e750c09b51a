-- A text that was read has as many bytes as its plan's text.
use Rattle.std.proofs.Common.{rules, ◌≡◌, sym, ap, length, Err}
use Rattle.text_write.proofs.AgainLaws.{read-accepted, read-refused, rewritten-accepted, leaves-refused}
use Rattle.text_write.proofs.again.rewrite.Goals as goal

pub returns-in_err-r : goal.returns-in_err-r
returns-in_err-r c =
    let e : c.from_residual.result ≡ Err c.in_err-r.field-0.0 = search rules in
    rw (e, read-refused c.args.text.now _ c.in_err-r.ensures) (leaves-refused _ c.args.out.now)

pub text_if_short-requires : goal.text_if_short-requires
text_if_short-requires c = let a = read-accepted c.args.text.now _ c.in_ok-r.ensures in (a.stored, sym (ap length a.same))

pub returns : goal.returns
returns c = let a = read-accepted c.args.text.now _ c.in_ok-r.ensures in rw (a.read, rewritten-accepted) c.text_if_short.ensures
