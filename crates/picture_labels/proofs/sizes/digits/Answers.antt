use mathlib.Core.Path.{sym}
use native.Mathlib.Omega.{arith}
use Rattle.picture_labels.proofs.LabelLaws.{one-digit, two_digits, three-digits, four-digits}
use Rattle.picture_labels.proofs.sizes.digits.Goals as goal

pub returns-then-n-lt10 : goal.returns-then-n-lt10
returns-then-n-lt10 c = (sym (one-digit c.args.n (omega arith)), omega arith)

pub returns-then-n-lt100 : goal.returns-then-n-lt100
returns-then-n-lt100 c = (sym (two_digits c.args.n (omega arith) (omega arith)), omega arith)

pub returns-then-n-lt1000 : goal.returns-then-n-lt1000
returns-then-n-lt1000 c = (sym (three-digits c.args.n (omega arith) (omega arith)), omega arith)

pub returns : goal.returns
returns c = (sym (four-digits c.args.n (omega arith) (omega arith)), omega arith)
