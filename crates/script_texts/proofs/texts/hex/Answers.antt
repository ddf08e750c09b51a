-- The ranges of digits one after another.
use mathlib.Core.Path.{sym}
use native.Mathlib.Omega.{arith}
use Rattle.script_texts.proofs.TextLaws.{hex-digit, hex-upper, hex-lower, hex-none}
use Rattle.script_texts.proofs.texts.hex.Goals as goal

pub returns-in-48-to-57 : goal.returns-in-48-to-57
returns-in-48-to-57 c = (sym (hex-digit c.args.b (omega arith) (omega arith)), omega arith)

pub returns-in-65-to-70 : goal.returns-in-65-to-70
returns-in-65-to-70 c = let e = hex-upper c.args.b (omega arith) (omega arith) in (omega (arith, e), omega arith)

pub returns-in-97-to-102 : goal.returns-in-97-to-102
returns-in-97-to-102 c = let e = hex-lower c.args.b (omega arith) (omega arith) in (omega (arith, e), omega arith)

pub returns-in_default : goal.returns-in_default
returns-in_default c = (sym (hex-none c.args.b (λ x y. omega arith) (λ x y. omega arith) (λ x y. omega arith)), omega arith)

pub returns-in_default-2 : goal.returns-in_default-2
returns-in_default-2 c = (sym (hex-none c.args.b (λ x y. omega arith) (λ x y. omega arith) (λ x y. omega arith)), omega arith)

pub returns-in_default-3 : goal.returns-in_default-3
returns-in_default-3 c = (sym (hex-none c.args.b (λ x y. omega arith) (λ x y. omega arith) (λ x y. omega arith)), omega arith)

pub returns-in_default-4 : goal.returns-in_default-4
returns-in_default-4 c = (sym (hex-none c.args.b (λ x y. omega arith) (λ x y. omega arith) (λ x y. omega arith)), omega arith)
