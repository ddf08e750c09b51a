-- A backslash with what follows it, or a byte that stands for itself.
use Prim.Native.Nat.{◌+◌}
use mathlib.Core.Path.{◌∙◌}
use native.Mathlib.Omega.{arith}
use lib.ListN.{get_or}
use Rattle.script_texts.specs.Texts.{unescaped}
use Rattle.script_texts.proofs.TextLaws.{byte-stands, plain_at, escape-at}
use Rattle.script_texts.proofs.texts.unit_at.Goals as goal

pub returns-then-b-eq92 : goal.returns-then-b-eq92
returns-then-b-eq92 c =
    let a = c.args in
    let e = c.escape_at.ensures in
    record {
      gives = escape-at a.s.now a.at c.requires c.if-b-eq92.true
          ∙ e.gives;
      onward = λ q. omega (arith, e.onward q);
      inside = e.inside;
    }

pub returns : goal.returns
returns c =
    let a = c.args in
    rw c.one.ensures (byte-stands unescaped a.s.now a.at (get_or a.s.now a.at 0) (a.at + 1)
    (plain_at a.s.now a.at c.requires c.if-b-eq92.false) (omega arith) (omega arith))
