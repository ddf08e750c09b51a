-- By the byte after the backslash.
use Prim.Native.Nat.{◌+◌}
use mathlib.Core.Path.{◌∙◌}
use native.Mathlib.Omega.{arith}
use Rattle.script_texts.specs.Texts.{escaped}
use Rattle.script_texts.proofs.TextLaws.{nothing-stands, byte-stands, escape_end, escape-n, escape-t, escape-r, escape-backslash, escape-x, escape-other}
use Rattle.script_texts.proofs.texts.escape_at.Goals as goal

pub returns-then-s-at : goal.returns-then-s-at
returns-then-s-at c = let a = c.args in rw c.none.ensures
    (nothing-stands escaped a.s.now a.at (escape_end a.s.now a.at c.if-s-at.true) c.requires)

pub returns-in-110 : goal.returns-in-110
returns-in-110 c =
    let a = c.args in
    rw c.one.ensures (byte-stands escaped a.s.now a.at 10 (a.at + 1)
    (escape-n a.s.now a.at c.if-s-at.false c.in-110.is) (omega arith) (omega arith))

pub returns-in-116 : goal.returns-in-116
returns-in-116 c =
    let a = c.args in
    rw c.one-in-116.ensures (byte-stands escaped a.s.now a.at 9 (a.at + 1)
    (escape-t a.s.now a.at c.if-s-at.false c.in-116.is) (omega arith) (omega arith))

pub returns-in-114 : goal.returns-in-114
returns-in-114 c =
    let a = c.args in
    rw c.one-in-114.ensures (byte-stands escaped a.s.now a.at 13 (a.at + 1)
    (escape-r a.s.now a.at c.if-s-at.false c.in-114.is) (omega arith) (omega arith))

pub returns-in-92 : goal.returns-in-92
returns-in-92 c =
    let a = c.args in
    rw c.one-in-92.ensures (byte-stands escaped a.s.now a.at 92 (a.at + 1)
    (escape-backslash a.s.now a.at c.if-s-at.false c.in-92.is) (omega arith) (omega arith))

pub returns-in-120 : goal.returns-in-120
returns-in-120 c =
    let a = c.args in
    let e = c.hex_at.ensures in
    record {
      gives = escape-x a.s.now a.at c.if-s-at.false c.in-120.is
          ∙ e.gives;
      onward = λ q. omega (arith, e.onward q);
      inside = e.inside;
    }

pub returns-in_default : goal.returns-in_default
returns-in_default c =
    let a = c.args in
    rw c.none-in_default.ensures (nothing-stands escaped a.s.now a.at
    (escape-other a.s.now a.at c.if-s-at.false (λ e. omega (arith, e)) (λ e. omega (arith, e)) (λ e. omega (arith, e)) (λ e. omega (arith, e)) (λ e. omega (arith, e)))
    c.requires)
