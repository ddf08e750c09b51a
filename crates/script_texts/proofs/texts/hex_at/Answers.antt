-- Two hexadecimal digits, or too few bytes, or another byte.
use Prim.Native.Nat.{◌+◌}
use native.Mathlib.Omega.{arith}
use Rattle.script_texts.specs.Texts.{hexadecimal}
use Rattle.script_texts.proofs.TextLaws.{nothing-stands, byte-stands, hex-short, hex-not-first, hex-not-second, hex-is}
use Rattle.script_texts.proofs.texts.hex_at.Goals as goal
use Rattle.script_texts.proofs.texts.hex_at.Goals.{else-high-lt16-via-then-high-lt16+else-low-lt16, else-high-lt16-via-else-high-lt16}

pub returns-then-s-at-lt2 : goal.returns-then-s-at-lt2
returns-then-s-at-lt2 c = let a = c.args in rw c.none.ensures
    (nothing-stands hexadecimal a.s.now a.at (hex-short a.s.now a.at (omega arith)) c.requires)

pub returns-then-low-lt16 : goal.returns-then-low-lt16
returns-then-low-lt16 c =
    let a = c.args in
    let h = c.hex-high in
    let l = c.hex-low in
    let e = hex-is a.s.now a.at (omega arith) (omega (arith, h.ensures.0, c.if-high-lt16.true))
    (omega (arith, l.ensures.0, c.if-low-lt16.true)) in
    rw (c.one.ensures, h.ensures.0, l.ensures.0) (byte-stands hexadecimal a.s.now a.at _ (a.at + 2) e (omega arith) (omega arith))

pub returns-else-high-lt16 : goal.returns-else-high-lt16
returns-else-high-lt16 c =
    let a = c.args in
    rw c.none-else-high-lt16.ensures (nothing-stands hexadecimal a.s.now a.at
    (elim c.else-high-lt16.branch [
      | else-high-lt16-via-then-high-lt16+else-low-lt16 w ↦
          hex-not-second a.s.now a.at (omega arith) (omega (arith, c.hex-low.ensures.0, w.if-low-lt16.false))
      | else-high-lt16-via-else-high-lt16 w ↦ hex-not-first a.s.now a.at (omega arith) (omega (arith, c.hex-high.ensures.0, w.if-high-lt16.false))
    ]) c.requires)
