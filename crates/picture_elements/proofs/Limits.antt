-- What a box's label asks for, and how thick a pen is at most. Assumes nothing.
use Prim.Native.Nat.{ℕ, ◌+◌, ◌*◌, ◌≤◌}
use native.Mathlib.Nat.{mul-le-mul}
use native.Mathlib.Omega.{arith}
use lib.IntN.{ℤ}
use Rattle.picture_labels.specs.inner.Limits.{InLimits}
use Rattle.picture_elements.specs.inner.Near.{Pen, NearBox}

pub in-limits : {u n : ℕ} {x : ℤ} {y w : ℕ} → NearBox u n x y w → InLimits x y w u n
in-limits h =
    let v = h.vertex in
    record { across = omega (arith, v.point.0); down = v.point.1; half = (h.wide, h.narrow); measure = (h.some, v.measure); numbered = v.number }

pub pen-thin : (u w : ℕ) → Pen u w → (19 + w) * u ≤ 119 * 10000
pen-thin u w h = let m : 19 + w ≤ 119 = omega (arith, h.1) in mul-le-mul m h.0
