-- How long the first lines of a picture are at most. Assumes nothing.
use mathlib.Core.Path.{◌≡◌, refl}
use Prim.Native.Nat.{ℕ, ◌*◌, ◌≤◌}
use native.Mathlib.Omega.{arith}
use lib.ListN.{length, length-append}
use lib.IntN.{ℤ, pos, ◌-ℤ◌}
use Rattle.ints.proofs.Laws.{sum, dif}
use Rattle.picture_numbers.proofs.Lengths.{across-short, across-near, down-short}
use Rattle.picture_view.specs.View.{view_left, view_top, view_width, head_of, style}
use Rattle.picture_view.specs.inner.Edges.{Ends}

pub style-long : length style ≡ 467
unfolding style
style-long = refl

pub head-short : (lo hi : ℤ) (u h : ℕ) → Ends lo hi u h → length (head_of lo hi u h) ≤ 145
unfolding head_of
head-short lo hi u h e =
    let a = across-short (view_left lo u) (omega (arith, e.left, e.measure, dif lo (pos u))) in
    let b = across-near (view_top u) (omega (arith, e.measure, dif (pos 0) (pos u))) in
    let c = across-short (view_width lo hi u) (omega (arith, e.left, e.right, e.measure, dif hi lo, sum (hi -ℤ lo) (pos (2 * u)))) in
    let d = down-short 5 h (omega (arith, e.high)) in
    simp length-append (omega arith)
