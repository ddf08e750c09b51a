-- How long an element is at most. Assumes nothing.
use mathlib.Core.List.{List, [], ◌++◌}
use Prim.Native.Nat.{ℕ, ◌+◌, ◌*◌, ◌≤◌}
use native.Mathlib.Omega.{arith}
use lib.Dec.{eqb}
use lib.ListN.{length, length-append}
use lib.IntN.{ℤ, pos, ◌-ℤ◌}
use Rattle.ints.proofs.Laws.{dif, if-ind}
use Rattle.text.specs.Bytes.{bytes}
use Rattle.text.proofs.DecimalLaws.{decimal-length}
use Rattle.marks.specs.Marks.{box, bend, line}
use Rattle.picture_numbers.specs.Thousandths.{amount}
use Rattle.picture_numbers.proofs.Lengths.{amount-short, thousandths-short, across-near, down-short}
use Rattle.picture_labels.proofs.Lengths.{title-short, label-short}
use Rattle.picture_elements.specs.Elements.{pen_of, line_of, bend_of, rect_of, box_of}
use Rattle.picture_elements.specs.inner.Near.{Near, Pen, NearVertex, NearBox}
use Rattle.picture_elements.proofs.Limits.{in-limits, pen-thin}

pen-short : (u w : ℕ) → Pen u w → length (pen_of u w) ≤ 24
unfolding pen_of
pen-short u w h =
    if-ind (eqb w 1) [] (bytes "\" stroke-width=\"" ++ amount ((19 + w) * u)) (λ (l : List ℕ). length l ≤ 24)
    (λ e. omega arith)
    (λ e. omega (arith, amount-short 3 ((19 + w) * u) (omega (arith, pen-thin u w h))))

pub line-short : (u w : ℕ) (x : ℤ) (y : ℕ) (a : ℤ) (b : ℕ) → Pen u w → Near x y → Near a b → length (line_of u w (line x y a b)) ≤ 102
unfolding line_of
line-short u w x y a b g h k =
    let p = across-near x (omega (arith, h.0)) in let q = down-short 5 y (omega (arith, h.1)) in
    let r = across-near a (omega (arith, k.0)) in let s = down-short 5 b (omega (arith, k.1)) in
    let t = pen-short u w g in
    simp length-append (omega arith)

pub bend-short : (u n : ℕ) (x : ℤ) (y : ℕ) → NearVertex u n x y → length (bend_of u n (bend x y)) ≤ 68
unfolding bend_of
bend-short u n x y h =
    let d = decimal-length 3 n (omega (arith, h.number)) in
    let p = across-near x (omega (arith, h.point.0)) in let q = down-short 5 y (omega (arith, h.point.1)) in
    let r = amount-short 2 (35 * u) (omega (arith, h.measure)) in
    simp length-append (omega arith)

pub rect-short : (u : ℕ) (x : ℤ) (y w : ℕ) → Near x y → u ≤ 10000 → w ≤ 200 → length (rect_of u x y w) ≤ 75
unfolding rect_of
rect-short u x y w h m k =
    let p = across-near (x -ℤ pos (2 * w)) (omega (arith, h.0, dif x (pos (2 * w)))) in
    let q = thousandths-short 5 (pos (1000 * y) -ℤ pos (200 * u)) (omega (arith, h.1, dif (pos (1000 * y)) (pos (200 * u)))) in
    let r = down-short 2 (2 * w) (omega arith) in
    let s = amount-short 3 (400 * u) (omega arith) in
    simp length-append (omega arith)

pub box-short : (u : ℕ) (name : List ℕ) (n : ℕ) (x : ℤ) (y w : ℕ) → NearBox u n x y w → length (box_of u name n (box x y w)) ≤ 363 + 10 * length name
unfolding box_of
box-short u name n x y w h =
    let v = h.vertex in
    let d = decimal-length 3 n (omega (arith, v.number)) in
    let t = title-short n name v.number in
    let r = rect-short u x y w v.point v.measure h.narrow in
    let l = label-short x y w u n name (in-limits h) in
    simp length-append (omega arith)
