-- What is said of a mark has at most 94 bytes. What the program writes of an f64 has at most 23 bytes, whatever it is.
use Rattle.std.proofs.Common.{ℕ, suc, ◌+◌, ◌/◌, ◌%◌, ◌^◌, ◌<◌, ◌≤◌, true, false, cond, eqb, List, ◌++◌, length, ℤ, pos, negsuc, nat_abs, arith, length-append}
use lib.Ieee.{Float, fin, binary64, lt, mul, to_unsigned}
use lib.Ieee.Casts.{to_unsigned-lt}
use Rattle.ints.proofs.Laws.{if-ind}
use Rattle.text.specs.Bytes.{bytes}
use Rattle.text.specs.Decimal.{decimal}
use Rattle.text.proofs.DecimalLaws.{decimal-length}
use Rattle.marks.specs.declared.types.Point.{Point}
use Rattle.marks.specs.Marks.{WholeMark, box, bend, line}
use Rattle.marks.proofs.Exact.{Fits}
use Rattle.script_marks.specs.Marks.{half_steps, signed_half_steps, mark_words}
use Rattle.script_marks.specs.inner.Floats.{whole_in, across_in, point_in}

-- ---- numbers
pub number_short : (n : ℕ) → n < 2 ^ 64 → length (decimal n) ≤ 20
number_short n h = decimal-length 19 n (omega arith)

half-short : (n : ℕ) → n < 2 ^ 64 → length (half_steps n) ≤ 22
unfolding half_steps
half-short n h =
    let w = number_short (n / 2) (omega arith) in
    simp length-append (if-ind (eqb (n % 2) 0) (bytes ".0") (bytes ".5") (λ (l : List ℕ). length (decimal (n / 2)) + length l ≤ 22) (λ e. omega arith) (λ e. omega arith))

-- ---- f64
pub whole-low : (x : Float) → whole_in x < 2 ^ 64
unfolding whole_in
whole-low x =
    if-ind (lt (fin true 1 (pos 0)) x) (cond (lt x (fin false 1 (pos 64))) (to_unsigned 64 x) 0) 0 (λ n. n < 2 ^ 64)
    (λ e. if-ind (lt x (fin false 1 (pos 64))) (to_unsigned 64 x) 0 (λ n. n < 2 ^ 64) (λ f. to_unsigned-lt 64 x) (λ f. omega arith))
    (λ e. omega arith)

across-in-short : (x : Float) → length (across_in x) ≤ 23
unfolding across_in
across-in-short x =
    let a = whole_in (mul binary64 x (fin true 1 (pos 1))) in let b = whole_in (mul binary64 x (fin false 1 (pos 1))) in
    if-ind (lt x (fin false 0 (pos 0))) (bytes "-" ++ half_steps a) (half_steps b) (λ (l : List ℕ). length l ≤ 23)
    (λ e. omega (arith, half-short a (whole-low (mul binary64 x (fin true 1 (pos 1))))))
    (λ e. omega (arith, half-short b (whole-low (mul binary64 x (fin false 1 (pos 1))))))

pub point-in-short : (q : Point) → length (point_in q) ≤ 44
point-in-short q =
    let w = number_short (whole_in q.y) (whole-low q.y) in
    simp length-append (omega (arith, across-in-short q.x))

-- ---- marks in whole numbers
across-short : (x : ℤ) → nat_abs x ≤ 2 ^ 40 → length (signed_half_steps x) ≤ 23
unfolding signed_half_steps
across-short (pos n) h = omega (arith, half-short n (omega arith))
across-short (negsuc n) h = omega (arith, half-short (suc n) (omega arith))

pub mark-short : (m : WholeMark) → Fits m → length (mark_words m) ≤ 94
unfolding mark_words
mark-short (box x y w) f =
    let a = across-short x f.0 in let b = number_short y (omega (arith, f.1)) in let c = number_short w (omega (arith, f.2)) in
    simp length-append (omega arith)
mark-short (bend x y) f =
    let a = across-short x f.0 in let b = number_short y (omega (arith, f.1)) in
    simp length-append (omega arith)
mark-short (line x y u v) f =
    let a = across-short x f.0 in let b = number_short y (omega (arith, f.1)) in
    let c = across-short u f.2 in let d = number_short v (omega (arith, f.3)) in
    simp length-append (omega arith)
