-- From f64 back to whole numbers: what is exactly half a whole number is that number when doubled, doubling does not round, and the
-- whole part of a whole number is the number. So what the program writes of an exact mark is that mark. Assumes nothing.
use Rattle.std.proofs.Common.{◌≡◌, ℕ, suc, ◌+◌, ◌*◌, ◌/◌, ◌^◌, ◌<◌, ◌≤◌, Bool, true, false, ℤ, pos, negsuc, nat_abs, sym, ap, ◌∙◌, subst, lt_trans, mul-lt-mul_of_pos_right, mul-one, mul_right_comm, mul-div_cancel, arith, lit<, shl_lt, le-ltb, lt-ltb}
use native.Mathlib.Nat.{eq_of_mul-eq-mul_right}
use lib.Ieee.{Float, nan, inf, fin, binary64, lt, mul, round, to_unsigned, up, down, unlike}
use lib.Ieee.Fits.{down_pos}
use lib.Ieee.Exact.{HasValue, round_exact}
use Rattle.ints.specs.Reach.{reach}
use Rattle.text.proofs.Words.{never}
use Rattle.marks.specs.declared.types.Point.{Point}
use Rattle.marks.specs.declared.types.Mark.{Mark}
use Rattle.marks.specs.declared.types.Mark.TheVariants.{Box, Bend, Line}
use Rattle.marks.specs.Half.{max_whole}
use Rattle.marks.specs.Marks.{WholeMark, box, bend, line}
use Rattle.marks.specs.Exact.{IsHalf, IsWhole, ExactPoint, ExactMark}
use Rattle.marks.proofs.Exact.{Fits}
use Rattle.script_marks.specs.Marks.{signed_half_steps, point_words, mark_words}
use Rattle.script_marks.specs.inner.Floats.{whole_in, across_in, point_in, mark_in}

-- ---- the whole part
above : (m : ℕ) (e : ℤ) → lt (fin true 1 (pos 0)) (fin false m e) ≡ true
unfolding lt
above m e = lt-ltb 0 (1 * up (pos 0) * down e + m * up e * 1) (omega (arith, down_pos e))

below : (m n : ℕ) (e : ℤ) → m * up e * 1 ≡ n * down e → n < 2 ^ 64 → lt (fin false m e) (fin false 1 (pos 64)) ≡ true
unfolding lt
below m n e h l = lt-ltb (m * up e * 1) (1 * 2 ^ 64 * down e) (omega (arith, h, mul-lt-mul_of_pos_right l (down_pos e)))

part : (m n : ℕ) (e : ℤ) → m * up e * 1 ≡ n * down e → m * up e / down e ≡ n
part m n e h = ap (λ (a : ℕ). a / down e) (sym (mul-one (m * up e)) ∙ h) ∙ mul-div_cancel n (down_pos e)

pub whole_back : (x : Float) (n : ℕ) → n < 2 ^ 64 → IsWhole n x → whole_in x ≡ n
unfolding whole_in to_unsigned
whole_back nan n l v = absurd v
whole_back (inf s) n l v = absurd v
whole_back (fin true m e) n l v = never (sym v.0)
whole_back (fin false m e) n l v = rw (above m e, below m n e v.1 l, part m n e v.1) (omega arith)

-- ---- doubled
-- From a fraction that is a whole number to the number.
whole_of : (x : Float) (s : Bool) (n d : ℕ) → 0 < d → HasValue x s (n * d) d → HasValue x s n 1
whole_of nan s n d p v = v
whole_of (inf t) s n d p v = v
whole_of (fin t m e) s n d p v = (v.0, eq_of_mul-eq-mul_right d p (m * up e * 1) (n * down e) (omega (arith, v.1)))

scaled : (a n d k : ℕ) → a ≡ n * d → a * k ≡ n * k * d
scaled a n d k h = subst (λ (z : ℕ). z * k ≡ n * k * d) (sym h) (mul_right_comm n d k)

doubled : (x : Float) (s t : Bool) (n : ℕ) → n < 2 ^ 53 → HasValue x s n 2 → HasValue (mul binary64 x (fin t 1 (pos 1))) (unlike s t) n 1
unfolding mul
doubled nan s t n l v = v
doubled (inf u) s t n l v = v
doubled (fin u m e) s t n l v =
    let is : m * up e * 2 ≡ n * (down e * 1) = omega (arith, v.1) in
    let made = round_exact binary64 (unlike u t) (m * up e * 2) (down e * 1) n 1074
    (omega (arith, down_pos e))
    l
    (lt_trans (shl_lt 53 1074 l) (lit< tt))
    (scaled (m * up e * 2) n (down e * 1) (2 ^ 1074) is) in
    whole_of (round binary64 (unlike u t) (m * up e * 2) (down e * 1)) (unlike s t) n (down e * 1) (omega (arith, down_pos e))
    (subst (λ (a : ℕ). HasValue (round binary64 (unlike u t) (m * up e * 2) (down e * 1)) (unlike s t) a (down e * 1)) is
    (subst (λ (b : Bool). HasValue (round binary64 (unlike u t) (m * up e * 2) (down e * 1)) (unlike b t) (m * up e * 2) (down e * 1)) v.0 made))

-- ---- a coordinate
-- A number that is not negative, and one that is.
not-below : (m : ℕ) (e : ℤ) → lt (fin false m e) (fin false 0 (pos 0)) ≡ false
unfolding lt
not-below m e = le-ltb (m * up e * 1) (0 * 1 * down e) (omega arith)

is_below : (m n : ℕ) (e : ℤ) → m * up e * 2 ≡ suc n * down e → lt (fin true m e) (fin false 0 (pos 0)) ≡ true
unfolding lt
is_below m n e h = lt-ltb 0 (m * up e * 1 + 0 * 1 * down e) (omega (arith, down_pos e, mul-lt-mul_of_pos_right {m = 0} {n = suc n} (omega arith) (down_pos e)))

small : (n : ℕ) → n ≤ reach → (n < 2 ^ 53) × (n < 2 ^ 64)
small n h = (omega arith, omega arith)

pub across-back : (x : Float) (z : ℤ) → nat_abs z ≤ reach → IsHalf z x → across_in x ≡ signed_half_steps z
unfolding across_in signed_half_steps
across-back nan z h v = absurd v
across-back (inf s) z h v = absurd v
across-back (fin true m e) (pos n) h v = never (sym v.0)
across-back (fin false m e) (pos n) h v =
    let w = whole_back (mul binary64 (fin false m e) (fin false 1 (pos 1))) n (small n h).1 (doubled (fin false m e) false false n (small n h).0 v) in
    rw (not-below m e, w)
across-back (fin true m e) (negsuc n) h v =
    let w = whole_back (mul binary64 (fin true m e) (fin true 1 (pos 1))) (suc n) (small (suc n) h).1 (doubled (fin true m e) true true (suc n) (small (suc n) h).0 v) in
    rw (is_below m n e v.1, w)
across-back (fin false m e) (negsuc n) h v = never v.0

-- ---- a mark
module _ {q : Point} (x : ℤ) (y : ℕ) (e : ExactPoint x y q) (h : nat_abs x ≤ reach) (l : y ≤ max_whole) where
  point-back : point_in q ≡ point_words x y
  point-back = rw (across-back q.x x h e.across, whole_back q.y y (omega arith) e.down)

pub mark-back : (w : WholeMark) (m : Mark) → Fits w → ExactMark w m → mark_in m ≡ mark_words w
unfolding mark_in mark_words
mark-back (box x y w) (Box q z) f e = rw (point-back x y e.0 f.0 f.1, whole_back z w (omega (arith, f.2)) e.1)
mark-back (bend x y) (Bend q) f e = rw (point-back x y e f.0 f.1)
mark-back (line x y u v) (Line q r) f e = rw (point-back x y e.0 f.0 f.1, point-back u v e.1 f.2 f.3)
mark-back (box x y w) (Bend q) f e = absurd e
mark-back (box x y w) (Line q r) f e = absurd e
mark-back (bend x y) (Box q z) f e = absurd e
mark-back (bend x y) (Line q r) f e = absurd e
mark-back (line x y u v) (Box q z) f e = absurd e
mark-back (line x y u v) (Bend q) f e = absurd e
