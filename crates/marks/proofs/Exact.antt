-- A mark's numbers are exact: a whole number below 2^53 is a float, and half of one within 2^40 is too, so neither the cast nor
-- the product with 0.5 rounds. Assumes nothing.
use mathlib.Core.Path.{◌≡◌, refl, sym, ◌∙◌, subst}
use mathlib.Core.Bool.{Bool, true, false, not, cond}
use mathlib.Core.List.{List, ◌++◌}
use Prim.Native.Nat.{ℕ, suc, ◌-◌, ◌*◌, ◌^◌, ◌≤◌, ◌<◌}
use native.Mathlib.Nat.{eq_of_mul-eq-mul_right, lt_trans, lt_of_le_of_lt, mul-pos}
use native.Mathlib.Omega.{arith}
use lib.Dec.{T, lit<, le→leb, lt→ltb, ltb}
use lib.Pow.{shl_lt}
use lib.IntN.{ℤ, pos, negsuc, nat_abs}
use lib.Signed.{non_neg}
use lib.Count.{count_trailing_zeros}
use lib.Ieee.{Float, nan, inf, fin, binary64, mul, round, of_int, of_bits, of_fields, odd, in_float, up, down, unlike}
use lib.Ieee.Fits.{down_pos}
use lib.Ieee.Exact.{HasValue, round_exact}
use lib.Ieee.Back.{round_whole}
use Rattle.ints.specs.Reach.{reach}
use Rattle.plan.specs.Plan.{PlanData, vertex_count, is_via, half_width, level_of, height_of}
use Rattle.passes.specs.State.{position_of}
use Rattle.marks.specs.declared.types.Mark.{Mark}
use Rattle.marks.specs.declared.types.Mark.TheVariants.{Box, Bend, Line}
use Rattle.marks.specs.Half.{point5, half_of, whole_of, max_whole}
use Rattle.marks.specs.Marks.{WholeMark, box, bend, line, depth_of, upper_end, lower_end, segment_mark, whole_mark_of, point_of, in_f64, mark_of, five_of}
use Rattle.marks.specs.Exact.{IsHalf, IsWhole, ExactPoint, ExactMark, ExactFive}
use Rattle.marks.specs.inner.Asked.{InReach}
use Rattle.marks.proofs.Laws.{height-low, within-at}

-- ---- the cast
pub cast-holds : (x : ℤ) → nat_abs x ≤ 2 ^ 40 → T (in_float binary64 x)
unfolding in_float
cast-holds (pos n) h = le→leb n (2 ^ 53) (omega arith)
cast-holds (negsuc n) h = lt→ltb n (2 ^ 53) (omega arith)

pub whole-holds : (n : ℕ) → n ≤ max_whole → T (in_float binary64 (pos n))
unfolding in_float
whole-holds n h = le→leb n (2 ^ 53) h

int-exact : (x : ℤ) → nat_abs x ≤ 2 ^ 40 → HasValue (of_int binary64 x) (not (non_neg x)) (nat_abs x) 1
unfolding of_int
int-exact (pos n) h = round_whole binary64 false n (omega arith)
int-exact (negsuc n) h = round_whole binary64 true (suc n) (omega arith)

pub whole-exact : (n : ℕ) → n ≤ max_whole → IsWhole n (whole_of n)
unfolding whole_of of_int
whole-exact n h = round_whole binary64 false n h

-- ---- times 0.5
point5-is : point5 ≡ fin false 1 (negsuc 0)
unfolding point5 of_bits of_fields odd count_trailing_zeros
point5-is = refl

regroup : (a n D K : ℕ) → a * 1 ≡ n * D → a * (1 * 1) * (K * 2) ≡ n * K * (D * 2)
regroup a n D K h = let e : a ≡ n * D = omega arith in subst (λ (z : ℕ). z * (1 * 1) * (K * 2) ≡ n * K * (D * 2)) (sym e) (omega arith)

unlike-false : (s : Bool) → unlike s false ≡ s
unlike-false true = refl
unlike-false false = refl

-- From one fraction to another of the same size.
rescale : (x : Float) (s : Bool) (a n D : ℕ) → 0 < D → a * 1 ≡ n * D → HasValue x s (a * (1 * 1)) (D * 2) → HasValue x s n 2
rescale nan s a n D p h v = v
rescale (inf t) s a n D p h v = v
rescale (fin t m e) s a n D p h v = (
  v.0,
  let A : a ≡ n * D = omega arith in
      eq_of_mul-eq-mul_right D p (m * up e * 2) (n * down e)
      (subst (λ (z : ℕ). m * up e * (D * 2) ≡ z * (1 * 1) * down e → m * up e * 2 * D ≡ n * down e * D) (sym A) (λ w. omega arith) v.1),
)

halved : (y : Float) (s : Bool) (n : ℕ) → n ≤ 2 ^ 40 → HasValue y s n 1 → HasValue (mul binary64 y (fin false 1 (negsuc 0))) s n 2
unfolding mul
halved nan s n h v = v
halved (inf t) s n h v = v
halved (fin t m e) s n h v =
    rescale (round binary64 (unlike t false) (m * up e * (1 * 1)) (down e * 2)) s (m * up e) n (down e) (down_pos e) v.1
    (subst (λ (b : Bool). HasValue (round binary64 (unlike t false) (m * up e * (1 * 1)) (down e * 2)) b (m * up e * (1 * 1)) (down e * 2)) (unlike-false t ∙ v.0)
    (round_exact binary64 (unlike t false) (m * up e * (1 * 1)) (down e * 2) n 1073
    (mul-pos (down_pos e) (lit< tt))
    (lt_of_le_of_lt h (lit< tt))
    (lt_trans (shl_lt 53 1073 (lt_of_le_of_lt h (lit< tt))) (lit< tt))
    (regroup (m * up e) n (down e) (2 ^ 1073) v.1)))

pub half-exact : (x : ℤ) → nat_abs x ≤ reach → IsHalf x (half_of x)
unfolding half_of
half-exact x h = rw point5-is (halved (of_int binary64 x) (not (non_neg x)) (nat_abs x) h (int-exact x h))

pub point-exact : (x : ℤ) (y : ℕ) → nat_abs x ≤ reach → y ≤ max_whole → ExactPoint x y (point_of x y)
point-exact x y h l = record { across = half-exact x h; down = whole-exact y l }

-- ---- marks
-- So near, so low and so narrow that f64 has them.
abbrev pub Fits : WholeMark → Type 0
Fits (box x y w) = (nat_abs x ≤ reach) × (y ≤ max_whole) × (w ≤ max_whole)
Fits (bend x y) = (nat_abs x ≤ reach) × (y ≤ max_whole)
Fits (line x y u v) = (nat_abs x ≤ reach) × (y ≤ max_whole) × (nat_abs u ≤ reach) × (v ≤ max_whole)

in-f64-exact : (m : WholeMark) → Fits m → ExactMark m (in_f64 m)
in-f64-exact (box x y w) h = (point-exact x y h.0 h.1, whole-exact w h.2)
in-f64-exact (bend x y) h = point-exact x y h.0 h.1
in-f64-exact (line x y u v) h = (point-exact x y h.0 h.1, point-exact u v h.2 h.3)

either-fits : (t via : Bool) (x : ℤ) (y w : ℕ) (m : WholeMark) → Fits (box x y w) → Fits m → Fits (cond t (cond via (bend x y) (box x y w)) m)
either-fits true true x y w m h k = (h.0, h.1)
either-fits true false x y w m h k = h
either-fits false via x y w m h k = k

-- those of a plan
module _ (p : PlanData) (xs : List ℤ) (h : InReach p.spacing p.sizes xs) where
  low : (v : ℕ) → depth_of p v ≤ max_whole
  unfolding height_of level_of
  low v = omega (arith, height-low h v)

  near : (v : ℕ) → nat_abs (position_of xs v) ≤ reach
  near v = within-at xs v h.within

  pub fits : (n : ℕ) → half_width p n ≤ max_whole → Fits (whole_mark_of p xs n)
  unfolding whole_mark_of
  fits n w =
      let k = n - vertex_count p in
      let a = upper_end p k in let b = lower_end p k in
      either-fits (ltb n (vertex_count p)) (is_via p n) (position_of xs n) (depth_of p n) (half_width p n) (segment_mark p xs k) (near n, low n, w) (near a, low a, near b, low b)

  pub mark-exact : (n : ℕ) → half_width p n ≤ max_whole → ExactMark (whole_mark_of p xs n) (mark_of p xs n)
  unfolding mark_of
  mark-exact n w = in-f64-exact (whole_mark_of p xs n) (fits n w)

-- ---- five numbers
whole-kind : (k : ℕ) → k ≤ 2 → IsWhole k (whole_of k)
whole-kind k h = whole-exact k (omega arith)

pub five-exact : (w : WholeMark) (m : Mark) (more : List Float) → ExactMark w m → ExactFive w (five_of m ++ more)
unfolding five_of
five-exact (box x y w) (Box q z) more e = (whole-kind 0 (omega arith), e.0.across, e.0.down, e.1, whole-kind 0 (omega arith))
five-exact (bend x y) (Bend q) more e = (whole-kind 1 (omega arith), e.across, e.down, whole-kind 0 (omega arith), whole-kind 0 (omega arith))
five-exact (line x y u v) (Line q r) more e = (whole-kind 2 (omega arith), e.0.across, e.0.down, e.1.across, e.1.down)
five-exact (box x y w) (Bend q) more e = absurd e
five-exact (box x y w) (Line q r) more e = absurd e
five-exact (bend x y) (Box q z) more e = absurd e
five-exact (bend x y) (Line q r) more e = absurd e
five-exact (line x y u v) (Box q z) more e = absurd e
five-exact (line x y u v) (Bend q) more e = absurd e
