-- The integers in a form that `omega` reads: an integer z is P z - N z, two natural numbers of which one is 0, so that
-- a ≤ b is P a + N b ≤ P b + N a, with no bound on a and b. Assumes nothing.
--     ints               goes into omega's list beside `arith`: omega then reads each hypothesis, and each field of one, that is `a ≡ b`, `lt_z a b ≡ true`, `lt_z a b ≡ false`, the same of le_z,
--                        `a ≤ℤ b`, `a <ℤ b` or `SFits w64 a`, and proves a goal of these forms but the last. It applies one rule to a hypothesis, the first that fits
--     sum a b, dif a b   what is known of a +ℤ b and of a -ℤ b. omega knows nothing of a sum that is not listed so: `omega (arith, ints, sum a d, dif b d)`
--     apart z            P z or N z is 0: list it where omega's counterexample has both above 0. It costs a case split, of which omega makes six
--     abs z              nat_abs z is P z + N z
--     gap-ge, gap-r, gap-l, gap-turn    the distance of two, with no case split
--     least, most, min-l ..   the lesser and the greater of two
--     cases, cases_z      by the order of two, as a term
--     fit-sum, fit-dif   are rules too, for a need that a sum or a difference fits an i64: `omega (arith, fit-sum)`
--     cast-make, cast-dif     what the cast of a signed number or difference to u64 needs
--     back, back', of-nat     what the machine reads back from a signed local's bits
use mathlib.Core.Path.{◌≡◌, refl, sym, ap, subst}
use mathlib.Core.Bool.{Bool, true, false, not, cond}
use Prim.Native.Nat.{ℕ, zero, suc, ◌+◌, ◌-◌, ◌^◌, ◌≤◌, ◌<◌, min, max}
use native.Mathlib.Omega.{arith}
use lib.Dec.{T, ltb, leb, ltb→lt, nltb→le, leb→le}
use borrow.Author.Tests.{ltb-true, ltb-false, leb-true, leb-false, lt-ltb, le-ltb, le-leb, lt-leb}
use lib.IntN.{ℤ, pos, negsuc, neg_ℤ, sub_ℕ, ◌+ℤ◌, ◌-ℤ◌, nat_abs}
use lib.Signed.{mag, non_neg, lt_z, le_z, ◌≤ℤ◌, ◌<ℤ◌}
use Rattle.ints.specs.Ints.{P, N, min_z, max_z, gap}
use mir.Syntax.{w64}
use mir.Val.{SFits, Fits, to_z, of_z}
use mir.ValLaws as L

-- one of them is 0
pub apart : (z : ℤ) → min (P z) (N z) ≡ 0
apart (pos n) = omega arith
apart (negsuc n) = omega arith

cond_ind : (c : Bool) (x y : ℤ) (Q : ℤ → Type 0) → (T c → Q x) → (T (not c) → Q y) → Q (cond c x y)
cond_ind true x y Q f g = f tt
cond_ind false x y Q f g = g tt

-- what is known of a sum
pub record Sum (a b s : ℤ) : Type 0 where
  pub eq : P s + (N a + N b) ≡ P a + P b + N s
  pub p≤ : P s ≤ P a + P b
  pub n≤ : N s ≤ N a + N b

-- a - b, of two naturals
pub record Diff (a b : ℕ) (s : ℤ) : Type 0 where
  pub eq : P s + b ≡ a + N s
  pub p≤ : P s ≤ a
  pub n≤ : N s ≤ b

pub diff : (a b : ℕ) → Diff a b (sub_ℕ a b)
diff a b = cond_ind (ltb a b) (negsuc (b - suc a)) (pos (a - b)) (λ z. Diff a b z)
    (λ t. let h = ltb→lt a b t in omega arith)
    (λ t. let h = nltb→le a b t in omega arith)

pub sum : (a b : ℤ) → Sum a b (a +ℤ b)
sum (pos a) (pos b) = omega arith
sum (pos a) (negsuc b) = let d = diff a (suc b) in omega arith
sum (negsuc a) (pos b) = let d = diff b (suc a) in omega arith
sum (negsuc a) (negsuc b) = omega arith

pub neg-P : (z : ℤ) → P (neg_ℤ z) ≡ N z
neg-P (pos zero) = refl
neg-P (pos (suc n)) = refl
neg-P (negsuc n) = refl

pub neg-N : (z : ℤ) → N (neg_ℤ z) ≡ P z
neg-N (pos zero) = refl
neg-N (pos (suc n)) = refl
neg-N (negsuc n) = refl

pub record Dif (a b s : ℤ) : Type 0 where
  pub eq : P s + (N a + P b) ≡ P a + N b + N s
  pub p≤ : P s ≤ P a + N b
  pub n≤ : N s ≤ N a + P b

pub dif : (a b : ℤ) → Dif a b (a -ℤ b)
dif a b = omega (arith, sum a (neg_ℤ b), neg-P b, neg-N b)

-- ---- equations: both ways
pub eq-read : (a b : ℤ) → a ≡ b → P a + N b ≡ P b + N a
eq-read a b e = subst (λ (z : ℤ). P a + N z ≡ P z + N a) e refl

pub eq-make : (a b : ℤ) → P a + N b ≡ P b + N a → a ≡ b
eq-make (pos a) (pos b) h = ap pos (omega arith)
eq-make (pos a) (negsuc b) h = absurd (omega arith)
eq-make (negsuc a) (pos b) h = absurd (omega arith)
eq-make (negsuc a) (negsuc b) h = ap negsuc (omega arith)

-- ---- the tests
pub lt-true : (a b : ℤ) → lt_z a b ≡ true → P a + N b < P b + N a
lt-true (pos a) (pos b) e = let h = ltb-true a b e in omega arith
lt-true (pos a) (negsuc b) e = absurd (subst T (sym e) tt)
lt-true (negsuc a) (pos b) e = omega arith
lt-true (negsuc a) (negsuc b) e = let h = ltb-true b a e in omega arith

pub lt-false : (a b : ℤ) → lt_z a b ≡ false → P b + N a ≤ P a + N b
lt-false (pos a) (pos b) e = let h = ltb-false a b e in omega arith
lt-false (pos a) (negsuc b) e = omega arith
lt-false (negsuc a) (pos b) e = absurd (subst T e tt)
lt-false (negsuc a) (negsuc b) e = let h = ltb-false b a e in omega arith

pub le-true : (a b : ℤ) → le_z a b ≡ true → P a + N b ≤ P b + N a
le-true (pos a) (pos b) e = let h = leb-true a b e in omega arith
le-true (pos a) (negsuc b) e = absurd (subst T (sym e) tt)
le-true (negsuc a) (pos b) e = omega arith
le-true (negsuc a) (negsuc b) e = let h = leb-true b a e in omega arith

pub le-false : (a b : ℤ) → le_z a b ≡ false → P b + N a < P a + N b
le-false (pos a) (pos b) e = let h = leb-false a b e in omega arith
le-false (pos a) (negsuc b) e = omega arith
le-false (negsuc a) (pos b) e = absurd (subst T e tt)
le-false (negsuc a) (negsuc b) e = let h = leb-false b a e in omega arith

pub make-lt-true : (a b : ℤ) → P a + N b < P b + N a → lt_z a b ≡ true
make-lt-true (pos a) (pos b) h = lt-ltb a b (omega arith)
make-lt-true (pos a) (negsuc b) h = absurd (omega arith)
make-lt-true (negsuc a) (pos b) h = refl
make-lt-true (negsuc a) (negsuc b) h = lt-ltb b a (omega arith)

pub make-lt-false : (a b : ℤ) → P b + N a ≤ P a + N b → lt_z a b ≡ false
make-lt-false (pos a) (pos b) h = le-ltb a b (omega arith)
make-lt-false (pos a) (negsuc b) h = refl
make-lt-false (negsuc a) (pos b) h = absurd (omega arith)
make-lt-false (negsuc a) (negsuc b) h = le-ltb b a (omega arith)

pub make-le-true : (a b : ℤ) → P a + N b ≤ P b + N a → le_z a b ≡ true
make-le-true (pos a) (pos b) h = le-leb a b (omega arith)
make-le-true (pos a) (negsuc b) h = absurd (omega arith)
make-le-true (negsuc a) (pos b) h = refl
make-le-true (negsuc a) (negsuc b) h = le-leb b a (omega arith)

pub make-le-false : (a b : ℤ) → P b + N a < P a + N b → le_z a b ≡ false
make-le-false (pos a) (pos b) h = lt-leb a b (omega arith)
make-le-false (pos a) (negsuc b) h = refl
make-le-false (negsuc a) (pos b) h = absurd (omega arith)
make-le-false (negsuc a) (negsuc b) h = lt-leb b a (omega arith)

-- ---- the order
pub ≤-read : {a b : ℤ} → a ≤ℤ b → P a + N b ≤ P b + N a
≤-read {a} {b} h = go a b h.le
  where
    go : (a b : ℤ) → T (le_z a b) → P a + N b ≤ P b + N a
    go (pos a) (pos b) t = let h = leb→le a b t in omega arith
    go (pos a) (negsuc b) t = absurd t
    go (negsuc a) (pos b) t = omega arith
    go (negsuc a) (negsuc b) t = let h = leb→le b a t in omega arith

pub ≤-make : (a b : ℤ) → P a + N b ≤ P b + N a → a ≤ℤ b
≤-make a b h = record { le = subst T (sym (make-le-true a b h)) tt }

pub <-read : {a b : ℤ} → a <ℤ b → P a + N b < P b + N a
<-read {a} {b} h = go a b h.lt
  where
    go : (a b : ℤ) → T (lt_z a b) → P a + N b < P b + N a
    go (pos a) (pos b) t = let h = ltb→lt a b t in omega arith
    go (pos a) (negsuc b) t = absurd t
    go (negsuc a) (pos b) t = omega arith
    go (negsuc a) (negsuc b) t = let h = ltb→lt b a t in omega arith

pub <-make : (a b : ℤ) → P a + N b < P b + N a → a <ℤ b
<-make a b h = record { lt = subst T (sym (make-lt-true a b h)) tt }

-- ---- an i64
pub fit-make : (z : ℤ) → P z + N z < 2 ^ 63 → SFits w64 z
fit-make (pos n) h = record { sfits = omega arith }
fit-make (negsuc n) h = record { sfits = omega arith }

pub fit-size : {z : ℤ} → SFits w64 z → P z + N z ≤ 2 ^ 63
fit-size {z = pos n} f = omega arith
fit-size {z = negsuc n} f = omega arith

-- what the machine reads back from a signed local's bits. `back c.fits.x`; of a call's result, `back' c.f.result c.f.ok`
pub back : {z : ℤ} → SFits w64 z → to_z w64 (of_z w64 z) ≡ z
back {z} f = L.to_z-of_z w64 z f

pub back' : (z : ℤ) → mag z < 2 ^ 63 → to_z w64 (of_z w64 z) ≡ z
back' z h = L.to_z-of_z w64 z (record { sfits = h })

-- bits below 2^63 are the number itself: `n as i64` of an unsigned n
pub of-nat : (n : ℕ) → n < 2 ^ 63 → to_z w64 n ≡ pos n
of-nat n h = back {z = pos n} (record { sfits = h })

pub fit-sum : (a b : ℤ) → P a + N a + P b + N b < 2 ^ 63 → SFits w64 (a +ℤ b)
fit-sum a b h = fit-make (a +ℤ b) (omega (arith, sum a b))

pub fit-dif : (a b : ℤ) → P a + N a + P b + N b < 2 ^ 63 → SFits w64 (a -ℤ b)
fit-dif a b h = fit-make (a -ℤ b) (omega (arith, dif a b))

-- the size of a number
pub abs : (z : ℤ) → nat_abs z ≡ P z + N z
abs (pos n) = omega arith
abs (negsuc n) = omega arith

-- `z as u64`, of a z that is not negative
pub cast-make : (z : ℤ) → (N z ≡ 0) × (P z < 2 ^ 64) → T (non_neg z) × Fits w64 (nat_abs z)
cast-make (pos n) h = (tt, record { fits = h.1 })
cast-make (negsuc n) h = absurd (omega arith)

-- `(a - b) as u64`, of a b that is not above a
pub cast-dif : (a b : ℤ) → P b + N a ≤ P a + N b → P a + N a + P b + N b < 2 ^ 64 → T (non_neg (a -ℤ b)) × Fits w64 (nat_abs (a -ℤ b))
cast-dif a b h k = cast-make (a -ℤ b) (omega (arith, dif a b, apart (a -ℤ b)))

-- ---- the lesser and the greater of two
-- by cases on a test
pub if-ind : {X : Type 0} (c : Bool) (x y : X) (Q : X → Type 0) → (c ≡ true → Q x) → (c ≡ false → Q y) → Q (cond c x y)
if-ind true x y Q f g = f refl
if-ind false x y Q f g = g refl

pub record Min (a b m : ℤ) : Type 0 where
  pub p : P m ≡ min (P a) (P b)
  pub n : N m ≡ max (N a) (N b)

pub record Max (a b m : ℤ) : Type 0 where
  pub p : P m ≡ max (P a) (P b)
  pub n : N m ≡ min (N a) (N b)

pub least : (a b : ℤ) → Min a b (min_z a b)
least a b = if-ind (lt_z b a) b a (λ z. Min a b z)
    (λ t. let h = lt-true b a t in omega (arith, apart a, apart b)) (λ t. let h = lt-false b a t in omega (arith, apart a, apart b))

pub most : (a b : ℤ) → Max a b (max_z a b)
most a b = if-ind (lt_z a b) b a (λ z. Max a b z)
    (λ t. let h = lt-true a b t in omega (arith, apart a, apart b)) (λ t. let h = lt-false a b t in omega (arith, apart a, apart b))

-- ---- cases. In each arm omega has the order as a hypothesis
pub cases : (a b : ℕ) {G : Type 0} → (a ≤ b → G) → (b < a → G) → G
cases a b {G} f g = go (leb a b) refl
  where
    go : (t : Bool) → leb a b ≡ t → G
    go true e = f (leb-true a b e)
    go false e = g (leb-false a b e)

pub cases_z : (a b : ℤ) {G : Type 0} → (P a + N b ≤ P b + N a → G) → (P b + N a < P a + N b → G) → G
cases_z a b f g = cases (P a + N b) (P b + N a) f g

-- ---- the distance of two
-- at least the difference, either way
pub record Gap (x n : ℤ) (g : ℕ) : Type 0 where
  pub r : P x + N n ≤ P n + N x + g
  pub l : P n + N x ≤ P x + N n + g

pub gap-ge : (x n : ℤ) → Gap x n (gap x n)
unfolding gap
gap-ge x n = omega (arith, dif x n, abs (x -ℤ n))

-- and it is the difference, by the order
pub gap-r : (x n : ℤ) → P n + N x ≤ P x + N n → gap x n + (P n + N x) ≡ P x + N n
unfolding gap
gap-r x n h = omega (arith, dif x n, abs (x -ℤ n), apart (x -ℤ n))

pub gap-l : (x n : ℤ) → P x + N n ≤ P n + N x → gap x n + (P x + N n) ≡ P n + N x
unfolding gap
gap-l x n h = omega (arith, dif x n, abs (x -ℤ n), apart (x -ℤ n))

-- from either end
pub gap-turn : (x n : ℤ) → gap x n ≡ gap n x
gap-turn x n = cases_z x n (λ h. omega (arith, gap-l x n h, gap-r n x h)) (λ h. omega (arith, gap-r x n (omega arith), gap-l n x (omega arith)))

-- ---- the sets
pub ruleset reads = (eq-read, lt-true, lt-false, le-true, le-false, ≤-read, <-read, fit-size)

pub ruleset makes = (eq-make, make-lt-true, make-lt-false, make-le-true, make-le-false, ≤-make, <-make)

pub ruleset ints = (reads, makes)

-- ---- what is added to 0
pub plain : (n : ℕ) → pos 0 +ℤ pos n ≡ pos n
plain n = omega (arith, ints, sum (pos 0) (pos n))
