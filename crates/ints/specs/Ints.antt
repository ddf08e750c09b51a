-- Integers as this project writes them: the two parts of a number, its order, the lesser and the greater of two, and how far
-- apart two stand. Positions are integers; the laws that let omega read them are in proofs/Laws.antt.
use Rattle.std.specs.Prelude.{cond, List, ℕ, suc, ◌+◌, ◌≤◌, ◌<◌, get_or, ℤ, pos, negsuc, ◌-ℤ◌, nat_abs}
use Rattle.std.specs.Int.Signed.{lt_z}

-- The positive and the negative part: z is P z - N z, and one of them is 0.
abbrev pub P : ℤ → ℕ
P (pos n) = n
P (negsuc n) = 0

abbrev pub N : ℤ → ℕ
N (pos n) = 0
N (negsuc n) = suc n

-- How far a number is from 0: nat_abs, as omega reads it.
abbrev pub size : ℤ → ℕ
size z = P z + N z

-- The order, as an inequality between natural numbers.
infix 40 ◌⊑◌ ◌⊏◌
abbrev pub ◌⊑◌ : ℤ → ℤ → Type 0
a ⊑ b = P a + N b ≤ P b + N a

abbrev pub ◌⊏◌ : ℤ → ℤ → Type 0
a ⊏ b = P a + N b < P b + N a

-- The lesser and the greater of two.
abbrev pub min_z : ℤ → ℤ → ℤ
min_z a b = cond (lt_z b a) b a

abbrev pub max_z : ℤ → ℤ → ℤ
max_z a b = cond (lt_z a b) b a

-- How far apart two stand.
unfoldable pub gap : ℤ → ℤ → ℕ
gap a b = nat_abs (a -ℤ b)

-- No number is further than m from 0.
pub record SizedTo (m : ℕ) (xs : List ℤ) : Type 0 where
  pub each : (i : ℕ) → size (get_or xs i (pos 0)) ≤ m
