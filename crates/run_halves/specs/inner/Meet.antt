-- Where two halves of a run overlap: the test at a place, where they meet, and their join.
use Rattle.std.specs.Prelude.{◌≡◌, Bool, true, false, cond, List, ◌++◌, ℕ, ◌+◌, ◌-◌, ◌<◌, ltb, length, take, drop, get_or, ℤ, pos, ◌-ℤ◌}
use Rattle.std.specs.Int.Signed.{lt_z}
use Rattle.ints.specs.Ints.{P, ◌⊏◌}
use Rattle.run.specs.inner.Bisection.{cut_at, raise_to, Bisected}
use Rattle.ints.specs.Lists.{sum}
use Rattle.run_columns.specs.inner.Counts.{Around, Beside, beyond, up_to}
use Rattle.run_columns.specs.inner.Columns.{Columns}

-- A cut after the first k boxes, which have n neighbours.
pub record Cut (k n : ℕ) (zs : List ℤ) (cs : List ℕ) (ns : List ℤ) : Type 0 where
  pub columns : Columns zs cs ns
  pub some : 0 < k
  pub others : k < length zs
  pub before : n ≡ sum (take k cs)

-- The test at m: the ratings of those at or left of m are strictly more than of those right of it. Of the boxes it is more_up_to (proofs/ByHalves.antt, more-is).
unfoldable pub more : ℕ → ℕ → List ℤ → List ℕ → List ℤ → List ℕ → ℤ → Bool
more k n zs cs ns ws m =
    ltb (beyond true (take k zs) (take k cs) (take n ns) (take n ws) m + beyond false (drop k zs) (drop k cs) (drop n ns) (drop n ws) m)
    (up_to true (take k zs) (take k cs) (take n ns) (take n ws) m + up_to false (drop k zs) (drop k cs) (drop n ns) (drop n ws) m)

-- t is the outcome of the test at all of them.
pub record Tests (k n : ℕ) (zs : List ℤ) (cs : List ℕ) (ns : List ℤ) (ws : List ℕ) (m : ℤ) (back far : ℕ) (t : Bool) (b f : ℕ) : Type 0 where
  pub around : Around back far b f
  pub tests : (x : ℤ) → Beside m b f x → t ≡ more k n zs cs ns ws x

-- The last position of the left half, the first of the right one, and by how much they overlap.
abbrev pub last_before : ℕ → List ℤ → ℤ
last_before k zs = get_or zs (k - 1) (pos 0)

abbrev pub first_after : ℕ → List ℤ → ℤ
first_after k zs = get_or zs k (pos 0)

abbrev pub overlap : ℕ → List ℤ → ℕ
overlap k zs = P (last_before k zs -ℤ first_after k zs)

-- Halves that overlap meet at m: the test holds there, or it is the right end, and fails just before, or it is the left end.
abbrev pub MeetAt : ℕ → ℕ → List ℤ → List ℕ → List ℤ → List ℕ → ℤ → Type 0
MeetAt k n zs cs ns ws m = Bisected (λ x. more k n zs cs ns ws x) (first_after k zs) (overlap k zs) m

-- The join: where they overlap, the left half is cut at such a place and the right half raised to it.
pub record Joined (k n : ℕ) (zs : List ℤ) (cs : List ℕ) (ns : List ℤ) (ws : List ℕ) (out : List ℤ) : Type 0 where
  pub place : ℤ
  pub meets : first_after k zs ⊏ last_before k zs → MeetAt k n zs cs ns ws place
  pub outcome : out ≡ cond (lt_z (first_after k zs) (last_before k zs)) (cut_at place (take k zs) ++ raise_to place (drop k zs)) zs
