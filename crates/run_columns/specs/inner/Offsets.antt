-- Between positions and run coordinates, by columns: the offset o of a box, the sum of the distances before it, is taken from
-- its positions, and put back. ds are the distances from each box to the next member.
use Rattle.std.specs.Prelude.{◌≡◌, List, [], ◌∷◌, ◌++◌, map, ℕ, zero, suc, ◌+◌, ◌≤◌, ◌^◌, length, take, drop, get_or, ℤ, pos, ◌+ℤ◌}
use Rattle.run.specs.inner.Coordinates.{less}
use Rattle.ints.specs.Reach.{reach}
use Rattle.run_columns.specs.inner.Columns.{Sized}

-- the offsets of r boxes, the first having offset o
unfoldable pub offsets_from : ℕ → List ℕ → ℕ → List ℕ
offsets_from o ds zero = []
offsets_from o ds (suc r) = o ∷ offsets_from (o + get_or ds 0 0) (drop 1 ds) r

-- each position less its box's offset,
unfoldable pub less_offsets : List ℕ → List ℤ → List ℤ
less_offsets [] xs = []
less_offsets (o ∷ os) [] = []
less_offsets (o ∷ os) (x ∷ xs) = less o x ∷ less_offsets os xs

-- of all neighbours, those of a box less its offset,
unfoldable pub less_near : List ℕ → List ℕ → List ℤ → List ℤ
less_near [] cs ns = []
less_near (o ∷ os) [] ns = []
less_near (o ∷ os) (c ∷ cs) ns = map (less o) (take c ns) ++ less_near os cs (drop c ns)

-- and put back
unfoldable pub plus_offsets : List ℕ → List ℤ → List ℤ
plus_offsets [] zs = []
plus_offsets (o ∷ os) [] = []
plus_offsets (o ∷ os) (z ∷ zs) = (z +ℤ pos o) ∷ plus_offsets os zs

-- "within ±2^40", and the sum of all distances of a run: at most 65 of at most 2^41
abbrev pub Near : List ℤ → Type 0
Near xs = Sized reach xs

abbrev pub max_offset : ℕ
max_offset = 2 ^ 48

-- An offset for each box.
pub record OffsetsOf (os : List ℕ) (zs : List ℤ) : Type 0 where
  pub boxes : length os ≡ length zs
  pub small : (i : ℕ) → get_or os i 0 ≤ max_offset
