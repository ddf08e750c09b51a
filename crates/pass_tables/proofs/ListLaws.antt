-- Laws of lists, as loops over an index meet them. Assumes nothing.
use Prim.Native.Nat.{ℕ, ◌+◌, ◌<◌}
use mathlib.Core.Path.{◌≡◌}
use mathlib.Core.List.{List, ◌∷◌, ◌++◌, append_assoc}
use native.Mathlib.Numerals.{add-one}
use lib.ListN.{length, take, set}
use lib.Seq.{take-suc-set}

module _ {A : Type 0} where
  -- a list whose first v elements are known, and one more of them
  pub take_on : (xs : List A) (v : ℕ) (a : A) (more : List A) → v < length xs → take (v + 1) (set xs v a) ++ more ≡ take v xs ++ a ∷ more
  take_on xs v a more h = rw (add-one v, take-suc-set xs v a h, append_assoc)
