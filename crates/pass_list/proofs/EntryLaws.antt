-- Laws of a part that is read off a list. Assumes nothing.
use Prim.Native.Nat.{ℕ, zero, suc, ◌+◌, ◌≤◌, ◌<◌}
use mathlib.Core.Path.{◌≡◌, refl, sym, ◌∙◌, ap}
use mathlib.Core.List.{List, ◌∷◌}
use native.Mathlib.Omega.{arith}
use native.Mathlib.Numerals.{add-one}
use lib.IntN.{ℤ, pos}
use lib.ListN.{length, take, drop, get_or}
use lib.Seq.{drop-cons}
use Rattle.passes.specs.State.{position_of}
use Rattle.pass_tables.specs.inner.Tables.{along}

pub along-part : (at : List ℤ) (from n : ℕ) → from + n ≤ length at → take n (drop from at) ≡ along (position_of at) from n
unfolding along
along-part at from zero h = refl
along-part at from (suc n) h =
    let k : from < length at = omega arith in
    rw (drop-cons at from (pos 0) k) (ap (λ (l : List ℤ). get_or at from (pos 0) ∷ l) (ap (λ (m : ℕ). take n (drop m at)) (sym (add-one from)) ∙ along-part at (from + 1) n (omega arith)))
