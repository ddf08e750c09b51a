-- Bytes of a name one by one.
use mathlib.Core.Path.{◌≡◌, refl}
use mathlib.Core.Bool.{false}
use mathlib.Core.List.{List, [], ◌∷◌}
use Prim.Native.Nat.{ℕ}
use Rattle.std.specs.Prelude.{fold}
use Rattle.picture_names.specs.Chars.{seen_more, seen_after, is_name}
use Rattle.picture_names.specs.declared.types.Seen.{Seen}

-- one byte after another, as `fold` goes
pub after_is : (s : Seen) (name : List ℕ) → fold seen_more s name ≡ seen_after s name
unfolding seen_after
after_is s [] = refl
after_is s (b ∷ bs) = after_is (seen_more s b) bs

-- "no accepted name is empty"
pub empty-not : is_name [] ≡ false
unfolding is_name seen_after
empty-not = refl
