-- Laws of members: of an element by its place, of images, and of functions that agree on them. Assumes nothing.
use Prim.Native.Nat.{ℕ, zero, suc, ◌<◌}
use mathlib.Core.Path.{◌≡◌, refl, ap}
use mathlib.Core.Logic.{inl, inr}
use mathlib.Core.List.{List, [], ◌∷◌, map}
use native.Mathlib.Omega.{arith}
use lib.ListN.{length, get_or}
use Rattle.ints.specs.inner.Members.{Mem}

pub get_or-mem : {A : Type 0} (xs : List A) (i : ℕ) (d : A) → i < length xs → Mem (get_or xs i d) xs
get_or-mem [] i d h = absurd (omega arith)
get_or-mem (x ∷ xs) zero d h = inl refl
get_or-mem (x ∷ xs) (suc i) d h = inr (get_or-mem xs i d (omega arith))

module _ {A B : Type 0} (f : A → B) where
  pub mem-map : (xs : List A) (x : A) → Mem x xs → Mem (f x) (map f xs)
  mem-map [] x m = absurd m
  mem-map (y ∷ ys) x (inl e) = inl (ap f e)
  mem-map (y ∷ ys) x (inr m) = inr (mem-map ys x m)

  pub map-mem : (xs : List A) (y : B) → Mem y (map f xs) → (x : A) × Mem x xs × (y ≡ f x)
  map-mem [] y m = absurd m
  map-mem (x ∷ xs) y (inl e) = (x, inl refl, e)
  map-mem (x ∷ xs) y (inr m) = let r = map-mem xs y m in (r.0, inr r.1, r.2)

pub map-agree : {A B : Type 0} (f g : A → B) (xs : List A) → ((x : A) → Mem x xs → f x ≡ g x) → map f xs ≡ map g xs
map-agree f g [] h = refl
map-agree f g (x ∷ xs) h = rw (h x (inl refl), map-agree f g xs (λ y m. h y (inr m)))

pub map-stays : {A : Type 0} (f : A → A) (xs : List A) → ((x : A) → Mem x xs → f x ≡ x) → map f xs ≡ xs
map-stays f [] h = refl
map-stays f (x ∷ xs) h = rw (h x (inl refl), map-stays f xs (λ y m. h y (inr m)))
