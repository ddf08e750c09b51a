-- Laws of stores one after another, and of what is asked of every member of a list.
use mathlib.Core.Path.{◌≡◌, refl, ◌∙◌}
use mathlib.Core.Bool.{Bool, true, false, cond, ◌&&◌}
use mathlib.Core.List.{List, [], ◌∷◌, ◌++◌, map, map-append}
use Prim.Native.Nat.{ℕ, suc, ◌+◌, ◌≤◌}
use native.Mathlib.Omega.{arith}
use lib.ListN.{length, set, length-map}
use lib.Seq.{sets, sets-eq}
use Rattle.ints.specs.Lists.{over}
use Rattle.plan.specs.Checks.{every}

module _ {A : Type 0} where
  pub sets-append : (l : List A) (i : ℕ) (xs ys : List A) → sets l i (xs ++ ys) ≡ sets (sets l i xs) (i + length xs) ys
  sets-append l i [] ys = let e : i + 0 ≡ i = omega arith in rw e
  sets-append l i (x ∷ xs) ys = let e : i + suc (length xs) ≡ suc i + length xs = omega arith in rw e (sets-append (set l i x) (suc i) xs ys)

  -- one store more, of a value of each member
  pub sets_more : {B : Type 0} (f : B → A) (l : List A) (i n : ℕ) (xs : List B) (x : B) → n ≡ length xs
      → sets l i (map f (xs ++ x ∷ [])) ≡ set (sets l i (map f xs)) (i + n) (f x)
  sets_more f l i n xs x e =
      rw (map-append f xs (x ∷ []), e) (sets-append l i (map f xs) (f x ∷ []) ∙ rw (length-map xs f))

  -- all of them at the front of an array that has room
  pub sets_over : (l xs : List A) → length xs ≤ length l → sets l 0 xs ≡ over xs l
  sets_over l xs h = let e : 0 + length xs ≡ length xs = omega arith in sets-eq xs l 0 (omega arith) ∙ rw e

  pub every_more : (t : A → Bool) (xs : List A) (x : A) → every t (xs ++ x ∷ []) ≡ every t xs && t x
  unfolding every
  every_more t [] x = last (t x)
    where
      last : (b : Bool) → cond b true false ≡ b
      last true = refl
      last false = refl
  every_more t (y ∷ xs) x = rw (every_more t xs x) (both (t y))
    where
      both : (b : Bool) → cond b (every t xs && t x) false ≡ cond b (every t xs) false && t x
      both true = refl
      both false = refl
