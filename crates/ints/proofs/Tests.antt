-- Laws of boolean tests: by cases of one, two that must both hold, and several that hold one after another. Assumes nothing.
use mathlib.Core.Path.{◌≡◌, refl}
use mathlib.Core.Bool.{Bool, true, false, cond, ◌&&◌, false≢true}
use mathlib.Core.List.{List, [], ◌∷◌}
use Prim.Native.Nat.{ℕ, zero, suc}
use lib.ListN.{get_or}

-- by cases of a test
pub test : {X : Type 0} (c : Bool) → (c ≡ true → X) → (c ≡ false → X) → X
test true f g = f refl
test false f g = g refl

-- two that hold, each of two that hold, and the same where the second is asked after the first
infixl 35 ◌and◌
pub ◌and◌ : {a b : Bool} → a ≡ true → b ≡ true → (a && b) ≡ true
e and f = rw (e, f)

pub and_left : (a b : Bool) → (a && b) ≡ true → a ≡ true
and_left true b e = refl
and_left false b e = e

pub and_right : (a b : Bool) → (a && b) ≡ true → b ≡ true
and_right true b e = e
and_right false b e = absurd (false≢true e)

pub cond-left : (a b : Bool) → cond a b false ≡ true → a ≡ true
cond-left true b e = refl
cond-left false b e = e

pub cond-right : (a b : Bool) → cond a b false ≡ true → b ≡ true
cond-right true b e = e
cond-right false b e = absurd (false≢true e)

-- a row of tests
pub and_assoc : (a b c : Bool) → (a && (b && c)) ≡ (a && b && c)
and_assoc true b c = refl
and_assoc false b c = refl

pub and-true : (a : Bool) → (a && true) ≡ a
and-true true = refl
and-true false = refl

pub and-false : (a : Bool) → (a && false) ≡ false
and-false true = refl
and-false false = refl

-- tests one after another, and each of them, if all hold
abbrev pub conj : Bool → List Bool → Bool
conj a [] = a
conj a (b ∷ bs) = conj (a && b) bs

pub conj-at : (a : Bool) (bs : List Bool) → conj a bs ≡ true → (i : ℕ) → get_or (a ∷ bs) i true ≡ true
conj-at a [] h zero = h
conj-at a [] h (suc i) = refl
conj-at a (b ∷ bs) h zero = and_left a b (conj-at (a && b) bs h zero)
conj-at a (b ∷ bs) h (suc zero) = and_right a b (conj-at (a && b) bs h zero)
conj-at a (b ∷ bs) h (suc (suc i)) = conj-at (a && b) bs h (suc i)
