-- What a placing writes, vertex by vertex: the boxes' positions, and an open run's distances. Assumes nothing.
use mathlib.Core.Path.{◌≡◌, refl, sym, ◌∙◌, ap}
use mathlib.Core.List.{List, [], ◌∷◌, map}
use Prim.Native.Nat.{ℕ, zero, suc, ◌+◌, ◌≤◌, ◌<◌}
use native.Mathlib.Omega.{arith}
use lib.ListN.{length, get_or, set, length-set}
use lib.Seq.{get_or-set_same, get_or-set_other}
use lib.IntN.{ℤ, pos, ◌-ℤ◌}
use Rattle.ints.specs.Ints.{P}
use Rattle.ints.proofs.Laws.{cases}
use Rattle.plan.specs.Plan.{numbers}
use Rattle.passes.specs.State.{position_of, put, take_on}

pub length-put : (vs : List ℕ) (ys xs : List ℤ) → length (put vs ys xs) ≡ length xs
unfolding put
length-put [] ys xs = refl
length-put (v ∷ vs) [] xs = refl
length-put (v ∷ vs) (y ∷ ys) xs = length-put vs ys (set xs v y) ∙ length-set xs v y

pub put-out : (a m : ℕ) (ys xs : List ℤ) (v : ℕ) → (a ≤ v → v < a + m → ⊥) → position_of (put (numbers a m) ys xs) v ≡ position_of xs v
unfolding put numbers
put-out a zero ys xs v h = refl
put-out a (suc m) [] xs v h = refl
put-out a (suc m) (y ∷ ys) xs v h = put-out (a + 1) m ys (set xs a y) v (λ i j. h (omega arith) (omega arith))
    ∙ get_or-set_other xs a v y (pos 0) (λ e. h (omega arith) (omega arith))

pub put_in : (a m : ℕ) (ys xs : List ℤ) (i : ℕ) → a + m ≤ length xs → length ys ≡ m → i < m → position_of (put (numbers a m) ys xs) (a + i) ≡ get_or ys i (pos 0)
unfolding put numbers
put_in a zero ys xs i h e j = absurd (omega arith)
put_in a (suc m) [] xs i h e j = absurd (omega arith)
put_in a (suc m) (y ∷ ys) xs zero h e j = let z : a + 0 ≡ a = omega arith in
    ap (position_of (put (numbers (a + 1) m) ys (set xs a y))) z ∙ put-out (a + 1) m ys (set xs a y) a (λ i k. absurd (omega arith)) ∙ get_or-set_same xs a y (pos 0) (omega arith)
put_in a (suc m) (y ∷ ys) xs (suc i) h e j = let z : a + suc i ≡ a + 1 + i = omega arith in
    ap (position_of (put (numbers (a + 1) m) ys (set xs a y))) z ∙ put_in (a + 1) m ys (set xs a y) i (omega (arith, length-set xs a y)) (omega arith) (omega arith)

map_get : (f : ℕ → ℤ) (a m : ℕ) (ys : List ℤ) → length ys ≡ m → ((i : ℕ) → i < m → f (a + i) ≡ get_or ys i (pos 0)) → map f (numbers a m) ≡ ys
unfolding numbers
map_get f a zero [] e h = refl
map_get f a zero (y ∷ ys) e h = absurd (omega arith)
map_get f a (suc m) [] e h = absurd (omega arith)
map_get f a (suc m) (y ∷ ys) e h = let z : a ≡ a + 0 = omega arith in
    ap (λ (x : ℤ). x ∷ map f (numbers (a + 1) m)) (ap f z ∙ h 0 (omega arith))
    ∙ ap (λ (l : List ℤ). y ∷ l) (map_get f (a + 1) m ys (omega arith) (λ i j. let w : a + 1 + i ≡ a + suc i = omega arith in ap f w ∙ h (suc i) (omega arith)))

-- the boxes stand at what was put
pub map-put : (a m : ℕ) (ys xs : List ℤ) → a + m ≤ length xs → length ys ≡ m → map (position_of (put (numbers a m) ys xs)) (numbers a m) ≡ ys
map-put a m ys xs h e = map_get (position_of (put (numbers a m) ys xs)) a m ys e (λ i j. put_in a m ys xs i h e j)

-- ---- distances
pub length-take_on : (xs : List ℤ) (vs ds : List ℕ) → length (take_on xs vs ds) ≡ length ds
unfolding take_on
length-take_on xs [] ds = refl
length-take_on xs (v ∷ []) ds = refl
length-take_on xs (v ∷ w ∷ ws) ds = length-take_on xs (w ∷ ws) (set ds v (P (position_of xs w -ℤ position_of xs v))) ∙ length-set ds v _

pub take_out : (xs : List ℤ) (a n : ℕ) (ds : List ℕ) (v : ℕ) → (a ≤ v → suc v < a + n → ⊥) → get_or (take_on xs (numbers a n) ds) v 0 ≡ get_or ds v 0
unfolding take_on numbers
take_out xs a zero ds v h = refl
take_out xs a (suc zero) ds v h = refl
take_out xs a (suc (suc n)) ds v h = take_out xs (a + 1) (suc n) (set ds a (P (position_of xs (a + 1) -ℤ position_of xs a))) v (λ i j. h (omega arith) (omega arith))
    ∙ get_or-set_other ds a v _ 0 (λ e. h (omega arith) (omega arith))

pub take_in : (xs : List ℤ) (a n : ℕ) (ds : List ℕ) (v : ℕ) → a ≤ v → suc v < a + n → v < length ds
    → get_or (take_on xs (numbers a n) ds) v 0 ≡ P (position_of xs (suc v) -ℤ position_of xs v)
unfolding take_on numbers
take_in xs a zero ds v h k j = absurd (omega arith)
take_in xs a (suc zero) ds v h k j = absurd (omega arith)
take_in xs a (suc (suc n)) ds v h k j = let d = P (position_of xs (a + 1) -ℤ position_of xs a) in cases v a
    (λ i. let e : v ≡ a = omega arith in let f : a + 1 ≡ suc v = omega arith in
    take_out xs (a + 1) (suc n) (set ds a d) v (λ i j. absurd (omega arith)) ∙ ap (λ w. get_or (set ds a d) w 0) e ∙ get_or-set_same ds a d 0 (omega arith)
    ∙ ap (λ w. P (position_of xs w -ℤ position_of xs a)) f ∙ ap (λ w. P (position_of xs (suc v) -ℤ position_of xs w)) (sym e))
    (λ i. take_in xs (a + 1) (suc n) (set ds a d) v (omega arith) (omega arith) (omega (arith, length-set ds a d)))
