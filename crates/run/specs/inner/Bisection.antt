-- Placing one run by bisection for the meeting place of two halves.
use Rattle.std.specs.Prelude.{◌≡◌, Bool, true, false, cond, List, [], ◌∷◌, ◌++◌, ℕ, zero, suc, ◌+◌, ◌≤◌, ◌<◌, ◌-◌, ◌/◌, length, take, drop, ltb, ℤ, pos, ◌+ℤ◌, ◌-ℤ◌}
use Rattle.std.specs.Int.Signed.{lt_z}
use Rattle.ints.specs.Ints.{P, N, ◌⊑◌, ◌⊏◌, min_z, max_z}
use Rattle.run.specs.Run.{Bound, total_rating, Box, start_of, first_of, last_of}
use Rattle.run.specs.inner.Limits.{clamp}
use Rattle.run.specs.inner.Coordinates.{rated_up_to}

unfoldable pub cut_at : ℤ → List ℤ → List ℤ
cut_at m [] = []
cut_at m (x ∷ xs) = min_z x m ∷ cut_at m xs

unfoldable pub raise_to : ℤ → List ℤ → List ℤ
raise_to m [] = []
raise_to m (y ∷ ys) = max_z y m ∷ raise_to m ys

-- The first place from b on where the test holds, if it holds from there on, at most b + w. The first number is at least w.
unfoldable pub bisect : (ℤ → Bool) → ℕ → ℤ → ℕ → ℤ
bisect t zero b w = b
bisect t (suc f) b zero = b
bisect t (suc f) b (suc w) =
    let h = suc w / 2 in
    let l = bisect t f b h in
    let r = bisect t f (b +ℤ pos (suc h)) (w - h) in
    cond (t (b +ℤ pos h)) l r

-- what is known of its outcome, whatever the test
pub record Bisected (t : ℤ → Bool) (b : ℤ) (w : ℕ) (m : ℤ) : Type 0 where
  pub low : b ⊑ m
  pub high : P m + N b ≤ P b + N m + w
  pub holds : P m + N b < P b + N m + w → t m ≡ true
  pub fails : b ⊏ m → t (m -ℤ pos 1) ≡ false

-- The test at m: over left boxes that stand right of m and right boxes that stand at or left of m, the ratings of the neighbours at or
-- left of m are strictly more than those of the neighbours right of it.
unfoldable pub left_up_to : List Box → List ℤ → ℤ → ℕ
left_up_to [] xs m = 0
left_up_to (b ∷ bs) [] m = 0
left_up_to (b ∷ bs) (x ∷ xs) m = cond (lt_z m x) (rated_up_to m b.near) 0 + left_up_to bs xs m

unfoldable pub left_beyond : List Box → List ℤ → ℤ → ℕ
left_beyond [] xs m = 0
left_beyond (b ∷ bs) [] m = 0
left_beyond (b ∷ bs) (x ∷ xs) m = cond (lt_z m x) (total_rating b.near - rated_up_to m b.near) 0 + left_beyond bs xs m

unfoldable pub right_up_to : List Box → List ℤ → ℤ → ℕ
right_up_to [] ys m = 0
right_up_to (b ∷ bs) [] m = 0
right_up_to (b ∷ bs) (y ∷ ys) m = cond (lt_z m y) 0 (rated_up_to m b.near) + right_up_to bs ys m

unfoldable pub right_beyond : List Box → List ℤ → ℤ → ℕ
right_beyond [] ys m = 0
right_beyond (b ∷ bs) [] m = 0
right_beyond (b ∷ bs) (y ∷ ys) m = cond (lt_z m y) 0 (total_rating b.near - rated_up_to m b.near) + right_beyond bs ys m

abbrev pub more_up_to : List Box → List Box → List ℤ → List ℤ → ℤ → Bool
more_up_to cs bs xs ys m = ltb (left_beyond cs xs m + right_beyond bs ys m) (left_up_to cs xs m + right_up_to bs ys m)

unfoldable pub meeting_place : List Box → List Box → List ℤ → List ℤ → ℤ
meeting_place cs bs xs ys = let n = P (last_of xs -ℤ first_of ys) in bisect (λ m. more_up_to cs bs xs ys m) n (first_of ys) n

unfoldable pub join_fast : List Box → List Box → List ℤ → List ℤ → List ℤ
join_fast cs bs xs ys = let m = meeting_place cs bs xs ys in cond (lt_z (first_of ys) (last_of xs)) (cut_at m xs ++ raise_to m ys) (xs ++ ys)

unfoldable pub place_fast : Bound → Bound → ℕ → List Box → List ℤ
place_fast L H zero bs = []
place_fast L H (suc n) [] = []
place_fast L H (suc n) (b ∷ []) = clamp L H (start_of b.old b.near) ∷ []
place_fast L H (suc n) (b ∷ c ∷ bs) =
    let k = length (b ∷ c ∷ bs) / 2 in
    let l = take k (b ∷ c ∷ bs) in
    let r = drop k (b ∷ c ∷ bs) in
    join_fast l r (place_fast L H n l) (place_fast L H n r)
