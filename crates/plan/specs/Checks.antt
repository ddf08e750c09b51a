-- Checks 3 to 6 of document 01, each a question about a plan's data: whether it passes.
use Rattle.std.specs.Prelude.{Bool, true, false, cond, not, ◌&&◌, ◌||◌, List, [], ◌∷◌, ℕ, ◌+◌, ltb, eqb, length}
use Rattle.ints.specs.Refusals.{Test, check}
use Rattle.plan.specs.Plan.{PlanData, vertex_count, is_via, level_of, numbers}
use Rattle.plan.specs.Segments.{Segment, segments_of, above_in, below_in, inner_segments}

-- Whether a test holds of every member of a list, and of some member.
unfoldable pub every : {A : Type 0} → (A → Bool) → List A → Bool
every t [] = true
every t (x ∷ xs) =
    let more = every t xs in
    cond (t x) more false

unfoldable pub any : {A : Type 0} → (A → Bool) → List A → Bool
any t [] = false
any t (x ∷ xs) =
    let more = any t xs in
    cond (t x) true more

-- 3: "A segment whose A or B is no vertex, or B is not one level below A."
abbrev pub goes_one_down : PlanData → Segment → Bool
goes_one_down p s =
    let one = eqb (level_of p s.lower) (level_of p s.upper + 1) in
    ltb s.upper (vertex_count p) && ltb s.lower (vertex_count p) && one

unfoldable pub check3 : PlanData → Bool
check3 p = every (goes_one_down p) (segments_of p)

-- 4: "Segments not strictly rising by A, then B."
abbrev pub comes_before : Segment → Segment → Bool
comes_before s t = ltb s.upper t.upper || (eqb s.upper t.upper && ltb s.lower t.lower)

unfoldable pub rising : List Segment → Bool
rising [] = true
rising (s ∷ []) = true
rising (s ∷ t ∷ ss) =
    let more = rising (t ∷ ss) in
    cond (comes_before s t) more false

unfoldable pub check4 : PlanData → Bool
check4 p = rising (segments_of p)

-- 5: "A via without exactly one segment up and one down."
unfoldable pub is_through : PlanData → List Segment → ℕ → Bool
is_through p ss v =
    let up = eqb (length (above_in ss v)) 1 in
    let down = eqb (length (below_in ss v)) 1 in
    let both = up && down in
    cond (is_via p v) both true

unfoldable pub check5 : PlanData → Bool
check5 p = let ss = segments_of p in every (is_through p ss) (numbers 0 (vertex_count p))

-- 6: "Two inner segments (via to via) between the same levels whose ends stand in opposite orders."
unfoldable pub crosses : PlanData → Segment → Segment → Bool
crosses p s t =
    let level = eqb (level_of p s.upper) (level_of p t.upper) in
    cond (ltb s.upper t.upper && ltb t.lower s.lower) level false

unfoldable pub check6 : PlanData → Bool
check6 p = let inner = inner_segments p in not (any (λ s. any (crosses p s) inner) inner)

-- 3 to 6 in their order.
unfoldable pub checks_of : PlanData → List Test
checks_of p = check 3 (check3 p) ∷ check 4 (check4 p) ∷ check 5 (check5 p) ∷ check 6 (check6 p) ∷ []

-- Those of a plan that may arrive tangled: the second way of loading "skips check 6".
unfoldable pub tangled_checks_of : PlanData → List Test
tangled_checks_of p = check 3 (check3 p) ∷ check 4 (check4 p) ∷ check 5 (check5 p) ∷ []
