-- Placements: place-run's, those of demand 3's words, and vertex by vertex, each the same. Assumes nothing.
use mathlib.Core.Path.{◌≡◌, refl, ◌∙◌, ap, subst}
use mathlib.Core.Bool.{Bool, true, false, cond, ◌&&◌}
use mathlib.Core.List.{List, [], ◌∷◌, ◌++◌, map, map-append}
use mathlib.Core.Option.{Option, none, some}
use Prim.Native.Nat.{ℕ, zero, suc, ◌+◌, ◌-◌, ◌≤◌, ◌<◌}
use native.Mathlib.Omega.{arith}
use lib.Dec.{eqb, eqb-zero-suc, eqb-suc-zero, eqb-suc-suc}
use borrow.Author.Tests.{eqb-true}
use lib.ListN.{length, get_or, length-append, length-map}
use lib.IntN.{ℤ, pos, ◌-ℤ◌}
use lib.Signed.{le_z}
use Rattle.ints.specs.Ints.{P, N, ◌⊑◌}
use Rattle.ints.proofs.Laws.{dif, le-true, make-le-true, cases}
use Rattle.run.specs.Run.{Bound, free, at, Box, span}
use Rattle.run.specs.Words.{apart, is_placement, is_possible}
use Rattle.ints.proofs.Tests.{and_left, and_right}
use Rattle.plan.specs.Plan.{PlanData, numbers}
use Rattle.passes.specs.Runs.{Run, as_list, members}
use Rattle.passes.specs.State.{State, position_of, put}
use Rattle.passes.specs.Passes.{bound_at, distance_from, boxes_at}
use Rattle.passes.specs.Words.{far_apart}
use Rattle.plan.proofs.All.{no_true, cond_both}
use Rattle.plan.proofs.Levels.{length-numbers}
use Rattle.passes.proofs.RunsOn.{left-list, bounds, members-are}
use Rattle.passes.specs.inner.Runs.{LeftEnd, no-left, via-left, RightEnd, no-right, via-right, IsRun}
use Rattle.passes.proofs.Put.{put-out, map-put}

-- ---- place-run's placement is one of positions and distances in a row
abbrev as_position : Bound → List ℤ
as_position free = []
as_position (at x) = x ∷ []

abbrev left_distance : Bound → ℕ → List ℕ
left_distance free d = []
left_distance (at x) d = d ∷ []

distances : List Box → List ℕ
distances bs = map (λ b. b.dist) bs

swap : (s t u : Bool) → s && (t && u) ≡ t && cond s u false
swap true t u = refl
swap false true u = refl
swap false false u = refl

cond_same : (s : Bool) → s ≡ cond s true false
cond_same true = refl
cond_same false = refl

row_at : (x : ℤ) (d : ℕ) (bs : List Box) (rb : Bound) (ys : List ℤ)
    → is_placement (at x) d bs rb ys ≡ eqb (length ys) (length bs) && far_apart (d ∷ distances bs) (x ∷ (ys ++ as_position rb))
unfolding is_placement far_apart distances
row_at x d [] free [] = refl
row_at x d [] (at r) [] = cond_same (le_z (pos d) (r -ℤ x))
row_at x d [] rb (y ∷ ys) = rw (eqb-suc-zero (length ys))
row_at x d (b ∷ bs) rb [] = rw (eqb-zero-suc (length bs))
row_at x d (b ∷ bs) rb (y ∷ ys) = rw (eqb-suc-suc (length ys) (length bs), row_at y b.dist bs rb ys)
    (swap (le_z (pos d) (y -ℤ x)) (eqb (length ys) (length bs)) (far_apart (b.dist ∷ distances bs) (y ∷ (ys ++ as_position rb))))

row : (lb : Bound) (d : ℕ) (bs : List Box) (rb : Bound) (ys : List ℤ)
    → is_placement lb d bs rb ys ≡ eqb (length ys) (length bs) && far_apart (left_distance lb d ++ distances bs) (as_position lb ++ ys ++ as_position rb)
unfolding is_placement far_apart distances
row (at x) d bs rb ys = row_at x d bs rb ys
row free d [] free [] = refl
row free d [] (at r) [] = refl
row free d [] rb (y ∷ ys) = rw (eqb-suc-zero (length ys))
row free d (b ∷ bs) rb [] = rw (eqb-zero-suc (length bs))
row free d (b ∷ bs) rb (y ∷ ys) = rw (eqb-suc-suc (length ys) (length bs)) (row_at y b.dist bs rb ys)

-- a run that has a placement is possible
room : (l r : ℤ) (d : ℕ) (bs : List Box) (ys : List ℤ) → is_placement (at l) d bs (at r) ys ≡ true → P l + N r + (d + span bs) ≤ P r + N l
unfolding is_placement span
room l r d [] [] e = omega (arith, le-true (pos d) (r -ℤ l) e, dif r l)
room l r d [] (y ∷ ys) e = no_true e
room l r d (b ∷ bs) [] e = no_true e
room l r d (b ∷ bs) (y ∷ ys) e = omega (arith, le-true (pos d) (y -ℤ l) (and_left _ _ e), dif y l, room y r b.dist bs ys (and_right (le_z (pos d) (y -ℤ l)) _ e))

pub possible : (lb : Bound) (d : ℕ) (bs : List Box) (rb : Bound) (ys : List ℤ) → is_placement lb d bs rb ys ≡ true → is_possible lb d bs rb ≡ true
possible free d bs rb ys e = refl
possible (at l) d bs free ys e = refl
possible (at l) d bs (at r) ys e = make-le-true (pos (d + span bs)) (r -ℤ l) (omega (arith, dif r l, room l r d bs ys e))

-- ---- the distances in force of neighbouring members
unfoldable pub in_force : List ℕ → List ℕ → List ℕ
in_force ds [] = []
in_force ds (v ∷ []) = []
in_force ds (v ∷ w ∷ ws) = get_or ds v 0 ∷ in_force ds (w ∷ ws)

abbrev from : List ℕ → ℕ → ℕ
from ds v = get_or ds v 0

-- one more at the end makes no difference
far-more : (ds : List ℕ) (a n k : ℕ) (xs : List ℤ) → length xs ≡ n → n ≤ suc k → far_apart (map (from ds) (numbers a k)) xs ≡ far_apart (in_force ds (numbers a n)) xs
unfolding far_apart in_force numbers
far-more ds a n k [] e h = refl
far-more ds a n k (x ∷ []) e h = refl
far-more ds a zero k (x ∷ y ∷ xs) e h = absurd (omega arith)
far-more ds a (suc zero) k (x ∷ y ∷ xs) e h = absurd (omega arith)
far-more ds a (suc (suc n)) zero (x ∷ y ∷ xs) e h = absurd (omega arith)
far-more ds a (suc (suc n)) (suc k) (x ∷ y ∷ xs) e h = ap (λ t. cond (le_z (pos (get_or ds a 0)) (y -ℤ x)) t false) (far-more ds (a + 1) (suc n) k (y ∷ xs) (omega arith) (omega arith))

-- ---- vertex by vertex
abbrev pub Apart : (ℕ → ℤ) → List ℕ → ℕ → Type 0
Apart f ds v = P (f v) + N (f (suc v)) + get_or ds v 0 ≤ P (f (suc v)) + N (f v)

-- such positions do not fall
pub climb : (f : ℕ → ℤ) (ds : List ℕ) (lo hi : ℕ) → ((v : ℕ) → lo ≤ v → suc v < hi → Apart f ds v) → (v n : ℕ) → lo ≤ v → v + n < hi → f v ⊑ f (v + n)
climb f ds lo hi h v zero i j = let e : v ≡ v + 0 = omega arith in subst (λ w. f v ⊑ f w) e (omega arith)
climb f ds lo hi h v (suc n) i j = let e : suc (v + n) ≡ v + suc n = omega arith in subst (λ w. f v ⊑ f w) e (omega (arith, climb f ds lo hi h v n i (omega arith), h (v + n) (omega arith) (omega arith)))

pub far-points : (f : ℕ → ℤ) (ds : List ℕ) (a n : ℕ) → far_apart (in_force ds (numbers a n)) (map f (numbers a n)) ≡ true → (v : ℕ) → a ≤ v → suc v < a + n → Apart f ds v
unfolding far_apart in_force numbers
far-points f ds a zero e v h k = absurd (omega arith)
far-points f ds a (suc zero) e v h k = absurd (omega arith)
far-points f ds a (suc (suc n)) e v h k =
    let b = cond_both (le_z (pos (get_or ds a 0)) (f (a + 1) -ℤ f a)) (far_apart (in_force ds (numbers (a + 1) (suc n))) (map f (numbers (a + 1) (suc n)))) e in
    cases v a
    (λ i. let y : a ≡ v = omega arith in let z : v + 1 ≡ suc v = omega arith in
    let g : le_z (pos (get_or ds v 0)) (f (suc v) -ℤ f v) ≡ true = rw z at (rw y at b.0) in omega (arith, le-true (pos (get_or ds v 0)) (f (suc v) -ℤ f v) g, dif (f (suc v)) (f v)))
    (λ i. far-points f ds (a + 1) (suc n) b.1 v (omega arith) (omega arith))

pub points_far : (f : ℕ → ℤ) (ds : List ℕ) (a n : ℕ) → ((v : ℕ) → a ≤ v → suc v < a + n → Apart f ds v) → far_apart (in_force ds (numbers a n)) (map f (numbers a n)) ≡ true
unfolding far_apart in_force numbers
points_far f ds a zero h = refl
points_far f ds a (suc zero) h = refl
points_far f ds a (suc (suc n)) h = let z : suc a ≡ a + 1 = omega arith in
    let g : le_z (pos (get_or ds a 0)) (f (a + 1) -ℤ f a) ≡ true =
    rw z at (make-le-true (pos (get_or ds a 0)) (f (suc a) -ℤ f a) (omega (arith, h a (omega arith) (omega arith), dif (f (suc a)) (f a)))) in
    rw g (points_far f ds (a + 1) (suc n) (λ v i j. h v (omega arith) (omega arith)))

-- ---- only the boxes of a run move
pub put-still : {p : PlanData} {r : Run} (i : IsRun p r) (ys xs : List ℤ) (v : ℕ) → (i.first ≤ v → v < i.first + i.count → ⊥) → position_of (put r.boxes ys xs) v ≡ position_of xs v
put-still i ys xs v h = ap (λ bs. position_of (put bs ys xs) v) i.boxes ∙ put-out i.first i.count ys xs v h

-- ---- a run's placements, as place-run has them; and its members so far apart, where its boxes are put at ys
abbrev pub is_placement_in : PlanData → ℕ → State → Run → List ℤ → Bool
is_placement_in p q s r ys = is_placement (bound_at s.at r.left) (distance_from s.apart r.left) (boxes_at p q s r.boxes) (bound_at s.at r.right) ys

abbrev pub SpacedAt : {p : PlanData} {r : Run} → IsRun p r → State → List ℤ → Type 0
SpacedAt {r = r} i s ys = (v : ℕ) → i.low ≤ v → suc v < i.high → Apart (position_of (put r.boxes ys s.at)) s.apart v

abbrev pub standing : List ℤ → Run → List ℤ → List ℤ
standing xs r ys = map (position_of xs) (as_list r.left) ++ ys ++ map (position_of xs) (as_list r.right)

bound-list : (xs : List ℤ) (o : Option ℕ) → as_position (bound_at xs o) ≡ map (position_of xs) (as_list o)
bound-list xs none = refl
bound-list xs (some v) = refl

pub length-boxes_at : (p : PlanData) (q : ℕ) (s : State) (vs : List ℕ) → length (boxes_at p q s vs) ≡ length vs
unfolding boxes_at
length-boxes_at p q s [] = refl
length-boxes_at p q s (v ∷ vs) = ap suc (length-boxes_at p q s vs)

distances-at : (p : PlanData) (q : ℕ) (s : State) (vs : List ℕ) → distances (boxes_at p q s vs) ≡ map (from s.apart) vs
unfolding boxes_at distances
distances-at p q s [] = refl
distances-at p q s (v ∷ vs) = ap (λ (ds : List ℕ). get_or s.apart v 0 ∷ ds) (distances-at p q s vs)

left-distances : (xs : List ℤ) (ds : List ℕ) (o : Option ℕ) → left_distance (bound_at xs o) (distance_from ds o) ≡ map (from ds) (as_list o)
left-distances xs ds none = refl
left-distances xs ds (some v) = refl

left-still : {p : PlanData} {b : ℕ} {o : Option ℕ} {low first : ℕ} (f g : ℕ → ℤ) → LeftEnd p b o low first → ((v : ℕ) → suc v ≡ first → f v ≡ g v) → map f (as_list o) ≡ map g (as_list o)
left-still f g (no-left e h) q = refl
left-still f g (via-left {v = v} e h j k) q = ap (λ (x : ℤ). x ∷ []) (q v h)

right-still : {p : PlanData} {b : ℕ} {o : Option ℕ} {past high : ℕ} (f g : ℕ → ℤ) → RightEnd p b o past high → ((v : ℕ) → v ≡ past → f v ≡ g v) → map f (as_list o) ≡ map g (as_list o)
right-still f g (no-right e h) q = refl
right-still f g (via-right {v = v} e h j k) q = ap (λ (x : ℤ). x ∷ []) (q v e)

module _ {p : PlanData} {r : Run} (i : IsRun p r) where
  left-part : as_list r.left ++ numbers i.first i.count ≡ numbers i.low (i.first - i.low + i.count)
  left-part = left-list i.count i.begins

  standing-length : (xs ys : List ℤ) → length ys ≡ i.count → length (standing xs r ys) ≡ i.high - i.low
  standing-length xs ys e = omega (
    arith,
    length-append (map (position_of xs) (as_list r.left) ++ ys) (map (position_of xs) (as_list r.right)),
    length-append (map (position_of xs) (as_list r.left)) ys,
    length-map (as_list r.left) (position_of xs),
    length-map (as_list r.right) (position_of xs),
    e,
    ap length left-part,
    length-append (as_list r.left) (numbers i.first i.count),
    length-numbers i.first i.count,
    length-numbers i.low (i.first - i.low + i.count),
    ap length (members-are i),
    length-append (as_list r.left ++ r.boxes) (as_list r.right),
    length-append (as_list r.left) r.boxes,
    ap length i.boxes,
    length-numbers i.low (i.high - i.low),
  )

  -- place-run's placements are those of the words, with the distances in force
  pub placement-is : (q : ℕ) (s : State) (ys : List ℤ)
      → is_placement_in p q s r ys
      ≡ eqb (length ys) (length r.boxes) && far_apart (in_force s.apart (members r)) (standing s.at r ys)
  placement-is q s ys =
      row (bound_at s.at r.left) (distance_from s.apart r.left) (boxes_at p q s r.boxes) (bound_at s.at r.right) ys
      ∙ rw (length-boxes_at p q s r.boxes, distances-at p q s r.boxes, left-distances s.at s.apart r.left, bound-list s.at r.left, bound-list s.at r.right)
      (go (eqb (length ys) (length r.boxes)) refl)
    where
      go : (t : Bool) → eqb (length ys) (length r.boxes) ≡ t
          → t && far_apart (map (from s.apart) (as_list r.left) ++ map (from s.apart) r.boxes) (standing s.at r ys) ≡ t && far_apart (in_force s.apart (members r)) (standing s.at r ys)
      go false f = refl
      go true f = let b = bounds i in let e : length ys ≡ i.count = eqb-true _ _ f ∙ ap length i.boxes ∙ length-numbers i.first i.count in
          rw (members-are i, i.boxes, ← map-append (from s.apart) (as_list r.left) (numbers i.first i.count), left-part)
          (far-more s.apart i.low (i.high - i.low) (i.first - i.low + i.count) (standing s.at r ys) (standing-length s.at ys e) (omega arith))

  -- and stand where the boxes are put
  pub standing-is : (xs ys : List ℤ) → i.high ≤ length xs → length ys ≡ i.count → standing xs r ys ≡ map (position_of (put r.boxes ys xs)) (members r)
  standing-is xs ys h e = let b = bounds i in let f = position_of (put (numbers i.first i.count) ys xs) in
      rw (
        i.boxes,
        map-append f (as_list r.left ++ numbers i.first i.count) (as_list r.right),
        map-append f (as_list r.left) (numbers i.first i.count),
        map-put i.first i.count ys xs (omega arith) e,
        left-still f (position_of xs) i.begins (λ v e. put-out i.first i.count ys xs v (λ j k. absurd (omega arith))),
        right-still f (position_of xs) i.ends (λ v e. put-out i.first i.count ys xs v (λ j k. absurd (omega arith))),
      )
