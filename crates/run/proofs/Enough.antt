-- The recursions of placing a run end before the numbers that bound them do: greater numbers change nothing. Each half step of a
-- join takes one off what the halves lack, and each half of a run is shorter. Assumes nothing.
use mathlib.Core.Path.{◌≡◌, refl, sym, ◌∙◌, ap}
use mathlib.Core.Bool.{Bool, cond}
use mathlib.Core.List.{List, [], ◌∷◌, ◌++◌}
use Prim.Native.Nat.{ℕ, zero, suc, ◌+◌, ◌/◌, ◌≤◌, ◌<◌}
use native.Mathlib.Omega.{arith}
use lib.ListN.{length, take, drop, length-take, length-drop}
use lib.IntN.{ℤ, pos, ◌+ℤ◌, ◌-ℤ◌}
use Rattle.ints.specs.Ints.{P}
use Rattle.ints.proofs.Laws.{sum, dif, eq-read, apart, cases, make-lt-false}
use Rattle.run.specs.Run.{Bound, Box, span, first_of, last_of, last_dist}
use Rattle.run.specs.Join.{too_near, push_left, push_right, resistance, left_forbids, right_forbids, strictly_less, join, missing}
use Rattle.run.specs.Place.{place_boxes, place_run}
use Rattle.run.proofs.Optimal.{length-left, length-right}

-- ---- a half step
last_more : (x : ℤ) (xs : List ℤ) → 0 < length xs → last_of (x ∷ xs) ≡ last_of xs
unfolding last_of
last_more x [] h = absurd (omega arith)
last_more x (y ∷ xs) h = refl

last-left : (bs : List Box) (xs : List ℤ) → length xs ≡ length bs → 0 < length bs → last_of (push_left bs xs) ≡ last_of xs -ℤ pos 1
unfolding push_left last_of
last-left [] xs e h = absurd (omega arith)
last-left (b ∷ bs) [] e h = absurd (omega arith)
last-left (b ∷ []) (x ∷ []) e h = refl
last-left (b ∷ []) (x ∷ y ∷ xs) e h = absurd (omega arith)
last-left (b ∷ c ∷ bs) (x ∷ []) e h = absurd (omega arith)
last-left (b ∷ c ∷ bs) (x ∷ y ∷ xs) e h =
    last_more _ (push_left (c ∷ bs) (y ∷ xs)) (omega (arith, length-left (c ∷ bs) (y ∷ xs) (omega arith))) ∙ last-left (c ∷ bs) (y ∷ xs) (omega arith) (omega arith)

first-right : (bs : List Box) (xs : List ℤ) → length xs ≡ length bs → 0 < length bs → first_of (push_right bs xs) ≡ first_of xs +ℤ pos 1
unfolding push_right first_of
first-right [] xs e h = absurd (omega arith)
first-right (b ∷ bs) [] e h = absurd (omega arith)
first-right (b ∷ []) (x ∷ xs) e h = refl
first-right (b ∷ c ∷ bs) (x ∷ xs) e h = refl

-- what the halves lack of the distance d, where the left one ends at x and the right one begins at y
fewer-left : (n : ℕ) (d x x' y : ℤ) → x' ≡ x -ℤ pos 1 → P (d -ℤ (y -ℤ x)) ≤ suc n → P (d -ℤ (y -ℤ x')) ≤ n
fewer-left n d x x' y e h =
    omega (arith, eq-read x' (x -ℤ pos 1) e, dif x (pos 1), dif y x, dif y x', dif d (y -ℤ x), dif d (y -ℤ x'), apart (d -ℤ (y -ℤ x')))

fewer-right : (n : ℕ) (d x y y' : ℤ) → y' ≡ y +ℤ pos 1 → P (d -ℤ (y -ℤ x)) ≤ suc n → P (d -ℤ (y' -ℤ x)) ≤ n
fewer-right n d x y y' e h =
    omega (arith, eq-read y' (y +ℤ pos 1) e, sum y (pos 1), dif y x, dif y' x, dif d (y -ℤ x), dif d (y' -ℤ x), apart (d -ℤ (y' -ℤ x)))

module _ (lb : Bound) (ld : ℕ) (cs bs : List Box) (rd : ℕ) (rb : Bound) (hc : 0 < length cs) (hb : 0 < length bs) where
  -- whether the left half moves
  goes_left : List ℤ → List ℤ → Bool
  goes_left xs ys = strictly_less (resistance (left_forbids lb ld (first_of (push_left cs xs))) cs xs (push_left cs xs))
      (resistance (right_forbids rb (last_dist bs + rd) (last_of (push_right bs ys))) bs ys (push_right bs ys))

  one-step : (n : ℕ) (xs ys : List ℤ) → join (suc n) lb ld cs xs bs ys rd rb
      ≡ cond (too_near cs xs ys) (cond (goes_left xs ys) (join n lb ld cs (push_left cs xs) bs ys rd rb) (join n lb ld cs xs bs (push_right bs ys) rd rb)) (xs ++ ys)
  unfolding join goes_left
  one-step n xs ys = refl

  no_step : (xs ys : List ℤ) → join 0 lb ld cs xs bs ys rd rb ≡ xs ++ ys
  unfolding join
  no_step xs ys = refl

  one_more : (n : ℕ) (xs ys : List ℤ) → length xs ≡ length cs → length ys ≡ length bs → missing cs xs ys ≤ n → join (suc n) lb ld cs xs bs ys rd rb ≡ join n lb ld cs xs bs ys rd rb
  one_more zero xs ys e f h = let x = last_of xs in let y = first_of ys in let d = pos (last_dist cs) in
      let far = make-lt-false (y -ℤ x) d (omega (arith, dif d (y -ℤ x))) in one-step 0 xs ys ∙ rw far (sym (no_step xs ys))
  one_more (suc n) xs ys e f h =
      let l = one_more n (push_left cs xs) ys (length-left cs xs e) f (fewer-left n (pos (last_dist cs)) (last_of xs) (last_of (push_left cs xs)) (first_of ys) (last-left cs xs e hc) h) in
      let r = one_more n xs (push_right bs ys) e (length-right bs ys f) (fewer-right n (pos (last_dist cs)) (last_of xs) (first_of ys) (first_of (push_right bs ys)) (first-right bs ys f hb) h) in
      one-step (suc n) xs ys
      ∙ ap (λ (w : List ℤ). cond (too_near cs xs ys) (cond (goes_left xs ys) w (join (suc n) lb ld cs xs bs (push_right bs ys) rd rb)) (xs ++ ys)) l
      ∙ ap (λ (w : List ℤ). cond (too_near cs xs ys) (cond (goes_left xs ys) (join n lb ld cs (push_left cs xs) bs ys rd rb) w) (xs ++ ys)) r
      ∙ sym (one-step n xs ys)

  -- a join makes at most as many half steps as the halves lack
  pub join-enough : (n : ℕ) (xs ys : List ℤ) → length xs ≡ length cs → length ys ≡ length bs → missing cs xs ys ≤ n → join n lb ld cs xs bs ys rd rb ≡ join (missing cs xs ys) lb ld cs xs bs ys rd rb
  join-enough zero xs ys e f h = let q : 0 ≡ missing cs xs ys = omega arith in ap (λ m. join m lb ld cs xs bs ys rd rb) q
  join-enough (suc n) xs ys e f h = cases (suc n) (missing cs xs ys)
      (λ i. let q : suc n ≡ missing cs xs ys = omega arith in ap (λ m. join m lb ld cs xs bs ys rd rb) q)
      (λ i. one_more n xs ys e f (omega arith) ∙ join-enough n xs ys e f (omega arith))

-- ---- halves
joined : Bound → ℕ → List Box → List Box → ℕ → Bound → List ℤ → List ℤ → List ℤ
joined lb ld l r rd rb xs ys = join (missing l xs ys) lb ld l xs r ys rd rb

boxes-more : (n : ℕ) (lb : Bound) (ld : ℕ) (bs : List Box) (rd : ℕ) (rb : Bound) → length bs ≤ n → place_boxes (suc n) lb ld bs rd rb ≡ place_boxes n lb ld bs rd rb
unfolding place_boxes joined
boxes-more zero lb ld [] rd rb h = refl
boxes-more zero lb ld (b ∷ bs) rd rb h = absurd (omega arith)
boxes-more (suc n) lb ld [] rd rb h = refl
boxes-more (suc n) lb ld (b ∷ []) rd rb h = refl
boxes-more (suc n) lb ld (b ∷ c ∷ bs) rd rb h =
    let S = b ∷ c ∷ bs in let k = length S / 2 in let l = take k S in let r = drop k S in let et = length-take k S in let ed = length-drop k S in
    ap (λ (xs : List ℤ). joined lb ld l r rd rb xs (place_boxes (suc n) lb (ld + span l) r rd rb)) (boxes-more n lb ld l (span r + rd) rb (omega arith))
    ∙ ap (joined lb ld l r rd rb (place_boxes n lb ld l (span r + rd) rb)) (boxes-more n lb (ld + span l) r rd rb (omega arith))

-- halves within halves are at most as many as the boxes
pub place-enough : (n : ℕ) (lb : Bound) (ld : ℕ) (bs : List Box) (rb : Bound) → length bs ≤ n → place_boxes n lb ld bs 0 rb ≡ place_run lb ld bs rb
unfolding place_run
place-enough zero lb ld bs rb h = let q : 0 ≡ length bs = omega arith in ap (λ m. place_boxes m lb ld bs 0 rb) q
place-enough (suc n) lb ld bs rb h = cases (suc n) (length bs)
    (λ i. let q : suc n ≡ length bs = omega arith in ap (λ m. place_boxes m lb ld bs 0 rb) q)
    (λ i. boxes-more n lb ld bs 0 rb (omega arith) ∙ place-enough n lb ld bs rb (omega arith))
