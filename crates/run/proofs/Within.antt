-- How far a run can reach: with neighbours, old positions and bounds in lo..hi, every box stands in lo − T .. hi + T, T the sum of the
-- run's distances. Assumes nothing.
use mathlib.Core.Path.{◌≡◌, refl, sym, subst}
use mathlib.Core.Bool.{Bool, true, false, cond}
use mathlib.Core.List.{List, [], ◌∷◌, ◌++◌, map}
use Prim.Native.Nat.{ℕ, zero, suc, ◌+◌, ◌-◌, ◌≤◌, ◌<◌, ◌/◌}
use native.Mathlib.Omega.{arith}
use lib.ListN.{length, take, drop, get_or, length-take, length-drop}
use lib.Signed.{lt_z}
use lib.IntN.{ℤ, pos, ◌+ℤ◌, ◌-ℤ◌}
use Rattle.ints.specs.Ints.{P, N, ◌⊑◌}
use Rattle.ints.proofs.Laws.{sum, dif, apart, if-ind, lt-true}
use Rattle.run.specs.Run.{Bound, free, at, lead_positions, Box, neighbours_in_order, span, half_down, start_of, first_of, last_of, last_dist}
use Rattle.run.specs.Place.{place_run}
use Rattle.run.specs.Words.{is_possible}
use Rattle.run.specs.inner.Limits.{clamp_low, clamp_high}
use Rattle.run.specs.inner.Coordinates.{less, less_lead, in_run, add_offsets, left_limit, right_limit}
use Rattle.run.proofs.HalfDown.{half-above, half-below, start-keeps}
use Rattle.run.proofs.Coordinates.{length-in_run, start-less}
use Rattle.run.specs.inner.Bisection.{cut_at, raise_to, bisect, more_up_to, meeting_place, join_fast, place_fast}
use Rattle.run.proofs.Meet.{length-met}
use Rattle.run.proofs.Fast.{bisected, fast-run}

-- ---- every member of a list
pub data Every (Q : ℤ → Type 0) : List ℤ → Type 0 where
  every-nil : Every Q []
  every-cons : {x : ℤ} {xs : List ℤ} → Q x → Every Q xs → Every Q (x ∷ xs)

pub every-make : (Q : ℤ → Type 0) (d : ℤ) (xs : List ℤ) → ((i : ℕ) → i < length xs → Q (get_or xs i d)) → Every Q xs
every-make Q d [] f = every-nil
every-make Q d (x ∷ xs) f = every-cons (f 0 (omega arith)) (every-make Q d xs (λ i h. f (suc i) (omega arith)))

pub every-at : (Q : ℤ → Type 0) (d : ℤ) {xs : List ℤ} → Every Q xs → (i : ℕ) → i < length xs → Q (get_or xs i d)
every-at Q d every-nil i h = absurd (omega arith)
every-at Q d (every-cons q r) zero h = q
every-at Q d (every-cons q r) (suc i) h = every-at Q d r i (omega arith)

every_get : (Q : ℤ → Type 0) (d : ℤ) (xs : List ℤ) → Q d → Every Q xs → (i : ℕ) → Q (get_or xs i d)
every_get Q d [] q every-nil i = q
every_get Q d (x ∷ xs) q (every-cons p r) zero = p
every_get Q d (x ∷ xs) q (every-cons p r) (suc i) = every_get Q d xs q r i

every_append : (Q : ℤ → Type 0) {xs ys : List ℤ} → Every Q xs → Every Q ys → Every Q (xs ++ ys)
every_append Q every-nil s = s
every_append Q (every-cons q r) s = every-cons q (every_append Q r s)

every_first : (Q : ℤ → Type 0) {xs : List ℤ} → 0 < length xs → Every Q xs → Q (first_of xs)
unfolding first_of
every_first Q h every-nil = absurd (omega arith)
every_first Q h (every-cons q r) = q

every-last : (Q : ℤ → Type 0) (xs : List ℤ) → 0 < length xs → Every Q xs → Q (last_of xs)
unfolding last_of
every-last Q [] h r = absurd (omega arith)
every-last Q (x ∷ []) h (every-cons q r) = q
every-last Q (x ∷ y ∷ xs) h (every-cons q r) = every-last Q (y ∷ xs) (omega arith) r

-- ---- between two places, and so the bounds and the boxes of a run
pub record Between (lo hi x : ℤ) : Type 0 where
  pub low : lo ⊑ x
  pub high : x ⊑ hi

abbrev pub BoundBetween : ℤ → ℤ → Bound → Type 0
BoundBetween lo hi free = Unit {0}
BoundBetween lo hi (at z) = Between lo hi z

pub data BoxesBetween (lo hi : ℤ) : List Box → Type 0 where
  boxes-nil : BoxesBetween lo hi []
  boxes-cons : {b : Box} {bs : List Box} → Between lo hi b.old → Every (Between lo hi) (lead_positions b.near) → BoxesBetween lo hi bs → BoxesBetween lo hi (b ∷ bs)

-- ---- in run coordinates nothing leaves A..B, if the starts and both bounds lie there
pub data StartsBetween (A B : ℤ) : List Box → Type 0 where
  starts-nil : StartsBetween A B []
  starts-cons : {b : Box} {bs : List Box} → Between A B (start_of b.old b.near) → StartsBetween A B bs → StartsBetween A B (b ∷ bs)

starts-take : {A B : ℤ} (k : ℕ) {bs : List Box} → StartsBetween A B bs → StartsBetween A B (take k bs)
starts-take zero starts-nil = starts-nil
starts-take zero (starts-cons s r) = starts-nil
starts-take (suc k) starts-nil = starts-nil
starts-take (suc k) (starts-cons s r) = starts-cons s (starts-take k r)

starts-drop : {A B : ℤ} (k : ℕ) {bs : List Box} → StartsBetween A B bs → StartsBetween A B (drop k bs)
starts-drop zero starts-nil = starts-nil
starts-drop zero (starts-cons s r) = starts-cons s r
starts-drop (suc k) starts-nil = starts-nil
starts-drop (suc k) (starts-cons s r) = starts-drop k r

module _ (A B : ℤ) where
  either : (t : Bool) (x y : ℤ) → Between A B x → Between A B y → Between A B (cond t x y)
  either true x y p q = p
  either false x y p q = q

  pub clamp-low : (L : Bound) (z : ℤ) → BoundBetween A B L → Between A B z → Between A B (clamp_low L z)
  clamp-low free z l q = q
  clamp-low (at y) z l q = either (lt_z z y) y z l q

  pub clamp-high : (H : Bound) (z : ℤ) → BoundBetween A B H → Between A B z → Between A B (clamp_high H z)
  clamp-high free z h q = q
  clamp-high (at y) z h q = either (lt_z y z) y z h q

  every-cut : (m : ℤ) {xs : List ℤ} → Between A B m → Every (Between A B) xs → Every (Between A B) (cut_at m xs)
  unfolding cut_at
  every-cut m q every-nil = every-nil
  every-cut m q (every-cons {x = x} p r) = every-cons (either (lt_z m x) m x q p) (every-cut m q r)

  every-raise : (m : ℤ) {xs : List ℤ} → Between A B m → Every (Between A B) xs → Every (Between A B) (raise_to m xs)
  unfolding raise_to
  every-raise m q every-nil = every-nil
  every-raise m q (every-cons {x = x} p r) = every-cons (either (lt_z x m) m x q p) (every-raise m q r)

  -- two halves cut off at, and raised to, a place that bisection finds
  pub met-between : (t : ℤ → Bool) (xs ys : List ℤ) → 0 < length xs → 0 < length ys → Every (Between A B) xs → Every (Between A B) ys
      → Every (Between A B) (let n = P (last_of xs -ℤ first_of ys) in let m = bisect t n (first_of ys) n in cond (lt_z (first_of ys) (last_of xs)) (cut_at m xs ++ raise_to m ys) (xs ++ ys))
  met-between t xs ys hx hy ex ey = let u = last_of xs in let v = first_of ys in let n = P (u -ℤ v) in let m = bisect t n v n in
      if-ind (lt_z v u) (cut_at m xs ++ raise_to m ys) (xs ++ ys) (λ w. Every (Between A B) w)
      (λ s. let q = bisected t n v n (omega arith) in let d = dif u v in let p = apart (u -ℤ v) in let h = lt-true v u s in
      let f = every_first (Between A B) hy ey in let l = every-last (Between A B) xs hx ex in
      let k : Between A B m = record { low = omega arith; high = omega arith } in
      every_append (Between A B) (every-cut m k ex) (every-raise m k ey))
      (λ s. every_append (Between A B) ex ey)

  join-between : (cs bs : List Box) (xs ys : List ℤ) → 0 < length xs → 0 < length ys → Every (Between A B) xs → Every (Between A B) ys → Every (Between A B) (join_fast cs bs xs ys)
  unfolding join_fast meeting_place
  join-between cs bs xs ys hx hy ex ey = met-between (λ m. more_up_to cs bs xs ys m) xs ys hx hy ex ey

length-join_fast : (cs bs : List Box) (xs ys : List ℤ) → length (join_fast cs bs xs ys) ≡ length xs + length ys
unfolding join_fast
length-join_fast cs bs xs ys = length-met (lt_z (first_of ys) (last_of xs)) (meeting_place cs bs xs ys) xs ys

length-fast : (L H : Bound) (n : ℕ) (bs : List Box) → length bs ≤ n → length (place_fast L H n bs) ≡ length bs
unfolding place_fast
length-fast L H zero [] h = refl
length-fast L H zero (b ∷ bs) h = absurd (omega arith)
length-fast L H (suc n) [] h = refl
length-fast L H (suc n) (b ∷ []) h = refl
length-fast L H (suc n) (b ∷ c ∷ bs) h = let S = b ∷ c ∷ bs in let k = length S / 2 in let et = length-take k S in let ed = length-drop k S in
    omega (
      arith,
      length-join_fast (take k S) (drop k S) (place_fast L H n (take k S)) (place_fast L H n (drop k S)),
      length-fast L H n (take k S) (omega arith),
      length-fast L H n (drop k S) (omega arith),
    )

fast-between : (A B : ℤ) (L H : Bound) → BoundBetween A B L → BoundBetween A B H → (n : ℕ) (bs : List Box) → length bs ≤ n → StartsBetween A B bs → Every (Between A B) (place_fast L H n bs)
unfolding place_fast
fast-between A B L H l h zero bs k s = every-nil
fast-between A B L H l h (suc n) [] k s = every-nil
fast-between A B L H l h (suc n) (b ∷ []) k (starts-cons s r) =
    every-cons (clamp-high A B H (clamp_low L (start_of b.old b.near)) h (clamp-low A B L (start_of b.old b.near) l s)) every-nil
fast-between A B L H l h (suc n) (b ∷ c ∷ bs) k s = let S = b ∷ c ∷ bs in let i = length S / 2 in let et = length-take i S in let ed = length-drop i S in
    let ex = length-fast L H n (take i S) (omega arith) in let ey = length-fast L H n (drop i S) (omega arith) in
    join-between A B (take i S) (drop i S) (place_fast L H n (take i S)) (place_fast L H n (drop i S)) (omega arith) (omega arith)
    (fast-between A B L H l h n (take i S) (omega arith) (starts-take i s)) (fast-between A B L H l h n (drop i S) (omega arith) (starts-drop i s))

-- ---- the sum of the run's distances, so far as members are at their ends
abbrev pub left_reach : Bound → ℕ → ℕ
left_reach free ld = 0
left_reach (at l) ld = ld

abbrev pub right_reach : List Box → Bound → ℕ
right_reach bs free = span bs - last_dist bs
right_reach bs (at r) = span bs

abbrev pub reach : Bound → ℕ → List Box → Bound → ℕ
reach lb ld bs rb = left_reach lb ld + right_reach bs rb

-- at most T outside lo..hi
pub record Reached (lo hi : ℤ) (T : ℕ) (x : ℤ) : Type 0 where
  pub low : P lo + N x ≤ P x + N lo + T
  pub high : P x + N hi ≤ P hi + N x + T

pub last-span : (bs : List Box) → last_dist bs ≤ span bs
unfolding last_dist span
last-span [] = omega arith
last-span (b ∷ []) = omega arith
last-span (b ∷ c ∷ bs) = omega (arith, last-span (c ∷ bs))

-- w is at least every offset
offset-fits : (o w : ℕ) (b : Box) (bs : List Box) → o + span (b ∷ bs) ≤ w + last_dist (b ∷ bs) → o ≤ w
offset-fits o w b bs h = omega (arith, last-span (b ∷ bs))

offset-next : (o w : ℕ) (b c : Box) (bs : List Box) → o + span (b ∷ c ∷ bs) ≤ w + last_dist (b ∷ c ∷ bs) → o + b.dist + span (c ∷ bs) ≤ w + last_dist (c ∷ bs)
unfolding span last_dist
offset-next o w b c bs h = omega arith

start_between : (lo hi : ℤ) (b : Box) → Between lo hi b.old → Every (Between lo hi) (lead_positions b.near) → Between lo hi (start_of b.old b.near)
start_between lo hi b p q = start-keeps (Between lo hi) halved b.old b.near (every_get (Between lo hi) b.old (lead_positions b.near) p q)
  where
    halved : (l u : ℤ) → Between lo hi l → Between lo hi u → Between lo hi (half_down (l +ℤ u))
    halved l u x y = record { low = half-above lo l u x.low y.low; high = half-below hi l u x.high y.high }

-- a start less its offset
start-less-between : (lo hi : ℤ) (l w o : ℕ) (b : Box) → o ≤ w → Between lo hi b.old → Every (Between lo hi) (lead_positions b.near)
    → Between (less w lo) (hi +ℤ pos l) (start_of (less o b.old) (map (less_lead o) b.near))
start-less-between lo hi l w o b h p q = let z = start_of b.old b.near in let s = start_between lo hi b p q in
    subst (λ x. Between (less w lo) (hi +ℤ pos l) x) (sym (start-less b.old b.near o))
    (record { low = omega (arith, dif lo (pos w), dif z (pos o)); high = omega (arith, sum hi (pos l), dif z (pos o)) })

pub starts-between : (lo hi : ℤ) (l w o : ℕ) (bs : List Box) → o + span bs ≤ w + last_dist bs → BoxesBetween lo hi bs → StartsBetween (less w lo) (hi +ℤ pos l) (in_run o bs)
unfolding in_run
starts-between lo hi l w o [] h boxes-nil = starts-nil
starts-between lo hi l w o (b ∷ []) h (boxes-cons p q boxes-nil) = starts-cons (start-less-between lo hi l w o b (offset-fits o w b [] h) p q) starts-nil
starts-between lo hi l w o (b ∷ c ∷ bs) h (boxes-cons p q r) = starts-cons (start-less-between lo hi l w o b (offset-fits o w b (c ∷ bs) h) p q)
    (starts-between lo hi l w (o + b.dist) (c ∷ bs) (offset-next o w b c bs h) r)

out-reached : (lo hi : ℤ) (l w o : ℕ) (z : ℤ) → o ≤ w → Between (less w lo) (hi +ℤ pos l) z → Reached lo hi (l + w) (z +ℤ pos o)
out-reached lo hi l w o z h q = record { low = omega (arith, dif lo (pos w), sum z (pos o)); high = omega (arith, sum hi (pos l), sum z (pos o)) }

add-reached : (lo hi : ℤ) (l w o : ℕ) (bs : List Box) (zs : List ℤ) → o + span bs ≤ w + last_dist bs → Every (Between (less w lo) (hi +ℤ pos l)) zs → Every (Reached lo hi (l + w)) (add_offsets o bs zs)
unfolding add_offsets
add-reached lo hi l w o [] zs h q = every-nil
add-reached lo hi l w o (b ∷ bs) [] h q = every-nil
add-reached lo hi l w o (b ∷ []) (z ∷ zs) h (every-cons q r) = every-cons (out-reached lo hi l w o z (offset-fits o w b [] h) q) every-nil
add-reached lo hi l w o (b ∷ c ∷ bs) (z ∷ zs) h (every-cons q r) = every-cons (out-reached lo hi l w o z (offset-fits o w b (c ∷ bs) h) q)
    (add-reached lo hi l w (o + b.dist) (c ∷ bs) zs (offset-next o w b c bs h) r)

left-between : (lo hi : ℤ) (lb : Bound) (ld w : ℕ) → BoundBetween lo hi lb → BoundBetween (less w lo) (hi +ℤ pos (left_reach lb ld)) (left_limit lb ld)
left-between lo hi free ld w q = tt
left-between lo hi (at z) ld w q = record { low = omega (arith, dif lo (pos w), sum z (pos ld)); high = omega (arith, sum hi (pos ld), sum z (pos ld)) }

right-between : (lo hi : ℤ) (l : ℕ) (bs : List Box) (rb : Bound) → BoundBetween lo hi rb → BoundBetween (less (right_reach bs rb) lo) (hi +ℤ pos l) (right_limit rb (span bs))
right-between lo hi l bs free q = tt
right-between lo hi l bs (at z) q = record { low = omega (arith, dif lo (pos (span bs)), dif z (pos (span bs))); high = omega (arith, sum hi (pos l), dif z (pos (span bs))) }

right-fits : (bs : List Box) (rb : Bound) → 0 + span bs ≤ right_reach bs rb + last_dist bs
right-fits bs free = omega (arith, last-span bs)
right-fits bs (at r) = omega arith

-- ---- the law
pub place-run-reach : (lo hi : ℤ) (lb : Bound) (ld : ℕ) (bs : List Box) (rb : Bound) → neighbours_in_order bs ≡ true → is_possible lb ld bs rb ≡ true
    → BoundBetween lo hi lb → BoxesBetween lo hi bs → BoundBetween lo hi rb → Every (Reached lo hi (reach lb ld bs rb)) (place_run lb ld bs rb)
place-run-reach lo hi lb ld bs rb q e bl bb br = let l = left_reach lb ld in let w = right_reach bs rb in let A = less w lo in let B = hi +ℤ pos l in
    let el = length-in_run 0 bs in
    subst (λ xs. Every (Reached lo hi (l + w)) xs) (sym (fast-run lb ld bs rb q e))
    (add-reached lo hi l w 0 bs (place_fast (left_limit lb ld) (right_limit rb (span bs)) (length bs) (in_run 0 bs)) (right-fits bs rb)
    (fast-between A B (left_limit lb ld) (right_limit rb (span bs)) (left-between lo hi lb ld w bl) (right-between lo hi l bs rb br) (length bs) (in_run 0 bs) (omega arith)
    (starts-between lo hi l w 0 bs (right-fits bs rb) bb)))
