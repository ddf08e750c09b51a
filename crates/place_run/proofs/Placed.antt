-- How far the boxes of a run that is taken can stand from 0: its positions are within ±2^40, and its distances add up to 2^48 at most.
use mathlib.Core.Path.{◌≡◌, refl, sym, ◌∙◌}
use mathlib.Core.Bool.{Bool, true, false, cond}
use mathlib.Core.List.{List, [], ◌∷◌}
use Prim.Native.Nat.{ℕ, zero, suc, ◌+◌, ◌-◌, ◌*◌, ◌^◌, ◌≤◌, ◌<◌}
use native.Mathlib.Omega.{arith}
use borrow.Author.Tests.{leb-true, eqb-true}
use lib.Dec.{leb, eqb}
use lib.ListN.{length, take, drop, get_or, get_or-eq_default}
use lib.IntN.{ℤ, pos, negsuc}
use Rattle.ints.specs.Ints.{size, SizedTo}
use Rattle.ints.specs.Reach.{reach}
use Rattle.ints.specs.Lists.{sum}
use Rattle.ints.proofs.Laws.{apart, cases}
use Rattle.ints.proofs.Tests.{and_left, conj-at}
use Rattle.run.specs.Run.{Bound, free, at, lead_positions, leads_of, Box, span}
use Rattle.std.specs.Prelude.{Option, None, Some}
use Rattle.run.specs.Call.{Request, limit_of, member_of, positions_of, left_distance, other_distances, boxes_from, max_boxes, max_neighbours, is_small, is_fitting, is_in_reach, is_sound, is_taken, placed_of, out, call_of}
use Rattle.run.proofs.WhenRefused.{taken-row}
use Rattle.run.proofs.Within as within
use Rattle.run.proofs.Within.{Every, every-nil, every-cons, every-make, Between, BoundBetween, BoxesBetween, boxes-nil, boxes-cons, Reached, place-run-reach}
use Rattle.run_columns.specs.inner.Offsets.{Near, max_offset}
use Rattle.place_run.specs.inner.Requests.{request_of}
use Rattle.place_run.proofs.Taken.{Taken, left-small, steps-small, span-all, none_is, taken, taken_places}

-- ---- within ±2^40
abbrev low : ℤ
low = negsuc 1099511627775

abbrev high : ℤ
high = pos reach

between : (x : ℤ) → size x ≤ reach → Between low high x
between x h = record { low = omega arith; high = omega arith }

all-between : (xs : List ℤ) → Near xs → Every (Between low high) xs
all-between xs n = every-make (Between low high) (pos 0) xs (λ i h. between (get_or xs i (pos 0)) (n i h))

bound-between : (b : Option ℤ) → Near (positions_of b) → BoundBetween low high (limit_of b)
bound-between None n = tt
bound-between (Some x) n = between x (n 0 (omega arith))

every_take : {Q : ℤ → Type 0} (n : ℕ) {xs : List ℤ} → Every Q xs → Every Q (take n xs)
every_take zero h = every-nil
every_take (suc n) every-nil = every-nil
every_take (suc n) (every-cons q r) = every-cons q (every_take n r)

every_drop : {Q : ℤ → Type 0} (n : ℕ) {xs : List ℤ} → Every Q xs → Every Q (drop n xs)
every_drop zero h = h
every_drop (suc n) every-nil = every-nil
every_drop (suc n) (every-cons q r) = every_drop n r

every-lead : {Q : ℤ → Type 0} {xs : List ℤ} (ws : List ℕ) → Every Q xs → Every Q (lead_positions (leads_of xs ws))
unfolding leads_of
every-lead ws every-nil = every-nil
every-lead [] (every-cons q r) = every-nil
every-lead (w ∷ ws) (every-cons q r) = every-cons q (every-lead ws r)

boxes-between : {old : List ℤ} (ds cs : List ℕ) {ns : List ℤ} (ws : List ℕ) → Every (Between low high) old → Every (Between low high) ns → BoxesBetween low high (boxes_from old ds cs ns ws)
unfolding boxes_from
boxes-between ds cs ws every-nil n = boxes-nil
boxes-between ds [] ws (every-cons q r) n = boxes-nil
boxes-between ds (c ∷ cs) ws (every-cons q r) n = boxes-cons q (every-lead (take c ws) (every_take c n)) (boxes-between (drop 1 ds) cs (drop c ws) r (every_drop c n))

-- ---- and so much further
left-reach : (b : Bound) (d : ℕ) → within.left_reach b d ≤ d
left-reach free d = omega arith
left-reach (at x) d = omega arith

right-reach : (bs : List Box) (b : Bound) → within.right_reach bs b ≤ span bs
right-reach bs free = omega arith
right-reach bs (at x) = omega arith

sized : (t : ℕ) → t ≤ 2 * max_offset → (xs : List ℤ) → Every (Reached low high t) xs → (i : ℕ) → size (get_or xs i (pos 0)) ≤ 2 ^ 50
sized t h [] r i = omega arith
sized t h (x ∷ xs) (every-cons q r) zero = omega (arith, q.low, q.high, apart x)
sized t h (x ∷ xs) (every-cons q r) (suc i) = sized t h xs r i

module _ (l r : Option ℤ) (old : List ℤ) (ds cs : List ℕ) (ns : List ℤ) (ws : List ℕ) (zs : List ℤ) (t : Taken l r old ds cs ns ws zs) where
  abbrev boxes : List Box
  boxes = boxes_from old (other_distances l ds) cs ns ws

  reached : Every (Reached low high (within.reach (limit_of l) (left_distance l ds) boxes (limit_of r))) (placed_of (request_of l r old ds cs ns ws))
  unfolding placed_of
  reached =
      place-run-reach low high (limit_of l) (left_distance l ds) boxes (limit_of r) t.order t.possible
      (bound-between l t.left) (boxes-between (other_distances l ds) cs ws (all-between old t.olds) (all-between ns t.nears)) (bound-between r t.right)

  some : 0 < length old → SizedTo (2 ^ 50) (placed_of (request_of l r old ds cs ns ws))
  some h =
      let far : within.reach (limit_of l) (left_distance l ds) boxes (limit_of r) ≤ 2 * max_offset =
      omega (arith, left-reach (limit_of l) (left_distance l ds), right-reach boxes (limit_of r), left-small l r old ds cs ns ws zs t, span-all l r old ds cs ns ws zs t h, steps-small l r old ds cs ns ws zs t) in
      record { each = sized (within.reach (limit_of l) (left_distance l ds) boxes (limit_of r)) far (placed_of (request_of l r old ds cs ns ws)) reached }

  none : length old ≡ 0 → SizedTo (2 ^ 50) zs
  none e = record { each = λ i. let d = get_or-eq_default zs (pos 0) {n = i} (omega (arith, t.answer)) in rw d (omega arith) }

  pub placed-sized : SizedTo (2 ^ 50) (placed_of (request_of l r old ds cs ns ws))
  placed-sized = cases 1 (length old) some (λ h. let e : length old ≡ 0 = omega arith in rw (none_is l r old ds cs ns ws zs t e) at (none e))

-- ---- what the call gives
taken_of : (q : Request) (answer : List ℤ) → (call_of q answer).number ≡ 0 → is_taken q answer ≡ true
unfolding call_of
taken_of q answer = by (is_taken q answer)
  where
    by : (t : Bool) → (cond t (out 0 (placed_of q)) (out 8 answer)).number ≡ 0 → t ≡ true
    by true e = refl
    by false e = absurd (omega arith)

module _ (q : Request) (answer : List ℤ) (e : (call_of q answer).number ≡ 0) where
  pub answer-few : length answer ≤ max_boxes
  answer-few =
      let all = conj-at (is_small q) (is_fitting q answer ∷ is_in_reach q ∷ is_sound q ∷ []) (sym (taken-row q answer) ∙ taken_of q answer e) in
      let small = and_left (leb q.boxes max_boxes) (leb (sum q.counts) max_neighbours) (all 0) in
      let fits = conj-at (eqb (length answer) q.boxes) (eqb (length q.old) q.boxes ∷ eqb (length q.counts) q.boxes ∷ eqb (length q.neighbours) (sum q.counts)
      ∷ eqb (length q.ratings) (sum q.counts)
      ∷ eqb (length q.distances) (member_of q.left + q.boxes + member_of q.right - 1) ∷ []) (all 1) 0 in
      omega (arith, leb-true q.boxes max_boxes small, eqb-true (length answer) q.boxes fits)

  pub answer-sized : SizedTo (2 ^ 50) (call_of q answer).buffer
  unfolding call_of placed_of
  answer-sized =
      let t = taken_of q answer e in
      rw t
      (placed-sized q.left q.right q.old q.distances q.counts q.neighbours q.ratings answer
      (taken q.left q.right q.old q.distances q.counts q.neighbours q.ratings answer
      (taken_places q.left q.right q.old q.distances q.counts q.neighbours q.ratings q.boxes answer t)))
