-- What the tests of a run that is taken say of its columns, and the definition's outcome of it. Assumes nothing.
use mathlib.Core.Path.{◌≡◌, refl, sym, ◌∙◌, ap}
use mathlib.Core.Bool.{true, ◌&&◌}
use mathlib.Core.List.{List, [], ◌∷◌}
use Prim.Native.Nat.{ℕ, ◌+◌, ◌-◌, ◌*◌, ◌≤◌, ◌<◌}
use native.Mathlib.Omega.{arith}
use lib.Dec.{leb, eqb}
use borrow.Author.Tests.{leb-true, eqb-true}
use lib.ListN.{length, drop, get_or, length-drop}
use lib.IntN.{ℤ, pos}
use Rattle.ints.specs.Ints.{size}
use Rattle.ints.proofs.Laws.{sum as sum_of, dif}
use Rattle.ints.proofs.Reach.{within-at}
use Rattle.run.specs.Run.{Bound, neighbours_in_order, span}
use Rattle.run.specs.Place.{place_run, place_boxes}
use Rattle.run.specs.Words.{is_possible}
use Rattle.ints.proofs.Tests.{and_left, and_right, conj-at}
use Rattle.run.specs.inner.Coordinates.{left_limit, right_limit}
use Rattle.run.proofs.Optimal.{has-place-of}
use Rattle.run.proofs.Fast.{fast-run}
use Rattle.std.specs.Prelude.{Option, None, Some}
use Rattle.ints.specs.Lists.{sum}
use Rattle.ints.specs.Ratings.{all_ratings}
use Rattle.ints.specs.Reach.{reach, all_within}
use Rattle.run.specs.Call.{Request, limit_of, member_of, positions_of, left_distance, other_distances, boxes_from, max_boxes, max_neighbours, is_small, is_fitting, all_distances, is_in_reach, is_sound, is_taken, placed_of}
use Rattle.run_columns.specs.inner.Columns.{Columns}
use Rattle.run_halves.specs.inner.Halves.{SmallLimit, Fits, placed_between}
use Rattle.run_columns.specs.inner.Offsets.{Near, max_offset}
use Rattle.run_columns.specs.inner.Sums.{ratings_between}
use Rattle.place_run.specs.inner.Requests.{request_of}
use Rattle.run.proofs.WhenRefused.{taken-row}
use Rattle.place_run.proofs.RefusalLaws.{member-le, in-order-same, sum-distances}
use Rattle.run_columns.proofs.ColumnLaws.{sum-cut}
use Rattle.run_columns.proofs.OffsetLaws.{sum_step}
use Rattle.run_halves.proofs.Boxes.{span-is}

-- ---- the tests
all_near : (xs : List ℤ) → all_within xs ≡ true → Near xs
all_near xs e i h = within-at xs i e

pub others-is : (l : Option ℤ) (ds : List ℕ) → other_distances l ds ≡ drop (member_of l) ds
others-is None ds = refl
others-is (Some x) ds = refl

-- ---- a run that is taken
pub record Taken (l r : Option ℤ) (old : List ℤ) (ds cs : List ℕ) (ns : List ℤ) (ws : List ℕ) (zs : List ℤ) : Type 0 where
  pub boxes : length old ≤ max_boxes
  pub neighbours : length ns ≤ max_neighbours
  pub ratings : length ws ≡ length ns
  pub rated : all_ratings ws ≡ true
  pub answer : length zs ≡ length old
  pub columns : Columns old cs ns
  pub distances : length ds ≡ member_of l + length old + member_of r - 1
  pub left : Near (positions_of l)
  pub right : Near (positions_of r)
  pub olds : Near old
  pub nears : Near ns
  pub offsets : sum ds ≤ length ds * (2 * reach)
  pub order : neighbours_in_order (boxes_from old (other_distances l ds) cs ns ws) ≡ true
  pub possible : is_possible (limit_of l) (left_distance l ds) (boxes_from old (other_distances l ds) cs ns ws) (limit_of r) ≡ true

pub taken : (l r : Option ℤ) (old : List ℤ) (ds cs : List ℕ) (ns : List ℤ) (ws : List ℕ) (zs : List ℤ) → is_taken (request_of l r old ds cs ns ws) zs ≡ true → Taken l r old ds cs ns ws zs
taken l r old ds cs ns ws zs e =
    let q = request_of l r old ds cs ns ws in
    let row = sym (taken-row q zs) ∙ e in
    let e3 : is_small q && is_fitting q zs && is_in_reach q ≡ true = and_left _ (is_sound q) row in
    let so : is_sound q ≡ true = and_right (is_small q && is_fitting q zs && is_in_reach q) _ row in
    let e2 : is_small q && is_fitting q zs ≡ true = and_left _ (is_in_reach q) e3 in
    let re : is_in_reach q ≡ true = and_right (is_small q && is_fitting q zs) _ e3 in
    let sm : is_small q ≡ true = and_left _ (is_fitting q zs) e2 in
    let fi : is_fitting q zs ≡ true = and_right (is_small q) _ e2 in
    let f1 = eqb (length zs) (length old) in let f2 = eqb (length old) (length old) in let f3 = eqb (length cs) (length old) in
    let f4 = eqb (length ns) (sum cs) in let f5 = eqb (length ws) (sum cs) in let f6 = eqb (length ds) (member_of l + length old + member_of r - 1) in
    let g5 : f1 && f2 && f3 && f4 && f5 ≡ true = and_left _ f6 fi in
    let g4 : f1 && f2 && f3 && f4 ≡ true = and_left _ f5 g5 in
    let g3 : f1 && f2 && f3 ≡ true = and_left _ f4 g4 in
    let g2 : f1 && f2 ≡ true = and_left _ f3 g3 in
    let h1 = all_within (positions_of l) in let h2 = all_within (positions_of r) in let h3 = all_within old in let h4 = all_within ns in
    let h5 = all_ratings ws in let h6 = all_distances ds in
    let k5 : h1 && h2 && h3 && h4 && h5 ≡ true = and_left _ h6 re in
    let k4 : h1 && h2 && h3 && h4 ≡ true = and_left _ h5 k5 in
    let k3 : h1 && h2 && h3 ≡ true = and_left _ h4 k4 in
    let k2 : h1 && h2 ≡ true = and_left _ h3 k3 in
    let en : length ns ≡ sum cs = eqb-true (length ns) (sum cs) (and_right (f1 && f2 && f3) f4 g4) in
    let ew : length ws ≡ length ns = eqb-true (length ws) (sum cs) (and_right (f1 && f2 && f3 && f4) f5 g5) ∙ sym en in
    let ec : length cs ≡ length old = eqb-true (length cs) (length old) (and_right (f1 && f2) f3 g3) in
    let bs = boxes_from old (other_distances l ds) cs ns ws in
    let po = is_possible (limit_of l) (left_distance l ds) bs (limit_of r) in
    let or : neighbours_in_order bs ≡ true = and_left (neighbours_in_order bs) po so in record {
      boxes = leb-true (length old) max_boxes (and_left _ (leb (sum cs) max_neighbours) sm);
      neighbours = omega (arith, en, leb-true (sum cs) max_neighbours (and_right (leb (length old) max_boxes) _ sm));
      ratings = ew;
      rated = and_right (h1 && h2 && h3 && h4) h5 k5;
      answer = eqb-true (length zs) (length old) (and_left f1 f2 g2);
      columns = record { boxes = sym ec; neighbours = en; order = sym (in-order-same old (other_distances l ds) cs ns ws (sym ec) ew) ∙ or };
      distances = eqb-true (length ds) (member_of l + length old + member_of r - 1) (and_right (f1 && f2 && f3 && f4 && f5) f6 fi);
      left = all_near (positions_of l) (and_left h1 h2 k2);
      right = all_near (positions_of r) (and_right h1 h2 k2);
      olds = all_near old (and_right (h1 && h2) h3 k3);
      nears = all_near ns (and_right (h1 && h2 && h3) h4 k4);
      offsets = sum-distances ds (and_right (h1 && h2 && h3 && h4 && h5) h6 re);
      order = or;
      possible = and_right (neighbours_in_order bs) po so;
    }

-- as many boxes as old positions
pub boxes-are : (q : Request) (answer : List ℤ) → is_taken q answer ≡ true → length q.old ≡ q.boxes
boxes-are q answer e = let row = sym (taken-row q answer) ∙ e in
    let fits = conj-at (is_small q) (is_fitting q answer ∷ is_in_reach q ∷ is_sound q ∷ []) row 1 in
    eqb-true (length q.old) q.boxes
    (conj-at (eqb (length answer) q.boxes) (eqb (length q.old) q.boxes ∷ eqb (length q.counts) q.boxes ∷ eqb (length q.neighbours) (sum q.counts)
    ∷ eqb (length q.ratings) (sum q.counts) ∷ eqb (length q.distances) (member_of q.left + q.boxes + member_of q.right - 1) ∷ []) fits 1)

abbrev request : Option ℤ → Option ℤ → List ℤ → List ℕ → List ℕ → List ℤ → List ℕ → ℕ → Request
request l h old ds cs ns ws r = record { boxes = r; left = l; right = h; old = old; distances = ds; counts = cs; neighbours = ns; ratings = ws }

pub taken_places : (l h : Option ℤ) (old : List ℤ) (ds cs : List ℕ) (ns : List ℤ) (ws : List ℕ) (r : ℕ) (answer : List ℤ) →
    is_taken (request l h old ds cs ns ws r) answer ≡ true → is_taken (request_of l h old ds cs ns ws) answer ≡ true
taken_places l h old ds cs ns ws r answer e =
    ap (λ (n : ℕ). is_taken (request l h old ds cs ns ws n) answer) (boxes-are (request l h old ds cs ns ws r) answer e) ∙ e

pub near-limit : (l : Option ℤ) → Near (positions_of l) → SmallLimit (limit_of l)
near-limit None q = tt
near-limit (Some x) q = let h : size x ≤ reach = q 0 (omega arith) in omega arith

small-left : (l : Option ℤ) (d : ℕ) → Near (positions_of l) → d ≤ max_offset → SmallLimit (left_limit (limit_of l) d)
small-left None d q h = tt
small-left (Some x) d q h = let k : size x ≤ reach = q 0 (omega arith) in omega (arith, sum_of x (pos d))

small-right : (r : Option ℤ) (d : ℕ) → Near (positions_of r) → d ≤ max_offset → SmallLimit (right_limit (limit_of r) d)
small-right None d q h = tt
small-right (Some x) d q h = let k : size x ≤ reach = q 0 (omega arith) in omega (arith, dif x (pos d))

module _ (l r : Option ℤ) (old : List ℤ) (ds cs : List ℕ) (ns : List ℤ) (ws : List ℕ) (zs : List ℤ) (t : Taken l r old ds cs ns ws zs) where
  sum-small : sum ds ≤ max_offset
  sum-small = omega (arith, t.offsets, t.distances, t.boxes, member-le l, member-le r)

  pub steps-small : sum (drop (member_of l) ds) ≤ max_offset
  steps-small = omega (arith, sum-small, sum-cut (member_of l) ds)

  pub first_small : get_or ds 0 0 ≤ max_offset
  first_small = omega (arith, sum-small, sum_step ds 0)

  pub left-small : left_distance l ds ≤ max_offset
  left-small = go l
    where
      go : (l : Option ℤ) → left_distance l ds ≤ max_offset
      go None = omega arith
      go (Some x) = first_small

  -- with a box, every left bound has a distance, and no box lacks one but the last
  pub members-within : 0 < length old → member_of l ≤ length ds
  members-within h = omega (arith, t.distances, member-le l, member-le r)

  -- no distance is left out
  pub span-all : 0 < length old → span (boxes_from old (other_distances l ds) cs ns ws) ≡ sum (drop (member_of l) ds)
  span-all h = let d = t.distances in
      let k : length (drop (member_of l) ds) ≤ length old = omega (arith, length-drop (member_of l) ds, member-le l, member-le r) in
      ap (λ es. span (boxes_from old es cs ns ws)) (others-is l ds) ∙ span-is old (drop (member_of l) ds) cs ns ws t.columns.boxes k

  pub fits-between : 0 < length old → (ss : List ℕ) → ratings_between ss ≡ ws → length ss ≡ length ns + 1 → (L H : Bound) → L ≡ left_limit (limit_of l) (left_distance l ds) → H ≡ right_limit (limit_of r) (sum (drop (member_of l) ds))
      → Fits L H (drop (member_of l) ds) old cs ns ss zs
  fits-between h ss es el L H e_l e_h = record {
    columns = t.columns;
    answer = t.answer;
    left = rw e_l (small-left l (left_distance l ds) t.left left-small);
    right = rw e_h (small-right r (sum (drop (member_of l) ds)) t.right steps-small);
    place = rw (e_l, e_h, ← span-all h) (has-place-of (limit_of l) (left_distance l ds) (boxes_from old (other_distances l ds) cs ns ws) (limit_of r) t.possible);
    olds = t.olds;
    nears = t.nears;
    sums = record { long = el; few = t.neighbours; rated = rw es t.rated };
    offsets = steps-small;
  }

  pub between_is : 0 < length old → placed_between (left_limit (limit_of l) (left_distance l ds)) (right_limit (limit_of r) (sum (drop (member_of l) ds))) (boxes_from old (drop (member_of l) ds) cs ns ws)
      ≡ placed_of (request_of l r old ds cs ns ws)
  unfolding placed_of
  between_is h = let bs = boxes_from old (other_distances l ds) cs ns ws in let L = left_limit (limit_of l) (left_distance l ds) in let e = others-is l ds in
      sym (fast-run (limit_of l) (left_distance l ds) bs (limit_of r) t.order t.possible
      ∙ ap (λ (w : ℕ). placed_between L (right_limit (limit_of r) w) bs) (span-all h)
      ∙ ap (λ es. placed_between L (right_limit (limit_of r) (sum (drop (member_of l) ds))) (boxes_from old es cs ns ws)) e)

  pub none_is : length old ≡ 0 → zs ≡ placed_of (request_of l r old ds cs ns ws)
  unfolding placed_of place_run place_boxes boxes_from
  none_is e = go old zs e t.answer
    where
      go : (os xs : List ℤ) → length os ≡ 0 → length xs ≡ length os → xs ≡ placed_of (request_of l r os ds cs ns ws)
      go [] [] e f = refl
      go [] (x ∷ xs) e f = absurd (omega arith)
      go (o ∷ os) xs e f = absurd (omega arith)
