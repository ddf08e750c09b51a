-- A run placed by halves over its columns is placed as the definition has it. Assumes nothing.
use mathlib.Core.Path.{◌≡◌, refl, sym, ◌∙◌, ap, subst, fun_ext}
use mathlib.Core.Bool.{Bool, true, false, cond, not}
use mathlib.Core.List.{List, [], ◌∷◌, ◌++◌, map}
use Prim.Native.Nat.{ℕ, zero, suc, ◌+◌, ◌-◌, ◌≤◌, ◌<◌, ◌/◌}
use native.Mathlib.Omega.{arith}
use lib.ListN.{length, take, drop, get_or, set, length-take, length-drop, length-append, get_or-append}
use lib.Seq.{take_at, drop_at, take_all, get_or-append-add}
use lib.IntN.{ℤ, pos, ◌-ℤ◌}
use lib.Signed.{lt_z}
use Rattle.ints.specs.Ints.{P, size, ◌⊏◌}
use Rattle.ints.proofs.Laws.{cases_z, make-lt-true, make-lt-false}
use Rattle.run.specs.Run.{Bound as Limit, free, leads_of, total_rating, Box, nondecreasing, start_of, first_of, last_of}
use Rattle.run.specs.inner.Limits.{HasPlace, clamp}
use Rattle.run.proofs.Feasible.{AllConvex, all_nil, all_cons}
use Rattle.ints.proofs.Tests.{and_left, and_right}
use Rattle.run.proofs.Sorted.{sorted}
use Rattle.run.specs.inner.Coordinates.{rated_up_to}
use Rattle.run.proofs.Leads.{lead-positions}
use Rattle.run.proofs.Median.{start-convex}
use Rattle.run.proofs.Coordinates.{price}
use Rattle.run.specs.inner.Bisection.{cut_at, raise_to, Bisected, left_up_to, left_beyond, right_up_to, right_beyond, more_up_to, join_fast, place_fast}
use Rattle.run.proofs.Fast.{fast-meet}
use Rattle.ints.specs.Lists.{sum}
use Rattle.run.specs.Call.{boxes_from}
use Rattle.run_columns.specs.inner.Columns.{parts_in_order, Columns, max_size}
use Rattle.run_halves.specs.inner.Meet.{Cut, more, last_before, first_after, Joined}
use Rattle.run_columns.specs.inner.Counts.{up_to, beyond}
use Rattle.run_halves.specs.inner.Halves.{Placed}
use Rattle.run_columns.proofs.ColumnLaws.{columns-take, columns-drop}
use Rattle.run_columns.proofs.Sized.{sized-append}
use Rattle.run_halves.proofs.Small.{small-joined}
use Rattle.run_halves.proofs.Boxes.{drop-boxes, length-boxes, take-boxes}

-- ---- the ratings of a half of them
swap : (t : Bool) (a : ℕ) → cond (not t) a 0 ≡ cond t 0 a
swap true a = refl
swap false a = refl

module _ (m : ℤ) where
  left_up : (zs os : List ℤ) (ds cs : List ℕ) (ns : List ℤ) (ws : List ℕ) → length os ≡ length cs → up_to true zs cs ns ws m ≡ left_up_to (boxes_from os ds cs ns ws) zs m
  unfolding up_to left_up_to boxes_from
  left_up [] [] ds [] ns ws e = refl
  left_up [] [] ds (c ∷ cs) ns ws e = absurd (omega arith)
  left_up [] (o ∷ os) ds [] ns ws e = absurd (omega arith)
  left_up [] (o ∷ os) ds (c ∷ cs) ns ws e = refl
  left_up (z ∷ zs) [] ds [] ns ws e = refl
  left_up (z ∷ zs) [] ds (c ∷ cs) ns ws e = absurd (omega arith)
  left_up (z ∷ zs) (o ∷ os) ds [] ns ws e = absurd (omega arith)
  left_up (z ∷ zs) (o ∷ os) ds (c ∷ cs) ns ws e = ap (λ (n : ℕ). cond (lt_z m z) (rated_up_to m (leads_of (take c ns) (take c ws))) 0 + n) (left_up zs os (drop 1 ds) cs (drop c ns) (drop c ws) (omega arith))

  left-beyond : (zs os : List ℤ) (ds cs : List ℕ) (ns : List ℤ) (ws : List ℕ) → length os ≡ length cs → beyond true zs cs ns ws m ≡ left_beyond (boxes_from os ds cs ns ws) zs m
  unfolding beyond left_beyond boxes_from
  left-beyond [] [] ds [] ns ws e = refl
  left-beyond [] [] ds (c ∷ cs) ns ws e = absurd (omega arith)
  left-beyond [] (o ∷ os) ds [] ns ws e = absurd (omega arith)
  left-beyond [] (o ∷ os) ds (c ∷ cs) ns ws e = refl
  left-beyond (z ∷ zs) [] ds [] ns ws e = refl
  left-beyond (z ∷ zs) [] ds (c ∷ cs) ns ws e = absurd (omega arith)
  left-beyond (z ∷ zs) (o ∷ os) ds [] ns ws e = absurd (omega arith)
  left-beyond (z ∷ zs) (o ∷ os) ds (c ∷ cs) ns ws e = ap (λ (n : ℕ). cond (lt_z m z) (total_rating (leads_of (take c ns) (take c ws)) - rated_up_to m (leads_of (take c ns) (take c ws))) 0 + n) (left-beyond zs os (drop 1 ds) cs (drop c ns) (drop c ws) (omega arith))

  right-up : (zs os : List ℤ) (ds cs : List ℕ) (ns : List ℤ) (ws : List ℕ) → length os ≡ length cs → up_to false zs cs ns ws m ≡ right_up_to (boxes_from os ds cs ns ws) zs m
  unfolding up_to right_up_to boxes_from
  right-up [] [] ds [] ns ws e = refl
  right-up [] [] ds (c ∷ cs) ns ws e = absurd (omega arith)
  right-up [] (o ∷ os) ds [] ns ws e = absurd (omega arith)
  right-up [] (o ∷ os) ds (c ∷ cs) ns ws e = refl
  right-up (z ∷ zs) [] ds [] ns ws e = refl
  right-up (z ∷ zs) [] ds (c ∷ cs) ns ws e = absurd (omega arith)
  right-up (z ∷ zs) (o ∷ os) ds [] ns ws e = absurd (omega arith)
  right-up (z ∷ zs) (o ∷ os) ds (c ∷ cs) ns ws e = rw (swap (lt_z m z) (rated_up_to m (leads_of (take c ns) (take c ws))), right-up zs os (drop 1 ds) cs (drop c ns) (drop c ws) (omega arith))

  right-beyond : (zs os : List ℤ) (ds cs : List ℕ) (ns : List ℤ) (ws : List ℕ) → length os ≡ length cs → beyond false zs cs ns ws m ≡ right_beyond (boxes_from os ds cs ns ws) zs m
  unfolding beyond right_beyond boxes_from
  right-beyond [] [] ds [] ns ws e = refl
  right-beyond [] [] ds (c ∷ cs) ns ws e = absurd (omega arith)
  right-beyond [] (o ∷ os) ds [] ns ws e = absurd (omega arith)
  right-beyond [] (o ∷ os) ds (c ∷ cs) ns ws e = refl
  right-beyond (z ∷ zs) [] ds [] ns ws e = refl
  right-beyond (z ∷ zs) [] ds (c ∷ cs) ns ws e = absurd (omega arith)
  right-beyond (z ∷ zs) (o ∷ os) ds [] ns ws e = absurd (omega arith)
  right-beyond (z ∷ zs) (o ∷ os) ds (c ∷ cs) ns ws e = rw (swap (lt_z m z) (total_rating (leads_of (take c ns) (take c ws)) - rated_up_to m (leads_of (take c ns) (take c ws))), right-beyond zs os (drop 1 ds) cs (drop c ns) (drop c ws) (omega arith))

-- ---- the join
last-is : (xs : List ℤ) → 0 < length xs → get_or xs (length xs - 1) (pos 0) ≡ last_of xs
unfolding last_of
last-is [] h = absurd (omega arith)
last-is (x ∷ []) h = refl
last-is (x ∷ y ∷ xs) h = let e : length (x ∷ y ∷ xs) - 1 ≡ suc (length (y ∷ xs) - 1) = omega arith in rw e (last-is (y ∷ xs) (omega arith))

first-is : (ys : List ℤ) → 0 < length ys → get_or ys 0 (pos 0) ≡ first_of ys
unfolding first_of
first-is [] h = absurd (omega arith)
first-is (y ∷ ys) h = refl

module _ (k n : ℕ) (xs ys os os' : List ℤ) (ds ds' cs : List ℕ) (ns : List ℤ) (ws : List ℕ) (ek : length xs ≡ k) (eo : length os ≡ length (take k cs)) (eo' : length os' ≡ length (drop k cs)) where
  pub more-is : (m : ℤ) → more k n (xs ++ ys) cs ns ws m ≡ more_up_to (boxes_from os ds (take k cs) (take n ns) (take n ws)) (boxes_from os' ds' (drop k cs) (drop n ns) (drop n ws)) xs ys m
  unfolding more
  more-is m = rw (
    take_at xs ys k ek,
    drop_at xs ys k ek,
    left-beyond m xs os ds (take k cs) (take n ns) (take n ws) eo,
    right-beyond m ys os' ds' (drop k cs) (drop n ns) (drop n ws) eo',
    left_up m xs os ds (take k cs) (take n ns) (take n ws) eo,
    right-up m ys os' ds' (drop k cs) (drop n ns) (drop n ws) eo',
  )

  last-before : 0 < k → last_before k (xs ++ ys) ≡ last_of xs
  last-before h = let e : k - 1 ≡ length xs - 1 = omega arith in
      ap (λ (i : ℕ). get_or (xs ++ ys) i (pos 0)) e ∙ get_or-append xs ys (pos 0) (length xs - 1) (omega arith) ∙ last-is xs (omega arith)

  first-after : 0 < length ys → first_after k (xs ++ ys) ≡ first_of ys
  first-after h = let e : k ≡ length xs + 0 = omega arith in
      ap (λ (i : ℕ). get_or (xs ++ ys) i (pos 0)) e ∙ get_or-append-add xs ys 0 (pos 0) ∙ first-is ys h

  -- the join of two placed halves
  module _ (L H : Limit) (f : ℕ) (out : List ℤ) (hk : 0 < k) (hy : 0 < length ys) (j : Joined k n (xs ++ ys) cs ns ws out) where
    abbrev C : List Box
    C = boxes_from os ds (take k cs) (take n ns) (take n ws)

    abbrev B : List Box
    B = boxes_from os' ds' (drop k cs) (drop n ns) (drop n ws)

    outcome : out ≡ cond (lt_z (first_of ys) (last_of xs)) (cut_at j.place xs ++ raise_to j.place ys) (xs ++ ys)
    outcome = rw (last-before hk, first-after hy, take_at xs ys k ek, drop_at xs ys k ek) at j.outcome

    meets : first_of ys ⊏ last_of xs → Bisected (λ m. more_up_to C B xs ys m) (first_of ys) (P (last_of xs -ℤ first_of ys)) j.place
    meets h = let q = rw (last-before hk, first-after hy) at j.meets in
        subst (λ (t : ℤ → Bool). Bisected t (first_of ys) (P (last_of xs -ℤ first_of ys)) j.place) (fun_ext more-is) (q h)

    pub joined_is : HasPlace L H → length C ≤ f → length B ≤ f → 0 < length C → 0 < length B → AllConvex (map price C) → AllConvex (map price B)
        → xs ≡ place_fast L H f C → ys ≡ place_fast L H f B → out ≡ join_fast C B xs ys
    unfolding join_fast
    joined_is r h_c h_b o_c o_b g_c g_b ex ey = cases_z (last_of xs) (first_of ys)
        (λ h. rw (make-lt-false (first_of ys) (last_of xs) h) (rw (make-lt-false (first_of ys) (last_of xs) h) at outcome))
        (λ h. rw (make-lt-true (first_of ys) (last_of xs) h) at outcome ∙ fast-meet L H r f C B h_c h_b o_c o_b g_c g_b xs ys ex ey h j.place (meets h))

-- ---- the run
fast-many : (L H : Limit) (f : ℕ) (bs : List Box) → 1 < length bs
    → place_fast L H (suc f) bs ≡ join_fast (take (length bs / 2) bs) (drop (length bs / 2) bs) (place_fast L H f (take (length bs / 2) bs)) (place_fast L H f (drop (length bs / 2) bs))
unfolding place_fast
fast-many L H f [] h = absurd (omega arith)
fast-many L H f (b ∷ []) h = absurd (omega arith)
fast-many L H f (b ∷ c ∷ bs) h = refl

pub placed-none : (L H : Limit) (old : List ℤ) (cs : List ℕ) (ns : List ℤ) (ws : List ℕ) (zs : List ℤ) → length old ≡ 0 → length zs ≡ length old → Placed L H old cs ns ws zs
unfolding place_fast boxes_from
placed-none L H [] cs ns ws [] e h = record { answer = λ ds f k. none f; small = λ i k. absurd (omega arith) }
  where
    none : (f : ℕ) → [] ≡ place_fast L H f []
    none zero = refl
    none (suc f) = refl
placed-none L H [] cs ns ws (z ∷ zs) e h = absurd (omega arith)
placed-none L H (o ∷ old) cs ns ws zs e h = absurd (omega arith)

pub placed_one : (L H : Limit) (old : List ℤ) (cs : List ℕ) (ns : List ℤ) (ws : List ℕ) (zs : List ℤ) (x : ℤ) → length old ≡ 1 → Columns old cs ns → length ws ≡ length ns → length zs ≡ length old
    → size x ≤ max_size → x ≡ clamp L H (start_of (get_or old 0 (pos 0)) (leads_of ns ws)) → Placed L H old cs ns ws (set zs 0 x)
unfolding place_fast boxes_from sum
placed_one L H [] cs ns ws zs x e c b a k q = absurd (omega arith)
placed_one L H (o ∷ []) [] ns ws zs x e c b a k q = absurd (omega (arith, c.boxes))
placed_one L H (o ∷ []) (n ∷ []) ns ws [] x e c b a k q = absurd (omega arith)
placed_one L H (o ∷ []) (n ∷ []) ns ws (z ∷ []) x e c b a k q = record {
  answer = λ ds f h. one ds f h;
  small = λ i h. lone i h;
}
  where
    one : (ds : List ℕ) (f : ℕ) → 1 ≤ f → x ∷ [] ≡ place_fast L H f (boxes_from (o ∷ []) ds (n ∷ []) ns ws)
    one ds zero h = absurd (omega arith)
    one ds (suc f) h = rw (take_all n ns (omega (arith, c.neighbours)), take_all n ws (omega (arith, b, c.neighbours))) (ap (λ (y : ℤ). y ∷ []) q)

    lone : (i : ℕ) → i < 1 → size (get_or (x ∷ []) i (pos 0)) ≤ max_size
    lone zero h = k
    lone (suc i) h = absurd (omega arith)
placed_one L H (o ∷ []) (n ∷ []) ns ws (z ∷ z' ∷ zs) x e c b a k q = absurd (omega arith)
placed_one L H (o ∷ []) (n ∷ n' ∷ cs) ns ws zs x e c b a k q = absurd (omega (arith, c.boxes))
placed_one L H (o ∷ o' ∷ old) cs ns ws zs x e c b a k q = absurd (omega arith)

-- the two halves of a run that is cut after k boxes, which have n neighbours
pub record Halved (k n : ℕ) (old : List ℤ) (cs : List ℕ) : Type 0 where
  pub many : 1 < length old
  pub half : k ≡ length old / 2
  pub before : n ≡ sum (take k cs)

-- boxes whose neighbours are in order
convex-boxes : (os : List ℤ) (ds cs : List ℕ) (ns : List ℤ) (ws : List ℕ) → length os ≡ length cs → length ws ≡ length ns → parts_in_order cs ns ≡ true → AllConvex (map price (boxes_from os ds cs ns ws))
unfolding boxes_from parts_in_order
convex-boxes [] ds cs ns ws e l q = all_nil
convex-boxes (o ∷ os) ds [] ns ws e l q = absurd (omega arith)
convex-boxes (o ∷ os) ds (c ∷ cs) ns ws e l q = all_cons
    (start-convex {lo = free} o (leads_of (take c ns) (take c ws)) (rw (lead-positions (take c ns) (take c ws) (omega (arith, length-take c ns, length-take c ws))) (sorted (take c ns) (and_left _ _ q))))
    (convex-boxes os (drop 1 ds) cs (drop c ns) (drop c ws) (omega arith) (omega (arith, length-drop c ns, length-drop c ws)) (and_right (nondecreasing (take c ns)) _ q))

module _ (k n : ℕ) (old : List ℤ) (cs : List ℕ) (ns : List ℤ) (ws : List ℕ) (v : Halved k n old cs) (c : Columns old cs ns) (xs ys : List ℤ) (ex : length xs ≡ k) (ey : length ys ≡ length old - k) where
  pub halves-cut : Cut k n (xs ++ ys) cs ns
  halves-cut = let e = length-append xs ys in record {
    columns = record { boxes = omega (arith, c.boxes, v.half); neighbours = c.neighbours; order = c.order };
    some = omega (arith, v.many, v.half);
    others = omega (arith, v.many, v.half);
    before = v.before;
  }

  pub placed-more : (L H : Limit) (out : List ℤ) → length ws ≡ length ns → HasPlace L H → Placed L H (take k old) (take k cs) (take n ns) (take n ws) xs
      → Placed L H (drop k old) (drop k cs) (drop n ns) (drop n ws) ys → Joined k n (xs ++ ys) cs ns ws out → Placed L H old cs ns ws out
  placed-more L H out l r p q j = record { answer = λ ds f h. more-answer ds f h; small = small-joined k n (xs ++ ys) cs ns ws out halves-cut (sized-append max_size xs ys p.small q.small) j }
    where
      more-answer : (ds : List ℕ) (f : ℕ) → length old ≤ f → out ≡ place_fast L H f (boxes_from old ds cs ns ws)
      more-answer ds zero h = absurd (omega (arith, v.many))
      more-answer ds (suc f) h = let bs = boxes_from old ds cs ns ws in let el = length-boxes old ds cs ns ws c.boxes in
          let C = boxes_from (take k old) ds (take k cs) (take n ns) (take n ws) in let B = boxes_from (drop k old) (drop k ds) (drop k cs) (drop n ns) (drop n ws) in
          let b = c.boxes in let vh = v.half in let vm = v.many in
          let lt = length-take k old in let ld = length-drop k old in
          let bt : length (take k old) ≡ length (take k cs) = omega (arith, length-take k cs) in let bd : length (drop k old) ≡ length (drop k cs) = omega (arith, length-drop k cs) in
          let l_c = length-boxes (take k old) ds (take k cs) (take n ns) (take n ws) bt in let l_b = length-boxes (drop k old) (drop k ds) (drop k cs) (drop n ns) (drop n ws) bd in
          let g_c = convex-boxes (take k old) ds (take k cs) (take n ns) (take n ws) bt (omega (arith, length-take n ns, length-take n ws)) (rw v.before (columns-take k old cs ns c).order) in
          let g_b = convex-boxes (drop k old) (drop k ds) (drop k cs) (drop n ns) (drop n ws) bd (omega (arith, length-drop n ns, length-drop n ws)) (rw v.before (columns-drop k old cs ns c).order) in
          let e_c : xs ≡ place_fast L H f C = p.answer ds f (omega arith) in let e_b : ys ≡ place_fast L H f B = q.answer (drop k ds) f (omega arith) in
          let ek : length bs / 2 ≡ k = ap (λ (i : ℕ). i / 2) el ∙ sym v.half in
          let et : take k bs ≡ C = take-boxes k old ds cs ns ws ∙ ap (λ (i : ℕ). boxes_from (take k old) ds (take k cs) (take i ns) (take i ws)) (sym v.before) in
          let ed : drop k bs ≡ B = drop-boxes k old ds cs ns ws ∙ ap (λ (i : ℕ). boxes_from (drop k old) (drop k ds) (drop k cs) (drop i ns) (drop i ws)) (sym v.before) in
          joined_is k n xs ys (take k old) (drop k old) ds (drop k ds) cs ns ws ex bt bd L H f out (omega arith) (omega arith) j r (omega arith) (omega arith) (omega arith) (omega arith) g_c g_b e_c e_b
          ∙ ap (λ us. join_fast C B us ys) e_c
          ∙ ap (join_fast C B (place_fast L H f C)) e_b
          ∙ sym (rw (ek, et, ed) at (fast-many L H f bs (omega arith)))
