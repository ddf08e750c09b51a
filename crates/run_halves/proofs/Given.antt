-- A run that is placed by halves, its positions and neighbours as they are and an offset for each box: its halves, and that it
-- is the run in run coordinates that is placed so. Assumes nothing.
use mathlib.Core.Path.{◌≡◌, refl, sym, ◌∙◌, ap}
use mathlib.Core.List.{List, [], ◌∷◌, ◌++◌, map, append-nil}
use Prim.Native.Nat.{ℕ, ◌+◌, ◌-◌, ◌≤◌}
use native.Mathlib.Omega.{arith}
use lib.ListN.{length, take, drop, get_or, set, length-take, length-drop, length-append, length-map}
use lib.Seq.{take_all}
use lib.IntN.{ℤ, pos}
use Rattle.ints.specs.Ints.{size}
use Rattle.run.specs.Run.{Bound as Limit, leads_of, start_of}
use Rattle.run.proofs.Leads.{lead-positions}
use Rattle.run.specs.inner.Coordinates.{less, add_offsets}
use Rattle.run.specs.inner.Limits.{clamp}
use Rattle.run.specs.inner.Bisection.{place_fast}
use Rattle.ints.specs.Lists.{sum}
use Rattle.ints.specs.Reach.{reach}
use Rattle.run.specs.Call.{boxes_from}
use Rattle.run_columns.specs.inner.Columns.{Columns, Small, max_size}
use Rattle.run_halves.specs.inner.Meet.{Cut, Joined}
use Rattle.run_halves.specs.inner.Halves.{Placed, Given, Fits, placed_between}
use Rattle.run_columns.specs.inner.Offsets.{offsets_from, less_offsets, less_near, plus_offsets, Near, OffsetsOf}
use Rattle.run_columns.proofs.ColumnLaws.{columns-take, columns-drop, sum-cut}
use Rattle.run_columns.specs.inner.Sums.{ratings_between, SumsOf}
use Rattle.run_columns.proofs.SumLaws.{as_many, between-take, between-drop, sums-take, sums-drop}
use Rattle.run_columns.proofs.Sized.{sized-take, sized-drop, sized-append, sized-map}
use Rattle.run_halves.proofs.SmallBox.{small_one}
use Rattle.run_columns.proofs.OffsetLaws.{offsets-of, offsets-take, offsets-drop, less-take, less-drop, near-take, near-drop, length-near, length-less, less-size, columns-less}
use Rattle.run_halves.proofs.Boxes.{in-run-is, add_is, length-boxes}
use Rattle.run_halves.proofs.ByHalves.{Halved, placed-none, placed_one, halves-cut, placed-more}

-- ---- one box
one-old : (os : List ℕ) (xs : List ℤ) → length os ≡ length xs → length xs ≡ 1 → get_or (less_offsets os xs) 0 (pos 0) ≡ less (get_or os 0 0) (get_or xs 0 (pos 0))
unfolding less_offsets
one-old [] [] e f = absurd (omega arith)
one-old [] (x ∷ xs) e f = absurd (omega arith)
one-old (o ∷ os) [] e f = absurd (omega arith)
one-old (o ∷ os) (x ∷ xs) e f = refl

one-near : (os cs : List ℕ) (ns : List ℤ) → length os ≡ 1 → length cs ≡ 1 → length ns ≡ sum cs → less_near os cs ns ≡ map (less (get_or os 0 0)) ns
unfolding less_near sum
one-near [] cs ns e f h = absurd (omega arith)
one-near (o ∷ os) [] ns e f h = absurd (omega arith)
one-near (o ∷ []) (c ∷ []) ns e f h = rw (take_all c ns (omega arith), append-nil)
one-near (o ∷ []) (c ∷ c' ∷ cs) ns e f h = absurd (omega arith)
one-near (o ∷ o' ∷ os) (c ∷ cs) ns e f h = absurd (omega arith)

module _ (L H : Limit) (old : List ℤ) (os cs : List ℕ) (ns : List ℤ) (ss : List ℕ) (zs : List ℤ) (g : Given L H old os cs ns ss zs) where
  -- the ratings
  abbrev ws : List ℕ
  ws = ratings_between ss

  -- in run coordinates
  long : length (less_offsets os old) ≡ length old
  long = length-less os old g.offsets.boxes

  columns : Columns (less_offsets os old) cs (less_near os cs ns)
  columns = let c = columns-less os old cs ns g.offsets.boxes g.columns in record { boxes = long ∙ c.boxes; neighbours = c.neighbours; order = c.order }

  as_long : length ws ≡ length (less_near os cs ns)
  as_long = as_many g.sums ∙ sym (length-near os cs ns (g.offsets.boxes ∙ g.columns.boxes) g.columns.neighbours)

  -- no box, or one
  pub given-none : length old ≡ 0 → Placed L H (less_offsets os old) cs (less_near os cs ns) ws zs
  given-none e = placed-none L H (less_offsets os old) cs (less_near os cs ns) ws zs (long ∙ e) (g.answer ∙ sym long)

  pub given-one : (x : ℤ) → length old ≡ 1 → x ≡ clamp L H (start_of (less (get_or os 0 0) (get_or old 0 (pos 0))) (leads_of (map (less (get_or os 0 0)) ns) ws))
      → Placed L H (less_offsets os old) cs (less_near os cs ns) ws (set zs 0 x)
  given-one x e q = let o = get_or os 0 0 in let s = g.offsets.small 0 in
      let k : size x ≤ max_size = rw q (small_one L H (less o (get_or old 0 (pos 0))) (leads_of (map (less o) ns) ws) g.left g.right (less-size o (get_or old 0 (pos 0)) (g.olds 0 (omega arith)) s)
      (rw (lead-positions (map (less o) ns) ws (omega (arith, length-map ns (less o), as_many g.sums))) (sized-map reach max_size (less o) (λ x p. less-size o x p s) ns g.nears))) in
      placed_one L H (less_offsets os old) cs (less_near os cs ns) ws zs x (long ∙ e) columns as_long (g.answer ∙ sym long) k
      (rw (one-old os old g.offsets.boxes e, one-near os cs ns (g.offsets.boxes ∙ e) (sym g.columns.boxes ∙ e) g.columns.neighbours) q)

  -- its halves, cut after k boxes, which have n neighbours
  module _ (k n : ℕ) (v : Halved k n old cs) where
    within : n ≤ length ns
    within = omega (arith, v.before, sum-cut k cs, g.columns.neighbours)

    pub given-left : Given L H (take k old) (take k os) (take k cs) (take n ns) (take (n + 1) ss) (take k zs)
    given-left = record {
      columns = rw v.before (columns-take k old cs ns g.columns);
      offsets = offsets-take k os old g.offsets;
      answer = omega (arith, length-take k zs, length-take k old, g.answer);
      left = g.left;
      right = g.right;
      place = g.place;
      olds = sized-take reach k old g.olds;
      nears = sized-take reach n ns g.nears;
      sums = sums-take n within g.sums;
    }

    pub given-right : (ys : List ℤ) → length ys ≡ length old - k → Given L H (drop k old) (drop k os) (drop k cs) (drop n ns) (drop n ss) ys
    given-right ys e = record {
      columns = rw v.before (columns-drop k old cs ns g.columns);
      offsets = offsets-drop k os old g.offsets;
      answer = omega (arith, length-drop k old);
      left = g.left;
      right = g.right;
      place = g.place;
      olds = sized-drop reach k old g.olds;
      nears = sized-drop reach n ns g.nears;
      sums = sums-drop n within g.sums;
    }

    module _ (xs ys : List ℤ) (ex : length xs ≡ k) (ey : length ys ≡ length old - k)
        (p : Placed L H (less_offsets (take k os) (take k old)) (take k cs) (less_near (take k os) (take k cs) (take n ns)) (ratings_between (take (n + 1) ss)) xs)
        (q : Placed L H (less_offsets (drop k os) (drop k old)) (drop k cs) (less_near (drop k os) (drop k cs) (drop n ns)) (ratings_between (drop n ss)) ys) where
      -- what their join asks
      pub given-join : (Cut k n (xs ++ ys) cs ns × OffsetsOf os (xs ++ ys)) × (Small (xs ++ ys) × Near ns × SumsOf ss ns)
      given-join = (
        (halves-cut k n old cs ns ws v g.columns xs ys ex ey, record { boxes = omega (arith, length-append xs ys, g.offsets.boxes, v.half, v.many); small = g.offsets.small }),
        (sized-append max_size xs ys p.small q.small, g.nears, g.sums),
      )

      pub given-more : (out : List ℤ) → Joined k n (xs ++ ys) cs (less_near os cs ns) ws out → Placed L H (less_offsets os old) cs (less_near os cs ns) ws out
      given-more out j = let b = g.offsets.boxes ∙ g.columns.boxes in let m = g.columns.neighbours in
          let w : Halved k n (less_offsets os old) cs = record { many = rw long v.many; half = rw long v.half; before = v.before } in
          let et : take n (less_near os cs ns) ≡ less_near (take k os) (take k cs) (take n ns) = rw v.before (near-take k os cs ns b m) in
          let ed : drop n (less_near os cs ns) ≡ less_near (drop k os) (drop k cs) (drop n ns) = rw v.before (near-drop k os cs ns b m) in
          placed-more k n (less_offsets os old) cs (less_near os cs ns) ws w columns xs ys ex (rw long ey) L H out as_long g.place
          (rw (less-take k os old, et, ← between-take n ss) p) (rw (less-drop k os old g.offsets.boxes, ed, ← between-drop n ss) q) j

-- ---- placing between limits
module _ (L H : Limit) (ds : List ℕ) (old : List ℤ) (cs : List ℕ) (ns : List ℤ) (ss : List ℕ) (zs : List ℤ) (f : Fits L H ds old cs ns ss zs) where
  pub given-between : Given L H old (offsets_from 0 ds (length old)) cs ns ss zs
  given-between = record {
    columns = f.columns;
    offsets = offsets-of ds old f.offsets;
    answer = f.answer;
    left = f.left;
    right = f.right;
    place = f.place;
    olds = f.olds;
    nears = f.nears;
    sums = f.sums;
  }

  pub placed-between : (xs : List ℤ) → length xs ≡ length old → let os = offsets_from 0 ds (length old) in Placed L H (less_offsets os old) cs (less_near os cs ns) (ratings_between ss) xs
      → plus_offsets os xs ≡ placed_between L H (boxes_from old ds cs ns (ratings_between ss))
  placed-between xs e q = let ws = ratings_between ss in let bs = boxes_from old ds cs ns ws in let c = f.columns in let el = length-boxes old ds cs ns ws c.boxes in
      let l = length-less (offsets_from 0 ds (length old)) old (offsets-of ds old f.offsets).boxes in
      add_is 0 old ds cs ns ws xs c.boxes e
      ∙ ap (add_offsets 0 bs) (q.answer ds (length bs) (omega arith) ∙ ap (place_fast L H (length bs)) (in-run-is 0 old ds cs ns ws c.boxes c.neighbours))
