-- No line of a plan's text is longer than 648 bytes: 8 of a level line and 10 for each of its 64 vertices. Assumes nothing.
use mathlib.Core.Path.{◌≡◌}
use mathlib.Core.Bool.{Bool, true, false, cond}
use mathlib.Core.List.{List, [], ◌∷◌, ◌++◌, map}
use Prim.Native.Nat.{ℕ, zero, suc, ◌+◌, ◌-◌, ◌*◌, ◌<◌, ◌≤◌}
use native.Mathlib.Omega.{arith}
use lib.Dec.{eqb}
use lib.ListN.{length, get_or, take, length-append}
use Rattle.ints.specs.Lists.{sum, concat}
use Rattle.ints.proofs.Laws.{cases}
use Rattle.ints.proofs.Members.{get_or-mem}
use Rattle.ints.proofs.Ratings.{rating-most, ratings-get}
use Rattle.plan.specs.Limits.{max_half_width}
use Rattle.plan.specs.Plan.{PlanData, is_via, half_width}
use Rattle.plan.specs.Segments.{Rated, segments_from, segments_of}
use Rattle.plan.specs.Checks.{check3}
use Rattle.plan.specs.Acceptable.{limits_hold}
use Rattle.plan.specs.inner.Graph.{segment}
use Rattle.plan.proofs.Levels.{length-numbers}
use Rattle.plan.proofs.LimitLaws.{Limits, limits}
use Rattle.plan.proofs.SegmentLaws.{segment-at, segments-count}
use Rattle.plan.proofs.GraphLaws.{Down}
use Rattle.plan.proofs.Sound.{goes}
use Rattle.text.specs.Bytes.{bytes}
use Rattle.text.specs.Decimal.{decimal}
use Rattle.text.specs.Writing.{plan_line, vertex_words, level_line_of, rating_words, segment_line_of, lines_of}
use Rattle.text.proofs.DecimalLaws.{decimal-length}
use Rattle.text_write.specs.inner.Data.{line_of, level_vertices, rated_segment}
use Rattle.text_write.proofs.LineLaws.{line-plan, line-level, line-segment, line-last}

abbrev pub max_text_line : ℕ
max_text_line = 648

module _ (p : PlanData) (l : Limits p) where
  head-short : length (plan_line p) ≤ 20
  unfolding plan_line
  head-short =
      let a = decimal-length 1 p.levels (omega (arith, l.levels_high)) in
      let b = decimal-length 2 p.gap (omega (arith, l.gap_high)) in
      let c = decimal-length 4 p.spacing (omega (arith, l.spacing_high)) in
      simp length-append (omega arith)

  vertex-short : (v : ℕ) → length (vertex_words p v) ≤ 10
  unfolding vertex_words
  vertex-short v = go (is_via p v) (half_width p v) (l.halves_high v)
    where
      go : (b : Bool) (n : ℕ) → n ≤ max_half_width → length (cond b (bytes " (via)") (bytes " (box " ++ decimal n ++ bytes ")")) ≤ 10
      go true n h = omega arith
      go false n h = let d = decimal-length 2 n (omega arith) in simp length-append (omega arith)

  vertices-short : (vs : List ℕ) → length (concat (map (vertex_words p) vs)) ≤ 10 * length vs
  unfolding concat
  vertices-short [] = omega arith
  vertices-short (v ∷ vs) = simp length-append (omega (arith, vertex-short v, vertices-short vs))

  level-short : (vs : List ℕ) → length (level_line_of p vs) ≤ 8 + 10 * length vs
  unfolding level_line_of
  level-short vs = simp length-append (omega (arith, vertices-short vs))

rating-short : (w : ℕ) → w ≤ 100 → length (rating_words w) ≤ 4
unfolding rating_words
rating-short w h = go (eqb w 1)
  where
    go : (b : Bool) → length (cond b [] (bytes " " ++ decimal w)) ≤ 4
    go true = omega arith
    go false = let d = decimal-length 2 w (omega arith) in simp length-append (omega arith)

segment-short : (r : Rated) → r.segment.upper < 1024 → r.segment.lower < 1024 → r.rating ≤ 100 → length (segment_line_of r) ≤ 20
unfolding segment_line_of
segment-short r a b h =
    let la = decimal-length 3 r.segment.upper (omega arith) in
    let lb = decimal-length 3 r.segment.lower (omega arith) in
    simp length-append (omega (arith, rating-short r.rating h))

module _ (p : PlanData) (q : limits_hold p ≡ true) (three : check3 p ≡ true) where
  its : Limits p
  its = limits p q

  segment-line : (i : ℕ) → i < length p.uppers → length (segment_line_of (rated_segment (get_or p.uppers i 0) (get_or p.lowers i 0) (get_or p.ratings i 0))) ≤ 20
  unfolding segments_of
  segment-line i h =
      let at = segment-at p.uppers p.lowers i its.ends_long h in
      let d = goes p three (get_or (segments_from p.uppers p.lowers) i (segment 0 0)) (get_or-mem (segments_from p.uppers p.lowers) i (segment 0 0) (omega (arith, segments-count p.uppers p.lowers its.ends_long))) in
      let e : Down p (segment (get_or p.uppers i 0) (get_or p.lowers i 0)) = rw at at d in
      segment-short _ (omega (arith, e.upper_in, its.vertices)) (omega (arith, e.lower_in, its.vertices))
      (rating-most (get_or p.ratings i 0) (ratings-get p.ratings i its.ratings (omega (arith, its.ratings_long))))

  level-line : (n : ℕ) → length (level_line_of p (level_vertices p.sizes n)) ≤ max_text_line
  level-line n = omega (arith, level-short p its (level_vertices p.sizes n), length-numbers (sum (take n p.sizes)) (get_or p.sizes n 0), its.sizes_high n)

  pub line-short : (n : ℕ) → n < length (lines_of p) → length (line_of p n) ≤ max_text_line
  line-short zero h = rw (line-plan p) (omega (arith, head-short p its))
  line-short (suc n) h =
      let at = suc n - 1 - length p.sizes in
      cases (suc n) (length p.sizes)
      (λ k. rw (line-level p (suc n) (omega arith) k) (level-line (suc n - 1)))
      (λ k. cases (length p.uppers) at
      (λ j. rw (line-last p (suc n) k (its.ends_long, its.ratings_long) j h) (omega arith))
      (λ j. rw (line-segment p (suc n) k (its.ends_long, its.ratings_long) j) (omega (arith, segment-line at j))))
