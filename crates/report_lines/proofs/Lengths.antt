-- How many bytes a report's lines have.
use mathlib.Core.Path.{◌≡◌}
use mathlib.Core.Bool.{true}
use mathlib.Core.List.{List, [], ◌∷◌, ◌++◌, map, map-append}
use Prim.Native.Nat.{ℕ, suc, ◌+◌, ◌-◌, ◌*◌, ◌≤◌, ◌<◌}
use native.Mathlib.Nat.{mul-le-mul_left, mul-le-mul_right}
use native.Mathlib.Omega.{arith}
use lib.ListN.{length, length-append, get_or-eq_default}
use lib.IntN.{ℤ, pos, negsuc}
use Rattle.ints.specs.Ints.{size}
use Rattle.ints.specs.Lists.{concat}
use Rattle.ints.proofs.Laws.{cases}
use Rattle.ints.proofs.Reach.{within-size, within-get, within-at}
use Rattle.plan.specs.Limits.{max_vertices}
use Rattle.plan.specs.Plan.{PlanData, vertex_count, numbers, level_in, level_of, height_of}
use Rattle.plan.proofs.LevelLaws.{level-most}
use Rattle.text.specs.Decimal.{signed}
use Rattle.text.proofs.DecimalLaws.{decimal-length}
use Rattle.ints.proofs.Lists.{concat-append}
use Rattle.passes.specs.State.{position_of}
use Rattle.passes.specs.Drawing.{BoxAt, Placing, Drawing}
use Rattle.ints.specs.Reach.{reach, is_within}
use Rattle.passes.specs.Words.{boxes_listed, max_listed}
use Rattle.report.specs.Lines.{drawing_line, at_line, at_line_of, box_words, place_line, end_line, report_lines}
use Rattle.plan.proofs.All.{All, all_nil, all_cons, all_map, all_append, all_left, all_right, all-get, all-of-get}
use Rattle.plan.proofs.Levels.{all-numbers}
use Rattle.report_lines.specs.inner.Stored.{line_of, place_lines, max_line, max_report}
use Rattle.report_lines.proofs.Listed.{preliminary-within, final-within, boxes-within, few-placings, few-boxes}
use Rattle.report_lines.proofs.Printable.{PrintablePlacing, Printable, all-mapped}
use Rattle.report_lines.proofs.ByNumber.{at_lines, at-lines, lines_from}

-- ---- numbers
signed-short : (z : ℤ) → size z ≤ reach → length (signed z) ≤ 14
unfolding signed
signed-short (pos n) h = omega (arith, decimal-length 12 n (omega arith))
signed-short (negsuc n) h = omega (arith, decimal-length 12 (suc n) (omega arith))

-- ---- lines
drawing-short : (v k : ℕ) → v ≤ max_vertices → k ≤ max_listed → length (drawing_line v k) ≤ 20
unfolding drawing_line
drawing-short v k a b =
    let lv = decimal-length 3 v (omega arith) in
    let lk = decimal-length 3 k (omega arith) in
    simp length-append (omega arith)

at-short : (n : ℕ) (p x : ℤ) (y : ℕ) → n < max_vertices → size p ≤ reach → size x ≤ reach → y ≤ 640000 → length (at_line n p x y) ≤ 47
unfolding at_line
at-short n p x y a b c d =
    let ln = decimal-length 3 n (omega arith) in
    let lp = signed-short p b in
    let lx = signed-short x c in
    let ly = decimal-length 5 y (omega arith) in
    simp length-append (omega arith)

abbrev Within : List BoxAt → Type 0
Within bs = All (λ (z : ℤ). is_within z ≡ true) (map (λ (b : BoxAt). b.position) bs)

boxes-short : {n : ℕ} → n ≤ max_vertices → (bs : List BoxAt) → All (λ (b : BoxAt). b.vertex < n) bs → Within bs → length (box_words bs) ≤ 22 * length bs
unfolding box_words
boxes-short m [] all_nil w = omega arith
boxes-short m (b ∷ bs) (all_cons h hs) (all_cons k ks) =
    let ln = decimal-length 3 b.vertex (omega arith) in
    let lx = signed-short b.position (within-size b.position k) in
    simp length-append (omega (arith, boxes-short m bs hs ks))

place_short : {n : ℕ} → n ≤ max_vertices → (q : Placing) → PrintablePlacing n q → Within q.boxes → length (place_line q) ≤ 13 + 22 * length q.boxes
unfolding place_line
place_short m q s w =
    let lq = decimal-length 0 q.pass (omega (arith, s.pass)) in
    let ll = decimal-length 1 q.level (omega (arith, s.level)) in
    simp length-append (omega (arith, boxes-short m q.boxes s.vertices w))

-- ---- the parts of a report
concat-short : (ws : List (List ℕ)) → All (λ (w : List ℕ). length w ≤ 47) ws → length (concat ws) ≤ 47 * length ws
unfolding concat
concat-short [] all_nil = omega arith
concat-short (w ∷ ws) (all_cons h hs) = simp length-append (omega (arith, concat-short ws hs))

-- each placing's line, and all of them
each-place : {n : ℕ} → n ≤ max_vertices → (qs : List Placing) → All (PrintablePlacing n) qs → Within (boxes_listed qs) → All (λ (w : List ℕ). length w ≤ max_line) (map place_line qs)
unfolding boxes_listed
each-place m [] all_nil w = all_nil
each-place m (q ∷ qs) (all_cons s ss) w =
    let both = rw (map-append (λ (b : BoxAt). b.position) q.boxes (boxes_listed qs)) at w in
    let ps = map (λ (b : BoxAt). b.position) q.boxes in
    let more = map (λ (b : BoxAt). b.position) (boxes_listed qs) in
    let one : length (place_line q) ≤ max_line = omega (arith, place_short m q s (all_left ps more both), s.boxes) in
    all_cons one (each-place m qs ss (all_right ps more both))

places-short : {n : ℕ} → n ≤ max_vertices → (qs : List Placing) → All (PrintablePlacing n) qs → Within (boxes_listed qs) → length (place_lines qs) ≤ 13 * length qs + 22 * length (boxes_listed qs)
unfolding boxes_listed concat
places-short m [] all_nil w = omega arith
places-short m (q ∷ qs) (all_cons s ss) w =
    let both = rw (map-append (λ (b : BoxAt). b.position) q.boxes (boxes_listed qs)) at w in
    let ps = map (λ (b : BoxAt). b.position) q.boxes in
    let more = map (λ (b : BoxAt). b.position) (boxes_listed qs) in
    simp length-append (omega (arith, place_short m q s (all_left ps more both), places-short m qs ss (all_right ps more both)))

module _ {p : PlanData} {d : Drawing} (s : Printable p d) where
  height-small : (v : ℕ) → height_of p (level_of p v) ≤ 640000
  unfolding level_of height_of
  height-small v =
      let few : level_in p.sizes v - 1 ≤ 64 = omega (arith, level-most p.sizes v, s.levels) in
      omega (arith, mul-le-mul_left p.spacing few, mul-le-mul_right 64 s.spacing)

  each_at : All (λ (w : List ℕ). length w ≤ 47) (map (at_line_of p d) (numbers 0 (vertex_count p)))
  unfolding at_line_of
  each_at = all-mapped (at_line_of p d) (all-numbers 0 (vertex_count p) (λ v l h.
      at-short v (position_of d.preliminary v) (position_of d.final v) (height_of p (level_of p v)) (omega (arith, s.vertices))
      (within-at d.preliminary v (preliminary-within d s.within)) (within-at d.final v (final-within d s.within)) (height-small v)))

  boxes-in : Within (boxes_listed d.placings)
  boxes-in = let xs = map (λ (b : BoxAt). b.position) (boxes_listed d.placings) in
      all-of-get xs (pos 0) (λ i l. within-get xs i (boxes-within d s.within))

  -- ---- every line, and the whole
  each_line : All (λ (w : List ℕ). length w ≤ max_line) (report_lines p d)
  unfolding report_lines
  each_line =
      let first : length (drawing_line (vertex_count p) (length d.placings)) ≤ max_line =
      omega (arith, drawing-short (vertex_count p) (length d.placings) s.vertices (few-placings d s.within)) in
      let last : length end_line ≤ max_line = omega arith in
      all_append (all_append (all_cons first (all_map (λ w h. omega arith) each_at)) (each-place s.vertices d.placings s.placings boxes-in)) (all_cons last all_nil)

  pub line-short : (n : ℕ) → length (line_of p d n) ≤ max_line
  line-short n = cases (length (report_lines p d)) n
      (λ l. rw (get_or-eq_default (report_lines p d) [] l) (omega arith))
      (λ l. all-get (report_lines p d) [] each_line n l)

  pub report-short : length (concat (report_lines p d)) ≤ max_report
  unfolding concat
  report-short =
      let first = drawing-short (vertex_count p) (length d.placings) s.vertices (few-placings d s.within) in
      let ats = concat-short (at_lines p d) each_at in
      let places = places-short s.vertices d.placings s.placings boxes-in in
      rw (lines_from p d, concat-append (at_lines p d) (map place_line d.placings ++ end_line ∷ []), concat-append (map place_line d.placings) (end_line ∷ []))
      (simp length-append (omega (arith, first, ats, places, at-lines p d, few-placings d s.within, few-boxes d s.within, s.vertices)))
