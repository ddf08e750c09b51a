-- No picture is longer than 1,306,334 bytes: 2,048 lines of 102, 1,024 bends of 68, 1,024 boxes of 363, ten bytes for each of the names, and
-- what stands around them. Assumes nothing.
use mathlib.Core.Path.{◌≡◌, sym, ◌∙◌}
use mathlib.Core.Bool.{Bool, false}
use mathlib.Core.List.{List, [], map}
use Prim.Native.Nat.{ℕ, ◌+◌, ◌*◌, ◌≤◌, ◌<◌}
use native.Mathlib.Omega.{arith}
use lib.ListN.{length, get_or, length-append, length-map}
use lib.IntN.{ℤ}
use Rattle.ints.specs.Lists.{sum}
use Rattle.ints.proofs.Laws.{if-ind}
use Rattle.ints.proofs.Reach.{within-at}
use Rattle.plan.specs.Plan.{PlanData, vertex_count, numbers}
use Rattle.plan.proofs.Levels.{length-numbers}
use Rattle.plan.proofs.Sound.{sound}
use Rattle.marks.specs.Marks.{box, bend, depth_of}
use Rattle.passes.specs.State.{position_of}
use Rattle.picture_numbers.proofs.Lengths.{amount-short}
use Rattle.picture_view.specs.Measure.{measure, leftmost, rightmost}
use Rattle.picture_view.specs.View.{view_height}
use Rattle.picture_view.proofs.MeasureLaws.{leftmost-size, rightmost-size}
use Rattle.picture_view.proofs.Lengths.{style-long, head-short}
use Rattle.picture_elements.specs.Elements.{bend_of, box_of}
use Rattle.picture_elements.specs.inner.Near.{Near, NearVertex}
use Rattle.picture_elements.proofs.Lengths.{line-short, bend-short, box-short}
use Rattle.picture_marks.specs.Picture.{picture_of}
use Rattle.picture_marks.specs.inner.Asked.{DrawnPlan, max_picture}
use Rattle.picture_marks.specs.inner.Listed.{Stands, segment_line, lines_in, LinesAsked, vertex_bend, bends_in, BendsAsked}
use Rattle.picture_marks.specs.inner.Listed.{vertex_box, boxes_in, BoxesStand, opening_in, OpeningAsked, document_in, DocumentStands}
use Rattle.picture_marks.proofs.Walk.{walk-short, walk-named}
use Rattle.picture_marks.proofs.ByLists.{picture-is, line-pen, document-stands, given-at}

near : {heights : List ℕ} {xs : List ℤ} → Stands heights xs → (v : ℕ) → v < length xs → Near (position_of xs v) (get_or heights v 0)
near {heights} {xs} s v h = (within-at xs v s.within, s.low v h)

near-vertex : {u : ℕ} {heights : List ℕ} {vias : List Bool} {xs : List ℤ} → BendsAsked u heights vias xs → (v : ℕ) → v < length vias
    → NearVertex u v (position_of xs v) (get_or heights v 0)
near-vertex b v h =
    record { measure = b.measure; number = omega (arith, b.stands.few, b.kinds); point = near b.stands v (omega (arith, b.kinds)) }

lines-short : (u : ℕ) (heights uppers lowers ratings : List ℕ) (xs : List ℤ) → LinesAsked u heights uppers lowers ratings xs
    → length (lines_in u heights uppers lowers ratings xs) ≤ 102 * length uppers
lines-short u heights uppers lowers ratings xs l = walk-short (segment_line u heights uppers lowers ratings xs) 102 0 (length uppers) (λ i h. each i h)
  where
    each : (i : ℕ) → i < length uppers → length (segment_line u heights uppers lowers ratings xs (0 + i)) ≤ 102
    each i h =
        let z : 0 + i ≡ i = omega arith in
        let a = get_or uppers i 0 in
        let b = get_or lowers i 0 in
        rw z (line-short u (get_or ratings i 0) (position_of xs a) (get_or heights a 0) (position_of xs b) (get_or heights b 0) (line-pen l i h)
        (near l.stands a (l.upper i h)) (near l.stands b (l.lower i (omega (arith, l.ends)))))

bends-short : (u : ℕ) (heights : List ℕ) (vias : List Bool) (xs : List ℤ) → BendsAsked u heights vias xs → length (bends_in u heights vias xs) ≤ 68 * length vias
bends-short u heights vias xs b = walk-short (vertex_bend u heights vias xs) 68 0 (length vias) (λ i h. each i h)
  where
    each : (i : ℕ) → i < length vias → length (vertex_bend u heights vias xs (0 + i)) ≤ 68
    each i h =
        let z : 0 + i ≡ i = omega arith in
        let x = position_of xs i in
        let y = get_or heights i 0 in
        rw z (if-ind (get_or vias i false) (bend_of u i (bend x y)) [] (λ (l : List ℕ). length l ≤ 68) (λ e. bend-short u i x y (near-vertex b i h)) (λ e. omega arith))

boxes-short : (u : ℕ) (heights : List ℕ) (vias : List Bool) (halves : List ℕ) (xs : List ℤ) (names : List (List ℕ)) → BoxesStand u heights vias halves xs → length names ≡ length vias
    → length (boxes_in u heights vias halves xs (λ v. get_or names v [])) ≤ 363 * length names + 10 * sum (map length names)
boxes-short u heights vias halves xs names b long =
    rw (sym long) (walk-named (vertex_box u heights vias halves xs (λ v. get_or names v [])) 363 0 names (λ i h. each i (omega arith)))
  where
    each : (i : ℕ) → i < length vias → length (vertex_box u heights vias halves xs (λ v. get_or names v []) (0 + i)) ≤ 363 + 10 * length (get_or names i [])
    each i h =
        let z : 0 + i ≡ i = omega arith in
        let x = position_of xs i in
        let y = get_or heights i 0 in
        let w = get_or halves i 0 in
        let name = get_or names i [] in
        rw z (if-ind (get_or vias i false) [] (box_of u name i (box x y w)) (λ (l : List ℕ). length l ≤ 363 + 10 * length name)
        (λ e. omega arith)
        (λ e. box-short u name i x y w (record { vertex = near-vertex b.bends i h; some = b.some; wide = b.wide i h e; narrow = b.narrow i })))

opening-short : (u h : ℕ) (halves : List ℕ) (xs : List ℤ) → OpeningAsked u h halves xs → length (opening_in u h halves xs) ≤ 653
opening-short u h halves xs o =
    let e = o.edged in
    let head = head-short (leftmost halves xs) (rightmost halves xs) u h (record {
      left = omega (arith, leftmost-size halves xs e.narrow e.within);
      right = omega (arith, rightmost-size halves xs e.narrow e.within);
      measure = o.measure;
      high = o.high;
    }) in
    let pen = amount-short 2 (20 * u) (omega (arith, o.measure)) in
    simp length-append (omega (arith, style-long))

document-short : (u h : ℕ) (heights : List ℕ) (vias : List Bool) (halves uppers lowers ratings : List ℕ) (xs : List ℤ) (names : List (List ℕ))
    → DocumentStands u h heights vias halves uppers lowers ratings xs → length names ≡ length vias → sum (map length names) ≤ 65536 → length vias ≤ 1024 → length uppers ≤ 2048
    → length (document_in u h heights vias halves uppers lowers ratings xs (λ v. get_or names v [])) ≤ max_picture
document-short u h heights vias halves uppers lowers ratings xs names d long short vertices segments =
    let a = opening-short u h halves xs d.opening in
    let b = lines-short u heights uppers lowers ratings xs d.lines in
    let c = bends-short u heights vias xs d.boxes.bends in
    let e = boxes-short u heights vias halves xs names d.boxes long in
    let pen = amount-short 2 (20 * u) (omega (arith, d.opening.measure)) in
    simp length-append (omega (arith, simp length-append at a))

module _ (p : PlanData) (xs : List ℤ) (names : List (List ℕ)) where
  pub picture-short : DrawnPlan p xs → length names ≡ vertex_count p → sum (map length names) ≤ 65536 → length (picture_of p xs names) ≤ max_picture
  picture-short a long short =
      let heights = map (depth_of p) (numbers 0 (vertex_count p)) in
      let stands : (v : ℕ) → v < vertex_count p → depth_of p v ≡ get_or heights v 0 = λ v h. sym (given-at (depth_of p) 0 (vertex_count p) v h) in
      let l = (sound p a.plan).limits in
      rw (picture-is p xs heights stands a.plan names (λ v. get_or names v []) (λ v h. refl' v))
      (document-short (measure p) (view_height p) heights p.vias p.halves p.uppers p.lowers p.ratings xs names
      (document-stands p xs a heights (length-map (numbers 0 (vertex_count p)) (depth_of p) ∙ length-numbers 0 (vertex_count p)) stands) long short l.vertices l.segments)
    where
      refl' : (v : ℕ) → get_or names v [] ≡ get_or names v []
      refl' v = cc
