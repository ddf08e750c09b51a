-- The lines of a plan's data within the limits: its vertices, cut into rows by the level sizes, and its segments with their ratings.
-- What is stored of them is the plan again.
use mathlib.Core.Path.{◌≡◌, refl, sym, ◌∙◌, ap, fun_ext}
use mathlib.Core.Bool.{Bool, true, false, cond, ◌&&◌}
use mathlib.Core.List.{List, [], ◌∷◌, map, map-map}
use mathlib.Core.Option.{Option, none, some}
use Prim.Native.Nat.{ℕ, suc}
use native.Mathlib.Omega.{arith}
use borrow.Author.Tests.{leb-true, le-leb, lt-ltb, eqb-true, eqb-false}
use lib.Dec.{leb, eqb}
use lib.ListN.{length, take, drop, length-drop, take-append-drop}
use lib.Seq.{length-take-le}
use Rattle.ints.specs.Lists.{sum, concat}
use Rattle.ints.specs.Ratings.{max_rating, is_rating, all_ratings}
use Rattle.ints.proofs.Ratings.{rating-least, rating-most, rating-make}
use Rattle.plan.specs.Plan.{PlanData}
use Rattle.plan.specs.Segments.{Segment, Rated, segments_from, segments_of, rated_from, rated_of}
use Rattle.plan.specs.Limits.{max_half_width}
use Rattle.plan.specs.Checks.{every}
use Rattle.plan.specs.Acceptable.{half_holds, halves_hold}
use Rattle.plan.proofs.LimitLaws.{within-least, within-most}
use Rattle.plan.proofs.RatedLaws.{rated-segments, rated-ratings}
use Rattle.plan.proofs.SegmentLaws.{uppers-again, lowers-again, segments-count}
use Rattle.ints.proofs.Tests.{and_left, and_right, test, ◌and◌}
use Rattle.text.specs.Form.{Vertex, SegmentLine, Lines}
use Rattle.text.specs.Reading.{half_in_limit, rating_in_limit, rating_of, stored}
use Rattle.text.proofs.Words.{never}
use Rattle.text.proofs.TestLaws.{every_one, every-cons, every_append, every-both}
use Rattle.text.proofs.WrittenLines.{vertex_ok}

-- ---- vertices
unfoldable pub vertices_from : List Bool → List ℕ → List Vertex
vertices_from [] hs = []
vertices_from (v ∷ vs) [] = []
vertices_from (v ∷ vs) (h ∷ hs) = record { via = v; half = h } ∷ vertices_from vs hs

-- A vertex has its half-width if it can be read and is within the limit.
half-vertex : (v : Bool) (h : ℕ) → half_holds v h ≡ true → (vertex_ok (record { via = v; half = h }) ≡ true) × (half_in_limit (record { via = v; half = h }) ≡ true)
half-vertex true h e = (e, refl)
half-vertex false h e = let l = leb-true h max_half_width (and_right (leb 1 h) (leb h max_half_width) e) in (lt-ltb h 100000 (omega arith), e)

vertex-half : (v : Bool) (h : ℕ) → vertex_ok (record { via = v; half = h }) ≡ true → half_in_limit (record { via = v; half = h }) ≡ true → half_holds v h ≡ true
vertex-half true h e k = e
vertex-half false h e k = k

pub halves-hold : (vs : List Vertex) → every vertex_ok vs ≡ true → every half_in_limit vs ≡ true → halves_hold (map (λ v. v.via) vs) (map (λ v. v.half) vs) ≡ true
unfolding halves_hold
halves-hold [] e k = refl
halves-hold (v ∷ vs) e k =
    let a = every_one vertex_ok v vs e in
    let b = every_one half_in_limit v vs k in
    rw (vertex-half v.via v.half a.0 b.0, halves-hold vs a.1 b.1)

pub record Vertices (vias : List Bool) (halves : List ℕ) : Type 0 where
  pub vias_again : map (λ v. v.via) (vertices_from vias halves) ≡ vias
  pub halves_again : map (λ v. v.half) (vertices_from vias halves) ≡ halves
  pub count : length (vertices_from vias halves) ≡ length vias
  pub ok : every vertex_ok (vertices_from vias halves) ≡ true
  pub in_limit : every half_in_limit (vertices_from vias halves) ≡ true

pub vertices-of : (vias : List Bool) (halves : List ℕ) → halves_hold vias halves ≡ true → Vertices vias halves
unfolding halves_hold vertices_from every
vertices-of [] [] e = record { vias_again = refl; halves_again = refl; count = refl; ok = refl; in_limit = refl }
vertices-of [] (h ∷ hs) e = never e
vertices-of (v ∷ vs) [] e = never e
vertices-of (v ∷ vs) (h ∷ hs) e = test (half_holds v h)
    (λ c.
    let r = vertices-of vs hs (rw c at e) in
    let one = half-vertex v h c in
    let x : Vertex = record { via = v; half = h } in
    record {
      vias_again = ap (λ (l : List Bool). v ∷ l) r.vias_again;
      halves_again = ap (λ (l : List ℕ). h ∷ l) r.halves_again;
      count = ap suc r.count;
      ok = every-cons vertex_ok x (vertices_from vs hs) one.0 r.ok;
      in_limit = every-cons half_in_limit x (vertices_from vs hs) one.1 r.in_limit;
    })
    (λ c. never (rw c at e))

-- ---- rows
unfoldable pub rows_from : List ℕ → List Vertex → List (List Vertex)
rows_from [] vs = []
rows_from (n ∷ ns) vs = take n vs ∷ rows_from ns (drop n vs)

-- a row whose length passes the test c, and each of whose vertices passes the test t
abbrev pub row_holds : (ℕ → Bool) → (Vertex → Bool) → List Vertex → Bool
row_holds c t vs = c (length vs) && every t vs

pub record Rows (sizes : List ℕ) (vs : List Vertex) : Type 0 where
  pub order : concat (rows_from sizes vs) ≡ vs
  pub sizes_again : map length (rows_from sizes vs) ≡ sizes
  pub hold : (c : ℕ → Bool) (t : Vertex → Bool) → every c sizes ≡ true → every t vs ≡ true → every (row_holds c t) (rows_from sizes vs) ≡ true

pub rows_of : (sizes : List ℕ) (vs : List Vertex) → sum sizes ≡ length vs → Rows sizes vs
unfolding rows_from sum concat every
rows_of [] [] e = record { order = refl; sizes_again = refl; hold = λ c t h k. refl }
rows_of [] (v ∷ vs) e = absurd (omega arith)
rows_of (n ∷ ns) vs e =
    let r = rows_of ns (drop n vs) (omega (arith, length-drop n vs)) in
    let long : length (take n vs) ≡ n = length-take-le n vs (omega arith) in
    record {
      order = rw r.order (take-append-drop n vs);
      sizes_again = rw (long, r.sizes_again);
      hold = λ c t h k.
          let a = every_one c n ns h in
          let b = every-both t (take n vs) (drop n vs) (rw (take-append-drop n vs) k) in
          let right-size : c (length (take n vs)) ≡ true = rw long a.0 in
          let one : row_holds c t (take n vs) ≡ true = right-size and b.0 in
          every-cons (row_holds c t) (take n vs) (rows_from ns (drop n vs)) one (r.hold c t a.1 b.1);
    }

-- and of rows that hold, the sizes and the vertices hold
module _ (c : ℕ → Bool) (t : Vertex → Bool) where
  pub sizes-hold : (rows : List (List Vertex)) → every (row_holds c t) rows ≡ true → every c (map length rows) ≡ true
  unfolding every
  sizes-hold [] e = refl
  sizes-hold (row ∷ rows) e =
      let a = every_one (row_holds c t) row rows e in
      every-cons c (length row) (map length rows) (and_left (c (length row)) (every t row) a.0) (sizes-hold rows a.1)

  pub order-holds : (rows : List (List Vertex)) → every (row_holds c t) rows ≡ true → every t (concat rows) ≡ true
  unfolding every concat
  order-holds [] e = refl
  order-holds (row ∷ rows) e =
      let a = every_one (row_holds c t) row rows e in
      every_append t row (concat rows) (and_right (c (length row)) (every t row) a.0) (order-holds rows a.1)

-- ---- segments with their ratings
abbrev pub written_rating : ℕ → Option ℕ
written_rating w = cond (eqb w 1) none (some w)

abbrev pub segment_line_from : Rated → SegmentLine
segment_line_from r = record { segment = r.segment; rating = written_rating r.rating }

written-again : (w : ℕ) → rating_of (written_rating w) ≡ w
written-again w = test (eqb w 1) (λ e. rw e (sym (eqb-true w 1 e))) (λ e. rw e)

rating-of : (o : Option ℕ) → rating_in_limit o ≡ true → is_rating (rating_of o) ≡ true
rating-of none e = refl
rating-of (some w) e = rating-make w (omega (arith, within-least 2 max_rating w e)) (within-most 2 max_rating w e)

written-in-limit : (w : ℕ) → is_rating w ≡ true → rating_in_limit (written_rating w) ≡ true
written-in-limit w h = test (eqb w 1) (λ e. rw e)
    (λ e. let least = rating-least w h in let not-1 = eqb-false w 1 e in rw (e, le-leb 2 w (omega arith), le-leb w max_rating (rating-most w h)))

pub ratings-hold : (ss : List SegmentLine) → every (λ s. rating_in_limit s.rating) ss ≡ true → all_ratings (map (λ s. rating_of s.rating) ss) ≡ true
unfolding all_ratings
ratings-hold [] e = refl
ratings-hold (s ∷ ss) e =
    let a = every_one (λ (s : SegmentLine). rating_in_limit s.rating) s ss e in
    rw (rating-of s.rating a.0, ratings-hold ss a.1)

pub ratings-in-limit : (ss : List Segment) (ws : List ℕ) → all_ratings ws ≡ true → every (λ s. rating_in_limit s.rating) (map segment_line_from (rated_from ss ws)) ≡ true
unfolding all_ratings rated_from every
ratings-in-limit [] ws e = refl
ratings-in-limit (s ∷ ss) [] e = refl
ratings-in-limit (s ∷ ss) (w ∷ ws) e =
    rw (written-in-limit w (and_left (is_rating w) (all_ratings ws) e), ratings-in-limit ss ws (and_right (is_rating w) (all_ratings ws) e))

-- what holds of the segments holds of their lines
pub segments-hold : (t : Segment → Bool) (ss : List Segment) (ws : List ℕ) → every t ss ≡ true → every (λ s. t s.segment) (map segment_line_from (rated_from ss ws)) ≡ true
unfolding rated_from every
segments-hold t [] ws e = refl
segments-hold t (s ∷ ss) [] e = refl
segments-hold t (s ∷ ss) (w ∷ ws) e = let a = every_one t s ss e in rw (a.0, segments-hold t ss ws a.1)

-- and each of the lists is again what it was
module _ (rs : List Rated) where
  pub line-uppers : map (λ s. s.segment.upper) (map segment_line_from rs) ≡ map (λ s. s.upper) (map (λ r. r.segment) rs)
  line-uppers = map-map (λ s. s.segment.upper) segment_line_from rs ∙ sym (map-map (λ s. s.upper) (λ r. r.segment) rs)

  pub line-lowers : map (λ s. s.segment.lower) (map segment_line_from rs) ≡ map (λ s. s.lower) (map (λ r. r.segment) rs)
  line-lowers = map-map (λ s. s.segment.lower) segment_line_from rs ∙ sym (map-map (λ s. s.lower) (λ r. r.segment) rs)

  pub line-ratings : map (λ s. rating_of s.rating) (map segment_line_from rs) ≡ map (λ r. r.rating) rs
  line-ratings = map-map (λ s. rating_of s.rating) segment_line_from rs ∙ ap (λ (f : Rated → ℕ). map f rs) (fun_ext (λ r. written-again r.rating))

-- ---- all lines
unfoldable pub lines_from : PlanData → Lines
lines_from p = record {
  levels = p.levels;
  gap = p.gap;
  spacing = p.spacing;
  rows = rows_from p.sizes (vertices_from p.vias p.halves);
  segments = map segment_line_from (rated_of p);
}

pub lines_stored : (p : PlanData) → halves_hold p.vias p.halves ≡ true → sum p.sizes ≡ length p.vias → length p.lowers ≡ length p.uppers
    → length p.ratings ≡ length p.uppers → stored (lines_from p) ≡ p
unfolding stored lines_from segments_of rated_of
lines_stored p h s e k =
    let v = vertices-of p.vias p.halves h in
    let r = rows_of p.sizes (vertices_from p.vias p.halves) (s ∙ sym v.count) in
    let ss = segments_from p.uppers p.lowers in
    let rs = rated_from ss p.ratings in
    let count : length p.ratings ≡ length ss = k ∙ sym (segments-count p.uppers p.lowers e) in
    let a : map (λ s. s.segment.upper) (map segment_line_from rs) ≡ p.uppers = line-uppers rs ∙ rw (rated-segments ss p.ratings count) (uppers-again p.uppers p.lowers e) in
    let b : map (λ s. s.segment.lower) (map segment_line_from rs) ≡ p.lowers = line-lowers rs ∙ rw (rated-segments ss p.ratings count) (lowers-again p.uppers p.lowers e) in
    let w : map (λ s. rating_of s.rating) (map segment_line_from rs) ≡ p.ratings = line-ratings rs ∙ rated-ratings ss p.ratings count in
    rw (r.order, r.sizes_again, v.vias_again, v.halves_again, a, b, w)
