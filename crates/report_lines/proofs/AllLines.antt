-- The lines of a report one after another: the next line and those after it, and the whole from its parts.
use mathlib.Core.Path.{◌≡◌, refl, sym}
use mathlib.Core.Bool.{false}
use mathlib.Core.List.{List, [], ◌∷◌, ◌++◌, append-nil}
use Prim.Native.Nat.{ℕ, zero, suc, ◌+◌, ◌-◌, ◌≤◌, ◌<◌}
use native.Mathlib.Omega.{arith}
use lib.ListN.{length, get_or, drop, length-replicate, drop_of_length-le}
use lib.Seq.{drop-drop}
use lib.IntN.{ℤ}
use Rattle.ints.specs.Lists.{sum, concat}
use Rattle.plan.specs.Plan.{numbers, level_of, height_of}
use Rattle.plan_checks.specs.inner.Heights.{height_at, HeightsOf}
use Rattle.text_write.specs.inner.Written.{Room, Wrote, Fronts}
use Rattle.text_write.proofs.Written.{front_of}
use Rattle.ints.proofs.Lists.{concat-append, concat-one, sum-on}
use Rattle.passes.specs.Stored.{placings_from}
use Rattle.report.specs.Lines.{drawing_line, at_line_of, place_line, end_line}
use Rattle.report_lines.specs.inner.Stored.{plan_part, height_in, vertex_line, vertex_lines, all_vertex_lines, VertexRoom, VerticesRoom, AtLinesRoom, placing_of, PlacingRoom, place_lines, PlacingsRoom, drawing_from, report_of, ReportRoom}
use Rattle.report_lines.proofs.Partly.{Partly, nothing_yet, next-room, next-written, all-written}
use Rattle.report_lines.proofs.Listed.{placings-count, placings-next, part-within, listed-within}
use Rattle.report_lines.proofs.ByNumber.{at_lines, place_lines as place_lines_of, lines_from, positions-of}

-- ---- vertices
module _ (preliminary finals : List ℤ) where
  module _ (height : ℕ → ℕ) (n : ℕ) where
    pub next-vertex : n < length preliminary → vertex_lines preliminary finals height n (length preliminary - n)
        ≡ vertex_line preliminary finals n (height n) ++ vertex_lines preliminary finals height (n + 1) (length preliminary - (n + 1))
    unfolding numbers concat
    next-vertex h = let e : length preliminary - n ≡ suc (length preliminary - (n + 1)) = omega arith in rw e

    pub no-vertex : length preliminary ≤ n → vertex_lines preliminary finals height n (length preliminary - n) ≡ []
    unfolding numbers concat
    no-vertex h = let e : length preliminary - n ≡ 0 = omega arith in rw e

  pub no-vertex-yet : (height : ℕ → ℕ) (o : List ℕ) (from : ℕ) → Partly (all_vertex_lines preliminary finals height) (vertex_lines preliminary finals height 0 (length preliminary - 0)) o from from o
  no-vertex-yet height o from = let e : length preliminary - 0 ≡ length preliminary = omega arith in rw e (nothing_yet (all_vertex_lines preliminary finals height) o from)

  -- heights matter only of the vertices
  same-heights : (f g : ℕ → ℕ) (all n count : ℕ) → n + count ≤ all → ((v : ℕ) → v < all → f v ≡ g v) → vertex_lines preliminary finals f n count ≡ vertex_lines preliminary finals g n count
  unfolding numbers concat
  same-heights f g all n zero h e = refl
  same-heights f g all n (suc count) h e =
      rw (e n (omega arith), same-heights f g all (n + 1) count (omega arith) e)

-- ---- placings
module _ (passes levels counts vertices : List ℕ) (positions : List ℤ) where
  -- those left from the k-th on, whose boxes start at `start`
  abbrev pub left_from : ℕ → ℕ → List ℕ
  left_from k start = place_lines (placings_from (drop k passes) (drop k levels) (drop k counts) (drop start vertices) (drop start positions))

  pub next-placing : (k start : ℕ) → length levels ≡ length passes → length counts ≡ length passes → k < length passes
      → left_from k start ≡ place_line (placing_of passes levels counts vertices positions k start) ++ left_from (k + 1) (start + get_or counts k 0)
  unfolding concat
  next-placing k start e f h =
      rw (
        placings-next passes levels counts (drop start vertices) (drop start positions) k e f h,
        drop-drop (get_or counts k 0) start vertices,
        drop-drop (get_or counts k 0) start positions,
      )

  pub no-placing : (k start : ℕ) → length passes ≤ k → left_from k start ≡ []
  unfolding concat placings_from
  no-placing k start h = rw (drop_of_length-le passes h)

-- ---- the whole
module _ (spacing : ℕ) (sizes : List ℕ) (preliminary finals : List ℤ) (passes levels counts vertices : List ℕ) (positions : List ℤ) where
  pub report-from : length levels ≡ length passes → length counts ≡ length passes
      → report_of spacing sizes preliminary finals passes levels counts vertices positions ≡ drawing_line (length preliminary) (length passes)
      ++ (all_vertex_lines preliminary finals (height_at spacing sizes) ++ (place_lines (placings_from passes levels counts vertices positions) ++ end_line))
  unfolding concat at_line_of level_of height_of
  report-from e f =
      let p = plan_part spacing sizes (length preliminary) in
      let d = drawing_from preliminary finals passes levels counts vertices positions in
      rw (
        lines_from p d,
        concat-append (at_lines p d) (place_lines_of p d ++ end_line ∷ []),
        concat-append (place_lines_of p d) (end_line ∷ []),
        concat-one end_line,
        length-replicate (length preliminary) false,
        placings-count passes levels counts vertices positions e f,
      )

-- ---- as the code meets them
module _ {heights : List ℕ} {preliminary finals : List ℤ} {o out : List ℕ} {from at : ℕ} (r : VerticesRoom heights preliminary finals o from) (n : ℕ) (l : n < length preliminary)
    (h : Partly (all_vertex_lines preliminary finals (height_in heights)) (vertex_lines preliminary finals (height_in heights) n (length preliminary - n)) o from at out) where
  abbrev more : List ℕ
  more = vertex_lines preliminary finals (height_in heights) (n + 1) (length preliminary - (n + 1))

  is-next : vertex_lines preliminary finals (height_in heights) n (length preliminary - n) ≡ vertex_line preliminary finals n (height_in heights n) ++ more
  is-next = next-vertex preliminary finals (height_in heights) n l

  pub vertex-room : VertexRoom heights preliminary finals n out at
  vertex-room = record {
    vertex = l;
    table = r.table;
    positions = r.positions;
    room = next-room (vertex_line preliminary finals n (height_in heights n)) more is-next h r.room;
  }

  pub vertex-written : {to : ℕ} {next : List ℕ} → Wrote (vertex_line preliminary finals n (height_in heights n)) out at to next
      → Partly (all_vertex_lines preliminary finals (height_in heights)) more o from to next
  vertex-written w = next-written (vertex_line preliminary finals n (height_in heights n)) more is-next h w

module _ {spacing : ℕ} {sizes : List ℕ} {preliminary finals : List ℤ} {o : List ℕ} {at : ℕ} (r : AtLinesRoom spacing sizes preliminary finals o at) (heights : List ℕ)
    (e : length heights ≡ length preliminary) (t : HeightsOf spacing sizes heights) where
  pub lines_same : all_vertex_lines preliminary finals (height_in heights) ≡ all_vertex_lines preliminary finals (height_at spacing sizes)
  lines_same = same-heights preliminary finals (height_in heights) (height_at spacing sizes) (length preliminary) 0 (length preliminary) (omega arith) (λ v h. t.each v (omega arith))

  pub vertices-room : VerticesRoom heights preliminary finals o at
  vertices-room = record { table = e; positions = r.lists.positions; room = rw lines_same r.room }

module _ {passes levels counts vertices : List ℕ} {positions : List ℤ} {o out : List ℕ} {from at : ℕ} (r : PlacingsRoom passes levels counts vertices positions o from) (k start : ℕ) (l : k < length passes)
    (e : start + sum (drop k counts) ≡ sum counts)
    (h : Partly (place_lines (placings_from passes levels counts vertices positions)) (left_from passes levels counts vertices positions k start) o from at out) where
  pub boxes-inside : start + get_or counts k 0 + sum (drop (k + 1) counts) ≡ sum counts
  boxes-inside = omega (arith, sum-on counts k (omega (arith, r.of_counts)))

  pub placing-room : PlacingRoom passes levels counts vertices positions k start out at
  placing-room = record {
    listed = l;
    of_levels = r.of_levels;
    of_counts = r.of_counts;
    of_vertices = omega (arith, boxes-inside, r.of_vertices);
    of_positions = omega (arith, boxes-inside, r.of_positions);
    within = part-within (sum counts) start (get_or counts k 0) positions (omega (arith, boxes-inside)) r.within;
    room = next-room (place_line (placing_of passes levels counts vertices positions k start)) (left_from passes levels counts vertices positions (k + 1) (start + get_or counts k 0))
        (next-placing passes levels counts vertices positions k start r.of_levels r.of_counts l) h r.room;
  }

  pub placing-written : {to : ℕ} {next : List ℕ} → Wrote (place_line (placing_of passes levels counts vertices positions k start)) out at to next
      → Partly (place_lines (placings_from passes levels counts vertices positions)) (left_from passes levels counts vertices positions (k + 1) (start + get_or counts k 0)) o from to next
  placing-written w = next-written (place_line (placing_of passes levels counts vertices positions k start)) (left_from passes levels counts vertices positions (k + 1) (start + get_or counts k 0))
      (next-placing passes levels counts vertices positions k start r.of_levels r.of_counts l) h w

module _ {spacing : ℕ} {sizes : List ℕ} {preliminary finals : List ℤ} {passes levels counts vertices : List ℕ} {positions : List ℤ} {o : List ℕ}
    (r : ReportRoom spacing sizes preliminary finals passes levels counts vertices positions o) where
  abbrev text : List ℕ
  text = report_of spacing sizes preliminary finals passes levels counts vertices positions

  abbrev first : List ℕ
  first = drawing_line (length preliminary) (length passes)

  abbrev at_text : List ℕ
  at_text = all_vertex_lines preliminary finals (height_at spacing sizes)

  abbrev place_text : List ℕ
  place_text = place_lines (placings_from passes levels counts vertices positions)

  whole : text ≡ first ++ (at_text ++ (place_text ++ end_line))
  whole = report-from spacing sizes preliminary finals passes levels counts vertices positions r.stored.of_levels r.stored.of_counts

  pub drawing-room : Room first o 0
  drawing-room = next-room first (at_text ++ (place_text ++ end_line)) whole (nothing_yet text o 0) r.room

  module _ {m : ℕ} {p : List ℕ} (h : Wrote first o 0 m p) where
    after_first : Partly text (at_text ++ (place_text ++ end_line)) o 0 m p
    after_first = next-written first (at_text ++ (place_text ++ end_line)) whole (nothing_yet text o 0) h

    pub at_room : AtLinesRoom spacing sizes preliminary finals p m
    at_room = record {
      lists = record { positions = positions-of r.stored; few = r.few; in_limit = r.in_limit };
      room = next-room at_text (place_text ++ end_line) refl after_first r.room;
    }

    module _ {m' : ℕ} {p' : List ℕ} (h' : Wrote at_text p m m' p') where
      after-at : Partly text (place_text ++ end_line) o 0 m' p'
      after-at = next-written at_text (place_text ++ end_line) refl after_first h'

      pub place-room : PlacingsRoom passes levels counts vertices positions p' m'
      place-room = record {
        of_levels = r.stored.of_levels;
        of_counts = r.stored.of_counts;
        of_vertices = r.stored.of_vertices;
        of_positions = r.stored.of_positions;
        within = listed-within r.stored;
        room = next-room place_text end_line refl after-at r.room;
      }

      module _ {m'' : ℕ} {p'' : List ℕ} (h'' : Wrote place_text p' m' m'' p'') where
        after-place : Partly text end_line o 0 m'' p''
        after-place = next-written place_text end_line refl after-at h''

        pub end-room : Room end_line p'' m''
        end-room = next-room end_line [] (sym (append-nil end_line)) after-place r.room

        pub report-fronts : {n : ℕ} {out : List ℕ} → Wrote end_line p'' m'' n out → Fronts text o n out
        report-fronts w = front_of (all-written refl (next-written end_line [] (sym (append-nil end_line)) after-place w)) (omega (arith, r.room))
