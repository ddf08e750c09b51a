-- The lines of a report by number, and that they ask for no more of a plan than `plan_part` has.
use mathlib.Core.Path.{fun_ext, ◌≡◌, sym, ◌∙◌, ap}
use mathlib.Core.Bool.{false}
use mathlib.Core.List.{List, [], ◌∷◌, ◌++◌, map, append_assoc}
use Prim.Native.Nat.{ℕ, suc, ◌+◌, ◌-◌, ◌≤◌, ◌<◌}
use native.Mathlib.Omega.{arith}
use lib.ListN.{length, get_or, take, length-append, length-take, length-map, length-replicate, get_or-append}
use lib.Seq.{get_or-append-add}
use lib.IntN.{ℤ}
use Rattle.ints.specs.Lists.{sum}
use Rattle.ints.proofs.Lists.{map-get_or}
use Rattle.plan.specs.Plan.{PlanData, vertex_count, numbers, level_of, height_of}
use Rattle.plan_checks.specs.inner.Heights.{height_at, HeightsOf}
use Rattle.passes.specs.Drawing.{Drawing}
use Rattle.report.specs.Lines.{drawing_line, at_line_of, place_line, end_line, report_lines}
use Rattle.plan.proofs.Levels.{length-numbers, get-numbers}
use Rattle.text_write.specs.inner.Written.{Wrote, Fronts}
use Rattle.text_write.proofs.Written.{front_of}
use Rattle.text_write.proofs.LineLaws.{level-inside}
use Rattle.passes.specs.Words.{max_listed}
use Rattle.report_lines.specs.inner.Stored.{plan_part, height_in, Positions, Stored, vertex_line, placing_of, drawing_from, line_of, VertexRoom, AtLineRoom, PlacingRoom, LineRoom}
use Rattle.report_lines.proofs.Listed.{no_placing, placings-count, placing-at, preliminary-within, final-within, few-placings, listed-within, part-within}

-- ---- a plan's part is enough
pub record HasPart (p : PlanData) (spacing : ℕ) (sizes : List ℕ) (v : ℕ) : Type 0 where
  pub of_spacing : p.spacing ≡ spacing
  pub of_sizes : p.sizes ≡ sizes
  pub of_vertices : vertex_count p ≡ v

at-same : {p : PlanData} {spacing : ℕ} {sizes : List ℕ} {v : ℕ} → HasPart p spacing sizes v → (d : Drawing) (w : ℕ) → at_line_of p d w ≡ at_line_of (plan_part spacing sizes v) d w
unfolding at_line_of level_of height_of
at-same h d w = rw (h.of_spacing, h.of_sizes)

pub same_lines : {p : PlanData} {spacing : ℕ} {sizes : List ℕ} {v : ℕ} → HasPart p spacing sizes v → (d : Drawing) → report_lines p d ≡ report_lines (plan_part spacing sizes v) d
unfolding report_lines
same_lines {v} h d = rw (h.of_vertices, length-replicate v false)
    (ap (λ (f : ℕ → List ℕ). drawing_line v (length d.placings) ∷ map f (numbers 0 v) ++ map place_line d.placings ++ (end_line ∷ [])) (fun_ext (at-same h d)))

module _ (p : PlanData) (d : Drawing) where
  abbrev pub at_lines : List (List ℕ)
  at_lines = map (at_line_of p d) (numbers 0 (vertex_count p))

  abbrev pub place_lines : List (List ℕ)
  place_lines = map place_line d.placings

  pub lines_from : report_lines p d ≡ drawing_line (vertex_count p) (length d.placings) ∷ (at_lines ++ (place_lines ++ end_line ∷ []))
  unfolding report_lines
  lines_from = ap (λ (l : List (List ℕ)). drawing_line (vertex_count p) (length d.placings) ∷ l) (append_assoc at_lines place_lines (end_line ∷ []))

  pub at-lines : length at_lines ≡ vertex_count p
  at-lines = length-map (numbers 0 (vertex_count p)) (at_line_of p d) ∙ length-numbers 0 (vertex_count p)

  pub lines-count : length (report_lines p d) ≡ vertex_count p + length d.placings + 2
  lines-count = rw lines_from (omega (arith, length-append at_lines (place_lines ++ end_line ∷ []), length-append place_lines (end_line ∷ []), at-lines, length-map d.placings place_line))

  line-drawing : line_of p d 0 ≡ drawing_line (vertex_count p) (length d.placings)
  line-drawing = ap (λ (ls : List (List ℕ)). get_or ls 0 []) lines_from

  line-vertex : (n : ℕ) → n < vertex_count p → line_of p d (suc n) ≡ at_line_of p d n
  line-vertex n h =
      ap (λ (ls : List (List ℕ)). get_or ls (suc n) []) lines_from ∙ get_or-append at_lines (place_lines ++ end_line ∷ []) [] n (omega (arith, at-lines))
      ∙ map-get_or (at_line_of p d) (numbers 0 (vertex_count p)) n 0 [] (omega (arith, length-numbers 0 (vertex_count p)))
      ∙ ap (at_line_of p d) (get-numbers 0 (vertex_count p) n 0 h ∙ omega arith)

  after-vertices : (k : ℕ) → line_of p d (suc (vertex_count p + k)) ≡ get_or (place_lines ++ end_line ∷ []) k []
  after-vertices k = rw (← at-lines) (ap (λ (ls : List (List ℕ)). get_or ls (suc (length at_lines + k)) []) lines_from ∙ get_or-append-add at_lines (place_lines ++ end_line ∷ []) k [])

  line-placing : (k : ℕ) → k < length d.placings → line_of p d (suc (vertex_count p + k)) ≡ place_line (get_or d.placings k no_placing)
  line-placing k h = after-vertices k ∙ get_or-append place_lines (end_line ∷ []) [] k (omega (arith, length-map d.placings place_line))
      ∙ map-get_or place_line d.placings k no_placing [] h

  line-end : (k : ℕ) → k ≡ length d.placings → line_of p d (suc (vertex_count p + k)) ≡ end_line
  line-end k e =
      let f : length place_lines + 0 ≡ k = omega (arith, length-map d.placings place_line) in
      after-vertices k ∙ ap (λ (j : ℕ). get_or (place_lines ++ end_line ∷ []) j []) (sym f) ∙ get_or-append-add place_lines (end_line ∷ []) 0 []

pub positions-of : {preliminary finals : List ℤ} {passes levels counts vertices : List ℕ} {positions : List ℤ} → Stored preliminary finals passes levels counts vertices positions → Positions preliminary finals
positions-of {preliminary} {finals} {passes} {levels} {counts} {vertices} {positions} s =
    let d = drawing_from preliminary finals passes levels counts vertices positions in
    record { long = s.of_finals; of_preliminary = preliminary-within d s.within; of_finals = final-within d s.within }

-- ---- the line of a vertex, by a list of heights
module _ {spacing : ℕ} {sizes : List ℕ} {preliminary finals : List ℤ} {v : ℕ} {o : List ℕ} {at : ℕ} (r : AtLineRoom spacing sizes preliminary finals v o at) (heights : List ℕ)
    (e : length heights ≡ length preliminary) (t : HeightsOf spacing sizes heights) where
  pub height-same : height_in heights v ≡ height_at spacing sizes v
  height-same = t.each v (omega (arith, r.vertex))

  pub at-height : VertexRoom heights preliminary finals v o at
  at-height = record { vertex = r.vertex; table = e; positions = r.lists.positions; room = rw height-same r.room }

-- ---- the lines of a drawing in slices, as the code picks them
module _ {spacing : ℕ} {sizes : List ℕ} {preliminary finals : List ℤ} {passes levels counts vertices : List ℕ} {positions : List ℤ} {n : ℕ} {o : List ℕ}
    (h : LineRoom spacing sizes preliminary finals passes levels counts vertices positions n o) where
  abbrev part : PlanData
  part = plan_part spacing sizes (length preliminary)

  abbrev drawing : Drawing
  drawing = drawing_from preliminary finals passes levels counts vertices positions

  abbrev the_line : List ℕ
  the_line = line_of part drawing n

  vertices_are : vertex_count part ≡ length preliminary
  vertices_are = length-replicate (length preliminary) false

  placings-are : length drawing.placings ≡ length passes
  placings-are = placings-count passes levels counts vertices positions h.stored.of_levels h.stored.of_counts

  pub first-line : n ≡ 0 → the_line ≡ drawing_line (length preliminary) (length passes)
  first-line e = ap (line_of part drawing) e ∙ line-drawing part drawing ∙ rw (vertices_are, placings-are)

  -- a vertex
  module _ (e : n ≡ 0 → ⊥) (l : n ≤ length preliminary) where
    pub vertex-line : the_line ≡ vertex_line preliminary finals (n - 1) (height_at spacing sizes (n - 1))
    unfolding at_line_of level_of height_of
    vertex-line =
        let k : n ≡ suc (n - 1) = omega arith in
        ap (line_of part drawing) k ∙ line-vertex part drawing (n - 1) (omega (arith, vertices_are))

    pub vertex-room : AtLineRoom spacing sizes preliminary finals (n - 1) o 0
    vertex-room = record {
      vertex = omega arith;
      lists = record { positions = positions-of h.stored; few = h.few; in_limit = h.in_limit };
      room = rw vertex-line at h.room;
    }

  -- a placing, and where its boxes start
  module _ (l : length preliminary < n) (m : n - 1 - length preliminary < length passes) (start : ℕ) (f : start ≡ sum (take (n - 1 - length preliminary) counts)) where
    abbrev k : ℕ
    k = n - 1 - length preliminary

    pub placing-line : the_line ≡ place_line (placing_of passes levels counts vertices positions k start)
    placing-line =
        let e : n ≡ suc (vertex_count part + k) = omega (arith, vertices_are) in
        ap (line_of part drawing) e ∙ line-placing part drawing k (omega (arith, placings-are))
        ∙ ap place_line (placing-at passes levels counts vertices positions k h.stored.of_levels h.stored.of_counts m) ∙ rw f

    boxes-inside : start + get_or counts k 0 ≤ sum counts
    boxes-inside = rw f (level-inside counts k (omega (arith, h.stored.of_counts)))

    pub placing-room : PlacingRoom passes levels counts vertices positions k start o 0
    placing-room = record {
      listed = m;
      of_levels = h.stored.of_levels;
      of_counts = h.stored.of_counts;
      of_vertices = omega (arith, boxes-inside, h.stored.of_vertices);
      of_positions = omega (arith, boxes-inside, h.stored.of_positions);
      within = part-within (sum counts) start (get_or counts k 0) positions boxes-inside (listed-within h.stored);
      room = rw placing-line at h.room;
    }

  pub last_line : length preliminary < n → length passes ≤ n - 1 - length preliminary → the_line ≡ end_line
  last_line l m =
      let e : n ≡ suc (vertex_count part + length passes) = omega (arith, vertices_are, h.line) in
      ap (line_of part drawing) e ∙ line-end part drawing (length passes) (sym placings-are)

  pub fronts : {w out : List ℕ} {r : ℕ} → the_line ≡ w → Wrote w o 0 r out → Fronts the_line o r out
  fronts e w = rw e (front_of w (omega (arith, ap length e, h.room)))

  pub few-before : (k : ℕ) → k < length passes → length (take k counts) ≤ max_listed
  few-before k l = simp length-take (omega (arith, placings-are, few-placings drawing h.stored.within))
