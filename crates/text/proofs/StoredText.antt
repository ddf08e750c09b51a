-- The text of the data stored of some lines is the text written of these lines: the vertices from a level's first number on
-- are that level's row, and the segments by their two ends and their ratings are the segments. A rating of 1 is never written, so that
-- of lines within the limits each is written as it stood.
use mathlib.Core.Path.{◌≡◌, refl, sym, ◌∙◌, ap, fun_ext}
use mathlib.Core.Bool.{true, false}
use mathlib.Core.List.{List, [], ◌∷◌, ◌++◌, map, append_assoc, append-nil}
use mathlib.Core.Option.{Option, none, some}
use Prim.Native.Nat.{ℕ, ◌+◌}
use native.Mathlib.Omega.{arith}
use borrow.Author.Tests.{ne_eqb}
use lib.ListN.{length, get_or, drop, get_or-map}
use lib.Seq.{get_or-drop, drop-drop, drop-append_seam}
use Rattle.ints.specs.Lists.{concat}
use Rattle.ints.specs.Ratings.{max_rating}
use Rattle.ints.proofs.Lists.{concat-append}
use Rattle.plan.specs.Plan.{PlanData, numbers, levels_from, levels_of}
use Rattle.plan.specs.Checks.{every}
use Rattle.plan.specs.Segments.{segments_from, segments_of, rated_from, rated_of}
use Rattle.plan.proofs.LimitLaws.{within-least}
use Rattle.text.specs.Form.{Vertex, SegmentLine, Lines}
use Rattle.text.specs.Reading.{rating_in_limit, rating_of, stored}
use Rattle.text.specs.Writing.{plan_line, vertex_words, level_line_of, rating_words, segment_line_of, last_line, lines_of, text_of}
use Rattle.text.proofs.WrittenLines.{vertex_text, row_text, rating_text, segment_text}
use Rattle.text.proofs.TestLaws.{every_one}
use Rattle.text.proofs.WrittenForm.{head_text, form_text}

-- ---- lists of lines
concat-lines : (a b : List (List ℕ)) (z : List ℕ) → concat (a ++ b ++ z ∷ []) ≡ concat a ++ (concat b ++ z)
unfolding concat
concat-lines a b z = concat-append (a ++ b) (z ∷ []) ∙ rw (concat-append a b, append-nil z, append_assoc)

text-lines : (p : PlanData) → text_of p ≡ plan_line p ++ (concat (map (level_line_of p) (levels_of p)) ++ (concat (map segment_line_of (rated_of p)) ++ last_line))
unfolding text_of lines_of concat
text-lines p = ap (λ (t : List ℕ). plan_line p ++ t) (concat-lines (map (level_line_of p) (levels_of p)) (map segment_line_of (rated_of p)) last_line)

-- ---- the vertices of a row, by their numbers
-- what is read past the last vertex
abbrev no_vertex : Vertex
no_vertex = record { via = false; half = 0 }

numbers-row : {B : Type 0} (f : Vertex → B) (all : List Vertex) (v : ℕ) (row rest : List Vertex) → drop v all ≡ row ++ rest
    → map (λ (i : ℕ). f (get_or all i no_vertex)) (numbers v (length row)) ≡ map f row
unfolding numbers
numbers-row f all v [] rest e = refl
numbers-row f all v (x ∷ row) rest e =
    let z : v + 0 ≡ v = omega arith in
    let here : get_or all v no_vertex ≡ x = (rw z at (sym (get_or-drop v all 0 no_vertex))) ∙ ap (λ (l : List Vertex). get_or l 0 no_vertex) e in
    let next : drop (v + 1) all ≡ row ++ rest = sym (drop-drop 1 v all) ∙ ap (drop 1) e in
    rw (here, numbers-row f all (v + 1) row rest next)

module _ (p : PlanData) (all : List Vertex) (words : (i : ℕ) → vertex_words p i ≡ vertex_text (get_or all i no_vertex)) where
  row_words : (v : ℕ) (row rest : List Vertex) → drop v all ≡ row ++ rest → map (vertex_words p) (numbers v (length row)) ≡ map vertex_text row
  row_words v row rest e = ap (λ (f : ℕ → List ℕ). map f (numbers v (length row))) (fun_ext words) ∙ numbers-row vertex_text all v row rest e

  rows-text : (v : ℕ) (rows : List (List Vertex)) → drop v all ≡ concat rows → map (level_line_of p) (levels_from v (map length rows)) ≡ map row_text rows
  unfolding levels_from concat level_line_of row_text
  rows-text v [] e = refl
  rows-text v (row ∷ rows) e =
      let rest = concat rows in
      let next : drop (v + length row) all ≡ rest = sym (drop-drop (length row) v all) ∙ ap (drop (length row)) e ∙ drop-append_seam row rest in
      rw (row_words v row rest e, rows-text (v + length row) rows next)

-- ---- the segments, with the ratings that are written
words-text : (o : Option ℕ) → rating_in_limit o ≡ true → rating_words (rating_of o) ≡ rating_text o
unfolding rating_words
words-text none e = refl
words-text (some w) e = rw (ne_eqb w 1 (λ z. absurd (omega (arith, within-least 2 max_rating w e))))

segments-text : (ss : List SegmentLine) → every (λ s. rating_in_limit s.rating) ss ≡ true
    → map segment_line_of (rated_from (segments_from (map (λ s. s.segment.upper) ss) (map (λ s. s.segment.lower) ss)) (map (λ s. rating_of s.rating) ss)) ≡ map segment_text ss
unfolding segment_line_of segment_text rated_from segments_from
segments-text [] e = refl
segments-text (s ∷ ss) e =
    let a = every_one (λ (s : SegmentLine). rating_in_limit s.rating) s ss e in
    rw (words-text s.rating a.0, segments-text ss a.1)

-- ---- the whole text
module _ (l : Lines) where
  stored-words : (i : ℕ) → vertex_words (stored l) i ≡ vertex_text (get_or (concat l.rows) i no_vertex)
  unfolding vertex_words vertex_text stored
  stored-words i =
      let all = concat l.rows in
      let v : get_or (map (λ (v : Vertex). v.via) all) i false ≡ (get_or all i no_vertex).via = get_or-map (λ v. v.via) all i no_vertex in
      let h : get_or (map (λ (v : Vertex). v.half) all) i 0 ≡ (get_or all i no_vertex).half = get_or-map (λ v. v.half) all i no_vertex in
      rw (v, h)

  stored-rows : map (level_line_of (stored l)) (levels_of (stored l)) ≡ map row_text l.rows
  unfolding levels_of stored
  stored-rows = rows-text (stored l) (concat l.rows) stored-words 0 l.rows refl

  module _ (ok : every (λ s. rating_in_limit s.rating) l.segments ≡ true) where
    stored-segments : map segment_line_of (rated_of (stored l)) ≡ map segment_text l.segments
    unfolding segments_of rated_of stored
    stored-segments = segments-text l.segments ok

    pub stored-text : text_of (stored l) ≡ form_text l
    unfolding form_text head_text plan_line stored
    stored-text = text-lines (stored l) ∙ rw (stored-rows, stored-segments)
