-- Reading a plan text: document 01's checks 1 to 6, "Checked in this order", each over the whole text before the next.
use Rattle.std.specs.Prelude.{Bool, true, false, cond, ◌&&◌, List, [], ◌∷◌, map, ℕ, leb, eqb, length}
use Rattle.std.proofs.Math.Option.{Option, none, some}
use Rattle.ints.specs.Lists.{sum, concat}
use Rattle.ints.specs.Ratings.{max_rating}
use Rattle.ints.specs.Refusals.{Test, check, first_refusal}
use Rattle.plan.specs.Plan.{PlanData, data_of}
use Rattle.plan.specs.Limits.{within, max_levels, max_gap, max_spacing, max_half_width, max_on_level, max_vertices, max_segments}
use Rattle.plan.specs.Checks.{every, checks_of, tangled_checks_of}
use Rattle.text.specs.Form.{Vertex, Lines, form_of}

-- 1: "Not in the text's form, or over 65,536 bytes."
abbrev pub max_bytes : ℕ
max_bytes = 65536

-- 2: "A number or count outside its limit, or level lines not K."
abbrev pub half_in_limit : Vertex → Bool
half_in_limit v = cond v.via true (within 1 max_half_width v.half)

abbrev pub row_in_limit : List Vertex → Bool
row_in_limit vs = leb (length vs) max_on_level && every half_in_limit vs

-- "with W from 2 to 100; without one it has rating 1, never written. Outside the range check 2 applies." (document 02, E5)
abbrev pub rating_in_limit : Option ℕ → Bool
rating_in_limit none = true
rating_in_limit (some w) = within 2 max_rating w

abbrev pub rating_of : Option ℕ → ℕ
rating_of none = 1
rating_of (some w) = w

unfoldable pub check2 : Lines → Bool
check2 l =
    let rows = every row_in_limit l.rows in
    let ratings = every (λ s. rating_in_limit s.rating) l.segments in
    within 1 max_levels l.levels && within 1 max_gap l.gap && within 1 max_spacing l.spacing
    && eqb (length l.rows) l.levels && rows
    && leb (sum (map length l.rows)) max_vertices && leb (length l.segments) max_segments
    && ratings

-- What is stored of a text within the limits, its vertices in reading order.
unfoldable pub stored : Lines → PlanData
stored l =
    data_of l.levels l.gap l.spacing
    (map length l.rows) (map (λ v. v.via) (concat l.rows)) (map (λ v. v.half) (concat l.rows))
    (map (λ s. s.segment.upper) l.segments) (map (λ s. s.segment.lower) l.segments)
    (map (λ s. rating_of s.rating) l.segments)

-- The checks of a text in their order; from 2 on they are asked of what its lines say, from 3 on by the checks of a plan.
unfoldable pub tests_by : (PlanData → List Test) → List ℕ → Option Lines → List Test
tests_by checks s none = check 1 false ∷ []
tests_by checks s (some l) = check 1 (leb (length s) max_bytes) ∷ check 2 (check2 l) ∷ checks (stored l)

abbrev pub tests_of : List ℕ → Option Lines → List Test
tests_of = tests_by checks_of

abbrev pub text_tests : List ℕ → List Test
text_tests s = tests_of s (form_of s)

-- What reading gives: a plan, or the number of the first check that fails.
pub data Reading : Type 0 where
  accepted : PlanData → Reading
  refused : ℕ → Reading

-- What is read of a text whose checks came out as n.
abbrev pub read_as : ℕ → Option Lines → Reading
read_as n none = refused n
read_as n (some l) = cond (eqb n 0) (accepted (stored l)) (refused n)

abbrev pub reading_by : (PlanData → List Test) → List ℕ → Reading
reading_by checks s =
    let lines = form_of s in
    read_as (first_refusal (tests_by checks s lines)) lines

unfoldable pub reading : List ℕ → Reading
reading s = reading_by checks_of s

-- The second way: the plan as the text has it, its inner segments crossed or not.
unfoldable pub tangled_reading : List ℕ → Reading
tangled_reading s = reading_by tangled_checks_of s
