-- The document of a drawing: lines first, so that boxes cover their ends, then bends, then boxes, each in the order of the marks.
use Rattle.std.specs.Prelude.{List, [], ◌++◌, map, ℕ, ◌-◌, ◌*◌, get_or, ℤ}
use Rattle.ints.specs.Lists.{concat}
use Rattle.plan.specs.Plan.{PlanData, vertex_count, numbers}
use Rattle.text.specs.Bytes.{bytes}
use Rattle.marks.specs.Marks.{WholeMark, whole_mark_of, mark_count}
use Rattle.picture_numbers.specs.Thousandths.{amount}
use Rattle.picture_view.specs.Measure.{measure}
use Rattle.picture_view.specs.View.{picture_head, style}
use Rattle.picture_elements.specs.Elements.{line_of, bend_of, box_of}

-- What f makes of every mark and its number, one after another.
abbrev pub elements : PlanData → List ℤ → (ℕ → WholeMark → List ℕ) → List ℕ
elements p xs f = concat (map (λ n. f n (whole_mark_of p xs n)) (numbers 0 (mark_count p)))

-- The rating of the segment that the line with number n marks: lines come after the vertices.
abbrev pub rating_at : PlanData → ℕ → ℕ
rating_at p n = get_or p.ratings (n - vertex_count p) 1

-- Of a drawing with final positions xs; `names` has the name of every vertex, [] for one without. A pen is 0.02 u wide, but for lines with a rating above 1.
unfoldable pub picture_of : PlanData → List ℤ → List (List ℕ) → List ℕ
picture_of p xs names =
    picture_head p xs ++ style ++ bytes "<g class=\"lines\" stroke-width=\"" ++ amount (20 * measure p) ++ bytes "\">\n"
    ++ elements p xs (λ n m. line_of (measure p) (rating_at p n) m)
    ++ bytes "</g>\n<g class=\"bends\">\n"
    ++ elements p xs (λ n m. bend_of (measure p) n m)
    ++ bytes "</g>\n<g class=\"boxes\" stroke-width=\"" ++ amount (20 * measure p) ++ bytes "\">\n"
    ++ elements p xs (λ n m. box_of (measure p) (get_or names n []) n m)
    ++ bytes "</g>\n</svg>\n"
