-- The elements of a picture by the lists that a program holds: of each vertex its height, its kind and its final position, of each segment
-- its ends and its rating.
use Rattle.std.specs.Prelude.{◌≡◌, Bool, true, false, cond, List, [], ◌++◌, map, ℕ, ◌*◌, ◌≤◌, ◌<◌, length, get_or, ℤ}
use Rattle.ints.specs.Lists.{concat}
use Rattle.ints.specs.Ratings.{all_ratings}
use Rattle.ints.specs.Reach.{all_within}
use Rattle.plan.specs.Plan.{numbers}
use Rattle.plan.specs.inner.Graph.{Below}
use Rattle.passes.specs.State.{position_of}
use Rattle.text.specs.Bytes.{bytes}
use Rattle.marks.specs.Marks.{box, bend, line}
use Rattle.picture_numbers.specs.Thousandths.{amount}
use Rattle.picture_view.specs.Measure.{leftmost, rightmost}
use Rattle.picture_view.specs.View.{head_of, style}
use Rattle.picture_view.specs.inner.Edges.{Edged}
use Rattle.picture_elements.specs.Elements.{line_of, bend_of, box_of}
use Rattle.picture_marks.specs.inner.Asked.{NamesAsked}

-- What f gives for 0, 1 .. below n, one after another.
abbrev pub walked : (ℕ → List ℕ) → ℕ → List ℕ
walked f n = concat (map f (numbers 0 n))

-- Heights and positions of vertices that a picture can have.
pub record Stands (heights : List ℕ) (xs : List ℤ) : Type 0 where
  pub long : length heights ≡ length xs
  pub few : length xs ≤ 1024
  pub low : (v : ℕ) → v < length xs → get_or heights v 0 ≤ 630000
  pub within : all_within xs ≡ true

-- ---- lines
-- The line with rating w from vertex a down to vertex b, and that of the k-th segment.
abbrev pub line_between : ℕ → ℕ → List ℕ → List ℤ → ℕ → ℕ → List ℕ
line_between u w heights xs a b = line_of u w (line (position_of xs a) (get_or heights a 0) (position_of xs b) (get_or heights b 0))

abbrev pub segment_line : ℕ → List ℕ → List ℕ → List ℕ → List ℕ → List ℤ → ℕ → List ℕ
segment_line u heights uppers lowers ratings xs k = line_between u (get_or ratings k 0) heights xs (get_or uppers k 0) (get_or lowers k 0)

abbrev pub lines_in : ℕ → List ℕ → List ℕ → List ℕ → List ℕ → List ℤ → List ℕ
lines_in u heights uppers lowers ratings xs = walked (segment_line u heights uppers lowers ratings xs) (length uppers)

pub record LinesAsked (u : ℕ) (heights uppers lowers ratings : List ℕ) (xs : List ℤ) : Type 0 where
  pub measure : u ≤ 10000
  pub stands : Stands heights xs
  pub ends : length lowers ≡ length uppers
  pub upper : Below (length xs) uppers
  pub lower : Below (length xs) lowers
  pub rated : length ratings ≡ length uppers
  pub in_range : all_ratings ratings ≡ true

-- ---- bends
abbrev pub vertex_bend : ℕ → List ℕ → List Bool → List ℤ → ℕ → List ℕ
vertex_bend u heights vias xs v = cond (get_or vias v false) (bend_of u v (bend (position_of xs v) (get_or heights v 0))) []

abbrev pub bends_in : ℕ → List ℕ → List Bool → List ℤ → List ℕ
bends_in u heights vias xs = walked (vertex_bend u heights vias xs) (length vias)

pub record BendsAsked (u : ℕ) (heights : List ℕ) (vias : List Bool) (xs : List ℤ) : Type 0 where
  pub measure : u ≤ 10000
  pub stands : Stands heights xs
  pub kinds : length vias ≡ length xs

-- ---- boxes
-- Half-widths of boxes, and names that stand in a text.
pub record BoxesStand (u : ℕ) (heights : List ℕ) (vias : List Bool) (halves : List ℕ) (xs : List ℤ) : Type 0 where
  pub bends : BendsAsked u heights vias xs
  pub some : 1 ≤ u
  pub widths : length halves ≡ length vias
  pub wide : (v : ℕ) → v < length vias → get_or vias v false ≡ false → 1 ≤ get_or halves v 0
  pub narrow : (v : ℕ) → get_or halves v 0 ≤ 200

pub record BoxesAsked (u : ℕ) (heights : List ℕ) (vias : List Bool) (halves : List ℕ) (xs : List ℤ) (text starts ends : List ℕ) : Type 0 where
  pub boxes : BoxesStand u heights vias halves xs
  pub names : NamesAsked text starts ends (length vias)

abbrev pub vertex_box : ℕ → List ℕ → List Bool → List ℕ → List ℤ → (ℕ → List ℕ) → ℕ → List ℕ
vertex_box u heights vias halves xs name v =
    cond (get_or vias v false) [] (box_of u (name v) v (box (position_of xs v) (get_or heights v 0) (get_or halves v 0)))

abbrev pub boxes_in : ℕ → List ℕ → List Bool → List ℕ → List ℤ → (ℕ → List ℕ) → List ℕ
boxes_in u heights vias halves xs name = walked (vertex_box u heights vias halves xs name) (length vias)

-- ---- the document, in a view h steps high
abbrev pub opening_in : ℕ → ℕ → List ℕ → List ℤ → List ℕ
opening_in u h halves xs =
    head_of (leftmost halves xs) (rightmost halves xs) u h ++ style
    ++ bytes "<g class=\"lines\" stroke-width=\"" ++ amount (20 * u) ++ bytes "\">\n"

pub record OpeningAsked (u h : ℕ) (halves : List ℕ) (xs : List ℤ) : Type 0 where
  pub edged : Edged halves xs
  pub measure : u ≤ 10000
  pub high : h ≤ 640000

abbrev pub document_in : ℕ → ℕ → List ℕ → List Bool → List ℕ → List ℕ → List ℕ → List ℕ → List ℤ → (ℕ → List ℕ) → List ℕ
document_in u h heights vias halves uppers lowers ratings xs name =
    opening_in u h halves xs ++ lines_in u heights uppers lowers ratings xs ++ bytes "</g>\n<g class=\"bends\">\n"
    ++ bends_in u heights vias xs ++ bytes "</g>\n<g class=\"boxes\" stroke-width=\"" ++ amount (20 * u) ++ bytes "\">\n"
    ++ boxes_in u heights vias halves xs name ++ bytes "</g>\n</svg>\n"

pub record DocumentStands (u h : ℕ) (heights : List ℕ) (vias : List Bool) (halves uppers lowers ratings : List ℕ) (xs : List ℤ) : Type 0 where
  pub opening : OpeningAsked u h halves xs
  pub lines : LinesAsked u heights uppers lowers ratings xs
  pub boxes : BoxesStand u heights vias halves xs

pub record DocumentAsked (u h : ℕ) (heights : List ℕ) (vias : List Bool) (halves uppers lowers ratings : List ℕ) (xs : List ℤ) (text starts ends : List ℕ) : Type 0 where
  pub parts : DocumentStands u h heights vias halves uppers lowers ratings xs
  pub names : NamesAsked text starts ends (length vias)
