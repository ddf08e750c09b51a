-- The first lines of a picture: what part of the plane is shown, and the constant style.
use Rattle.std.specs.Prelude.{List, ◌++◌, ℕ, ◌+◌, ◌*◌, ℤ, pos, ◌+ℤ◌, ◌-ℤ◌}
use Rattle.plan.specs.Plan.{PlanData, height_of}
use Rattle.text.specs.Bytes.{bytes}
use Rattle.picture_numbers.specs.Thousandths.{across, down}
use Rattle.picture_view.specs.Measure.{measure, leftmost, rightmost}

-- The view's left end, top and width in half steps: "X = lo/2 − u/2, Y = −u/2, W = (hi − lo)/2 + u".
abbrev pub view_left : ℤ → ℕ → ℤ
view_left lo u = lo -ℤ pos u

abbrev pub view_top : ℕ → ℤ
view_top u = pos 0 -ℤ pos u

abbrev pub view_width : ℤ → ℤ → ℕ → ℤ
view_width lo hi u = (hi -ℤ lo) +ℤ pos (2 * u)

-- The first line, with the view's height h in steps.
unfoldable pub head_of : ℤ → ℤ → ℕ → ℕ → List ℕ
head_of lo hi u h =
    bytes "<svg xmlns=\"http://www.w3.org/2000/svg\" version=\"1.1\" class=\"drawing\" viewBox=\"" ++ across (view_left lo u)
    ++ bytes " " ++ across (view_top u) ++ bytes " " ++ across (view_width lo hi u) ++ bytes " " ++ down h ++ bytes "\">\n"

-- "H = (K − 1) S + u": the lowest level's y, and u.
abbrev pub view_height : PlanData → ℕ
view_height p = height_of p p.levels + measure p

abbrev pub picture_head : PlanData → List ℤ → List ℕ
picture_head p xs = head_of (leftmost p.halves xs) (rightmost p.halves xs) (measure p) (view_height p)

-- Colours and letters, by day and by night.
unfoldable pub style : List ℕ
style =
    bytes "<style>\n"
    ++ bytes ".drawing{background:#fff;font-family:\"DejaVu Sans Mono\",Menlo,Consolas,monospace;text-anchor:middle}\n"
    ++ bytes ".drawing .lines{stroke:#3d6b8e}\n"
    ++ bytes ".drawing .bends{fill:#3d6b8e}\n"
    ++ bytes ".drawing .boxes{stroke:#1c2f40;fill:#eef3f7}\n"
    ++ bytes ".drawing text{stroke:none;fill:#101c26}\n"
    ++ bytes "@media (prefers-color-scheme:dark){\n"
    ++ bytes ".drawing{background:#12181e}\n"
    ++ bytes ".drawing .lines{stroke:#7fb0d3}\n"
    ++ bytes ".drawing .bends{fill:#7fb0d3}\n"
    ++ bytes ".drawing .boxes{stroke:#c9d8e4;fill:#22303c}\n"
    ++ bytes ".drawing text{fill:#eef3f7}\n"
    ++ bytes "}\n"
    ++ bytes "</style>\n"
