-- What the program writes of an f64, whatever it is.
use Rattle.std.specs.Prelude.{ℕ, true, false, cond, List, ◌++◌, pos, Float}
use Rattle.std.specs.Float.{fin, binary64}
use Rattle.std.specs.Float.Ieee.{lt, mul, to_unsigned}
use Rattle.text.specs.Bytes.{bytes}
use Rattle.text.specs.Decimal.{decimal}
use Rattle.marks.specs.declared.types.Point.{Point}
use Rattle.marks.specs.declared.types.Mark.{Mark}
use Rattle.marks.specs.declared.types.Mark.TheVariants.{Box, Bend, Line}
use Rattle.script_marks.specs.Marks.{half_steps}

-- The whole part of a number between -1 and 2^64; 0 for any other.
unfoldable pub whole_in : Float → ℕ
whole_in x = cond (lt (fin true 1 (pos 0)) x) (cond (lt x (fin false 1 (pos 64))) (to_unsigned 64 x) 0) 0

-- A number of steps, as twice as many half steps.
unfoldable pub across_in : Float → List ℕ
across_in x =
    let minus = bytes "-" ++ half_steps (whole_in (mul binary64 x (fin true 1 (pos 1)))) in
    let plus = half_steps (whole_in (mul binary64 x (fin false 1 (pos 1)))) in
    cond (lt x (fin false 0 (pos 0))) minus plus

abbrev pub down_in : Float → List ℕ
down_in y = decimal (whole_in y)

abbrev pub point_in : Point → List ℕ
point_in q = across_in q.x ++ bytes " " ++ down_in q.y

unfoldable pub mark_in : Mark → List ℕ
mark_in (Box q w) = bytes "box " ++ point_in q ++ bytes " " ++ down_in w
mark_in (Bend q) = bytes "bend " ++ point_in q
mark_in (Line q r) = bytes "line " ++ point_in q ++ bytes " " ++ point_in r
