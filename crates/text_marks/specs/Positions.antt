-- What becomes of a text: the positions of its drawing in a lent buffer.
use Rattle.std.specs.Prelude.{List, [], ◌∷◌, ◌++◌, ℤ}
use Rattle.ints.specs.Refusals.{first_refusal, refuses}
use Rattle.plan.specs.Plan.{PlanData, vertex_count}
use Rattle.text.specs.Reading.{Reading, accepted, refused}
use Rattle.passes.specs.Drawing.{drawing_of}
use Rattle.sheet.specs.Tests.{test14}
use Rattle.sheet.specs.Calls.{BufferOut, buffer_after}

-- The preliminary positions, then the final ones.
abbrev pub both_of : PlanData → List ℤ
both_of p = (drawing_of p).preliminary ++ (drawing_of p).final

-- Those of the text's plan, with how many vertices it has, if the buffer has room for them. A text that is refused leaves the buffer as it is.
unfoldable pub positions_of : Reading → List ℤ → BufferOut ℤ
positions_of (accepted p) buffer = buffer_after (first_refusal (test14 (both_of p) buffer ∷ [])) (vertex_count p) (both_of p) buffer
positions_of (refused n) buffer = record { result = refuses n; buffer = buffer }
