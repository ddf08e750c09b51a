-- What becomes of a text: its marks in a lent buffer.
use Rattle.std.specs.Prelude.{List, [], ◌∷◌, Float}
use Rattle.ints.specs.Refusals.{first_refusal, refuses}
use Rattle.text.specs.Reading.{Reading, accepted, refused}
use Rattle.passes.specs.Drawing.{drawing_of}
use Rattle.marks.specs.Marks.{mark_count, all_numbers}
use Rattle.sheet.specs.Tests.{test14}
use Rattle.sheet.specs.Calls.{BufferOut, buffer_after}

-- All marks of the text's plan, five numbers each, if the buffer has room for them. A text that is refused leaves the buffer as it is.
unfoldable pub marks_of : Reading → List Float → BufferOut Float
marks_of (accepted p) buffer =
    let all = all_numbers p (drawing_of p).final in
    buffer_after (first_refusal (test14 all buffer ∷ [])) (mark_count p) all buffer
marks_of (refused n) buffer = record { result = refuses n; buffer = buffer }
