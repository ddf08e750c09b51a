-- What the program picture prints: the document, or one line that says what was refused; never a part of a drawing.
use Rattle.std.specs.Prelude.{List, ◌++◌, ℕ}
use Rattle.plan.specs.Plan.{PlanData}
use Rattle.text.specs.Bytes.{bytes}
use Rattle.text.specs.Decimal.{decimal}
use Rattle.text.specs.Reading.{Reading, accepted, refused}
use Rattle.text_write.specs.Again.{refused_line}
use Rattle.passes.specs.Drawing.{drawing_of}
use Rattle.picture_names.specs.Names.{Names, named, bad, names_of}
use Rattle.picture_marks.specs.Picture.{picture_of}

unfoldable pub names_refused_line : ℕ → List ℕ
names_refused_line line = bytes "(names refused at line " ++ decimal line ++ bytes ")\n"

unfoldable pub named_printed : PlanData → Names → List ℕ
named_printed p (named names) = picture_of p (drawing_of p).final names
named_printed p (bad line) = names_refused_line line

-- Of a plan's text, by what reading it gave, and a text of names.
unfoldable pub printed : Reading → List ℕ → List ℕ
printed (accepted p) names = named_printed p (names_of p.vias names)
printed (refused n) names = refused_line n
