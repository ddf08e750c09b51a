-- What becomes of a plan's text and a text of names: the picture of the plan's drawing in a lent buffer. The tests in their order: 1 to 6 of
-- the plan's text, the names by their lines, 14. Whoever is refused finds the buffer as it was.
use Rattle.std.specs.Prelude.{List, ℕ}
use Rattle.plan.specs.Plan.{PlanData}
use Rattle.text.specs.Reading.{Reading, accepted, refused}
use Rattle.passes.specs.Drawing.{drawing_of}
use Rattle.picture_names.specs.Names.{Names, named, bad, names_of}
use Rattle.picture_marks.specs.Picture.{picture_of}
use Rattle.picture_fit.specs.Fitted.{Left, refuses, refuses_names, fitted}

-- By the names.
unfoldable pub named_picture : PlanData → Names → List ℕ → Left
named_picture p (named names) o = fitted (picture_of p (drawing_of p).final names) o
named_picture p (bad line) o = refuses_names line o

-- By what reading the plan's text gave.
unfoldable pub picture_in : Reading → List ℕ → List ℕ → Left
picture_in (accepted p) names o = named_picture p (names_of p.vias names) o
picture_in (refused n) names o = refuses n o
