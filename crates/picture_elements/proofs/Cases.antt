-- Lines by their ratings, computed. Assumes nothing.
use mathlib.Core.Path.{◌≡◌, refl}
use mathlib.Core.List.{[], ◌∷◌, map}
use lib.IntN.{pos, negsuc}
use Rattle.text.specs.Bytes.{bytes}
use Rattle.text.specs.Decimal.{digits, decimal}
use Rattle.marks.specs.Marks.{line}
use Rattle.picture_numbers.specs.Thousandths.{places, fraction, amount, thousandths, across, down}
use Rattle.picture_elements.specs.Elements.{pen_of, line_of}

-- From -2.5 and 0 to 3 and 10, of measure 7.
lines : map (λ w. line_of 7 w (line (negsuc 4) 0 (pos 6) 10)) (1 ∷ 2 ∷ 100 ∷ [])
    ≡ bytes "<line x1=\"-2.5\" y1=\"0\" x2=\"3\" y2=\"10\"/>\n"
    ∷ bytes "<line x1=\"-2.5\" y1=\"0\" x2=\"3\" y2=\"10\" stroke-width=\"0.147\"/>\n"
    ∷ bytes "<line x1=\"-2.5\" y1=\"0\" x2=\"3\" y2=\"10\" stroke-width=\"0.833\"/>\n" ∷ []
unfolding line_of pen_of across down thousandths amount fraction places digits decimal
lines = refl
