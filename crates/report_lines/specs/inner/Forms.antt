-- What the lines of a report are made of.
use Rattle.std.specs.Prelude.{List, ◌++◌, ℕ, ℤ}
use Rattle.text.specs.Bytes.{bytes}
use Rattle.text.specs.Decimal.{decimal}
use Rattle.passes.specs.Drawing.{BoxAt, Placing, boxes_with}

abbrev pub box_at : ℕ → ℤ → BoxAt
box_at v x = record { vertex = v; position = x }

abbrev pub placing : ℕ → ℕ → List ℕ → List ℤ → Placing
placing q l vs ys = record { pass = q; level = l; boxes = boxes_with vs ys }

-- A place line up to its boxes.
unfoldable pub place_head : ℕ → ℕ → List ℕ
place_head q l = bytes "(place " ++ decimal q ++ bytes " " ++ decimal l
