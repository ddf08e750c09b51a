-- A run that is handed in without its number of boxes.
use Rattle.std.specs.Prelude.{List, ℕ, length, ℤ, Option}
use Rattle.run.specs.Call.{Request}

-- The run of a call: as many boxes as old positions.
abbrev pub request_of : Option ℤ → Option ℤ → List ℤ → List ℕ → List ℕ → List ℤ → List ℕ → Request
request_of l r old ds cs ns ws =
    record { boxes = length old; left = l; right = r; old = old; distances = ds; counts = cs; neighbours = ns; ratings = ws }
