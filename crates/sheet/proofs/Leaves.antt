-- What a call leaves that is known by an equation.
use mathlib.Core.Path.{◌≡◌, refl}
use Rattle.sheet.specs.declared.types.Sheet.{Sheet}
use Rattle.std.specs.Prelude.{Result}
use Rattle.ints.specs.Refusals.{verdict_of}
use Rattle.ints.specs.declared.refusal.Refusal.{Refusal}
use Rattle.sheet.specs.Calls.{SheetOut, sheet_out, Leaves}

pub leaves : {o : SheetOut} {a : Result Unit Refusal} {s : Sheet} (t : Sheet) → o ≡ sheet_out (verdict_of a) t → s ≡ t → Leaves o a s
leaves t e h = rw e (record { answered = refl; left = h })
