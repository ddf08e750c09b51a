-- A text that may be tangled, loaded by E1's way and given back: what the load refuses, or the whole text of the sheet that it leaves.
use Rattle.std.specs.Prelude.{List, ℕ}
use Rattle.ints.specs.Refusals.{Verdict, gives, refuses}
use Rattle.sheet.specs.declared.types.Sheet.{Sheet}
use Rattle.sheet.specs.Sheet.{empty_sheet}
use Rattle.sheet.specs.Calls.{TextOut, load_tangled, whole_text}

abbrev pub back_of : Verdict Unit → Sheet → List ℕ → TextOut
back_of (gives u) s buffer = whole_text s buffer
back_of (refuses n) s buffer = record { result = refuses n; buffer = buffer }

unfoldable pub text_back : List ℕ → List ℕ → TextOut
text_back text buffer =
    let o = load_tangled empty_sheet text in
    back_of o.result o.sheet buffer
