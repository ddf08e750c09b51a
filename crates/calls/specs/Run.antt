-- Lists of calls.
use Rattle.std.specs.Prelude.{Bool, true, false, List, [], ◌∷◌, ℕ, Float}
use Rattle.ints.specs.Refusals.{Verdict}
use Rattle.sheet.specs.declared.types.Sheet.{Sheet}
use Rattle.calls.specs.declared.types.Call.{Call}
use Rattle.calls.specs.declared.types.Call.TheVariants.{Load, LoadTangled, Draw, Line, Report, TextLine, WholeText, Mark, Marks, Clear}
use Rattle.calls.specs.Replies.{Value}
use Rattle.calls.specs.Step.{Lent, After, step}

-- A call with what is lent to it, and what its caller sees.
pub record Asked : Type 0 where
  pub call : Call
  pub lent : Lent

pub record Answered : Type 0 where
  pub result : Verdict Value
  pub buffer : List ℕ
  pub numbers : List Float

abbrev pub seen : After → Answered
seen a = record { result = a.result; buffer = a.buffer; numbers = a.numbers }

-- A call made on a sheet.
abbrev pub made : Asked → Sheet → After
made q s = step q.call q.lent s

-- The answers of calls made one after another on a sheet.
unfoldable pub run : List Asked → Sheet → List Answered
run [] s = []
run (q ∷ qs) s =
    let a = made q s in
    seen a ∷ run qs a.sheet

-- The sheet that they leave.
unfoldable pub leaves : List Asked → Sheet → Sheet
leaves [] s = s
leaves (q ∷ qs) s = leaves qs (made q s).sheet

-- Lines of the report and of the text, by one or all, and marks only show what a sheet holds.
abbrev pub shows : Call → Bool
shows Load = false
shows LoadTangled = false
shows Draw = false
shows (Line n) = true
shows Report = true
shows (TextLine n) = true
shows WholeText = true
shows (Mark n) = true
shows Marks = true
shows Clear = false
