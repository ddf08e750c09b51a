-- What a script answers to a call of a sheet, to a walk and to place-run.
use Rattle.std.specs.Prelude.{Bool, true, false, cond, List, ℕ, eqb, take}
use Rattle.ints.specs.Refusals.{Verdict, gives, refuses}
use Rattle.plan.specs.declared.walk.Walk.{Walk}
use Rattle.run.specs.Call.{Out}
use Rattle.marks.specs.Marks.{WholeMark, whole_mark_of}
use Rattle.sheet.specs.declared.types.Sheet.{Sheet}
use Rattle.sheet.specs.Sheet.{plan_in, drawing_in}
use Rattle.calls.specs.declared.types.Call.{Call}
use Rattle.calls.specs.declared.types.Call.TheVariants.{Load, LoadTangled, Draw, Line, Report, TextLine, WholeText, Mark, Marks, Clear}
use Rattle.calls.specs.Replies as value
use Rattle.calls.specs.Replies.{Value, written, marked}
use Rattle.calls.specs.Step.{Lent, step}
use Rattle.script_answers.specs.Answers.{Said, refused, done, text, mark, walked, positions}

-- By what the call gives: nothing to say; a text of that length, which stands at the front of the lent buffer; a mark, which is w in
-- whole numbers.
abbrev pub value_said : WholeMark → List ℕ → Value → Said
value_said w buffer value.done = done
value_said w buffer (written n) = text (take n buffer)
value_said w buffer (marked m) = mark w

abbrev pub result_said : WholeMark → List ℕ → Verdict Value → Said
result_said w buffer (gives v) = value_said w buffer v
result_said w buffer (refuses n) = refused n

-- The number of the mark that is asked for.
abbrev pub mark_asked : Call → ℕ
mark_asked Load = 0
mark_asked LoadTangled = 0
mark_asked Draw = 0
mark_asked (Line n) = 0
mark_asked Report = 0
mark_asked (TextLine n) = 0
mark_asked WholeText = 0
mark_asked (Mark n) = n
mark_asked Marks = 0
mark_asked Clear = 0

-- What is answered to a call, with what is lent to it, on a sheet. (Report, whole text and marks are no commands of a script.)
unfoldable pub call_said : Call → Lent → Sheet → Said
call_said q l s =
    let after = step q l s in
    result_said (whole_mark_of (plan_in s) (drawing_in s).final (mark_asked q)) after.buffer after.result

-- Whether it is refused: `lines`, `texts` and `marks` end with that answer.
abbrev pub is_refusal : Verdict Value → Bool
is_refusal (gives v) = false
is_refusal (refuses n) = true

-- To a walk.
abbrev pub walk_said : Verdict Walk → Said
walk_said (gives w) = walked w
walk_said (refuses n) = refused n

-- To place-run.
abbrev pub run_said : Out → Said
run_said o = cond (eqb o.number 0) (positions o.buffer) (refused o.number)
