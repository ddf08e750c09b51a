-- What the functions that make a call and write its answer ask and promise.
use Rattle.std.specs.Prelude.{Bool, List, ◌≡◌, ℕ, ◌+◌, ◌≤◌, length, take, ℤ, Float, Result, Ok, Err}
use Rattle.ints.specs.Refusals.{number_of}
use Rattle.ints.specs.declared.refusal.Refusal.{Refusal}
use Rattle.run.specs.Call.{Out}
use Rattle.text_write.specs.inner.Written.{Wrote}
use Rattle.report_lines.specs.inner.Stored.{max_line}
use Rattle.sheet.specs.declared.types.Sheet.{Sheet}
use Rattle.calls.specs.declared.types.Call.{Call}
use Rattle.calls.specs.declared.types.Reply.{Reply}
use Rattle.calls.specs.declared.types.Reply.TheVariants.{Done, Written, Given}
use Rattle.calls.specs.Step.{Lent, step}
use Rattle.script_answers.specs.Answers.{refused, done, text, line_of}
use Rattle.script_answers.specs.inner.MarkLine.{mark_line_in}
use Rattle.script_answers.specs.inner.Lengths.{max_answer}
use Rattle.script_calls.specs.Said.{call_said, is_refusal, run_said}

-- The line that the program writes of a reply and of what the call left in the lent buffer.
abbrev pub reply_line : Result Reply Refusal → List ℕ → List ℕ
reply_line (Ok Done) buffer = line_of done
reply_line (Ok (Written n)) buffer = line_of (text (take n buffer))
reply_line (Ok (Given m)) buffer = mark_line_in m
reply_line (Err r) buffer = line_of (refused (number_of r))

-- The lent buffer is no longer than a report line, and there is room for any answer.
pub record AnswerRoom (buffer out : List ℕ) (at : ℕ) : Type 0 where
  pub line : length buffer ≤ max_line
  pub answer : at + max_answer ≤ length out

-- A text stands in the buffer from `at` to `to`, and does not go beyond it.
pub record Fitted (w o : List ℕ) (at to : ℕ) (out : List ℕ) : Type 0 where
  pub wrote : Wrote w o at to out
  pub inside : to ≤ length o

-- The answer's line stands in the buffer, and the sheet and what was lent are as the call leaves them.
pub record AnswersCall (q : Call) (l : Lent) (s : Sheet) (o : List ℕ) (at next : ℕ) (is_refused : Bool) (left : Sheet) (out buffer : List ℕ) (numbers : List Float) : Type 0 where
  pub said : Fitted (line_of (call_said q l s)) o at next out
  pub refused : is_refused ≡ is_refusal (step q l s).result
  pub sheet : left ≡ (step q l s).sheet
  pub bytes : buffer ≡ (step q l s).buffer
  pub floats : numbers ≡ (step q l s).numbers

-- The answer to place-run stands in the buffer, and the positions are as the call leaves them.
pub record AnswersRun (r : Out) (o : List ℕ) (at next : ℕ) (out : List ℕ) (answer : List ℤ) : Type 0 where
  pub said : Fitted (line_of (run_said r)) o at next out
  pub left : answer ≡ r.buffer
