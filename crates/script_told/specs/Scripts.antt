-- What a script answers: "one command a line", carried out one after another from the empty sheet on.
use Rattle.std.specs.Prelude.{List, [], ◌∷◌, ◌++◌, ℕ, ◌-◌, ◌^◌, take}
use Rattle.ints.specs.Refusals.{first_refusal}
use Rattle.sheet.specs.declared.types.Sheet.{Sheet}
use Rattle.sheet.specs.Sheet.{empty_sheet}
use Rattle.sheet.specs.Tests.{test14}
use Rattle.sheet.specs.Calls.{TextOut, text_after}
use Rattle.script_words.specs.Parts.{parts}
use Rattle.script_commands.specs.Table.{command_of}
use Rattle.script_told.specs.Turns.{turn_of, bytes_of}

unfoldable pub answers_to : List (List ℕ) → Sheet → List ℕ
answers_to [] s = []
answers_to (l ∷ ls) s =
    let t = turn_of (command_of l) s in
    bytes_of t.said ++ answers_to ls t.sheet

-- The lines have LF between them; a last line may have one after it.
unfoldable pub script_answers : List ℕ → List ℕ
script_answers script = answers_to (parts 10 script) empty_sheet

-- A length is told in 63 bits, so no more than that is written.
abbrev pub max_length : ℕ
max_length = 2 ^ 63 - 1

-- The answers in a lent buffer, if it has room for them; else 14, and the buffer stays as it is.
unfoldable pub script_of : List ℕ → List ℕ → TextOut
script_of script buffer =
    let text = script_answers script in
    text_after (first_refusal (test14 text (take max_length buffer) ∷ [])) text buffer
