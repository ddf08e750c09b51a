-- The answers of short scripts, computed. Assumes nothing.
use mathlib.Core.Path.{◌≡◌, refl}
use Rattle.ints.specs.Lists.{concat}
use Rattle.plan.specs.Checks.{every}
use Rattle.text.specs.Bytes.{bytes}
use Rattle.text.specs.Decimal.{digits, decimal}
use Rattle.text.specs.Parser.{word}
use Rattle.script_words.specs.Parts.{parts, same}
use Rattle.script_words.specs.Numbers.{value_from, is_natural, natural_in, number_in}
use Rattle.script_forms.specs.Forms.{stands_for, fits}
use Rattle.script_commands.specs.Table.{calls, plan_pokes, loading_pokes, drawing_pokes, said_by, command_of}
use Rattle.script_poke.specs.Poked as pokes
use Rattle.script_answers.specs.Answers.{stage_words, line_of}
use Rattle.sheet.specs.Sheet.{empty_sheet}
use Rattle.script_told.specs.Turns.{turn_of}
use Rattle.script_told.specs.Scripts.{answers_to, script_answers}

-- each command finds the sheet as the one before it left it
kept : script_answers (bytes "stage 1\npoke 1 stage loaded 5 4\nstage 1\n") ≡ bytes "ok empty\nok\nok loaded 5 4\n"
unfolding script_answers answers_to turn_of pokes.poke line_of stage_words digits decimal concat empty_sheet command_of word said_by calls plan_pokes loading_pokes drawing_pokes fits stands_for parts same number_in natural_in is_natural every value_from
kept = refl
