-- The line of a mark as the program writes it, whatever its numbers are.
use Rattle.std.specs.Prelude.{List, ◌++◌, ℕ}
use Rattle.text.specs.Bytes.{bytes}
use Rattle.marks.specs.declared.types.Mark.{Mark}
use Rattle.script_marks.specs.inner.Floats.{mark_in}

unfoldable pub mark_line_in : Mark → List ℕ
mark_line_in m = bytes "ok " ++ mark_in m ++ bytes "\n"
