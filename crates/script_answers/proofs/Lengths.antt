-- No answer has more than 1,500 bytes. The longest are a report line with its length, and 64 positions of at most 17 bytes with a space
-- before each.
use mathlib.Core.Bool.{Bool, true, false, cond}
use mathlib.Core.List.{List, [], ◌∷◌}
use Prim.Native.Nat.{ℕ, suc, ◌+◌, ◌*◌, ◌^◌, ◌≤◌, ◌<◌}
use native.Mathlib.Omega.{arith}
use lib.ListN.{length, length-append}
use lib.IntN.{ℤ, pos, negsuc}
use Rattle.ints.specs.Ints.{size, SizedTo}
use Rattle.ints.proofs.Reach.{sized-tail}
use Rattle.run.specs.Call.{max_boxes}
use Rattle.text.specs.Bytes.{bytes}
use Rattle.text.specs.Decimal.{signed}
use Rattle.text.proofs.DecimalLaws.{decimal-length}
use Rattle.text_write.specs.inner.Written.{Room}
use Rattle.marks.specs.declared.types.Mark.{Mark}
use Rattle.marks.specs.declared.types.Mark.TheVariants.{Box, Bend, Line}
use Rattle.marks.proofs.Exact.{Fits}
use Rattle.sheet.specs.declared.types.Stage.{Stage}
use Rattle.sheet.specs.declared.types.Stage.TheVariants.{Empty, Loaded, Drawn}
use Rattle.report_lines.specs.inner.Stored.{max_line}
use Rattle.script_marks.specs.inner.Floats.{whole_in, mark_in}
use Rattle.script_marks.proofs.Lengths.{number_short, whole-low, point-in-short, mark-short}
use Rattle.script_answers.specs.Answers.{Said, unknown, refused, done, stage, text, mark, walked, positions, stage_words, position_words, line_of}
use Rattle.script_answers.specs.inner.MarkLine.{mark_line_in}
use Rattle.script_answers.specs.inner.Lengths.{max_answer, max_position, max_stage}

-- ---- marks as the program writes them
pub mark-in-short : (m : Mark) → length (mark_line_in m) ≤ 98
unfolding mark_line_in mark_in
mark-in-short (Box q w) =
    let n = number_short (whole_in w) (whole-low w) in
    simp length-append (omega (arith, simp length-append at (point-in-short q)))
mark-in-short (Bend q) = simp length-append (omega (arith, simp length-append at (point-in-short q)))
mark-in-short (Line q r) = simp length-append (omega (arith, simp length-append at (point-in-short q), simp length-append at (point-in-short r)))

-- ---- stages
abbrev pub SmallStage : Stage → Type 0
SmallStage Empty = Unit {0}
SmallStage (Loaded v e) = (v < 2 ^ 64) × (e < 2 ^ 64)
SmallStage (Drawn v e p) = (v < 2 ^ 64) × (e < 2 ^ 64) × (p < 2 ^ 64)

pub stage-short : (s : Stage) → SmallStage s → length (stage_words s) ≤ max_stage
unfolding stage_words
stage-short Empty h = omega arith
stage-short (Loaded v e) h =
    let a = number_short v h.0 in let b = number_short e h.1 in
    simp length-append (omega arith)
stage-short (Drawn v e p) h =
    let a = number_short v h.0 in let b = number_short e h.1 in let c = number_short p h.2 in
    simp length-append (omega arith)

-- ---- positions
signed-short : (z : ℤ) → size z ≤ max_position → length (signed z) ≤ 17
unfolding signed
signed-short (pos n) h = omega (arith, decimal-length 15 n (omega arith))
signed-short (negsuc n) h = omega (arith, decimal-length 15 (suc n) (omega arith))

positions-short : (xs : List ℤ) → SizedTo max_position xs → length (position_words xs) ≤ 18 * length xs
unfolding position_words
positions-short [] h = omega arith
positions-short (x ∷ xs) h =
    let a = signed-short x (h.each 0) in
    simp length-append (omega (arith, positions-short xs (sized-tail max_position x xs h)))

-- ---- walks
walk-short : (crossed : Bool) → length (cond crossed (bytes "ok crossed ") (bytes "ok clear ")) ≤ 11
walk-short true = omega arith
walk-short false = omega arith

-- ---- answers
-- With counts that 64 bits hold, and a run of no more boxes than place-run takes.
abbrev pub Short : Said → Type 0
Short unknown = Unit {0}
Short (refused n) = n < 2 ^ 64
Short done = Unit {0}
Short (stage s) = SmallStage s
Short (text l) = length l ≤ max_line
Short (mark m) = Fits m
Short (walked w) = w.taken < 2 ^ 64
Short (positions xs) = (length xs ≤ max_boxes) × SizedTo max_position xs

pub said-short : (a : Said) → Short a → length (line_of a) ≤ max_answer
unfolding line_of
said-short unknown h = omega arith
said-short (refused n) h = let a = number_short n h in simp length-append (omega arith)
said-short done h = omega arith
said-short (stage s) h = let a = stage-short s h in simp length-append (omega arith)
said-short (text l) h = let a = decimal-length 3 (length l) (omega arith) in simp length-append (omega arith)
said-short (mark m) h = let a = mark-short m h in simp length-append (omega arith)
said-short (walked w) h = let a = number_short w.taken h in let b = walk-short w.crossed in simp length-append (omega arith)
said-short (positions xs) h = let a = positions-short xs h.1 in simp length-append (omega (arith, h.0))

-- so where there is room for the longest, there is room for each
pub said-room : (a : Said) → Short a → (out : List ℕ) (at : ℕ) → at + max_answer ≤ length out → Room (line_of a) out at
said-room a h out at r = omega (arith, said-short a h)
