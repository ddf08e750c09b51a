-- "A script has one command a line": the forms of its lines, and what a line in each of them says. S, the number of the sheet, is 1.
use Rattle.std.specs.Prelude.{Bool, true, false, cond, ◌&&◌, List, [], ◌∷◌, ◌++◌, ℕ, ◌+◌, ltb, eqb, length, drop}
use Rattle.std.proofs.Math.Option.{Option, none, some}
use Prim.Native.String.{String}
use Rattle.text.specs.Bytes.{bytes}
use Rattle.text.specs.Parser.{Got, got, nothing, word}
use Rattle.script_words.specs.Parts.{words, word_at}
use Rattle.script_words.specs.Numbers.{number_in, is_whole}
use Rattle.script_texts.specs.Texts.{unescaped}
use Rattle.script_forms.specs.Forms.{has_form, whole_at, signed_at}
use Rattle.script_runs.specs.Runs.{is_request, request_in, room_in}
use Rattle.script_commands.specs.declared.types.Poke.TheVariants.{Empty, Loaded, Drawn, Levels, Gap, Spacing, Size, Vertex, Segment}
use Rattle.script_commands.specs.declared.types.Poke.TheVariants.{Remembered, Tangled, Preliminary, Final, Pass, Level, Listed}
use Rattle.script_commands.specs.Commands.{Command, skip, unknown, load, load_tangled, draw, clear, stage, line, lines, text_line, texts, mark, marks, walk, place_run, poke}

-- A form, and what a line in that form says.
pub record Row : Type 0 where
  pub form : List ℕ
  pub says : List ℕ → Command

abbrev pub row : String → (List ℕ → Command) → Row
row f s = record { form = bytes f; says = s }

-- "BUF: the buffer's length, else long enough": no line has more bytes.
abbrev pub long_enough : ℕ
long_enough = 1421

unfoldable pub calls : List Row
calls =
    row "draw 1" (λ l. draw)
    ∷ row "clear 1" (λ l. clear)
    ∷ row "stage 1" (λ l. stage)
    ∷ row "line 1 N" (λ l. line (whole_at l 2) long_enough)
    ∷ row "line 1 N N" (λ l. line (whole_at l 2) (whole_at l 3))
    ∷ row "lines 1" (λ l. lines)
    ∷ row "mark 1 N" (λ l. mark (whole_at l 2))
    ∷ row "marks 1" (λ l. marks)
    ∷ row "text 1 N" (λ l. text_line (whole_at l 2) long_enough)
    ∷ row "text 1 N N" (λ l. text_line (whole_at l 2) (whole_at l 3))
    ∷ row "texts 1" (λ l. texts)
    ∷ []

-- "alters the stored record": the stage and the plan,
unfoldable pub plan_pokes : List Row
plan_pokes =
    row "poke 1 stage empty" (λ l. poke Empty)
    ∷ row "poke 1 stage loaded N N" (λ l. poke (Loaded (whole_at l 4) (whole_at l 5)))
    ∷ row "poke 1 stage drawn N N N" (λ l. poke (Drawn (whole_at l 4) (whole_at l 5) (whole_at l 6)))
    ∷ row "poke 1 k N" (λ l. poke (Levels (whole_at l 3)))
    ∷ row "poke 1 g N" (λ l. poke (Gap (whole_at l 3)))
    ∷ row "poke 1 s N" (λ l. poke (Spacing (whole_at l 3)))
    ∷ row "poke 1 size N N" (λ l. poke (Size (whole_at l 3) (whole_at l 4)))
    ∷ row "poke 1 vertex N box N" (λ l. poke (Vertex (whole_at l 3) false (whole_at l 5)))
    ∷ row "poke 1 vertex N via N" (λ l. poke (Vertex (whole_at l 3) true (whole_at l 5)))
    ∷ row "poke 1 seg N N N" (λ l. poke (Segment (whole_at l 3) (whole_at l 4) (whole_at l 5) 1))
    ∷ row "poke 1 seg N N N N" (λ l. poke (Segment (whole_at l 3) (whole_at l 4) (whole_at l 5) (whole_at l 6)))
    ∷ []

-- what is remembered of the loading,
unfoldable pub loading_pokes : List Row
loading_pokes =
    row "poke 1 mem N N" (λ l. poke (Remembered (whole_at l 3) (whole_at l 4)))
    ∷ row "poke 1 tangled 0" (λ l. poke (Tangled false))
    ∷ row "poke 1 tangled 1" (λ l. poke (Tangled true))
    ∷ []

-- and the drawing.
unfoldable pub drawing_pokes : List Row
drawing_pokes =
    row "poke 1 pre N Z" (λ l. poke (Preliminary (whole_at l 3) (signed_at l 4)))
    ∷ row "poke 1 pos N Z" (λ l. poke (Final (whole_at l 3) (signed_at l 4)))
    ∷ row "poke 1 pass N N" (λ l. poke (Pass (whole_at l 3) (whole_at l 4)))
    ∷ row "poke 1 level N N" (λ l. poke (Level (whole_at l 3) (whole_at l 4)))
    ∷ row "poke 1 box N N N Z" (λ l. poke (Listed (whole_at l 3) (whole_at l 4) (whole_at l 5) (signed_at l 6)))
    ∷ []

-- What the first form says that the line has; "unknown" if it has none.
unfoldable pub said_by : List Row → List ℕ → Command
said_by [] l = unknown
said_by (r ∷ rs) l =
    let here = r.says l in
    let more = said_by rs l in
    cond (has_form r.form l) here more

-- "empty lines and lines that begin with `#` are skipped"
abbrev pub is_skipped : List ℕ → Bool
is_skipped [] = true
is_skipped (b ∷ l) = eqb b 35

-- "TEXT goes to the line's end". `say` is what the text is for.
abbrev pub loading : (List ℕ → Command) → Option (List ℕ) → Command
loading say none = unknown
loading say (some text) = say text

abbrev pub load_or : (List ℕ → Command) → Got (Unit {0}) → Command → Command
load_or say (got u text) other = loading say (unescaped text)
load_or say nothing other = other

-- `walk l TEXT`: a number without a sign up to the first space, and the text after it.
abbrev pub walking : List ℕ → Command
walking given =
    let level = word_at given 0 in
    let said = loading (walk (whole_at given 0)) (unescaped (drop (length level + 1) given)) in
    cond (is_whole (number_in level) && ltb (length level) (length given)) said unknown

abbrev pub walk_or : Got (Unit {0}) → Command → Command
walk_or (got u given) other = walking given
walk_or nothing other = other

-- What follows placerun is a request, or the line is unknown.
abbrev pub placing : List (List ℕ) → Command
placing ws =
    let run = place_run (request_in ws) (room_in ws) in
    cond (is_request ws) run unknown

abbrev pub place_or : Got (Unit {0}) → Command → Command
place_or (got u given) other = placing (words given)
place_or nothing other = other

unfoldable pub command_of : List ℕ → Command
command_of l =
    let other = said_by (calls ++ plan_pokes ++ loading_pokes ++ drawing_pokes) l in
    let run = place_or (word (bytes "placerun ") l) other in
    let walked = walk_or (word (bytes "walk ") l) run in
    let tangled = load_or load_tangled (word (bytes "load 1 tangled ") l) walked in
    let said = load_or load (word (bytes "load 1 strict ") l) tangled in
    cond (is_skipped l) skip said
