-- What leaves a sheet as it was: a command that is refused, one that is unknown, and those that only show it.
use mathlib.Core.Path.{◌≡◌, refl}
use mathlib.Core.Bool.{Bool, true, false, cond}
use mathlib.Core.List.{List, [], ◌∷◌}
use Prim.Native.Nat.{ℕ, ◌<◌}
use native.Mathlib.Omega.{arith}
use lib.Dec.{ltb}
use lib.ListN.{length}
use Rattle.ints.specs.Refusals.{Verdict, gives, refuses}
use Rattle.text.proofs.Words.{never}
use Rattle.plan.specs.Limits.{max_levels, max_vertices, max_segments}
use Rattle.passes.specs.Words.{max_listed}
use Rattle.marks.specs.Marks.{WholeMark}
use Rattle.sheet.specs.declared.types.Sheet.{Sheet}
use Rattle.calls.specs.declared.types.Call.{Call}
use Rattle.calls.specs.declared.types.Call.TheVariants.{Load, LoadTangled, Draw, Line, TextLine, Mark, Clear}
use Rattle.calls.specs.Replies as value
use Rattle.calls.specs.Replies.{Value, written, marked}
use Rattle.calls.specs.Step.{Lent, step}
use Rattle.calls.proofs.Unchanged as call
use Rattle.script_commands.specs.Commands.{Command, skip, unknown, load, load_tangled, draw, clear, stage, line, lines, text_line, texts, mark, marks, walk, place_run, poke}
use Rattle.script_commands.specs.declared.types.Poke.{Poke}
use Rattle.script_commands.specs.declared.types.Poke.TheVariants.{Empty, Loaded, Drawn, Levels, Gap, Spacing, Size, Vertex, Segment, Remembered, Tangled, Preliminary, Final, Pass, Level, Listed}
use Rattle.script_poke.specs.Poked as pokes
use Rattle.script_answers.specs.Answers.{unknown as not_known, refused, done}
use Rattle.script_calls.specs.Said.{result_said, call_said}
use Rattle.script_told.specs.Turns.{lending, poke_said, turn_of}

-- ---- a call that is refused
said-refused : (w : WholeMark) (b : List ℕ) (r : Verdict Value) {n : ℕ} → result_said w b r ≡ refused n → r ≡ refuses n
said-refused w b (gives value.done) e = never (cc)
said-refused w b (gives (written k)) e = never (cc)
said-refused w b (gives (marked m)) e = never (cc)
said-refused w b (refuses k) e = cc

refused-call : (q : Call) (l : Lent) (s : Sheet) (n : ℕ) → call_said q l s ≡ refused n → (step q l s).sheet ≡ s
unfolding call_said
refused-call q l s n e = (call.refused-changes-nothing q l s n (said-refused _ (step q l s).buffer (step q l s).result e)).sheet

knows : (b : Bool) {n : ℕ} → cond b done not_known ≡ refused n → ⊥
knows true e = never (cc)
knows false e = never (cc)

pub refused-changes-nothing : (c : Command) (s : Sheet) (n : ℕ) → (turn_of c s).said ≡ refused n ∷ [] → (turn_of c s).sheet ≡ s
unfolding turn_of
refused-changes-nothing skip s n e = refl
refused-changes-nothing unknown s n e = refl
refused-changes-nothing (load t) s n e = refused-call Load (lending t 0) s n (cc)
refused-changes-nothing (load_tangled t) s n e = refused-call LoadTangled (lending t 0) s n (cc)
refused-changes-nothing draw s n e = refused-call Draw (lending [] 0) s n (cc)
refused-changes-nothing clear s n e = refused-call Clear (lending [] 0) s n (cc)
refused-changes-nothing stage s n e = refl
refused-changes-nothing (line k room) s n e = refused-call (Line k) (lending [] room) s n (cc)
refused-changes-nothing lines s n e = refl
refused-changes-nothing (text_line k room) s n e = refused-call (TextLine k) (lending [] room) s n (cc)
refused-changes-nothing texts s n e = refl
refused-changes-nothing (mark k) s n e = refused-call (Mark k) (lending [] 0) s n (cc)
refused-changes-nothing marks s n e = refl
refused-changes-nothing (walk l t) s n e = refl
refused-changes-nothing (place_run q room) s n e = refl
refused-changes-nothing (poke p) s n e = absurd (knows (pokes.poke p s).known {n = n} (cc))

-- ---- unknown
said-known : (w : WholeMark) (b : List ℕ) (r : Verdict Value) → result_said w b r ≡ not_known → ⊥
said-known w b (gives value.done) e = never (cc)
said-known w b (gives (written k)) e = never (cc)
said-known w b (gives (marked m)) e = never (cc)
said-known w b (refuses k) e = never (cc)

known-call : (q : Call) (l : Lent) (s : Sheet) → call_said q l s ≡ not_known → ⊥
unfolding call_said
known-call q l s e = said-known _ (step q l s).buffer (step q l s).result e

missed : (b : Bool) (new s : Sheet) → cond (pokes.altered_if b new s).known done not_known ≡ not_known → (pokes.altered_if b new s).sheet ≡ s
missed true new s e = never (cc)
missed false new s e = refl

poke-missed : (p : Poke) (s : Sheet) → poke_said (pokes.poke p s) ≡ not_known → (pokes.poke p s).sheet ≡ s
unfolding pokes.poke
poke-missed Empty s e = never (cc)
poke-missed (Loaded v k) s e = never (cc)
poke-missed (Drawn v k n) s e = never (cc)
poke-missed (Levels k) s e = never (cc)
poke-missed (Gap k) s e = never (cc)
poke-missed (Spacing k) s e = never (cc)
poke-missed (Size i n) s e = missed (ltb i max_levels) _ s e
poke-missed (Vertex i v h) s e = missed (ltb i max_vertices) _ s e
poke-missed (Segment i a b w) s e = missed (ltb i max_segments) _ s e
poke-missed (Remembered i n) s e = missed (ltb i max_vertices) _ s e
poke-missed (Tangled t) s e = never (cc)
poke-missed (Preliminary i x) s e = missed (ltb i max_vertices) _ s e
poke-missed (Final i x) s e = missed (ltb i max_vertices) _ s e
poke-missed (Pass i n) s e = missed (ltb i max_listed) _ s e
poke-missed (Level i n) s e = missed (ltb i max_listed) _ s e
poke-missed (Listed q b v x) s e = missed (pokes.has_box s.drawing.counts q b) _ s e

pub unknown-changes-nothing : (c : Command) (s : Sheet) → (turn_of c s).said ≡ not_known ∷ [] → (turn_of c s).sheet ≡ s
unfolding turn_of
unknown-changes-nothing skip s e = refl
unknown-changes-nothing unknown s e = refl
unknown-changes-nothing (load t) s e = absurd (known-call Load (lending t 0) s (cc))
unknown-changes-nothing (load_tangled t) s e = absurd (known-call LoadTangled (lending t 0) s (cc))
unknown-changes-nothing draw s e = absurd (known-call Draw (lending [] 0) s (cc))
unknown-changes-nothing clear s e = absurd (known-call Clear (lending [] 0) s (cc))
unknown-changes-nothing stage s e = refl
unknown-changes-nothing (line k room) s e = absurd (known-call (Line k) (lending [] room) s (cc))
unknown-changes-nothing lines s e = refl
unknown-changes-nothing (text_line k room) s e = absurd (known-call (TextLine k) (lending [] room) s (cc))
unknown-changes-nothing texts s e = refl
unknown-changes-nothing (mark k) s e = absurd (known-call (Mark k) (lending [] 0) s (cc))
unknown-changes-nothing marks s e = refl
unknown-changes-nothing (walk l t) s e = refl
unknown-changes-nothing (place_run q room) s e = refl
unknown-changes-nothing (poke p) s e = poke-missed p s (cc)

-- ---- stage, line, lines, text, texts, mark, marks, walk, placerun
abbrev pub shows : Command → Bool
shows skip = true
shows unknown = true
shows (load t) = false
shows (load_tangled t) = false
shows draw = false
shows clear = false
shows stage = true
shows (line k room) = true
shows lines = true
shows (text_line k room) = true
shows texts = true
shows (mark k) = true
shows marks = true
shows (walk l t) = true
shows (place_run q room) = true
shows (poke p) = false

pub show-leaves : (c : Command) (s : Sheet) → shows c ≡ true → (turn_of c s).sheet ≡ s
unfolding turn_of step
show-leaves skip s e = refl
show-leaves unknown s e = refl
show-leaves (load t) s e = never (cc)
show-leaves (load_tangled t) s e = never (cc)
show-leaves draw s e = never (cc)
show-leaves clear s e = never (cc)
show-leaves stage s e = refl
show-leaves (line k room) s e = refl
show-leaves lines s e = refl
show-leaves (text_line k room) s e = refl
show-leaves texts s e = refl
show-leaves (mark k) s e = refl
show-leaves marks s e = refl
show-leaves (walk l t) s e = refl
show-leaves (place_run q room) s e = refl
show-leaves (poke p) s e = never (cc)

-- ---- and every command that has several answers
pub several-leave : (c : Command) (s : Sheet) → 1 < length (turn_of c s).said → (turn_of c s).sheet ≡ s
unfolding turn_of
several-leave skip s l = refl
several-leave unknown s l = refl
several-leave (load t) s l = absurd (omega arith)
several-leave (load_tangled t) s l = absurd (omega arith)
several-leave draw s l = absurd (omega arith)
several-leave clear s l = absurd (omega arith)
several-leave stage s l = refl
several-leave (line k room) s l = absurd (omega arith)
several-leave lines s l = refl
several-leave (text_line k room) s l = absurd (omega arith)
several-leave texts s l = refl
several-leave (mark k) s l = absurd (omega arith)
several-leave marks s l = refl
several-leave (walk k t) s l = refl
several-leave (place_run q room) s l = refl
several-leave (poke p) s l = absurd (omega arith)
