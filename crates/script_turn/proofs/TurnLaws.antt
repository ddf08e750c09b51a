-- One answer of a turn, from what the functions promised that give it: the only one, or the n-th of those up to a refusal.
use mathlib.Core.Path.{◌≡◌, refl, ◌∙◌, ap}
use mathlib.Core.Bool.{Bool, false}
use mathlib.Core.List.{List, []}
use Prim.Native.Nat.{ℕ, ◌<◌, min}
use native.Mathlib.Omega.{arith}
use lib.IntN.{pos}
use lib.ListN.{length, take, replicate}
use Rattle.ints.specs.Lists.{concat}
use Rattle.ints.proofs.Lists.{concat-one}
use Rattle.run.specs.Call.{call_of}
use Rattle.text_write.proofs.Written.{wrote_none}
use Rattle.sheet.specs.declared.types.Sheet.{Sheet}
use Rattle.calls.specs.declared.types.Call.TheVariants as call
use Rattle.calls.specs.Step.{step}
use Rattle.script_runs.specs.declared.types.RunRequest.{RunRequest}
use Rattle.script_runs.specs.inner.Filled.{request_with}
use Rattle.script_commands.specs.declared.types.Command.{Command as Found}
use Rattle.script_commands.specs.declared.types.Command.TheVariants.{Skip, Unknown, Load, LoadTangled, Draw, Clear, Stage, Line, Lines, TextLine, Texts, Mark, Marks, Walk, PlaceRun, Poke}
use Rattle.script_commands.specs.declared.types.Poke.{Poke as Altering}
use Rattle.script_commands.specs.inner.Held.{Lent, command_in}
use Rattle.script_commands.specs.Table.{long_enough}
use Rattle.script_poke.specs.Poked as pokes
use Rattle.script_answers.specs.Answers.{Said, unknown as not_known, stage as standing, line_of}
use Rattle.text_walk.specs.Walks.{text_walk}
use Rattle.script_calls.specs.Said.{walk_said, run_said}
use Rattle.script_told.specs.Turns.{Turn, turn, saying, lending, calling, up_to_refusal, most_answers, line_said, text_said, mark_said, poke_said, turn_of}
use Rattle.script_told.specs.inner.One.{Single}
use Rattle.script_turn.specs.inner.One.{Nth, Asked, Answers}
use Rattle.script_turn.proofs.LineLaws.{line-enough, text-enough}
use Rattle.script_told.proofs.Goes.{some, most, nth, goes_on}

module _ {c : Found} {b : Lent} {s : Sheet} {n : ℕ} {o : List ℕ} (asked : Asked c b s n o) where
  -- no answer
  pub none : turn_of (command_in c b) s ≡ turn [] s → Answers (turn_of (command_in c b) s) n o s 0 false o
  unfolding concat
  none e =
      let z : n ≡ 0 = omega (arith, ap (λ (t : Turn). length t.said) e, asked.has) in
      rw (e, z) (record { wrote = record { wrote = wrote_none o 0; inside = omega arith }; left = refl; further = refl })

  -- the only answer
  pub only : {a : Said} {t left : Sheet} {count : ℕ} {more : Bool} {out : List ℕ} → turn_of (command_in c b) s ≡ saying a t → Single a t o left count more out
      → Answers (turn_of (command_in c b) s) n o left count more out
  only {a} {t} e h =
      let z : n ≡ 0 = omega (arith, ap (λ (t : Turn). length t.said) e, asked.has) in
      rw (e, z) (record { wrote = rw (concat-one (line_of a)) h.wrote; left = h.left; further = h.last })

  -- the n-th
  below : (f : ℕ → Said) → turn_of (command_in c b) s ≡ turn (up_to_refusal f 0 most_answers) s → n < length (up_to_refusal f 0 most_answers)
  below f e = omega (arith, ap (λ (t : Turn). length t.said) e, asked.has, some f 0 most_answers (omega arith))

  pub within : (f : ℕ → Said) → turn_of (command_in c b) s ≡ turn (up_to_refusal f 0 most_answers) s → n < most_answers
  within f e = omega (arith, below f e, most f 0 most_answers)

  pub further : (f : ℕ → Said) {t left : Sheet} {count : ℕ} {more : Bool} {out : List ℕ} → turn_of (command_in c b) s ≡ turn (up_to_refusal f 0 most_answers) s → t ≡ s → Nth (f n) n t o left count more out
      → Answers (turn_of (command_in c b) s) n o left count more out
  further f e z h =
      let l = below f e in
      rw e
      (record {
        wrote = rw (nth f n most_answers l, concat-one (line_of (f n))) h.wrote;
        left = h.left ∙ z;
        further = h.further ∙ goes_on f n most_answers l;
      })

-- ---- the turn of each command
module _ {c : Found} (b : Lent) (s : Sheet) where
  pub is-skip : c ≡ Skip → turn_of (command_in c b) s ≡ turn [] s
  unfolding turn_of
  is-skip e = rw e

  pub is-unknown : c ≡ Unknown → turn_of (command_in c b) s ≡ saying not_known s
  unfolding turn_of
  is-unknown e = rw e

  pub is-load : {k : ℕ} → c ≡ Load k → turn_of (command_in c b) s ≡ calling call.Load (lending (take k b.text) 0) s
  unfolding turn_of
  is-load e = rw e

  pub is-tangled : {k : ℕ} → c ≡ LoadTangled k → turn_of (command_in c b) s ≡ calling call.LoadTangled (lending (take k b.text) 0) s
  unfolding turn_of
  is-tangled e = rw e

  pub is-draw : c ≡ Draw → turn_of (command_in c b) s ≡ calling call.Draw (lending [] 0) s
  unfolding turn_of
  is-draw e = rw e

  pub is-clear : c ≡ Clear → turn_of (command_in c b) s ≡ calling call.Clear (lending [] 0) s
  unfolding turn_of
  is-clear e = rw e

  pub is-stage : c ≡ Stage → turn_of (command_in c b) s ≡ saying (standing s.header.stage) s
  unfolding turn_of
  is-stage e = rw e

  pub is-line : {k room : ℕ} → c ≡ Line k room → turn_of (command_in c b) s ≡ calling (call.Line k) (lending [] (min room long_enough)) s
  unfolding turn_of step
  is-line {k} {room} e = rw e (ap (λ (a : Said). saying a s) (line-enough s k room))

  pub is-lines : c ≡ Lines → turn_of (command_in c b) s ≡ turn (up_to_refusal (line_said s) 0 most_answers) s
  unfolding turn_of
  is-lines e = rw e

  pub is-text : {k room : ℕ} → c ≡ TextLine k room → turn_of (command_in c b) s ≡ calling (call.TextLine k) (lending [] (min room long_enough)) s
  unfolding turn_of step
  is-text {k} {room} e = rw e (ap (λ (a : Said). saying a s) (text-enough s k room))

  pub is-texts : c ≡ Texts → turn_of (command_in c b) s ≡ turn (up_to_refusal (text_said s) 0 most_answers) s
  unfolding turn_of
  is-texts e = rw e

  pub is-mark : {k : ℕ} → c ≡ Mark k → turn_of (command_in c b) s ≡ calling (call.Mark k) (lending [] 0) s
  unfolding turn_of
  is-mark e = rw e

  pub is-marks : c ≡ Marks → turn_of (command_in c b) s ≡ turn (up_to_refusal (mark_said s) 0 most_answers) s
  unfolding turn_of
  is-marks e = rw e

  pub is-walk : {l k : ℕ} → c ≡ Walk l k → turn_of (command_in c b) s ≡ saying (walk_said (text_walk l (take k b.text))) s
  unfolding turn_of
  is-walk e = rw e

  pub is-place : {q : RunRequest} → c ≡ PlaceRun q
      → turn_of (command_in c b) s ≡ saying (run_said (call_of (request_with q b.run) (replicate q.room (pos 0)))) s
  unfolding turn_of
  is-place e = rw e

  pub is-poke : {p : Altering} → c ≡ Poke p → turn_of (command_in c b) s ≡ saying (poke_said (pokes.poke p s)) (pokes.poke p s).sheet
  unfolding turn_of
  is-poke e = rw e

-- line, text and mark leave the sheet as it was
pub line-leaves : (s : Sheet) (k : ℕ) → (step (call.Line k) (lending [] long_enough) s).sheet ≡ s
unfolding step
line-leaves s k = refl

pub text-leaves : (s : Sheet) (k : ℕ) → (step (call.TextLine k) (lending [] long_enough) s).sheet ≡ s
unfolding step
text-leaves s k = refl

pub mark-leaves : (s : Sheet) (k : ℕ) → (step (call.Mark k) (lending [] 0) s).sheet ≡ s
unfolding step
mark-leaves s k = refl
