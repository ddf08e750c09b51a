-- A text that is cut to more than 65,536 bytes is refused with 1 as the whole text is, and a list of a run that is cut is refused
-- with 8 as the whole list is; so what is asked of a command may be asked of so much of it as the buffers have room for.
use mathlib.Core.Path.{◌≡◌, refl, sym, ◌∙◌, ap}
use mathlib.Core.List.{List}
use mathlib.Core.Option.{Option, none, some}
use Prim.Native.Nat.{ℕ, ◌<◌}
use native.Mathlib.Omega.{arith}
use native.Mathlib.Decide.{dec_lt}
use borrow.Author.Tests.{lt-leb}
use lib.ListN.{length, take, length-take}
use lib.Seq.{take_all}
use Rattle.ints.specs.Refusals.{Test, first_refusal}
use Rattle.plan.specs.Plan.{PlanData}
use Rattle.plan.specs.Checks.{checks_of, tangled_checks_of}
use Rattle.text.specs.Form.{Lines, form_of}
use Rattle.text.specs.Reading.{max_bytes, tests_by, refused, read_as, reading_by, reading, tangled_reading}
use Rattle.run.specs.Call.{Request}
use Rattle.script_runs.specs.inner.Filled.{shortened as shortened_run}
use Rattle.script_commands.specs.declared.types.Command.{Command as Found}
use Rattle.script_commands.specs.Commands.{Command, skip, unknown, load, load_tangled, draw, clear, stage, line, lines, text_line, texts, mark, marks, walk, place_run, poke}
use Rattle.script_commands.specs.inner.Held.{Lent, command_in, shortened, Commands}

-- ---- a text
module _ (checks : PlanData → List Test) where
  read-long : (s : List ℕ) (l : Option Lines) → max_bytes < length s → read_as (first_refusal (tests_by checks s l)) l ≡ refused 1
  unfolding tests_by first_refusal
  read-long s none h = refl
  read-long s (some l) h = rw (lt-leb (length s) max_bytes h)

  reading-long : (s : List ℕ) → max_bytes < length s → reading_by checks s ≡ refused 1
  reading-long s h = read-long s (form_of s) h

  cut_by : (m : ℕ) (s : List ℕ) → max_bytes < m → reading_by checks (take m s) ≡ reading_by checks s
  cut_by m s h = elim (dec_lt (length s) m) [
    | yes k ↦ ap (reading_by checks) (take_all m s (omega arith))
    | no k ↦ reading-long (take m s) (simp length-take (omega arith)) ∙ sym (reading-long s (omega arith))
  ]

pub reading-cut : (m : ℕ) (s : List ℕ) → max_bytes < m → reading (take m s) ≡ reading s
unfolding reading
reading-cut m s h = cut_by checks_of m s h

pub tangled-cut : (m : ℕ) (s : List ℕ) → max_bytes < m → tangled_reading (take m s) ≡ tangled_reading s
unfolding tangled_reading
tangled-cut m s h = cut_by tangled_checks_of m s h

-- ---- a command
module _ {X : Type 0} (f : Command → X) (b : Lent)
    (text : (t : List ℕ) → f (load (take (length b.text) t)) ≡ f (load t))
    (tangled : (t : List ℕ) → f (load_tangled (take (length b.text) t)) ≡ f (load_tangled t))
    (walks : (l : ℕ) (t : List ℕ) → f (walk l (take (length b.text) t)) ≡ f (walk l t))
    (run : (q : Request) (n : ℕ) → f (place_run (shortened_run b.run q) n) ≡ f (place_run q n)) where
  pub same-cut : (c : Command) → f (shortened b c) ≡ f c
  same-cut skip = refl
  same-cut unknown = refl
  same-cut (load t) = text t
  same-cut (load_tangled t) = tangled t
  same-cut draw = refl
  same-cut clear = refl
  same-cut stage = refl
  same-cut (line n m) = refl
  same-cut lines = refl
  same-cut (text_line n m) = refl
  same-cut texts = refl
  same-cut (mark n) = refl
  same-cut marks = refl
  same-cut (walk l t) = walks l t
  same-cut (place_run q n) = run q n
  same-cut (poke p) = refl

  -- what the program's command answers is what the line's command answers
  pub same_answer : (c : Command) (r : Found) (after : Lent) → Commands c b r after → f (command_in r after) ≡ f c
  same_answer c r after e = ap f e.says ∙ same-cut c
