-- A command that is cut to the buffers' lengths is answered as the whole one, and leaves the same sheet.
use mathlib.Core.Path.{◌≡◌, ap}
use mathlib.Core.Bool.{Bool}
use mathlib.Core.List.{List}
use Prim.Native.Nat.{ℕ, ◌≤◌, ◌<◌}
use native.Mathlib.Omega.{arith}
use lib.IntN.{ℤ, pos}
use lib.ListN.{length, take, replicate, length-replicate}
use Rattle.run.specs.Call.{Request, Out}
use Rattle.text.specs.Reading.{max_bytes}
use Rattle.sheet.specs.declared.types.Sheet.{Sheet}
use Rattle.sheet.specs.Calls as sheet
use Rattle.calls.specs.Step.{step}
use Rattle.script_runs.specs.inner.Filled.{buffers, shortened}
use Rattle.script_runs.proofs.Short.{Roomy, call-short}
use Rattle.script_commands.specs.declared.types.Command.{Command as Found}
use Rattle.script_commands.specs.declared.types.Command.TheVariants.{Skip, Unknown, Load, LoadTangled, Draw, Clear, Stage, Line, Lines, TextLine, Texts, Mark, Marks, Walk, PlaceRun, Poke}
use Rattle.script_commands.specs.Commands.{Command, load, load_tangled, walk, place_run}
use Rattle.script_commands.specs.inner.Held.{Lent, lent, command_in, Inside, Commands}
use Rattle.script_commands.proofs.Whole.{reading-cut, tangled-cut, same_answer}
use Rattle.script_answers.specs.inner.Lengths.{max_answer}
use Rattle.text_walk.specs.Walks.{text_walk}
use Rattle.script_calls.specs.Said.{call_said, run_said}
use Rattle.script_told.specs.Turns.{saying, turn_of}
use Rattle.script_run.specs.inner.Laid.{Turned}

module _ (b : Lent) (long : max_bytes < length b.text) (roomy : Roomy b.run) (s : Sheet) where
  text : (t : List ℕ) → turn_of (load (take (length b.text) t)) s ≡ turn_of (load t) s
  unfolding turn_of call_said step sheet.load
  text t = rw (reading-cut (length b.text) t long)

  tangled : (t : List ℕ) → turn_of (load_tangled (take (length b.text) t)) s ≡ turn_of (load_tangled t) s
  unfolding turn_of call_said step sheet.load_tangled
  tangled t = rw (tangled-cut (length b.text) t long)

  walked : (l : ℕ) (t : List ℕ) → turn_of (walk l (take (length b.text) t)) s ≡ turn_of (walk l t) s
  unfolding turn_of text_walk
  walked l t = rw (tangled-cut (length b.text) t long)

  run : (q : Request) (room : ℕ) → turn_of (place_run (shortened b.run q) room) s ≡ turn_of (place_run q room) s
  unfolding turn_of
  run q room = ap (λ (o : Out). saying (run_said o) s) (call-short b.run roomy q (replicate room (pos 0)))

  pub same_turn : (c : Command) (r : Found) (after : Lent) → Commands c b r after → turn_of (command_in r after) s ≡ turn_of c s
  same_turn c r after h = same_answer (λ (d : Command). turn_of d s) b text tangled walked run c r after h

-- ---- what lies in the buffers lies in them when they are given back
pub record SameLong (b d : Lent) : Type 0 where
  pub text : length d.text ≡ length b.text
  pub old : length d.run.old ≡ length b.run.old
  pub distances : length d.run.distances ≡ length b.run.distances
  pub counts : length d.run.counts ≡ length b.run.counts
  pub neighbours : length d.run.neighbours ≡ length b.run.neighbours
  pub ratings : length d.run.ratings ≡ length b.run.ratings

pub inside-after : (b d : Lent) (c : Found) → SameLong b d → Inside b c → Inside d c
inside-after b d Skip l i = tt
inside-after b d Unknown l i = tt
inside-after b d (Load n) l i = omega (arith, l.text)
inside-after b d (LoadTangled n) l i = omega (arith, l.text)
inside-after b d Draw l i = tt
inside-after b d Clear l i = tt
inside-after b d Stage l i = tt
inside-after b d (Line n room) l i = tt
inside-after b d Lines l i = tt
inside-after b d (TextLine n room) l i = tt
inside-after b d Texts l i = tt
inside-after b d (Mark n) l i = tt
inside-after b d Marks l i = tt
inside-after b d (Walk k n) l i = omega (arith, l.text)
inside-after b d (PlaceRun q) l i = record {
  old = omega (arith, l.old, i.old);
  distances = omega (arith, l.distances, i.distances);
  counts = omega (arith, l.counts, i.counts);
  neighbours = omega (arith, l.neighbours, i.neighbours);
  ratings = omega (arith, l.ratings, i.ratings);
}
inside-after b d (Poke p) l i = tt

-- ---- the buffers of the program
abbrev pub rooms : Lent
rooms = lent (replicate 65537 0) (buffers (replicate 65 (pos 0)) (replicate 66 0) (replicate 65 0) (replicate 2049 (pos 0)) (replicate 2049 0))

text-long : max_bytes < length rooms.text
text-long = omega (arith, length-replicate {A = ℕ} 65537 0)

rooms-roomy : Roomy rooms.run
rooms-roomy = record {
  old = omega (arith, length-replicate {A = ℤ} 65 (pos 0));
  distances = omega (arith, length-replicate {A = ℕ} 66 0);
  counts = omega (arith, length-replicate {A = ℕ} 65 0);
  neighbours = omega (arith, length-replicate {A = ℤ} 2049 (pos 0));
  ratings = omega (arith, length-replicate {A = ℕ} 2049 0);
}

pub answer-long : max_answer ≤ length (replicate {A = ℕ} 1500 0)
answer-long = omega (arith, length-replicate {A = ℕ} 1500 0)

pub rooms-turn : (s : Sheet) (c : Command) (r : Found) (after : Lent) → Commands c rooms r after → turn_of (command_in r after) s ≡ turn_of c s
rooms-turn s c r after h = same_turn rooms text-long rooms-roomy s c r after h

pub line-turned : (s : Sheet) (c : Command) (r : Found) (after : Lent) {write : Bool} {room : ℕ} {o : List ℕ} {at : ℕ} {t : Sheet} {f : Bool} {z : ℕ} {q : List ℕ}
    → Commands c rooms r after → Turned (turn_of (command_in r after) s) write room o at t f z q → Turned (turn_of c s) write room o at t f z q
line-turned s c r after h k = rw (rooms-turn s c r after h) at k
