-- What the functions promise that need no call of a sheet, as the only answer of a command.
use mathlib.Core.Path.{◌≡◌, refl, ◌∙◌, ap}
use mathlib.Core.Bool.{Bool, true, false, cond}
use mathlib.Core.List.{List}
use Prim.Native.Nat.{ℕ, ◌≤◌, min}
use native.Mathlib.Omega.{arith}
use lib.IntN.{ℤ, pos}
use lib.ListN.{length, take, replicate, length-replicate}
use lib.Seq.{length-take-le}
use Rattle.ints.proofs.FrontLaws.{take-replicate}
use Rattle.run.specs.Call.{Request, out, is_taken, placed_of, call_of}
use Rattle.text_write.specs.inner.Written.{Room, Wrote}
use Rattle.sheet.specs.declared.types.Sheet.{Sheet}
use Rattle.script_runs.proofs.Short.{taken-room}
use Rattle.script_poke.specs.declared.types.Poked.{Poked}
use Rattle.script_answers.specs.Answers.{Said, unknown as not_known, done, line_of}
use Rattle.script_answers.specs.inner.Lengths.{max_answer}
use Rattle.script_answers.proofs.Lengths.{Short, said-short}
use Rattle.script_calls.specs.Said.{run_said}
use Rattle.script_calls.specs.inner.Answered.{Fitted, AnswersRun}
use Rattle.script_calls.proofs.ReplyLines.{fitted}
use Rattle.script_told.specs.Turns.{poke_said}
use Rattle.script_told.specs.inner.One.{Single}

pub said-room : (a : Said) (out : List ℕ) → Short a → max_answer ≤ length out → Room (line_of a) out 0
said-room a out h m = omega (arith, said-short a h)

-- An answer for which there is room.
pub fits : (a : Said) (o : List ℕ) {to : ℕ} {after : List ℕ} → Short a → max_answer ≤ length o → Wrote (line_of a) o 0 to after → Fitted (line_of a) o 0 to after
fits a o h m w = fitted (said-room a o h m) w

-- ---- a run's answer buffer may be cut to 65
module _ (q : Request) where
  by : (t : Bool) (a b : List ℤ) → run_said (cond t (out 0 (placed_of q)) (out 8 a)) ≡ run_said (cond t (out 0 (placed_of q)) (out 8 b))
  by true a b = refl
  by false a b = refl

  pub run_room : (room : ℕ) → run_said (call_of q (replicate (min room 65) (pos 0))) ≡ run_said (call_of q (replicate room (pos 0)))
  unfolding call_of
  run_room room =
      let a = replicate (min room 65) (pos 0) in let b = replicate room (pos 0) in
      ap (λ (t : Bool). run_said (cond t (out 0 (placed_of q)) (out 8 a))) (taken-room q room (pos 0)) ∙ by (is_taken q b) a b

pub placed : (q : Request) (room k : ℕ) {s : Sheet} {o after : List ℕ} {next : ℕ} {answer : List ℤ} → k ≡ min room 65
    → AnswersRun (call_of q (take k (replicate 65 (pos 0)))) o 0 next after answer → Single (run_said (call_of q (replicate room (pos 0)))) s o s next false after
placed q room k e h =
    let z : take k (replicate 65 (pos 0)) ≡ replicate (min room 65) (pos 0) = rw e (take-replicate (min room 65) 65 (pos 0) (omega arith)) in
    record { wrote = rw (← run_room q room, ← z) h.said; left = refl; last = refl }

pub places-cut : (k room : ℕ) → k ≡ min room 65 → length (take k (replicate 65 (pos 0))) ≡ k
places-cut k room e = length-take-le k (replicate 65 (pos 0)) (omega (arith, length-replicate 65 (pos 0)))

-- ---- a poke
module _ {r p : Poked} (e : r ≡ p) {o out : List ℕ} {count : ℕ} where
  pub alters : r.known ≡ true → Fitted (line_of done) o 0 count out → Single (poke_said p) p.sheet o r.sheet count false out
  alters h w = rw (← e) (record { wrote = rw h w; left = refl; last = refl })

  pub misses : {s : Sheet} {more : Bool} → r.known ≡ false → Single not_known r.sheet o s count more out
      → Single (poke_said p) p.sheet o s count more out
  misses h w = rw (← e, h) w
