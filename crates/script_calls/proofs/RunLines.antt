-- The answer to place-run: there is room for it, and it is that of the definition.
use mathlib.Core.Path.{◌≡◌, sym}
use mathlib.Core.List.{List}
use Prim.Native.Nat.{ℕ, ◌+◌, ◌^◌, ◌≤◌, ◌<◌}
use native.Mathlib.Omega.{arith}
use lib.ListN.{length}
use lib.IntN.{ℤ}
use borrow.Author.Tests.{ne_eqb}
use lib.Dec.{eqb}
use Rattle.std.specs.Prelude.{Ok, Err, false}
use Rattle.ints.specs.Refusals.{number_of}
use Rattle.ints.specs.declared.refusal.Refusal.{Refusal}
use Rattle.ints.proofs.Refusals.{has-number}
use Rattle.run.specs.Call.{Request, Out, call_of, Outcome}
use Rattle.place_run.proofs.Placed.{answer-few, answer-sized}
use Rattle.text_write.specs.inner.Written.{Room}
use Rattle.script_answers.specs.Answers.{positions, refused, line_of}
use Rattle.script_answers.specs.inner.Lengths.{max_answer}
use Rattle.script_answers.proofs.Lengths.{said-short}
use Rattle.script_calls.specs.inner.Answered.{Fitted, AnswersRun}

pub positions-room : (q : Request) (answer : List ℤ) (out : List ℕ) (at : ℕ) {left : List ℤ} → Outcome (call_of q answer) (Ok tt) left → length left ≡ length answer
    → at + max_answer ≤ length out → Room (line_of (positions left)) out at
positions-room q answer out at {left = left} h k r =
    let n : (call_of q answer).number ≡ 0 = sym h.answered in
    omega (arith, said-short (positions left) (omega (arith, answer-few q answer n, k), rw h.left (answer-sized q answer n)))

pub refused-room : (n : ℕ) (out : List ℕ) (at : ℕ) → n < 2 ^ 64 → at + max_answer ≤ length out → Room (line_of (refused n)) out at
refused-room n out at l r = omega (arith, said-short (refused n) l)

module _ {r : Out} {left : List ℤ} {o out : List ℕ} {at next : ℕ} where
  pub placed-said : Outcome r (Ok tt) left → Fitted (line_of (positions left)) o at next out → AnswersRun r o at next out left
  placed-said h w =
      let n : r.number ≡ 0 = sym h.answered in
      record { said = rw n (rw h.left at w); left = h.left }

  pub refused-said : (m : Refusal) → Outcome r (Err m) left → Fitted (line_of (refused (number_of m))) o at next out → AnswersRun r o at next out left
  refused-said m h w =
      let n : r.number ≡ number_of m = sym h.answered in
      let z : eqb (number_of m) 0 ≡ false = ne_eqb (number_of m) 0 (has-number m) in
      record { said = rw (n, z) w; left = h.left }
