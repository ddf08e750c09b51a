-- What the functions that make calls promise, as answers.
use mathlib.Core.Path.{◌≡◌, sym, ◌∙◌, ap}
use mathlib.Core.Bool.{Bool}
use mathlib.Core.List.{List, []}
use Prim.Native.Nat.{ℕ, ◌≤◌}
use lib.Ieee.{Float}
use lib.ListN.{length, take}
use Rattle.ints.proofs.FrontLaws.{take-replicate}
use Rattle.sheet.specs.declared.types.Sheet.{Sheet}
use Rattle.calls.specs.declared.types.Call.{Call}
use Rattle.calls.specs.Step.{lent, step}
use Rattle.script_calls.specs.Said.{call_said}
use Rattle.script_calls.specs.inner.Answered.{AnswersCall}
use Rattle.script_told.specs.Turns.{lending}
use Rattle.script_told.proofs.Enough.{refused-said}
use Rattle.script_turn.specs.inner.One.{Tells}
use Rattle.script_turn.proofs.LineLaws.{zeros, zeros-long}

-- ---- the first of a buffer of zeros
pub zeros-first : (m n : ℕ) → m ≤ n → take m (zeros n) ≡ zeros m
zeros-first m n h = take-replicate {A = ℕ} m n 0 h

pub zeros-cut : (m n : ℕ) → m ≤ n → length (take m (zeros n)) ≡ m
zeros-cut m n h = ap length (zeros-first m n h) ∙ zeros-long m

pub tells : (q : Call) (t : List ℕ) (room n : ℕ) (s : Sheet) {o after : List ℕ} {next : ℕ} {refused : Bool} {left : Sheet} {buffer : List ℕ} {numbers : List Float}
    → room ≤ n → AnswersCall q (lent t (take room (zeros n)) []) s o 0 next refused left after buffer numbers
    → Tells (call_said q (lending t room) s) (step q (lending t room) s).sheet o next refused left after
tells q t room n s l h =
    let h' = rw (zeros-first room n l) at h in
    record { wrote = h'.said; ends = h'.refused ∙ sym (refused-said q (lending t room) s); left = h'.sheet }
