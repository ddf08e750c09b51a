-- Which data are those of a text: those that pass the checks, and those that some text reads as. Assumes nothing.
use mathlib.Core.Path.{◌≡◌, sym, ◌∙◌, ap}
use mathlib.Core.Bool.{true}
use mathlib.Core.List.{List}
use mathlib.Core.Logic.{◌↔◌}
use Prim.Native.Nat.{ℕ}
use Rattle.ints.proofs.Tests.{test}
use Rattle.plan.specs.Plan.{PlanData}
use Rattle.plan.specs.Acceptable.{acceptable}
use Rattle.text.specs.Reading.{Reading, accepted, refused, reading}
use Rattle.text.specs.Writing.{text_of}
use Rattle.text.proofs.Words.{never}
use Rattle.text.proofs.RoundTrip.{read-written, read-acceptable}
use Rattle.report.specs.Refusal13.{reads_as, is_plan_of_text}
use Rattle.report.proofs.SameData.{data-equal, data-same}

reads_as_lem : (p : PlanData) (r : Reading) → reads_as r p ≡ true → r ≡ accepted p
reads_as_lem p (accepted q) e = ap accepted (data-equal q p e)
reads_as_lem p (refused n) e = never e

-- The text written of a plan that is that of a text reads as it.
pub text-reads : (p : PlanData) → is_plan_of_text p ≡ true → reading (text_of p) ≡ accepted p
unfolding is_plan_of_text
text-reads p e = reads_as_lem p (reading (text_of p)) e

-- A plan is that of a text exactly if it is acceptable.
pub plan-of-text : (p : PlanData) → is_plan_of_text p ≡ acceptable p
unfolding is_plan_of_text
plan-of-text p = test (acceptable p)
    (λ h. rw (read-written p h) (data-same p ∙ sym h))
    (λ h. test (is_plan_of_text p) (λ e. never (sym h ∙ read-acceptable (text_of p) p (text-reads p e))) (λ e. e ∙ sym h))

-- And exactly if some text reads as it.
pub plan-of-some-text : (p : PlanData) → (is_plan_of_text p ≡ true) ↔ ((s : List ℕ) × (reading s ≡ accepted p))
plan-of-some-text p = (λ e. (text_of p, text-reads p e), λ t. plan-of-text p ∙ read-acceptable t.0 p t.1)
