-- The list of placings, entry by entry: the j-th entry is the placing of a step of the trace whose run has boxes, the one before which
-- j placings are listed; and each such step has its entry. Assumes nothing.
use mathlib.Core.Path.{◌≡◌, refl, ◌∙◌, ap, subst}
use mathlib.Core.Bool.{true}
use mathlib.Core.List.{List, [], ◌∷◌}
use Prim.Native.Nat.{ℕ, zero, suc, ◌<◌}
use native.Mathlib.Omega.{arith}
use borrow.Author.Tests.{eqb-true}
use lib.ListN.{length, get_or, take}
use lib.IntN.{ℤ}
use Rattle.ints.proofs.Tests.{and_left}
use Rattle.plan.specs.Plan.{PlanData}
use Rattle.plan.specs.Acceptable.{acceptable}
use Rattle.passes.specs.State.{Step}
use Rattle.passes.specs.Drawing.{BoxAt, Placing, boxes_with, listed, trace_of, drawing_of}
use Rattle.passes.specs.Words.{run_of, step_at, is_placement_then}
use Rattle.passes.specs.Demand3.{IsListed}
use Rattle.demand3.proofs.Theorem.{demand3}

-- what is listed of a step
abbrev pub boxes_of : PlanData → Step → List BoxAt
boxes_of p s = boxes_with (run_of p s).boxes s.positions

abbrev pub placing_of : PlanData → Step → Placing
placing_of p s = record { pass = s.pass; level = s.level; boxes = boxes_of p s }

abbrev no_placing : Placing
no_placing = record { pass = 0; level = 0; boxes = [] }

pub record IsEntry (p : PlanData) (trace : List Step) (j i : ℕ) : Type 0 where
  pub step : IsListed p trace i
  pub entry : get_or (listed p trace) j no_placing ≡ placing_of p (step_at trace i)
  pub order : length (listed p (take i trace)) ≡ j

none-listed : (p : PlanData) → length (listed p []) ≡ 0
unfolding listed
none-listed p = refl

-- ---- one step more
module _ (p : PlanData) (s : Step) (ss : List Step) where
  skipped : boxes_of p s ≡ [] → listed p (s ∷ ss) ≡ listed p ss
  unfolding listed
  skipped e = rw e

  taken : (b : BoxAt) (bs : List BoxAt) → boxes_of p s ≡ b ∷ bs → listed p (s ∷ ss) ≡ placing_of p s ∷ listed p ss
  unfolding listed
  taken b bs e = rw e

with-some : (vs : List ℕ) (ys : List ℤ) (b : BoxAt) (bs : List BoxAt) → boxes_with vs ys ≡ b ∷ bs → 0 < length vs
unfolding boxes_with
with-some [] ys b bs e = absurd (omega (arith, ap length e))
with-some (v ∷ vs) ys b bs e = omega arith

with_none : (vs : List ℕ) (ys : List ℤ) → boxes_with vs ys ≡ [] → 0 < length vs → 0 < length ys → ⊥
unfolding boxes_with
with_none [] ys e h k = omega arith
with_none (v ∷ vs) [] e h k = omega arith
with_none (v ∷ vs) (y ∷ ys) e h k = omega (arith, ap length e)

entry-later : {p : PlanData} {ss : List Step} {j i : ℕ} (s : Step) → boxes_of p s ≡ [] → IsEntry p ss j i → IsEntry p (s ∷ ss) j (suc i)
entry-later {p} {ss} {j} {i} s e x = record {
  step = record { step = omega (arith, x.step.step); boxes = x.step.boxes };
  entry = ap (λ l. get_or l j no_placing) (skipped p s ss e) ∙ x.entry;
  order = ap length (skipped p s (take i ss) e) ∙ x.order;
}

entry_next : {p : PlanData} {ss : List Step} {j i : ℕ} (s : Step) (b : BoxAt) (bs : List BoxAt) → boxes_of p s ≡ b ∷ bs → IsEntry p ss j i
    → IsEntry p (s ∷ ss) (suc j) (suc i)
entry_next {p} {ss} {j} {i} s b bs e x = record {
  step = record { step = omega (arith, x.step.step); boxes = x.step.boxes };
  entry = ap (λ l. get_or l (suc j) no_placing) (taken p s ss b bs e) ∙ x.entry;
  order = ap length (taken p s (take i ss) b bs e) ∙ ap suc x.order;
}

entry_first : (p : PlanData) (s : Step) (ss : List Step) (b : BoxAt) (bs : List BoxAt) → boxes_of p s ≡ b ∷ bs → IsEntry p (s ∷ ss) 0 0
entry_first p s ss b bs e = record {
  step = record { step = omega arith; boxes = with-some (run_of p s).boxes s.positions b bs e };
  entry = ap (λ l. get_or l 0 no_placing) (taken p s ss b bs e);
  order = none-listed p;
}

-- ---- of every trace: an entry is of a step
pub entry-step : (p : PlanData) (trace : List Step) (j : ℕ) → j < length (listed p trace) → (i : ℕ) × IsEntry p trace j i
entry-step p [] j h = absurd (omega (arith, none-listed p))
entry-step p (s ∷ ss) j h = go (boxes_of p s) refl (λ k m. entry-step p ss k m)
  where
    go : (bs : List BoxAt) → boxes_of p s ≡ bs → ((k : ℕ) → k < length (listed p ss) → (i : ℕ) × IsEntry p ss k i)
        → (i : ℕ) × IsEntry p (s ∷ ss) j i
    go [] e f = let x = f j (omega (arith, ap length (skipped p s ss e))) in (suc x.0, entry-later s e x.1)
    go (b ∷ bs) e f = at j (omega (arith, ap length (taken p s ss b bs e)))
      where
        at : (k : ℕ) → k < suc (length (listed p ss)) → (i : ℕ) × IsEntry p (s ∷ ss) k i
        at zero m = (0, entry_first p s ss b bs e)
        at (suc k) m = let x = f k (omega arith) in (suc x.0, entry_next s b bs e x.1)

-- a step with boxes and positions has its entry
step-entry : (p : PlanData) (trace : List Step) (i : ℕ) → IsListed p trace i → 0 < length (step_at trace i).positions
    → IsEntry p trace (length (listed p (take i trace))) i
step-entry p [] i l h = absurd (omega (arith, l.step))
step-entry p (s ∷ ss) zero l h = go (boxes_of p s) refl
  where
    go : (bs : List BoxAt) → boxes_of p s ≡ bs → IsEntry p (s ∷ ss) (length (listed p [])) 0
    go [] e = absurd (with_none (run_of p s).boxes s.positions e l.boxes h)
    go (b ∷ bs) e = rw (none-listed p) (entry_first p s ss b bs e)
step-entry p (s ∷ ss) (suc i) l h =
    go (boxes_of p s) refl (step-entry p ss i (record { step = omega (arith, l.step); boxes = l.boxes }) h)
  where
    go : (bs : List BoxAt) → boxes_of p s ≡ bs → IsEntry p ss (length (listed p (take i ss))) i
        → IsEntry p (s ∷ ss) (length (listed p (s ∷ take i ss))) (suc i)
    go [] e x = rw (skipped p s (take i ss) e) (entry-later s e x)
    go (b ∷ bs) e x = rw (taken p s (take i ss) b bs e) (entry_next s b bs e x)

-- ---- of every acceptable plan's drawing
module _ (p : PlanData) (ok : acceptable p ≡ true) where
  pub drawn-entry : (j : ℕ) → j < length (drawing_of p).placings → (i : ℕ) × IsEntry p (trace_of p) j i
  drawn-entry j h = entry-step p (trace_of p) j (subst (λ l. j < length l) (demand3 p ok).made h)

  -- a listed step has as many positions as boxes
  pub step-long : (i : ℕ) → IsListed p (trace_of p) i → length (step_at (trace_of p) i).positions ≡ length (run_of p (step_at (trace_of p) i)).boxes
  unfolding is_placement_then
  step-long i l = eqb-true _ _ (and_left _ _ ((demand3 p ok).optimal i l).placement)

  pub drawn-step : (i : ℕ) → IsListed p (trace_of p) i → IsEntry p (trace_of p) (length (listed p (take i (trace_of p)))) i
  drawn-step i l = step-entry p (trace_of p) i l (omega (arith, step-long i l, l.boxes))
