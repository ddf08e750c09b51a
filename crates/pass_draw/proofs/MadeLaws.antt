-- From what the steps of a draw leave to what the whole draw promises. Assumes nothing.
use mathlib.Core.Bool.{Bool}
use mathlib.Core.List.{List}
use mathlib.Core.Path.{◌≡◌, refl, sym, ◌∙◌, subst}
use Prim.Native.Nat.{ℕ}
use lib.ListN.{take}
use lib.IntN.{ℤ}
use Rattle.plan.specs.Plan.{PlanData}
use Rattle.preliminary.specs.Positions as spec
use Rattle.passes.specs.Drawing.{drawing_of}
use Rattle.passes.specs.Demand3.{Demand3}
use Rattle.passes.specs.Stored.{placings_from}
use Rattle.demand3.proofs.Theorem as theorem
use Rattle.pass_list.proofs.Decoded.{decoded}
use Rattle.plan.specs.inner.Held.{HoldsPlan}
use Rattle.pass_list.specs.inner.Listing.{columns}
use Rattle.pass_draw.specs.inner.Drawn.{Wanted, Drawn}
use Rattle.pass_draw.specs.inner.Made.{Made, MadeIfWanted, drawing_at}

preliminary-of : (p : PlanData) → (drawing_of p).preliminary ≡ spec.preliminary p
unfolding drawing_of
preliminary-of p = refl

module _ {p : PlanData} {n b : ℕ} {xs ys : List ℤ} {passes levels counts vertices : List ℕ} {positions : List ℤ} (from : xs ≡ spec.preliminary p) (d : Drawn n b ys (columns passes levels counts vertices positions) p) where
  -- the arrays' list, if it is wanted, is the definition's
  list-is : Wanted (columns passes levels counts vertices positions) → placings_from (take n passes) (take n levels) (take n counts) vertices positions ≡ (drawing_of p).placings
  list-is w = rw (d.listed w).placings (decoded (d.listed w).lists)

  -- the arrays' drawing is the definition's
  drawing-is : Wanted (columns passes levels counts vertices positions) → drawing_at n xs ys passes levels counts vertices positions ≡ drawing_of p
  drawing-is w = rw (from ∙ sym (preliminary-of p), d.final, list-is w)

  made : {gap : ℕ} {ns : List ℕ} {vias : List Bool} {halves uppers lowers : List ℕ} → HoldsPlan p gap ns vias halves uppers lowers → Wanted (columns passes levels counts vertices positions) → Made p n xs ys passes levels counts vertices positions
  made l w = record {
    started = from ∙ sym (preliminary-of p);
    ended = d.final;
    list = (d.listed w).lists;
    placings = (d.listed w).placings;
    demand3 = subst (Demand3 p) (sym (drawing-is w)) (theorem.demand3 p l.ok);
  }

  pub done : {gap : ℕ} {ns : List ℕ} {vias : List Bool} {halves uppers lowers : List ℕ} → HoldsPlan p gap ns vias halves uppers lowers → MadeIfWanted p n xs ys passes levels counts vertices positions
  done l = record { started = from ∙ sym (preliminary-of p); ended = d.final; made = made l }
