-- When a pass has ended: what its marks and positions say is what the passes list. Assumes nothing.
use Prim.Native.Nat.{ℕ, zero, suc, ◌≤◌}
use mathlib.Core.Path.{◌≡◌, refl, sym, ◌∙◌, ap, subst}
use mathlib.Core.Bool.{Bool, true, false, cond, not, ◌&&◌}
use mathlib.Core.List.{List, [], ◌∷◌, ◌++◌, map}
use mathlib.Core.Option.{Option, none, some}
use native.Mathlib.Omega.{arith}
use lib.Dec.{eqb}
use lib.ListN.{length, get_or, length-append}
use lib.IntN.{ℤ}
use Rattle.plan.specs.Plan.{PlanData}
use Rattle.passes.specs.Runs.{Run, runs_of_levels, both_vias}
use Rattle.passes.specs.State.{State}
use Rattle.passes.specs.Ready.{is_settled}
use Rattle.passes.specs.Drawing.{Placing, listed}
use Rattle.passes.specs.Words.{boxes_listed}
use Rattle.plan.proofs.All.{All, all_nil, all_cons, all_left, all_right}
use Rattle.passes.proofs.Sound.{Sound, sound}
use Rattle.passes.proofs.Kept.{kept}
use Rattle.passes.specs.inner.Runs.{IsRun}
use Rattle.passes.proofs.RunsOn.{bounds}
use Rattle.passes.proofs.Edges.{left_at}
use Rattle.passes.proofs.Schedule.{ToRuns, visit-append, schedule-runs, Once, once-first, once-second, once-third}
use Rattle.passes.specs.inner.Schedule.{Visit, visit_of, visit_all, pass_visits, first_pass, second_pass, third_pass, start}
use Rattle.passes.proofs.Trace.{Reached, reached-all, reached-start}
use Rattle.pass_tables.specs.inner.Moments.{state_after, Held}
use Rattle.pass_list.proofs.Added.{boxes-append}
use Rattle.pass_list.proofs.Fitting.{few-boxes, few-placings}
use Rattle.pass_neighbours.specs.inner.Order.{in_turn, Starts}
use Rattle.pass_list.specs.inner.Listing.{Columns, Stored}
use Rattle.pass_list.specs.inner.PassList.{was_placed, placing_at, pass_list}
use Rattle.pass_list.specs.inner.Ended.{is_placed, mark_of, list_of, Fits, PassEnd, Written, Copied}
use Rattle.pass_list.proofs.PassEnd.{pass-runs, pass-lists}

-- ---- each run is visited once in a pass
once-turn : (p : PlanData) (q : ℕ) → 1 ≤ q → q ≤ 3 → (r : Run) → IsRun p r → Once q r (pass_visits p q (in_turn q p))
unfolding first_pass second_pass third_pass
once-turn p zero h k r i = absurd (omega arith)
once-turn p (suc zero) h k r i = once-first p i
once-turn p (suc (suc zero)) h k r i = once-second p i
once-turn p (suc (suc (suc zero))) h k r i = once-third p i
once-turn p (suc (suc (suc (suc q)))) h k r i = absurd (omega arith)

-- ---- the marks tell which runs were placed
pub record Told (p : PlanData) (s : State) (marks : List Bool) : Type 0 where
  pub each : (r : Run) → IsRun p r → (v w : ℕ) → r.left ≡ some v → r.right ≡ some w → get_or marks v false ≡ not (is_settled p s r)

not-not : (b : Bool) → not (not b) ≡ b
not-not true = refl
not-not false = refl

placed-told : {p : PlanData} (q : ℕ) {s t : State} {had marks : List Bool} → Told p s had → Told p t marks → {r : Run} → IsRun p r → is_placed q had marks r ≡ was_placed p q s t r
placed-told {p} q {s} {t} {had} {marks} f g {r} i = shape (not (is_settled p s r)) (is_settled p t r) r.left r.right (λ v w e h.
    ap (λ (o : Option ℕ). mark_of had o && not (mark_of marks o)) e ∙ ap (λ (z : Bool). z && not (get_or marks v false)) (f.each r i v w e h)
    ∙ ap (λ (z : Bool). not (is_settled p s r) && not z) (g.each r i v w e h) ∙ ap (λ (z : Bool). not (is_settled p s r) && z) (not-not (is_settled p t r)))
  where
    shape : (x y : Bool) (a b : Option ℕ) → ((v w : ℕ) → a ≡ some v → b ≡ some w → mark_of had a && not (mark_of marks a) ≡ x && y)
        → cond (both_vias a b) (mark_of had a && not (mark_of marks a)) (not (eqb q 3)) ≡ cond (both_vias a b) (x && y) (not (eqb q 3))
    shape x y none b k = refl
    shape x y (some v) none k = refl
    shape x y (some v) (some w) k = k v w refl refl

list-told : {p : PlanData} (q : ℕ) {s t : State} {had marks : List Bool} → Told p s had → Told p t marks → {rs : List Run} → All (IsRun p) rs → list_of q had marks t.at rs ≡ pass_list p q s t rs
unfolding list_of pass_list
list-told q f g all_nil = refl
list-told {p} q {s} {t} {had} {marks} f g (all_cons {x = r} {xs = rs} i «is») =
    ap (λ (z : Bool). cond z (placing_at q t.at r) [] ++ list_of q had marks t.at rs) (placed-told q f g i)
    ∙ ap (λ (l : List Placing). cond (was_placed p q s t r) (placing_at q t.at r) [] ++ l) (list-told q f g «is»)

of-visits : {p : PlanData} (q : ℕ) (rs : List Run) → ToRuns p (map (visit_of q) rs) → All (IsRun p) rs
of-visits q [] all_nil = all_nil
of-visits q (r ∷ rs) (all_cons i «is») = all_cons i (of-visits q rs «is»)

-- ---- one pass
module _ {p : PlanData} {past coming : List Visit} {q : ℕ} (one : 1 ≤ q) (three : q ≤ 3) {at₀ : List ℤ} {apart₀ : List ℕ} {marks₀ : List Bool}
    (h : Held p past (pass_visits p q (in_turn q p) ++ coming) at₀ apart₀ marks₀)
    {had : List Bool} (copy : Copied marks₀ had) (long : 1024 ≤ length had)
    {at : List ℤ} {apart : List ℕ} {marks : List Bool} (k : Held p (past ++ pass_visits p q (in_turn q p)) coming at apart marks) where
  abbrev ws : List Visit
  ws = pass_visits p q (in_turn q p)

  abbrev rs : List Run
  rs = runs_of_levels p (in_turn q p)

  so : Sound p
  so = sound p h.ok

  every-run : ToRuns p (past ++ (ws ++ coming))
  every-run = subst (ToRuns p) h.whole (schedule-runs p)

  runs : ToRuns p ws
  runs = all_left ws coming (all_right past (ws ++ coming) every-run)

  before-it : Reached p (state_after p past)
  before-it = reached-all so (reached-start so (kept p h.ok)) (all_left past (ws ++ coming) every-run)

  after-it : Reached p (state_after p (past ++ ws))
  after-it = reached-all so (reached-start so (kept p h.ok)) (all_left (past ++ ws) coming (subst (ToRuns p) k.whole (schedule-runs p)))

  state-is : state_after p (past ++ ws) ≡ visit_all p ws (state_after p past)
  state-is = visit-append p past ws (start p)

  told-before : Told p (state_after p past) had
  told-before = record { each = λ r i v w e f. copy.each v (omega (arith, h.long, (bounds i).all, so.total, (bounds i).right, left_at v i.begins e)) ∙ h.unsettled.each r i v w e f }

  told-after : Told p (visit_all p ws (state_after p past)) marks
  told-after = subst (λ (s : State). Told p s marks) state-is (record { each = k.unsettled.each })

  -- what the pass adds to the list
  adds : listed p (state_after p (past ++ ws)).trace ≡ listed p (state_after p past).trace ++ list_of q had marks at rs
  adds = ap (λ (s : State). listed p s.trace) state-is ∙ pass-lists so before-it q (in_turn q p) runs (once-turn p q one three)
      ∙ ap (λ (l : List Placing). listed p (state_after p past).trace ++ l)
      (sym (ap (λ (xs : List ℤ). list_of q had marks xs rs) (k.places ∙ ap (λ (s : State). s.at) state-is)
      ∙ list-told q told-before told-after (of-visits q rs (subst (ToRuns p) (pass-runs p q (in_turn q p)) runs))))

  module _ {starts : List ℕ} {vias : List Bool} (m : Starts p starts) (kinds : vias ≡ p.vias) where
    pub pass-end : PassEnd p starts vias had marks at
    pass-end = record {
      ok = h.ok;
      starts_are = m;
      kinds = kinds;
      hads = omega (arith, so.vertices);
      marked = k.long;
      standing = ap length k.places ∙ after-it.inv.at_length;
    }

  module _ {n b : ℕ} {g : Columns} (w : Written p past n b g) where
    pub pass_fits : Fits n b (list_of q had marks at rs)
    pass_fits = let a = listed p (state_after p past).trace in let c = list_of q had marks at rs in record {
      placings = omega (arith, w.placings, ap length adds, length-append a c, few-placings p h.ok (past ++ ws) coming k.whole);
      boxes = omega (
        arith,
        w.boxes,
        ap (λ (l : List Placing). length (boxes_listed l)) adds,
        ap length (boxes-append a c),
        length-append (boxes_listed a) (boxes_listed c),
        few-boxes p h.ok (past ++ ws) coming k.whole,
      );
    }

  pub pass-written : (n b : ℕ) (g : Columns) → Stored n b g (listed p (state_after p past).trace ++ list_of q had marks at rs)
      → Written p (past ++ ws) n b g
  pass-written n b g s = subst (λ (l : List Placing). Stored n b g l) (sym adds) s
