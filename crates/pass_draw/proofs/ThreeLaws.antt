-- The passes one after another make the drawing. Assumes nothing.
use Prim.Native.Nat.{ℕ, zero, suc, ◌+◌, ◌-◌, ◌<◌, ◌≤◌}
use mathlib.Core.Path.{◌≡◌, sym, ◌∙◌, ap, subst}
use mathlib.Core.Bool.{Bool, true}
use mathlib.Core.List.{List, [], ◌++◌, append_assoc, append-nil}
use native.Mathlib.Omega.{arith}
use lib.ListN.{length, get_or, take}
use lib.IntN.{ℤ}
use Rattle.ints.specs.Lists.{sum}
use Rattle.plan.specs.Plan.{PlanData}
use Rattle.plan.specs.Acceptable.{acceptable}
use Rattle.passes.specs.State.{State}
use Rattle.passes.specs.Drawing.{Placing, drawing_of, listed}
use Rattle.passes.proofs.Sound.{sound}
use Rattle.passes.specs.inner.Schedule.{start, Visit, pass_visits, first_pass, second_pass, third_pass, schedule}
use Rattle.passes.proofs.Schedule.{three-is}
use Rattle.pass_tables.specs.inner.Moments.{state_after, Held, AtPass}
use Rattle.pass_neighbours.specs.inner.Order.{in_turn}
use Rattle.pass_neighbours.proofs.OrderLaws.{starts-are}
use Rattle.pass_visits.specs.inner.Passing.{PassDone}
use Rattle.pass_list.specs.inner.Listing.{Columns, Stored}
use Rattle.pass_list.specs.inner.Ended.{Written, Copied, Ending, ending, AtEnd, PassEnding, PassListed}
use Rattle.pass_list.proofs.PassWritten.{pass-end, pass_fits, pass-written}
use Rattle.pass_draw.specs.inner.Turn.{graph, TurnNext}
use Rattle.pass_draw.specs.inner.Drawn.{Wanted, Drawn, Begun, begun, AtStart, AtFirst}

-- ---- the visits of m passes from pass q on
unfoldable pub turns_from : PlanData → ℕ → ℕ → List Visit
turns_from p zero q = []
turns_from p (suc m) q = pass_visits p q (in_turn q p) ++ turns_from p m (q + 1)

schedule-is : (p : PlanData) → schedule p ≡ turns_from p 3 1
unfolding first_pass second_pass third_pass turns_from
schedule-is p = append_assoc (first_pass p) (second_pass p) (third_pass p) ∙ ap (λ (vs : List Visit). first_pass p ++ (second_pass p ++ vs)) (sym (append-nil (third_pass p)))

turn-first : (p : PlanData) (q : ℕ) → q ≤ 3 → turns_from p (4 - q) q ≡ pass_visits p q (in_turn q p) ++ turns_from p (4 - (q + 1)) (q + 1)
unfolding turns_from
turn-first p q h = let e : 4 - q ≡ suc (4 - (q + 1)) = omega arith in ap (λ (m : ℕ). turns_from p m q) e

turns-end : (p : PlanData) (q : ℕ) → 3 < q → turns_from p (4 - q) q ≡ []
unfolding turns_from
turns-end p q h = let e : 4 - q ≡ 0 = omega arith in ap (λ (m : ℕ). turns_from p m q) e

-- ---- the drawing
drawing-final : (p : PlanData) → (state_after p (schedule p)).at ≡ (drawing_of p).final
unfolding drawing_of
drawing-final p = ap (λ (s : State). s.at) (sym (three-is p (start p)))

drawing-placings : (p : PlanData) → listed p (state_after p (schedule p)).trace ≡ (drawing_of p).placings
unfolding drawing_of
drawing-placings p = ap (λ (s : State). listed p s.trace) (sym (three-is p (start p)))

-- ---- before pass q: the visits of those before are made, those from pass q on come next
pub record Reached (p : PlanData) (q n b : ℕ) (at : List ℤ) (apart : List ℕ) (marks : List Bool) (g : Columns) : Type 0 where
  pub past : List Visit
  pub held : Held p past (turns_from p (4 - q) q) at apart marks
  pub written : Wanted g → Written p past n b g

module _ {k : Begun} {p : PlanData} (s : AtStart k p) where
  ok : acceptable p ≡ true
  ok = s.is.held.ok

  pub levels-few : length k.graph.levels + 1 ≤ 65
  levels-few = omega (arith, ap length s.sizes_are, (sound p ok).sizes, (sound p ok).levels)

  pub sizes_sum : sum k.graph.levels ≤ 1024
  sizes_sum = omega (arith, ap sum s.sizes_are, (sound p ok).total, (sound p ok).vertices)

  pub at_first : (starts : List ℕ) → length starts ≡ length k.graph.levels + 1 → ((i : ℕ) → i ≤ length k.graph.levels → get_or starts i 0 ≡ sum (take i k.graph.levels))
      → AtFirst (begun (graph starts k.graph.vias k.graph.uppers k.graph.lowers k.graph.ratings) k.at k.apart k.marks k.list) p
  at_first starts l f = record {
    is = record {
      held = s.is.held;
      written = s.is.written;
      vias_are = s.is.vias_are;
      uppers_are = s.is.uppers_are;
      lowers_are = s.is.lowers_are;
      ratings_are = s.is.ratings_are;
    };
    starts_are = starts-are (sound p ok) k.graph.levels starts s.sizes_are l f;
  }

pub reached-first : {k : Begun} {p : PlanData} → AtFirst k p → Reached p 1 0 0 k.at k.apart k.marks k.list
reached-first {k} {p} s =
    record { past = []; held = subst (λ (vs : List Visit). Held p [] vs k.at k.apart k.marks) (schedule-is p) s.is.held; written = s.is.written }

-- ---- and after the last one
module _ {p : PlanData} {q n b : ℕ} {at : List ℤ} {apart : List ℕ} {marks : List Bool} {g : Columns} (r : Reached p q n b at apart marks g) (h : 3 < q) where
  all_past : r.past ≡ schedule p
  all_past = sym (r.held.whole ∙ ap (λ (vs : List Visit). r.past ++ vs) (turns-end p q h) ∙ append-nil r.past)

  all_listed : listed p (state_after p r.past).trace ≡ (drawing_of p).placings
  all_listed = ap (λ (vs : List Visit). listed p (state_after p vs).trace) all_past ∙ drawing-placings p

  pub all-drawn : Drawn n b at g p
  all-drawn = record {
    final = r.held.places ∙ ap (λ (vs : List Visit). (state_after p vs).at) all_past ∙ drawing-final p;
    listed = λ w. subst (λ (l : List Placing). Stored n b g l) all_listed (r.written w);
  }

-- ---- one turn
module _ {k : Begun} {p : PlanData} (s : AtFirst k p) {q n b : ℕ} {at : List ℤ} {apart : List ℕ} {marks : List Bool} {g : Columns} (r : Reached p q n b at apart marks g) where
  pub marks-few : length marks ≤ 1024
  marks-few = omega (arith, r.held.long, (sound p r.held.ok).vertices)

  module _ (one : 1 ≤ q) (three : q ≤ 3) where
    abbrev coming : List Visit
    coming = turns_from p (4 - (q + 1)) (q + 1)

    abbrev now-at : AtPass
    now-at = record { plan = p; past = r.past; coming = coming }

    pub turn : TurnNext q k.graph at apart marks now-at
    turn = record {
      held = subst (λ (vs : List Visit). Held p r.past vs at apart marks) (turn-first p q three) r.held;
      starts_are = s.starts_are;
      vias_are = s.is.vias_are;
      uppers_are = s.is.uppers_are;
      lowers_are = s.is.lowers_are;
      ratings_are = s.is.ratings_are;
    }

    module _ {had : List Bool} (copy : Copied marks had) (long : 1024 ≤ length had) {at' : List ℤ} {apart' : List ℕ} {marks' : List Bool} (d : PassDone q at' apart' marks' now-at) where
      abbrev then : Ending
      then = ending k.graph.vias had marks' at' g

      abbrev listed-before : AtEnd
      listed-before = record { plan = p; before = listed p (state_after p r.past).trace }

      pub ended : Wanted g → PassEnding q n b k.graph.levels then listed-before
      ended w = record {
        is = pass-end one three turn.held copy long d s.starts_are s.is.vias_are;
        stored = r.written w;
        fits = pass_fits one three turn.held copy long d (r.written w);
      }

      pub reached_then : (n' b' : ℕ) (g' : Columns) → (Wanted g' → PassListed q n' b' then g' listed-before) → Reached p (q + 1) n' b' at' apart' marks' g'
      reached_then n' b' g' x = record { past = _; held = d; written = λ w. pass-written one three turn.held copy long d n' b' g' (x w) }
