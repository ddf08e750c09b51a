-- The states that the passes go through: positions are the replay of the trace from the preliminary ones, vias never move, and the
-- invariant holds. Assumes nothing.
use mathlib.Core.Path.{◌≡◌, refl, sym, ◌∙◌, ap}
use mathlib.Core.Bool.{true}
use mathlib.Core.List.{List, [], ◌∷◌, ◌++◌}
use Prim.Native.Nat.{ℕ, zero, suc, ◌+◌, ◌-◌, ◌≤◌, ◌<◌}
use native.Mathlib.Omega.{arith}
use lib.ListN.{length, get_or, take, length-append, get_or-append}
use lib.Seq.{get_or-append-add}
use lib.IntN.{ℤ}
use Rattle.ints.proofs.Laws.{if-ind}
use Rattle.plan.specs.Plan.{PlanData, is_via, numbers, levels_from, levels_of}
use Rattle.ints.specs.Lists.{sum}
use Rattle.preliminary.specs.Positions.{preliminary}
use Rattle.passes.specs.Runs.{Run}
use Rattle.passes.specs.State.{Step, State, position_of, put, doubled, doubled_on, doubled_in, start_at}
use Rattle.passes.specs.Passes.{placed, after, is_due, visit}
use Rattle.passes.specs.Words.{run_of, replay}
use Rattle.plan.proofs.All.{all_nil, all_cons, no_true}
use Rattle.plan.specs.inner.Levels.{first_on, size_on}
use Rattle.plan.proofs.Levels.{Side, side-mem}
use Rattle.passes.proofs.Sound.{Sound}
use Rattle.passes.specs.inner.Runs.{IsRun}
use Rattle.passes.proofs.Spaced.{put-still}
use Rattle.passes.proofs.Invariant.{Inv}
use Rattle.passes.proofs.Placing.{place-keeps}
use Rattle.passes.proofs.Schedule.{ToRuns}
use Rattle.passes.specs.inner.Schedule.{Visit, visit_all, start}
use Rattle.passes.proofs.Preliminary.{Preliminary}

abbrev pub step_of : ℕ → Run → List ℤ → Step
step_of q r ys = record { pass = q; level = r.level; ordinal = r.ordinal; positions = ys }

pub replay-append : (p : PlanData) (ss ts : List Step) (xs : List ℤ) → replay p (ss ++ ts) xs ≡ replay p ts (replay p ss xs)
unfolding replay
replay-append p [] ts xs = refl
replay-append p (s ∷ ss) ts xs = replay-append p ss ts (put (run_of p s).boxes s.positions xs)

-- ---- what holds of every state
pub record Reached (p : PlanData) (s : State) : Type 0 where
  pub inv : Inv p s
  pub replayed : s.at ≡ replay p s.trace (preliminary p)
  pub vias : (v : ℕ) → is_via p v ≡ true → position_of s.at v ≡ position_of (preliminary p) v

pub via-still : {p : PlanData} {r : Run} → IsRun p r → (q : ℕ) (ys : List ℤ) (s : State) (v : ℕ) → is_via p v ≡ true → position_of (after q r ys s).at v ≡ position_of s.at v
unfolding after
via-still i q ys s v t = put-still i ys s.at v (λ h k. no_true (sym (i.plain v h k) ∙ t))

replay-after : {p : PlanData} {r : Run} → IsRun p r → (q : ℕ) (ys : List ℤ) (s : State) → s.at ≡ replay p s.trace (preliminary p)
    → (after q r ys s).at ≡ replay p (after q r ys s).trace (preliminary p)
unfolding after replay
replay-after {p} {r} i q ys s e = sym (replay-append p s.trace (step_of q r ys ∷ []) (preliminary p)
    ∙ ap (λ (o : Run). put o.boxes ys (replay p s.trace (preliminary p))) i.told ∙ ap (put r.boxes ys) (sym e))

module _ {p : PlanData} (so : Sound p) where
  reached-after : {s : State} → Reached p s → (q : ℕ) {r : Run} → IsRun p r → Reached p (after q r (placed p q s r) s)
  reached-after {s} c q {r} i = record {
    inv = place-keeps so c.inv q i;
    replayed = replay-after i q (placed p q s r) s c.replayed;
    vias = λ v t. via-still i q (placed p q s r) s v t ∙ c.vias v t;
  }

  pub reached-visit : {s : State} → Reached p s → (q : ℕ) {r : Run} → IsRun p r → Reached p (visit p q r s)
  unfolding visit
  reached-visit {s} c q {r} i = if-ind (is_due p q s r) (after q r (placed p q s r) s) s (Reached p) (λ t. reached-after c q i) (λ t. c)

  pub reached-all : {s : State} {ws : List Visit} → Reached p s → ToRuns p ws → Reached p (visit_all p ws s)
  unfolding visit_all
  reached-all c all_nil = c
  reached-all {s = s} c (all_cons {x = w} {xs = xs} i «is») = reached-all {s = visit p w.pass w.run s} (reached-visit c w.pass i) «is»

-- ---- the state at the start
pub length-doubled : (p : PlanData) (v n : ℕ) → length (doubled_on p (numbers v n)) ≡ n
unfolding doubled_on numbers
length-doubled p v zero = refl
length-doubled p v (suc zero) = refl
length-doubled p v (suc (suc n)) = ap suc (length-doubled p (v + 1) (suc n))

doubled-at : (p : PlanData) (v n i : ℕ) → suc i < n → get_or (doubled_on p (numbers v n)) i 0 ≡ doubled p (v + i) (suc (v + i))
unfolding doubled_on numbers
doubled-at p v zero i h = absurd (omega arith)
doubled-at p v (suc zero) i h = absurd (omega arith)
doubled-at p v (suc (suc n)) zero h = let e : v ≡ v + 0 = omega arith in let f : v + 1 ≡ suc (v + 0) = omega arith in ap (λ w. doubled p w (v + 1)) e ∙ ap (doubled p (v + 0)) f
doubled-at p v (suc (suc n)) (suc i) h = let e : v + 1 + i ≡ v + suc i = omega arith in
    doubled-at p (v + 1) (suc n) i (omega arith) ∙ ap (λ w. doubled p w (suc w)) e

length-doubled_in : (p : PlanData) (v : ℕ) (ns : List ℕ) → length (doubled_in p (levels_from v ns)) ≡ sum ns
unfolding doubled_in levels_from sum
length-doubled_in p v [] = refl
length-doubled_in p v (n ∷ ns) = omega (arith, length-append (doubled_on p (numbers v n)) (doubled_in p (levels_from (v + n) ns)), length-doubled p v n, length-doubled_in p (v + n) ns)

doubled_in-at : (p : PlanData) (v : ℕ) (ns : List ℕ) (k w : ℕ) → sum (take k ns) ≤ w → suc w < sum (take k ns) + get_or ns k 0 → get_or (doubled_in p (levels_from v ns)) w 0 ≡ doubled p (v + w) (suc (v + w))
unfolding doubled_in levels_from sum
doubled_in-at p v [] zero w h j = absurd (omega arith)
doubled_in-at p v [] (suc k) w h j = absurd (omega arith)
doubled_in-at p v (n ∷ ns) zero w h j = get_or-append (doubled_on p (numbers v n)) (doubled_in p (levels_from (v + n) ns)) 0 w (omega (arith, length-doubled p v n)) ∙ doubled-at p v n w (omega arith)
doubled_in-at p v (n ∷ ns) (suc k) w h j = let e : w ≡ length (doubled_on p (numbers v n)) + (w - n) = omega (arith, length-doubled p v n) in let f : v + n + (w - n) ≡ v + w = omega arith in
    ap (λ u. get_or (doubled_on p (numbers v n) ++ doubled_in p (levels_from (v + n) ns)) u 0) e
    ∙ get_or-append-add (doubled_on p (numbers v n)) (doubled_in p (levels_from (v + n) ns)) (w - n) 0 ∙ doubled_in-at p (v + n) ns k (w - n) (omega arith) (omega arith)
    ∙ ap (λ u. doubled p u (suc u)) f

pub start-apart : (p : PlanData) (v : ℕ) → Side p v → get_or (doubled_in p (levels_of p)) v 0 ≡ doubled p v (suc v)
unfolding levels_of first_on size_on
start-apart p v d = let e : 0 + v ≡ v = omega arith in doubled_in-at p 0 p.sizes (d.level - 1) v d.from d.to ∙ ap (λ u. doubled p u (suc u)) e

start-length : (p : PlanData) → length (doubled_in p (levels_of p)) ≡ sum p.sizes
unfolding levels_of
start-length p = length-doubled_in p 0 p.sizes

pub reached-start : {p : PlanData} → Sound p → Preliminary p → Reached p (start p)
unfolding start_at replay
reached-start {p} so pre = record {
  inv = record {
    at_length = pre.long;
    apart_length = start-length p ∙ so.total;
    spaced = λ v d. let e = start-apart p v d in omega (arith, pre.apart (record { left = v; right = suc v }) (side-mem p v d));
    wide = λ v d. let e = start-apart p v d in omega arith;
  };
  replayed = refl;
  vias = λ v t. refl;
}
