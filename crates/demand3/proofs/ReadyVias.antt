-- What a ready run has: a via at or before its left bound and one at or after its right bound, each joined to a via of the preceding
-- level, and every bounded run between those two settled. Assumes nothing.
use mathlib.Core.Path.{◌≡◌, refl, sym, ◌∙◌, ap, subst}
use mathlib.Core.Bool.{Bool, true, false, cond, not, ◌||◌}
use mathlib.Core.List.Memᴰ
use mathlib.Core.List.{List, [], ◌∷◌, Memᴰ}
use mathlib.Core.Logic.{◌⊎◌, ⊎_elim}
use mathlib.Core.Option.{Option, none, some}
use Prim.Native.Nat.{ℕ, zero, suc, ◌+◌, ◌≤◌, ◌<◌}
use native.Mathlib.Omega.{arith}
use lib.Dec.{eqb, leb}
use borrow.Author.Tests.{leb-true, ne_eqb}
use Rattle.ints.proofs.Laws.{if-ind}
use Rattle.ints.proofs.Tests.{and_right, ◌and◌}
use Rattle.plan.specs.Plan.{PlanData, vertex_count, is_via, level_of, level_at, numbers}
use Rattle.plan.specs.Segments.{Segment, segments_of, above_in, below_in, above, below, is_inner, inner_in, inner_segments}
use Rattle.passes.specs.Runs.{Run, is_bounded}
use Rattle.passes.specs.State.{State, position_of}
use Rattle.passes.specs.Ready.{preceding, first_via, joined_via, or_else, nearest_left, nearest_right, settled_between, both_settled, ready_from, is_ready, is_settled}
use Rattle.passes.specs.Passes.{is_due}
use Rattle.plan.proofs.All.{all-mem, no_true}
use Rattle.plan.specs.inner.Levels.{first_on, size_on}
use Rattle.plan.proofs.Levels.{level-is}
use Rattle.passes.proofs.Sound.{Sound}
use Rattle.demand3.proofs.Upright.{inner-same}
use Rattle.demand3.proofs.Bends.{segment, mem_below, mem-above}
use Rattle.passes.proofs.Trace.{Reached}
use Rattle.passes.proofs.Preliminary.{Preliminary}
use Rattle.passes.proofs.Options.{or_cases, never}

-- ---- n is a neighbour of b on the preceding level: below in pass 2, else above
abbrev pub Levels : Bool → ℕ → ℕ → Type 0
Levels true b n = n ≡ suc b
Levels false b n = b ≡ suc n

pub levels-same : (t : Bool) (a b m n : ℕ) → a ≡ b → Levels t a m → Levels t b n → m ≡ n
levels-same true a b m n e f g = omega arith
levels-same false a b m n e f g = omega arith

pub record Beside (p : PlanData) (t : Bool) (b n : ℕ) : Type 0 where
  pub box : b < vertex_count p
  pub near : n < vertex_count p
  pub levels : Levels t (level_of p b) (level_of p n)

-- ---- a via joined to a via
pub record Joined (p : PlanData) (t : Bool) (v u : ℕ) : Type 0 where
  pub via : is_via p v ≡ true
  pub far : is_via p u ≡ true
  pub beside : Beside p t v u
  pub upright : {s : State} → Preliminary p → Reached p s → position_of s.at u ≡ position_of s.at v

mem-inner : (p : PlanData) (ss : List Segment) (s : Segment) → Memᴰ s ss → is_via p s.upper ≡ true → is_via p s.lower ≡ true → Memᴰ s (inner_in p ss)
unfolding inner_in
mem-inner p [] s m e f = absurd (Memᴰ.not-nil m)
mem-inner p (t ∷ ss) s m e f = if-ind (is_inner p t) (t ∷ inner_in p ss) (inner_in p ss) (Memᴰ s)
    (λ i. ⊎_elim (λ (z : s ≡ t). Memᴰ.head z) (λ n. Memᴰ.tail (mem-inner p ss s n e f)) (Memᴰ.cases_cons m))
    (λ i. ⊎_elim (λ (z : s ≡ t). no_true (sym i ∙ subst (λ o. is_inner p o ≡ true) z (◌and◌ e f))) (λ n. mem-inner p ss s n e f) (Memᴰ.cases_cons m))

module _ {p : PlanData} (so : Sound p) where
  joined-below : (v u : ℕ) → is_via p v ≡ true → is_via p u ≡ true → Memᴰ u (below_in (segments_of p) v) → Joined p true v u
  unfolding inner_segments
  joined-below v u e f m = let n = mem_below (segments_of p) v u m in let d = all-mem so.down n in record {
    via = e;
    far = f;
    beside = record { box = d.upper; near = d.lower; levels = d.levels };
    upright = λ pre c. sym (inner-same pre c (segment v u) (mem-inner p (segments_of p) (segment v u) n e f));
  }

  joined-above : (v u : ℕ) → is_via p v ≡ true → is_via p u ≡ true → Memᴰ u (above_in (segments_of p) v) → Joined p false v u
  unfolding inner_segments
  joined-above v u e f m = let n = mem-above (segments_of p) u v m in let d = all-mem so.down n in record {
    via = e;
    far = f;
    beside = record { box = d.lower; near = d.upper; levels = d.levels };
    upright = λ pre c. inner-same pre c (segment u v) (mem-inner p (segments_of p) (segment u v) n f e);
  }

  first-via : (ws : List ℕ) (u : ℕ) → first_via p ws ≡ some u → Memᴰ u ws × (is_via p u ≡ true)
  unfolding first_via
  first-via [] u e = let z : ◌≡◌ {A = ℕ} 0 1 = cc in absurd (omega arith)
  first-via (w ∷ ws) u e = if-ind (is_via p w) (some w) (first_via p ws) (λ o. o ≡ some u → Memᴰ u (w ∷ ws) × (is_via p u ≡ true))
      (λ t f. let z : u ≡ w = cc in (Memᴰ.head z, rw z t)) (λ t f. let r = first-via ws u f in (Memᴰ.tail r.0, r.1)) e

  joined : (q v u : ℕ) → joined_via p q v ≡ some u → Joined p (eqb q 2) v u
  unfolding joined_via preceding above below
  joined q v u e = go (is_via p v) refl e
    where
      side : (t : Bool) → is_via p v ≡ true → Memᴰ u (cond t (below_in (segments_of p) v) (above_in (segments_of p) v)) → is_via p u ≡ true → Joined p t v u
      side true f m g = joined-below v u f g m
      side false f m g = joined-above v u f g m

      go : (t : Bool) → is_via p v ≡ t → cond t (first_via p (preceding p q v)) none ≡ some u → Joined p (eqb q 2) v u
      go true f e = let r = first-via (preceding p q v) u e in side (eqb q 2) f r.0 r.1
      go false f e = let z : ◌≡◌ {A = ℕ} 0 1 = cc in absurd (omega arith)

-- ---- the nearest on one side of a bound, among the n vertices from c on
pub record Nearest (p : PlanData) (t : Bool) (c n u : ℕ) (Q : ℕ → Type 0) : Type 0 where
  pub vertex : ℕ
  pub from : c ≤ vertex
  pub to : vertex < c + n
  pub side : Q vertex
  pub joined : Joined p t vertex u

nearest-more : {p : PlanData} {t : Bool} (c n u : ℕ) {Q : ℕ → Type 0} → Nearest p t (c + 1) n u Q → Nearest p t c (suc n) u Q
nearest-more c n u r = record { vertex = r.vertex; from = omega (arith, r.from); to = omega (arith, r.to); side = r.side; joined = r.joined }

nearest-here : {p : PlanData} {t : Bool} (c n u : ℕ) {Q : ℕ → Type 0} → Q c → Joined p t c u → Nearest p t c (suc n) u Q
nearest-here c n u h j = record { vertex = c; from = omega arith; to = omega arith; side = h; joined = j }

module _ {p : PlanData} (so : Sound p) (q bound : ℕ) where
  nearest-left : (c n u : ℕ) → nearest_left p q bound (numbers c n) ≡ some u → Nearest p (eqb q 2) c n u (λ v. v ≤ bound)
  unfolding nearest_left numbers
  nearest-left c zero u e = never u e
  nearest-left c (suc n) u e = if-ind (leb c bound) (or_else (nearest_left p q bound (numbers (c + 1) n)) (joined_via p q c)) none (λ o. o ≡ some u → Nearest p (eqb q 2) c (suc n) u (λ v. v ≤ bound))
      (λ t f. ⊎_elim (λ g. nearest-more c n u (nearest-left (c + 1) n u g)) (λ g. nearest-here c n u (leb-true c bound t) (joined so q c u g)) (or_cases (nearest_left p q bound (numbers (c + 1) n)) (joined_via p q c) u f))
      (λ t f. never u f) e

  nearest-right : (c n u : ℕ) → nearest_right p q bound (numbers c n) ≡ some u → Nearest p (eqb q 2) c n u (λ v. bound ≤ v)
  unfolding nearest_right numbers
  nearest-right c zero u e = never u e
  nearest-right c (suc n) u e = if-ind (leb bound c) (or_else (joined_via p q c) (nearest_right p q bound (numbers (c + 1) n))) (nearest_right p q bound (numbers (c + 1) n)) (λ o. o ≡ some u → Nearest p (eqb q 2) c (suc n) u (λ v. bound ≤ v))
      (λ t f. ⊎_elim (λ g. nearest-here c n u (leb-true bound c t) (joined so q c u g)) (λ g. nearest-more c n u (nearest-right (c + 1) n u g)) (or_cases (joined_via p q c) (nearest_right p q bound (numbers (c + 1) n)) u f))
      (λ t f. nearest-more c n u (nearest-right (c + 1) n u f)) e

-- ---- a ready run
pub record IsReady (p : PlanData) (t : Bool) (s : State) (r : Run) : Type 0 where
  pub left : ℕ
  pub right : ℕ
  pub left_is : r.left ≡ some left
  pub right_is : r.right ≡ some right
  pub low : ℕ
  pub high : ℕ
  pub before : Nearest p t (first_on p r.level) (size_on p r.level) low (λ v. v ≤ left)
  pub after : Nearest p t (first_on p r.level) (size_on p r.level) high (λ v. right ≤ v)
  pub settled : settled_between p s low high ≡ true

record Both (p : PlanData) (s : State) (a b : Option ℕ) : Type 0 where
  pub low : ℕ
  pub high : ℕ
  pub low_is : a ≡ some low
  pub high_is : b ≡ some high
  pub settled : settled_between p s low high ≡ true

both : (p : PlanData) (s : State) (a b : Option ℕ) → both_settled p s a b ≡ true → Both p s a b
both p s none b e = no_true e
both p s (some u) none e = no_true e
both p s (some u) (some w) e = record { low = u; high = w; low_is = refl; high_is = refl; settled = e }

pub ready : {p : PlanData} → Sound p → (q : ℕ) (s : State) (r : Run) → is_ready p q s r ≡ true → IsReady p (eqb q 2) s r
unfolding is_ready
ready {p} so q s r e = go r.left r.right refl refl e
  where
    go : (a b : Option ℕ) → r.left ≡ a → r.right ≡ b → ready_from p q s (level_at p r.level) a b ≡ true → IsReady p (eqb q 2) s r
    go none b f g e = no_true e
    go (some a) none f g e = no_true e
    go (some a) (some b) f g e = let k = both p s (nearest_left p q a (level_at p r.level)) (nearest_right p q b (level_at p r.level)) e in record {
      left = a;
      right = b;
      left_is = f;
      right_is = g;
      low = k.low;
      high = k.high;
      before = nearest-left so q a (first_on p r.level) (size_on p r.level) k.low (ap (nearest_left p q a) (sym (level-is p r.level)) ∙ k.low_is);
      after = nearest-right so q b (first_on p r.level) (size_on p r.level) k.high (ap (nearest_right p q b) (sym (level-is p r.level)) ∙ k.high_is);
      settled = k.settled;
    }

-- a bounded run that passes 1 or 2 place was ready
or-second : (a b : Bool) → a ≡ false → a || b ≡ true → b ≡ true
or-second true b e f = no_true (sym e)
or-second false b e f = f

pub due-ready : (p : PlanData) (q : ℕ) (s : State) (r : Run) → is_bounded r ≡ true → q ≤ 2 → is_due p q s r ≡ true → is_ready p q s r ≡ true
unfolding is_due
due-ready p q s r b h e = or-second (eqb q 3) (is_ready p q s r) (ne_eqb q 3 (λ f. absurd (omega arith))) (and_right (not (is_settled p s r)) _ (rw b at e))
