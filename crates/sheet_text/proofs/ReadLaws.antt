-- The plan as it was read: what numbering asks is there, and what it leaves is that plan, which can be written. Assumes nothing.
use mathlib.Core.Path.{◌≡◌, sym, ◌∙◌, ap}
use mathlib.Core.Bool.{Bool, true}
use mathlib.Core.List.{List, ◌++◌}
use Prim.Native.Nat.{ℕ, ◌+◌, ◌≤◌}
use native.Mathlib.Omega.{arith}
use lib.ListN.{length, take, drop, length-append}
use lib.Seq.{length-take-le, take_at}
use Rattle.plan.specs.Plan.{vertex_count}
use Rattle.plan.specs.Segments.{segments_of}
use Rattle.plan.specs.Acceptable.{limits_hold}
use Rattle.plan.specs.Stored.{stored_plan}
use Rattle.plan.specs.declared.data.Plan.{Plan}
use Rattle.plan.proofs.LimitLaws.{limits}
use Rattle.plan.proofs.Sound.{sound}
use Rattle.plan_renumber.specs.Renumber.{inverse}
use Rattle.plan_renumber.specs.inner.Words.{Once, Lists, Renumberable}
use Rattle.plan_renumber.proofs.Places.{inverse-long, inverse-once}
use Rattle.plan_renumber.proofs.Own.{Own, own}
use Rattle.plan_renumber.proofs.Kept.{header-same}
use Rattle.report.specs.declared.data.Counts.{Counts}
use Rattle.report_validity.proofs.Stored.{stored_of}
use Rattle.text.specs.Writing.{lines_of}
use Rattle.text_write.specs.inner.Stored.{StoredPlan}
use Rattle.text_write.proofs.LineLaws.{lines-count}
use Rattle.sheet_data.specs.inner.Parts.{plan_with, is_plan_with, numbers_in, are_own_with}
use Rattle.sheet_data.proofs.Cuts.{PlanArrays, PlanCut, plan-cut}
use Rattle.sheet_text.specs.inner.Read.{read_with, Numbered, AsRead}
use Rattle.sheet_text.proofs.PlanRead.{read-limits, read_down}

-- ---- the front of an array written anew
module _ {A : Type 0} (xs rest : List A) (n : ℕ) (e : length xs ≡ n) where
  pub front-reach : n ≤ length (xs ++ rest)
  front-reach = omega (arith, length-append xs rest)

  pub front-many : n ≡ length (take n (xs ++ rest))
  front-many = sym (ap length (take_at xs rest n e) ∙ e)

-- what holds of the front of an array holds of what was written there
pub by_front : {A : Type 0} (G : List A → Type 0) (rest : List A) {xs ys : List A} {n : ℕ} → length xs ≡ n → xs ≡ ys → G (take n (xs ++ rest)) → G ys
by_front G rest {xs} {ys} {n} e f g = rw (take_at xs rest n e, f) at g

-- ---- what `renumber` asks, once the numbers are inverted
pub inverse-many : {m : List ℕ} {vias : List Bool} {halves uppers lowers ratings inv : List ℕ} → Numbered m vias halves uppers lowers ratings → inv ≡ inverse m → length inv ≡ length m
inverse-many {m} n e = ap length e ∙ inverse-long (length m) m n.once

pub renumberable : {m : List ℕ} {vias : List Bool} {halves uppers lowers ratings : List ℕ} → Numbered m vias halves uppers lowers ratings
    → {spare places codes : List ℕ} {flags : List Bool} → length spare ≡ length m → length flags ≡ length m → length places ≡ length m → length codes ≡ length uppers
    → (inv : List ℕ) → inv ≡ inverse m → Renumberable inv vias halves uppers lowers ratings spare flags places codes
renumberable {m} n s f p c inv e =
    let long : length inv ≡ length m = inverse-many n e in
    let once : Once (length m) inv = rw e (inverse-once (length m) m n.once) in
    record {
      movable = record {
        numbers = record { few = omega (arith, n.few); long = p ∙ sym long; once = rw long once };
        ends = n.ends;
        rise = n.rise;
        rated = n.rated;
        long = c;
        upper = λ i h. omega (arith, n.upper i h);
        lower = λ i h. omega (arith, n.lower i h);
      };
      vias_long = n.vias_long ∙ sym long;
      halves_long = n.halves_long ∙ sym long;
      spare_long = s ∙ sym long;
      flags_long = f ∙ sym long;
    }

-- ---- a plan and remembered numbers that are not refused
module _ (p : Plan) (m : List ℕ) (c : Counts) (h : is_plan_with p c ≡ true) (t : are_own_with p m c ≡ true) (a : PlanArrays p) where
  stored : StoredPlan p c.vertices c.segments
  stored = stored_of p c.vertices c.segments h

  cut : PlanCut p c
  cut = plan-cut a c h

  its_own : Own (plan_with p c) (numbers_in m c)
  its_own = own (plan_with p c) (numbers_in m c) (sound (plan_with p c) stored.plan).limits.sizes_sum t

  many : vertex_count (plan_with p c) ≡ c.vertices
  many = length-take-le c.vertices p.vias cut.vias

  pub numbered : Numbered (numbers_in m c) (take c.vertices p.vias) (take c.vertices p.halves) (take c.segments p.uppers) (take c.segments p.lowers) (take c.segments p.ratings)
  unfolding segments_of
  numbered =
      let s = sound (plan_with p c) stored.plan in
      let long = its_own.once.long in
      record {
        few = omega (arith, stored.vertices, many);
        once = rw long its_own.once;
        vias_long = sym long;
        halves_long = s.limits.halves_long ∙ sym long;
        segments = s.limits.segments;
        ends = sym s.limits.ends_long;
        rise = s.sorted;
        rated = record { long = s.limits.ratings_long; each = s.limits.ratings };
        upper = λ i k. omega (arith, s.ends.upper i k);
        lower = λ i k. omega (arith, s.ends.lower i k);
      }

  its-limits : limits_hold (read_with p m c) ≡ true
  its-limits = read-limits (plan_with p c) (numbers_in m c) stored.plan t

  -- ---- the arrays with their fronts written anew
  module _ (vias : List Bool) (halves uppers lowers ratings : List ℕ) (l : Lists (read_with p m c) vias halves uppers lowers ratings)
      (vl : length vias ≡ c.vertices) (hl : length halves ≡ c.vertices) (ul : length uppers ≡ c.segments) (ll : length lowers ≡ c.segments) (wl : length ratings ≡ c.segments) where
    abbrev pub read_plan : Plan
    read_plan =
        stored_plan p.levels p.gap p.spacing p.sizes (vias ++ drop c.vertices p.vias) (halves ++ drop c.vertices p.halves)
        (uppers ++ drop c.segments p.uppers) (lowers ++ drop c.segments p.lowers) (ratings ++ drop c.segments p.ratings)

    read_is : plan_with read_plan c ≡ read_with p m c
    read_is =
        let q = header-same (plan_with p c) (inverse (numbers_in m c)) in
        let vs = take_at vias (drop c.vertices p.vias) c.vertices vl ∙ sym l.vias_are in
        let hs = take_at halves (drop c.vertices p.halves) c.vertices hl ∙ sym l.halves_are in
        let us = take_at uppers (drop c.segments p.uppers) c.segments ul ∙ sym l.uppers_are in
        let ls = take_at lowers (drop c.segments p.lowers) c.segments ll ∙ sym l.lowers_are in
        let ws = take_at ratings (drop c.segments p.ratings) c.segments wl ∙ sym l.ratings_are in
        λ i. record {
          levels = sym q.levels i;
          gap = sym q.gap i;
          spacing = sym q.spacing i;
          sizes = sym q.sizes i;
          vias = vs i;
          halves = hs i;
          uppers = us i;
          lowers = ls i;
          ratings = ws i;
        }

    lines_same : length (lines_of (read_with p m c)) ≡ p.levels + c.segments + 2
    lines_same =
        let t = limits (read_with p m c) its-limits in
        lines-count (read_with p m c) (t.ends_long, t.ratings_long)
        ∙ omega (arith, t.sizes_long, (header-same (plan_with p c) (inverse (numbers_in m c))).levels, ap length l.uppers_are, ul)

    pub as_read : AsRead p m c read_plan
    as_read = record {
      is = read_is;
      lines = rw read_is lines_same;
      limits = record { levels = stored.levels; vertices = stored.vertices; segments = stored.segments; plan = rw read_is its-limits };
      three = rw read_is (read_down (plan_with p c) (numbers_in m c) stored.plan t);
    }
