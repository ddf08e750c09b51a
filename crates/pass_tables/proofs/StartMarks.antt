-- The marks at the start: the runs marked are those with slack by the preliminary positions. Assumes nothing.
use Prim.Native.Nat.{ℕ, zero, suc, ◌+◌, ◌-◌, ◌<◌, ◌≤◌}
use mathlib.Core.Path.{◌≡◌, refl, sym, ◌∙◌, ap}
use mathlib.Core.Bool.{Bool, true, false, cond, not, ◌||◌}
use mathlib.Core.List.{List, [], ◌∷◌}
use mathlib.Core.Option.{Option, some}
use native.Mathlib.Omega.{arith}
use borrow.Author.Tests.{lt-ltb, ltb-true}
use lib.Dec.{ltb}
use lib.ListN.{length, get_or, take, length-append, get_or-eq_default}
use lib.IntN.{◌-ℤ◌}
use Rattle.ints.specs.Lists.{sum}
use Rattle.ints.proofs.Laws.{cases}
use Rattle.plan.specs.Plan.{PlanData, vertex_count, is_via, numbers, levels_of, level_of}
use Rattle.plan.specs.Acceptable.{acceptable}
use Rattle.plan.specs.Checks.{any}
use Rattle.preliminary.specs.Positions.{preliminary}
use Rattle.passes.specs.Runs.{Run, members}
use Rattle.passes.specs.State.{position_of, doubled, doubled_in, start_at}
use Rattle.passes.specs.Ready.{equals, doubled_span, exactly_apart, has_no_slack, is_settled}
use Rattle.plan.proofs.All.{no_true, cond_both}
use Rattle.plan.specs.inner.Levels.{first_on, size_on, On}
use Rattle.plan.proofs.Levels.{has-level}
use Rattle.passes.proofs.Sound.{sound}
use Rattle.passes.specs.inner.Runs.{RightEnd, no-right, via-right, IsRun}
use Rattle.passes.proofs.RunsOn.{bounds, members-are, left-via, right-via}
use Rattle.passes.proofs.Edges.{left_at, right-at}
use Rattle.passes.specs.inner.Schedule.{start}
use Rattle.passes.proofs.Trace.{start-apart}
use Rattle.pass_tables.specs.inner.Tables.{total, next_via, is_loose, loose_from, starts_loose, along, levelwise}
use Rattle.pass_tables.proofs.LevelLaws.{along-length, levelwise-get}
use Rattle.pass_tables.proofs.RowLaws.{total-same}
use Rattle.pass_tables.proofs.RunLaws.{next as next-via, next-is}
use Rattle.pass_tables.proofs.RunEnds.{left-on, right_of}
use Rattle.pass_tables.specs.inner.Moments.{BoundedAt, Unsettled}

-- ---- a table written level by level
levelwise-length : {A : Type 0} (f : ℕ → ℕ → A) (v : ℕ) (ns : List ℕ) → length (levelwise f v ns) ≡ sum ns
unfolding levelwise sum
levelwise-length f v [] = refl
levelwise-length f v (n ∷ ns) =
    omega (arith, length-append (along (λ (u : ℕ). f u (v + n)) v n) (levelwise f (v + n) ns), along-length (λ (u : ℕ). f u (v + n)) v n, levelwise-length f (v + n) ns)

levelwise-on : {A : Type 0} (p : PlanData) (f : ℕ → ℕ → A) (d : A) (l v : ℕ) → On p l v → get_or (levelwise f 0 p.sizes) v d ≡ f v (first_on p l + size_on p l)
unfolding first_on size_on
levelwise-on p f d l v o =
    let k = l - 1 in
    let s = sum (take k p.sizes) in
    let n = get_or p.sizes k 0 in
    let e : s + (v - s) ≡ v = omega (arith, o.from) in
    let g : 0 + s + (v - s) ≡ v = omega (arith, o.from) in
    let h : 0 + s + n ≡ s + n = omega arith in
    ap (λ (i : ℕ). get_or (levelwise f 0 p.sizes) i d) (sym e) ∙ levelwise-get f 0 p.sizes k (v - s) d (omega (arith, o.from, o.to))
    ∙ ap (λ (u : ℕ). f u (0 + s + n)) g ∙ ap (f v) h

-- ---- the distance of a run's vias
total_left : (f : ℕ → ℕ) (n : ℕ) → total f (suc n) ≡ f 0 + total (λ (i : ℕ). f (suc i)) n
unfolding total
total_left f zero = omega arith
total_left f (suc n) = omega (arith, total_left f n)

span-total : (p : PlanData) (ds : List ℕ) (v n : ℕ) → ((u : ℕ) → v ≤ u → u < v + n → get_or ds u 0 ≡ doubled p u (suc u))
    → doubled_span p (numbers v (suc n)) ≡ total (λ (i : ℕ). get_or ds (v + i) 0) n
unfolding doubled_span numbers total
span-total p ds v zero f = refl
span-total p ds v (suc n) f =
    let e : v + 1 ≡ suc v = omega arith in
    let z : v + 0 ≡ v = omega arith in
    let here : get_or ds (v + 0) 0 ≡ doubled p v (v + 1) = ap (λ (u : ℕ). get_or ds u 0) z ∙ f v (omega arith) (omega arith) ∙ ap (doubled p v) (sym e) in
    let more : doubled_span p (numbers (v + 1) (suc n)) ≡ total (λ (i : ℕ). get_or ds (v + suc i) 0) n =
    span-total p ds (v + 1) n (λ u h k. f u (omega arith) (omega arith))
    ∙ total-same (λ (i : ℕ). get_or ds (v + 1 + i) 0) (λ (i : ℕ). get_or ds (v + suc i) 0) n (λ i h. let g : v + 1 + i ≡ v + suc i = omega arith in ap (λ (u : ℕ). get_or ds u 0) g) in
    ap (λ (m : ℕ). doubled p v (v + 1) + m) more ∙ ap (λ (m : ℕ). m + total (λ (i : ℕ). get_or ds (v + suc i) 0) n) (sym here) ∙ sym (total_left (λ (i : ℕ). get_or ds (v + i) 0) n)

or-false : (b : Bool) → b || false ≡ b
or-false true = refl
or-false false = refl

-- ---- a run that does not reach its level's end
record Some (o : Option ℕ) : Type 0 where
  pub via : ℕ
  pub is : o ≡ some via

right-some : {p : PlanData} {end : ℕ} {o : Option ℕ} {past high : ℕ} → RightEnd p end o past high → (past ≡ end → ⊥) → Some o
right-some (no-right e f) n = absurd (n f)
right-some (via-right {v = v} e f g t) n = record { via = v; is = refl }

-- ---- whether a bounded run with slack starts at v, by the preliminary positions
abbrev loose : PlanData → ℕ → ℕ → Bool
loose p v to = starts_loose p.vias (doubled_in p (levels_of p)) (preliminary p) v to

module _ (p : PlanData) where
  settled-start : (r : Run) (v w : ℕ) → r.left ≡ some v → r.right ≡ some w
      → is_settled p (start p) r ≡ equals (position_of (preliminary p) w -ℤ position_of (preliminary p) v) (doubled_span p (members r))
  unfolding is_settled has_no_slack start_at any
  settled-start r v w e f = ap (λ (o : Option ℕ). exactly_apart (preliminary p) (doubled_span p (members r)) o r.right || false) e
      ∙ ap (λ (o : Option ℕ). exactly_apart (preliminary p) (doubled_span p (members r)) (some v) o || false) f ∙ or-false _

  module _ (r : Run) (i : IsRun p r) (v w : ℕ) (e : r.left ≡ some v) (f : r.right ≡ some w) where
    span-is : doubled_span p (members r) ≡ total (λ (n : ℕ). get_or (doubled_in p (levels_of p)) (v + n) 0) (w - v)
    span-is =
        let l = left_at v i.begins e in
        let h = right-at w i.ends f in
        let b = bounds i in
        let n : i.high - i.low ≡ suc (w - v) = omega arith in
        ap (doubled_span p) (members-are i) ∙ ap (λ (k : ℕ). doubled_span p (numbers i.low k)) n ∙ ap (λ (u : ℕ). doubled_span p (numbers u (suc (w - v)))) l.0
        ∙ span-total p (doubled_in p (levels_of p)) v (w - v)
        (λ u j k. start-apart p u (record { level = r.level; one = i.one; from = omega arith; to = omega arith }))

    loose-is : loose p v (first_on p r.level + size_on p r.level) ≡ not (is_settled p (start p) r)
    loose-is =
        let to = first_on p r.level + size_on p r.level in
        let ds = doubled_in p (levels_of p) in
        let l = left_at v i.begins e in
        let h = right-at w i.ends f in
        let b = bounds i in
        let n : next_via p.vias (v + 1) (to - (v + 1)) ≡ w =
        next-is p.vias (v + 1) (to - (v + 1)) w (omega arith) (omega arith) (λ u j k. i.plain u (omega arith) (omega arith)) (λ k. right-via i w f) in
        ap (λ (t : Bool). cond t (loose_from ds (preliminary p) v (next_via p.vias (v + 1) (to - (v + 1))) to) false) (left-via i v e)
        ∙ ap (λ (u : ℕ). loose_from ds (preliminary p) v u to) n
        ∙ ap (λ (t : Bool). cond t (is_loose ds (preliminary p) v w) false) (lt-ltb w to (omega arith))
        ∙ ap (λ (d : ℕ). not (equals (position_of (preliminary p) w -ℤ position_of (preliminary p) v) d)) (sym span-is)
        ∙ ap not (sym (settled-start r v w e f))

  -- where one starts, a bounded run is
  loose-bounded : (l v : ℕ) → 1 ≤ l → l ≤ p.levels → On p l v → loose p v (first_on p l + size_on p l) ≡ true → BoundedAt p v
  loose-bounded l v one many o t =
      let to = first_on p l + size_on p l in
      let w = next_via p.vias (v + 1) (to - (v + 1)) in
      let a = cond_both (is_via p v) (loose_from (doubled_in p (levels_of p)) (preliminary p) v w to) t in
      let c = cond_both (ltb w to) (is_loose (doubled_in p (levels_of p)) (preliminary p) v w) a.1 in
      let m = next-via p.vias (v + 1) (to - (v + 1)) in
      let before : w < to = ltb-true w to c.0 in
      let r = right_of p l v one many o a.0 in
      let i = r.is in
      let x = left_at v i.begins r.left in
      let end : first_on p r.run.level + size_on p r.run.level ≡ to = ap (λ (k : ℕ). first_on p k + size_on p k) r.level in
      let s = right-some i.ends (λ z. no_true (sym (i.plain w (omega (arith, m.low)) (omega arith)) ∙ m.via (omega (arith, o.to)))) in
      record { run = r.run; is = i; right = s.via; left_is = r.left; right_is = s.is }

  module _ {marks : List Bool} (is : marks ≡ levelwise (λ (v to : ℕ). starts_loose p.vias (doubled_in p (levels_of p)) (preliminary p) v to) 0 p.sizes) (ok : acceptable p ≡ true) where
    pub marks-length : length marks ≡ vertex_count p
    marks-length = ap length is ∙ levelwise-length (loose p) 0 p.sizes ∙ (sound p ok).total

    mark-at : (l v : ℕ) → On p l v → get_or marks v false ≡ loose p v (first_on p l + size_on p l)
    mark-at l v o = ap (λ (ms : List Bool). get_or ms v false) is ∙ levelwise-on p (loose p) false l v o

    marked-bounded : (v : ℕ) → get_or marks v false ≡ true → BoundedAt p v
    marked-bounded v t =
        let so = sound p ok in
        let few : v < vertex_count p = cases (vertex_count p) v (λ h. no_true (sym (get_or-eq_default marks false (omega (arith, marks-length))) ∙ t)) (λ h. h) in
        let h = has-level p v (omega (arith, so.total)) in
        loose-bounded (level_of p v) v h.one (omega (arith, h.many, so.sizes)) h.on (sym (mark-at (level_of p v) v h.on) ∙ t)

    pub start-unsettled : Unsettled p (start p) marks
    start-unsettled = record {
      each = λ r i v w e f. mark-at r.level v (left-on i v e) ∙ loose-is r i v w e f;
      only = marked-bounded;
    }
