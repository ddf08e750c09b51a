-- The placings that a pass lists are those of its placed runs, in order, with their boxes where they stand when the pass ends.
-- Assumes nothing.
use Prim.Native.Nat.{ℕ, zero, suc, ◌+◌, ◌≤◌, ◌<◌}
use mathlib.Core.Path.{◌≡◌, refl, sym, ◌∙◌, ap, subst}
use mathlib.Core.Bool.{Bool, true, false, cond, not, ◌&&◌, ◌||◌}
use mathlib.Core.List.{List, [], ◌∷◌, ◌++◌, map, append_assoc, append-nil, map-append}
use native.Mathlib.Omega.{arith}
use lib.Dec.{eqb}
use lib.IntN.{ℤ}
use Rattle.plan.specs.Plan.{PlanData, numbers}
use Rattle.passes.specs.Runs.{Run, runs_on, runs_of_levels, is_bounded}
use Rattle.passes.specs.State.{Step, State, position_of, put}
use Rattle.passes.specs.Ready.{is_settled, is_ready}
use Rattle.passes.specs.Passes.{placed, after, is_due, visit}
use Rattle.passes.specs.Drawing.{BoxAt, Placing, boxes_with, listed_before, listed}
use Rattle.plan.proofs.All.{All, all_nil, all_cons, all_left, all_right, all_head, all_tail}
use Rattle.passes.proofs.Sound.{Sound}
use Rattle.passes.specs.inner.Runs.{IsRun}
use Rattle.passes.proofs.RunsOn.{bounds}
use Rattle.passes.proofs.Put.{map-put}
use Rattle.passes.proofs.Placing.{placed-length}
use Rattle.passes.proofs.Schedule.{ToRuns, visit-append, Other, Once}
use Rattle.passes.specs.inner.Schedule.{Visit, visit_of, visit_all, pass_visits}
use Rattle.passes.proofs.Trace.{step_of, Reached, reached-visit, reached-all}
use Rattle.passes.proofs.Counts.{settled-placed, visit-own}
use Rattle.passes.proofs.Frame.{other-box, box-still, visit-keeps}
use Rattle.pass_tables.proofs.Settle.{itself, settled-other}
use Rattle.pass_list.proofs.Steps.{listed-append}
use Rattle.pass_list.specs.inner.PassList.{was_placed, placing_at, pass_list}

-- ---- what visits to other runs leave alone: settled or not ..
module _ {p : PlanData} (so : Sound p) {r : Run} (i : IsRun p r) where
  pub settled-others : {ws : List Visit} {s : State} → Reached p s → ToRuns p ws → All (Other r) ws → is_settled p (visit_all p ws s) r ≡ is_settled p s r
  unfolding visit_all
  settled-others c all_nil os = refl
  settled-others {s = s} c (all_cons {x = w} j js) (all_cons o os) = settled-others (reached-visit so c w.pass j) js os ∙ settled-other so c w j i o

-- .. and where its boxes stand
pub boxes-kept : {p : PlanData} {r : Run} (i : IsRun p r) (v : ℕ) {ws : List Visit} (s : State) → i.first ≤ v → v < i.first + i.count → ToRuns p ws → All (Other r) ws
    → position_of (visit_all p ws s).at v ≡ position_of s.at v
unfolding visit_all
boxes-kept i v s h k all_nil os = refl
boxes-kept {p} i v s h k (all_cons {x = w} j js) (all_cons o os) = boxes-kept i v (visit p w.pass w.run s) h k js os
    ∙ visit-keeps p (λ (t : State). position_of t.at v) w s (box-still j w.pass (placed p w.pass s w.run) s v (λ m n. other-box i j o v h k m n))

-- ---- a run that is visited once: no other visit is to it
head-is : {A : Type 0} (d x y : A) (xs ys : List A) → x ∷ xs ≡ y ∷ ys → x ≡ y
head-is {A} d x y xs ys e = ap (λ (l : List A). first l) e
  where
    first : List A → A
    first [] = d
    first (z ∷ zs) = z

tail-is : {A : Type 0} (x y : A) (xs ys : List A) → x ∷ xs ≡ y ∷ ys → xs ≡ ys
tail-is {A} x y xs ys e = ap (λ (l : List A). rest l) e
  where
    rest : List A → List A
    rest [] = []
    rest (z ∷ zs) = zs

pub record Alone (r : Run) (pre post : List Visit) : Type 0 where
  pub none_before : All (Other r) pre
  pub none_after : All (Other r) post

alone : (q : ℕ) (r : Run) (pre post a b : List Visit) → pre ++ visit_of q r ∷ post ≡ a ++ visit_of q r ∷ b → All (Other r) a → All (Other r) b → Alone r pre post
alone q r [] post [] b e na nb = record { none_before = all_nil; none_after = subst (All (Other r)) (sym (tail-is (visit_of q r) (visit_of q r) post b e)) nb }
alone q r [] post (x ∷ a) b e (all_cons o na) nb = absurd (itself r (subst (Other r) (sym (head-is x (visit_of q r) x post (a ++ visit_of q r ∷ b) e)) o))
alone q r (y ∷ pre) post [] b e na nb =
    absurd (itself r (all_head (all_right pre (visit_of q r ∷ post) (subst (All (Other r)) (sym (tail-is y (visit_of q r) (pre ++ visit_of q r ∷ post) b e)) nb))))
alone q r (y ∷ pre) post (x ∷ a) b e (all_cons o na) nb =
    let z = alone q r pre post a b (tail-is y x (pre ++ visit_of q r ∷ post) (a ++ visit_of q r ∷ b) e) na nb in
    record { none_before = all_cons (subst (Other r) (sym (head-is x y x (pre ++ visit_of q r ∷ post) (a ++ visit_of q r ∷ b) e)) o) z.none_before; none_after = z.none_after }

-- ---- one visit of a pass
before-like : (s t : Step) (bs : List BoxAt) → s.pass ≡ t.pass → s.level ≡ t.level → listed_before s bs [] ≡ listed_before t bs []
before-like s t [] e f = refl
before-like s t (b ∷ bs) e f = ap (λ (n : ℕ). record { pass = n; level = s.level; boxes = b ∷ bs } ∷ []) e ∙ ap (λ (n : ℕ). record { pass = t.pass; level = n; boxes = b ∷ bs } ∷ []) f

map_same : {A : Type 0} (f g : ℕ → A) (a n : ℕ) → ((v : ℕ) → a ≤ v → v < a + n → f v ≡ g v) → map f (numbers a n) ≡ map g (numbers a n)
unfolding numbers
map_same f g a zero h = refl
map_same {A} f g a (suc n) h = ap (λ (x : A). x ∷ map f (numbers (a + 1) n)) (h a (omega arith) (omega arith)) ∙ ap (λ (xs : List A). g a ∷ xs) (map_same f g (a + 1) n (λ v j k. h v (omega arith) (omega arith)))

module _ {p : PlanData} (so : Sound p) {s : State} (c : Reached p s) (q : ℕ) (ws : List Visit) (runs : ToRuns p ws) (once : (r : Run) → IsRun p r → Once q r ws) where
  -- the state when the pass ends
  abbrev done : State
  done = visit_all p ws s

  module _ (pre : List Visit) (r : Run) (post : List Visit) (is : ws ≡ pre ++ visit_of q r ∷ post) where
    abbrev mid : State
    mid = visit_all p pre s

    abbrev then : State
    then = visit p q r mid

    all_runs : ToRuns p (pre ++ visit_of q r ∷ post)
    all_runs = subst (ToRuns p) is runs

    pub visited-run : IsRun p r
    visited-run = all_head (all_right pre (visit_of q r ∷ post) all_runs)

    pub only-visit : Alone r pre post
    only-visit = let o = once r visited-run in alone q r pre post o.before o.after (sym is ∙ o.is) o.none_before o.none_after

    reached-mid : Reached p mid
    reached-mid = reached-all so c (all_left pre (visit_of q r ∷ post) all_runs)

    post-runs : ToRuns p post
    post-runs = all_tail (all_right pre (visit_of q r ∷ post) all_runs)

    done-is : done ≡ visit_all p post then
    unfolding visit_all
    done-is = ap (λ vs. visit_all p vs s) is ∙ visit-append p pre (visit_of q r ∷ post) s

    -- its boxes stand at the end of the pass where this visit leaves them
    pub stands : (v : ℕ) → visited-run.first ≤ v → v < visited-run.first + visited-run.count → position_of done.at v ≡ position_of then.at v
    stands v h k = ap (λ (t : State). position_of t.at v) done-is ∙ boxes-kept visited-run v then h k post-runs only-visit.none_after

    settled-at-start : is_settled p mid r ≡ is_settled p s r
    settled-at-start = settled-others so visited-run c (all_left pre (visit_of q r ∷ post) all_runs) only-visit.none_before

    settled-at-end : is_settled p done r ≡ is_settled p then r
    settled-at-end = ap (λ (t : State). is_settled p t r) done-is ∙ settled-others so visited-run (reached-visit so reached-mid q visited-run) post-runs only-visit.none_after

    then_is : (t : Bool) → is_due p q mid r ≡ t → then ≡ cond t (after q r (placed p q mid r) mid) mid
    unfolding visit
    then_is t e = ap (λ (u : Bool). cond u (after q r (placed p q mid r) mid) mid) e

    -- a bounded run that was unsettled is settled after the visit exactly if it was due
    due-settles : is_settled p mid r ≡ false → is_settled p then r ≡ is_due p q mid r
    due-settles u = go (is_due p q mid r) refl
      where
        go : (t : Bool) → is_due p q mid r ≡ t → is_settled p then r ≡ is_due p q mid r
        go true e = settled-placed p then r (omega (arith, visit-own p q r mid, ap (λ (t : Bool). cond {A = ℕ} t 1 0) e)) ∙ sym e
        go false e = ap (λ (t : State). is_settled p t r) (then_is false e) ∙ u ∙ sym e

    due-is : (b x : Bool) → is_bounded r ≡ b → is_settled p mid r ≡ x → is_due p q mid r ≡ cond b (not x && (eqb q 3 || is_ready p q mid r)) (not (eqb q 3))
    unfolding is_due
    due-is b x e f = rw (e, f)

    -- whether the visit places the run is known when the pass ends
    pub due-told : is_due p q mid r ≡ was_placed p q s done r
    due-told = go (is_bounded r) refl
      where
        bounded : (x : Bool) → is_bounded r ≡ true → is_settled p mid r ≡ x → is_due p q mid r ≡ not x && is_settled p done r
        bounded true e f = due-is true true e f
        bounded false e f = sym (settled-at-end ∙ due-settles f)

        go : (b : Bool) → is_bounded r ≡ b → is_due p q mid r ≡ was_placed p q s done r
        go true e = bounded (is_settled p mid r) e refl ∙ ap (λ (x : Bool). not x && is_settled p done r) settled-at-start ∙ rw e
        go false e = due-is false (is_settled p mid r) e refl ∙ rw e

    -- the boxes' positions in the step are those at the end of the pass
    positions-are : is_due p q mid r ≡ true → placed p q mid r ≡ map (position_of done.at) r.boxes
    unfolding after
    positions-are e =
        let i = visited-run in
        let vs = numbers i.first i.count in
        let ys = placed p q mid r in
        let at-then : then.at ≡ put vs ys mid.at = ap (λ (t : State). t.at) (then_is true e) ∙ ap (λ (bs : List ℕ). put bs ys mid.at) i.boxes in
        sym (map-put i.first i.count ys mid.at (omega (arith, reached-mid.inv.at_length, so.total, (bounds i).all, (bounds i).right)) (placed-length q mid i))
        ∙ ap (λ (xs : List ℤ). map (position_of xs) vs) (sym at-then)
        ∙ sym (map_same (position_of done.at) (position_of then.at) i.first i.count stands)
        ∙ ap (map (position_of done.at)) (sym i.boxes)

    -- what the visit adds to the list
    pub adds : listed p then.trace ≡ listed p mid.trace ++ cond (was_placed p q s done r) (placing_at q done.at r) []
    unfolding listed after
    adds = go (is_due p q mid r) refl
      where
        go : (t : Bool) → is_due p q mid r ≡ t → listed p then.trace ≡ listed p mid.trace ++ cond (was_placed p q s done r) (placing_at q done.at r) []
        go true e = ap (λ (t : State). listed p t.trace) (then_is true e) ∙ listed-append p mid.trace (step_of q r (placed p q mid r) ∷ [])
            ∙ ap (λ (l : List Placing). listed p mid.trace ++ l)
            (ap (λ (o : Run). listed_before (step_of q r (placed p q mid r)) (boxes_with o.boxes (placed p q mid r)) []) visited-run.told
            ∙ ap (λ (ys : List ℤ). listed_before (step_of q r (placed p q mid r)) (boxes_with r.boxes ys) []) (positions-are e)
            ∙ before-like (step_of q r (placed p q mid r)) (step_of q r []) (boxes_with r.boxes (map (position_of done.at) r.boxes)) refl refl
            ∙ ap (λ (t : Bool). cond t (placing_at q done.at r) []) (sym e ∙ due-told))
        go false e = ap (λ (t : State). listed p t.trace) (then_is false e) ∙ sym (append-nil (listed p mid.trace))
            ∙ ap (λ (t : Bool). listed p mid.trace ++ cond t (placing_at q done.at r) []) (sym e ∙ due-told)

  -- ---- all visits of the pass
  pub lists-from : (pre : List Visit) (rs : List Run) → ws ≡ pre ++ map (visit_of q) rs → listed p done.trace ≡ listed p (visit_all p pre s).trace ++ pass_list p q s done rs
  unfolding pass_list visit_all
  lists-from pre [] is = ap (λ (vs : List Visit). listed p (visit_all p vs s).trace) (is ∙ append-nil pre) ∙ sym (append-nil (listed p (visit_all p pre s).trace))
  lists-from pre (r ∷ rs) is =
      lists-from (pre ++ visit_of q r ∷ []) rs (is ∙ sym (append_assoc pre (visit_of q r ∷ []) (map (visit_of q) rs)))
      ∙ ap (λ (t : State). listed p t.trace ++ pass_list p q s done rs) (visit-append p pre (visit_of q r ∷ []) s)
      ∙ ap (λ (l : List Placing). l ++ pass_list p q s done rs) (adds pre r (map (visit_of q) rs) is)
      ∙ append_assoc (listed p (visit_all p pre s).trace) (cond (was_placed p q s done r) (placing_at q done.at r) []) (pass_list p q s done rs)

pub pass-runs : (p : PlanData) (q : ℕ) (ls : List ℕ) → pass_visits p q ls ≡ map (visit_of q) (runs_of_levels p ls)
unfolding pass_visits runs_of_levels
pass-runs p q [] = refl
pass-runs p q (l ∷ ls) = ap (λ (vs : List Visit). map (visit_of q) (runs_on p l) ++ vs) (pass-runs p q ls) ∙ sym (map-append (visit_of q) (runs_on p l) (runs_of_levels p ls))

-- The list when pass q ends is the list before it, and then the placed runs that have boxes, in the order of the pass, with their
-- boxes where they stand when the pass ends.
pub pass-lists : {p : PlanData} → Sound p → {s : State} → Reached p s → (q : ℕ) (ls : List ℕ) → ToRuns p (pass_visits p q ls) → ((r : Run) → IsRun p r → Once q r (pass_visits p q ls))
    → listed p (visit_all p (pass_visits p q ls) s).trace ≡ listed p s.trace ++ pass_list p q s (visit_all p (pass_visits p q ls) s) (runs_of_levels p ls)
unfolding visit_all
pass-lists {p} so {s} c q ls runs once = lists-from so c q (pass_visits p q ls) runs once [] (runs_of_levels p ls) (pass-runs p q ls)
