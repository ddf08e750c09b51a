-- Where in the schedule a visit to a run is: the first, the second or the third to it. Assumes nothing.
use mathlib.Core.Path.{◌≡◌, refl, sym, ◌∙◌, ap, subst}
use mathlib.Core.List.{List, [], ◌∷◌, ◌++◌, append_assoc, head-eq_of_cons-eq, tail-eq_of_cons-eq}
use mathlib.Core.Logic.{◌⊎◌, inl, inr}
use borrow.Author.Tests.{eq-eqb}
use Rattle.plan.specs.Plan.{PlanData}
use Rattle.passes.specs.Runs.{Run}
use Rattle.plan.proofs.All.{All, all_cons, all_append, all_right, all_head, no_true}
use Rattle.passes.specs.inner.Runs.{IsRun}
use Rattle.passes.specs.inner.Schedule.{Visit, visit_of, schedule, first_pass, second_pass, third_pass}
use Rattle.passes.proofs.Schedule.{Other, Once, once-first, once-second, once-third}

-- ---- in a list with one visit x that is not among A
record Later (x w : Visit) (A B past coming : List Visit) : Type 0 where
  pub more : List Visit
  pub past_is : past ≡ A ++ x ∷ more
  pub rest_is : B ≡ more ++ w ∷ coming

locate : (r : Run) {x w : Visit} {B coming : List Visit} (A past : List Visit) → A ++ x ∷ B ≡ past ++ w ∷ coming → All (Other r) A → (Other r w → ⊥)
    → ((past ≡ A) × (w ≡ x)) ⊎ Later x w A B past coming
locate r [] [] e a n = inl (refl, sym (head-eq_of_cons-eq e))
locate r [] (y ∷ ys) e a n = inr (record { more = ys; past_is = ap (λ z. z ∷ ys) (sym (head-eq_of_cons-eq e)); rest_is = tail-eq_of_cons-eq e })
locate r (x ∷ A) [] e (all_cons o a) n = absurd (n (subst (Other r) (head-eq_of_cons-eq e) o))
locate r {x} {w} {B} {coming} (z ∷ A) (y ∷ ys) e (all_cons o a) n = go (locate r A ys (tail-eq_of_cons-eq e) a n)
  where
    go : ((ys ≡ A) × (w ≡ x)) ⊎ Later x w A B ys coming → ((y ∷ ys ≡ z ∷ A) × (w ≡ x)) ⊎ Later x w (z ∷ A) B (y ∷ ys) coming
    go (inl f) = inl (ap (λ l. y ∷ l) f.0 ∙ ap (λ c. c ∷ A) (sym (head-eq_of_cons-eq e)), f.1)
    go (inr l) = inr (record { more = l.more; past_is = ap (λ k. y ∷ k) l.past_is ∙ ap (λ c. c ∷ (A ++ x ∷ l.more)) (sym (head-eq_of_cons-eq e)); rest_is = l.rest_is })

-- visits in one pass only before the one, or once in pass 1 and then in pass 2
pub record Twice (p : PlanData) (r : Run) (past : List Visit) : Type 0 where
  pub earlier : List Visit
  pub since : List Visit
  pub rest : List Visit
  pub begun : first_pass p ≡ earlier ++ visit_of 1 r ∷ rest
  pub is : past ≡ earlier ++ visit_of 1 r ∷ since
  pub none_earlier : All (Other r) earlier
  pub none_since : All (Other r) since

pub data Where (p : PlanData) (r : Run) (past : List Visit) (w : Visit) : Type 0 where
  at_first : w ≡ visit_of 1 r → All (Other r) past → Where p r past w
  at_second : w ≡ visit_of 2 r → Twice p r past → Where p r past w
  at-third : w.pass ≡ 3 → Where p r past w

module _ {p : PlanData} {r : Run} (i : IsRun p r) (w : Visit) (z : w.run ≡ r) (past coming : List Visit) where
  itself : Other r w → ⊥
  itself o = no_true (sym o ∙ rw (eq-eqb w.run.level r.level (ap (λ (x : Run). x.level) z), eq-eqb w.run.ordinal r.ordinal (ap (λ (x : Run). x.ordinal) z)))

  o1 : Once 1 r (first_pass p)
  o1 = once-first p i

  o2 : Once 2 r (second_pass p)
  o2 = once-second p i

  o3 : Once 3 r (third_pass p)
  o3 = once-third p i

  from-third : (l : List Visit) → o2.after ++ third_pass p ≡ l ++ w ∷ coming → (w ≡ visit_of 3 r) ⊎ ⊥
  from-third l e = go (locate r (o2.after ++ o3.before) l
      (append_assoc o2.after o3.before (visit_of 3 r ∷ o3.after) ∙ ap (λ vs. o2.after ++ vs) (sym o3.is) ∙ e) (all_append o2.none_after o3.none_before) itself)
    where
      go : ((l ≡ o2.after ++ o3.before) × (w ≡ visit_of 3 r)) ⊎ Later (visit_of 3 r) w (o2.after ++ o3.before) o3.after l coming → (w ≡ visit_of 3 r) ⊎ ⊥
      go (inl f) = inl f.1
      go (inr k) = inr (itself (all_head (all_right k.more (w ∷ coming) (subst (All (Other r)) k.rest_is o3.none_after))))

  from_second : (l : List Visit) → o1.after ++ (second_pass p ++ third_pass p) ≡ l ++ w ∷ coming → ((l ≡ o1.after ++ o2.before) × (w ≡ visit_of 2 r)) ⊎ (w ≡ visit_of 3 r)
  from_second l e = go (locate r (o1.after ++ o2.before) l
      (append_assoc o1.after o2.before (visit_of 2 r ∷ (o2.after ++ third_pass p)) ∙ ap (λ vs. o1.after ++ vs) (sym (append_assoc o2.before (visit_of 2 r ∷ o2.after) (third_pass p))
      ∙ ap (λ vs. vs ++ third_pass p) (sym o2.is)) ∙ e) (all_append o1.none_after o2.none_before) itself)
    where
      third : (w ≡ visit_of 3 r) ⊎ ⊥ → ((l ≡ o1.after ++ o2.before) × (w ≡ visit_of 2 r)) ⊎ (w ≡ visit_of 3 r)
      third (inl f) = inr f
      third (inr f) = absurd f

      go : ((l ≡ o1.after ++ o2.before) × (w ≡ visit_of 2 r)) ⊎ Later (visit_of 2 r) w (o1.after ++ o2.before) (o2.after ++ third_pass p) l coming
          → ((l ≡ o1.after ++ o2.before) × (w ≡ visit_of 2 r)) ⊎ (w ≡ visit_of 3 r)
      go (inl f) = inl f
      go (inr k) = third (from-third k.more k.rest_is)

  pub where-is : schedule p ≡ past ++ w ∷ coming → Where p r past w
  where-is e = go (locate r o1.before past
      (sym (append_assoc o1.before (visit_of 1 r ∷ o1.after) (second_pass p ++ third_pass p)) ∙ ap (λ vs. vs ++ (second_pass p ++ third_pass p)) (sym o1.is)
      ∙ sym (append_assoc (first_pass p) (second_pass p) (third_pass p)) ∙ e) o1.none_before itself)
    where
      second : (k : Later (visit_of 1 r) w o1.before (o1.after ++ (second_pass p ++ third_pass p)) past coming)
          → ((k.more ≡ o1.after ++ o2.before) × (w ≡ visit_of 2 r)) ⊎ (w ≡ visit_of 3 r) → Where p r past w
      second k (inl f) = at_second f.1 (record {
        earlier = o1.before;
        since = k.more;
        rest = o1.after;
        begun = o1.is;
        is = k.past_is;
        none_earlier = o1.none_before;
        none_since = subst (All (Other r)) (sym f.0) (all_append o1.none_after o2.none_before);
      })
      second k (inr f) = at-third (ap (λ (v : Visit). v.pass) f)

      go : ((past ≡ o1.before) × (w ≡ visit_of 1 r)) ⊎ Later (visit_of 1 r) w o1.before (o1.after ++ (second_pass p ++ third_pass p)) past coming → Where p r past w
      go (inl f) = at_first f.1 (subst (All (Other r)) (sym f.0) o1.none_before)
      go (inr k) = second k (from_second k.more k.rest_is)
