-- Readiness as the tables tell it is the definition's: the nearest joined vias are those in the tables, they stand in the order of
-- the run's bounds since inner segments do not cross, and the runs between them are settled if none is marked. Assumes nothing.
use Prim.Native.Nat.{ℕ, zero, suc, ◌+◌, ◌-◌, ◌<◌, ◌≤◌}
use mathlib.Core.Path.{◌≡◌, refl, sym, ◌∙◌, ap, subst}
use mathlib.Core.Bool.{Bool, true, false, cond}
use mathlib.Core.List.{List}
use mathlib.Core.Logic.{⊎_elim}
use mathlib.Core.Option.{Option, none, some}
use native.Mathlib.Omega.{arith}
use borrow.Author.Tests.{leb-true, eq-eqb, ne_eqb, eqb-true}
use lib.Dec.{eqb, leb}
use lib.ListN.{length, get_or}
use Rattle.ints.proofs.Laws.{if-ind, cases}
use Rattle.plan.specs.Plan.{PlanData, vertex_count, level_of, level_at, numbers}
use Rattle.plan.specs.Acceptable.{acceptable}
use Rattle.plan.specs.inner.Graph.{segment}
use Rattle.plan.proofs.CountLaws.{by-same}
use Rattle.plan.proofs.Sound.{sound as sound-plan}
use Rattle.passes.specs.Runs.{Run}
use Rattle.passes.specs.State.{State}
use Rattle.passes.specs.Ready.{joined_via, or_else, nearest_left, nearest_right, settled_between, both_settled, ready_from, is_ready}
use Rattle.plan.proofs.All.{no_true}
use Rattle.plan.specs.inner.Levels.{first_on, size_on, On}
use Rattle.plan.proofs.Levels.{level-is, level-on, level-within}
use Rattle.passes.proofs.Sound.{Sound, sound, via-vertex}
use Rattle.passes.specs.inner.Runs.{IsRun}
use Rattle.passes.proofs.RunsOn.{left-via, right-via}
use Rattle.passes.proofs.Edges.{left_at, right-at}
use Rattle.passes.proofs.Options.{or_cases, never}
use Rattle.pass_tables.specs.inner.Joins.{no_vertex, joined_at, marked_in, ready_by, or_none}
use Rattle.pass_tables.proofs.Neighbours.{joined_is}
use Rattle.pass_tables.proofs.Nearest.{left_is, right_is}
use Rattle.pass_tables.proofs.Between.{none_between, same-between}
use Rattle.pass_tables.proofs.SettledMarks.{unmarked-settled, settled-unmarked}
use Rattle.pass_tables.specs.inner.Moments.{Neighbouring, Tables, Unsettled}
use Rattle.pass_tables.proofs.RunEnds.{left-on, right-on}
use Rattle.pass_tables.proofs.JoinedLevels.{joined_to, joined-has, joined-many, joined-above, joined-below}

-- ---- the via on the run's level, of the n from c on, that the nearest w is joined to
record Found (p : PlanData) (q c n w : ℕ) (Q : ℕ → Type 0) : Type 0 where
  pub via : ℕ
  pub from : c ≤ via
  pub to : via < c + n
  pub side : Q via
  pub joined : joined_via p q via ≡ some w

found_here : {p : PlanData} {q : ℕ} (c n w : ℕ) {Q : ℕ → Type 0} → Q c → joined_via p q c ≡ some w → Found p q c (suc n) w Q
found_here c n w s j = record { via = c; from = omega arith; to = omega arith; side = s; joined = j }

found-more : {p : PlanData} {q : ℕ} (c n w : ℕ) {Q : ℕ → Type 0} → Found p q (c + 1) n w Q → Found p q c (suc n) w Q
found-more c n w g = record { via = g.via; from = omega (arith, g.from); to = omega (arith, g.to); side = g.side; joined = g.joined }

module _ (p : PlanData) (q bound : ℕ) where
  found_left : (c n w : ℕ) → nearest_left p q bound (numbers c n) ≡ some w → Found p q c n w (λ v. v ≤ bound)
  unfolding nearest_left numbers
  found_left c zero w e = never w e
  found_left c (suc n) w e = if-ind (leb c bound) (or_else (nearest_left p q bound (numbers (c + 1) n)) (joined_via p q c)) none (λ o. o ≡ some w → Found p q c (suc n) w (λ v. v ≤ bound))
      (λ t f. ⊎_elim (λ g. found-more c n w (found_left (c + 1) n w g)) (λ g. found_here c n w (leb-true c bound t) g) (or_cases (nearest_left p q bound (numbers (c + 1) n)) (joined_via p q c) w f))
      (λ t f. never w f) e

  found_right : (c n w : ℕ) → nearest_right p q bound (numbers c n) ≡ some w → Found p q c n w (λ v. bound ≤ v)
  unfolding nearest_right numbers
  found_right c zero w e = never w e
  found_right c (suc n) w e = if-ind (leb bound c) (or_else (joined_via p q c) (nearest_right p q bound (numbers (c + 1) n))) (nearest_right p q bound (numbers (c + 1) n))
      (λ o. o ≡ some w → Found p q c (suc n) w (λ v. bound ≤ v))
      (λ t f. ⊎_elim (λ g. found_here c n w (leb-true bound c t) g) (λ g. found-more c n w (found_right (c + 1) n w g)) (or_cases (joined_via p q c) (nearest_right p q bound (numbers (c + 1) n)) w f))
      (λ t f. found-more c n w (found_right (c + 1) n w f)) e

-- ---- vias joined to two on one level keep their order
joined-order : (p : PlanData) → acceptable p ≡ true → (q l v v' u w : ℕ) → 1 ≤ l → On p l v → On p l v' → v < v' → joined_via p q v ≡ some u → joined_via p q v' ≡ some w
    → (level_of p u ≡ level_of p w) × (u ≤ w)
joined-order p ok q l v v' u w one o o' h e f =
    let x = joined_to p q v u e in
    let y = joined_to p q v' w f in
    let cross = (sound-plan p ok).uncrossed in
    by-same q 2
    (λ z. (
      joined-below p ok q l v u one o e z ∙ sym (joined-below p ok q l v' w one o' f z),
      cross (segment v u) (segment v' w) (x.up z) (y.up z) (level-on p l v one o ∙ sym (level-on p l v' one o')) h,
    ))
    (λ z. let same : level_of p u ≡ level_of p w = omega (arith, joined-above p ok q l v u one o e z, joined-above p ok q l v' w one o' f z) in
    (same, cases u w (λ k. k) (λ k. absurd (omega (arith, cross (segment w v') (segment u v) (y.down z) (x.down z) (sym same) k)))))

bool_same : (a b : Bool) → (a ≡ true → b ≡ true) → (b ≡ true → a ≡ true) → a ≡ b
bool_same true b f g = sym (f refl)
bool_same false true f g = no_true (g refl)
bool_same false false f g = refl

-- both w's, by their numbers, and the marks before them
abbrev ready_of : List ℕ → ℕ → ℕ → Bool
ready_of counts u w = cond (eqb u no_vertex) false (cond (eqb w no_vertex) false (eqb (get_or counts u 0) (get_or counts w 0)))

module _ {p : PlanData} (ok : acceptable p ≡ true) {q : ℕ} {first ends sums : List ℕ} (near : Neighbouring p q first ends sums) {r : Run} (i : IsRun p r)
    {before after counts : List ℕ} {marks : List Bool} (t : Tables p q r.level first ends before after counts marks)
    (a b : ℕ) (left : r.left ≡ some a) (right : r.right ≡ some b) where
  so : Sound p
  so = sound p ok

  abbrev vs : List ℕ
  vs = level_at p r.level

  joins : (v : ℕ) → v < vertex_count p → or_none (joined_via p q v) ≡ joined_at p.vias first ends v
  joins v h = joined_is so q near.preceding near.rows v (omega (arith, near.long))

  top : first_on p r.level + size_on p r.level ≤ vertex_count p
  top = omega (arith, level-within p r.level, so.total)

  before-is : get_or before a 0 ≡ or_none (nearest_left p q a vs)
  before-is = let o = left-on i a left in
      t.left a o ∙ sym (left_is so q (joined_at p.vias first ends) (vertex_count p) joins a (first_on p r.level) (size_on p r.level) top o.from o.to)
      ∙ ap (λ (l : List ℕ). or_none (nearest_left p q a l)) (sym (level-is p r.level))

  after_is : get_or after b 0 ≡ or_none (nearest_right p q b vs)
  after_is = let o = right-on i b right in
      t.right b o ∙ sym (right_is so q (joined_at p.vias first ends) (vertex_count p) joins b (first_on p r.level) (size_on p r.level) top o.from o.to)
      ∙ ap (λ (l : List ℕ). or_none (nearest_right p q b l)) (sym (level-is p r.level))

  left-found : (u : ℕ) → nearest_left p q a vs ≡ some u → Found p q (first_on p r.level) (size_on p r.level) u (λ v. v ≤ a)
  left-found u e = found_left p q a (first_on p r.level) (size_on p r.level) u (ap (nearest_left p q a) (sym (level-is p r.level)) ∙ e)

  right-found : (w : ℕ) → nearest_right p q b vs ≡ some w → Found p q (first_on p r.level) (size_on p r.level) w (λ v. b ≤ v)
  right-found w e = found_right p q b (first_on p r.level) (size_on p r.level) w (ap (nearest_right p q b) (sym (level-is p r.level)) ∙ e)

  small : {Q : ℕ → Type 0} (c n u : ℕ) → Found p q c n u Q → u < vertex_count p
  small c n u g = via-vertex p u (joined_to p q g.via u g.joined).far

  -- what the program asks before it reads the tables
  pub left-inside : a < length before
  left-inside = omega (arith, t.lefts, via-vertex p a (left-via i a left))

  pub right-inside : b < length after
  right-inside = omega (arith, t.rights, via-vertex p b (right-via i b right))

  pub before-inside : (get_or before a 0 ≡ no_vertex → ⊥) → get_or before a 0 < length counts
  before-inside n = go (nearest_left p q a vs) refl
    where
      go : (o : Option ℕ) → nearest_left p q a vs ≡ o → get_or before a 0 < length counts
      go none e = absurd (n (before-is ∙ ap or_none e))
      go (some u) e = omega (arith, before-is ∙ ap or_none e, small _ _ u (left-found u e), t.numbers)

  pub after-inside : (get_or after b 0 ≡ no_vertex → ⊥) → get_or after b 0 < length counts
  after-inside n = go (nearest_right p q b vs) refl
    where
      go : (o : Option ℕ) → nearest_right p q b vs ≡ o → get_or after b 0 < length counts
      go none e = absurd (n (after_is ∙ ap or_none e))
      go (some w) e = omega (arith, after_is ∙ ap or_none e, small _ _ w (right-found w e), t.numbers)

  module _ {s : State} (m : Unsettled p s marks) where
    between : (u w : ℕ) → nearest_left p q a vs ≡ some u → nearest_right p q b vs ≡ some w → settled_between p s u w ≡ eqb (get_or counts u 0) (get_or counts w 0)
    between u w e f =
        let x = left-found u e in
        let y = right-found w f in
        let ox : On p r.level x.via = record { from = x.from; to = x.to } in
        let oy : On p r.level y.via = record { from = y.from; to = y.to } in
        let apart : x.via < y.via = omega (arith, x.side, y.side, left_at a i.begins left, right-at b i.ends right) in
        let order = joined-order p ok q r.level x.via y.via u w i.one ox oy apart x.joined y.joined in
        let l = level_of p u in
        let hu = joined-has p ok q r.level x.via u i.one ox x.joined in
        let hw = joined-has p ok q r.level y.via w i.one oy y.joined in
        let many = joined-many p ok q r.level x.via u i.one ox x.joined in
        let ow : On p l w = subst (λ (k : ℕ). On p k w) (sym order.0) hw.on in
        let low = t.low in
        let range = t.range.joined x.via u ox x.joined in
        let cu : get_or counts u 0 ≡ marked_in marks low (u - low) = t.counted u (omega (arith, range.0, hu.on.from)) (omega (arith, range.1, hu.on.to)) in
        let cw : get_or counts w 0 ≡ marked_in marks low (w - low) = t.counted w (omega (arith, range.0, ow.from)) (omega (arith, range.1, ow.to)) in
        let c : low ≤ u = omega (arith, range.0, hu.on.from) in
        bool_same (settled_between p s u w) (eqb (get_or counts u 0) (get_or counts w 0))
        (λ z. eq-eqb _ _ (cu ∙ same-between marks low u w c order.1
        (settled-unmarked m l u w hu.one many hu.on ow (joined_to p q y.via w y.joined).far z) ∙ sym cw))
        (λ z. unmarked-settled m l u w hu.one many hu.on ow
        (none_between marks low u w c order.1 (sym cu ∙ eqb-true (get_or counts u 0) (get_or counts w 0) z ∙ cw)))

    both_is : (x y : Option ℕ) → nearest_left p q a vs ≡ x → nearest_right p q b vs ≡ y → both_settled p s x y ≡ ready_of counts (or_none x) (or_none y)
    both_is none y e f = refl
    both_is (some u) none e f = rw (ne_eqb u 2048 (λ z. omega (arith, small _ _ u (left-found u e), so.vertices)))
    both_is (some u) (some w) e f = rw (ne_eqb u 2048 (λ z. omega (arith, small _ _ u (left-found u e), so.vertices)), ne_eqb w 2048 (λ z. omega (arith, small _ _ w (right-found w f), so.vertices)))
        (between u w e f)

    pub ready-is : is_ready p q s r ≡ ready_by before after counts a b
    unfolding is_ready
    ready-is = ap (λ (o : Option ℕ). ready_from p q s vs o r.right) left ∙ ap (λ (o : Option ℕ). ready_from p q s vs (some a) o) right
        ∙ both_is (nearest_left p q a vs) (nearest_right p q b vs) refl refl
        ∙ ap (λ (u : ℕ). ready_of counts u (or_none (nearest_right p q b vs))) (sym before-is) ∙ ap (ready_of counts (get_or before a 0)) (sym after_is)
