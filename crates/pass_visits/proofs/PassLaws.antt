-- A pass between two of its levels. Assumes nothing.
use Prim.Native.Nat.{ℕ, suc, ◌+◌, ◌-◌, ◌<◌, ◌≤◌}
use mathlib.Core.Path.{◌≡◌, refl, sym, ◌∙◌, ap, subst}
use mathlib.Core.Bool.{Bool}
use mathlib.Core.List.{List, [], ◌∷◌, ◌++◌, map, append_assoc, append-nil}
use native.Mathlib.Omega.{arith}
use lib.ListN.{length, get_or, take, drop, drop_of_length-le}
use lib.Seq.{drop-cons, take-suc, take_all}
use lib.IntN.{ℤ}
use Rattle.ints.proofs.Laws.{cases}
use Rattle.pass_neighbours.proofs.OrderLaws.{turn_at, turn-length, turn_small, turn_up, turn-down}
use Rattle.plan.specs.Plan.{PlanData, vertex_count}
use Rattle.plan.proofs.CountLaws.{by-same}
use Rattle.passes.specs.Runs.{runs_on}
use Rattle.plan.specs.inner.Levels.{first_on, size_on}
use Rattle.plan.proofs.Levels.{level-within}
use Rattle.passes.proofs.Sound.{Sound, sound}
use Rattle.passes.specs.inner.Schedule.{Visit, visit_of, pass_visits}
use Rattle.pass_tables.specs.inner.Moments.{Held, Range, AtLevel, AtPass}
use Rattle.pass_visits.specs.inner.Visits.{LevelDone}
use Rattle.pass_visits.specs.inner.Passing.{PassWork, pass_work, LevelNext, PassNext, PassDone}
use Rattle.pass_tables.proofs.JoinedLevels.{range-down, range-top, range-up, range-bottom, first_next}
use Rattle.pass_neighbours.specs.inner.Order.{in_turn, turn_of}

visits-snoc : (p : PlanData) (q : ℕ) (ls : List ℕ) (l : ℕ) → pass_visits p q (ls ++ l ∷ []) ≡ pass_visits p q ls ++ map (visit_of q) (runs_on p l)
unfolding pass_visits
visits-snoc p q [] l = append-nil (map (visit_of q) (runs_on p l))
visits-snoc p q (k ∷ ls) l = ap (λ (vs : List Visit). map (visit_of q) (runs_on p k) ++ vs) (visits-snoc p q ls l)
    ∙ sym (append_assoc (map (visit_of q) (runs_on p k)) (pass_visits p q ls) (map (visit_of q) (runs_on p l)))

-- ---- after k levels; the last of them stands from `low` up to `high`
pub record Turned (q k low high : ℕ) (at : List ℤ) (apart : List ℕ) (marks : List Bool) (m : AtPass) : Type 0 where
  pub held : Held m.plan (m.past ++ pass_visits m.plan q (take k (in_turn q m.plan))) (pass_visits m.plan q (drop k (in_turn q m.plan)) ++ m.coming) at apart marks
  pub none : k ≡ 0 → low ≡ high
  pub last : (j : ℕ) → k ≡ suc j → (low ≡ first_on m.plan (suc (turn_of q j m.plan.levels))) × (high ≡ first_on m.plan (suc (turn_of q j m.plan.levels)) + size_on m.plan (suc (turn_of q j m.plan.levels)))
  pub within : high ≤ vertex_count m.plan

module _ {q : ℕ} {starts : List ℕ} {vias : List Bool} {w : PassWork} {m : AtPass} (x : PassNext q starts vias w m) where
  abbrev p : PlanData
  p = m.plan

  abbrev past : List Visit
  past = m.past

  abbrev coming : List Visit
  coming = m.coming

  so : Sound p
  so = sound p x.held.ok

  pub starts-many : (length starts ≡ suc p.levels) × (p.levels ≤ 64)
  starts-many = (x.starts_are.many, so.levels)

  pub turned-start : Turned q 0 0 0 w.at w.apart w.marks m
  unfolding pass_visits
  turned-start = record {
    held = subst (λ (vs : List Visit). Held p vs (pass_visits p q (in_turn q p) ++ coming) w.at w.apart w.marks) (sym (append-nil past)) x.held;
    none = λ e. refl;
    last = λ j e. absurd (omega arith);
    within = omega arith;
  }

  module _ {k low high : ℕ} {at : List ℤ} {apart : List ℕ} {marks : List Bool} (t : Turned q k low high at apart marks m) where
    pub turned-end : p.levels ≤ k → k ≤ p.levels → PassDone q at apart marks m
    unfolding pass_visits
    turned-end h g =
        let e : k ≡ length (in_turn q p) = omega (arith, turn-length q p) in
        let a : take k (in_turn q p) ≡ in_turn q p = take_all k (in_turn q p) (omega arith) in
        let b : drop k (in_turn q p) ≡ [] = drop_of_length-le (in_turn q p) {i = k} (omega arith) in
        subst (λ (ls : List ℕ). Held p (past ++ pass_visits p q ls) coming at apart marks) a
        (subst (λ (ls : List ℕ). Held p (past ++ pass_visits p q (take k (in_turn q p))) (pass_visits p q ls ++ coming) at apart marks) b t.held)

    module _ (h : k < p.levels) (start to : ℕ) (e : start ≡ get_or starts (turn_of q k p.levels) 0) (f : to ≡ get_or starts (turn_of q k p.levels + 1) 0) where
      abbrev l : ℕ
      l = suc (turn_of q k p.levels)

      starts-at : start ≡ first_on p l
      starts-at = e ∙ x.starts_are.each (turn_of q k p.levels) (omega (arith, turn_small q k p.levels h))

      ends_at : to ≡ first_on p l + size_on p l
      ends_at = let z : turn_of q k p.levels + 1 ≡ suc (turn_of q k p.levels) = omega arith in
          f ∙ ap (λ (n : ℕ). get_or starts n 0) z ∙ x.starts_are.each (suc (turn_of q k p.levels)) (omega (arith, turn_small q k p.levels h)) ∙ first_next p l (omega arith)

      range : Range p q l low high
      range = by-same q 2
          (λ two. cases k 0
          (λ i. range-bottom p x.held.ok q l low high (omega arith) two (omega (arith, turn_up q k p.levels two)) (t.none (omega arith)))
          (λ i. let j = k - 1 in let y : k ≡ suc j = omega arith in let v = t.last j y in
          let z : suc (turn_of q j p.levels) ≡ suc l = omega (arith, turn_up q k p.levels two, turn_up q j p.levels two) in
          range-up p x.held.ok q l low high (omega arith) two (omega (arith, v.0, ap (first_on p) z, first_next p l (omega arith))) (omega (arith, v.0, v.1, ap (size_on p) z))))
          (λ two. cases k 0
          (λ i. range-top p x.held.ok q l low high (omega arith) two (omega (arith, turn-down q k p.levels two)) (t.none (omega arith)))
          (λ i. let j = k - 1 in let y : k ≡ suc j = omega arith in let v = t.last j y in
          let z : suc (turn_of q j p.levels) ≡ l - 1 = omega (arith, turn-down q k p.levels two, turn-down q j p.levels two) in
          let u : suc (l - 1) ≡ l = omega arith in
          range-down p x.held.ok q l low high (omega arith) two (omega (arith, turn-down q k p.levels two)) (v.0 ∙ ap (first_on p) z)
          (omega (arith, v.1, ap (first_on p) z, ap (size_on p) z, ap (first_on p) u, first_next p (l - 1) (omega (arith, turn-down q k p.levels two))))))

      rest_is : drop k (in_turn q p) ≡ l ∷ drop (suc k) (in_turn q p)
      rest_is = drop-cons (in_turn q p) k 0 (omega (arith, turn-length q p)) ∙ ap (λ (n : ℕ). n ∷ drop (suc k) (in_turn q p)) (turn_at q p k h)

      abbrev pub at_level : AtLevel
      at_level = record { plan = p; past = past ++ pass_visits p q (take k (in_turn q p)); level = l; coming = pass_visits p q (drop (suc k) (in_turn q p)) ++ coming }

      pub level-next : LevelNext q low high start to vias (pass_work w.first w.ends w.sums at apart marks) at_level
      unfolding pass_visits
      level-next = record {
        enter = record {
          held = subst (λ (vs : List Visit). Held p (past ++ pass_visits p q (take k (in_turn q p))) vs at apart marks)
              (ap (λ (ls : List ℕ). pass_visits p q ls ++ coming) rest_is ∙ append_assoc (map (visit_of q) (runs_on p l)) (pass_visits p q (drop (suc k) (in_turn q p))) coming) t.held;
          kinds = x.vias_are;
          one = omega arith;
          many = omega (arith, turn_small q k p.levels h);
          starts = starts-at;
          stops = ends_at;
          near = x.near;
        };
        range = range;
        within = t.within;
      }

      pub turned-next : {at' : List ℤ} {apart' : List ℕ} {marks' : List Bool}
          → LevelDone q at' apart' marks' at_level → Turned q (k + 1) start to at' apart' marks' m
      turned-next {at'} {apart'} {marks'} y =
          let i : suc k ≡ k + 1 = omega arith in
          let ls = in_turn q p in
          let more : take (suc k) ls ≡ take k ls ++ l ∷ [] = take-suc ls k 0 (omega (arith, turn-length q p)) ∙ ap (λ (n : ℕ). take k ls ++ n ∷ []) (turn_at q p k h) in
          let z : (past ++ pass_visits p q (take k ls)) ++ map (visit_of q) (runs_on p l) ≡ past ++ pass_visits p q (take (suc k) ls) =
          append_assoc past (pass_visits p q (take k ls)) (map (visit_of q) (runs_on p l)) ∙ ap (λ (vs : List Visit). past ++ vs) (sym (ap (pass_visits p q) more ∙ visits-snoc p q (take k ls) l)) in
          record {
            held = subst (λ (n : ℕ). Held p (past ++ pass_visits p q (take n ls)) (pass_visits p q (drop n ls) ++ coming) at' apart' marks') i
                (subst (λ (vs : List Visit). Held p vs (pass_visits p q (drop (suc k) ls) ++ coming) at' apart' marks') z y);
            none = λ z. absurd (omega arith);
            last = λ j z. let u : k ≡ j = omega arith in
                (starts-at ∙ ap (λ (n : ℕ). first_on p (suc (turn_of q n p.levels))) u, ends_at ∙ ap (λ (n : ℕ). first_on p (suc (turn_of q n p.levels)) + size_on p (suc (turn_of q n p.levels))) u);
            within = omega (arith, ends_at, level-within p l, so.total);
          }
