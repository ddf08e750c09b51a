-- Whether the next visit places its run, as the program tests it. Assumes nothing.
use Prim.Native.Nat.{ℕ, ◌-◌, ◌<◌}
use mathlib.Core.Path.{◌≡◌, sym, ◌∙◌, ap}
use mathlib.Core.Bool.{Bool, true, false, not, ◌&&◌}
use mathlib.Core.List.{List}
use mathlib.Core.Option.{some}
use borrow.Author.Tests.{not-true, not-false, eq-eqb}
use lib.Dec.{eqb}
use lib.ListN.{get_or}
use Rattle.plan.specs.Plan.{PlanData}
use Rattle.plan.proofs.CountLaws.{by-same}
use Rattle.passes.specs.Ready.{is_ready}
use Rattle.passes.specs.Passes.{is_due}
use Rattle.passes.proofs.Sound.{sound}
use Rattle.passes.specs.inner.Schedule.{Visit}
use Rattle.pass_tables.specs.inner.Joins.{Readable, ready_by}
use Rattle.pass_tables.specs.inner.Moments.{state_after, AtVisit}
use Rattle.pass_tables.proofs.RunEnds.{left-on}
use Rattle.pass_tables.proofs.Due.{InOrder, left-none, left-some, right-none, right-some, in_order, due-left, due-right, due-third, due-ready}
use Rattle.pass_tables.proofs.ReadyLaws.{left-inside, right-inside, before-inside, after-inside, ready-is}
use Rattle.pass_visits.specs.inner.Visits.{Work, AsksReadiness, Visiting}

module _ {q start from end to : ℕ} {k : Work} {m : AtVisit} (v : Visiting q start from end to k m) where
  abbrev p : PlanData
  p = m.plan

  abbrev past : List Visit
  past = m.past

  abbrev w : Visit
  w = m.visit

  abbrev before : List ℕ
  before = k.before

  abbrev after : List ℕ
  after = k.after

  abbrev counts : List ℕ
  counts = k.counts

  abbrev marks : List Bool
  marks = k.marks

  pub order : InOrder p start from end to
  order = in_order v.run (sound p v.held.ok)

  -- as the program has found it out
  module _ {r : Bool} (e : r ≡ is_due p q (state_after p past) w.run) where
    due-is : is_due p w.pass (state_after p past) w.run ≡ r
    due-is = ap (λ (n : ℕ). is_due p n (state_after p past) w.run) v.pass ∙ sym e

    pub not-due : not r ≡ true → is_due p w.pass (state_after p past) w.run ≡ false
    not-due t = due-is ∙ not-true r t

    pub is-due : not r ≡ false → is_due p w.pass (state_after p past) w.run ≡ true
    is-due t = due-is ∙ not-false r t

  -- an open run
  pub due-first : from ≡ start → not (eqb q 3) ≡ is_due p q (state_after p past) w.run
  due-first e = sym (due-left p q (state_after p past) w.run (left-none v.run e))

  pub due-last : end ≡ to → not (eqb q 3) ≡ is_due p q (state_after p past) w.run
  due-last e = sym (due-right p q (state_after p past) w.run (right-none v.run e))

  -- a bounded one
  module _ (h : start < from) (g : end < to) where
    left_is : w.run.left ≡ some (from - 1)
    left_is = left-some v.run h

    right_is : w.run.right ≡ some end
    right_is = right-some v.run g

    pub due-never : get_or marks (from - 1) false ≡ false → false ≡ is_due p q (state_after p past) w.run
    due-never e = sym (by-same q 3
        (λ z. due-third v.held.unsettled v.run.is (from - 1) end left_is right_is q z ∙ e)
        (λ n. due-ready v.held.unsettled v.run.is (from - 1) end left_is right_is q n ∙ ap (λ (t : Bool). t && is_ready p q (state_after p past) w.run) e))

    pub due-in-third : get_or marks (from - 1) false ≡ true → q ≡ 3 → eqb q 3 ≡ is_due p q (state_after p past) w.run
    due-in-third e z = eq-eqb q 3 z ∙ sym e ∙ sym (due-third v.held.unsettled v.run.is (from - 1) end left_is right_is q z)

    asks : get_or marks (from - 1) false ≡ true → (q ≡ 3 → ⊥) → AsksReadiness p q w.run.level marks
    asks e n = record { not_third = n; via = from - 1; on = left-on v.run.is (from - 1) left_is; unsettled = e }

    pub due-if-ready : get_or marks (from - 1) false ≡ true → (q ≡ 3 → ⊥) → ready_by before after counts (from - 1) end ≡ is_due p q (state_after p past) w.run
    due-if-ready e n = sym (due-ready v.held.unsettled v.run.is (from - 1) end left_is right_is q n
        ∙ ap (λ (t : Bool). t && is_ready p q (state_after p past) w.run) e
        ∙ ready-is v.held.ok v.near v.run.is (v.tables (asks e n)) (from - 1) end left_is right_is v.held.unsettled)

    pub may-ask : get_or marks (from - 1) false ≡ true → (q ≡ 3 → ⊥) → Readable before after counts (from - 1) end
    may-ask e n = let t = v.tables (asks e n) in (
      left-inside v.held.ok v.near v.run.is t (from - 1) end left_is right_is,
      right-inside v.held.ok v.near v.run.is t (from - 1) end left_is right_is,
      before-inside v.held.ok v.near v.run.is t (from - 1) end left_is right_is,
      after-inside v.held.ok v.near v.run.is t (from - 1) end left_is right_is,
    )
