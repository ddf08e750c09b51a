-- What a visit leaves. Assumes nothing.
use Prim.Native.Nat.{ℕ, zero, suc, ◌-◌, ◌<◌, ◌≤◌}
use mathlib.Core.Path.{◌≡◌, refl, sym, ◌∙◌, ap, subst}
use mathlib.Core.Bool.{Bool, true, false, cond, not, ◌&&◌}
use mathlib.Core.List.{List, [], ◌∷◌, ◌++◌}
use native.Mathlib.Omega.{arith}
use borrow.Author.Tests.{lt-ltb, le-ltb}
use lib.Dec.{T, ltb}
use lib.ListN.{length, get_or, set, length-set}
use lib.IntN.{ℤ}
use Rattle.ints.proofs.Laws.{cases}
use Rattle.plan.specs.Plan.{PlanData}
use Rattle.passes.specs.inner.Schedule.{Visit}
use Rattle.pass_tables.specs.inner.Moments.{state_after, Neighbouring, Tables, AtVisit, Placing, Unsettled}
use Rattle.pass_tables.proofs.RunEnds.{left-on}
use Rattle.pass_tables.proofs.Due.{and_no, left-none, left-some, right-none, open-left, open-right}
use Rattle.pass_tables.proofs.Settle.{whole-next, held-skipped, open_kept, bounded-settled}
use Rattle.pass_tables.proofs.TablesKept.{tables-settled}
use Rattle.pass_visits.specs.inner.Visits.{Work, worked, AsksReadiness, Visiting, Asking, Visited, is_due_at, settled}
use Rattle.pass_visits.proofs.DueLaws.{order, not-due, is-due}

-- ---- the marks
module _ (start from end to : ℕ) (marks : List Bool) where
  pub settled-bounded : start < from → end < to → set marks (from - 1) false ≡ settled start from end to marks
  settled-bounded h k = rw (lt-ltb start from h, lt-ltb end to k)

  pub settled-first : from ≤ start → marks ≡ settled start from end to marks
  settled-first h = rw (le-ltb start from h)

  pub settled-last : to ≤ end → marks ≡ settled start from end to marks
  settled-last h = rw (le-ltb end to h, and_no (ltb start from))

  pub settled-length : length (settled start from end to marks) ≡ length marks
  settled-length = go (ltb start from && ltb end to)
    where
      go : (t : Bool) → length (cond t (set marks (from - 1) false) marks) ≡ length marks
      go true = length-set marks (from - 1) false
      go false = refl

-- who asks after a mark is taken away asked before
unset : (marks : List Bool) (i v : ℕ) → get_or (set marks i false) v false ≡ true → get_or marks v false ≡ true
unset [] i v e = e
unset (t ∷ ts) zero zero e = absurd (subst T (sym e) tt)
unset (t ∷ ts) zero (suc v) e = e
unset (t ∷ ts) (suc i) zero e = e
unset (t ∷ ts) (suc i) (suc v) e = unset ts i v e

asked-before : {p : PlanData} {q l : ℕ} {marks : List Bool} (i : ℕ) → AsksReadiness p q l (set marks i false) → AsksReadiness p q l marks
asked-before {marks = marks} i a = record { not_third = a.not_third; via = a.via; on = a.on; unsettled = unset marks i a.via a.unsettled }

pub asking : {q start from end to : ℕ} {k : Work} {m : AtVisit} → Visiting q start from end to k m → Asking q start from end to k.before k.after k.counts k.marks m
asking {k = k} v = record { first = k.first; ends = k.ends; sums = k.sums; at = k.at; apart = k.apart; is = v }

module _ {q start from end to : ℕ} {k : Work} {m : AtVisit} (v : Visiting q start from end to k m) {r : Bool} (e : r ≡ is_due_at q m) where
  abbrev p : PlanData
  p = m.plan

  abbrev past : List Visit
  past = m.past

  abbrev w : Visit
  w = m.visit

  abbrev first : List ℕ
  first = k.first

  abbrev ends : List ℕ
  ends = k.ends

  abbrev before : List ℕ
  before = k.before

  abbrev after : List ℕ
  after = k.after

  abbrev counts : List ℕ
  counts = k.counts

  abbrev marks : List Bool
  marks = k.marks

  -- ---- a run that is not due
  pub visit-skipped : not r ≡ true → Visited q k m
  visit-skipped t = record { held = held-skipped v.held (not-due v e t); tables = v.tables }

  -- ---- one that is
  module _ (t : not r ≡ false) where
    pub placing : Placing start from end to first ends k.sums k.at k.apart m
    placing = record {
      ok = v.held.ok;
      whole = v.held.whole;
      places = v.held.places;
      distances = v.held.distances;
      run = v.run;
      near = subst (λ (n : ℕ). Neighbouring p n first ends k.sums) (sym v.pass) v.near;
      due = is-due v e t;
    }

    -- the marks then
    record Kept (marks' : List Bool) : Type 0 where
      pub unsettled : Unsettled p (state_after p (past ++ w ∷ [])) marks'
      pub tables : AsksReadiness p q w.run.level marks' → Tables p q w.run.level first ends before after counts marks'

    kept : Kept (settled start from end to marks)
    kept = cases from start
        (λ h. subst Kept (settled-first start from end to marks h)
        (record { unsettled = open_kept v.held (open-left w.run (left-none v.run (omega (arith, order v)))); tables = v.tables }))
        (λ h. cases to end
        (λ i. subst Kept (settled-last start from end to marks i)
        (record { unsettled = open_kept v.held (open-right w.run (right-none v.run (omega (arith, order v)))); tables = v.tables }))
        (λ i. subst Kept (settled-bounded start from end to marks h i) (record {
          unsettled = bounded-settled v.held (is-due v e t) (from - 1) (left-some v.run h);
          tables = λ a. tables-settled (v.tables (asked-before (from - 1) a)) (from - 1) (left-on v.run.is (from - 1) (left-some v.run h));
        })))

    pub visit-placed : (at' : List ℤ) (apart' : List ℕ) (marks' : List Bool) → at' ≡ (state_after p (past ++ w ∷ [])).at → apart' ≡ (state_after p (past ++ w ∷ [])).apart
        → marks' ≡ settled start from end to marks → Visited q (worked k at' apart' marks') m
    visit-placed at' apart' marks' f g h = let then : Kept marks' = subst Kept (sym h) kept in record {
      held = record {
        ok = v.held.ok;
        whole = whole-next v.held;
        places = f;
        distances = g;
        long = ap length h ∙ settled-length start from end to marks ∙ v.held.long;
        unsettled = then.unsettled;
      };
      tables = then.tables;
    }
