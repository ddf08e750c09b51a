-- Midway through a level: its first runs are visited, the others come next. Assumes nothing.
use Prim.Native.Nat.{ℕ, suc, ◌+◌, ◌-◌, ◌<◌, ◌≤◌}
use mathlib.Core.Path.{◌≡◌, refl, sym, ◌∙◌, ap, subst}
use mathlib.Core.Bool.{Bool}
use mathlib.Core.List.{List, [], ◌∷◌, ◌++◌, map, append_assoc, append-nil, map-append}
use native.Mathlib.Omega.{arith}
use lib.ListN.{length}
use lib.IntN.{ℤ}
use Rattle.plan.specs.Plan.{PlanData}
use Rattle.passes.specs.Runs.{Run, runs_on}
use Rattle.plan.proofs.All.{All, all_right, all_head}
use Rattle.plan.specs.inner.Levels.{first_on, size_on}
use Rattle.plan.proofs.Levels.{level-within}
use Rattle.passes.proofs.Sound.{sound}
use Rattle.passes.specs.inner.Runs.{IsRun}
use Rattle.passes.proofs.RunsOn.{runs-are}
use Rattle.passes.specs.inner.Schedule.{Visit, visit_of}
use Rattle.pass_tables.specs.inner.Tables.{next_via}
use Rattle.pass_tables.specs.inner.Moments.{Held, RunIs, Tables, AtVisit, AtLevel}
use Rattle.pass_visits.specs.inner.Visits.{Work, worked, AsksReadiness, Visiting, Visited, Levelling, LevelDone}
use Rattle.pass_tables.proofs.RunsAhead.{Ahead, all-ahead, NextRun, next-run, none_left}

pub record Midway (q from : ℕ) (k : Work) (m : AtLevel) : Type 0 where
  pub done : List Run
  pub rest : List Run
  pub split : runs_on m.plan m.level ≡ done ++ rest
  pub runs : Ahead m.plan m.level from rest
  pub held : Held m.plan (m.past ++ map (visit_of q) done) (map (visit_of q) rest ++ m.coming) k.at k.apart k.marks
  pub tables : AsksReadiness m.plan q m.level k.marks → Tables m.plan q m.level k.first k.ends k.before k.after k.counts k.marks

module _ {q start to : ℕ} {vias : List Bool} {k : Work} {x : AtLevel} (t : Levelling q start to vias k x) where
  abbrev p : PlanData
  p = x.plan

  abbrev past : List Visit
  past = x.past

  abbrev coming : List Visit
  coming = x.coming

  abbrev l : ℕ
  l = x.level

  abbrev first : List ℕ
  first = k.first

  abbrev ends : List ℕ
  ends = k.ends

  abbrev before : List ℕ
  before = k.before

  abbrev after : List ℕ
  after = k.after

  abbrev counts : List ℕ
  counts = k.counts

  pub level-inside : (to ≤ length vias) × (length vias ≤ 1024)
  level-inside = let so = sound p t.enter.held.ok in let e = ap length t.enter.kinds in
      (omega (arith, t.enter.stops, level-within p l, so.total), omega (arith, so.vertices))

  -- nothing is visited yet
  pub midway_start : Midway q start k x
  midway_start = record {
    done = [];
    rest = runs_on p l;
    split = refl;
    runs = subst (λ (v : ℕ). Ahead p l v (runs_on p l)) (sym t.enter.starts) (all-ahead p l);
    held = subst (λ (vs : List Visit). Held p vs (map (visit_of q) (runs_on p l) ++ coming) k.at k.apart k.marks) (sym (append-nil past)) t.enter.held;
    tables = t.tables;
  }

  module _ {from : ℕ} {at : List ℤ} {apart : List ℕ} {marks : List Bool}
      (m : Midway q from (worked k at apart marks) x) where
    abbrev before-it : List Visit
    before-it = past ++ map (visit_of q) m.done

    -- ---- the next visit
    module _ (h : from ≤ to) (end : ℕ) (e : end ≡ next_via vias from (to - from)) where
      pub next : NextRun p l from end m.rest
      next = subst (λ (v : ℕ). NextRun p l from v m.rest) (sym ends_at) (next-run p l m.runs (omega (arith, t.enter.stops)))
        where
          ends_at : end ≡ next_via p.vias from (first_on p l + size_on p l - from)
          ends_at = e ∙ ap (λ (vs : List Bool). next_via vs from (to - from)) t.enter.kinds ∙ ap (λ (v : ℕ). next_via p.vias from (v - from)) t.enter.stops

      is-run : IsRun p next.run
      is-run = all_head (subst (All (IsRun p)) next.is (all_right m.done m.rest (subst (All (IsRun p)) m.split (runs-are p l t.enter.one t.enter.many))))

      abbrev coming-then : List Visit
      coming-then = map (visit_of q) next.more ++ coming

      stands : RunIs p next.run start from end to
      stands = subst (λ (v : ℕ). RunIs p next.run v from end to) (sym t.enter.starts) (subst (λ (v : ℕ). RunIs p next.run (first_on p l) from end v) (sym t.enter.stops) (next.stands is-run))

      abbrev pub now-at : AtVisit
      now-at = record { plan = p; past = before-it; visit = visit_of q next.run; coming = coming-then }

      pub visiting : Visiting q start from end to (worked k at apart marks) now-at
      visiting = record {
        held = subst (λ (rs : List Run). Held p before-it (map (visit_of q) rs ++ coming) at apart marks) next.is m.held;
        pass = refl;
        run = stands;
        near = t.enter.near;
        tables = subst (λ (n : ℕ). AsksReadiness p q n marks → Tables p q n first ends before after counts marks) (sym next.level) m.tables;
      }

      -- ---- and after it
      past-then : before-it ++ visit_of q next.run ∷ [] ≡ past ++ map (visit_of q) (m.done ++ next.run ∷ [])
      past-then = append_assoc past (map (visit_of q) m.done) (visit_of q next.run ∷ []) ∙ ap (λ (vs : List Visit). past ++ vs) (sym (map-append (visit_of q) m.done (next.run ∷ [])))

      pub midway-next : {at' : List ℤ} {apart' : List ℕ} {marks' : List Bool}
          → Visited q (worked k at' apart' marks') now-at → Midway q (end + 1) (worked k at' apart' marks') x
      midway-next {at'} {apart'} {marks'} v = let f : suc end ≡ end + 1 = omega arith in record {
        done = m.done ++ next.run ∷ [];
        rest = next.more;
        split = m.split ∙ ap (λ (rs : List Run). m.done ++ rs) next.is ∙ sym (append_assoc m.done (next.run ∷ []) next.more);
        runs = subst (λ (i : ℕ). Ahead p l i next.more) f next.later;
        held = subst (λ (vs : List Visit). Held p vs coming-then at' apart' marks') past-then v.held;
        tables = subst (λ (n : ℕ). AsksReadiness p q n marks' → Tables p q n first ends before after counts marks') next.level v.tables;
      }

    -- ---- all are visited
    pub midway_end : to < from → LevelDone q at apart marks x
    midway_end h =
        let none : m.rest ≡ [] = none_left p l m.runs (omega (arith, t.enter.stops)) in
        let all : m.done ≡ runs_on p l = sym (append-nil m.done) ∙ ap (λ (rs : List Run). m.done ++ rs) (sym none) ∙ sym m.split in
        let held : Held p before-it coming at apart marks = subst (λ (rs : List Run). Held p before-it (map (visit_of q) rs ++ coming) at apart marks) none m.held in
        subst (λ (rs : List Run). Held p (past ++ map (visit_of q) rs) coming at apart marks) all held
