-- Coming to a level: its tables can be made, and what is made tells which runs are ready. Assumes nothing.
use Prim.Native.Nat.{ℕ, ◌<◌, ◌≤◌}
use mathlib.Core.Path.{◌≡◌, ◌∙◌, ap}
use mathlib.Core.Bool.{Bool, true, false}
use mathlib.Core.List.{List}
use native.Mathlib.Omega.{arith}
use lib.ListN.{length, get_or}
use Rattle.plan.specs.Plan.{PlanData}
use Rattle.plan.proofs.Levels.{level-within}
use Rattle.passes.proofs.Sound.{Sound, sound}
use Rattle.pass_tables.specs.inner.Joins.{Joinable}
use Rattle.pass_tables.proofs.Near.{joinable}
use Rattle.pass_tables.specs.inner.Moments.{AtLevel}
use Rattle.pass_visits.specs.inner.Visits.{work, Levelling}
use Rattle.pass_visits.specs.inner.Passing.{PassWork, TablesMade, LevelNext}

module _ {q low high start to : ℕ} {vias : List Bool} {w : PassWork} {m : AtLevel} (k : LevelNext q low high start to vias w m) where
  abbrev p : PlanData
  p = m.plan

  abbrev l : ℕ
  l = m.level

  abbrev first : List ℕ
  first = w.first

  abbrev ends : List ℕ
  ends = w.ends

  abbrev marks : List Bool
  marks = w.marks

  so : Sound p
  so = sound p k.enter.held.ok

  pub level-fits : (to ≤ 1024) × (to ≤ length vias)
  level-fits = let e = ap length k.enter.kinds in (omega (arith, k.enter.stops, level-within p l, so.total, so.vertices), omega (arith, k.enter.stops, level-within p l, so.total))

  pub marks-fit : (high ≤ 1024) × (high ≤ length marks) × (length marks ≤ 1024)
  marks-fit = (omega (arith, k.within, so.vertices), omega (arith, k.within, k.enter.held.long), omega (arith, k.enter.held.long, so.vertices))

  pub level-marked : to ≤ length marks
  level-marked = omega (arith, k.enter.stops, level-within p l, so.total, k.enter.held.long)

  pub rows-joinable : Joinable vias first ends
  rows-joinable = rw k.enter.kinds (joinable so k.enter.near)

  -- the tables once made
  pub made : {before after counts : List ℕ} → length before ≡ 1024 → length after ≡ 1024 → length counts ≡ 1024
      → ((q ≡ 3 → ⊥) → (u : ℕ) → start ≤ u → u < to → get_or marks u false ≡ true → TablesMade low high start to vias first ends before after counts marks)
      → Levelling q start to vias (work first ends w.sums before after counts w.at w.apart marks) m
  made {before} {after} {counts} e f g tables = record {
    enter = k.enter;
    tables = λ a. let t = tables a.not_third a.via (omega (arith, k.enter.starts, a.on.from)) (omega (arith, k.enter.stops, a.on.to)) a.unsettled in record {
      low = low;
      high = high;
      range = k.range;
      left = λ v o. t.lefts v (omega (arith, k.enter.starts, o.from)) (omega (arith, k.enter.stops, o.to)) ∙ rw (k.enter.kinds, k.enter.starts);
      right = λ v o. t.rights v (omega (arith, k.enter.starts, o.from)) (omega (arith, k.enter.stops, o.to)) ∙ rw (k.enter.kinds, k.enter.stops);
      counted = t.numbers;
      lefts = omega (arith, so.vertices);
      rights = omega (arith, so.vertices);
      numbers = omega (arith, so.vertices);
    };
  }
