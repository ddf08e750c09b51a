-- What the program tests, said of the numbers and lists that it reads.
use Rattle.std.specs.Prelude.{Bool, true, false, cond, ◌&&◌, List, [], ◌∷◌, ℕ, ◌+◌, ◌-◌, eqb, leb, ltb, length, get_or, take, drop}
use Rattle.plan.specs.Limits.{within}
use Rattle.plan.specs.Plan.{PlanData}
use Rattle.plan.specs.Checks.{any}
use Rattle.report.specs.Refusal13.{same_numbers}
use Rattle.passes.specs.Runs.{Run, runs_of}
use Rattle.pass_tables.specs.inner.Tables.{next_via}

-- Whether a run starts at vertex `first` of a level that starts at `start`: there, or after a via.
abbrev pub starts_run : List Bool → ℕ → ℕ → Bool
starts_run vias start first = cond (eqb first start) true (get_or vias (first - 1) false)

-- Whether a run with `count` boxes starts at `first`, on a level from `start` up to `to`.
abbrev pub is_whole : List Bool → ℕ → ℕ → ℕ → ℕ → Bool
is_whole vias start to first count =
    leb start first && ltb first to && starts_run vias start first && eqb (next_via vias first (to - first)) (first + count)

-- Whether vs are the boxes of a nonempty run on level l.
unfoldable pub is_run_on : PlanData → ℕ → List ℕ → Bool
is_run_on p l vs = leb 1 (length vs) && any (λ (r : Run). eqb l r.level && same_numbers vs r.boxes) (runs_of p)

-- Whether each listed placing is of a pass and of a run.
unfoldable pub are_placings : PlanData → List ℕ → List ℕ → List ℕ → List ℕ → Bool
are_placings p [] ls cs vs = true
are_placings p (q ∷ qs) [] cs vs = true
are_placings p (q ∷ qs) (l ∷ ls) [] vs = true
are_placings p (q ∷ qs) (l ∷ ls) (c ∷ cs) vs =
    let more = are_placings p qs ls cs (drop c vs) in
    cond (within 1 3 q && is_run_on p l (take c vs)) more false
