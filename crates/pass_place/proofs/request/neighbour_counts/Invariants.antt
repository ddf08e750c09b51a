use Rattle.std.proofs.Common.{◌≡◌, ℕ, ◌+◌, ◌-◌, ◌++◌, get_or, take}
use Rattle.pass_tables.specs.inner.Tables.{along}
use Rattle.pass_place.proofs.request.neighbour_counts.Given as goal

abbrev pub invariant-loop-i : goal.invariant-loop-i
invariant-loop-i l =
    let f : ℕ → ℕ = λ j. get_or l.first (l.from + j + 1) 0 - get_or l.first (l.from + j) 0 in
    take l.i l.counts ++ along f l.i (l.n - l.i) ≡ along f 0 l.n
