use Rattle.std.proofs.Common.{◌≡◌, ℕ, ℤ, ◌+◌, ◌-◌, ◌++◌, get_or, take}
use Rattle.passes.specs.State.{position_of}
use Rattle.pass_tables.specs.inner.Tables.{along}
use Rattle.pass_place.proofs.request.neighbour_positions.Given as goal

abbrev pub invariant-loop-i : goal.invariant-loop-i
invariant-loop-i l =
    let f : ℕ → ℤ = λ j. position_of l.at (get_or l.ends (l.from + j) 0) in
    take l.i l.near ++ along f l.i (l.n - l.i) ≡ along f 0 l.n
