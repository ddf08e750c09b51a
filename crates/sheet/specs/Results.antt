-- What a call gives.
use Rattle.std.specs.Prelude.{cond, ℕ, eqb}
use Rattle.ints.specs.Refusals.{Verdict, gives, refuses}

-- What a call gives whose tests came out as n.
abbrev pub result_after : {A : Type 0} → ℕ → A → Verdict A
result_after n a = cond (eqb n 0) (gives a) (refuses n)
