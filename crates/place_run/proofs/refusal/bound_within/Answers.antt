use Rattle.std.proofs.Common.{rules, ◌≡◌, ◌∙◌, sym, true, Bool, ℤ}
use Rattle.std.specs.Prelude.{Option, None, Some}
use Rattle.std.specs.Option.{MatchOption}
use Rattle.ints.specs.Reach.{is_within, all_within}
use Rattle.ints.proofs.Tests.{and-true}
use Rattle.run.specs.Call.{positions_of}
use Rattle.place_run.proofs.refusal.bound_within.Goals as goal

by : (b : Option ℤ) (r : Bool) → MatchOption b (r ≡ true) (λ x. r ≡ is_within x) → r ≡ all_within (positions_of b)
unfolding all_within
by None r m = m
by (Some x) r m = m ∙ sym (and-true (is_within x))

pub returns : goal.returns
returns c =
    let r = c.is_none_or.result in
    let m : MatchOption c.args.bound (r ≡ true) (λ x. r ≡ is_within x) = search rules in by c.args.bound r m
