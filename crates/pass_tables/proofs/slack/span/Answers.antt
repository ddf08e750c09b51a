use Rattle.std.proofs.Common.{◌≡◌, ◌+◌, ◌-◌, ◌≤◌, ◌<◌, ℕ, zero, suc, refl, ◌∙◌, List, length, take, drop, get_or, sum, arith, rules, add-one, length-drop}
use Rattle.std.proofs.lemmas.List.{get_or-drop}
use Rattle.std.proofs.lemmas.List.Sums.{sum_by_more}
use Rattle.pass_tables.specs.inner.Tables.{total}
use Rattle.pass_tables.proofs.SumsMade.{total-high}
use Rattle.pass_tables.proofs.slack.span.Goals as goal

part : (xs : List ℕ) (v n : ℕ) → v + n ≤ length xs → sum (take n (drop v xs)) ≡ total (λ (i : ℕ). get_or xs (v + i) 0) n
unfolding total
part xs v zero h = refl
part xs v (suc n) h =
    let k : n < length (drop v xs) = omega (arith, length-drop v xs) in
    let e : sum (take (suc n) (drop v xs)) ≡ sum (take n (drop v xs)) + get_or (drop v xs) n 0 = rw add-one at (sum_by_more (λ x. x) (drop v xs) n 0 k) in
    omega (arith, e, get_or-drop v xs n 0, part xs v n (omega arith))

pub sum-requires-clause-fits : goal.sum-requires-clause-fits
sum-requires-clause-fits c =
    let h : sum (take (c.args.w - c.args.v) (drop c.args.v c.args.doubled.now)) < 18446744073709551616 =
    omega (arith, part c.args.doubled.now c.args.v (c.args.w - c.args.v) (omega arith), total-high (λ (i : ℕ). get_or c.args.doubled.now (c.args.v + i) 0) 1000 (c.args.w - c.args.v) (λ i. c.requires.3 (c.args.v + i))) in
    search rules

pub returns : goal.returns
returns c =
    let e : c.sum.result ≡ sum (take (c.args.w - c.args.v) (drop c.args.v c.args.doubled.now)) = search rules in
    let f = e ∙ part c.args.doubled.now c.args.v (c.args.w - c.args.v) (omega arith) in
    (f, omega (arith, f, total-high (λ (i : ℕ). get_or c.args.doubled.now (c.args.v + i) 0) 1000 (c.args.w - c.args.v) (λ i. c.requires.3 (c.args.v + i))))
