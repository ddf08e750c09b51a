-- `pass_visits::pass::any_marked`: where `any` finds none, each vertex of the range has no mark.
use Rattle.std.proofs.Common.{arith, rules, ◌≡◌, ℕ, ◌-◌, refl, ◌∙◌, true, false, get_or, length}
use Rattle.std.specs.List.{range_with_len, AllWithin}
use Rattle.std.proofs.lemmas.Iterator.{cases_from_any, YieldsList-from_range}
use Rattle.std.proofs.lemmas.List.FromFn.{length-range_with_len, get_or-range_with_len}
use Rattle.pass_visits.proofs.pass.any_marked.Goals as goal

pub returns : goal.returns
returns c e v h k =
    let ms = c.args.marks.now in
    let from = c.args.from in
    let n = c.args.to - from in
    let vs = range_with_len from n in
    let cases = cases_from_any _ _ _ (λ (u : ℕ). get_or ms u false ≡ true) (λ (u : ℕ). get_or ms u false ≡ false) c.any.ensures.ran (YieldsList-from_range from c.args.to n refl refl) (λ x q j. search rules) (λ x q j. search rules) in
    let none : AllWithin (λ (u : ℕ). get_or ms u false ≡ false) vs 0 (length vs) = rw e at cases in
    let i : get_or vs (v - from) 0 ≡ v = get_or-range_with_len from n (v - from) 0 (omega arith) ∙ omega arith in
    rw i at (none (v - from) 0 (omega arith) (omega (arith, length-range_with_len from n)))
