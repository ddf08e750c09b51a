use borrow.Author.Tests.{tests}
use Rattle.std.proofs.Common.{◌≡◌, ℕ, ◌-◌, ◌≤◌, ◌<◌, Bool, List, Option, None, Some, true, false, get_or, sym, ◌∙◌, rules, arith}
use Rattle.std.proofs.lemmas.Iterator.{first_from_Range}
use Rattle.std.specs.Option.{MatchOption, unwrap_or}
use Rattle.pass_tables.specs.inner.Tables.{next_via}
use Rattle.pass_tables.proofs.RunLaws.{next-is}
use Rattle.pass_tables.proofs.runs.run_end.Goals as goal

-- the first via, or the end
found : (vias : List Bool) (v to : ℕ) (r : Option ℕ) → v ≤ to
    → MatchOption r ((k : ℕ) → v ≤ k → k < to → get_or vias k false ≡ false)
    (λ i. (v ≤ i) × (i < to) × (get_or vias i false ≡ true) × ((k : ℕ) → v ≤ k → k < i → get_or vias k false ≡ false))
    → unwrap_or r to ≡ next_via vias v (to - v)
found vias v to None h m = sym (next-is vias v (to - v) to h (omega arith) m (λ k. absurd (omega arith)))
found vias v to (Some i) h m = sym (next-is vias v (to - v) i m.0 (omega arith) m.3 (λ k. m.2))

pub returns : goal.returns
returns c = let via = λ (i : ℕ). get_or c.args.vias.now i false ≡ true in
    let box = λ (i : ℕ). get_or c.args.vias.now i false ≡ false in
    c.unwrap_or.ensures ∙ found c.args.vias.now c.args.from c.args.to c.find.result c.requires.0
    (first_from_Range _ _ _ c.find.result via box c.find.ensures.ran (λ x q k. search (rules, tests)) (λ x q k. search (rules, tests)))
