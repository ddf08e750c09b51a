-- `script_words::parts::end_of` meets its contract: the part ends at the first separator from `from` on.
use Rattle.std.proofs.Common.{◌-◌, eqb, rules, tests, ap, ◌∙◌, sym, length, take, drop}
use Rattle.std.specs.List.{position}
use Rattle.std.proofs.lemmas.Iterator.{YieldsList-from_slice}
use Rattle.std.proofs.lemmas.Iterator.Search.{position_from_yields_List}
use Rattle.script_words.proofs.PartLaws.{rest, ends_at, ends_nowhere}
use Rattle.script_words.proofs.parts.end_of.Goals as goal

pub returns-in-Some : goal.returns-in-Some
returns-in-Some c =
    let a = c.args in
    let e = position_from_yields_List (λ b. eqb b a.sep) _ _ c.position.result c.position.ensures.ran
    (YieldsList-from_slice (take (length a.s.now - a.from) (drop a.from a.s.now)) c.iter.ensures.rest) (λ x b q k. search (rules, tests)) in
    let p = ap (position (λ b. eqb b a.sep)) (rest a.from a.s.now) in
    ends_at a.sep a.s.now a.from c.requires c.in-Some.n (sym p ∙ sym e ∙ c.in-Some.is)

pub returns-in-None : goal.returns-in-None
returns-in-None c =
    let a = c.args in
    let e = position_from_yields_List (λ b. eqb b a.sep) _ _ c.position.result c.position.ensures.ran
    (YieldsList-from_slice (take (length a.s.now - a.from) (drop a.from a.s.now)) c.iter.ensures.rest) (λ x b q k. search (rules, tests)) in
    let p = ap (position (λ b. eqb b a.sep)) (rest a.from a.s.now) in
    ends_nowhere a.sep a.s.now a.from c.requires (sym p ∙ sym e ∙ c.in-None.is)
