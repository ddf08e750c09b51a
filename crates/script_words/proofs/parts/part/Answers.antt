-- `script_words::parts::part` meets its contract: the library cuts a list into the same parts.
use Rattle.std.proofs.Common.{◌≡◌, List, [], ℕ, eqb, rules, tests, ap, ◌∙◌, get_or, refl, Option, Some, None, Bor}
use Rattle.std.specs.List.{slice_split, slice_get}
use Rattle.std.specs.Option.{option_map, unwrap_or}
use Rattle.std.proofs.lemmas.Option.{unwrap_or-slice_get}
use Rattle.std.proofs.lemmas.Iterator.Consumers.{nth_from_yields_List}
use Rattle.std.proofs.lemmas.Iterator.Splits.{YieldsList-from_slice_split}
use Rattle.script_words.proofs.PartLaws.{slice_split-parts}
use Rattle.script_words.proofs.parts.part.Goals as goal

-- what the part that is found holds, or the empty one
now : (r : Option (Bor (List ℕ))) (none : Bor (List ℕ)) → (unwrap_or r none).now ≡ unwrap_or (option_map (λ x. x.now) r) none.now
now None none = refl
now (Some x) none = refl

pub returns : goal.returns
returns c =
    let e : option_map (λ (x : Bor (List ℕ)). x.now) c.nth.result ≡ slice_get (slice_split (λ b. eqb b c.args.sep) c.args.s.now) c.args.k =
    nth_from_yields_List c.nth.result _ _ c.nth.ensures.ran (YieldsList-from_slice_split _ (λ b. eqb b c.args.sep) c.args.s.now c.split.ensures.rest c.split.ensures.done c.split.ensures.closure (λ x b q k. search (rules, tests))) in
    ap (λ (x : Bor (List ℕ)). x.now) c.unwrap_or.ensures ∙ now c.nth.result _
    ∙ ap (λ o. unwrap_or o []) e ∙ unwrap_or-slice_get (slice_split (λ b. eqb b c.args.sep) c.args.s.now) c.args.k []
    ∙ ap (λ (xs : List (List ℕ)). get_or xs c.args.k []) (slice_split-parts c.args.sep c.args.s.now)
