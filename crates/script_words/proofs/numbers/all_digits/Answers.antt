-- `script_words::numbers::all_digits` meets its contract: the library asks each byte, as `every` does.
use Rattle.std.proofs.Common.{◌≡◌, Bool, true, false, cond, ◌&&◌, List, [], ◌∷◌, ℕ, refl, ◌∙◌, ap, rules, tests}
use Rattle.std.specs.List.{list_all}
use Rattle.std.proofs.lemmas.Iterator.{YieldsList-from_slice}
use Rattle.std.proofs.lemmas.Iterator.Search.{all_from_yields_List}
use Rattle.plan.specs.Checks.{every}
use Rattle.text.specs.Parser.{is_digit}
use Rattle.script_words.proofs.numbers.all_digits.Goals as goal

and-cond : (a b : Bool) → (a && b) ≡ cond a b false
and-cond true b = refl
and-cond false b = refl

all_every : (p : ℕ → Bool) (xs : List ℕ) → list_all p xs ≡ every p xs
unfolding every
all_every p [] = refl
all_every p (x ∷ xs) = ap (λ m. p x && m) (all_every p xs) ∙ and-cond (p x) (every p xs)

pub returns : goal.returns
returns c =
    let e = all_from_yields_List is_digit _ _ c.all.result c.all.ensures.ran (YieldsList-from_slice c.args.word.now c.iter.ensures.rest) (λ x b q k. search (rules, tests)) in
    e ∙ all_every is_digit c.args.word.now
