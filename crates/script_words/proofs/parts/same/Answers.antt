-- `script_words::parts::same` meets its contract: `==` compares as `same` does, head by head.
use Rattle.std.proofs.Common.{◌≡◌, Bool, true, false, cond, ◌&&◌, List, [], ◌∷◌, ℕ, eqb, refl, rules, ◌∙◌, ap}
use Rattle.std.specs.Cmp.Lexicographic.{pointwise}
use Rattle.script_words.specs.Parts.{same}
use Rattle.script_words.proofs.parts.same.Goals as goal

and-cond : (a b : Bool) → (a && b) ≡ cond a b false
and-cond true b = refl
and-cond false b = refl

pointwise-same : (s t : List ℕ) → pointwise eqb s t ≡ same s t
unfolding same
pointwise-same [] [] = refl
pointwise-same [] (c ∷ t) = refl
pointwise-same (b ∷ s) [] = refl
pointwise-same (b ∷ s) (c ∷ t) = ap (λ m. eqb b c && m) (pointwise-same s t) ∙ and-cond (eqb b c) (same s t)

pub returns : goal.returns
returns c =
    let e : c.eq.result ≡ pointwise eqb c.args.a.now c.args.b.now = search rules in
    e ∙ pointwise-same c.args.a.now c.args.b.now
