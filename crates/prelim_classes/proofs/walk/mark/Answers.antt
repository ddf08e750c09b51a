use Rattle.std.proofs.Common.{◌≡◌, ◌∙◌, List, [], ◌∷◌, ℕ, Bool, true, refl, sym, fold, set}
use Rattle.preliminary.specs.Place.{mark_all}
use Rattle.prelim_classes.proofs.walk.mark.Goals as goal

same : (vs : List ℕ) (xs : List Bool) → mark_all vs xs ≡ fold (λ xs v. set xs v true) xs vs
unfolding mark_all
same [] xs = refl
same (v ∷ vs) xs = same vs (set xs v true)

pub returns : goal.returns
returns c = c.write.ensures ∙ sym (same _ c.args.begun.now)
