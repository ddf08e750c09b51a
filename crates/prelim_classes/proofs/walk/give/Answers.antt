use Rattle.std.proofs.Common.{◌≡◌, ◌∙◌, List, [], ◌∷◌, ℕ, refl, sym, fold, set}
use Rattle.preliminary.specs.Classes.{give}
use Rattle.prelim_classes.proofs.walk.give.Goals as goal

same : (c : ℕ) (vs xs : List ℕ) → give c vs xs ≡ fold (λ xs v. set xs v c) xs vs
unfolding give
same c [] xs = refl
same c (v ∷ vs) xs = same c vs (set xs v c)

pub returns : goal.returns
returns c = c.write.ensures ∙ sym (same c.args.c _ c.args.out.now)
