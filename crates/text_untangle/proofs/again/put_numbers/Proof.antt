-- `text_untangle::again::put_numbers` meets its contract: the part that is lent is copied, and the rest is as it was.
use mathlib.Core.Path.{sym, ◌∙◌, ap}
use mathlib.Core.List.{List, ◌++◌}
use Prim.Native.Nat.{ℕ}
use borrow.Author.Rules.{rules}
use lib.ListN.{take, drop}
use lib.Seq.{length-take-le}
use Rattle.text_untangle.proofs.again.put_numbers.Statement.{statement}
use Rattle.text_untangle.proofs.again.put_numbers.Tie as tie

slice-aggregate-copy : tie.Need-slice_bounds-copy-end
slice-aggregate-copy c = sym (length-take-le _ _ c.requires.0)

slice-aggregate-copy-2 : tie.Need-slice_bounds-copy-end-3
slice-aggregate-copy-2 c = sym (length-take-le _ _ c.requires.1)

copy-requires : tie.Need-copy-requires
copy-requires c κs = length-take-le _ _ c.requires.1 ∙ sym (length-take-le _ _ c.requires.0)

returns : tie.Need-returns
returns c =
    let a = c.args in
    ap (λ (l : List ℕ). l ++ drop a.n a.out.now) c.copy.ensures
    ∙ ap (λ (k : ℕ). take a.n a.m.now ++ drop k a.out.now) (sym (length-take-le _ _ c.requires.0))

pub put_numbers_spec : {M : Type 1} → statement M
put_numbers_spec =
    tie.close
    (tie.spec slice-aggregate-copy (λ c. search rules) slice-aggregate-copy-2 copy-requires (λ c. search rules) returns)
