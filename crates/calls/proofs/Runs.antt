-- Lists of calls: one list after another is run on the sheet that the first leaves.
use mathlib.Core.List.{List, [], ◌∷◌, ◌++◌}
use mathlib.Core.Path.{◌≡◌, refl, ap}
use Rattle.sheet.specs.declared.types.Sheet.{Sheet}
use Rattle.calls.specs.Run.{Asked, Answered, seen, made, run, leaves}

pub run-append : (qs rs : List Asked) (s : Sheet) → run (qs ++ rs) s ≡ run qs s ++ run rs (leaves qs s)
unfolding run leaves
run-append [] rs s = refl
run-append (q ∷ qs) rs s = ap (λ (later : List Answered). seen (made q s) ∷ later) (run-append qs rs (made q s).sheet)

pub leaves-append : (qs rs : List Asked) (s : Sheet) → leaves (qs ++ rs) s ≡ leaves rs (leaves qs s)
unfolding leaves
leaves-append [] rs s = refl
leaves-append (q ∷ qs) rs s = leaves-append qs rs (made q s).sheet
