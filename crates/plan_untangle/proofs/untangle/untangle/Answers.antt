-- `plan_untangle::untangle::untangle` meets its contract: the parts of the working arrays that are lent are as long as the data.
use mathlib.Core.Bool.{Bool}
use mathlib.Core.List.{List}
use Prim.Native.Nat.{ℕ}
use Rattle.plan_untangle.specs.inner.Ordering.{SomeTangled}
use mathlib.Core.Path.{sym}
use lib.Seq.{length-take-le}
use Rattle.plan.specs.inner.Graph.{Within}
use Rattle.plan_untangle.proofs.Arrays.{at_least}
use Rattle.plan_untangle.proofs.Whole.{tangled-within}
use Rattle.plan_untangle.proofs.untangle.untangle.Goals as goal

within : {sizes : List ℕ} {vias : List Bool} {uppers lowers : List ℕ} → SomeTangled sizes vias uppers lowers → Within vias uppers lowers
within s = tangled-within s.plan _ _ _ _ s.lists

pub slice_bounds-turn-end : goal.slice_bounds-turn-end
slice_bounds-turn-end c = (within c.requires.0).vertices

pub slice_bounds-untangle_by-end : goal.slice_bounds-untangle_by-end
slice_bounds-untangle_by-end c = sym (length-take-le _ _ (within c.requires.0).vertices)

pub slice_bounds-upper-end : goal.slice_bounds-upper-end
slice_bounds-upper-end c = (within c.requires.0).vertices

pub slice_bounds-untangle_by-end-2 : goal.slice_bounds-untangle_by-end-2
slice_bounds-untangle_by-end-2 c = sym (length-take-le _ _ (within c.requires.0).vertices)

pub slice_bounds-places-end : goal.slice_bounds-places-end
slice_bounds-places-end c = (within c.requires.0).vertices

pub slice_bounds-untangle_by-end-3 : goal.slice_bounds-untangle_by-end-3
slice_bounds-untangle_by-end-3 c = sym (length-take-le _ _ (within c.requires.0).vertices)

pub slice_bounds-codes-end : goal.slice_bounds-codes-end
slice_bounds-codes-end c = (within c.requires.0).vertices

pub slice_bounds-untangle_by-end-4 : goal.slice_bounds-untangle_by-end-4
slice_bounds-untangle_by-end-4 c = sym (length-take-le _ _ (within c.requires.0).vertices)

pub slice_bounds-keys-end : goal.slice_bounds-keys-end
slice_bounds-keys-end c = (within c.requires.0).segments

pub slice_bounds-untangle_by-end-5 : goal.slice_bounds-untangle_by-end-5
slice_bounds-untangle_by-end-5 c = sym (length-take-le _ _ (within c.requires.0).segments)

pub slice_bounds-flags-end : goal.slice_bounds-flags-end
slice_bounds-flags-end c = (within c.requires.0).vertices

pub slice_bounds-untangle_by-end-6 : goal.slice_bounds-untangle_by-end-6
slice_bounds-untangle_by-end-6 c = sym (length-take-le _ _ (within c.requires.0).vertices)

pub untangle_by-requires : goal.untangle_by-requires
untangle_by-requires c =
    let pre = c.requires in
    let w = within c.requires.0 in (
      pre.0,
      record {
        tables = record {
          order_long = pre.1.numbers_long;
          turns_long = length-take-le _ _ w.vertices;
          uppers_long = length-take-le _ _ w.vertices;
          places_long = length-take-le _ _ w.vertices;
          enough = at_least _ _ (length-take-le _ _ w.vertices);
        };
        halves_long = pre.1.halves_long;
        rated = pre.1.rated;
        keys_long = length-take-le _ _ w.segments;
        flags_long = length-take-le _ _ w.vertices;
      },
    )

pub returns : goal.returns
returns c = c.untangle_by.ensures
