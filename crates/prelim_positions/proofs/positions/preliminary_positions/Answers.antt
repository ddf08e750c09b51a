use Rattle.std.proofs.Common.{ℕ, sym, length, replicate, ℤ, pos, length-take-le}
use Rattle.std.proofs.lemmas.List.{take-replicate}
use Rattle.prelim_positions.proofs.PositionLaws.{plan-few}
use Rattle.prelim_positions.proofs.positions.preliminary_positions.Goals as goal

pub slice_bounds-next-end : goal.slice_bounds-next-end
slice_bounds-next-end c = plan-few _ _ _ _ _ _ c.requires.0

pub slice_bounds-positions_in-end : goal.slice_bounds-positions_in-end
slice_bounds-positions_in-end c = sym (length-take-le _ (replicate 1024 2048) (plan-few _ _ _ _ _ _ c.requires.0))

pub slice_bounds-top-end : goal.slice_bounds-top-end
slice_bounds-top-end c = plan-few _ _ _ _ _ _ c.requires.0

pub slice_bounds-positions_in-end-2 : goal.slice_bounds-positions_in-end-2
slice_bounds-positions_in-end-2 c = sym (length-take-le _ (replicate 1024 2048) (plan-few _ _ _ _ _ _ c.requires.0))

pub slice_bounds-order-end : goal.slice_bounds-order-end
slice_bounds-order-end c = plan-few _ _ _ _ _ _ c.requires.0

pub slice_bounds-positions_in-end-3 : goal.slice_bounds-positions_in-end-3
slice_bounds-positions_in-end-3 c = sym (length-take-le _ (replicate 1024 0) (plan-few _ _ _ _ _ _ c.requires.0))

pub slice_bounds-right-end : goal.slice_bounds-right-end
slice_bounds-right-end c = plan-few _ _ _ _ _ _ c.requires.0

pub slice_bounds-positions_in-end-4 : goal.slice_bounds-positions_in-end-4
slice_bounds-positions_in-end-4 c = sym (length-take-le _ (replicate 1024 0) (plan-few _ _ _ _ _ _ c.requires.0))

pub slice_bounds-classes-end : goal.slice_bounds-classes-end
slice_bounds-classes-end c = plan-few _ _ _ _ _ _ c.requires.0

pub slice_bounds-positions_in-end-5 : goal.slice_bounds-positions_in-end-5
slice_bounds-positions_in-end-5 c = sym (length-take-le _ (replicate 1024 0) (plan-few _ _ _ _ _ _ c.requires.0))

pub slice_bounds-again-end : goal.slice_bounds-again-end
slice_bounds-again-end c = plan-few _ _ _ _ _ _ c.requires.0

pub slice_bounds-positions_in-end-6 : goal.slice_bounds-positions_in-end-6
slice_bounds-positions_in-end-6 c = sym (length-take-le _ (replicate 1024 0) (plan-few _ _ _ _ _ _ c.requires.0))

pub slice_bounds-other-end : goal.slice_bounds-other-end
slice_bounds-other-end c = plan-few _ _ _ _ _ _ c.requires.0

pub slice_bounds-positions_in-end-7 : goal.slice_bounds-positions_in-end-7
slice_bounds-positions_in-end-7 c = sym (length-take-le _ (replicate 1024 (pos 0)) (plan-few _ _ _ _ _ _ c.requires.0))

pub positions_in-requires-clause-room : goal.positions_in-requires-clause-room
positions_in-requires-clause-room c =
    let n = length c.args.vias.now in
    let k = plan-few _ _ _ _ _ _ c.requires.0 in
    record {
      nexts = take-replicate n 1024 2048 k;
      tops = take-replicate n 1024 2048 k;
      left = record {
        orders = length-take-le {A = ℕ} n (replicate 1024 0) k;
        rights = length-take-le {A = ℕ} n (replicate 1024 0) k;
        unclassed = take-replicate n 1024 0 k;
        places = c.requires.1;
      };
      unclassed = take-replicate n 1024 0 k;
      others = length-take-le {A = ℤ} n (replicate 1024 (pos 0)) k;
    }
