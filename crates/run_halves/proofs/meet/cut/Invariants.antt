use Rattle.std.proofs.Common.{◌≡◌, ◌++◌, map, take, drop}
use Rattle.ints.specs.Ints.{min_z}
use Rattle.run_halves.proofs.meet.cut.Given as goal

abbrev pub invariant-loop-x : goal.invariant-loop-x
invariant-loop-x l = take l.x-index l.z ++ map (λ x. min_z x l.m) (drop l.x-index l.z) ≡ map (λ x. min_z x l.m) l.fn.z
