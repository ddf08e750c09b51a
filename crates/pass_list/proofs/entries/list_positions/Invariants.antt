use Rattle.std.proofs.Common.{◌≡◌, ◌-◌, length, take, drop}
use Rattle.pass_list.proofs.entries.list_positions.Given as goal

abbrev pub invariant-loop-i : goal.invariant-loop-i
invariant-loop-i l = record { many : length l.z-items ≡ l.end - l.start; written : take l.i l.z-items ≡ take l.i (drop l.from l.at) }
