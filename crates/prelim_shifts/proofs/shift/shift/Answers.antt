use Rattle.std.proofs.Common.{refl, replicate}
use Rattle.prelim_shifts.proofs.KeyLaws.{heads-none}
use Rattle.prelim_shifts.proofs.shift.shift.Goals as goal

pub bucket-requires-clause-by_index : goal.bucket-requires-clause-by_index
bucket-requires-clause-by_index c = heads-none (replicate 65 2048) refl
