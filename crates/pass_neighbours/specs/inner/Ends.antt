-- Which ends of the segments a pass starts from.
use Rattle.std.specs.Prelude.{cond, List, ℕ, eqb}

-- The ends of the segments from which pass q sees the others as neighbours: the upper ones in pass 2, the lower ones else,
abbrev pub own_ends : ℕ → List ℕ → List ℕ → List ℕ
own_ends q uppers lowers = cond (eqb q 2) uppers lowers

-- and those others, on the preceding level.
abbrev pub far_ends : ℕ → List ℕ → List ℕ → List ℕ
far_ends q uppers lowers = cond (eqb q 2) lowers uppers
