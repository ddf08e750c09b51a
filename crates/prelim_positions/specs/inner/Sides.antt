-- What one side gives, and the lists that the program works on.
use Rattle.std.specs.Prelude.{Bool, List, ◌≡◌, ℕ, length, replicate, ℤ}
use Rattle.ints.specs.Ints.{SizedTo}
use Rattle.plan.specs.Plan.{PlanData}
use Rattle.preliminary.specs.Positions.{positions_on}
use Rattle.prelim_classes.specs.inner.Strands.{StrungPlan}
use Rattle.prelim_classes.specs.inner.Arranged.{levels_by}

-- The positions on levels in the order in hand.
pub record SideIs (reversed : Bool) (gap : ℕ) (sizes halves next top uppers lowers : List ℕ) (xs : List ℤ) : Type 0 where
  pub small : SizedTo 33312000 xs
  pub each : (p : PlanData) → StrungPlan p gap sizes halves next top uppers lowers → xs ≡ positions_on p (levels_by reversed 0 sizes)

-- Lists of n entries for one side, as they begin.
pub record SideRoom (n : ℕ) (order right classes : List ℕ) (xs : List ℤ) : Type 0 where
  pub orders : length order ≡ n
  pub rights : length right ≡ n
  pub unclassed : classes ≡ replicate n 0
  pub places : length xs ≡ n

-- Lists of n entries for the strands and for both sides.
pub record Room (n : ℕ) (next top order right classes again : List ℕ) (xs ys : List ℤ) : Type 0 where
  pub nexts : next ≡ replicate n 2048
  pub tops : top ≡ replicate n 2048
  pub left : SideRoom n order right classes xs
  pub unclassed : again ≡ replicate n 0
  pub others : length ys ≡ n
