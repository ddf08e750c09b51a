-- Tests that refuse by their numbers, in the order in which they are asked: "a refusal returns its number".
use Rattle.std.specs.Prelude.{Bool, true, false, cond, not, List, [], ◌∷◌, ℕ, eqb, Result, Ok, Err}
use Rattle.ints.specs.declared.refusal.Refusal.{Refusal}
use Rattle.ints.specs.declared.refusal.Refusal.TheVariants.{Form, Limit, Ends, Order, Via, Crossing, Missing, Run, Empty, Undrawn, Unsound, Room, Untangled}

-- A test that refuses by its number, and a check, which refuses unless it is passed.
pub record Test : Type 0 where
  pub number : ℕ
  pub refuses : Bool

abbrev pub test : ℕ → Bool → Test
test n b = record { number = n; refuses = b }

abbrev pub check : ℕ → Bool → Test
check n passed = test n (not passed)

-- The number of the first test that refuses; 0 if none does.
unfoldable pub first_refusal : List Test → ℕ
first_refusal [] = 0
first_refusal (t ∷ ts) =
    let more = first_refusal ts in
    cond t.refuses t.number more

-- Whether m is the number of the first test that refuses: a test by m refuses, and none before it does.
unfoldable pub is_first : ℕ → List Test → Bool
is_first m [] = false
is_first m (t ∷ ts) =
    let more = is_first m ts in
    cond t.refuses (eqb t.number m) more

-- Whether no test refuses.
unfoldable pub none_refuses : List Test → Bool
none_refuses [] = true
none_refuses (t ∷ ts) =
    let more = none_refuses ts in
    cond t.refuses false more

-- The number of each refusal.
abbrev pub number_of : Refusal → ℕ
number_of Form = 1
number_of Limit = 2
number_of Ends = 3
number_of Order = 4
number_of Via = 5
number_of Crossing = 6
number_of Missing = 7
number_of Run = 8
number_of Empty = 11
number_of Undrawn = 12
number_of Unsound = 13
number_of Room = 14
number_of Untangled = 15

-- The number of what may be refused; 0 if it is not.
abbrev pub refused_by : {A : Type 0} → Result A Refusal → ℕ
refused_by (Ok a) = 0
refused_by (Err r) = number_of r

-- A value, or "a refusal returns its number".
pub data Verdict (A : Type 0) : Type 0 where
  gives : A → Verdict A
  refuses : ℕ → Verdict A

abbrev pub verdict_of : {A : Type 0} → Result A Refusal → Verdict A
verdict_of (Ok a) = gives a
verdict_of (Err r) = refuses (number_of r)
