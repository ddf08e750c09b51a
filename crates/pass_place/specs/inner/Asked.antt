-- A run as it lies in what the passes hold, and as "Placing one run" takes it: its level stands from `start` up to `to`, its boxes
-- from `from` up to `end`.
use Rattle.std.specs.Prelude.{cond, ◌&&◌, List, ◌≡◌, ℕ, ◌+◌, ◌-◌, ◌<◌, ◌≤◌, ltb, length, get_or, take, drop, ℤ, Option, None, Some}
use Rattle.ints.specs.Ints.{size, ◌⊑◌}
use Rattle.plan.specs.Plan.{numbers}
use Rattle.plan.specs.inner.Graph.{Below}
use Rattle.passes.specs.State.{position_of, take_on}
use Rattle.pass_tables.specs.inner.Tables.{along}
use Rattle.run.specs.Call.{Request}
use Rattle.run_columns.specs.inner.Sums.{ratings_between}
use Rattle.place_run.specs.inner.Requests.{request_of}

-- Its first member, and one past its last: a via stands wherever the boxes do not reach the level's end.
abbrev pub low_of : ℕ → ℕ → ℕ
low_of start from = cond (ltb start from) (from - 1) from

abbrev pub high_of : ℕ → ℕ → ℕ
high_of end to = cond (ltb end to) (end + 1) end

-- Its bounds, where everything stands at xs.
abbrev pub left_of : ℕ → ℕ → List ℤ → Option ℤ
left_of start from xs = cond (ltb start from) (Some (position_of xs (from - 1))) None

abbrev pub right_of : ℕ → ℕ → List ℤ → Option ℤ
right_of end to xs = cond (ltb end to) (Some (position_of xs end)) None

-- A part of a list.
abbrev pub part : {A : Type 0} → ℕ → ℕ → List A → List A
part from to xs = take (to - from) (drop from xs)

-- How many neighbours each of n boxes from v on has, by where their rows start; where the n ends from k on stand.
abbrev pub counts_of : List ℕ → ℕ → ℕ → List ℕ
counts_of first v n = along (λ (i : ℕ). get_or first (v + i + 1) 0 - get_or first (v + i) 0) 0 n

abbrev pub near_of : List ℕ → List ℤ → ℕ → ℕ → List ℤ
near_of ends xs k n = along (λ (i : ℕ). position_of xs (get_or ends (k + i) 0)) 0 n

-- The ratings of the n row entries from k on, by the sums so far.
abbrev pub rates_of : List ℕ → ℕ → ℕ → List ℕ
rates_of sums k n = ratings_between (take (n + 1) (drop k sums))

-- How many neighbours the boxes from `from` up to `end` have in all.
abbrev pub rows_long : ℕ → ℕ → List ℕ → ℕ
rows_long from end first = get_or first end 0 - get_or first from 0

-- The run of these bounds and distances.
abbrev pub asked : Option ℤ → Option ℤ → List ℕ → ℕ → ℕ → List ℕ → List ℕ → List ℕ → List ℤ → Request
asked left right distances from end first ends sums xs =
    request_of left right (part from end xs) distances (counts_of first from (end - from))
    (near_of ends xs (get_or first from 0) (rows_long from end first)) (rates_of sums (get_or first from 0) (rows_long from end first))

-- The distances after its placing, where everything stands at xs then: an open run takes on those of its members.
abbrev pub taken_on : ℕ → ℕ → ℕ → ℕ → List ℤ → List ℕ → List ℕ
taken_on start from end to xs apart =
    cond (ltb start from && ltb end to) apart (take_on xs (numbers (low_of start from) (high_of end to - low_of start from)) apart)

-- The boxes from `from` up to `end` have their rows, and room in the arrays of the largest run.
pub record Rowed (from end : ℕ) (first ends sums : List ℕ) (xs : List ℤ) : Type 0 where
  pub order : from ≤ end
  pub boxes : end ≤ length xs
  pub few : end - from ≤ 64
  pub rows : end < length first
  pub rising : (v : ℕ) → v + 1 < length first → get_or first v 0 ≤ get_or first (v + 1) 0
  pub inside : get_or first end 0 ≤ length ends
  pub many : length ends ≤ 2048
  pub summed : length sums ≡ length ends + 1
  pub vertices : Below (length xs) ends

-- The members from `low` up to `high` stand in their order, everything within ±2^40.
pub record Standing (low high : ℕ) (xs : List ℤ) : Type 0 where
  pub order : low ≤ high
  pub members : high ≤ length xs
  pub near : (v : ℕ) → size (position_of xs v) ≤ 1099511627776
  pub climbing : (v : ℕ) → low ≤ v → v + 1 < high → position_of xs v ⊑ position_of xs (v + 1)
