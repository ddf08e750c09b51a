-- Run coordinates: each position less the distances before its box.
use Rattle.std.specs.Prelude.{cond, List, [], ◌∷◌, map, ℕ, ◌+◌, ℤ, pos, ◌-ℤ◌, ◌+ℤ◌}
use Rattle.std.specs.Int.Signed.{lt_z}
use Rattle.run.specs.Run.{Bound, free, at, Lead, Box}

abbrev pub less : ℕ → ℤ → ℤ
less o n = n -ℤ pos o

unfoldable pub count_up_to : ℤ → List ℤ → ℕ
count_up_to m [] = 0
count_up_to m (n ∷ ns) = cond (lt_z m n) 0 1 + count_up_to m ns

-- The ratings of the neighbours at or left of m.
unfoldable pub rated_up_to : ℤ → List Lead → ℕ
rated_up_to m [] = 0
rated_up_to m (n ∷ ns) = cond (lt_z m n.at) 0 n.rating + rated_up_to m ns

abbrev pub less_lead : ℕ → Lead → Lead
less_lead o n = record { at = less o n.at; rating = n.rating }

abbrev pub less_box : ℕ → Box → Box
less_box o b = record { old = less o b.old; near = map (less_lead o) b.near; dist = b.dist }

unfoldable pub in_run : ℕ → List Box → List Box
in_run o [] = []
in_run o (b ∷ bs) = less_box o b ∷ in_run (o + b.dist) bs

unfoldable pub add_offsets : ℕ → List Box → List ℤ → List ℤ
add_offsets o [] zs = []
add_offsets o (b ∷ bs) [] = []
add_offsets o (b ∷ bs) (z ∷ zs) = (z +ℤ pos o) ∷ add_offsets (o + b.dist) bs zs

abbrev pub left_limit : Bound → ℕ → Bound
left_limit free d = free
left_limit (at l) d = at (l +ℤ pos d)

abbrev pub right_limit : Bound → ℕ → Bound
right_limit free w = free
right_limit (at r) w = at (r -ℤ pos w)
