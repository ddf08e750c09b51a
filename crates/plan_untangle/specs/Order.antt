-- A tangled plan rearranged: "for each level from the second down, [it] rearranges the vias whose upper end is a via. They share
-- out the places that they held among themselves, in the order of their upper ends. All other vertices keep their places."
use Rattle.std.specs.Prelude.{Bool, ◌&&◌, List, ℕ, zero, suc, ◌-◌, eqb}
use Rattle.sorting.specs.Share.{share_out}
use Rattle.plan.specs.Plan.{PlanData, vertex_count, is_via, numbers, level_of}
use Rattle.plan.specs.Segments.{above}
use Rattle.plan.specs.Strands.{first_or}
use Rattle.plan_renumber.specs.Renumber.{place_in, renumbered}

-- The upper end of a via's one segment up.
abbrev pub upper_end : PlanData → ℕ → ℕ
upper_end p v = first_or v (above p v)

-- Whether v is on level l and one of those that share out their places.
abbrev pub shares : PlanData → ℕ → ℕ → Bool
shares p l v = eqb (level_of p v) l && is_via p v && is_via p (upper_end p v)

-- The vertices in their order after l levels, from the second down, were rearranged; each level by the order that the one above has by then.
unfoldable pub order_to : PlanData → ℕ → List ℕ
order_to p zero = numbers 0 (vertex_count p)
order_to p (suc l) =
    let m = order_to p l in
    share_out (shares p (suc (suc l))) (λ v. place_in m (upper_end p v)) m

unfoldable pub order : PlanData → List ℕ
order p = order_to p (p.levels - 1)

unfoldable pub untangled : PlanData → PlanData
untangled p = renumbered p (order p)
