-- The checks come in the order of `checks_of`, and check 3 makes every end a vertex, which checks 5 and 6 ask for.
use Rattle.std.proofs.Common.{◌≡◌, Bool, true, false, cond, sym, ◌∙◌, refl}
use Rattle.ints.specs.Refusals.{first_refusal}
use Rattle.plan.specs.Checks.{check3, check4, check5, check6, checks_of}
use Rattle.plan.specs.Plan.{PlanData}
use Rattle.plan.specs.inner.Graph.{graph_of}
use Rattle.plan.proofs.GraphLaws.{within_of}
use Rattle.plan_checks.proofs.checks.check_plan.Goals as goal

-- the number of the first that fails
by-tests : (p : PlanData) (a b c d : Bool) → a ≡ check3 p → b ≡ check4 p → c ≡ check5 p → d ≡ check6 p
    → cond a (cond b (cond c (cond d 0 6) 5) 4) 3 ≡ first_refusal (checks_of p)
unfolding first_refusal checks_of
by-tests p false b c d e f g h = rw (← e)
by-tests p true false c d e f g h = rw (← e, ← f)
by-tests p true true false d e f g h = rw (← e, ← f, ← g)
by-tests p true true true false e f g h = rw (← e, ← f, ← g, ← h)
by-tests p true true true true e f g h = rw (← e, ← f, ← g, ← h)

pub returns-then-not-check_levels : goal.returns-then-not-check_levels
returns-then-not-check_levels c =
    by-tests _ false (check4 _) (check5 _) (check6 _) (sym c.if-not-check_levels.true ∙ c.check_levels.ensures) refl refl refl

pub returns-then-not-check_order : goal.returns-then-not-check_order
returns-then-not-check_order c =
    let p = graph_of c.args.sizes.now c.args.vias.now c.args.uppers.now c.args.lowers.now in
    let passed : true ≡ check3 p = cc in
    by-tests p true false (check5 p) (check6 p) passed
    (sym c.if-not-check_order.true ∙ c.check_order.ensures c.args.sizes.now c.args.vias.now) refl refl

pub check_vias-requires : goal.check_vias-requires
check_vias-requires c = within_of c.args.sizes.now _ _ _ c.requires (sym c.check_levels.ensures ∙ c.if-not-check_levels.false)

pub returns-then-not-check_vias : goal.returns-then-not-check_vias
returns-then-not-check_vias c =
    by-tests _ true true false (check6 _) (sym c.if-not-check_levels.false ∙ c.check_levels.ensures)
    (sym c.if-not-check_order.false ∙ c.check_order.ensures c.args.sizes.now c.args.vias.now)
    (sym c.if-not-check_vias.true ∙ c.check_vias.ensures c.args.sizes.now) refl

pub check_inner-requires : goal.check_inner-requires
check_inner-requires c = within_of c.args.sizes.now _ _ _ c.requires (sym c.check_levels.ensures ∙ c.if-not-check_levels.false)

pub returns-then-not-check_inner : goal.returns-then-not-check_inner
returns-then-not-check_inner c =
    let three = sym c.if-not-check_levels.false ∙ c.check_levels.ensures in
    let four = sym c.if-not-check_order.false ∙ c.check_order.ensures c.args.sizes.now c.args.vias.now in
    by-tests _ true true true false three four (sym c.if-not-check_vias.false ∙ c.check_vias.ensures c.args.sizes.now)
    (sym c.if-not-check_inner.true ∙ c.check_inner.ensures c.args.sizes.now (sym three) (sym four))

pub returns : goal.returns
returns c =
    let three = sym c.if-not-check_levels.false ∙ c.check_levels.ensures in
    let four = sym c.if-not-check_order.false ∙ c.check_order.ensures c.args.sizes.now c.args.vias.now in
    by-tests _ true true true true three four (sym c.if-not-check_vias.false ∙ c.check_vias.ensures c.args.sizes.now)
    (sym c.if-not-check_inner.false ∙ c.check_inner.ensures c.args.sizes.now (sym three) (sym four))
