use Rattle.text_write.proofs.LineLaws.{lines-count, text-none, text-more, text-room, text-all}
use Rattle.plan.specs.Plan.{data_of, PlanData}
use Rattle.plan.proofs.LimitLaws.{limits}
use Rattle.text.specs.Writing.{lines_of}
use Rattle.plan.specs.inner.Graph.{InLimits}
use lib.ListN.{length}
use Prim.Native.Nat.{◌+◌}
use native.Mathlib.Omega.{arith}
use mathlib.Core.Bool.{true}
use mathlib.Core.Path.{◌≡◌}
use Rattle.plan.specs.Acceptable.{limits_hold}
use Rattle.text_write.proofs.lines.text.Goals as goal

few : (p : PlanData) → limits_hold p ≡ true → InLimits p.sizes p.vias p.uppers p.lowers
few p h = (limits p h).lists

count : (p : PlanData) → limits_hold p ≡ true → length (lines_of p) ≡ length p.sizes + length p.uppers + 2
count p h = let l = limits p h in lines-count p (l.ends_long, l.ratings_long)

pub overflow_add-lines : goal.overflow_add-lines
overflow_add-lines c = omega (arith, few _ c.requires.0)

pub overflow_add-lines-2 : goal.overflow_add-lines-2
overflow_add-lines-2 c = omega (arith, few _ c.requires.0)

pub loop-n-init : goal.loop-n-init
loop-n-init c = text-none (data_of c.args.levels c.args.gap c.args.spacing c.args.sizes.now c.args.vias.now c.args.halves.now c.args.uppers.now c.args.lowers.now c.args.ratings.now) c.args.out.now

pub put_line-at-requires : goal.put_line-at-requires
put_line-at-requires c = text-room _ c.loop-n.n c.requires.0 c.requires.1 (omega (arith, count _ c.requires.0)) c.loop-n.invariant

pub loop-n-preserved : goal.loop-n-preserved
loop-n-preserved c = text-more _ c.loop-n.n (omega (arith, count _ c.requires.0)) c.loop-n.invariant c.put_line-at.ensures

pub returns : goal.returns
returns c = text-all _ c.loop-n.n c.requires.1 (omega (arith, count _ c.requires.0)) c.loop-n.invariant
